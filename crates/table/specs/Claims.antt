-- What is claimed of a table beside demand 3 (specs/Demand3). Quotes are from 01. Proofs: Formatted, Rows, Faithful,
-- Unread, Texts, Clauses, StillSound, SoundBytes, DPlaces, Shown, Tellable, Fair.
use Rattle.std.specs.Prelude.{◌≡◌, true, false, ◌↔◌, ◌⊎◌, ◌≢◌, List, [], ◌++◌, ℕ, ◌+◌, ◌*◌, ◌<◌, ◌≤◌, length, get_or}
use Rattle.std.specs.Prelude.{drop, Some, Ok, Err}
use Rattle.wire.specs.Limits.{most_text, most_slots}
use Rattle.wire.specs.Escape.{escape}
use Rattle.wire.specs.Field.{unsigned}
use Rattle.rows.specs.Rows.{text_row}
use Rattle.rows.specs.Strings.{part}
use Rattle.digest.specs.Digest.{digest}
use Rattle.shape.specs.Rows.{message_row}
use Rattle.shape.specs.Offsets.{plain_refusal}
use Rattle.text.specs.Event.{Event, serialise, is_fit, all}
use Rattle.text.specs.Read.{read, read_text, IsTextOf}
use Rattle.text.specs.Kinds.{replaceable, addressable, class_of, d_of, key_of, has_key}
use Rattle.text.specs.declared.Class.TheVariants.{Regular, Replaceable, Ephemeral, Addressable}
use Rattle.message.specs.Read.{read_of}
use Rattle.message.specs.declared.EventParts.{EventParts}
use Rattle.message.specs.declared.Message.TheVariants as message
use Rattle.event.specs.Lent.{said, text_of}
use Rattle.event.specs.Answer.{hex_of, offered_row}
use Rattle.law.specs.Lists.{◌∈◌}
use Rattle.law.specs.Table.{ephemeral, regular, keyed, verdict}
use Rattle.law.specs.Demand3.{run_on, ExchangesOn}
use Rattle.table.specs.Layout.{Held, Fits, slot_size, table_size, slot_place, count_place, capacity_of, count_of}
use Rattle.table.specs.Layout.{slot_size_of, first_slot_of, slot_at, is_byte, id_in, time_in, kind_in, length_in, d_in}
use Rattle.table.specs.Layout.{text_place, text_in, no_span, d_place, slot_bytes}
use Rattle.table.specs.Events.{SignedEvent, Signature, class_of_text, time_of_text, table_events, signed_events, in_slot}
use Rattle.table.specs.Events.{of_held, view}
use Rattle.table.specs.Sound.{slot_sound, sound_up_to, sound}
use Rattle.table.specs.Offer.{Offering, as_message, as_parts, is_event, message_offer_row, offering_row}
use Rattle.table.specs.Offer.{offering_refusal, is_valid, is_stored, judge, offered_by, answer_if, answer, offered_of}
use Rattle.table.specs.Offer.{slot_for, next}
use Rattle.table.specs.Format.{format_row, formatted, shown_row_if, shown_row, shown}
use Rattle.table.specs.Demand3.{relay, Fresh, Tells, AsParts}

-- ---- formatting
-- "A fresh table is one just formatted ..; its C is 0." It is sound and has the capacity asked for, and bytes after it
-- stay
abbrev pub FormattedFresh : Type 0
FormattedFresh = (N : ℕ) (b : List ℕ) → format_row N b ≡ 0 →
    (sound (formatted N b) ≡ true)
    × (view (formatted N b) ≡ [])
    × (capacity_of (formatted N b) ≡ N)
    × (count_of (formatted N b) ≡ 0)
    × (length (formatted N b) ≡ length b)
    × (drop (table_size N) (formatted N b) ≡ drop (table_size N) b)

-- "formatting tests 14 before 13"; on a refusal "every lent buffer stays as found"
pub record FormatRows (N : ℕ) (b : List ℕ) : Type 0 where
  pub capacity : (N < 1) ⊎ (most_slots < N) → format_row N b ≡ 14
  pub short : 1 ≤ N → N ≤ most_slots → length b < table_size N → format_row N b ≡ 13
  pub none : 1 ≤ N → N ≤ most_slots → table_size N ≤ length b → format_row N b ≡ 0
  pub stays : format_row N b ≢ 0 → formatted N b ≡ b

-- ---- the rows of an offer, in their order
-- "Where several hold, the lowest number is given": rows 1 to 10 first, whatever the table; then 11, before every
-- verdict; and "Verdicts of an offer after row 11"
pub record OfferRows (b : List ℕ) (o : Offering) : Type 0 where
  pub early : is_valid o ≡ false →
      (1 ≤ offering_row o) × (offering_row o ≤ 10) × (answer b o ≡ Err (offering_refusal o))
  pub unsound : is_valid o ≡ true → sound b ≡ false → answer b o ≡ Err (plain_refusal 11)
  pub judged : is_valid o ≡ true → sound b ≡ true →
      answer b o
      ≡ offered_by (plain_refusal 0) (verdict signed_events (capacity_of b) (view b) (Some (of_held (offered_of o))))

-- "Reading a message tests rows 1 to 8; offering one tests 1 to 12, .. and gives 5 also if it isn't an EVENT": 5 before
-- 6 to 8, after 1 to 4
pub record MessageRows (m : List ℕ) : Type 0 where
  pub text : text_row m ≢ 0 → message_offer_row m ≡ text_row m
  pub no_event : text_row m ≡ 0 → is_event m ≡ false → message_offer_row m ≡ 5
  pub refused : text_row m ≡ 0 → is_event m ≡ true → message_row m ≢ 0 → message_offer_row m ≡ message_row m

-- an EVENT that rows 1 to 8 let pass: "an event by 9 too, and by 10 when offered". As a message it is what its parts
-- are
pub record EventRows (m : List ℕ) (p : EventParts) : Type 0 where
  pub large : most_text < length (text_of m p.body) → message_offer_row m ≡ 9
  pub other_id : length (text_of m p.body) ≤ most_text → said m p.id ≢ hex_of (digest (text_of m p.body)) →
      message_offer_row m ≡ 10
  pub none : length (text_of m p.body) ≤ most_text → said m p.id ≡ hex_of (digest (text_of m p.body)) →
      message_offer_row m ≡ 0
  pub as_parts_lem : message_offer_row m ≡ offered_row m p
  pub same_event : judge (as_message m) ≡ judge (as_parts m p)

abbrev pub RowsInOrder : Type 0
RowsInOrder =
    ((b : List ℕ) (o : Offering) → OfferRows b o) × ((m : List ℕ) → MessageRows m) ×
    ((m : List ℕ) (p : EventParts) → read_of m ≡ Ok (message.Event p) → EventRows m p)

-- ---- offers
-- "every lent buffer stays as found" on a refusal, and where nothing is stored
abbrev pub Unchanged : Type 0
Unchanged = (b : List ℕ) (o : Offering) → is_stored (answer b o) ≡ false → next b o ≡ b

-- "A store writes only the bytes of the one slot it fills, and the count": byte i is neither
abbrev pub OtherBytes : Type 0
OtherBytes = (b : List ℕ) (o : Offering) (i : ℕ) → (i < count_place) ⊎ (count_place + 4 ≤ i) →
    (i < slot_place (slot_for b (offered_of o))) ⊎ (slot_place (slot_for b (offered_of o)) + slot_size ≤ i) →
    get_or (next b o) i 0 ≡ get_or b i 0

-- "Bytes after slot N-1 are never .. written", and the buffer keeps its length
abbrev pub BytesAfter : Type 0
BytesAfter =
    (b : List ℕ) (o : Offering) → (length (next b o) ≡ length b) ×
    (drop (table_size (capacity_of b)) (next b o) ≡ drop (table_size (capacity_of b)) b)

-- "Bytes after slot N-1 are never read": whatever they are, the answer is the same, and so are the table's bytes
abbrev pub NeverRead : Type 0
NeverRead =
    (b t : List ℕ) (o : Offering) → length b ≡ table_size (capacity_of b) → (answer (b ++ t) o ≡ answer b o) ×
    (next (b ++ t) o ≡ next b o ++ t)

-- ---- texts
-- what the law takes from a text is what "Kinds and keys" says of its event
pub record OfText (e : Event) : Type 0 where
  pub is_regular : class_of e.kind ≡ Regular → class_of_text (serialise e) ≡ regular
  pub is_ephemeral_lem : class_of e.kind ≡ Ephemeral → class_of_text (serialise e) ≡ ephemeral
  pub is_replaceable_lem : class_of e.kind ≡ Replaceable →
      class_of_text (serialise e) ≡ keyed (replaceable e.kind e.pubkey)
  pub is_addressable_lem : class_of e.kind ≡ Addressable →
      class_of_text (serialise e) ≡ keyed (addressable e.kind e.pubkey (d_of e.tags))
  pub time : time_of_text (serialise e) ≡ e.time

abbrev pub TextSays : Type 0
TextSays = (e : Event) → is_fit e ≡ true → length (serialise e) ≤ most_text → OfText e

-- ---- soundness
-- "held texts are serialisations of events that agree with their slot fields": the slot s holds the event e
pub record Holds (s : List ℕ) (e : Event) : Type 0 where
  pub inside : length_in s ≤ 4096
  pub text : IsTextOf (text_in s) e
  -- "created_at 8, two's complement"
  pub time : time_in s ≡ unsigned e.time
  pub kind : kind_in s ≡ e.kind
  pub d_offset : (d_in s).at ≡ (d_place e).at
  pub d_length : (d_in s).len ≡ (d_place e).len

-- "Sound: ..", clause by clause
pub record SoundClauses (b : List ℕ) : Type 0 where
  -- "the buffer has at least 16 bytes"
  pub header : 16 ≤ length b
  -- "N is 1 to 64"; 02, Wish 6: 1,024
  pub capacity : (1 ≤ capacity_of b) × (capacity_of b ≤ 1024)
  -- "and its slots fit the buffer"
  pub fit : 16 + capacity_of b * 4208 ≤ length b
  -- "C is at most N"
  pub count : count_of b ≤ capacity_of b
  -- "the other header numbers as above": "slot size 4,208, offset of the first slot 16"
  pub size : slot_size_of b ≡ 4208
  pub first : first_slot_of b ≡ 16
  pub held : (k : ℕ) → k < count_of b → (e : Event) × Holds (slot_at b k) e
  -- "no ephemeral kind"
  pub lasting : (k : ℕ) → k < count_of b → class_of (kind_in (slot_at b k)) ≢ Ephemeral
  -- "no id .. held twice"
  pub ids : (j k : ℕ) → j < k → k < count_of b → id_in (slot_at b j) ≢ id_in (slot_at b k)
  -- "no .. key held twice"
  pub keys : (j k : ℕ) (e f : Event) → j < k → k < count_of b → Holds (slot_at b j) e → Holds (slot_at b k) f →
      has_key (key_of e) ≡ true →
      key_of e ≢ key_of f
  -- "zeros where said": "text 4,096, zero after its end", and "later slots are zero"
  pub rest : (k i : ℕ) → k < count_of b → 112 + length_in (slot_at b k) ≤ i → i < 4208 → get_or (slot_at b k) i 0 ≡ 0
  pub later : (i : ℕ) → 16 + count_of b * 4208 ≤ i → i < 16 + capacity_of b * 4208 → get_or b i 0 ≡ 0

abbrev pub SoundExactly : Type 0
SoundExactly = (b : List ℕ) → (sound b ≡ true) ↔ SoundClauses b

-- ---- tables of at most 64 slots
-- 02, Wish 6: "an old table is still sound", one that was sound when N was "1 to 64"; and of tables of at most 64 slots
-- no other is
abbrev pub StillSound : Type 0
StillSound = (b : List ℕ) → (sound_up_to 64 b ≡ true) ↔ ((sound b ≡ true) × (capacity_of b ≤ 64))

-- and its answers stay, also those of a table that is not sound. What an offer leaves is told from its answer (`next`);
-- of a table that was sound it was sound too, so all this holds of the next offer
pub record SameOffer (b : List ℕ) (o : Offering) : Type 0 where
  pub answered : answer b o ≡ answer_if (sound_up_to 64 b) b o
  pub left : sound_up_to 64 b ≡ true → sound_up_to 64 (next b o) ≡ true

abbrev pub SameOffers : Type 0
SameOffers = (b : List ℕ) (o : Offering) → capacity_of b ≤ 64 → SameOffer b o

abbrev pub SameShown : Type 0
SameShown = (b : List ℕ) (k : ℕ) → capacity_of b ≤ 64 → shown_row b k ≡ shown_row_if (sound_up_to 64 b) b k

-- ---- held slots
-- a held slot is, byte for byte, what an event within the limits writes
abbrev pub SlotWritten : Type 0
SlotWritten =
    (b : List ℕ) (k : ℕ) → sound b ≡ true → all is_byte b ≡ true → k < count_of b → (h : Held) × Fits h ×
    (slot_at b k ≡ slot_bytes h)

-- "d offset 2 and d length 2, of d's escaped bytes in the text (both 0 unless addressable with a non-empty d)": in a
-- sound slot s of the event e
pub record DPlaced (s : List ℕ) (e : Event) : Type 0 where
  pub stands : class_of e.kind ≡ Addressable → part (text_in s) (d_in s).at (d_in s).len ≡ escape (d_of e.tags)
  pub nowhere : (class_of e.kind ≢ Addressable) ⊎ (d_of e.tags ≡ []) → d_in s ≡ no_span

abbrev pub DPlace : Type 0
DPlace = (s : List ℕ) (e : Event) → slot_sound s ≡ true → read_text (text_in s) ≡ read e → DPlaced s e

-- ---- showing
-- "Showing a slot hands back the very bytes of its text": the text of a held event
abbrev pub ShownHeld : Type 0
ShownHeld =
    (b : List ℕ) (k : ℕ) → shown_row b k ≡ 0 → (in_slot (slot_at b k) ∈ view b) ×
    (shown b k ≡ (in_slot (slot_at b k)).0.text)

-- ".. inside the table": the place of what is handed back
abbrev pub ShownInside : Type 0
ShownInside =
    (b : List ℕ) (k : ℕ) → shown_row b k ≡ 0 → shown b k ≡ part b (slot_place k + text_place) (length_in (slot_at b k))

-- 11 before 14; on a refusal "a part handed back is empty"
pub record ShownRows (b : List ℕ) (k : ℕ) : Type 0 where
  pub unsound : sound b ≡ false → shown_row b k ≡ 11
  pub not_held : sound b ≡ true → count_of b ≤ k → shown_row b k ≡ 14
  pub none : sound b ≡ true → k < count_of b → shown_row b k ≡ 0
  pub empty : shown_row b k ≢ 0 → shown b k ≡ []

-- the held count of the header is the number of events held
abbrev pub HeldCount : Type 0
HeldCount = (b : List ℕ) → length (view b) ≡ count_of b

-- entry k of what is held is slot k
abbrev pub ViewAt : Type 0
ViewAt = (b : List ℕ) (k : ℕ) → k < count_of b → get_or (view b) k (in_slot []) ≡ in_slot (slot_at b k)

abbrev pub ShownNeverRead : Type 0
ShownNeverRead =
    (b t : List ℕ) (k : ℕ) → length b ≡ table_size (capacity_of b) → (shown_row (b ++ t) k ≡ shown_row b k) ×
    (shown (b ++ t) k ≡ shown b k)

-- ---- parts
-- what a relay holds after a list of offers can be told: parts of it exist
abbrev pub Tellable : Type 0
Tellable =
    (b : List ℕ) (os : List Offering) (s : SignedEvent) → Fresh b → s ∈ view (run_on table_events Signature relay b os) →
    (o : Offering) × AsParts o s

-- and parts that are judged to be what is held are just those that tell it
abbrev pub ToldExactly : Type 0
ToldExactly =
    (b : List ℕ) (os : List Offering) (s : SignedEvent) → Fresh b → s ∈ view (run_on table_events Signature relay b os) →
    (c : List ℕ) (p : EventParts) → Tells c p s ↔ (judge (as_parts c p) ≡ Some s)

-- "Then each list goes on with offers, as parts, of what the other relay holds": whatever the histories, such offers
-- exist
abbrev pub Exchanges : Type 0
Exchanges = ExchangesOn table_events Signature relay

-- every event within the limits, with any 64 bytes as its signature, can be offered as parts and is then valid: no
-- relay may refuse everything. Of messages: reply/specs/Claims/Replies `Sendable`
abbrev pub Offerable : Type 0
Offerable =
    (e : Event) (sig : List ℕ) → is_fit e ≡ true → length (serialise e) ≤ most_text → length sig ≡ 64 →
    all is_byte sig ≡ true →
    (c : List ℕ) × (p : EventParts) ×
    (judge (as_parts c p) ≡ Some (of_held (record { id = digest (serialise e); sig = sig; event = e })))
