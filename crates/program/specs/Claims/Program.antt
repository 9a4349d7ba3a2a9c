-- What specs/Program, Replies and Lent mean, in the sentences of 01: proved in proofs/Which, Shown, Lines, Plain, Kept,
-- Lent and Sendable, each under its own name in small letters (EarlyRow: early-row).
use Rattle.std.specs.Prelude.{◌≡◌, true, false, cond, ◌↔◌, ◌⊎◌, ◌≢◌, List, [], ◌∷◌, ◌++◌, map, ℕ, ◌≤◌, ◌<◌, ltb, length}
use Rattle.std.specs.Prelude.{Option, None, Some, Ok, Err}
use Rattle.wire.specs.Limits.{hex_length, most_message, most_text}
use Rattle.json_tree.specs.Tree.{Json, Items, nil, Got, none, got, root}
use Rattle.spell.specs.Spell.{is_hex_of}
use Rattle.shape.specs.Shape.{Word, event, req, close, other, Opened, opened, id_name}
use Rattle.rows.specs.Rows.{row1, text_row_if, text_row}
use Rattle.shape.specs.Rows.{message_row_if, message_row, wrong_subscription}
use Rattle.shape.specs.Offsets.{refusal_of, offset_for}
use Rattle.shape.specs.declared.Refusal.{Refusal}
use Rattle.digest.specs.Digest.{digest}
use Rattle.text.specs.Event.{Event, serialise, is_fit, all}
use Rattle.text.specs.Read.{read, read_text}
use Rattle.message.specs.Parts.{member_of, members_of, span_in, span_of}
use Rattle.message.specs.Read.{first_item, read_of, named_of}
use Rattle.message.specs.Lent.{span_bytes}
use Rattle.message.specs.declared.Span.{Span}
use Rattle.message.specs.declared.EventParts.{EventParts}
use Rattle.message.specs.declared.ReqParts.{ReqParts}
use Rattle.message.specs.declared.Message.TheVariants as message
use Rattle.message.specs.declared.Named.TheVariants as names
use Rattle.event.specs.Lent.{said}
use Rattle.event.specs.Answer.{hex_of}
use Rattle.law.specs.Lists.{◌∈◌}
use Rattle.table.specs.Layout.{is_byte, table_size, capacity_of, count_of, slot_at, id_in, sig_in, text_in}
use Rattle.law.specs.Table.{Offer, IdPremise, Settled}
use Rattle.law.specs.Signature as signature
use Rattle.law.specs.Demand3.{judged, run_on, NoneLacksOn}
use Rattle.table.specs.Events.{Signature, table_events, of_held, view}
use Rattle.table.specs.Sound.{sound_up_to, sound}
use Rattle.table.specs.Demand3.{relay}
use Rattle.table.specs.Offer as offers
use Rattle.table.specs.Offer.{Offering, as_message, as_parts, answer, next}
use Rattle.table.specs.declared.Offered.TheVariants.{Stored}
use Rattle.query.specs.Filter.{Filter}
use Rattle.query.specs.Answer.{answer_list, filters_meant}
use Rattle.wire.specs.Ascii.{ascii}
use Rattle.reply.specs.Replies as replies
use Rattle.reply.specs.Replies.{Reply, ok, eose, closed, notice, object_text, reply_text, reason_of, refusal_reason}
use Rattle.program.specs.Program.{is_accepted, verdict_reason, request_replies_if, request_replies}
use Rattle.program.specs.Program.{replies_to, table_after, lines, written, output_from, fresh_table, output}
use Rattle.wire.specs.Bytes.{Bytes}
use Rattle.reply.specs.Claims.{Plain}

-- ---- a message's first word and the elements after it; `other` where there is no such word
abbrev pub opened_in : Bytes → Got Json → Opened
opened_in m none = record { first = other; rest = nil }
opened_in m (got t n) = opened m t

abbrev pub word_in : Bytes → Word
word_in m = (opened_in m (root m)).first

abbrev pub rest_items : Bytes → Items
rest_items m = (opened_in m (root m)).rest

-- where an EVENT's id field stands, and a REQ's subscription id
abbrev pub id_field : Bytes → Span
id_field m = span_in (member_of m id_name (members_of (first_item (rest_items m))))

abbrev pub subscription_field : Bytes → Span
subscription_field m = span_of (first_item (rest_items m))

-- ---- a message is refused by one of rows 1 to 8, or it is read
abbrev pub Covered : Type 0
Covered = (m : List ℕ) → ((1 ≤ message_row m) × (message_row m ≤ 8)) ⊎ ((r : Refusal) → read_of m ≢ Err r)

-- ---- refused by rows 1 to 8: one reply, and the table stays
-- "Rows 1-5 give NOTICE."
abbrev pub EarlyRow : Type 0
EarlyRow =
    (b m : List ℕ) → 1 ≤ message_row m → message_row m ≤ 5 → (replies_to b m ≡ notice (reason_of (message_row m)) ∷ []) ×
    (table_after b m ≡ b)

-- rows 6 to 8 are asked of an EVENT, a REQ or a CLOSE
abbrev pub LateWord : Type 0
LateWord = (m : List ℕ) → 6 ≤ message_row m → word_in m ≢ other

-- "Rows 6-12 give OK with false if the id field is 64 lower-case hex; .. otherwise NOTICE."
abbrev pub LateEvent : Type 0
LateEvent = (b m : List ℕ) → 6 ≤ message_row m → word_in m ≡ event →
    (replies_to b m
    ≡ cond (is_hex_of hex_length (span_bytes m (id_field m))) (ok (said m (id_field m)) false (refusal_reason (refusal_of m)))
    (notice (refusal_reason (refusal_of m)))
    ∷ [])
    × (table_after b m ≡ b)

-- "CLOSED for a REQ whose subscription id is within bounds; otherwise NOTICE."
abbrev pub LateRequest : Type 0
LateRequest = (b m : List ℕ) → 6 ≤ message_row m → word_in m ≡ req →
    (replies_to b m
    ≡ cond (wrong_subscription m (first_item (rest_items m))) (notice (refusal_reason (refusal_of m)))
    (closed (said m (subscription_field m)) (refusal_reason (refusal_of m)))
    ∷ [])
    × (table_after b m ≡ b)

-- a CLOSE has neither: "otherwise NOTICE"
abbrev pub LateClose : Type 0
LateClose =
    (b m : List ℕ) → 6 ≤ message_row m → word_in m ≡ close → (replies_to b m ≡ notice (refusal_reason (refusal_of m)) ∷ []) ×
    (table_after b m ≡ b)

-- ---- read: what rows 9 to 12 would name is there
abbrev pub NamesId : Type 0
NamesId = (m : List ℕ) (p : EventParts) → read_of m ≡ Ok (message.Event p) → named_of m ≡ names.Id p.id

abbrev pub NamesSubscription : Type 0
NamesSubscription =
    (m : List ℕ) (r : ReqParts) → read_of m ≡ Ok (message.Req r) → named_of m ≡ names.Subscription r.subscription

-- an EVENT that was read is refused, if at all, by one of rows 9 to 12, which carry no offset
abbrev pub LastRows : Type 0
LastRows =
    (b m : List ℕ) (p : EventParts) (r : Refusal) → read_of m ≡ Ok (message.Event p) → answer b (as_message m) ≡ Err r →
    (9 ≤ r.row) × (r.row ≤ 12) × (r.offset ≡ None)

-- one OK that names its id: true with a verdict, false on a refusal; "Replies: ephemeral and stored `true,""`;
-- duplicate .. older .."
abbrev pub ReadEvent : Type 0
ReadEvent = (b m : List ℕ) (p : EventParts) → read_of m ≡ Ok (message.Event p) →
    (replies_to b m ≡ ok (said m p.id) (is_accepted (answer b (as_message m))) (verdict_reason (answer b (as_message m)))
    ∷ [])
    × (table_after b m ≡ next b (as_message m))

-- "CLOSE gives nothing."
abbrev pub ReadClose : Type 0
ReadClose = (b m : List ℕ) (p : Span) → read_of m ≡ Ok (message.Close p) → (replies_to b m ≡ []) × (table_after b m ≡ b)

-- an EVENT for each slot number, in their order, with the event, id and signature that the slot holds
pub data Shows (b sub : List ℕ) : List ℕ → List Reply → Type 0 where
  no_slot : Shows b sub [] []
  slot : {k : ℕ} {e : Event} {ks : List ℕ} {rs : List Reply} → read_text (text_in (slot_at b k)) ≡ read e →
      Shows b sub ks rs
      → Shows b sub (k ∷ ks) (replies.event sub (hex_of (id_in (slot_at b k))) e (hex_of (sig_in (slot_at b k))) ∷ rs)

-- "An accepted REQ gives its EVENTs, then EOSE."
abbrev pub ReadRequest : Type 0
ReadRequest = (b m : List ℕ) (r : ReqParts) → read_of m ≡ Ok (message.Req r) → sound b ≡ true →
    (es : List Reply)
    × Shows b (said m r.subscription) (answer_list b (filters_meant m r.filters)) es
    × (length es ≡ length (answer_list b (filters_meant m r.filters)))
    × (replies_to b m ≡ es ++ (eose (said m r.subscription) ∷ []))
    × (table_after b m ≡ b)

-- a REQ's answer names held slots only
abbrev pub AnswersHeld : Type 0
AnswersHeld = (b : List ℕ) (fs : List Filter) (k : ℕ) → k ∈ answer_list b fs → k < count_of b

-- row 11, "table not sound", of a REQ
abbrev pub BadTable : Type 0
BadTable = (b m : List ℕ) (r : ReqParts) → read_of m ≡ Ok (message.Req r) → sound b ≡ false →
    (replies_to b m ≡ closed (said m r.subscription) (reason_of 11) ∷ []) × (table_after b m ≡ b)

-- only an EVENT that is stored changes the table
abbrev pub OnlyStored : Type 0
OnlyStored =
    (b m : List ℕ) → (table_after b m ≡ b) ⊎
    ((p : EventParts) × (read_of m ≡ Ok (message.Event p)) × (answer b (as_message m) ≡ Ok Stored))

-- ---- messages that are valid
-- "EVENT: two elements, the second an object with id, pubkey, created_at, kind, tags, content, sig": the object spelled
-- as in replies
abbrev pub event_message : (id : Bytes) (e : Event) (sig : Bytes) → Bytes
event_message i e s = ascii "[\"EVENT\"," ++ (object_text i e s ++ ascii "]")

-- "A valid event is one offered, as a message or as parts, that none of rows 1 to 10 refuses." Each event within the
-- limits has such a message, with its text's hash as id and any 64 bytes as signature: no relay may refuse everything.
-- The message has to be short enough for row 1: a control character takes six bytes there, and one in the text
abbrev pub Sendable : Type 0
Sendable =
    (e : Event) (sig : List ℕ) → is_fit e ≡ true → length (serialise e) ≤ most_text → length sig ≡ 64 →
    all is_byte sig ≡ true →
    length (event_message (hex_of (digest (serialise e))) e (hex_of sig)) ≤ most_message →
    offers.judge (as_message (event_message (hex_of (digest (serialise e))) e (hex_of sig))) ≡ Some
    (of_held (record { id = digest (serialise e); sig = sig; event = e }))

-- ---- lines
-- "0A ends a line and is no part of the message"
abbrev pub LineEnds : Type 0
LineEnds = (l rest : List ℕ) → Plain l → lines (l ++ (0x0a ∷ rest)) ≡ l ∷ lines rest

-- "a last line without it counts if not empty"
abbrev pub LastLine : Type 0
LastLine = (x : ℕ) (l : List ℕ) → Plain (x ∷ l) → lines (x ∷ l) ≡ (x ∷ l) ∷ []

abbrev pub NoLine : Type 0
NoLine = lines [] ≡ []

-- "an overlong line gives one reply"
abbrev pub Overlong : Type 0
Overlong =
    (b m : List ℕ) → most_message < length m → (replies_to b m ≡ notice (ascii "invalid: message too long") ∷ []) ×
    (table_after b m ≡ b)

-- ---- what 02's Wish 6 leaves as it was
-- "message length from 8,192 to 16,384": a message of at most 8,192 bytes has the rows that it had. What is read of it is
-- told from them, and from nothing that has the number
abbrev pub SameRows : Type 0
SameRows = (m : List ℕ) → length m ≤ 8192 →
    (text_row m ≡ text_row_if (ltb 8192 (length m)) m) × (message_row m ≡ message_row_if (ltb 8192 (length m)) m)

-- the number itself, on both sides
abbrev pub MessageBorder : Type 0
MessageBorder = (m : List ℕ) → (length m ≡ 16384 → row1 m ≡ false) × (length m ≡ 16385 → row1 m ≡ true)

-- "an old table is still sound": over a table of at most 64 slots a REQ gets the replies that it got. Those to an EVENT
-- are told from the answer to its offer (table/Claims, `SameOffers`)
abbrev pub SameRequest : Type 0
SameRequest = (b m sub : List ℕ) (v : ℕ) → capacity_of b ≤ 64 →
    request_replies b m sub v ≡ request_replies_if (sound_up_to 64 b) b m sub v

-- ---- the program
-- "over a fresh table of 8 slots"
abbrev pub FreshTable : Type 0
FreshTable =
    (sound fresh_table ≡ true) × (capacity_of fresh_table ≡ 8) × (view fresh_table ≡ []) × (length fresh_table ≡ table_size 8)

-- each message finds the table that the last one left
abbrev pub table_from : Bytes → List (List ℕ) → Bytes
table_from b [] = b
table_from b (m ∷ ms) = table_from (table_after b m) ms

abbrev pub replies_from : Bytes → List (List ℕ) → List Reply
replies_from b [] = []
replies_from b (m ∷ ms) = replies_to b m ++ replies_from (table_after b m) ms

-- the table is the one that offering every line as a message leaves: demand 3 speaks of the program too
abbrev pub AllOffered : Type 0
AllOffered = (b : List ℕ) (ms : List (List ℕ)) → table_from b ms ≡ run_on table_events Signature relay b (map as_message ms)

-- what comes after a line's end is answered as if it came alone, to the table that was left
abbrev pub GoesOn : Type 0
GoesOn = (b s rest : List ℕ) →
    output_from b (lines (s ++ (0x0a ∷ rest)))
    ≡ output_from b (lines (s ++ (0x0a ∷ []))) ++ output_from (table_from b (lines (s ++ (0x0a ∷ [])))) (lines rest)

-- so no line of the input changes what was written before it
abbrev pub OutputGoesOn : Type 0
OutputGoesOn = (s rest : List ℕ) →
    output (s ++ (0x0a ∷ rest)) ≡ output (s ++ (0x0a ∷ [])) ++ output_from
    (table_from fresh_table (lines (s ++ (0x0a ∷ [])))) (lines rest)

-- "The program ends each reply with 0A": the output is the replies written, and its lines are the replies
abbrev pub OutputIs : Type 0
OutputIs = (input : List ℕ) → output input ≡ written (replies_from fresh_table (lines input))

abbrev pub OutputLines : Type 0
OutputLines = (input : List ℕ) → lines (output input) ≡ map reply_text (replies_from fresh_table (lines input))

-- ---- demand 3, of the program
-- the program's table is sound after every line, so no reply says "error: bad table"
abbrev pub StaysSound : Type 0
StaysSound = (ms : List (List ℕ)) → sound (table_from fresh_table ms) ≡ true

-- what it holds is what demand 3 gives for the lines as offers, if no line lacks room and the id premise holds
abbrev pub offers_in : List (List ℕ) → List (Offer table_events)
offers_in ms = judged table_events Signature relay (map as_message ms)

abbrev pub ProgramSettles : Type 0
ProgramSettles =
    (ms : List (List ℕ)) → IdPremise table_events (offers_in ms) → NoneLacksOn table_events Signature relay fresh_table
    (map as_message ms) →
    Settled table_events (map (signature.event table_events Signature) (view (table_from fresh_table ms))) (offers_in ms)

-- ---- "A refusal carries its number and no other value", as 02, Wish 9, amends it: of an offer, the row of a refusal,
-- with the offset that goes with this row of a message, and with none of parts; and 0 for a verdict
abbrev pub offset_at : Offering → ℕ → Option ℕ
offset_at (as_message m) row = offset_for m row
offset_at (as_parts b p) row = None

abbrev pub OfferedNumber : Type 0
OfferedNumber = (b : List ℕ) (o : Offering) →
    ((r : ℕ) → 1 ≤ r → (offers.offer_number (answer b o) ≡ r) ↔
    (answer b o ≡ Err (record { row = r; offset = offset_at o r })))
    × ((offers.offer_number (answer b o) ≡ 0) ↔ ((r : Refusal) → answer b o ≢ Err r))
