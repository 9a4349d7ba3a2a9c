-- An offer by the bytes s of the slot that it would fill, to the table b: the steps of the code. That `offered_to` and
-- `offered_next` are table/specs/Offer `answer` and `next` is proved: proofs/Offers.
use Rattle.std.specs.Prelude.{◌≡◌, Bool, true, false, cond, List, ◌++◌, ℕ, ◌+◌, ◌-◌, ltb, length, get_or, Some, Result, Ok, Err}
use Rattle.wire.specs.Bytes.{Bytes, part}
use Rattle.wire.specs.Field.{le_bytes, signed, unsigned}
use Rattle.wire.specs.Put.{put}
use Rattle.spell.specs.Spell.{unhex, is_hex_of}
use Rattle.text.specs.Kinds.{is_ephemeral, class_of}
use Rattle.text.specs.declared.Class.{Class}
use Rattle.text.specs.declared.Class.TheVariants.{Regular, Replaceable, Ephemeral, Addressable}
use Rattle.text.specs.declared.Text.{Text}
use Rattle.message.specs.declared.Span.{Span}
use Rattle.message.specs.declared.EventParts.{EventParts}
use Rattle.event.specs.Lent.{said}
use Rattle.event.specs.Order.{is_newer}
use Rattle.law.specs.Lists.{find}
use Rattle.law.specs.Table.{has_key, verdict}
use Rattle.law.specs.Table as law
use Rattle.shape.specs.Offsets.{plain_refusal}
use Rattle.table.specs.Layout.{slot_size, slot_place, count_place, capacity_of, count_of, id_in, time_in, kind_in, text_in}
use Rattle.table.specs.Events.{signed_events, in_slot, class_of_text, view}
use Rattle.table.specs.Sound.{slot_sound, sound}
use Rattle.table.specs.Offer.{offered_by, is_stored}
use Rattle.shape.specs.declared.Refusal.{Refusal}
use Rattle.table.specs.declared.Offered.{Offered}
use Rattle.table.specs.declared.Offered.TheVariants.{Stored}
use Rattle.slots.specs.Slots.{d_bytes_in}
use Rattle.offers.specs.declared.Decided.{Decided}
use Rattle.offers.specs.declared.Decided.TheVariants.{Fills, Answered}

-- ---- the verdict
-- the event of slot s is newer than that of slot t
unfoldable pub newer_in : Bytes → Bytes → Bool
newer_in s t = is_newer (signed (time_in s)) (id_in s) (signed (time_in t)) (id_in t)

-- the last byte of d, and 0 where there is none
unfoldable pub d_last : Bytes → ℕ
d_last s = get_or (d_bytes_in s) (length (d_bytes_in s) - 1) 0

-- the bytes of a slot that a valid event would fill
pub record New (s : List ℕ) : Type 0 where
  pub long : length s ≡ slot_size
  pub class : law.is_ephemeral (class_of_text (text_in s)) ≡ is_ephemeral (kind_in s)
  pub ok : is_ephemeral (kind_in s) ≡ false → slot_sound s ≡ true

-- "Verdicts of an offer"
unfoldable pub answer_for : Bytes → Bytes → Result Offered Refusal
answer_for b s = offered_by (plain_refusal 0) (verdict signed_events (capacity_of b) (view b) (Some (in_slot s)))

-- row 11, then the verdict
unfoldable pub offered_to : Bytes → Bytes → Result Offered Refusal
offered_to b s = cond (sound b) (answer_for b s) (Err (plain_refusal 11))

-- "over the slot with its key, else in slot C"
unfoldable pub slot_of : Bytes → Bytes → ℕ
slot_of b s = find (has_key signed_events (in_slot s)) (view b)

-- what is decided of an offer s to the table b that is answered a
abbrev pub DecidedAs : (b s : Bytes) (a : Result Offered Refusal) (x : Decided) → Type 0
DecidedAs b s a (Fills k) = (Ok Stored ≡ a) × (k ≡ slot_of b s)
DecidedAs b s a (Answered x) = (x ≡ a) × (is_stored x ≡ false)

pub record Decides (b s : List ℕ) (a : Result Offered Refusal) (d : Decided) : Type 0 where
  pub is : DecidedAs b s a d

-- ---- the store
-- the verdict is stored
pub record HasRoom (b s : List ℕ) : Type 0 where
  pub stored : is_stored (offered_to b s) ≡ true

-- the count c once slot k is filled
abbrev pub count_from : ℕ → ℕ → ℕ
count_from c k = cond (ltb k c) c (c + 1)

-- "A store writes only the bytes of the one slot it fills, and the count."
unfoldable pub stored_for : Bytes → Bytes → Bytes
stored_for b s = put (put b (slot_place (slot_of b s)) s) count_place (le_bytes 4 (count_from (count_of b) (slot_of b s)))

unfoldable pub offered_next : Bytes → Bytes → Bytes
offered_next b s = cond (is_stored (offered_to b s)) (stored_for b s) b

-- ---- the bytes before the text, by what is read from it
-- the part p of the buffer c spells n digits of lower-case hex
abbrev pub SpellsHex : (c : Bytes) (p : Span) (n : ℕ) → Type 0
SpellsHex c p n = is_hex_of n (part c p.start p.len) ≡ true

-- d's place is 0 unless the kind is addressable
abbrev pub if_addressable : Class → ℕ → ℕ
if_addressable Regular x = 0
if_addressable Replaceable x = 0
if_addressable Ephemeral x = 0
if_addressable Addressable x = x

-- "created_at 8, two's complement; kind 2; text length 2; d offset 2 and d length 2"
unfoldable pub slot_numbers : Text → ℕ → Bytes
slot_numbers t n =
    le_bytes 8 (unsigned t.time)
    ++ le_bytes 2 t.kind
    ++ le_bytes 2 n
    ++ le_bytes 2 (if_addressable (class_of t.kind) t.d)
    ++ le_bytes 2 (if_addressable (class_of t.kind) t.d_len)

-- "id 32; sig 64", of the parts p over c, and these numbers
unfoldable pub head_of : (c : Bytes) (p : EventParts) (n : ℕ) (t : Text) → Bytes
head_of c p n t = unhex (said c p.id) ++ unhex (said c p.sig) ++ slot_numbers t n
