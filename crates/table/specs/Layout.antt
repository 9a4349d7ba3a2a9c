-- 01, "The table": where its numbers and its events stand in its bytes, "Little-endian."
use Rattle.std.specs.Prelude.{◌≡◌, Bool, true, List, ◌++◌, ℕ, ◌+◌, ◌-◌, ◌*◌, ◌≤◌, ltb, length, drop, replicate}
use Rattle.wire.specs.Limits.{most_text}
use Rattle.wire.specs.Field.{le_bytes, field_at, unsigned}
use Rattle.rows.specs.Strings.{part}
use Rattle.text.specs.Event.{Event, serialise, is_fit, all}
use Rattle.text.specs.Kinds.{class_of}
use Rattle.text.specs.Answer.{Span, d_span, tags_place}
use Rattle.text.specs.declared.Class.{Class}
use Rattle.text.specs.declared.Class.TheVariants.{Regular, Replaceable, Ephemeral, Addressable}
use Rattle.table.specs.Cells.{cells}
use Rattle.wire.specs.Bytes.{Bytes}

-- ---- "Slot: id 32; sig 64; created_at 8, two's complement; kind 2; text length 2; d offset 2 and d length 2 ..; text
-- 4,096":
-- where each field begins
abbrev pub id_size : ℕ
id_size = 32

abbrev pub sig_size : ℕ
sig_size = 64

abbrev pub id_place : ℕ
id_place = 0

abbrev pub sig_place : ℕ
sig_place = 32

abbrev pub time_place : ℕ
time_place = 96

abbrev pub kind_place : ℕ
kind_place = 104

abbrev pub length_place : ℕ
length_place = 106

abbrev pub d_offset_place : ℕ
d_offset_place = 108

abbrev pub d_length_place : ℕ
d_length_place = 110

abbrev pub text_place : ℕ
text_place = 112

-- a text begins [0,"PUBKEY": where the public key begins in it
abbrev pub pubkey_place : ℕ
pubkey_place = 4

-- ---- "Header, 16 bytes: capacity N, held count C, slot size 4,208, offset of the first slot 16, each 4 bytes."
abbrev pub header_size : ℕ
header_size = 16

abbrev pub slot_size : ℕ
slot_size = text_place + most_text

abbrev pub capacity_place : ℕ
capacity_place = 0

abbrev pub count_place : ℕ
count_place = 4

abbrev pub slot_size_place : ℕ
slot_size_place = 8

abbrev pub first_slot_place : ℕ
first_slot_place = 12

-- N
unfoldable pub capacity_of : Bytes → ℕ
capacity_of b = field_at b capacity_place 4

-- C
unfoldable pub count_of : Bytes → ℕ
count_of b = field_at b count_place 4

unfoldable pub slot_size_of : Bytes → ℕ
slot_size_of b = field_at b slot_size_place 4

unfoldable pub first_slot_of : Bytes → ℕ
first_slot_of b = field_at b first_slot_place 4

unfoldable pub header_bytes : (capacity count : ℕ) → Bytes
header_bytes N C = le_bytes 4 N ++ (le_bytes 4 C ++ (le_bytes 4 slot_size ++ le_bytes 4 header_size))

-- the header and N slots
abbrev pub table_size : ℕ → ℕ
table_size N = header_size + N * slot_size

-- where slot k begins
abbrev pub slot_place : ℕ → ℕ
slot_place k = header_size + k * slot_size

-- the bytes of slot k; "Slots 0 to C-1 are held"; "later slots"
abbrev pub slot_at : Bytes → ℕ → Bytes
slot_at b k = part b (slot_place k) slot_size

abbrev pub held_slots : Bytes → List (List ℕ)
held_slots b = cells slot_size (count_of b) (drop header_size b)

abbrev pub later_slots : Bytes → List ℕ
later_slots b = part b (slot_place (count_of b)) ((capacity_of b - count_of b) * slot_size)

-- ---- the fields of a slot's bytes s
unfoldable pub id_in : Bytes → Bytes
id_in s = part s id_place id_size

unfoldable pub sig_in : Bytes → Bytes
sig_in s = part s sig_place sig_size

-- the bits of created_at; in a sound slot it is the time as a signed number (proofs/Slots, `sound_signed`)
abbrev pub time_in : Bytes → ℕ
time_in s = field_at s time_place 8

unfoldable pub kind_in : Bytes → ℕ
kind_in s = field_at s kind_place 2

unfoldable pub length_in : Bytes → ℕ
length_in s = field_at s length_place 2

unfoldable pub d_in : Bytes → Span
d_in s = record { at = field_at s d_offset_place 2; len = field_at s d_length_place 2 }

unfoldable pub text_in : Bytes → Bytes
text_in s = part s text_place (length_in s)

-- what stands after the text's end
unfoldable pub rest_in : Bytes → Bytes
rest_in s = drop (text_place + length_in s) s

-- ---- the bytes of a slot
abbrev pub is_byte : ℕ → Bool
is_byte x = ltb x 256

-- an event with its id and signature as bytes
pub record Held : Type 0 where
  pub id : List ℕ
  pub sig : List ℕ
  pub event : Event

-- an event that a slot has room for
pub record Fits (h : Held) : Type 0 where
  pub id : length h.id ≡ id_size
  pub id_bytes : all is_byte h.id ≡ true
  pub sig : length h.sig ≡ sig_size
  pub sig_bytes : all is_byte h.sig ≡ true
  pub event : is_fit h.event ≡ true
  pub text : length (serialise h.event) ≤ most_text

abbrev pub no_span : Span
no_span = record { at = 0; len = 0 }

-- "of d's escaped bytes in the text (both 0 unless addressable with a non-empty d)"
abbrev pub d_if_addressable : Class → Event → Span
d_if_addressable Regular e = no_span
d_if_addressable Replaceable e = no_span
d_if_addressable Ephemeral e = no_span
d_if_addressable Addressable e = d_span (tags_place e + 1) e.tags

unfoldable pub d_place : Event → Span
d_place e = d_if_addressable (class_of e.kind) e

-- "text 4,096, zero after its end"
unfoldable pub text_bytes : Bytes → Bytes
text_bytes t = t ++ replicate (most_text - length t) 0

unfoldable pub slot_bytes : Held → Bytes
slot_bytes h =
    h.id
    ++ (h.sig
    ++ (le_bytes 8 (unsigned h.event.time)
    ++ (le_bytes 2 h.event.kind
    ++ (le_bytes 2 (length (serialise h.event))
    ++ (le_bytes 2 (d_place h.event).at
    ++ (le_bytes 2 (d_place h.event).len
    ++ text_bytes (serialise h.event)))))))
