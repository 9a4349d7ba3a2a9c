-- A table's slots by their bytes: the fields of a slot against what its text answers, and two slots compared. That
-- these tests are those of table/specs on the events held is proved: proofs/Fields and proofs/Keys.
use Rattle.std.specs.Prelude.{Bool, true, false, ◌&&◌, ◌||◌, List, ℕ, eqb, drop}
use Rattle.wire.specs.Limits.{hex_length, most_slots}
use Rattle.wire.specs.Bytes.{Bytes, Place, same_bytes, part}
use Rattle.wire.specs.Field.{unsigned}
use Rattle.text.specs.Kinds.{class_of}
use Rattle.text.specs.declared.Class.{Class}
use Rattle.text.specs.declared.Class.TheVariants.{Regular, Replaceable, Ephemeral, Addressable}
use Rattle.text.specs.declared.Text.{Text}
use Rattle.table.specs.Cells.{cells}
use Rattle.table.specs.Layout.{slot_size, slot_place, pubkey_place, time_in, kind_in, d_in, id_in, text_in}
use Rattle.table.specs.Sound.{has_header, capacity_fits, slots_fit, count_fits, others_as_above}

-- ---- one slot s, whose text answers t
-- "d offset 2 and d length 2 .. (both 0 unless addressable with a non-empty d)": the slot's at and len, the text's d
-- and n. "no ephemeral kind"
abbrev pub d_agrees : (x : Class) (at len d n : Place) → Bool
d_agrees Regular at len d n = eqb at 0 && eqb len 0
d_agrees Replaceable at len d n = eqb at 0 && eqb len 0
d_agrees Ephemeral at len d n = false
d_agrees Addressable at len d n = eqb at d && eqb len n

-- time, kind and d's place agree
unfoldable pub agrees_text : Bytes → Text → Bool
agrees_text s t =
    eqb (time_in s) (unsigned t.time) &&
    (eqb (kind_in s) t.kind && d_agrees (class_of t.kind) (d_in s).at (d_in s).len t.d t.d_len)

-- ---- two slots
-- slot t has the id of slot s
unfoldable pub same_id_in : Bytes → Bytes → Bool
same_id_in s t = same_bytes (id_in t) (id_in s)

-- 01, "Kinds and keys": events of the class have a key
abbrev pub has_key_in : Class → Bool
has_key_in Regular = false
has_key_in Replaceable = true
has_key_in Ephemeral = false
has_key_in Addressable = true

-- the public key, in hex
unfoldable pub pubkey_bytes : Bytes → Bytes
pubkey_bytes s = part (text_in s) pubkey_place hex_length

-- d's escaped bytes
unfoldable pub d_bytes_in : Bytes → Bytes
d_bytes_in s = part (text_in s) (d_in s).at (d_in s).len

-- slot t has the key of slot s
unfoldable pub same_key_in : Bytes → Bytes → Bool
same_key_in s t =
    eqb (kind_in t) (kind_in s) && (has_key_in (class_of (kind_in t)) &&
    (same_bytes (pubkey_bytes t) (pubkey_bytes s) && same_bytes (d_bytes_in t) (d_bytes_in s)))

-- it has the one or the other
unfoldable pub clash : Bytes → Bytes → Bool
clash s t = same_id_in s t || same_key_in s t

-- ---- the table b
-- slots k to k + n - 1
unfoldable pub slots_from : (b : Bytes) (k n : ℕ) → List (List ℕ)
slots_from b k n = cells slot_size n (drop (slot_place k) b)

-- the clauses of "Sound: .." on the header
unfoldable pub header_sound : Bytes → Bool
header_sound b = has_header b && (capacity_fits most_slots b && (slots_fit b && (count_fits b && others_as_above b)))
