-- 01, "The table": "Sound: the buffer has at least 16 bytes, N is 1 to 64 and its slots fit the buffer, C is at most N,
-- the other header numbers as above, held texts are serialisations of events that agree with their slot fields, no
-- ephemeral kind, no id or key held twice, zeros where said. Ids are not hashed again." A definition for each clause,
-- in this order. 02, Wish 6, has N up to 1,024. The most that N may be is an argument, so that what was sound with 64
-- can be spoken of.
use Rattle.std.specs.Prelude.{Bool, true, false, not, ◌&&◌, List, [], ◌∷◌, ℕ, eqb, leb, length}
use Rattle.wire.specs.Limits.{most_text, most_slots}
use Rattle.wire.specs.Field.{unsigned}
use Rattle.text.specs.Event.{Event, all}
use Rattle.text.specs.Read.{Read, too_large, wrong_shape, read, read_text}
use Rattle.text.specs.Kinds.{is_ephemeral}
use Rattle.law.specs.Lists.{any}
use Rattle.law.specs.Table.{has_id, has_key}
use Rattle.table.specs.Layout.{header_size, slot_size, capacity_of, count_of, slot_size_of, first_slot_of, table_size}
use Rattle.table.specs.Layout.{held_slots, later_slots, time_in, kind_in, length_in, d_in, text_in, rest_in, d_place}
use Rattle.table.specs.Events.{signed_events, view}
use Rattle.wire.specs.Bytes.{Bytes}

-- "the buffer has at least 16 bytes"
unfoldable pub has_header : Bytes → Bool
has_header b = leb header_size (length b)

-- "N is 1 to 64", or to any other `most`
abbrev pub is_capacity : (most N : ℕ) → Bool
is_capacity most N = leb 1 N && leb N most

unfoldable pub capacity_fits : ℕ → Bytes → Bool
capacity_fits most b = is_capacity most (capacity_of b)

-- "and its slots fit the buffer"
unfoldable pub slots_fit : Bytes → Bool
slots_fit b = leb (table_size (capacity_of b)) (length b)

-- "C is at most N"
unfoldable pub count_fits : Bytes → Bool
count_fits b = leb (count_of b) (capacity_of b)

-- "the other header numbers as above"
unfoldable pub others_as_above : Bytes → Bool
others_as_above b = eqb (slot_size_of b) slot_size && eqb (first_slot_of b) header_size

-- ---- one slot s
-- "held texts are serialisations of events ..": and end within the slot
abbrev pub is_read : Read → Bool
is_read too_large = false
is_read wrong_shape = false
is_read (read e) = true

unfoldable pub text_reads : Bytes → Bool
text_reads s = leb (length_in s) most_text && is_read (read_text (text_in s))

-- ".. that agree with their slot fields"
unfoldable pub agrees_with : Bytes → Event → Bool
agrees_with s e =
    eqb (time_in s) (unsigned e.time)
    && (eqb (kind_in s) e.kind && (eqb (d_in s).at (d_place e).at && eqb (d_in s).len (d_place e).len))

abbrev pub agrees_in : Bytes → Read → Bool
agrees_in s too_large = false
agrees_in s wrong_shape = false
agrees_in s (read e) = agrees_with s e

unfoldable pub fields_agree : Bytes → Bool
fields_agree s = agrees_in s (read_text (text_in s))

-- "no ephemeral kind"
unfoldable pub is_lasting : Bytes → Bool
is_lasting s = not (is_ephemeral (kind_in s))

-- "zeros where said": "text 4,096, zero after its end"
abbrev pub is_zero : Bytes → Bool
is_zero l = all (eqb 0) l

unfoldable pub zero_after_text : Bytes → Bool
zero_after_text s = is_zero (rest_in s)

unfoldable pub slot_sound : Bytes → Bool
slot_sound s = text_reads s && (fields_agree s && (is_lasting s && zero_after_text s))

unfoldable pub slots_sound : Bytes → Bool
slots_sound b = all slot_sound (held_slots b)

-- ---- all slots
-- no two entries, at two places, that the test joins
unfoldable pub none_twice : {A : Type 0} → (A → A → Bool) → List A → Bool
none_twice same [] = true
none_twice same (x ∷ xs) = not (any (same x) xs) && none_twice same xs

-- "no id .. held twice"
unfoldable pub no_id_twice : Bytes → Bool
no_id_twice b = none_twice (has_id signed_events) (view b)

-- "no .. key held twice"
unfoldable pub no_key_twice : Bytes → Bool
no_key_twice b = none_twice (has_key signed_events) (view b)

-- "zeros where said": "later slots are zero". "Bytes after slot N-1 are never read"
unfoldable pub later_zero : Bytes → Bool
later_zero b = is_zero (later_slots b)

unfoldable pub sound_up_to : ℕ → Bytes → Bool
sound_up_to most b =
    has_header b
    && (capacity_fits most b && (slots_fit b &&
    (count_fits b && (others_as_above b && (slots_sound b && (no_id_twice b && (no_key_twice b && later_zero b)))))))

-- 02, Wish 6: "Raise capacity from 64 to 1,024"
unfoldable pub sound : Bytes → Bool
sound b = sound_up_to most_slots b
