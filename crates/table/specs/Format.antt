-- 01, "The table": formatting a buffer, and showing a slot.
use Rattle.std.specs.Prelude.{Bool, cond, [], ◌++◌, ℕ, ◌*◌, eqb, ltb, length, drop, replicate}
use Rattle.wire.specs.Limits.{most_slots}
use Rattle.table.specs.Layout.{slot_size, table_size, count_of, header_bytes, slot_at, text_in}
use Rattle.table.specs.Sound.{is_capacity, sound}
use Rattle.wire.specs.Bytes.{Bytes, Row}

-- row 14, "capacity outside 1..64" (02, Wish 6: 1,024), and row 13, "a buffer to be formatted, too short"; "formatting
-- tests 14 before 13"
unfoldable pub format_row : ℕ → Bytes → Row
format_row N b = cond (is_capacity most_slots N) (cond (ltb (length b) (table_size N)) 13 0) 14

-- "Formatting writes all N slots and the header"; "Bytes after slot N-1 are never read or written"
unfoldable pub formatted : ℕ → Bytes → Bytes
formatted N b = cond (eqb (format_row N b) 0) (header_bytes N 0 ++ (replicate (N * slot_size) 0 ++ drop (table_size N) b)) b

-- row 11, where the table is told not to be sound, then row 14, "slot not held"
abbrev pub shown_row_if : (isSound : Bool) (b : Bytes) (k : ℕ) → Row
shown_row_if isSound b k = cond isSound (cond (ltb k (count_of b)) 0 14) 11

unfoldable pub shown_row : Bytes → ℕ → Row
shown_row b k = shown_row_if (sound b) b k

-- "Showing a slot hands back the very bytes of its text, inside the table"; on a refusal "a part handed back is empty"
unfoldable pub shown : Bytes → ℕ → Bytes
shown b k = cond (eqb (shown_row b k) 0) (text_in (slot_at b k)) []
