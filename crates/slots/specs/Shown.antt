-- "Showing a slot hands back the very bytes of its text, inside the table": what the call that gives their place
-- answers.
use Rattle.std.specs.Prelude.{cond, [], ℕ, ◌+◌, eqb, Result, Ok, Err}
use Rattle.wire.specs.Bytes.{Bytes, part}
use Rattle.table.specs.Layout.{slot_place, text_place, length_in, slot_at}
use Rattle.table.specs.Format.{shown_row}

-- the row, or the place and the length of the text of slot k
unfoldable pub shown_at : Bytes → ℕ → Result (ℕ × ℕ) ℕ
shown_at b k =
    cond (eqb (shown_row b k) 0) (Ok (slot_place k + text_place, length_in (slot_at b k))) (Err (shown_row b k))

-- the number of 01
abbrev pub shown_number : Result (ℕ × ℕ) ℕ → ℕ
shown_number (Ok (place, n)) = 0
shown_number (Err r) = r

-- and the value: the bytes of the table b; "a part handed back is empty" on a refusal
abbrev pub bytes_in : Bytes → Result (ℕ × ℕ) ℕ → Bytes
bytes_in b (Ok (place, n)) = part b place n
bytes_in b (Err r) = []
