-- The end of the input, over lent buffers. 01: "a last line without it counts if not empty". The first n bytes of the
-- lent line buffer are the line so far, as in program/specs/Feed.
use Rattle.std.specs.Prelude.{cond, List, [], ◌∷◌, ℕ, eqb, length, Result}
use Rattle.event.specs.Answer.{answered}
use Rattle.reply.specs.Lent.{short_row, output_after}
use Rattle.program.specs.Program.{table_after}
use Rattle.program.specs.Feed.{said_last, feed_state}
use Rattle.wire.specs.Bytes.{Bytes, Row}

unfoldable pub finish_text : (b line : Bytes) (n : ℕ) → Bytes
finish_text b line n = said_last (feed_state b line n)

-- row 13, "lent output .. too short", and no other
unfoldable pub finish_row : (b line : Bytes) (n : ℕ) (out : Bytes) → Row
finish_row b line n out = short_row (finish_text b line n) out

unfoldable pub feed_finished : (b line : Bytes) (n : ℕ) (out : Bytes) → Result ℕ ℕ
feed_finished b line n out = answered (finish_row b line n out) (length (finish_text b line n))

unfoldable pub finish_out : (b line : Bytes) (n : ℕ) (out : Bytes) → Bytes
finish_out b line n out = output_after (finish_row b line n out) (finish_text b line n) out

-- an empty line is no message
abbrev pub last_table : (b m : Bytes) → Bytes
last_table b [] = b
last_table b (x ∷ m) = table_after b (x ∷ m)

-- "every lent buffer stays as found": the table too
unfoldable pub finish_table : (b line : Bytes) (n : ℕ) (out : Bytes) → Bytes
finish_table b line n out = cond (eqb (finish_row b line n out) 0) (last_table b (feed_state b line n).line) b
