-- The reply to the message m that a row of 01 refuses, alone and without 0A, to a lent output: `refusal` of
-- program/specs/Program. The call is refused by row 13 alone.
use Rattle.std.specs.Prelude.{ℕ, length, Result}
use Rattle.event.specs.Answer.{answered}
use Rattle.reply.specs.Replies.{reply_text}
use Rattle.reply.specs.Lent.{short_row, output_after}
use Rattle.program.specs.Program.{refusal}
use Rattle.wire.specs.Bytes.{Bytes, Row}

unfoldable pub refused_text : (m : Bytes) (row : Row) → Bytes
refused_text m row = reply_text (refusal m row)

unfoldable pub refused_row : (m : Bytes) (row : Row) (out : Bytes) → Row
refused_row m row out = short_row (refused_text m row) out

unfoldable pub refused_reply : (m : Bytes) (row : Row) (out : Bytes) → Result ℕ ℕ
refused_reply m row out = answered (refused_row m row out) (length (refused_text m row))

unfoldable pub refused_out : (m : Bytes) (row : Row) (out : Bytes) → Bytes
refused_out m row out = output_after (refused_row m row out) (refused_text m row) out
