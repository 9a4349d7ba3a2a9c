-- What a turn (program/specs/Feed) is given of a piece of the input. A line is answered where it stands in one place,
-- in the piece or in the line buffer.
use Rattle.std.specs.Prelude.{cond, ℕ, eqb, length}
use Rattle.program.specs.Feed.{before}
use Rattle.wire.specs.Bytes.{Bytes}

-- where the line so far has n bytes, and the piece has more of the line: these, and the line's end is left for the next
-- turn. Else all of the piece, of which a turn takes what comes up to its first line's end, and that with it
unfoldable pub looked_at : ℕ → Bytes → Bytes
looked_at n piece = cond (eqb n 0) piece (cond (eqb (length (before piece)) 0) piece (before piece))
