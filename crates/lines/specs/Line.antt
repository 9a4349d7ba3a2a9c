-- Standard input by lines. What stands there is open: of a line that was read this says what holds whatever it is.
use Rattle.std.specs.Prelude.{◌≡◌, List, ℕ, ◌≤◌, ◌<◌, length, get_or}
use Rattle.lines.specs.declared.Line.{Line}

-- before a byte was read
abbrev pub no_line : Line
no_line = record { left = 0x1000000000000; n = 0; at = 0; end = 0 }

-- 01: "0A ends a line and is no part of the message". None of the first n bytes is 0A
pub record NoEnd (l : List ℕ) (n : ℕ) : Type 0 where
  pub none : (i : ℕ) → i < n → get_or l i 0 ≡ 10 → ⊥

-- after the line `before`: both buffers keep their lengths, the line lies in its own (what does not fit is dropped),
-- and fewer are left
pub record IsLine (line chunk : List ℕ) (before r : Line) (line_after chunkAfter : List ℕ) : Type 0 where
  pub kept : length line_after ≡ length line
  pub chunk_kept : length chunkAfter ≡ length chunk
  pub fits : r.n ≤ length line
  pub plain : NoEnd line_after r.n
  pub fewer : 0 < before.left → r.left < before.left

-- both buffers keep their lengths
pub record KeepsLengths (line chunk line_after chunkAfter : List ℕ) : Type 0 where
  pub line_kept : length line_after ≡ length line
  pub chunk_kept : length chunkAfter ≡ length chunk
