-- What private functions hand on.
use Rattle.std.specs.Prelude.{◌≡◌, true, List, ◌++◌, ℕ, ◌+◌, ◌-◌, ◌≤◌, ◌<◌, min, length, take, drop, get_or, Result}
use Rattle.wire.specs.Put.{put}
use Rattle.program.specs.Respond.{responded, responded_out, responded_table}
use Rattle.law.specs.Lists.{any}
use Rattle.program.specs.Feed.{most_line, kept, is_end, before}
use Rattle.wire.specs.Bytes.{Bytes}

-- ---- the search for a line's end
-- none of the n bytes at i ends a line
abbrev pub NoEndFrom : (p : Bytes) (i n : ℕ) → Type 0
NoEndFrom p i n = (j : ℕ) → j < n → get_or p (i + j) 0 ≡ 0x0a → ⊥

-- no byte before i does: the line's end is looked for from there on
pub record EndFrom (p : List ℕ) (i : ℕ) : Type 0 where
  pub inside : i ≤ length p
  pub rest : length (before p) ≡ i + length (before (drop i p))

-- ---- the line
-- what is kept of the line so far, n bytes of the line buffer, with the bytes p more
unfoldable pub grown : (line : Bytes) (n : ℕ) (p : Bytes) → Bytes
grown line n p = kept (take n (kept line) ++ p)

-- the line buffer is o then, and r the number of its bytes that are the line
pub record Keeps (line : List ℕ) (n : ℕ) (p : List ℕ) (r : ℕ) (o : List ℕ) : Type 0 where
  pub many : r ≡ length (grown line n p)
  pub bytes : o ≡ put line (min n most_line) (take (most_line - min n most_line) p)

-- a line that ends in the piece p stands in one place: in p, or in the buffer, where its first n bytes are
abbrev pub InOnePlace : ℕ → Bytes → Type 0
InOnePlace n p = (n ≡ 0 → ⊥) → any is_end p ≡ true → length (before p) ≡ 0

-- the message m was answered
pub record Answers (b m out : List ℕ) (r : Result ℕ ℕ) (b' o : List ℕ) : Type 0 where
  pub answer : r ≡ responded b m out
  pub table : b' ≡ responded_table b m out
  pub output : o ≡ responded_out b m out
