-- 01, "Numbers the relay answers with": "Where several hold, the lowest number is given". 0 is no row.
use Rattle.std.specs.Prelude.{cond, ◌≢◌, ℕ, min, ◌≤◌, eqb}
use Rattle.wire.specs.Bytes.{Row}

-- the lower of two rows, where 0 is none
abbrev pub lower_row : Row → Row → Row
lower_row r s = cond (eqb r 0) s (cond (eqb s 0) r (min r s))

-- r is the lowest of the rows that hold, and 0 where none does
pub record Lowest (Holds : Row → Type 0) (r : Row) : Type 0 where
  pub holds : r ≢ 0 → Holds r
  pub least : (s : ℕ) → Holds s → s ≢ 0 → (r ≢ 0) × (r ≤ s)
