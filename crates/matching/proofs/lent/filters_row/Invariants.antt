-- Each turn, from the last filter down, puts one row in front.
use mathlib.Core.Path.{◌≡◌}
use Prim.Native.Nat.{◌≤◌}
use Rattle.matching.proofs.lent.Rows.{lowest_from}
use Rattle.matching.proofs.lent.filters_row.Given as goal

abbrev pub invariant-loop-j : goal.invariant-loop-j
invariant-loop-j l = (l.j ≤ 4) × (l.j ≤ l.n) × (l.r ≡ lowest_from l.m l.fs l.n l.j)
