-- The invariant: the bytes of the first k slots are filled for this filter, all others as found.
use mathlib.Core.Path.{◌≡◌}
use Prim.Native.Nat.{◌≤◌}
use lib.ListN.{length}
use Rattle.matching.specs.Inner.Found.{filter_by}
use Rattle.matching.specs.Inner.Hits.{Filled}
use Rattle.matching.proofs.held.fill.Given as goal

abbrev pub invariant-loop-k : goal.invariant-loop-k
invariant-loop-k l = (l.k ≤ l.c) × (length l.hits ≡ length l.initial.hits) × Filled l.table (filter_by l.m l.row l.f) l.j l.k l.initial.hits l.hits
