-- The bytes of the first j filters say what they match; with those of all, the slots taken are the answer.
use mathlib.Core.Path.{◌≡◌}
use Prim.Native.Nat.{◌*◌, ◌≤◌}
use lib.ListN.{length}
use Rattle.wire.specs.Limits.{most_slots, most_filters}
use Rattle.matching.proofs.answers.Asked.{Asked}
use Rattle.matching.proofs.answers.answered.Given as goal

abbrev pub invariant-loop-j : goal.invariant-loop-j
invariant-loop-j l = (l.j ≤ l.n) × (length l.hits ≡ most_slots * most_filters) × Asked l.table l.m l.fs l.hits l.j × (l.n ≤ 4)
