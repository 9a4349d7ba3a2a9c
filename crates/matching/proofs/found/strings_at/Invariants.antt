-- The invariant: what is written and what is left make the list.
use Prim.Native.Nat.{◌*◌}
use Rattle.matching.proofs.found.Members.{Strings}
use Rattle.matching.proofs.found.strings_at.Given as goal

abbrev pub invariant-loop-k : goal.invariant-loop-k
invariant-loop-k l = Strings l.m l.v l.initial.row l.at l.row l.x (l.k * 2)
