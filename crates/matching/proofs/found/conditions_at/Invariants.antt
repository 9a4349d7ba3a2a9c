-- The invariant: the conditions that are written and those of the members that are left make all.
use Rattle.matching.proofs.found.Objects.{Passing}
use Rattle.matching.proofs.found.conditions_at.Given as goal

abbrev pub invariant-loop-k : goal.invariant-loop-k
invariant-loop-k l = Passing l.m l.v l.initial.row l.row l.list l.n l.x l._k
