-- The invariant: what is written and what is left make the list.
use Rattle.matching.proofs.found.Members.{Numbers}
use Rattle.matching.proofs.found.numbers_at.Given as goal

abbrev pub invariant-loop-n : goal.invariant-loop-n
invariant-loop-n l = Numbers l.m l.v l.initial.row l.at l.row l.x l.n
