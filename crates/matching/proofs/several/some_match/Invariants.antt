-- The invariant: some filter matches where one of those that are left does.
use Rattle.event.specs.Lent.{said, event_of}
use Rattle.query.specs.Filter.{filter_of}
use Rattle.query.specs.Match.{matches}
use Rattle.matching.proofs.several.Ways.{Rest}
use Rattle.matching.proofs.several.some_match.Given as goal

abbrev pub invariant-loop-i : goal.invariant-loop-i
invariant-loop-i l = Rest (λ g. matches g (said l.b l.p.id) (event_of l.b l.p.body)) (filter_of l.m) l.n l.fs l.i
