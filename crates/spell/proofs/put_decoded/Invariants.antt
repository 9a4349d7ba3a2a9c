-- The invariant: what is left to put gives the whole.
use Rattle.wire.proofs.Laws.{Rest}
use Rattle.spell.specs.Spell.{decode}
use Rattle.spell.specs.Inner.{bytes_left}
use Rattle.spell.proofs.put_decoded.Given as goal

abbrev pub invariant-loop-b : goal.invariant-loop-b
invariant-loop-b l = Rest l.initial.out l.at (decode l.p) l.out l.o (bytes_left l.b-iterator)
