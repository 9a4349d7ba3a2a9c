-- The invariant: what is left to put gives the whole.
use lib.ListN.{length}
use Rattle.wire.proofs.Laws.{Rest}
use Rattle.wire.specs.Escape.{escape}
use Rattle.spell.specs.Spell.{decode}
use Rattle.spell.specs.Inner.{bytes_left, Stands}
use Rattle.spell.proofs.put_escaped.Given as goal

abbrev pub invariant-loop-b : goal.invariant-loop-b
invariant-loop-b l = Rest l.fn.out l.at (escape (decode l.p)) l.out l.o (escape (bytes_left l.rest)) × Stands l.rest

abbrev pub decreases-loop-b : goal.decreases-loop-b
decreases-loop-b l = length (escape (bytes_left l.rest))
