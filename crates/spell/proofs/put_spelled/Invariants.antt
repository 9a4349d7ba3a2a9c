-- The invariant: what is left to put gives the whole.
use Rattle.wire.proofs.Laws.{Rest}
use Rattle.wire.specs.Escape.{escape, json_of}
use Rattle.spell.specs.Spell.{decode}
use Rattle.spell.specs.Inner.{bytes_left}
use Rattle.spell.proofs.put_spelled.Given as goal

abbrev pub invariant-loop-b : goal.invariant-loop-b
invariant-loop-b l = Rest l.initial.out l.at (json_of (escape (decode l.p))) l.out l.o (json_of (escape (bytes_left l.b-iterator)))
