-- The invariant: the rest of the string, escaped, gives the whole.
use lib.ListN.{drop}
use Rattle.wire.specs.Escape.{escape}
use Rattle.wire.proofs.Laws.{Rest}
use Rattle.wire.proofs.put_escaped.Given as goal

abbrev pub invariant-loop-b : goal.invariant-loop-b
invariant-loop-b l = Rest l.initial.out l.at (escape l.part) l.out l.o (escape (drop l.b-index l.part))
