-- The invariant: the digits of the rest give the whole.
use lib.ListN.{drop}
use Rattle.wire.proofs.Laws.{Rest}
use Rattle.event.specs.Answer.{hex_of}
use Rattle.event.proofs.put_hex.Given as goal

abbrev pub invariant-loop-b : goal.invariant-loop-b
invariant-loop-b l = Rest l.initial.out l.at (hex_of l.s) l.out l.o (hex_of (drop l.b-index l.s))
