-- The invariant: the digits of v and those in the text make the whole.
use Rattle.numeral.proofs.Ways.{Made}
use Rattle.numeral.proofs.put_natural.Given as goal

abbrev pub invariant-loop-v : goal.invariant-loop-v
invariant-loop-v l = Made l.n l.text l.i l.v

abbrev pub decreases-loop-v : goal.decreases-loop-v
decreases-loop-v l = l.v
