-- What is known of the bytes tested so far.
use Rattle.text.proofs.Blocks.{Tested}
use Rattle.text.proofs.body.raw_run.Given as goal

abbrev pub invariant-loop-k : goal.invariant-loop-k
invariant-loop-k l = Tested l.s l.i l.n l.k
