-- `turn` is a round: the sums are rewritten by what each callee ensures. Assumes nothing.
use Rattle.digest.specs.Block.{round}
use Rattle.digest.proofs.block.turn.Goals as goal

pub returns : goal.returns
unfolding round
returns c = simp (c.maj.ensures, c.big0.ensures, c.ch.ensures, c.big1.ensures)
