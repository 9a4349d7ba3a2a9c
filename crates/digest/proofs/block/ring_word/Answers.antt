-- The four words and their sums are rewritten by what each callee ensures. Assumes nothing.
use Rattle.digest.proofs.block.ring_word.Goals as goal

pub returns : goal.returns
returns c = simp (c.small0.ensures, c.small1.ensures)
