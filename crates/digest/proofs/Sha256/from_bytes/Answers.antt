-- Each field from its bytes.
use Rattle.digest.specs.Bytes.{state_in}
use Rattle.digest.proofs.Sha256.from_bytes.Goals as goal

pub returns : goal.returns
unfolding state_in
returns c = rw (c.total_in-total.ensures, c.block_in-block.ensures, c.words_in-words.ensures)
