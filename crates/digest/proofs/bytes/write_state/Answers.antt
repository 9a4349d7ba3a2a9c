-- The hash value, the block and the count are laid one behind the other.
use Rattle.digest.proofs.StateBytes.{state_laid}
use Rattle.digest.proofs.bytes.write_state.Goals as goal

pub returns : goal.returns
returns c = rw (c.write_words.ensures, c.copy_from_slice.ensures.after, c.copy_from_slice-2.ensures.after, c.to_be_bytes.ensures) (state_laid c.args.h.now c.args.block.now c.args.out.now c.args.total c.requires.0)
