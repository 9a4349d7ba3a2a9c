-- The eight words are the standard's. Assumes nothing.
use Rattle.std.proofs.Common.{refl}
use Rattle.digest.specs.Block.{H0}
use Rattle.digest.proofs.initial.Goals as goal

pub returns : goal.returns
unfolding H0
returns c = refl
