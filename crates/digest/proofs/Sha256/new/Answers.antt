-- Nothing is hashed and nothing waits. Assumes nothing.
use Rattle.digest.specs.Digest.{hash_after}
use Rattle.digest.specs.State.{first_bytes, state_after}
use Rattle.digest.proofs.Sha256.new.Goals as goal

pub returns : goal.returns
unfolding state_after hash_after first_bytes
returns c = rw c.initial-words.ensures
