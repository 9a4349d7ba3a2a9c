-- The bytes of the state, and nothing behind them.
use Rattle.std.proofs.Common.{◌∙◌, append-nil}
use Rattle.digest.specs.Bytes.{state_bytes}
use Rattle.digest.proofs.Sha256.to_bytes.Goals as goal

pub returns : goal.returns
unfolding state_bytes
returns c = c.write_state.ensures ∙ append-nil _
