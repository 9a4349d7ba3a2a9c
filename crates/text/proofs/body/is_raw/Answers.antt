-- A test for each byte that has an escape.
use Rattle.text.proofs.Blocks.{raw_is}
use Rattle.text.proofs.body.is_raw.Goals as goal

pub returns : goal.returns
returns c = raw_is _
