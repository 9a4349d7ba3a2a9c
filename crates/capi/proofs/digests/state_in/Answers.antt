-- The first 104 bytes are copied, and read.
use mathlib.Core.Path.{sym}
use native.Mathlib.Omega.{arith}
use lib.Seq.{length-take-le}
use Rattle.capi.proofs.Pieces.{copied, state_read}
use Rattle.capi.proofs.digests.state_in.Goals as goal

pub slice_bounds-put-end-2 : goal.slice_bounds-put-end-2
slice_bounds-put-end-2 c = sym (length-take-le 104 c.args.state.now (omega arith))

pub returns : goal.returns
returns c = state_read c.args.state.now (copied c.args.state.now (omega arith) c.put.ensures) c.from_bytes.ensures
