-- Past the blocks, and in the rest.
use native.Mathlib.Omega.{arith}
use Rattle.feed.proofs.Lines.{before_few, end_rest}
use Rattle.feed.proofs.end_at.Goals as goal

pub overflow_add-result : goal.overflow_add-result
overflow_add-result c =
    let e = end_rest _ _ c.past_blocks-i.ensures c.end_in.ensures in
    omega (arith, e, before_few c.args.piece.now)

pub returns : goal.returns
returns c = end_rest _ _ c.past_blocks-i.ensures c.end_in.ensures
