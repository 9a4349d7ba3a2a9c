use Rattle.feed.proofs.Lines.{block_passed}
use Rattle.feed.proofs.past_blocks.Goals as goal

pub loop-i-preserved : goal.loop-i-preserved
loop-i-preserved c = block_passed _ _ _ c.loop-i.invariant c.loop-i-test.true c.none_ends.ensures c.if-not-none_ends.false
