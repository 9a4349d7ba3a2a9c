use native.Mathlib.Omega.{arith}
use Rattle.text.proofs.Blocks.{pass_on}
use Rattle.text.proofs.body.past_raw.Goals as goal

pub returns-then-n-lt32 : goal.returns-then-n-lt32
returns-then-n-lt32 c = let h = c.loop-i.invariant.0 in pass_on c.loop-i.invariant.1 c.raw_run-n.ensures (omega arith) _ (omega arith)

pub loop-i-preserved : goal.loop-i-preserved
loop-i-preserved c = let h = c.loop-i.invariant.0 in (omega arith, pass_on c.loop-i.invariant.1 c.raw_run-n.ensures (omega arith) _ c.if-n-lt32.false)
