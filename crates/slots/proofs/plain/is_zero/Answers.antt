use mathlib.Core.Path.{sym, ◌∙◌}
use Rattle.slots.proofs.Bytes.{zero_more, zero_end}
use Rattle.slots.proofs.plain.is_zero.Goals as goal

pub loop-b-preserved : goal.loop-b-preserved
loop-b-preserved c = let l = c.loop-b in l.invariant ∙ zero_more _ l.b-index l.x c.loop-b-test.true

pub returns : goal.returns
returns c = let l = c.loop-b in sym (l.invariant ∙ zero_end _ l.b-index l.x c.loop-b-test.false)
