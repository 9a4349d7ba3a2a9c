use mathlib.Core.Path.{◌∙◌}
use native.Mathlib.Omega.{arith}
use Rattle.text.proofs.Ways.{body_pair}
use Rattle.text.proofs.body.past_escapes.Goals as goal

pub loop-i-preserved : goal.loop-i-preserved
loop-i-preserved c =
    let p = c.loop-i.invariant in
    let h = p.from in
    record { from = omega arith; same = p.same ∙ body_pair _ _ c.loop-i-test.true c.if-s-i-eq92.true c.byte.ensures c.is_letter.ensures c.if-is_letter.true }
