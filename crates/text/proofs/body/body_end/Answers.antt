use mathlib.Core.Path.{sym, ◌∙◌}
use native.Mathlib.Omega.{arith}
use Rattle.text.proofs.Ways.{body_over, body_pair, body_unknown, body_quote, body_stuck, body_raw}
use Rattle.text.proofs.body.body_end.Goals as goal

pub returns-then-not-is_letter : goal.returns-then-not-is_letter
returns-then-not-is_letter c = sym (c.loop-i.invariant.1 ∙ body_unknown _ _ c.loop-i-test.true c.if-x-eq92.true c.byte.ensures c.is_letter.ensures (c.if-not-is_letter.true))

-- an escape, and those after it
pub loop-i-preserved-then-x-eq92 : goal.loop-i-preserved-then-x-eq92
loop-i-preserved-then-x-eq92 c = (omega arith, c.loop-i.invariant.1 ∙ body_pair _ _ c.loop-i-test.true c.if-x-eq92.true c.byte.ensures c.is_letter.ensures (c.if-not-is_letter.false) ∙ c.past_escapes-i.ensures.same)

pub returns-then-x-eq34 : goal.returns-then-x-eq34
returns-then-x-eq34 c = sym (c.loop-i.invariant.1 ∙ body_quote _ _ c.loop-i-test.true c.if-x-eq92.false c.if-x-eq34.true)

pub returns-then-not-is_raw : goal.returns-then-not-is_raw
returns-then-not-is_raw c = sym (c.loop-i.invariant.1 ∙ body_stuck _ _ c.loop-i-test.true c.if-x-eq92.false c.if-x-eq34.false (sym c.is_raw.ensures ∙ c.if-not-is_raw.true))

-- the byte stood as it is, and many after it
pub loop-i-preserved-then-run-eq16 : goal.loop-i-preserved-then-run-eq16
loop-i-preserved-then-run-eq16 c = (omega arith, c.loop-i.invariant.1 ∙ body_raw _ _ c.loop-i-test.true c.if-x-eq92.false c.if-x-eq34.false (sym c.is_raw.ensures ∙ c.if-not-is_raw.false) ∙ c.past_raw-i.ensures.same)

pub loop-i-preserved : goal.loop-i-preserved
loop-i-preserved c =
    let h = c.loop-i.invariant.0 in
    let k = c.if-run-eq16.false in
    (omega arith, c.loop-i.invariant.1 ∙ body_raw _ _ c.loop-i-test.true c.if-x-eq92.false c.if-x-eq34.false (sym c.is_raw.ensures ∙ c.if-not-is_raw.false))

pub returns : goal.returns
returns c = sym (c.loop-i.invariant.1 ∙ body_over _ _ _ c.loop-i-test.false)
