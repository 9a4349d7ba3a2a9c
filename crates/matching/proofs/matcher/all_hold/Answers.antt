use mathlib.Core.Path.{◌∙◌}
use native.Mathlib.Nat.{sub-zero}
use Rattle.matching.proofs.matcher.Ways.{rest_done, rest_no, rest_more, condition_test}
use native.Mathlib.Omega.{arith}
use Rattle.matching.proofs.matcher.all_hold.Goals as goal

pub loop-i-init : goal.loop-i-init
loop-i-init c = simp sub-zero

pub returns-then-not-holds : goal.returns-then-not-holds
returns-then-not-holds c = rest_no _ _ _ _ _ c.loop-i.invariant (omega (arith, c.loop-i-test.true, c.min-i-end.ensures)) (omega (arith, c.loop-i-test.true, c.min-i-end.ensures, c.well_formed.1.1.1.1.0.1.0.1)) _ (condition_test _ _ _ _ c.holds.ensures c.cut.ensures ∙ c.if-not-holds.true)

pub loop-i-preserved : goal.loop-i-preserved
loop-i-preserved c = rest_more _ _ _ _ _ c.loop-i.invariant (omega (arith, c.loop-i-test.true, c.min-i-end.ensures)) (omega (arith, c.loop-i-test.true, c.min-i-end.ensures, c.well_formed.1.1.1.1.0.1.0.1)) _ (condition_test _ _ _ _ c.holds.ensures c.cut.ensures ∙ c.if-not-holds.false)

pub returns : goal.returns
returns c = rest_done _ _ _ c.args.cs c.loop-i.i c.loop-i.invariant (omega (arith, c.loop-i-test.false, c.min-i-end.ensures, c.well_formed.1.1.1.1.0.1.0.1))
