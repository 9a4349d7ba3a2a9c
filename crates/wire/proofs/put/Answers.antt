use mathlib.Core.Path.{sym, ◌∙◌}
use native.Mathlib.Omega.{arith}
use native.Mathlib.Nat.{add-zero}
use borrow.Author.Rules.{rules}
use Rattle.wire.proofs.Laws.{put_step, put_rest, puts_out}
use Rattle.wire.proofs.put.Goals as goal

pub returns-then-n-at : goal.returns-then-n-at
returns-then-n-at c = puts_out _ _ _ (omega arith)

pub loop-i-preserved : goal.loop-i-preserved
loop-i-preserved c = (search rules, search rules, search rules, put_step _ _ _ _ (omega arith) ∙ c.loop-i.invariant.3)

pub returns : goal.returns
returns c =
    let l = c.loop-i in
    record { next = omega arith; bytes = sym (put_rest l.out _ l.i _ (omega arith)) ∙ l.invariant.3 }

pub loop-i-init : goal.loop-i-init
loop-i-init c = (omega arith, omega arith, search rules, simp add-zero)
