use mathlib.Core.Path.{sym, ◌∙◌}
use native.Mathlib.Omega.{arith}
use borrow.Author.Rules.{rules}
use Rattle.utf8.specs.Utf8.{is_utf8}
use Rattle.utf8.proofs.Laws.{over}
use Rattle.utf8.proofs.is_utf8.Goals as goal

pub returns-then-n-i : goal.returns-then-n-i
returns-then-n-i c = sym (c.loop-i.invariant.1 ∙ c.past_char-n.ensures.none c.if-n-i.true)

pub loop-i-preserved : goal.loop-i-preserved
loop-i-preserved c = (
  c.past_ascii-i-in-loop-i.ensures.within,
  c.loop-i.invariant.1 ∙ c.past_char-n.ensures.same (omega arith) ∙ c.past_ascii-i-in-loop-i.ensures.same,
)

pub loop-i-init : goal.loop-i-init
unfolding is_utf8
loop-i-init c = (c.past_ascii-i.ensures.within, c.past_ascii-i.ensures.same)

pub returns : goal.returns
unfolding is_utf8
returns c = sym (c.loop-i.invariant.1 ∙ over _ _ _ c.loop-i-test.false)
