use mathlib.Core.Path.{sym, ◌∙◌}
use Rattle.spell.proofs.Loops.{given_end, given_other, given_same, given_some}
use Rattle.spell.proofs.same.Goals as goal

pub returns-then-ne : goal.returns-then-ne
returns-then-ne c = given_other _ _ _ c.loop-b.invariant.0 c.in-Some.ensures.steps _ c.next-in-loop-b.ensures.steps (sym c.ne.ensures ∙ c.if-ne.true)

pub loop-b-preserved : goal.loop-b-preserved
loop-b-preserved c = (
  given_same _ _ _ c.loop-b.invariant.0 c.in-Some.ensures.steps _ c.next-in-loop-b.ensures.steps (sym c.ne.ensures ∙ c.if-ne.false),
  given_some _ _ _ c.next-in-loop-b.ensures.goes.keeps (sym c.ne.ensures ∙ c.if-ne.false),
)

pub returns : goal.returns
returns c = given_end _ _ _ c.loop-b.invariant.0 c.in-None.ensures.steps.0 _ c.next-2.ensures.steps _ c.is_none.ensures
