use mathlib.Core.Path.{sym, ◌∙◌}
use lib.ListN.{drop_of_length-le}
use Rattle.spell.proofs.Loops.{byte_turn, given_end, given_other, given_same, given_some}
use Rattle.spell.proofs.spells.Goals as goal

pub returns-then-ne : goal.returns-then-ne
returns-then-ne c = given_other _ _ _ c.loop-b.invariant.0 (byte_turn c.args.word.now c.loop-b.b-index c.loop-b-test.true) _ c.next.ensures.steps (sym c.ne.ensures ∙ c.if-ne.true)

pub loop-b-preserved : goal.loop-b-preserved
loop-b-preserved c = (
  given_same _ _ _ c.loop-b.invariant.0 (byte_turn c.args.word.now c.loop-b.b-index c.loop-b-test.true) _ c.next.ensures.steps (sym c.ne.ensures ∙ c.if-ne.false),
  given_some _ _ _ c.next.ensures.goes.keeps (sym c.ne.ensures ∙ c.if-ne.false),
)

pub returns : goal.returns
returns c = given_end _ _ _ c.loop-b.invariant.0 (drop_of_length-le c.args.word.now c.loop-b-test.false) _ c.next-2.ensures.steps _ c.is_none.ensures
