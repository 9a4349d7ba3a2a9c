use mathlib.Core.Path.{sym, ◌∙◌}
use native.Mathlib.Omega.{arith}
use Rattle.spell.specs.Spell.{decode, character_count}
use Rattle.spell.proofs.Chars.{decode_few}
use Rattle.spell.proofs.Loops.{points_few, point_passed, point_counted, point_end}
use Rattle.spell.proofs.characters.Goals as goal

pub overflow_add-n : goal.overflow_add-n
overflow_add-n c =
    let p = c.args.p.now in
    omega (arith, point_counted c.in-Some.ensures.steps (sym c.is_tail.ensures ∙ c.if-not-is_tail.true), points_few (decode p), decode_few p)

pub loop-b-preserved-then-not-is_tail : goal.loop-b-preserved-then-not-is_tail
loop-b-preserved-then-not-is_tail c = omega (arith, point_counted c.in-Some.ensures.steps (sym c.is_tail.ensures ∙ c.if-not-is_tail.true))

pub loop-b-preserved : goal.loop-b-preserved
loop-b-preserved c = omega (arith, point_passed c.in-Some.ensures.steps (sym c.is_tail.ensures ∙ c.if-not-is_tail.false))

pub returns : goal.returns
unfolding character_count
returns c = omega (arith, point_end c.in-None.ensures.steps.0)
