use native.Mathlib.Omega.{arith}
use Rattle.wire.proofs.Json.{count_most}
use Rattle.spell.specs.Spell.{decode}
use Rattle.spell.proofs.Chars.{decode_few}
use Rattle.spell.proofs.Loops.{control_turn, control_end}
use Rattle.spell.proofs.control_count.Goals as goal

pub overflow_add-n : goal.overflow_add-n
overflow_add-n c =
    let p = c.args.p.now in
    omega (arith, control_turn c.in-Some.ensures.steps, count_most (decode p), decode_few p)

pub loop-b-preserved : goal.loop-b-preserved
loop-b-preserved c = omega (arith, control_turn c.in-Some.ensures.steps)

pub returns : goal.returns
returns c = omega (arith, control_end c.in-None.ensures.steps.0)
