use native.Mathlib.Omega.{arith}
use Rattle.wire.proofs.Laws.{puts_out, rest_turn, rest_end}
use Rattle.spell.proofs.Loops.{json_turn, json_end}
use Rattle.spell.proofs.put_spelled.Goals as goal

pub returns-then-out-at : goal.returns-then-out-at
returns-then-out-at c = puts_out _ _ _ (omega arith)

pub loop-b-preserved : goal.loop-b-preserved
loop-b-preserved c = rest_turn c.loop-b.invariant c.put_json_escaped_byte-o.ensures (json_turn c.in-Some.ensures.steps)

pub returns : goal.returns
returns c = rest_end c.loop-b.invariant (json_end c.in-None.ensures.steps.0)
