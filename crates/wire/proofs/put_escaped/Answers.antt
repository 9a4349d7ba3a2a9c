use native.Mathlib.Omega.{arith}
use Rattle.wire.proofs.Laws.{puts_out, rest_start, rest_turn, rest_end}
use Rattle.wire.proofs.Escapes.{esc_turn, esc_none}
use Rattle.wire.proofs.put_escaped.Goals as goal

pub loop-b-preserved : goal.loop-b-preserved
loop-b-preserved c = rest_turn c.loop-b.invariant c.put_escaped_byte-o.ensures (esc_turn _ _ c.loop-b-test.true)

pub returns-then-out-at : goal.returns-then-out-at
returns-then-out-at c = puts_out _ _ _ (omega arith)

pub loop-b-init : goal.loop-b-init
loop-b-init c = rest_start _ _ _ c.if-out-at.false

pub returns : goal.returns
returns c = rest_end c.loop-b.invariant (esc_none _ _ c.loop-b-test.false)
