use mathlib.Core.Path.{refl}
use native.Mathlib.Omega.{arith}
use Rattle.wire.proofs.Laws.{puts_out, rest_start, rest_turn, rest_end}
use Rattle.event.proofs.Answers.{hex-turn, hex_none, hex-put}
use Rattle.event.proofs.put_hex.Goals as goal

pub loop-b-preserved : goal.loop-b-preserved
loop-b-preserved c = rest_turn (rest_turn c.loop-b.invariant (hex-put c.hex_digit.ensures c.put_byte-o.ensures) (hex-turn _ _ c.loop-b-test.true)) (hex-put c.hex_digit-in-loop-b.ensures c.put_byte-o-in-loop-b.ensures) refl

pub returns-then-out-at : goal.returns-then-out-at
returns-then-out-at c = puts_out _ _ _ (omega arith)

pub loop-b-init : goal.loop-b-init
loop-b-init c = rest_start _ _ _ c.if-out-at.false

pub hex_digit-requires : goal.hex_digit-requires
hex_digit-requires c = omega (arith, c.type_inv.s c.loop-b.b-index)

pub returns : goal.returns
returns c = rest_end c.loop-b.invariant (hex_none _ _ c.loop-b-test.false)
