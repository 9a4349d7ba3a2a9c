use native.Mathlib.Nat.{sub-zero}
use native.Mathlib.Omega.{arith}
use Prim.Native.Nat.{◌<◌}
use Rattle.wire.proofs.Laws.{puts_out, rest_start, rest_turn, rest_end}
use Rattle.numbers.proofs.Laws.{puts_as, filters_turn, filters_done}
use Rattle.numbers.proofs.put_filters.Goals as goal

pub returns-then-out-at : goal.returns-then-out-at
returns-then-out-at c = puts_out _ _ _ (omega arith)

pub loop-i-init : goal.loop-i-init
loop-i-init c = simp sub-zero (rest_start _ _ _ c.if-out-at.false)

pub loop-i-preserved : goal.loop-i-preserved
loop-i-preserved c = rest_turn c.loop-i.invariant (puts_as c.filter_numbers.ensures c.put-o.ensures)
    (let l : c.loop-i.i < c.args.n = omega arith in filters_turn _ _ _ _ l (omega arith))

pub returns : goal.returns
returns c = rest_end c.loop-i.invariant (filters_done c.args.fs c.args.n c.loop-i.i (omega arith))
