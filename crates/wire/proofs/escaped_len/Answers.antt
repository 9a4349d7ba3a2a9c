use mathlib.Core.Path.{ap}
use native.Mathlib.Omega.{arith}
use lib.ListN.{length}
use Rattle.wire.proofs.Escapes.{esc_count, esc_none}
use Rattle.wire.proofs.escaped_len.Goals as goal

pub loop-b-preserved : goal.loop-b-preserved
loop-b-preserved c =
    let l = c.loop-b in
    esc_count c.args.part.now l.b-index l.n _ c.loop-b-test.true l.invariant c.escaped_byte_len-n.ensures

pub returns : goal.returns
returns c = let h = ap length (esc_none c.args.part.now c.loop-b.b-index c.loop-b-test.false) in omega arith

pub overflow_add-n : goal.overflow_add-n
overflow_add-n c = omega (arith, (loop-b-preserved c).1)
