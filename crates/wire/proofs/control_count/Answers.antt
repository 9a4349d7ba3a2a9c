use mathlib.Core.Path.{sym, ◌∙◌}
use borrow.Author.Tests.{not-true}
use native.Mathlib.Omega.{arith}
use lib.ListN.{get_or}
use Rattle.wire.proofs.Json.{count_none, count_turn, count_end, count_one}
use Rattle.wire.proofs.control_count.Goals as goal

pub returns-then-not-has_control : goal.returns-then-not-has_control
returns-then-not-has_control c = sym (count_none _ (sym c.has_control.ensures ∙ not-true _ c.if-not-has_control.true-raw))

pub loop-b-preserved : goal.loop-b-preserved
loop-b-preserved c =
    let l = c.loop-b in
    let s = c.args.s.now in
    let h = count_turn s l.b-index c.loop-b-test.true in
    let m = count_one (get_or s l.b-index 0) in
    (omega (arith, l.invariant.0, c.one_if_control-n.ensures), omega (arith, l.invariant.1, c.one_if_control-n.ensures))

pub returns : goal.returns
returns c =
    let h = count_end c.args.s.now c.loop-b.b-index c.loop-b-test.false in
    omega (arith, c.loop-b.invariant.0)

pub overflow_add-n : goal.overflow_add-n
overflow_add-n c = omega (arith, (loop-b-preserved c).1)
