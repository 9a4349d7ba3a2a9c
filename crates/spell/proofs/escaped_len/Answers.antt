use mathlib.Core.Path.{ap}
use native.Mathlib.Omega.{arith}
use lib.ListN.{length, length-append}
use Rattle.spell.specs.Spell.{decode}
use Rattle.spell.specs.Inner.{left_of}
use Rattle.spell.proofs.Chars.{begin, left_over, step_byte, decode_few}
use Rattle.spell.proofs.Loops.{escape_turn, escape_end, escape_few}
use Rattle.spell.proofs.escaped_len.Goals as goal

pub overflow_add-n : goal.overflow_add-n
overflow_add-n c =
    let l = c.loop-i in
    let s = c.args in
    let r = step_byte s.p.now l.i c.if-b-ne92.true l.k c.loop-i-test.true l.invariant.1 in
    let e = simp length-append at (ap length (escape_turn r.left)) in
    omega (arith, escape_few (decode s.p.now), decode_few s.p.now)

pub loop-i-preserved-then-b-ne92 : goal.loop-i-preserved-then-b-ne92
loop-i-preserved-then-b-ne92 c =
    let l = c.loop-i in
    let s = c.args in
    let r = step_byte s.p.now l.i c.if-b-ne92.true l.k c.loop-i-test.true l.invariant.1 in
    let e = simp length-append at (ap length (escape_turn r.left)) in
    (omega arith, r.within)

pub overflow_add-n-in-loop-i : goal.overflow_add-n-in-loop-i
overflow_add-n-in-loop-i c =
    let l = c.loop-i in
    let s = c.args in
    let e = simp length-append at (ap length (escape_turn c.advance-x.ensures.left)) in
    omega (arith, escape_few (decode s.p.now), decode_few s.p.now)

pub loop-i-preserved : goal.loop-i-preserved
loop-i-preserved c =
    let e = simp length-append at (ap length (escape_turn c.advance-x.ensures.left)) in
    (omega arith, c.advance-x.ensures.within)

pub returns : goal.returns
returns c =
    let l = c.loop-i in
    let s = c.args in
    omega (arith, ap length (escape_end (left_over s.p.now l.i l.k c.loop-i-test.false)))

pub loop-i-init : goal.loop-i-init
unfolding left_of
loop-i-init c = (omega arith, begin _ 0 0)

pub loop-i-smaller-then-b-ne92 : goal.loop-i-smaller-then-b-ne92
unfolding left_of
loop-i-smaller-then-b-ne92 c = let l = c.loop-i in let s = c.args in omega (arith, ap length (step_byte s.p.now l.i c.if-b-ne92.true l.k c.loop-i-test.true l.invariant.1).left)

pub loop-i-smaller : goal.loop-i-smaller
unfolding left_of
loop-i-smaller c = omega (arith, ap length c.advance-x.ensures.left)
