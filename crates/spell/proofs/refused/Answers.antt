use native.Mathlib.Omega.{arith}
use mathlib.Core.Path.{refl, sym, ◌∙◌}
use Rattle.spell.specs.Spell.{refuses}
use Rattle.spell.proofs.Chars.{raw_is, raw_refused, short_is, short_refused, refused_here, refused_later}
use Rattle.spell.proofs.Chars.{refused_none}
use Rattle.spell.proofs.refused.Goals as goal

pub loop-i-preserved-then-b-ne92 : goal.loop-i-preserved-then-b-ne92
loop-i-preserved-then-b-ne92 c =
    let l = c.loop-i in
    let s = c.args in
    refused_later s.p.now l.i l.invariant c.loop-i-test.true _ (raw_is s.p.now l.i c.if-b-ne92.true)
    (raw_refused _ (c.type_inv.p l.i).fits)

pub loop-i-preserved-then-y-ne117 : goal.loop-i-preserved-then-y-ne117
loop-i-preserved-then-y-ne117 c =
    let l = c.loop-i in
    let s = c.args in
    refused_later s.p.now l.i l.invariant c.loop-i-test.true _ (short_is s.p.now l.i c.if-b-ne92.false c.byte-y.ensures c.if-y-ne117.true)
    (short_refused _ c.byte-y.type_inv)

pub returns-then-is_refused : goal.returns-then-is_refused
returns-then-is_refused c =
    let l = c.loop-i in
    let s = c.args in
    sym (refused_here s.p.now l.i l.invariant c.loop-i-test.true _ c.escape_at-c.ensures.is (sym c.is_refused.ensures ∙ c.if-is_refused.true))

pub loop-i-preserved : goal.loop-i-preserved
loop-i-preserved c =
    let l = c.loop-i in
    let s = c.args in
    refused_later s.p.now l.i l.invariant c.loop-i-test.true _ c.escape_at-c.ensures.is (sym c.is_refused.ensures ∙ c.if-is_refused.false)

pub returns : goal.returns
returns c =
    let l = c.loop-i in
    let s = c.args in
    sym (refused_none s.p.now l.i l.invariant c.loop-i-test.false)

pub loop-i-init : goal.loop-i-init
unfolding refuses
loop-i-init c = refl

pub loop-i-smaller-then-b-ne92 : goal.loop-i-smaller-then-b-ne92
unfolding refuses
loop-i-smaller-then-b-ne92 c = omega arith

pub loop-i-smaller-then-y-ne117 : goal.loop-i-smaller-then-y-ne117
unfolding refuses
loop-i-smaller-then-y-ne117 c = omega arith
