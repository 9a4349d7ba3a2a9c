use mathlib.Core.Path.{sym, ◌∙◌}
use native.Mathlib.Omega.{arith}
use Rattle.json_tree.proofs.Ends.{escaped_ends, chars_more, chars_none, char_plain, char_escaped, chars_past}
use Rattle.json_tree.proofs.leaves.chars.Goals as goal

-- past eight bytes at once
pub loop-i-smaller-then-i-n : goal.loop-i-smaller-then-i-n
loop-i-smaller-then-i-n c = let h = c.loop-i-test.true in let k = c.if-i-n.true in omega arith

pub loop-i-preserved-then-i-n : goal.loop-i-preserved-then-i-n
loop-i-preserved-then-i-n c = c.past8-n.ensures.same ∙ c.loop-i.invariant

pub loop-i-smaller : goal.loop-i-smaller
loop-i-smaller c =
    let h = escaped_ends _ _ _ (sym c.escaped.ensures ∙ c.in-Some.is) in
    omega arith

pub loop-i-preserved : goal.loop-i-preserved
loop-i-preserved c =
    let p = char_escaped _ _ c.loop-i-test.true (sym c.own.ensures ∙ c.if-own.false) in
    chars_more _ _ _ (p ∙ sym c.escaped.ensures ∙ c.in-Some.is) ∙ c.loop-i.invariant

pub returns-in_default : goal.returns-in_default
returns-in_default c =
    let p = char_escaped _ _ c.loop-i-test.true (sym c.own.ensures ∙ c.if-own.false) in
    sym (chars_none _ _ (p ∙ sym c.escaped.ensures ∙ c.in_default.is)) ∙ c.loop-i.invariant

pub loop-i-preserved-then-own : goal.loop-i-preserved-then-own
loop-i-preserved-then-own c = chars_more _ _ _ (char_plain _ _ c.loop-i-test.true (sym c.own.ensures ∙ c.if-own.true)) ∙ c.loop-i.invariant

pub returns : goal.returns
returns c = sym (chars_past _ _ c.loop-i-test.false) ∙ c.loop-i.invariant
