use mathlib.Core.Path.{sym, ◌∙◌}
use native.Mathlib.Omega.{arith}
use borrow.Author.Tests.{eq-eqb, ne_eqb}
use Rattle.text.proofs.Pieces.{in_text}
use Rattle.text.proofs.Ways.{no_zero_lem, stands_out, stands_step}
use Rattle.text.proofs.body.stands.Goals as goal

pub returns-then-byte-b : goal.returns-then-byte-b
returns-then-byte-b c =
    let l = c.loop-b in
    sym (stands_step _ _ _ _ c.loop-b-test.true ∙ simp (← c.byte.ensures, ne_eqb _ _ c.if-byte-b.true)) ∙ l.invariant

pub loop-b-preserved : goal.loop-b-preserved
loop-b-preserved c =
    let l = c.loop-b in
    sym (stands_step _ _ _ _ c.loop-b-test.true ∙ simp (← c.byte.ensures, eq-eqb _ _ c.if-byte-b.false)) ∙ l.invariant

pub overflow_add-i : goal.overflow_add-i
overflow_add-i c = let h = no_zero_lem c.args.w.now c.loop-b.b-index c.requires c.loop-b-test.true in let k = in_text c.args.s.now c.loop-b.i _ h (sym c.byte.ensures ∙ c.if-byte-b.false) in omega arith

pub returns : goal.returns
returns c = sym (stands_out _ _ _ _ c.loop-b-test.false) ∙ c.loop-b.invariant
