-- A turn of the loop is a byte of w.
use mathlib.Core.Path.{sym, ◌∙◌}
use native.Mathlib.Omega.{arith}
use Rattle.json_tree.proofs.Bytes.{no_zero_lem, word_out, word_step}
use Rattle.json_tree.proofs.classes.word.Goals as goal

pub loop-b-preserved : goal.loop-b-preserved
loop-b-preserved c =
    let h = c.loop-b-test.true in
    (omega arith, sym (word_step _ _ _ _ h ∙ simp (← c.this.ensures, c.in_ok-i.was)) ∙ c.loop-b.invariant.1)

pub returns-in_err-i : goal.returns-in_err-i
returns-in_err-i c = c.from_residual.ensures ∙ sym (word_step _ _ _ _ c.loop-b-test.true ∙ simp (← c.this.ensures, c.in_err-i.was)) ∙ c.loop-b.invariant.1

pub this-requires : goal.this-requires
this-requires c = no_zero_lem c.args.w.now c.loop-b.b-index c.requires c.loop-b-test.true

pub returns : goal.returns
returns c = sym (word_out _ _ _ _ c.loop-b-test.false) ∙ c.loop-b.invariant.1
