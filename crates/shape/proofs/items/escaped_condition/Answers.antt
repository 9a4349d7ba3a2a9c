use borrow.Author.Tests.{ne_eqb}
use mathlib.Core.Path.{sym, ap, ◌∙◌}
use native.Mathlib.Omega.{arith}
use Rattle.shape.specs.Shape.{is_condition}
use Rattle.shape.specs.Inner.{condition_slot}
use Rattle.wire.proofs.Bytes.{same_equal}
use Rattle.shape.proofs.Names.{condition_letter_lem, condition_none, one_more}
use Rattle.shape.proofs.items.escaped_condition.Goals as goal

pub returns-then-decoded_len-ne2 : goal.returns-then-decoded_len-ne2
unfolding condition_slot is_condition
returns-then-decoded_len-ne2 c = simp (ne_eqb _ _ (λ e. c.if-decoded_len-ne2.true (c.decoded_len.ensures ∙ e)))

pub returns-then-spells : goal.returns-then-spells
returns-then-spells c = c.letter_slot.ensures ∙ condition_letter_lem _ ∙ ap condition_slot (sym (same_equal _ _ (sym c.spells.ensures ∙ c.if-spells.true)))

pub loop-b-preserved : goal.loop-b-preserved
loop-b-preserved c = one_more _ _ c.loop-b.invariant (sym c.spells.ensures ∙ c.if-spells.false)

pub returns : goal.returns
returns c = condition_none _ (λ k h l. c.loop-b.invariant k h (omega (arith, c.loop-b-test.false)))
