-- The byte b lies within the text, so the place after it fits.
use mathlib.Core.Path.{sym, ◌∙◌}
use native.Mathlib.Omega.{arith}
use borrow.Author.Rules.{rules}
use borrow.Author.Tests.{eq-eqb, ne_eqb}
use Rattle.json_tree.specs.Grammar.{in_class, one_at}
use Rattle.json_tree.specs.declared.Class.TheVariants.{Byte}
use Rattle.json_tree.proofs.Bytes.{byte_not_zero, class_within}
use Rattle.json_tree.proofs.classes.this.Goals as goal

pub overflow_add-result : goal.overflow_add-result
unfolding in_class
overflow_add-result c =
    let h = class_within (Byte c.args.b) c.args.s.now c.args.at (byte_not_zero _ c.requires) (eq-eqb _ _ (sym c.byte.ensures ∙ c.if-byte-b.true)) in
    omega arith

pub byte-requires : goal.byte-requires
unfolding in_class one_at
byte-requires c = search rules

pub returns-then-byte-b : goal.returns-then-byte-b
unfolding in_class one_at
returns-then-byte-b c = simp (eq-eqb _ _ (sym c.byte.ensures ∙ c.if-byte-b.true))

pub returns-else-byte-b : goal.returns-else-byte-b
unfolding in_class one_at
returns-else-byte-b c = simp (ne_eqb _ _ (λ e. c.if-byte-b.false (c.byte.ensures ∙ e)))
