-- A digit and the run from it on is the run from it on.
use Rattle.std.specs.Prelude.{Some}
use mathlib.Core.Path.{refl, ap, sym, ◌∙◌}
use borrow.Author.Rules.{rules}
use Rattle.json_tree.specs.Grammar.{in_class, one_at, digits_at}
use Rattle.json_tree.proofs.Bytes.{digits_are}
use Rattle.json_tree.proofs.leaves.digits.Goals as goal

pub byte-requires : goal.byte-requires
unfolding in_class one_at digits_at
byte-requires c = search rules

pub between-requires : goal.between-requires
unfolding in_class one_at digits_at
between-requires c = search rules

pub skip-requires : goal.skip-requires
unfolding in_class one_at digits_at
skip-requires c = refl

pub returns-then-between : goal.returns-then-between
unfolding in_class one_at digits_at
returns-then-between c = ap Some c.skip.ensures ∙ sym (digits_are _ _ (rw (← c.byte.ensures, ← c.between.ensures) c.if-between.true))

pub returns-else-between : goal.returns-else-between
unfolding in_class one_at digits_at
returns-else-between c = simp (← c.byte.ensures, ← c.between.ensures, c.if-between.false)
