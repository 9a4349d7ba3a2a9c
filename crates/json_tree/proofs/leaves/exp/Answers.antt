use mathlib.Core.Path.{◌∙◌, refl}
use Rattle.json_tree.specs.Grammar.{in_class, exp_at}
use Rattle.json_tree.proofs.Ends.{case_or}
use Rattle.json_tree.proofs.leaves.exp.Goals as goal

pub one-requires : goal.one-requires
unfolding in_class
one-requires c = refl

pub one-requires-in-Some : goal.one-requires-in-Some
unfolding in_class
one-requires-in-Some c = refl

pub returns-in-Some : goal.returns-in-Some
unfolding exp_at
returns-in-Some c =
    c.digits.ensures ∙ simp (c.unwrap_or.ensures, case_or, ← c.one.ensures, c.in-Some.is, ← c.one-in-Some.ensures)

pub returns-in-None : goal.returns-in-None
unfolding exp_at
returns-in-None c = simp (← c.one.ensures, c.in-None.is)
