-- A string, else a number, else a name: each way is the calls' answers.
use mathlib.Core.Path.{◌∙◌}
use Rattle.json_tree.specs.Grammar.{scalar_at}
use Rattle.json_tree.proofs.scalar.Goals as goal

pub returns-in-Some : goal.returns-in-Some
unfolding scalar_at
returns-in-Some c = simp (← c.string.ensures, c.in-Some.is)

pub returns-in-Some-number : goal.returns-in-Some-number
unfolding scalar_at
returns-in-Some-number c = simp (← c.string.ensures, c.in_default.is, ← c.number.ensures, c.in-Some-number.is)

pub returns-in_err-n : goal.returns-in_err-n
unfolding scalar_at
returns-in_err-n c = c.from_residual.ensures ∙ simp (← c.string.ensures, c.in_default.is, ← c.number.ensures, c.in_default-number.is, ← c.literal.ensures, c.in_err-n.was)

pub returns : goal.returns
unfolding scalar_at
returns c = simp (← c.string.ensures, c.in_default.is, ← c.number.ensures, c.in_default-number.is, ← c.literal.ensures, c.in_ok-n.was)
