-- A byte, and the white space after it.
use Rattle.std.specs.Prelude.{Some}
use mathlib.Core.Path.{ap, ◌∙◌}
use Rattle.json_tree.specs.Grammar.{token_at}
use Rattle.json_tree.proofs.classes.token.Goals as goal

pub returns-in_err-n : goal.returns-in_err-n
unfolding token_at
returns-in_err-n c = c.from_residual.ensures ∙ simp (← c.this.ensures, c.in_err-n.was)

pub returns : goal.returns
unfolding token_at
returns c = ap Some c.space.ensures ∙ simp (← c.this.ensures, c.in_ok-n.was)
