-- A backslash, then u and four digits, else one of eight: each way is the calls' answers.
use mathlib.Core.Path.{◌∙◌}
use Rattle.json_tree.specs.Grammar.{escaped_at}
use Rattle.json_tree.proofs.leaves.escaped.Goals as goal

pub returns-in_err-n : goal.returns-in_err-n
unfolding escaped_at
returns-in_err-n c = c.from_residual.ensures ∙ simp (← c.this.ensures, c.in_err-n.was)

pub returns-in-Some : goal.returns-in-Some
unfolding escaped_at
returns-in-Some c = c.hex4.ensures ∙ simp (← c.this.ensures, c.in_ok-n.was, ← c.this-2.ensures, c.in-Some.is)

pub returns-in-None : goal.returns-in-None
unfolding escaped_at
returns-in-None c = c.letter.ensures ∙ simp (← c.this.ensures, c.in_ok-n.was, ← c.this-2.ensures, c.in-None.is)
