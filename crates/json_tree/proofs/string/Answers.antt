-- A quotation mark, characters, a quotation mark: each way is the calls' answers.
use mathlib.Core.Path.{◌∙◌}
use Rattle.json_tree.specs.Grammar.{string_at}
use Rattle.json_tree.proofs.string.Goals as goal

pub returns-in_err-n : goal.returns-in_err-n
unfolding string_at
returns-in_err-n c = c.from_residual.ensures ∙ simp (← c.this.ensures, c.in_err-n.was)

pub returns : goal.returns
unfolding string_at
returns c = c.this-2.ensures ∙ simp (← c.this.ensures, c.in_ok-n.was, ← c.chars.ensures)
