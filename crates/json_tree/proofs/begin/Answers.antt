-- A bracket, else a brace, else a leaf: each way is the calls' answers.
use mathlib.Core.Path.{◌∙◌}
use Rattle.json_tree.proofs.begin.Goals as goal

pub returns-in-Some : goal.returns-in-Some
returns-in-Some c = c.opened.ensures ∙ simp (← c.token.ensures, c.in-Some.is)

pub returns-in-Some-token : goal.returns-in-Some-token
returns-in-Some-token c = c.opened-in-Some-token.ensures ∙ simp (← c.token.ensures, c.in-None.is, ← c.token-in-None.ensures, c.in-Some-token.is)

pub returns-in-None-token : goal.returns-in-None-token
returns-in-None-token c = simp (← c.token.ensures, c.in-None.is, ← c.token-in-None.ensures, c.in-None-token.is)
