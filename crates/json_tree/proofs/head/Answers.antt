-- In an object a string and a colon, in an array nothing: each way is the calls' answers.
use mathlib.Core.Path.{◌∙◌}
use Rattle.json_tree.proofs.head.Goals as goal

pub returns-then-not-named : goal.returns-then-not-named
returns-then-not-named c = simp c.if-not-named.true

pub returns-in_err-n : goal.returns-in_err-n
returns-in_err-n c = c.from_residual.ensures ∙ simp (c.if-not-named.false, ← c.string.ensures, c.in_err-n.was)

pub returns : goal.returns
returns c = c.token.ensures ∙ simp (c.if-not-named.false, ← c.string.ensures, c.in_ok-n.was, ← c.space.ensures)
