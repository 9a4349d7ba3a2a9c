-- Four digits one after the other: each way is the calls' answers.
use mathlib.Core.Path.{◌∙◌}
use Rattle.json_tree.specs.Grammar.{hex_at}
use Rattle.json_tree.proofs.leaves.hex4.Goals as goal

pub returns-in_err-a : goal.returns-in_err-a
unfolding hex_at
returns-in_err-a c = c.from_residual.ensures ∙ simp (← c.nibble.ensures, c.in_err-a.was)

pub returns-in_err-b : goal.returns-in_err-b
unfolding hex_at
returns-in_err-b c = c.from_residual-in_err-b.ensures ∙ simp (← c.nibble.ensures, c.in_ok-a.was, ← c.nibble-2.ensures, c.in_err-b.was)

pub returns-in_err-c : goal.returns-in_err-c
unfolding hex_at
returns-in_err-c c = c.from_residual-in_err-c.ensures ∙ simp (← c.nibble.ensures, c.in_ok-a.was, ← c.nibble-2.ensures, c.in_ok-b.was, ← c.nibble-3.ensures, c.in_err-c.was)

pub returns : goal.returns
unfolding hex_at
returns c = c.nibble-4.ensures ∙ simp (← c.nibble.ensures, c.in_ok-a.was, ← c.nibble-2.ensures, c.in_ok-b.was, ← c.nibble-3.ensures, c.in_ok-c.was)
