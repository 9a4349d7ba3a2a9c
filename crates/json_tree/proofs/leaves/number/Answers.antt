-- The parts in turn: each way is the calls' answers.
use mathlib.Core.Path.{◌∙◌}
use Rattle.json_tree.specs.Grammar.{number_at}
use Rattle.json_tree.proofs.Ends.{case_or}
use Rattle.json_tree.proofs.leaves.number.Goals as goal

pub returns-in_err-n : goal.returns-in_err-n
unfolding number_at
returns-in_err-n c = c.from_residual.ensures ∙ simp (← c.this.ensures, ← case_or, ← c.unwrap_or.ensures, ← c.int.ensures, c.in_err-n.was)

pub returns-in_err-m : goal.returns-in_err-m
unfolding number_at
returns-in_err-m c = c.from_residual-in_err-m.ensures ∙ simp (← c.this.ensures, ← case_or, ← c.unwrap_or.ensures, ← c.int.ensures, c.in_ok-n.was, ← c.frac.ensures, c.in_err-m.was)

pub returns : goal.returns
unfolding number_at
returns c = c.exp.ensures ∙ simp (← c.this.ensures, ← case_or, ← c.unwrap_or.ensures, ← c.int.ensures, c.in_ok-n.was, ← c.frac.ensures, c.in_ok-m.was)
