-- A point and digits, or nothing: each way is the calls' answers.
use mathlib.Core.Path.{◌∙◌}
use borrow.Author.Rules.{rules}
use Rattle.json_tree.specs.Grammar.{frac_at}
use Rattle.json_tree.proofs.leaves.frac.Goals as goal

pub this-requires : goal.this-requires
unfolding frac_at
this-requires c = search rules

pub enum_known-n : goal.enum_known-n
unfolding frac_at
enum_known-n c = search rules

pub digits-requires : goal.digits-requires
unfolding frac_at
digits-requires c = search rules

pub enum_told-1 : goal.enum_told-1
unfolding frac_at
enum_told-1 c = search rules

pub returns-in-Some : goal.returns-in-Some
unfolding frac_at
returns-in-Some c = c.digits.ensures ∙ simp (← c.this.ensures, c.in-Some.is)

pub returns-in-None : goal.returns-in-None
unfolding frac_at
returns-in-None c = simp (← c.this.ensures, c.in-None.is)
