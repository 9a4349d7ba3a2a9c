-- Each byte is tested as the definition has it.
use native.Mathlib.Omega.{arith}
use Rattle.std.proofs.lemmas.Grind.{common_steps}
use Rattle.json_tree.specs.Grammar.{in_class}
use Rattle.json_tree.proofs.classes.short.Goals as goal

pub returns-in-34 : goal.returns-in-34
unfolding in_class
returns-in-34 c = grind (arith, common_steps)

pub returns-in_default : goal.returns-in_default
unfolding in_class
returns-in_default c = grind (arith, common_steps)
