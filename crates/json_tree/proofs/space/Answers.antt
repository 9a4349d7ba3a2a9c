-- A run of the class of white space.
use mathlib.Core.Path.{refl}
use Rattle.json_tree.specs.Grammar.{in_class}
use Rattle.json_tree.proofs.space.Goals as goal

pub skip-requires : goal.skip-requires
unfolding in_class
skip-requires c = refl

pub returns : goal.returns
unfolding in_class
returns c = c.skip.ensures
