-- Each range is tested as the definition has it.
use borrow.Author.Rules.{rules}
use Rattle.json_tree.specs.Grammar.{in_class}
use Rattle.json_tree.proofs.classes.hex_digit.Goals as goal

pub between-requires : goal.between-requires
unfolding in_class
between-requires c = search rules

pub between-requires-else-between : goal.between-requires-else-between
unfolding in_class
between-requires-else-between c = search rules

pub between-requires-else-between-2 : goal.between-requires-else-between-2
unfolding in_class
between-requires-else-between-2 c = search rules

pub returns-then-between : goal.returns-then-between
unfolding in_class
returns-then-between c = simp (← c.between.ensures, c.if-between.true)

pub returns-then-between-2 : goal.returns-then-between-2
unfolding in_class
returns-then-between-2 c = simp (← c.between.ensures, c.if-between.false, ← c.between-else-between.ensures, c.if-between-2.true)

pub returns-else-between-2 : goal.returns-else-between-2
unfolding in_class
returns-else-between-2 c = simp (← c.between.ensures, c.if-between.false, ← c.between-else-between.ensures, c.if-between-2.false, c.between-else-between-2.ensures)
