-- A digit lies within the text, so the place after it fits.
use native.Mathlib.Omega.{arith}
use borrow.Author.Rules.{rules}
use Rattle.json_tree.specs.Grammar.{one_at}
use Rattle.json_tree.specs.declared.Class.TheVariants.{Hex}
use Rattle.json_tree.proofs.Bytes.{hex_not_zero, class_within}
use Rattle.json_tree.proofs.classes.nibble.Goals as goal

pub byte-requires : goal.byte-requires
unfolding one_at
byte-requires c = search rules

pub hex_digit-requires : goal.hex_digit-requires
unfolding one_at
hex_digit-requires c = search rules

pub overflow_add-result : goal.overflow_add-result
unfolding one_at
overflow_add-result c = let h = class_within Hex c.args.s.now c.args.at hex_not_zero (rw (← c.byte.ensures, ← c.hex_digit.ensures) c.if-hex_digit.true) in omega arith

pub returns-then-hex_digit : goal.returns-then-hex_digit
unfolding one_at
returns-then-hex_digit c = simp (← c.byte.ensures, ← c.hex_digit.ensures, c.if-hex_digit.true)

pub returns-else-hex_digit : goal.returns-else-hex_digit
unfolding one_at
returns-else-hex_digit c = simp (← c.byte.ensures, ← c.hex_digit.ensures, c.if-hex_digit.false)
