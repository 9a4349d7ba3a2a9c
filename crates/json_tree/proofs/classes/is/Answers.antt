-- Each class is tested as the definition has it.
use borrow.Author.Rules.{rules}
use Rattle.json_tree.specs.Grammar.{in_class}
use Rattle.json_tree.proofs.Bytes.{tests}
use Rattle.json_tree.proofs.classes.is.Goals as goal

pub enum_told-1 : goal.enum_told-1
unfolding in_class
enum_told-1 c = search rules

pub enum_told-in-Digit : goal.enum_told-in-Digit
unfolding in_class
enum_told-in-Digit c = search rules

pub between-requires : goal.between-requires
unfolding in_class
between-requires c = search rules

pub enum_told-in-Plain : goal.enum_told-in-Plain
unfolding in_class
enum_told-in-Plain c = search rules

pub own-requires : goal.own-requires
unfolding in_class
own-requires c = search rules

pub enum_told-in-Hex : goal.enum_told-in-Hex
unfolding in_class
enum_told-in-Hex c = search rules

pub hex_digit-requires : goal.hex_digit-requires
unfolding in_class
hex_digit-requires c = search rules

pub enum_told-in-Short : goal.enum_told-in-Short
unfolding in_class
enum_told-in-Short c = search rules

pub short-requires : goal.short-requires
unfolding in_class
short-requires c = search rules

pub enum_told-in-Exponent : goal.enum_told-in-Exponent
unfolding in_class
enum_told-in-Exponent c = search rules

pub enum_told-in-Sign : goal.enum_told-in-Sign
unfolding in_class
enum_told-in-Sign c = search rules

pub enum_known-class : goal.enum_known-class
unfolding in_class
enum_known-class c = search rules

pub returns-then-b-eq32 : goal.returns-then-b-eq32
unfolding in_class
returns-then-b-eq32 c = search (tests, c.in-Space.is)

pub returns-then-b-eq9 : goal.returns-then-b-eq9
unfolding in_class
returns-then-b-eq9 c = search (tests, c.in-Space.is)

pub returns-then-b-eq10 : goal.returns-then-b-eq10
unfolding in_class
returns-then-b-eq10 c = search (tests, c.in-Space.is)

pub returns-else-b-eq10 : goal.returns-else-b-eq10
unfolding in_class
returns-else-b-eq10 c = search (tests, c.in-Space.is)

pub returns-in-Digit : goal.returns-in-Digit
unfolding in_class
returns-in-Digit c = simp (c.in-Digit.is, c.between.ensures)

pub returns-in-Plain : goal.returns-in-Plain
unfolding in_class
returns-in-Plain c = simp (c.in-Plain.is, c.own.ensures)

pub returns-in-Hex : goal.returns-in-Hex
unfolding in_class
returns-in-Hex c = simp (c.in-Hex.is, c.hex_digit.ensures)

pub returns-in-Short : goal.returns-in-Short
unfolding in_class
returns-in-Short c = simp (c.in-Short.is, c.short.ensures)

pub returns-then-b-eq101 : goal.returns-then-b-eq101
unfolding in_class
returns-then-b-eq101 c = search (tests, c.in-Exponent.is)

pub returns-else-b-eq101 : goal.returns-else-b-eq101
unfolding in_class
returns-else-b-eq101 c = search (tests, c.in-Exponent.is)

pub returns-then-b-eq45 : goal.returns-then-b-eq45
unfolding in_class
returns-then-b-eq45 c = search (tests, c.in-Sign.is)

pub returns-else-b-eq45 : goal.returns-else-b-eq45
unfolding in_class
returns-else-b-eq45 c = search (tests, c.in-Sign.is)

pub returns-in-Byte : goal.returns-in-Byte
unfolding in_class
returns-in-Byte c = simp c.in-Byte.is
