-- A string has two quotes and lies within the text.
use borrow.Author.Rules.{rules}
use mathlib.Core.Path.{sym, ◌∙◌}
use native.Mathlib.Omega.{arith}
use Rattle.json_tree.proofs.Spelled.{string_parts}
use Rattle.rows.specs.Strings.{spelled_at}
use Rattle.matching.proofs.found.span.Goals as goal

pub string-requires : goal.string-requires
unfolding spelled_at
string-requires c = search rules

pub enum_known-n : goal.enum_known-n
unfolding spelled_at
enum_known-n c = search rules

pub overflow_add-result : goal.overflow_add-result
unfolding spelled_at
overflow_add-result c = let h = string_parts _ _ _ (sym c.string.ensures ∙ c.in-Some.is) in omega (arith, h.3, h.4)

pub overflow_sub-result : goal.overflow_sub-result
unfolding spelled_at
overflow_sub-result c = let h = string_parts _ _ _ (sym c.string.ensures ∙ c.in-Some.is) in omega (arith, h.3)

pub overflow_sub-result-in-Some : goal.overflow_sub-result-in-Some
unfolding spelled_at
overflow_sub-result-in-Some c = let h = string_parts _ _ _ (sym c.string.ensures ∙ c.in-Some.is) in omega (arith, h.3)

pub enum_told-1 : goal.enum_told-1
unfolding spelled_at
enum_told-1 c = search rules

pub returns-in-Some : goal.returns-in-Some
unfolding spelled_at
returns-in-Some c = simp (← c.string.ensures, c.in-Some.is)

pub returns-in-None : goal.returns-in-None
unfolding spelled_at
returns-in-None c = simp (← c.string.ensures, c.in-None.is)
