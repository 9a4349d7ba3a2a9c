-- A law for each way out.
use mathlib.Core.Path.{sym, ◌∙◌}
use native.Mathlib.Omega.{arith}
use Rattle.event.proofs.Strings.{string_ends}
use Rattle.matching.proofs.matcher.Tags.{second_at, name_no, name_yes, span_at_lem, span_is}
use Rattle.matching.proofs.matcher.second_string.Goals as goal

pub returns-in_err-i : goal.returns-in_err-i
returns-in_err-i c = c.from_residual.ensures ∙ second_at _ _ _ c.first.ensures c.in_err-i.was

pub returns-then-not-spells : goal.returns-then-not-spells
returns-then-not-spells c = name_no _ _ _ _ c.spelled.ensures c.spells.ensures c.if-not-spells.true ∙ second_at _ _ _ c.first.ensures c.in_ok-i.was

pub returns-in_err-j : goal.returns-in_err-j
returns-in_err-j c = c.from_residual-in_err-j.ensures ∙ span_at_lem _ _ c.next.ensures c.in_err-j.was ∙ name_yes _ _ _ _ c.spelled.ensures c.spells.ensures c.if-not-spells.false ∙ second_at _ _ _ c.first.ensures c.in_ok-i.was

pub returns-in-Some : goal.returns-in-Some
returns-in-Some c = span_is _ _ c.string.ensures c.in-Some.is ∙ span_at_lem _ _ c.next.ensures c.in_ok-j.was ∙ name_yes _ _ _ _ c.spelled.ensures c.spells.ensures c.if-not-spells.false ∙ second_at _ _ _ c.first.ensures c.in_ok-i.was

pub returns-in-None : goal.returns-in-None
returns-in-None c = span_is _ _ c.string.ensures c.in-None.is ∙ span_at_lem _ _ c.next.ensures c.in_ok-j.was ∙ name_yes _ _ _ _ c.spelled.ensures c.spells.ensures c.if-not-spells.false ∙ second_at _ _ _ c.first.ensures c.in_ok-i.was

pub overflow_add-result : goal.overflow_add-result
overflow_add-result c = let h = string_ends c.args.b.now _ (sym c.string.ensures ∙ c.in-Some.is) in omega (arith, h, c.well_formed.0.0)

pub overflow_sub-result : goal.overflow_sub-result
overflow_sub-result c = let h = string_ends c.args.b.now _ (sym c.string.ensures ∙ c.in-Some.is) in omega (arith, h, c.well_formed.0.0)

pub overflow_sub-result-in-Some : goal.overflow_sub-result-in-Some
overflow_sub-result-in-Some c = let h = string_ends c.args.b.now _ (sym c.string.ensures ∙ c.in-Some.is) in omega (arith, h, c.well_formed.0.0)
