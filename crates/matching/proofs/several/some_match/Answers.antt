use mathlib.Core.Path.{sym, ◌∙◌}
use native.Mathlib.Nat.{sub-zero}
use native.Mathlib.Omega.{arith}
use Rattle.query.specs.Match.{matches_some}
use Rattle.query.specs.Answer.{meant}
use Rattle.matching.proofs.answers.Asked.{few_filters, each_passed}
use Rattle.matching.proofs.several.Ways.{rest_none, rest_yes, rest_more}
use Rattle.matching.proofs.several.some_match.Goals as goal

pub loop-i-init : goal.loop-i-init
loop-i-init c = simp sub-zero

pub bounds-fs-i : goal.bounds-fs-i
bounds-fs-i c = omega (arith, c.loop-i-test.true, few_filters _ _ _ c.requires.n_value, c.well_formed.1.1.1.0.1.0.1)

pub one_match-requires : goal.one_match-requires
one_match-requires c = record { tags_value = c.requires.tags_value; f_value = each_passed _ _ _ c.requires.n_value _ _ c.loop-i-test.true (omega (arith, c.loop-i-test.true, few_filters _ _ _ c.requires.n_value, c.well_formed.1.1.1.0.1.0.1)) }

pub returns-then-one_match : goal.returns-then-one_match
unfolding matches_some meant
returns-then-one_match c = rest_yes _ _ _ _ _ c.loop-i.invariant c.loop-i-test.true (omega (arith, c.loop-i-test.true, few_filters _ _ _ c.requires.n_value, c.well_formed.1.1.1.0.1.0.1)) _ (sym c.one_match.ensures ∙ c.if-one_match.true)

pub loop-i-preserved : goal.loop-i-preserved
loop-i-preserved c = rest_more _ _ _ _ _ c.loop-i.invariant c.loop-i-test.true (omega (arith, c.loop-i-test.true, few_filters _ _ _ c.requires.n_value, c.well_formed.1.1.1.0.1.0.1)) _ (sym c.one_match.ensures ∙ c.if-one_match.false)

pub returns : goal.returns
unfolding matches_some meant
returns c = rest_none _ _ _ _ _ c.loop-i.invariant c.loop-i-test.false

pub offset_bounds-fs-i : goal.offset_bounds-fs-i
offset_bounds-fs-i c = omega (arith, c.loop-i-test.true, few_filters _ _ _ c.requires.n_value, c.well_formed.1.1.1.0.1.0.1)
