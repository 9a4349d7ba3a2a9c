-- The rows of the filters, then 11, then 13 or the answer.
use mathlib.Core.Path.{sym, ◌∙◌}
use borrow.Author.Tests.{not-true, not-false}
use Rattle.matching.proofs.answers.Asked.{filters_refuse, not_sound, answers_rest}
use Rattle.matching.proofs.answer.Goals as goal

pub returns-then-r-ne0 : goal.returns-then-r-ne0
returns-then-r-ne0 c = let both = filters_refuse _ _ _ _ _ _ c.filters_row-r.ensures c.if-r-ne0.true in record { value = both.0; result_value = both.1.0; row_after = both.1.1 }

pub returns-then-not-sound : goal.returns-then-not-sound
returns-then-not-sound c = let both = not_sound _ _ _ _ _ (sym c.filters_row-r.ensures ∙ c.if-r-ne0.false) (sym c.sound.ensures ∙ not-true _ c.if-not-sound.true-raw) in record { value = both.0; result_value = both.1.0; row_after = both.1.1 }

pub answered-requires : goal.answered-requires
answered-requires c = (
  sym c.sound.ensures ∙ not-false _ c.if-not-sound.false-raw,
  sym
      c.filters_row-r.ensures ∙ c.if-r-ne0.false,
)

pub returns : goal.returns
returns c =
    let both = answers_rest _ _ _ _ _ (sym c.filters_row-r.ensures ∙ c.if-r-ne0.false)
    (sym c.sound.ensures ∙ not-false _ c.if-not-sound.false-raw) _ _
    c.answered.ensures.value c.answered.ensures.row_after in record { value = both.0; result_value = both.1.0; row_after = both.1.1 }
