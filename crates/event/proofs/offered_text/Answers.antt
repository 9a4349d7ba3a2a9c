-- A row of the parts, or what the rest answers.
use mathlib.Core.Path.{sym, ◌∙◌}
use Rattle.event.proofs.Answers.{early-refused}
use Rattle.event.proofs.offered_text.Goals as goal

pub returns-then-row-ne0 : goal.returns-then-row-ne0
returns-then-row-ne0 c = let both = early-refused _ _ c.event_row-row.ensures c.if-row-ne0.true _ in record { value = both.0; result_value = both.1.0; out_after = both.1.1 }

pub rest_text-requires : goal.rest_text-requires
rest_text-requires c = sym c.event_row-row.ensures ∙ c.if-row-ne0.false

pub returns : goal.returns
returns c = c.rest_text.ensures
