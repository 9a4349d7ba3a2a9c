-- A row of the parts, or the row that the rest tells, or none.
use mathlib.Core.Path.{sym, ◌∙◌}
use borrow.Author.Rules.{rules}
use Rattle.event.proofs.Answers.{early_row, row_none, row_of}
use Rattle.event.proofs.offered_row.Goals as goal

pub returns-then-early-ne0 : goal.returns-then-early-ne0
returns-then-early-ne0 c = early_row _ _ c.event_row-early.ensures c.if-early-ne0.true

pub rest-requires : goal.rest-requires
rest-requires c = record { t_len = search rules; p_value = sym c.event_row-early.ensures ∙ c.if-early-ne0.false }

pub returns-in-Ok : goal.returns-in-Ok
returns-in-Ok c = row_none _ _ c.rest.ensures c.in-Ok.is

pub returns-in-Err : goal.returns-in-Err
returns-in-Err c = row_of _ _ c.rest.ensures c.in-Err.is
