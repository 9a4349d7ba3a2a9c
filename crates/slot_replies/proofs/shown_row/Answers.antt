-- The number of what is shown.
use Rattle.slot_replies.proofs.Answers.{shown-number}
use Rattle.slot_replies.proofs.shown_row.Goals as goal

pub returns-in-Ok : goal.returns-in-Ok
returns-in-Ok c = shown-number _ _ _ c.in-Ok.is c.shown_at.ensures.result_value

pub returns-in-Err : goal.returns-in-Err
returns-in-Err c = shown-number _ _ _ c.in-Err.is c.shown_at.ensures.result_value
