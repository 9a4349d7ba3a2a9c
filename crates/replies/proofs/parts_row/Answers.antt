-- The lowest row of each part, by the kind of reply.
use Rattle.replies.proofs.Written.{same_row, ok_row_lem, eose_row_lem, closed_row_lem, notice_row_lem}
use Rattle.replies.proofs.parts_row.Goals as goal

pub returns-in-Ok : goal.returns-in-Ok
returns-in-Ok c = same_row _ _ c.in-Ok.is
    (ok_row_lem _ _ _ c.lower_row.ensures c.hex_row.ensures c.string_row.ensures)

pub returns-in-Event : goal.returns-in-Event
returns-in-Event c = same_row _ _ c.in-Event.is c.event_row.ensures

pub returns-in-Eose : goal.returns-in-Eose
returns-in-Eose c = same_row _ _ c.in-Eose.is (eose_row_lem _ _ c.subscription_row.ensures)

pub returns-in-Closed : goal.returns-in-Closed
returns-in-Closed c = same_row _ _ c.in-Closed.is
    (closed_row_lem _ _ _ c.lower_row-in-Closed.ensures c.subscription_row-in-Closed.ensures
    c.string_row-in-Closed.ensures)

pub returns-in-Notice : goal.returns-in-Notice
returns-in-Notice c = same_row _ _ c.in-Notice.is (notice_row_lem _ _ c.string_row-in-Notice.ensures)
