-- A law for each way out.
use Rattle.replies.proofs.Written.{event_refused, event_large, event_passes}
use Rattle.replies.proofs.event_row.Goals as goal

pub returns-then-row-ne0 : goal.returns-then-row-ne0
returns-then-row-ne0 c = event_refused _ _ _ c.lower_row-row.ensures c.subscription_row.ensures
    c.event_row.ensures c.if-row-ne0.true

pub returns-then-text_len-gt-MOST_TEXT : goal.returns-then-text_len-gt-MOST_TEXT
returns-then-text_len-gt-MOST_TEXT c = event_large _ _ _ c.lower_row-row.ensures c.subscription_row.ensures
    c.event_row.ensures c.if-row-ne0.false
    c.text_len.ensures c.if-text_len-gt-MOST_TEXT.true

pub returns : goal.returns
returns c = event_passes _ _ _ c.lower_row-row.ensures c.subscription_row.ensures
    c.event_row.ensures c.if-row-ne0.false
    c.text_len.ensures c.if-text_len-gt-MOST_TEXT.false
