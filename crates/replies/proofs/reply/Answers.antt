-- A law for each way out.
use Rattle.replies.proofs.Written.{reply_refused, reply_put, reply_short}
use Rattle.replies.proofs.reply.Goals as goal

pub returns-then-row-ne0 : goal.returns-then-row-ne0
returns-then-row-ne0 c = let both = reply_refused _ _ _ c.parts_row-row.ensures c.if-row-ne0.true in record { value = both.0; result_value = both.1.0; out_after = both.1.1 }

pub returns-then-reply_fits : goal.returns-then-reply_fits
returns-then-reply_fits c =
    let both = reply_put _ _ _ c.parts_row-row.ensures c.if-row-ne0.false c.reply_fits.ensures
    c.if-reply_fits.true c.put_reply.ensures in record { value = both.0; result_value = both.1.0; out_after = both.1.1 }

pub returns : goal.returns
returns c =
    let both = reply_short _ _ _ c.parts_row-row.ensures c.if-row-ne0.false
    c.reply_fits.ensures c.if-reply_fits.false in record { value = both.0; result_value = both.1.0; out_after = both.1.1 }
