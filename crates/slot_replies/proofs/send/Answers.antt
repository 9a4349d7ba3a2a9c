-- A row refuses, or the lines that fit are put.
use mathlib.Core.Path.{sym}
use lib.Seq.{length-take-le}
use Rattle.slot_replies.proofs.Batches.{held_few, lines_few, lines_refused, lines_sent}
use Rattle.slot_replies.proofs.send.Goals as goal

pub slice_bounds-fit_lines-end : goal.slice_bounds-fit_lines-end
slice_bounds-fit_lines-end c = sym (length-take-le _ _ (held_few _ _ c.held_len-held.ensures))

pub slice_bounds-put_events-end : goal.slice_bounds-put_events-end
slice_bounds-put_events-end c =
    let a = c.args in
    sym (length-take-le _ _
    (lines_few a.table.now a.ks.now _ c.held_len-held.result c.string_len-n.result
    c.fit_lines-f.ensures))

pub returns-then-row-ne0 : goal.returns-then-row-ne0
returns-then-row-ne0 c =
    let both = lines_refused _ _ _ _ c.requires c.well_formed.1.1.1.0.0 c.string_len-n.ensures c.held_len-held.ensures
    c.fit_lines-f.ensures c.fit_row-row.ensures c.if-row-ne0.true in record { value = both.0; out_after = both.1 }

pub returns : goal.returns
returns c =
    let both = lines_sent _ _ _ _ c.requires c.well_formed.1.1.1.0.0 c.string_len-n.ensures c.held_len-held.ensures
    c.fit_lines-f.ensures c.fit_row-row.ensures c.if-row-ne0.false
    c.put_events.ensures in record { value = both.0; out_after = both.1 }
