-- The row that testing tells, or the text that it left in the buffer.
use Rattle.std.proofs.lemmas.Result.{err_from_is_err_and}
use Rattle.event.proofs.Answers.{text-inside, text_length, then-given, rows_first}
use Rattle.event.proofs.tested.rest_text.Goals as goal

pub slice_bounds-t-end : goal.slice_bounds-t-end
slice_bounds-t-end c = text-inside _ _ c.rest.ensures c.in_ok-n.was

pub slice_bounds-give-end : goal.slice_bounds-give-end
slice_bounds-give-end c = text_length _ _ c.rest.ensures c.in_ok-n.was

pub returns : goal.returns
returns c = let both = then-given _ _ c.rest.ensures c.in_ok-n.was _ c.give.ensures.value c.give.ensures.out_after in record { value = both.0; result_value = both.1.0; out_after = both.1.1 }

pub returns-in_err-n : goal.returns-in_err-n
returns-in_err-n c =
    let q = err_from_is_err_and c.from_residual.result c.from_residual.ensures.1 in
    let both = rows_first _ _ c.rest.ensures c.in_err-n.was c.args.out.now in record { value = rw (q.1, q.2) both.0; result_value = rw (q.1, q.2) both.1.0; out_after = both.1.1 }
