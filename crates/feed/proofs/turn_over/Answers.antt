-- A law for each way out.
use Rattle.std.proofs.lemmas.Result.{err_from_is_err_and}
use mathlib.Core.Path.{sym}
use native.Mathlib.Omega.{arith}
use lib.Seq.{length-take-le}
use Rattle.feed.proofs.Turning.{narrow, unended, ended, ended_refused, part_empty}
use Rattle.feed.proofs.turn_over.Goals as goal

pub returns-then-line-lt-MOST_LINE : goal.returns-then-line-lt-MOST_LINE
returns-then-line-lt-MOST_LINE c = let both = narrow _ _ _ _ _ c.if-line-lt-MOST_LINE.true in record { value = both.0; result_value = both.1.0; table_after = both.1.1.0; line_after = both.1.1.1.0; out_after = both.1.1.1.1 }

pub returns-then-piece-e : goal.returns-then-piece-e
returns-then-piece-e c = let both = unended _ _ _ _ _ c.if-line-lt-MOST_LINE.false c.end_at-e.ensures c.if-piece-e.true c.keep-k.ensures in record { value = both.0; result_value = both.1.0; table_after = both.1.1.0; line_after = both.1.1.1.0; out_after = both.1.1.1.1 }

pub slice_bounds-answer_line-end : goal.slice_bounds-answer_line-end
slice_bounds-answer_line-end c = sym (length-take-le _ _ (omega (arith, c.if-piece-e.false)))

pub slice_bounds-keep-end : goal.slice_bounds-keep-end
slice_bounds-keep-end c = sym (length-take-le _ _ (omega (arith, c.if-piece-e.false)))

pub answer_line-requires : goal.answer_line-requires
answer_line-requires c = record { most_line_in_bounds = omega (arith, c.if-line-lt-MOST_LINE.false); part_len = part_empty c.args.table.now c.args.line.now _ _ c.args.out.now c.if-line-lt-MOST_LINE.false c.end_at-e.ensures c.if-piece-e.false c.requires }

pub returns : goal.returns
returns c = let both = ended _ _ _ _ _ c.if-line-lt-MOST_LINE.false c.end_at-e.ensures c.if-piece-e.false c.answer_line.ensures c.in_ok-w.was c.keep.ensures in record { value = both.0; result_value = both.1.0; table_after = both.1.1.0; line_after = both.1.1.1.0; out_after = both.1.1.1.1 }

pub returns-in_err-w : goal.returns-in_err-w
returns-in_err-w c =
    let q = err_from_is_err_and c.from_residual.result c.from_residual.ensures.1 in
    let both = ended_refused _ _ _ _ _ c.if-line-lt-MOST_LINE.false c.end_at-e.ensures c.if-piece-e.false c.answer_line.ensures c.in_err-w.was in
    rw (q.1, q.2) record { value = both.0; result_value = both.1.0; table_after = both.1.1.0; line_after = both.1.1.1.0; out_after = both.1.1.1.1 }
