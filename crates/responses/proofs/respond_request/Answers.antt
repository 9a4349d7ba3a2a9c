-- A law for each way out.
use mathlib.Core.Path.{refl, sym}
use native.Mathlib.Omega.{arith}
use lib.Seq.{length-take-le}
use Rattle.responses.proofs.Ways.{row_room_lem, all_held_lem, request_said, request_refused}
use Rattle.responses.proofs.respond_request.Goals as goal

pub slice_bounds-row-end : goal.slice_bounds-row-end
slice_bounds-row-end c = omega (arith, row_room_lem _ _ _ c.requires c.filters_at-fs.ensures _ refl c.answer.ensures.value c.in-Ok.is)

pub slice_bounds-put_answer-end : goal.slice_bounds-put_answer-end
slice_bounds-put_answer-end c = sym (length-take-le _ _ (omega (arith, row_room_lem _ _ _ c.requires c.filters_at-fs.ensures _ refl c.answer.ensures.value c.in-Ok.is)))

pub put_answer-requires : goal.put_answer-requires
put_answer-requires c = all_held_lem _ _ _ c.requires c.filters_at-fs.ensures _ refl c.answer.ensures.value c.in-Ok.is c.answer.ensures.row_after

pub returns-in-Ok : goal.returns-in-Ok
returns-in-Ok c = request_said _ _ _ c.requires c.filters_at-fs.ensures _ refl c.answer.ensures.value c.in-Ok.is c.answer.ensures.row_after c.put_answer.ensures

pub returns-in-Err : goal.returns-in-Err
returns-in-Err c = request_refused _ _ _ c.requires c.filters_at-fs.ensures _ refl c.answer.ensures.value c.in-Err.is c.plain_refusal-refusal.ensures c.respond_refused.ensures
