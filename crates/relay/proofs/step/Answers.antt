-- A law for each way out; the place and the output are never passed.
use native.Mathlib.Omega.{arith}
use borrow.Rule.Slice.PartMut.{same_len_mid}
use Rattle.relay.proofs.Turns.{length_rest, goes, step_fed, step_refused}
use Rattle.relay.proofs.step.Goals as goal

pub overflow_add-next : goal.overflow_add-next
overflow_add-next g c =
    let t = c.turn.ensures in
    let s = c.requires.stands in
    omega (arith, goes _ _ _ _ _ _ _ c.requires.ready s c.requires.at_in_bounds (length_rest _ _ s.used, length_rest _ _ s.waits) (t.value, (t.result_value, (t.table_after, (t.line_after, t.out_after)))) c.in-Ok.is)

pub overflow_add-filled : goal.overflow_add-filled
overflow_add-filled g c =
    let t = c.turn.ensures in
    let s = c.requires.stands in
    omega (arith, goes _ _ _ _ _ _ _ c.requires.ready s c.requires.at_in_bounds (length_rest _ _ s.used, length_rest _ _ s.waits) (t.value, (t.result_value, (t.table_after, (t.line_after, t.out_after)))) c.in-Ok.is)

pub returns-in-Ok : goal.returns-in-Ok
returns-in-Ok g c =
    let t = c.turn.ensures in
    let s = c.requires.stands in
    let e = same_len_mid c.args.p.w _ c.args.out.now c.turn.new.out c.turn.auto.out in
    let r = step_fed _ _ _ _ _ _ _ c.requires.ready s c.requires.at_in_bounds (length_rest _ _ s.used, length_rest _ _ s.waits) (t.value, (t.result_value, (t.table_after, (t.line_after, t.out_after)))) c.in-Ok.is e in
    record { ready_2 = r.0; stands_2 = r.1.0; result_bound = r.1.1 }

pub returns-in_err-write-in-Err-clause-ready_2 : goal.returns-in_err-write-in-Err-clause-ready_2
returns-in_err-write-in-Err-clause-ready_2 g c =
    let t = c.turn.ensures in
    let s = c.requires.stands in
    let e = same_len_mid c.args.p.w _ c.args.out.now c.turn.new.out c.turn.auto.out in
    (step_refused _ _ _ _ _ _ _ c.requires.ready s c.requires.at_in_bounds (length_rest _ _ s.used, length_rest _ _ s.waits) (t.value, (t.result_value, (t.table_after, (t.line_after, t.out_after)))) c.in-Err.is e).0

pub returns-in_ok-write-in-Err : goal.returns-in_ok-write-in-Err
returns-in_ok-write-in-Err g c =
    let t = c.turn.ensures in
    let s = c.requires.stands in
    let e = same_len_mid c.args.p.w _ c.args.out.now c.turn.new.out c.turn.auto.out in
    let r = step_refused _ _ _ _ _ _ _ c.requires.ready s c.requires.at_in_bounds (length_rest _ _ s.used, length_rest _ _ s.waits) (t.value, (t.result_value, (t.table_after, (t.line_after, t.out_after)))) c.in-Err.is e in
    record { ready_2 = r.0; stands_2 = r.1.0; result_bound = r.1.1 }
