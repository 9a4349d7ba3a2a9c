-- A row refuses the message, or the text of its event is written and the head before it.
use native.Mathlib.Omega.{arith}
use Rattle.std.proofs.lemmas.Result.{err_from_is_err_and}
use Rattle.offers.proofs.Makes.{slot_long}
use Rattle.offers.proofs.From.{from_ready, from_event, from_refused}
use Rattle.offers.proofs.made.make_event.Goals as goal

pub put_fields-requires : goal.put_fields-requires
put_fields-requires c =
    let o = c.sent_text.ensures in
    let both = from_ready _ c.args.out.now c.requires o.value c.in_ok-p.was o.out_after in
    record { spells_hex = both.0; slot_size_in_bounds = both.1 }

pub returns : goal.returns
returns c =
    let o = c.sent_text.ensures in
    from_event _ c.args.out.now c.requires o.value c.in_ok-p.was o.out_after c.put_fields.ensures

pub returns-in_err-p : goal.returns-in_err-p
returns-in_err-p c =
    let o = c.sent_text.ensures in
    let q = err_from_is_err_and c.from_residual.result c.from_residual.ensures.1 in
    rw (q.1, q.2) (from_refused _ c.args.out.now c.requires o.value o.result_value c.in_err-p.was)

pub slice_bounds-sent_text-end : goal.slice_bounds-sent_text-end
slice_bounds-sent_text-end c = omega (arith, slot_long c.requires)
