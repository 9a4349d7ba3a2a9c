-- A row refuses the parts, or the text is written and the head before it.
use native.Mathlib.Omega.{arith}
use Rattle.offers.proofs.Makes.{slot_long, made_none, ready, made}
use Rattle.offers.proofs.made.make_slot.Goals as goal

pub put_fields-requires : goal.put_fields-requires
put_fields-requires c =
    let o = c.offered_text.ensures in
    let both = ready _ _ c.args.out.now c.requires o.value o.result_value c.in-Ok.is o.out_after in
    record { spells_hex = both.0; slot_size_in_bounds = both.1 }

pub returns-in-Ok : goal.returns-in-Ok
returns-in-Ok c =
    let o = c.offered_text.ensures in
    let both = made _ _ c.args.out.now c.requires o.value o.result_value c.in-Ok.is o.out_after c.put_fields.ensures in
    record { value = both.0; out_after = both.1 }

pub returns-in-Err : goal.returns-in-Err
returns-in-Err c =
    let o = c.offered_text.ensures in
    let both = made_none _ _ c.args.out.now c.requires o.value o.result_value c.in-Err.is in
    record { value = both.0; out_after = both.1 }

pub slice_bounds-offered_text-end : goal.slice_bounds-offered_text-end
slice_bounds-offered_text-end c = omega (arith, slot_long c.requires)
