-- By the row of the parts.
use mathlib.Core.Path.{ap, ◌∙◌}
use Rattle.shape.specs.Offsets.{plain_refusal}
use Rattle.table.specs.Offer.{as_parts}
use Rattle.offers.proofs.Offers.{refused_stays, is_new, taken}
use Rattle.offers.proofs.offer_parts.Goals as goal

pub returns-then-row-ne0 : goal.returns-then-row-ne0
returns-then-row-ne0 c =
    let a = c.args in
    let both = refused_stays a.table.now (as_parts a.b.now a.p) c.make_slot-row.ensures.value c.if-row-ne0.true
    (c.plain_refusal.ensures ∙ ap plain_refusal c.make_slot-row.ensures.value) in
    record { value = both.0; result_value = both.1.0; table_after = both.1.1 }

pub offer_slot-requires : goal.offer_slot-requires
offer_slot-requires c =
    let a = c.args in
    is_new a.table.now (as_parts a.b.now a.p) c.make_slot-row.ensures.value c.if-row-ne0.false c.make_slot-row.ensures.out_after

pub returns : goal.returns
returns c =
    let a = c.args in
    let both = taken a.table.now (as_parts a.b.now a.p) c.make_slot-row.ensures.value c.if-row-ne0.false c.make_slot-row.ensures.out_after (c.offer_slot.ensures.value, c.offer_slot.ensures.table_after) in
    record { value = both.0; result_value = both.1.0; table_after = both.1.1 }
