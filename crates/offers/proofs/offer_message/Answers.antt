-- By the row of the message.
use mathlib.Core.Path.{ap}
use Rattle.table.specs.Offer.{as_message}
use Rattle.offers.proofs.Offers.{refused_stays, is_new, taken}
use Rattle.offers.proofs.offer_message.Goals as goal

pub returns-then-refusal-ne0 : goal.returns-then-refusal-ne0
returns-then-refusal-ne0 c =
    let a = c.args in
    let both = refused_stays a.table.now (as_message a.m.now) (ap (λ x. x.row) c.make_from-refusal.ensures.value) c.if-refusal-ne0.true c.make_from-refusal.ensures.value in
    record { value = both.0; result_value = both.1.0; table_after = both.1.1 }

pub offer_slot-requires : goal.offer_slot-requires
offer_slot-requires c =
    let a = c.args in
    is_new a.table.now (as_message a.m.now) (ap (λ x. x.row) c.make_from-refusal.ensures.value) c.if-refusal-ne0.false c.make_from-refusal.ensures.out_after

pub returns : goal.returns
returns c =
    let a = c.args in
    let both = taken a.table.now (as_message a.m.now) (ap (λ x. x.row) c.make_from-refusal.ensures.value) c.if-refusal-ne0.false c.make_from-refusal.ensures.out_after (c.offer_slot.ensures.value, c.offer_slot.ensures.table_after) in
    record { value = both.0; result_value = both.1.0; table_after = both.1.1 }
