-- By the row of the message.
use mathlib.Core.Path.{ap}
use Rattle.table.specs.Offer.{as_message}
use Rattle.offers.proofs.Offers.{refused, is_new, judged}
use Rattle.offers.proofs.Stores.{skipped, fills}
use Rattle.offers.proofs.judge_message.Goals as goal

pub returns-then-refusal-ne0 : goal.returns-then-refusal-ne0
returns-then-refusal-ne0 c =
    let a = c.args in
    let both = refused a.table.now (as_message a.m.now) (ap (λ x. x.row) c.make_from-refusal.ensures.value) c.if-refusal-ne0.true c.make_from-refusal.ensures.value in record { value = both.0; result_value = both.1 }

pub judge-requires : goal.judge-requires
judge-requires c =
    let a = c.args in
    is_new a.table.now (as_message a.m.now) (ap (λ x. x.row) c.make_from-refusal.ensures.value) c.if-refusal-ne0.false c.make_from-refusal.ensures.out_after

pub returns-in-Fills : goal.returns-in-Fills
returns-in-Fills c =
    let a = c.args in
    let both = judged a.table.now (as_message a.m.now) (ap (λ x. x.row) c.make_from-refusal.ensures.value) c.if-refusal-ne0.false c.make_from-refusal.ensures.out_after
    (fills _ _ c.judge.ensures c.in-Fills.is).0 in record { value = both.0; result_value = both.1 }

pub returns-in-Answered : goal.returns-in-Answered
returns-in-Answered c =
    let a = c.args in
    let both = judged a.table.now (as_message a.m.now) (ap (λ x. x.row) c.make_from-refusal.ensures.value) c.if-refusal-ne0.false c.make_from-refusal.ensures.out_after
    (skipped _ _ c.judge.ensures c.in-Answered.is).0 in record { value = both.0; result_value = both.1 }
