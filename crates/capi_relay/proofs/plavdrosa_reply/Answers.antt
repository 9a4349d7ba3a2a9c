-- 0 and numbers over 5 are no form, and get 5; else `reply` got the parts that `reply_from` promises.
use Rattle.capi_relay.proofs.Laws.{form_zero, form_over, form_in, no_form, said_form}
use Rattle.capi_relay.proofs.plavdrosa_reply.Goals as goal

pub returns-then-form-eq0 : goal.returns-then-form-eq0
returns-then-form-eq0 c =
    let all = no_form _ _ _ _ (form_zero c.args.reply.now c.number_in-form.ensures c.if-form-eq0.true) in
    record { value = all.0; out_after = all.1.0; written_after = all.1.1 }

pub returns-then-form-gt5 : goal.returns-then-form-gt5
returns-then-form-gt5 c =
    let all = no_form _ _ _ _ (form_over c.args.reply.now c.number_in-form.ensures c.if-form-gt5.true) in
    record { value = all.0; out_after = all.1.0; written_after = all.1.1 }

pub returns : goal.returns
returns c =
    let t = c.told.ensures in
    let x = c.reply-x.ensures in
    let l = c.args.reply.now in
    let f = c.number_in-form.ensures in
    let all = said_form _ l _ _ f (form_in l f c.if-form-eq0.false c.if-form-gt5.false) c.reply_from-p.ensures x.value x.out_after t.value t.written_after in
    record { value = all.0; out_after = all.1.0; written_after = all.1.1 }
