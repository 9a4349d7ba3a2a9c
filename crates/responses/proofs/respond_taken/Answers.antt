-- By what was taken.
use Rattle.std.specs.Prelude.{Ok}
use mathlib.Core.Path.{ap, ◌∙◌}
use Rattle.responses.proofs.Ways.{taken_event, taken_req, taken_request, taken_close, taken_refused}
use Rattle.responses.proofs.respond_taken.Goals as goal

pub respond_request-requires : goal.respond_request-requires
respond_request-requires c =
    let a = c.args in
    taken_req a.table.now a.m.now a.out.now c.take.ensures.value c.take.ensures.table_after (c.in-Ok-Req.is ∙ ap Ok c.in-Ok-Req.field-0-is)

pub returns-in-Ok-Event : goal.returns-in-Ok-Event
returns-in-Ok-Event c =
    let both = let a = c.args in
    taken_event a.table.now a.m.now a.out.now c.take.ensures.value c.take.ensures.table_after c.requires (c.in-Ok-Event.is ∙ ap Ok c.in-Ok-Event.field-0-is) c.put_ok-n.ensures c.put.ensures in record { value = both.0; result_value = both.1.0; out_after = both.1.1.0; table_after = both.1.1.1 }

pub returns-in-Ok-Req : goal.returns-in-Ok-Req
returns-in-Ok-Req c =
    let both = let a = c.args in
    taken_request a.table.now a.m.now a.out.now c.take.ensures.value c.take.ensures.table_after (c.in-Ok-Req.is ∙ ap Ok c.in-Ok-Req.field-0-is) c.respond_request.ensures in record { value = both.0; result_value = both.1.0; out_after = both.1.1.0; table_after = both.1.1.1 }

pub returns-in-Ok-Close : goal.returns-in-Ok-Close
returns-in-Ok-Close c =
    let both = let a = c.args in
    taken_close a.table.now a.m.now a.out.now c.take.ensures.value c.take.ensures.table_after (c.in-Ok-Close.is ∙ ap Ok c.in-Ok-Close.field-0-is) in record { value = both.0; result_value = both.1.0; out_after = both.1.1.0; table_after = both.1.1.1 }

pub returns-in-Err : goal.returns-in-Err
returns-in-Err c =
    let both = let a = c.args in
    taken_refused a.table.now a.m.now a.out.now c.take.ensures.value c.take.ensures.table_after c.in-Err.is c.naming_for.ensures
    c.respond_refused.ensures in record { value = both.0; result_value = both.1.0; out_after = both.1.1.0; table_after = both.1.1.1 }
