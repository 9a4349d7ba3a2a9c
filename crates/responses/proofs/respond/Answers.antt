-- By what was read.
use Rattle.std.specs.Prelude.{Ok}
use mathlib.Core.Path.{sym, ap, ◌∙◌}
use Rattle.responses.proofs.Ways.{responds, responds_request, responds_close, responds_refused}
use Rattle.responses.proofs.respond.Goals as goal

pub respond_taken-requires : goal.respond_taken-requires
respond_taken-requires c = c.taken_first.ensures c.if-taken_first.true

pub respond_event-requires : goal.respond_event-requires
respond_event-requires c = sym c.read.ensures.value ∙ c.in-Ok-Event.is ∙ ap Ok c.in-Ok-Event.field-0-is

pub respond_request-requires : goal.respond_request-requires
respond_request-requires c = sym c.read.ensures.value ∙ c.in-Ok-Req.is ∙ ap Ok c.in-Ok-Req.field-0-is

pub returns-then-taken_first : goal.returns-then-taken_first
returns-then-taken_first c = let e = c.respond_taken.ensures in record { value = e.value; result_value = e.result_value; out_after = e.out_after; table_after = e.table_after }

pub returns-in-Ok-Event : goal.returns-in-Ok-Event
returns-in-Ok-Event c = let a = c.args in let both = responds a.table.now a.m.now a.out.now c.respond_event.ensures.said c.respond_event.ensures.table_after in record { value = both.0; result_value = both.1.0; out_after = both.1.1.0; table_after = both.1.1.1 }

pub returns-in-Ok-Req : goal.returns-in-Ok-Req
returns-in-Ok-Req c = let a = c.args in let both = responds_request a.table.now a.m.now a.out.now c.read.ensures.value (c.in-Ok-Req.is ∙ ap Ok c.in-Ok-Req.field-0-is) c.respond_request.ensures in record { value = both.0; result_value = both.1.0; out_after = both.1.1.0; table_after = both.1.1.1 }

pub returns-in-Ok-Close : goal.returns-in-Ok-Close
returns-in-Ok-Close c = let a = c.args in let both = responds_close a.table.now a.m.now a.out.now c.read.ensures.value (c.in-Ok-Close.is ∙ ap Ok c.in-Ok-Close.field-0-is) in record { value = both.0; result_value = both.1.0; out_after = both.1.1.0; table_after = both.1.1.1 }

pub returns-in-Err : goal.returns-in-Err
returns-in-Err c = let a = c.args in let both = responds_refused a.table.now a.m.now a.out.now c.read.ensures.value c.in-Err.is c.naming_for.ensures c.respond_refused.ensures in record { value = both.0; result_value = both.1.0; out_after = both.1.1.0; table_after = both.1.1.1 }
