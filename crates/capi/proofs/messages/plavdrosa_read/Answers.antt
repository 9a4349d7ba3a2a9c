-- What was read, case by case.
use Rattle.std.specs.Prelude.{Ok}
use mathlib.Core.Path.{refl, sym, ap, ◌∙◌}
use Rattle.capi.proofs.Laws.{read_lent, read_refused}
use Rattle.capi.proofs.messages.plavdrosa_read.Goals as goal

pub returns-in-Ok-Event : goal.returns-in-Ok-Event
returns-in-Ok-Event c = let both = read_lent _ _ (sym (c.in-Ok-Event.is ∙ ap Ok c.in-Ok-Event.field-0-is) ∙ c.read.ensures.value) _ refl c.event_numbers-l.ensures c.put_row.ensures.value c.put_row.ensures.out_after in record { value = both.0; out_after = both.1.0; offset_after = both.1.1 }

pub returns-in-Ok-Req : goal.returns-in-Ok-Req
returns-in-Ok-Req c = let both = read_lent _ _ (sym (c.in-Ok-Req.is ∙ ap Ok c.in-Ok-Req.field-0-is) ∙ c.read.ensures.value) _ refl refl c.put_request.ensures.value c.put_request.ensures.out_after in record { value = both.0; out_after = both.1.0; offset_after = both.1.1 }

pub returns-in-Ok-Close : goal.returns-in-Ok-Close
returns-in-Ok-Close c = let both = read_lent _ _ (sym (c.in-Ok-Close.is ∙ ap Ok c.in-Ok-Close.field-0-is) ∙ c.read.ensures.value) _ refl refl c.put_row-in-Ok-Close.ensures.value c.put_row-in-Ok-Close.ensures.out_after in record { value = both.0; out_after = both.1.0; offset_after = both.1.1 }

pub returns-in-Err : goal.returns-in-Err
returns-in-Err c = let both = read_refused _ _ c.read.ensures.value _ c.in-Err.is c.put_offset.ensures in record { value = both.0; out_after = both.1.0; offset_after = both.1.1 }
