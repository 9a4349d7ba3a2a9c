-- By what the reader answers.
use Rattle.std.specs.Prelude.{Ok}
use mathlib.Core.Path.{ap, ◌∙◌}
use mathlib.Core.Logic.{inl, inr}
use Rattle.event.proofs.Sent.{passes, from_event, from_req, from_close, from_refused}
use Rattle.event.proofs.sent_text.Goals as goal

pub sent_event-requires : goal.sent_event-requires
sent_event-requires c = passes _ c.read.ensures.value (c.in-Ok.is ∙ ap Ok c.in-Event.is)

pub returns-in-Event : goal.returns-in-Event
returns-in-Event c = let both = from_event _ _ c.read.ensures.value (c.in-Ok.is ∙ ap Ok c.in-Event.is) (let k = c.sent_event.ensures in (k.value, (k.result_value, k.out_after))) in record { value = both.0; result_value = both.1.0; out_after = both.1.1 }

pub returns-in-Req : goal.returns-in-Req
returns-in-Req c = elim c.in-Req.is [
  | inl w ↦ let both = from_req _ _ c.read.ensures.value (c.in-Ok.is ∙ ap Ok w.1) c.plain_refusal.ensures in record { value = both.0; result_value = both.1.0; out_after = both.1.1 }
  | inr w ↦ let both = from_close _ _ c.read.ensures.value (c.in-Ok.is ∙ ap Ok w.1) c.plain_refusal.ensures in record { value = both.0; result_value = both.1.0; out_after = both.1.1 }
]

pub returns-in-Err : goal.returns-in-Err
returns-in-Err c = let both = from_refused _ _ c.read.ensures.value c.in-Err.is c.unread.ensures in record { value = both.0; result_value = both.1.0; out_after = both.1.1 }
