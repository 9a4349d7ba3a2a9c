-- A law for each way out.
use mathlib.Core.Path.{sym, ◌∙◌}
use Rattle.slot_replies.proofs.Batches.{name_refused, table_refused, events_sent}
use Rattle.slot_replies.proofs.events.Goals as goal

pub send-requires : goal.send-requires
send-requires c = sym c.sound.ensures ∙ c.if-sound.true

pub returns-then-row-ne0 : goal.returns-then-row-ne0
returns-then-row-ne0 c = let both = name_refused _ _ _ _ _ c.subscription_row-row.ensures c.if-row-ne0.true in record { value = both.0; result_value = both.1.0; out_after = both.1.1 }

pub returns-then-sound : goal.returns-then-sound
returns-then-sound c =
    let both = events_sent _ _ _ _ _ c.subscription_row-row.ensures c.if-row-ne0.false
    c.sound.ensures c.if-sound.true c.piece-id.ensures
    (c.send.ensures.value, c.send.ensures.out_after) in record { value = both.0; result_value = both.1.0; out_after = both.1.1 }

pub returns : goal.returns
returns c =
    let both = table_refused _ _ _ _ _ c.subscription_row-row.ensures c.if-row-ne0.false
    c.sound.ensures c.if-sound.false in record { value = both.0; result_value = both.1.0; out_after = both.1.1 }
