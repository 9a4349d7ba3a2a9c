-- A law for each way out.
use Rattle.slots.proofs.Formats.{not_sound, not_held, text_shown}
use Rattle.slots.proofs.shown_at.Goals as goal

pub returns-then-not-sound : goal.returns-then-not-sound
returns-then-not-sound c = let both = not_sound _ c.args.slot c.sound.ensures c.if-not-sound.true in record { value = both.0; result_value = both.1.0; result_value_2 = both.1.1 }

pub returns-then-le_at-slot : goal.returns-then-le_at-slot
returns-then-le_at-slot c =
    let both = not_held _ c.args.slot c.sound.ensures c.if-not-sound.false
    c.le_at.ensures.is c.if-le_at-slot.true in record { value = both.0; result_value = both.1.0; result_value_2 = both.1.1 }

pub returns : goal.returns
returns c =
    let both = text_shown _ c.args.slot c.sound.ensures
    c.if-not-sound.false c.le_at.ensures.is
    c.if-le_at-slot.false
    c.piece.ensures c.le_at-n.ensures.is in record { value = both.0; result_value = both.1.0; result_value_2 = both.1.1 }
