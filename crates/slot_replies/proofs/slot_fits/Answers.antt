-- By subtraction.
use native.Mathlib.Omega.{arith}
use Rattle.slot_replies.proofs.Answers.{no_text, rest-room}
use Rattle.slot_replies.proofs.slot_fits.Goals as goal

pub returns-then-room-size : goal.returns-then-room-size
returns-then-room-size c = no_text _ _ c.text_size-size.ensures.0 c.string_len-n.ensures c.well_formed.1.1.0.1 c.if-room-size.true

pub returns : goal.returns
returns c = rest-room _ _ c.text_size-size.ensures.0 c.string_len-n.ensures c.well_formed.1.1.0.1 c.if-room-size.false

pub overflow_add-size : goal.overflow_add-size
overflow_add-size c = omega (arith, c.text_size-size.ensures.1)
