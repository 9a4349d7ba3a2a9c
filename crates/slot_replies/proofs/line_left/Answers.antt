-- By subtraction.
use Rattle.slot_replies.proofs.Lines.{no_head, no_name, rest_left}
use Rattle.slot_replies.proofs.line_left.Goals as goal

pub returns-then-room-size : goal.returns-then-room-size
returns-then-room-size c = no_head _ _ _ c.text_size-size.ensures.0 c.if-room-size.true

pub returns-then-rest-n : goal.returns-then-rest-n
returns-then-rest-n c = no_name _ _ _ c.text_size-size.ensures.0 c.if-room-size.false c.if-rest-n.true

pub returns : goal.returns
returns c = rest_left _ _ _ c.text_size-size.ensures.0 c.if-room-size.false c.if-rest-n.false
