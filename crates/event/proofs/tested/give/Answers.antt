-- Row 13, or a put that fits.
use Rattle.event.proofs.Answers.{too_short, room_for}
use Rattle.event.proofs.tested.give.Goals as goal

pub returns-then-out-t : goal.returns-then-out-t
returns-then-out-t c = let a = c.args in let both = too_short a.t.now a.out.now c.if-out-t.true in record { value = both.0; out_after = both.1 }

pub returns : goal.returns
returns c =
    let both = let a = c.args in
    room_for a.t.now a.out.now c.if-out-t.false c.put.ensures in record { value = both.0; out_after = both.1 }
