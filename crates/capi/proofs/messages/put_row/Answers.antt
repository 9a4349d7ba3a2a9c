-- Where the numbers do not fit, 13 is answered and all stays; else `put` has written them from the start on.
use mathlib.Core.Path.{refl}
use Rattle.capi.proofs.Laws.{lent_short, lent_wrote}
use Rattle.capi.proofs.messages.put_row.Goals as goal

pub returns-then-out-l : goal.returns-then-out-l
returns-then-out-l c = let both = lent_short _ _ _ _ refl c.if-out-l.true in record { value = both.0; out_after = both.1 }

pub returns : goal.returns
returns c = let both = lent_wrote _ _ _ _ refl c.if-out-l.false refl c.put.ensures in record { value = both.0; out_after = both.1 }
