-- By what was made.
use Rattle.offers.proofs.From.{row_none}
use Rattle.offers.proofs.made.make_from.Goals as goal

pub returns-in-Ok : goal.returns-in-Ok
returns-in-Ok c = let both = row_none _ c.make_event.ensures c.in-Ok.is c.plain_refusal.ensures in record { value = both.0; out_after = both.1 }
