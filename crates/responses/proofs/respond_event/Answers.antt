-- A law for each way out.
use Rattle.responses.proofs.Ways.{event_put, event_short}
use Rattle.responses.proofs.respond_event.Goals as goal

pub returns-then-ok_fits : goal.returns-then-ok_fits
returns-then-ok_fits c = let both = event_put _ _ _ c.requires _ c.ok_fits.ensures c.if-ok_fits.true c.offer_parts-a.ensures.value c.offer_parts-a.ensures.table_after c.put_ok-n.ensures c.put.ensures in record { said = both.0; table_after = both.1 }

pub returns : goal.returns
returns c = let both = event_short _ _ _ c.requires _ c.ok_fits.ensures c.if-ok_fits.false in record { said = both.0; table_after = both.1 }
