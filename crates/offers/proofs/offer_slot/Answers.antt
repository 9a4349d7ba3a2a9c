-- By what was decided: only what is stored is written.
use Rattle.offers.proofs.Stores.{skipped, filled}
use Rattle.offers.proofs.offer_slot.Goals as goal

pub returns-in-Fills : goal.returns-in-Fills
returns-in-Fills c = let both = filled _ _ c.judge.ensures c.in-Fills.is c.store.ensures in record { value = both.0; table_after = both.1 }

pub returns-in-Answered : goal.returns-in-Answered
returns-in-Answered c = let both = skipped _ _ c.judge.ensures c.in-Answered.is in record { value = both.0; table_after = both.1 }
