-- A law for each way out.
use Rattle.responses.proofs.Ways.{refused_put, refused_short}
use Rattle.responses.proofs.refused.Goals as goal

pub returns-then-refusal_fits : goal.returns-then-refusal_fits
returns-then-refusal_fits c = let both = refused_put _ _ _ c.naming_for-x.ensures c.refusal_fits.ensures c.if-refusal_fits.true c.put_refusal.ensures in record { value = both.0; result_value = both.1.0; out_after = both.1.1 }

pub returns : goal.returns
returns c = let both = refused_short _ _ _ c.naming_for-x.ensures c.refusal_fits.ensures c.if-refusal_fits.false in record { value = both.0; result_value = both.1.0; out_after = both.1.1 }
