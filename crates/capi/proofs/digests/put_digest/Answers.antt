-- Under 32 bytes 13 is answered and all stays (`short_row`, `short_out`); else `put` has written the digest from the start on.
use mathlib.Core.Path.{refl}
use native.Mathlib.Omega.{arith}
use Rattle.capi.proofs.Laws.{lent_wrote}
use Rattle.capi.proofs.digests.put_digest.Goals as goal

pub returns : goal.returns
returns c = let both = lent_wrote _ _ _ _ refl (omega arith) refl c.put.ensures in record { value = both.0; out_after = both.1 }
