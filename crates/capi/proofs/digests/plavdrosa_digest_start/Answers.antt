-- Under 104 bytes 13 is answered; else what was put are the bytes (`to_bytes`) of the state that `new` promises.
use mathlib.Core.Path.{refl, ap, ◌∙◌}
use Rattle.capi.proofs.Laws.{lent_short, lent_wrote}
use Rattle.digest.specs.Bytes.{state_bytes}
use Rattle.capi.proofs.digests.plavdrosa_digest_start.Goals as goal

pub returns-then-state-lt-STATE_SIZE : goal.returns-then-state-lt-STATE_SIZE
returns-then-state-lt-STATE_SIZE c = let both = lent_short _ _ _ _ refl c.if-state-lt-STATE_SIZE.true in record { value = both.0; state_after = both.1 }

pub returns : goal.returns
returns c = let both = lent_wrote _ _ _ _ refl c.if-state-lt-STATE_SIZE.false (c.to_bytes-b.ensures ∙ ap state_bytes c.new.ensures) c.put.ensures in record { value = both.0; state_after = both.1 }
