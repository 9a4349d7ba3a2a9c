-- By soundness.
use Rattle.offers.proofs.Stores.{not_sound, is_judged}
use Rattle.offers.proofs.judge.Goals as goal

pub returns-then-not-sound : goal.returns-then-not-sound
returns-then-not-sound c = not_sound _ _ c.sound.ensures c.if-not-sound.true c.plain_refusal.ensures

pub returns : goal.returns
returns c = is_judged _ _ c.sound.ensures c.if-not-sound.false c.verdict.ensures
