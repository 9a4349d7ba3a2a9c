use Rattle.std.proofs.Common.{◌∙◌, refl}
use Rattle.digest.specs.Digest.{digest_bytes}
use Rattle.digest.proofs.Laws.{word_laid}
use Rattle.digest.proofs.write_words.Goals as goal

pub loop-i-init : goal.loop-i-init
unfolding digest_bytes
loop-i-init c = refl

pub loop-i-preserved : goal.loop-i-preserved
loop-i-preserved c = word_laid _ _ _ _ _ c.loop-i.invariant (c.copy_from_slice.ensures.after ∙ c.to_be_bytes.ensures)
