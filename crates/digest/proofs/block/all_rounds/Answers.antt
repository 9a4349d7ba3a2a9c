-- The four sets of sixteen rounds, and the law that the ring's rounds are the schedule's. Assumes nothing.
use Rattle.std.proofs.Common.{ℕ, List}
use Rattle.digest.proofs.Ring.{ring_rounds}
use Rattle.digest.proofs.block.all_rounds.Goals as goal

pub returns : goal.returns
returns c =
    let h : List ℕ = c.args.h in
    rw (← c.first_words-w.ensures)
    (rw (
      c.later_rounds.ensures.value,
      c.later_rounds-s3.ensures.value,
      c.later_rounds-s3.ensures.w_after,
      c.later_rounds-s2.ensures.value,
      c.later_rounds-s2.ensures.w_after,
      c.first_rounds-s1.ensures,
    )
    (ring_rounds c.first_words-w.result c.first_words-w.type_inv.1.0.1 h))
