use mathlib.Core.Path.{sym}
use Rattle.matching.proofs.matcher.Bytes.{spelled_alike}
use Rattle.matching.proofs.matcher.Lists.{left_end, left_hit, left_miss, test}
use Rattle.matching.proofs.matcher.among.Goals as goal
use Rattle.matching.proofs.matcher.among.Goals.{then-same_bytes-via-then-same_bytes, then-same_bytes-via-else-same_bytes+then-same}

pub returns-then-same_bytes : goal.returns-then-same_bytes
returns-then-same_bytes c = elim c.then-same_bytes.branch [
  | then-same_bytes-via-then-same_bytes w ↦ sym (left_hit _ _ _ _ c.loop-k.invariant c.loop-k-test.true (spelled_alike _ c.same_bytes.ensures c.piece-member.ensures w.if-same_bytes.true))
  | then-same_bytes-via-else-same_bytes+then-same w ↦ sym (left_hit _ _ _ _ c.loop-k.invariant c.loop-k-test.true (test _ w.same.ensures c.piece-member.ensures w.if-same.true))
]

pub loop-k-preserved : goal.loop-k-preserved
loop-k-preserved c = left_miss _ _ _ _ c.loop-k.invariant c.loop-k-test.true (test _ c.same.ensures c.piece-member.ensures c.if-same.false)

pub returns : goal.returns
returns c = sym (left_end _ _ _ _ c.loop-k.invariant c.loop-k-test.false)
