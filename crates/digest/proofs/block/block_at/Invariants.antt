-- After i turns the first i words are the sums, and the others are as they were. Assumes nothing.
use Rattle.std.proofs.Common.{◌≡◌, ℕ, ◌≤◌, length, take}
use Rattle.digest.specs.Block.{at, chained}
use Rattle.digest.proofs.block.block_at.Given as goal

abbrev pub invariant-loop-i : goal.invariant-loop-i
invariant-loop-i l = (take l.i l.h ≡ take l.i (chained l.initial.h l.s)) × ((j : ℕ) → l.i ≤ j → at l.h j ≡ at l.initial.h j) × (length l.h ≡ 8) × (l.i ≤ 8)
