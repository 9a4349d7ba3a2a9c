-- The array's first words are the block's, one more after each turn. Assumes nothing.
use Rattle.std.proofs.Common.{◌≡◌, ◌≤◌, length, take}
use Rattle.digest.specs.Block.{words}
use Rattle.digest.proofs.block.first_words.Given as goal

abbrev pub invariant-loop-i : goal.invariant-loop-i
invariant-loop-i l = (take l.i l.word-items ≡ words (take 64 l.b) l.i) × (length l.word-items ≡ 16) × (l.i ≤ 16)
