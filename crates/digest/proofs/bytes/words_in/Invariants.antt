-- After i turns the first i words are those of the bytes.
use Rattle.std.proofs.Common.{◌≡◌, ◌≤◌, length, take}
use Rattle.digest.specs.Block.{words}
use Rattle.digest.proofs.bytes.words_in.Given as goal

abbrev pub invariant-loop-i : goal.invariant-loop-i
invariant-loop-i l = (take l.i l.word-items ≡ words l.bytes l.i) × (length l.word-items ≡ 8) × (l.i ≤ 8)
