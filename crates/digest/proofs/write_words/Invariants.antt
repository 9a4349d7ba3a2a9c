-- After i turns the bytes of the first i words stand before what was behind them.
use Rattle.std.proofs.Common.{◌≡◌, ◌*◌, ◌++◌, drop}
use Rattle.digest.specs.Digest.{digest_bytes}
use Rattle.digest.proofs.write_words.Given as goal

abbrev pub invariant-loop-i : goal.invariant-loop-i
invariant-loop-i l = l.out ≡ digest_bytes l.word-items (4 * l.i) ++ drop (4 * l.i) l.initial.out
