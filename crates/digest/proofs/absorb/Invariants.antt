-- The chunks that were yielded are absorbed, and the bytes behind them are left.
use Rattle.std.proofs.Common.{◌≡◌, length}
use Rattle.std.specs.Slice.Iter.{chunks_exact_rest, chunks_exact_size}
use Rattle.digest.proofs.Laws.{Absorbed}
use Rattle.digest.proofs.absorb.Given as goal

abbrev pub invariant-loop-chunk : goal.invariant-loop-chunk
invariant-loop-chunk l =
    (chunks_exact_size l.chunk-iterator ≡ 64) × Absorbed l.initial.h l.bytes (length l.yielded) l.h (chunks_exact_rest l.chunk-iterator)
