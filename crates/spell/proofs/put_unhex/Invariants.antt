-- The invariant: what is left to put gives the whole, and what comes are pairs.
use mathlib.Core.Path.{◌≡◌}
use Rattle.std.specs.Slice.Iter.{chunks_exact_rest, chunks_exact_size}
use Rattle.wire.proofs.Laws.{Rest}
use Rattle.spell.specs.Spell.{unhex}
use Rattle.spell.proofs.put_unhex.Given as goal

abbrev pub invariant-loop-pair : goal.invariant-loop-pair
invariant-loop-pair l = Rest l.initial.out l.at (unhex l.s) l.out l.o (unhex (chunks_exact_rest l.pair-iterator)) × (chunks_exact_size l.pair-iterator ≡ 2)
