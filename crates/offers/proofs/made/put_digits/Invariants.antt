-- The invariant: what is left gives the whole.
use Prim.Native.Nat.{◌+◌, ◌*◌}
use lib.ListN.{drop}
use Rattle.wire.proofs.Laws.{Rest}
use Rattle.spell.specs.Spell.{unhex}
use Rattle.offers.proofs.made.put_digits.Given as goal

abbrev pub invariant-loop-k : goal.invariant-loop-k
invariant-loop-k l = Rest l.initial.out l.at (unhex l.s) l.out (l.at + l.k) (unhex (drop (2 * l.k) l.s))
