-- The invariant: those passed and those that are left make all.
use mathlib.Core.Path.{◌≡◌}
use Prim.Native.Nat.{◌+◌, ◌-◌}
use lib.ListN.{length}
use Rattle.message.specs.declared.Element.TheVariants.{At}
use Rattle.message.specs.Lists.{up_to, elements_from}
use Rattle.message.proofs.words.count_from.Given as goal

abbrev pub invariant-loop-k : goal.invariant-loop-k
invariant-loop-k l = l.k + length (up_to (length l.s - l.k) l.s l.x) ≡ length (elements_from l.s (At l.at))
