-- The invariant: no slot so far has the key, so it is found among the rest.
use mathlib.Core.Path.{◌≡◌}
use Prim.Native.Nat.{◌+◌, ◌-◌}
use Rattle.law.specs.Lists.{find}
use Rattle.slots.specs.Slots.{same_key_in, slots_from}
use Rattle.offers.proofs.find_key.Given as goal

abbrev pub invariant-loop-k : goal.invariant-loop-k
invariant-loop-k l = find (same_key_in l.new) (slots_from l.table 0 l.c) ≡ l.k + find (same_key_in l.new) (slots_from l.table l.k (l.c - l.k))
