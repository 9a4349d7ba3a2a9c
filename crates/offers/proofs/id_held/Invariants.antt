-- The invariant: no slot so far has the id, so the rest decides.
use mathlib.Core.Path.{◌≡◌}
use Prim.Native.Nat.{◌-◌}
use Rattle.law.specs.Lists.{any}
use Rattle.slots.specs.Slots.{same_id_in, slots_from}
use Rattle.offers.proofs.id_held.Given as goal

abbrev pub invariant-loop-k : goal.invariant-loop-k
invariant-loop-k l = any (same_id_in l.new) (slots_from l.table 0 l.c) ≡ any (same_id_in l.new) (slots_from l.table l.k (l.c - l.k))
