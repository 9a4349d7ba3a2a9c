-- The invariant: the numbers of the slots below k are stored.
use mathlib.Core.Path.{◌≡◌}
use Prim.Native.Nat.{ℕ, ◌<◌}
use lib.ListN.{get_or}
use Rattle.table.specs.Layout.{slot_at}
use Rattle.slots.specs.Marks.{id_mark, key_mark}
use Rattle.slots.proofs.twice.mark.Given as goal

abbrev pub invariant-loop-k : goal.invariant-loop-k
invariant-loop-k l = ((j : ℕ) → j < l.k → get_or l.ids j 0 ≡ id_mark (slot_at l.table j))
    × ((j : ℕ) → j < l.k → get_or l.keys j 0 ≡ key_mark (slot_at l.table j))
