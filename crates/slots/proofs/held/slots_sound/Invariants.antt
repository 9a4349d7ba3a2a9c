-- The invariant: the slots so far are sound, so the rest decides.
use mathlib.Core.Path.{◌≡◌}
use Prim.Native.Nat.{◌-◌}
use Rattle.text.specs.Event.{all}
use Rattle.table.specs.Sound.{slot_sound}
use Rattle.slots.specs.Slots.{slots_from}
use Rattle.slots.proofs.held.slots_sound.Given as goal

abbrev pub invariant-loop-k : goal.invariant-loop-k
invariant-loop-k l = all slot_sound (slots_from l.table 0 l.c) ≡ all slot_sound (slots_from l.table l.k (l.c - l.k))
