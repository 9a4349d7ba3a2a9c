-- The invariant: the digits that were stored are those of the bytes taken.
use mathlib.Core.Path.{◌≡◌}
use Prim.Native.Nat.{◌*◌, ◌≤◌}
use lib.ListN.{length, take}
use Rattle.event.specs.Answer.{hex_of}
use Rattle.matching.proofs.held.put_hex.Given as goal

abbrev pub invariant-loop-i : goal.invariant-loop-i
invariant-loop-i l = (l.i ≤ 32) × (length l.hex ≡ length l.initial.hex) × (take (l.i * 2) l.hex ≡ hex_of (take l.i l.id))
