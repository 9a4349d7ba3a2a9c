-- Zeros; their number is found by the law of repeated lists, and not by counting them.
use mathlib.Core.Path.{refl, sym}
use Prim.Native.Nat.{ℕ}
use lib.ListN.{length-replicate}
use Rattle.fields.specs.Room.{room_length}
use Rattle.fields.proofs.empty_room.Goals as goal

pub returns : goal.returns
returns c = record { value = refl; room_length_value = sym (length-replicate {0} {A = ℕ} room_length 0) }
