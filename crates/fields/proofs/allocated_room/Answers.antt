-- Zeros, and how many they are: as what made them says, and not by counting them.
use mathlib.Core.Path.{◌≡◌, sym}
use Prim.Native.Nat.{ℕ}
use lib.ListN.{replicate}
use Rattle.std.specs.Prelude.{IfOk, Ok, Err, Result, Vec, vec_len}
use Rattle.fields.specs.Room.{room_length}
use Rattle.fields.proofs.allocated_room.Goals as goal

module _ {A E : Type 0} (n : ℕ) where
  counted : (r : Result (Vec ℕ A) E) → IfOk r (λ v. vec_len v ≡ n) → IfOk r (λ v. n ≡ vec_len v)
  counted (Ok v) e = sym e
  counted (Err e) _ = tt

  zeros : (r : Result (Vec ℕ A) E) → IfOk r (λ v. ((y : ℕ) → y ≡ 0 → y ≡ 0) → v.items ≡ replicate n 0) → IfOk r (λ v. v.items ≡ replicate n 0)
  zeros (Ok v) h = h (λ y e. e)
  zeros (Err e) _ = tt

pub returns : goal.returns
returns c = record { value = zeros room_length _ c.from_elem.ensures.items_if_clones_equal; room_length_value = counted room_length _ c.from_elem.ensures.len }
