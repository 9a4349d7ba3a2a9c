-- The test on keys is equality.
use mathlib.Core.Path.{◌≡◌, refl}
use mathlib.Core.Bool.{true, ◌&&◌}
use mathlib.Core.Logic.{◌↔◌}
use Prim.Native.Nat.{ℕ}
use native.Mathlib.Omega.{arith}
use lib.Dec.{eqb}
use borrow.Author.Tests.{eq-eqb, eqb-true}
use Rattle.wire.specs.Bytes.{same_bytes}
use Rattle.wire.proofs.Bytes.{same_equal, same_self}
use Rattle.text.specs.Kinds.{Key, none, replaceable, addressable, same_key}
use Rattle.text.proofs.Pieces.{both, and_true}

key_told : (a b : Key) → same_key a b ≡ true → a ≡ b
key_told none none e = refl
key_told none (replaceable k p) e = absurd (let z : ◌≡◌ {A = ℕ} 0 1 = cc in omega arith)
key_told none (addressable k p d) e = absurd (let z : ◌≡◌ {A = ℕ} 0 1 = cc in omega arith)
key_told (replaceable k p) none e = absurd (let z : ◌≡◌ {A = ℕ} 0 1 = cc in omega arith)
key_told (replaceable k p) (replaceable j q) e = let h = both (eqb k j) (same_bytes p q) e in rw (eqb-true k j h.0, same_equal p q h.1)
key_told (replaceable k p) (addressable j q c) e = absurd (let z : ◌≡◌ {A = ℕ} 0 1 = cc in omega arith)
key_told (addressable k p d) none e = absurd (let z : ◌≡◌ {A = ℕ} 0 1 = cc in omega arith)
key_told (addressable k p d) (replaceable j q) e = absurd (let z : ◌≡◌ {A = ℕ} 0 1 = cc in omega arith)
key_told (addressable k p d) (addressable j q c) e =
    let h = both (eqb k j) (same_bytes p q && same_bytes d c) e in
    let g = both (same_bytes p q) (same_bytes d c) h.1 in
    rw (eqb-true k j h.0, same_equal p q g.0, same_equal d c g.1)

key_self : (a : Key) → same_key a a ≡ true
key_self none = refl
key_self (replaceable k p) = and_true (eqb k k) (same_bytes p p) (eq-eqb k k refl) (same_self p)
key_self (addressable k p d) = rw (eq-eqb k k refl, same_self p, same_self d)

pub same_key_lem : (a b : Key) → (same_key a b ≡ true) ↔ (a ≡ b)
same_key_lem a b = (key_told a b, λ e. rw e (key_self b))
