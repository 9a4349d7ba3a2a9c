-- The slots taken, a bit each: a slot is taken after another was put in where it was taken before or is that other.
use mathlib.Core.Path.{◌≡◌, refl, sym, ap, ◌∙◌}
use mathlib.Core.Bool.{Bool, true, false, ◌&&◌, ◌||◌, or-true, or-false}
use Prim.Native.Nat.{ℕ, zero, suc, ◌+◌, ◌*◌, ◌/◌, ◌%◌, ◌^◌, ◌<◌, ◌≤◌}
use native.Mathlib.Nat.{pow-le-pow_right, pow-suc, div-one, div-eq_of_lt, mul-mod_left, mul-div-mul_right, mod-lt}
use native.Mathlib.Nat.{zero-div, mul-add-mod_self_right, mod-eq_of_lt}
use native.Mathlib.Omega.{arith}
use borrow.Author.Tests.{eq-eqb, eqb-true, eqb-false}
use lib.Dec.{eqb}
use lib.Bits.{bit_or, or_shr, or_mod, or_zero_r}
use Rattle.shape.specs.Inner.{is_in, is_full}
use Rattle.shape.proofs.Names.{and_left, and_right, both_ways}

positive : (k : ℕ) → 1 ≤ 2 ^ k
positive k = pow-le-pow_right {n = 2} (omega arith) {i = 0} {j = k} (omega arith)

-- ---- one bit
same_bit : (j k : ℕ) → j ≡ k → 2 ^ k / 2 ^ j % 2 ≡ 1
same_bit zero zero e = refl
same_bit zero (suc k) e = absurd (omega arith)
same_bit (suc j) zero e = absurd (omega arith)
same_bit (suc j) (suc k) e = rw (pow-suc 2 k, pow-suc 2 j, mul-div-mul_right {m = 2} (2 ^ k) (2 ^ j) (omega arith)) (same_bit j k (omega arith))

other_bit : (j k : ℕ) → (j ≡ k → ⊥) → 2 ^ k / 2 ^ j % 2 ≡ 0
other_bit zero zero n = absurd (n refl)
other_bit zero (suc k) n = rw (div-one (2 ^ suc k), pow-suc 2 k) (mul-mod_left (2 ^ k) 2)
other_bit (suc j) zero n = let h = positive j in rw (div-eq_of_lt {n = 1} {m = 2 ^ suc j} (rw (pow-suc 2 j) (omega arith)))
other_bit (suc j) (suc k) n = rw (pow-suc 2 k, pow-suc 2 j, mul-div-mul_right {m = 2} (2 ^ k) (2 ^ j) (omega arith)) (other_bit j k (λ e. n (omega arith)))

-- ---- a slot more
or_bit : (x : ℕ) → x < 2 → eqb (bit_or x 1) 1 ≡ true
or_bit zero h = refl
or_bit (suc zero) h = refl
or_bit (suc (suc x)) h = absurd (omega arith)

pub in_more : (j k m : ℕ) → is_in j (bit_or m (2 ^ k)) ≡ (is_in j m || eqb j k)
unfolding is_in
in_more j k m = go (eqb j k) refl
  where
    bits : bit_or m (2 ^ k) / 2 ^ j % 2 ≡ bit_or (m / 2 ^ j % 2) (2 ^ k / 2 ^ j % 2)
    bits = ap (λ (n : ℕ). n % 2) (or_shr m (2 ^ k) j) ∙ or_mod (m / 2 ^ j) (2 ^ k / 2 ^ j) 1

    go : (x : Bool) → eqb j k ≡ x → eqb (bit_or m (2 ^ k) / 2 ^ j % 2) 1 ≡ (eqb (m / 2 ^ j % 2) 1 || x)
    go true e =
        ap (λ (n : ℕ). eqb n 1) (bits ∙ ap (bit_or (m / 2 ^ j % 2)) (same_bit j k (eqb-true j k e)))
        ∙ or_bit (m / 2 ^ j % 2) (mod-lt (m / 2 ^ j) (omega arith)) ∙ sym (or-true (eqb (m / 2 ^ j % 2) 1))
    go false e =
        ap (λ (n : ℕ). eqb n 1) (bits ∙ ap (bit_or (m / 2 ^ j % 2)) (other_bit j k (eqb-false j k e)) ∙ or_zero_r (m / 2 ^ j % 2))
        ∙ sym (or-false (eqb (m / 2 ^ j % 2) 1))

pub in_none : (j : ℕ) → is_in j 0 ≡ false
unfolding is_in
in_none j = rw (zero-div (2 ^ j))

-- ---- the seven lowest
ends_in : (m p n r : ℕ) → m ≡ p * n + r → r < n → m % n ≡ r
ends_in m p n r e h = rw e (mul-add-mod_self_right p n r ∙ mod-eq_of_lt h)

all_seven : (m : ℕ) → m / 1 % 2 ≡ 1 → m / 2 % 2 ≡ 1 → m / 4 % 2 ≡ 1 → m / 8 % 2 ≡ 1 → m / 16 % 2 ≡ 1 → m / 32 % 2 ≡ 1 → m / 64 % 2 ≡ 1 → m % 128 ≡ 127
all_seven m a b c d e f g =
    let z : m % 2 ≡ 1 = rw (div-one m) at a in
    let h = ends_in m (m / 2 / 2) 4 3 (omega arith) (omega arith) in
    let i = ends_in m (m / 4 / 2) 8 7 (omega arith) (omega arith) in
    let j = ends_in m (m / 8 / 2) 16 15 (omega arith) (omega arith) in
    let k = ends_in m (m / 16 / 2) 32 31 (omega arith) (omega arith) in
    let l = ends_in m (m / 32 / 2) 64 63 (omega arith) (omega arith) in
    ends_in m (m / 64 / 2) 128 127 (omega arith) (omega arith)

pub full_bits : (m : ℕ) → is_full m ≡ (is_in 0 m && (is_in 1 m && (is_in 2 m && (is_in 3 m && (is_in 4 m && (is_in 5 m && is_in 6 m))))))
unfolding is_full is_in
full_bits m = both_ways (eqb (m % 128) 127) _ there (λ e. eq-eqb (m % 128) 127 (back e))
  where
    there : eqb (m % 128) 127 ≡ true → (eqb (m / 1 % 2) 1 && (eqb (m / 2 % 2) 1 && (eqb (m / 4 % 2) 1 && (eqb (m / 8 % 2) 1 && (eqb (m / 16 % 2) 1 && (eqb (m / 32 % 2) 1 && eqb (m / 64 % 2) 1)))))) ≡ true
    there e =
        let h = eqb-true (m % 128) 127 e in
        rw (
          eq-eqb (m / 1 % 2) 1 (omega arith),
          eq-eqb (m / 2 % 2) 1 (omega arith),
          eq-eqb (m / 4 % 2) 1 (omega arith),
          eq-eqb (m / 8 % 2) 1 (omega arith),
          eq-eqb (m / 16 % 2) 1 (omega arith),
          eq-eqb (m / 32 % 2) 1 (omega arith),
          eq-eqb (m / 64 % 2) 1 (omega arith),
        )

    back : (eqb (m / 1 % 2) 1 && (eqb (m / 2 % 2) 1 && (eqb (m / 4 % 2) 1 && (eqb (m / 8 % 2) 1 && (eqb (m / 16 % 2) 1 && (eqb (m / 32 % 2) 1 && eqb (m / 64 % 2) 1)))))) ≡ true → m % 128 ≡ 127
    back e =
        let e₁ = and_right (eqb (m / 1 % 2) 1) _ e in
        let e₂ = and_right (eqb (m / 2 % 2) 1) _ e₁ in
        let e₃ = and_right (eqb (m / 4 % 2) 1) _ e₂ in
        let e₄ = and_right (eqb (m / 8 % 2) 1) _ e₃ in
        let e₅ = and_right (eqb (m / 16 % 2) 1) _ e₄ in
        all_seven m (eqb-true _ _ (and_left (eqb (m / 1 % 2) 1) _ e)) (eqb-true _ _ (and_left (eqb (m / 2 % 2) 1) _ e₁)) (eqb-true _ _ (and_left (eqb (m / 4 % 2) 1) _ e₂))
        (eqb-true _ _ (and_left (eqb (m / 8 % 2) 1) _ e₃)) (eqb-true _ _ (and_left (eqb (m / 16 % 2) 1) _ e₄)) (eqb-true _ _ (and_left (eqb (m / 32 % 2) 1) _ e₅))
        (eqb-true _ _ (and_right (eqb (m / 32 % 2) 1) _ e₅))
