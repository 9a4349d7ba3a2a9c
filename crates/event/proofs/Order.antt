-- A law for each way out of the comparisons.
use Rattle.std.specs.Prelude.{Some}
use Rattle.std.specs.Ordering.{is_lt, nat_cmp, is_some_and}
use Rattle.std.specs.Cmp.Lexicographic.{slice_partial_cmp}
use mathlib.Core.Path.{◌≡◌, refl, sym, ap, ap₂, ◌∙◌}
use mathlib.Core.Bool.{Bool, true, false, false≢true}
use mathlib.Core.List.{List, [], ◌∷◌}
use Prim.Native.Nat.{ℕ, ◌<◌}
use native.Mathlib.Decide.{dec_lt}
use native.Mathlib.Omega.{arith}
use borrow.Author.Tests.{lt-ltb, le-ltb, eq-eqb, ne_eqb, ltb-false}
use lib.IntN.{ℤ, pos, negsuc}
use lib.Signed.{lt_z}
use mir.Syntax.{w64}
use mir.Val.{to_z, of_z, SFits}
use mir.ValLaws.{to_z-of_z}
use Rattle.law.specs.Event.{lower}
use Rattle.event.specs.Order.{is_lower, is_newer}

-- ---- ids: the order of slices
abbrev pub lists_lt : List ℕ → List ℕ → Bool
lists_lt p q = is_some_and is_lt (slice_partial_cmp (λ x y. Some (nat_cmp x y)) p q)

pub lower_lists : (p q : List ℕ) → lists_lt p q ≡ lower p q
lower_lists [] [] = refl
lower_lists [] (y ∷ q) = refl
lower_lists (x ∷ p) [] = refl
lower_lists (x ∷ p) (y ∷ q) = go (dec_lt x y) (dec_lt y x) (lower_lists p q)
  where
    go : Dec (x < y) → Dec (y < x) → lists_lt p q ≡ lower p q → lists_lt (x ∷ p) (y ∷ q) ≡ lower (x ∷ p) (y ∷ q)
    go (yes h) k e = rw (lt-ltb x y h)
    go (no h) (yes k) e = rw (le-ltb x y (omega arith), ne_eqb x y (λ q. omega arith), lt-ltb y x k)
    go (no h) (no k) e = let z : x ≡ y = omega arith in rw (z, le-ltb y y (omega arith), eq-eqb y y refl) e

-- ---- times: a test of signed numbers is one of their bits
other_way : (x y : ℤ) → lt_z x y ≡ false → (x ≡ y → ⊥) → lt_z y x ≡ true
other_way (pos m) (pos n) e q = lt-ltb n m (let h = ltb-false m n e in omega (arith, (λ (z : m ≡ n). q (ap pos z))))
other_way (pos m) (negsuc n) e q = refl
other_way (negsuc m) (pos n) e q = absurd (false≢true (sym e))
other_way (negsuc m) (negsuc n) e q = lt-ltb m n (let h = ltb-false n m e in omega (arith, (λ (z : m ≡ n). q (ap negsuc z))))

module _ (t u : ℤ) (ft : SFits w64 t) (fu : SFits w64 u) (a b : List ℕ) where
  seen : (x y : ℤ) (r : Bool) → SFits w64 x → SFits w64 y → lt_z (to_z w64 (of_z w64 x)) (to_z w64 (of_z w64 y)) ≡ r → lt_z x y ≡ r
  seen x y r fx fy e = ap₂ lt_z (sym (to_z-of_z w64 x fx)) (sym (to_z-of_z w64 y fy)) ∙ e

  pub newer_yes : lt_z (to_z w64 (of_z w64 u)) (to_z w64 (of_z w64 t)) ≡ true → true ≡ is_newer t a u b
  unfolding is_newer
  newer_yes e = rw (seen u t true fu ft e)

  pub newer_tie : (r : Bool) → lt_z (to_z w64 (of_z w64 u)) (to_z w64 (of_z w64 t)) ≡ false → of_z w64 u ≡ of_z w64 t → r ≡ is_lower a b → r ≡ is_newer t a u b
  unfolding is_newer
  newer_tie r e q g = let z : lt_z t u ≡ false = seen t u false ft fu (rw q (rw q at e)) in rw (seen u t false fu ft e, z) g

  pub newer_no : lt_z (to_z w64 (of_z w64 u)) (to_z w64 (of_z w64 t)) ≡ false → (of_z w64 u ≡ of_z w64 t → ⊥) → false ≡ is_newer t a u b
  unfolding is_newer
  newer_no e n = rw (seen u t false fu ft e, other_way u t (seen u t false fu ft e) (λ q. n (ap (of_z w64) q)))
