-- Laws of lists: a test that all entries pass, entries by their places, and no entry twice.
use mathlib.Core.Path.{◌≡◌, refl, sym, ap, ◌∙◌}
use mathlib.Core.Bool.{Bool, true, false, not}
use mathlib.Core.List.Memᴰ
use mathlib.Core.List.{List, [], ◌∷◌, ◌++◌}
use Prim.Native.Nat.{ℕ, zero, suc, ◌<◌}
use native.Mathlib.Omega.{arith}
use lib.Dec.{T, not_T}
use lib.ListN.{length, get_or, set}
use Rattle.text.specs.Event.{all}
use Rattle.text.proofs.Pieces.{both, and_true}
use Rattle.law.specs.Lists.{◌∈◌, any, Pairwise}
use Rattle.law.proofs.Lists.{any_yes, any_no}
use Rattle.table.specs.Sound.{none_twice}

-- ---- a test, as an equation and as a type
pub is_true : (b : Bool) → T b → b ≡ true
is_true true t = refl
is_true false t = absurd t

-- ---- all entries
module _ {A : Type 0} (p : A → Bool) where
  pub all_set : (xs : List A) (i : ℕ) (a : A) → all p xs ≡ true → p a ≡ true → all p (set xs i a) ≡ true
  unfolding all
  all_set [] i a e q = refl
  all_set (x ∷ xs) zero a e q = and_true (p a) (all p xs) q (both (p x) (all p xs) e).1
  all_set (x ∷ xs) (suc i) a e q =
      let h = both (p x) (all p xs) e in
      and_true (p x) (all p (set xs i a)) h.0 (all_set xs i a h.1 q)

  pub all_append : (xs ys : List A) → all p xs ≡ true → all p ys ≡ true → all p (xs ++ ys) ≡ true
  unfolding all
  all_append [] ys e q = q
  all_append (x ∷ xs) ys e q =
      let h = both (p x) (all p xs) e in
      and_true (p x) (all p (xs ++ ys)) h.0 (all_append xs ys h.1 q)

  pub all_one : (a : A) → p a ≡ true → all p (a ∷ []) ≡ true
  unfolding all
  all_one a e = and_true (p a) true e refl

  pub all_behind : (xs ys : List A) → all p (xs ++ ys) ≡ true → all p ys ≡ true
  unfolding all
  all_behind [] ys e = e
  all_behind (x ∷ xs) ys e = all_behind xs ys (both (p x) (all p (xs ++ ys)) e).1

  pub all_before : (xs ys : List A) → all p (xs ++ ys) ≡ true → all p xs ≡ true
  unfolding all
  all_before [] ys e = refl
  all_before (x ∷ xs) ys e =
      let h = both (p x) (all p (xs ++ ys)) e in
      and_true (p x) (all p xs) h.0 (all_before xs ys h.1)

  pub all_has : {x : A} (xs : List A) → all p xs ≡ true → x ∈ xs → p x ≡ true
  unfolding all
  all_has [] e m = elim m [ ]
  all_has (y ∷ ys) e (Memᴰ.head q) = ap p q ∙ (both (p y) (all p ys) e).0
  all_has (y ∷ ys) e (Memᴰ.tail m) = all_has ys (both (p y) (all p ys) e).1 m

-- ---- entries by their places
pub entry_in : {A : Type 0} (l : List A) (k : ℕ) (d : A) → k < length l → get_or l k d ∈ l
entry_in [] k d h = absurd (omega arith)
entry_in (x ∷ l) zero d h = Memᴰ.head refl
entry_in (x ∷ l) (suc k) d h = Memᴰ.tail (entry_in l k d (omega arith))

entry_of : {A : Type 0} {x : A} {l : List A} (d : A) → x ∈ l → (k : ℕ) × (k < length l) × (get_or l k d ≡ x)
entry_of d (Memᴰ.head q) = (zero, omega arith, sym q)
entry_of d (Memᴰ.tail m) = let (k, h, q) = entry_of d m in (suc k, omega arith, q)

module _ {A : Type 0} (d : A) where
  pub all_from : (p : A → Bool) (xs : List A) → ((k : ℕ) → k < length xs → p (get_or xs k d) ≡ true) → all p xs ≡ true
  unfolding all
  all_from p [] h = refl
  all_from p (x ∷ xs) h = and_true (p x) (all p xs) (h 0 (omega arith)) (all_from p xs (λ k l. h (suc k) (omega arith)))

  module _ (R : A → A → Type 0) where
    pub pairwise_from : (xs : List A) → ((j k : ℕ) → j < k → k < length xs → R (get_or xs j d) (get_or xs k d)) → Pairwise R xs
    pairwise_from [] h = tt
    pairwise_from (x ∷ xs) h = (
      λ y m. let (k, l, q) = entry_of d m in rw q at (h zero (suc k) (omega arith) (omega arith)),
      pairwise_from xs (λ j k l n. h (suc j) (suc k) (omega arith) (omega arith)),
    )

    pub pairwise_at : (xs : List A) → Pairwise R xs → (j k : ℕ) → j < k → k < length xs → R (get_or xs j d) (get_or xs k d)
    pairwise_at [] o j k l h = absurd (omega arith)
    pairwise_at (x ∷ xs) o zero zero l h = absurd (omega arith)
    pairwise_at (x ∷ xs) o zero (suc k) l h = o.0 (get_or xs k d) (entry_in xs k d (omega arith))
    pairwise_at (x ∷ xs) o (suc j) zero l h = absurd (omega arith)
    pairwise_at (x ∷ xs) o (suc j) (suc k) l h = pairwise_at xs o.1 j k (omega arith) (omega arith)

-- ---- no entry twice
module _ {A : Type 0} where
  pub pairwise_as : (R S : A → A → Type 0) → ((x y : A) → R x y → S x y) → (xs : List A) → Pairwise R xs → Pairwise S xs
  pairwise_as R S f [] o = tt
  pairwise_as R S f (x ∷ xs) o = (λ y m. f x y (o.0 y m), pairwise_as R S f xs o.1)

  module _ (same : A → A → Bool) where
    pub twice_apart : (xs : List A) → none_twice same xs ≡ true → Pairwise (λ x y. T (same x y) → ⊥) xs
    unfolding none_twice
    twice_apart [] e = tt
    twice_apart (x ∷ xs) e =
        let h = both (not (any (same x) xs)) (none_twice same xs) e in
        (λ y m. any_no (same x) m (rw h.0 tt), twice_apart xs h.1)

    pub apart_twice : (xs : List A) → Pairwise (λ x y. T (same x y) → ⊥) xs → none_twice same xs ≡ true
    unfolding none_twice
    apart_twice [] o = refl
    apart_twice (x ∷ xs) o = and_true (not (any (same x) xs)) (none_twice same xs) (is_true (not (any (same x) xs)) none) (apart_twice xs o.1)
      where
        none : T (not (any (same x) xs))
        none = not_T (any (same x) xs) (λ t. let (y, m, q) = any_yes (same x) xs t in o.0 y m q)
