-- What a REQ's answer means: the claims of specs/Claims, "the answer".
use Rattle.std.specs.Prelude.{Option, Some, None, ℤ}
use mathlib.Core.Path.{◌≡◌, refl, sym, ap, ap₂, ◌∙◌}
use mathlib.Core.Bool.{Bool, true, false, cond, ◌||◌}
use mathlib.Core.Logic.{◌↔◌, ◌⊎◌, inl, inr, ⊎_elim, ◌≢◌}
use mathlib.Core.List.Memᴰ
use mathlib.Core.List.{List, [], ◌∷◌}
use Prim.Native.Nat.{ℕ, zero, suc, min, ◌+◌, ◌≤◌, ◌<◌}
use native.Mathlib.Omega.{arith}
use borrow.Author.Tests.{eqb-true, eqb-false}
use lib.Dec.{T, eqb, eqb→eq, eqb_refl}
use lib.ListN.{length, take, length-take}
use Rattle.event.specs.Lent.{natural}
use Rattle.law.specs.Lists.{◌∈◌, Pairwise}
use Rattle.law.proofs.Lists.{any_yes, any_has, count_law}
use Rattle.table.proofs.Lists.{is_true}
use Rattle.query.specs.Filter.{Filter}
use Rattle.query.specs.Answer.{keep, among, numbers_from, newest_first, cut, picked, picked_by_some, union}
use Rattle.query.specs.Claims.{Orders, Distinct, NoneNewer, Descending, Match, Picked, PickedMeans, UnionMeans}
use Rattle.query.specs.Claims.{UnionOnce, UnionNewest, UnionDescends, all_picked, UnionSize, UnionShort}
use Rattle.query.specs.Claims.{MoreFilters, FilterOrder, KeepMeans, FromMeans}
use Rattle.query.proofs.Sorting.{among_here, among_later, among_cases, keep_among, keep_same, keep_length}
use Rattle.query.proofs.Sorting.{from_among, Once, Sorted, sort_among, sort_sorted, sort_length, once_sort}
use Rattle.query.proofs.Sorting.{sort_same}
use Rattle.wire.proofs.Cases.{bool, clash}

-- ---- tests and entries
pub true-T : {b : Bool} → b ≡ true → T b
true-T e = rw e tt

same_test : (a b : Bool) → (T a → T b) → (T b → T a) → a ≡ b
same_test true true f g = refl
same_test true false f g = absurd (f tt)
same_test false true f g = absurd (g tt)
same_test false false f g = refl

pub among_in : (l : List ℕ) (s : ℕ) → among l s ≡ true → s ∈ l
unfolding among
among_in [] s e = absurd (clash e refl)
among_in (x ∷ l) s e = ⊎_elim Memᴰ.head (λ q. Memᴰ.tail (among_in l s q)) (among_cases x l s e)

pub in-among : {s : ℕ} {l : List ℕ} → s ∈ l → among l s ≡ true
in-among (Memᴰ.head {x = x} {xs = l} e) = rw e (among_here x l)
in-among {s = s} (Memᴰ.tail {x = x} {xs = l} m) = among_later x l s (in-among m)

pub once-distinct : (l : List ℕ) → Once l → Distinct l
once-distinct [] o = tt
once-distinct (x ∷ l) o = (λ y m e. clash (rw e (in-among m)) o.0, once-distinct l o.1)

distinct-once : (l : List ℕ) → Distinct l → Once l
distinct-once [] o = tt
distinct-once (x ∷ l) o = (⊎_elim (λ q. absurd (o.0 x (among_in l x q) refl)) (λ q. q) (bool (among l x)), distinct-once l o.1)

sorted-newest : (newer : ℕ → ℕ → Bool) (l : List ℕ) → Sorted newer l → NoneNewer newer l
sorted-newest newer [] o = tt
sorted-newest newer (x ∷ l) o = (λ y m t. clash (is_true (newer y x) t) (o.0 y (in-among m)), sorted-newest newer l o.1)

pub keep-means : KeepMeans
unfolding keep
keep-means p l s = (to l, numbers_from l)
  where
    to : (l : List ℕ) → s ∈ keep p l → (s ∈ l) × T (p s)
    to [] m = absurd (Memᴰ.not-nil m)
    to (x ∷ l) m = go (p x) refl (to l) m
      where
        below : (s ∈ l) × T (p s) → (s ∈ x ∷ l) × T (p s)
        below h = (Memᴰ.tail h.0, h.1)

        go : (b : Bool) → p x ≡ b → (s ∈ keep p l → (s ∈ l) × T (p s)) → s ∈ cond b (x ∷ keep p l) (keep p l) → (s ∈ x ∷ l) × T (p s)
        go true e ih k = ⊎_elim (λ q. (Memᴰ.head q, true-T (ap p q ∙ e))) (λ j. below (ih j)) (Memᴰ.cases_cons k)
        go false e ih k = below (ih k)

    numbers_from : (l : List ℕ) → (s ∈ l) × T (p s) → s ∈ keep p l
    numbers_from [] h = absurd (Memᴰ.not-nil h.0)
    numbers_from (x ∷ l) h = go (p x) refl (λ m. numbers_from l (m, h.1)) (Memᴰ.cases_cons h.0)
      where
        go : (b : Bool) → p x ≡ b → (s ∈ l → s ∈ keep p l) → (s ≡ x) ⊎ (s ∈ l) → s ∈ cond b (x ∷ keep p l) (keep p l)
        go true e ih (inl q) = Memᴰ.head q
        go true e ih (inr m) = Memᴰ.tail (ih m)
        go false e ih (inl q) = absurd (clash (is_true (p s) h.1) (ap p q ∙ e))
        go false e ih (inr m) = ih m

from_in : (s i n : ℕ) → i ≤ s → s < i + n → s ∈ numbers_from i n
unfolding numbers_from
from_in s i zero h k = absurd (omega arith)
from_in s i (suc n) h k =
    ⊎_elim (λ e. Memᴰ.head (eqb-true s i e)) (λ e. Memᴰ.tail (from_in s (suc i) n (later (eqb-false s i e)) (omega arith))) (bool (eqb s i))
  where
    later : (s ≡ i → ⊥) → suc i ≤ s
    later ne = omega (arith, ne)

pub from-means : FromMeans
from-means n s = (λ m. let h = from_among 0 n s (in-among m) in omega arith, λ h. from_in s 0 n (omega arith) (omega arith))

-- ---- the first n of a list
module _ {A : Type 0} where
  take_in : {x : A} (n : ℕ) (l : List A) → x ∈ take n l → x ∈ l
  take_in zero l m = absurd (Memᴰ.not-nil m)
  take_in (suc n) [] m = absurd (Memᴰ.not-nil m)
  take_in (suc n) (y ∷ l) m = ⊎_elim Memᴰ.head (λ k. Memᴰ.tail (take_in n l k)) (Memᴰ.cases_cons m)

  module _ (R : A → A → Type 0) where
    take-pairwise : (n : ℕ) (l : List A) → Pairwise R l → Pairwise R (take n l)
    take-pairwise zero l o = tt
    take-pairwise (suc n) [] o = tt
    take-pairwise (suc n) (x ∷ l) o = (λ y m. o.0 y (take_in n l m), take-pairwise n l o.1)

    -- an entry taken stands before one left out
    taken-before : {x y : A} (n : ℕ) (l : List A) → Pairwise R l → x ∈ take n l → y ∈ l → (y ∈ take n l → ⊥) → R x y
    taken-before zero l o m k h = absurd (Memᴰ.not-nil m)
    taken-before (suc n) [] o m k h = absurd (Memᴰ.not-nil m)
    taken-before {x} {y} (suc n) (z ∷ l) o m k h =
        ⊎_elim (λ e. absurd (h (Memᴰ.head e)))
        (λ j. ⊎_elim (λ e. rw e (o.0 y j)) (λ i. taken-before n l o.1 i j (λ t. h (Memᴰ.tail t))) (Memᴰ.cases_cons m))
        (Memᴰ.cases_cons k)

-- ---- a list in order has its entries in no other order
module _ (newer : ℕ → ℕ → Bool) (w : Orders newer) where
  not_both : (x y : ℕ) → T (newer x y) → T (newer y x) → ⊥
  not_both x y t u = clash (is_true (newer y x) u) (w.asym x y (is_true (newer x y) t))

  pub same-order : (l k : List ℕ) → ((s : ℕ) → (s ∈ l) ↔ (s ∈ k)) → Descending newer l → Descending newer k → l ≡ k
  same-order [] [] h o p = refl
  same-order [] (y ∷ k) h o p = absurd (Memᴰ.not-nil ((h y).1 (Memᴰ.head refl)))
  same-order (x ∷ l) [] h o p = absurd (Memᴰ.not-nil ((h x).0 (Memᴰ.head refl)))
  same-order (x ∷ l) (y ∷ k) h o p =
      ap₂ ◌∷◌ heads (same-order l k (λ s. (below (λ z. (h z).0) heads o, below (λ z. (h z).1) (sym heads) p)) o.1 p.1)
    where
      heads : x ≡ y
      heads =
          ⊎_elim (λ e. e)
          (λ m. ⊎_elim sym (λ n. absurd (not_both x y (o.0 y n) (p.0 x m))) (Memᴰ.cases_cons ((h y).1 (Memᴰ.head refl))))
          (Memᴰ.cases_cons ((h x).0 (Memᴰ.head refl)))

      -- an entry after the first is not the first
      below : {a c : ℕ} {i j : List ℕ} {s : ℕ} → ((z : ℕ) → z ∈ a ∷ i → z ∈ c ∷ j) → a ≡ c → Descending newer (a ∷ i) → s ∈ i → s ∈ j
      below {a = a} {s = s} to e q m =
          ⊎_elim (λ f. absurd (self s (f ∙ sym e) (q.0 s m))) (λ n. n) (Memᴰ.cases_cons (to s (Memᴰ.tail m)))
        where
          self : (s : ℕ) → s ≡ a → T (newer a s) → ⊥
          self s g t = let u : T (newer a a) = rw g at t in not_both a a u u

-- ---- one filter's matches
cut_in : {s : ℕ} (b : Option ℤ) (l : List ℕ) → s ∈ cut b l → s ∈ l
cut_in None l m = m
cut_in (Some z) l m = take_in (natural z) l m

cut_none : {s : ℕ} (b : Option ℤ) (l : List ℕ) → b ≡ None → s ∈ l → s ∈ cut b l
cut_none None l e m = m
cut_none (Some z) l e m = absurd (let q : ◌≡◌ {A = ℕ} 0 1 = cc in omega arith)

cut-pairwise : (R : ℕ → ℕ → Type 0) (b : Option ℤ) (l : List ℕ) → Pairwise R l → Pairwise R (cut b l)
cut-pairwise R None l o = o
cut-pairwise R (Some z) l o = take-pairwise R (natural z) l o

cut-before : (R : ℕ → ℕ → Type 0) {s t : ℕ} (b : Option ℤ) (l : List ℕ) → Pairwise R l → s ∈ cut b l → t ∈ l → (t ∈ cut b l → ⊥) → R s t
cut-before R None l o m k h = absurd (h k)
cut-before R (Some z) l o m k h = taken-before R (natural z) l o m k h

once-keep : (p : ℕ → Bool) (l : List ℕ) → Distinct l → Distinct (keep p l)
unfolding keep
once-keep p [] o = tt
once-keep p (x ∷ l) o = go (p x) (once-keep p l o.1)
  where
    go : (b : Bool) → Distinct (keep p l) → Distinct (cond b (x ∷ keep p l) (keep p l))
    go true h = (λ y m. o.0 y ((keep-means p l y).0 m).0, h)
    go false h = h

module _ (newer : ℕ → ℕ → Bool) where
  sort-in : (l : List ℕ) (s : ℕ) → (s ∈ newest_first newer l) ↔ (s ∈ l)
  sort-in l s = (
    λ m. among_in l s (sym (sort_among newer l s) ∙ in-among m),
    λ m. among_in (newest_first newer l) s (sort_among newer l s ∙ in-among m),
  )

  sort-once : (l : List ℕ) → Distinct l → Distinct (newest_first newer l)
  sort-once l o = once-distinct (newest_first newer l) (once_sort newer l (distinct-once l o))

  sort-newest : Orders newer → (l : List ℕ) → NoneNewer newer (newest_first newer l)
  sort-newest w l = sorted-newest newer (newest_first newer l) (sort_sorted newer w l)

  module _ (fits : Filter → ℕ → Bool) (held : List ℕ) where
    -- a filter's matches, before the cut
    abbrev ordered : Filter → List ℕ
    ordered f = newest_first newer (keep (fits f) held)

    ordered-in : (f : Filter) (s : ℕ) → (s ∈ ordered f) ↔ Match newer fits held f s
    ordered-in f s = (
      λ m. (keep-means (fits f) held s).0 ((sort-in (keep (fits f) held) s).0 m),
      λ h. (sort-in (keep (fits f) held) s).1 ((keep-means (fits f) held s).1 h),
    )

    pub picked-means : PickedMeans newer fits held
    unfolding picked
    picked-means f = record {
      matching = λ s m. (ordered-in f s).0 (cut_in f.limit (ordered f) m);
      once = λ o. cut-pairwise (λ x y. x ≢ y) f.limit (ordered f) (sort-once (keep (fits f) held) (once-keep (fits f) held o));
      newest_first_lem = λ w. cut-pairwise (λ x y. T (newer y x) → ⊥) f.limit (ordered f) (sort-newest w (keep (fits f) held));
      left_out = λ w s t m k h. cut-before (λ x y. T (newer y x) → ⊥) f.limit (ordered f) (sort-newest w (keep (fits f) held)) m ((ordered-in f t).1 k) h;
      absent = λ e s. (λ m. (ordered-in f s).0 (cut_in f.limit (ordered f) m), λ h. cut_none f.limit (ordered f) e ((ordered-in f s).1 h));
      number = λ z e. ap (λ b. length (cut b (ordered f))) e ∙ length-take (natural z) (ordered f) ∙ ap (min (natural z)) (sort_length newer (keep (fits f) held));
      zero = λ e. ap (λ b. cut b (ordered f)) e;
    }

    -- ---- the union
    some-picks : (fs : List Filter) (s : ℕ) → T (picked_by_some newer fits held fs s) ↔ Picked newer fits held fs s
    some-picks fs s = (
      λ t. let (f, m, q) = any_yes (λ f. among (picked newer fits held f) s) fs t in (f, m, among_in (picked newer fits held f) s (is_true _ q)),
      λ (f, m, k). any_has (λ f. among (picked newer fits held f) s) m (true-T (in-among k)),
    )

    pub union-means : UnionMeans newer fits held
    unfolding union
    union-means fs s = (
      λ m. let (h, t) = (keep-means (picked_by_some newer fits held fs) held s).0 ((sort-in _ s).0 m) in (h, (some-picks fs s).0 t),
      λ h. (sort-in _ s).1 ((keep-means (picked_by_some newer fits held fs) held s).1 (h.0, (some-picks fs s).1 h.1)),
    )

    pub union-once : UnionOnce newer fits held
    unfolding union
    union-once fs o = sort-once (keep (picked_by_some newer fits held fs) held) (once-keep (picked_by_some newer fits held fs) held o)

    pub union-newest : UnionNewest newer fits held
    unfolding union
    union-newest fs w = sort-newest w (keep (picked_by_some newer fits held fs) held)

    pub union-short : UnionShort newer fits held
    unfolding union
    union-short fs = omega (arith, sort_length newer (keep (picked_by_some newer fits held fs) held), keep_length (picked_by_some newer fits held fs) held)

    -- two entries that stand in this order: the later is not newer, so the first is
    descending : ((s t : ℕ) → s ∈ held → t ∈ held → s ≢ t → T (newer s t) ⊎ T (newer t s)) → (l : List ℕ) → ((s : ℕ) → s ∈ l → s ∈ held)
        → Distinct l → NoneNewer newer l → Descending newer l
    descending total [] within o n = tt
    descending total (x ∷ l) within o n = (
      λ y m. ⊎_elim (λ t. t) (λ t. absurd (n.0 y m t)) (total x y (within x (Memᴰ.head refl)) (within y (Memᴰ.tail m)) (o.0 y m)),
      descending total l (λ s m. within s (Memᴰ.tail m)) o.1 n.1,
    )

    pub union-descends : UnionDescends newer fits held
    union-descends fs w o total =
        descending total (union newer fits held fs) (λ s m. ((union-means fs s).0 m).0) (union-once fs o) (union-newest fs w)

    -- the union's entries are those of all picked lists
    all_in : (fs : List Filter) (s : ℕ) → (s ∈ all_picked newer fits held fs) ↔ Picked newer fits held fs s
    unfolding all_picked
    all_in fs s = (to fs, λ (f, m, k). numbers_from m k)
      where
        to : (fs : List Filter) → s ∈ all_picked newer fits held fs → Picked newer fits held fs s
        to [] m = absurd (Memᴰ.not-nil m)
        to (f ∷ fs) m =
            ⊎_elim (λ k. (f, Memᴰ.head refl, k)) (λ k. let (g, i, j) = to fs k in (g, Memᴰ.tail i, j))
            (Memᴰ.append_cases (picked newer fits held f) m)

        numbers_from : {f : Filter} {fs : List Filter} → f ∈ fs → s ∈ picked newer fits held f → s ∈ all_picked newer fits held fs
        numbers_from (Memᴰ.head {x = g} {xs = gs} e) k = Memᴰ.append_left (all_picked newer fits held gs) (rw e at k)
        numbers_from (Memᴰ.tail {x = g} {xs = gs} m) k = Memᴰ.append_right (picked newer fits held g) (numbers_from m k)

    pub union-size : UnionSize newer fits held
    union-size fs o =
        count_law (λ (s : ℕ). s) eqb (λ a b. (eqb→eq a b, λ e. rw e (eqb_refl b))) (all_picked newer fits held fs) (union newer fits held fs) (union-once fs o)
        (λ s m. (all_in fs s).1 ((union-means fs s).0 m).1)
        (λ s m. let (f, i, k) = (all_in fs s).0 m in (s, (union-means fs s).1 (((picked-means f).matching s k).0, (f, i, k)), refl))

    pub more-filters : MoreFilters newer fits held
    more-filters fs gs sub s m =
        let (h, p) = (union-means fs s).0 m in
        let (f, i, k) = p in
        (union-means gs s).1 (h, (f, sub f i, k))

    pub filter-order : FilterOrder newer fits held
    unfolding union
    filter-order fs gs same =
        ap (newest_first newer) (keep_same (picked_by_some newer fits held fs) (picked_by_some newer fits held gs) held
        (λ s m. same_test _ _ (moved (λ f. (same f).0) s) (moved (λ f. (same f).1) s)))
      where
        moved : {fs gs : List Filter} → ((f : Filter) → f ∈ fs → f ∈ gs) → (s : ℕ) → T (picked_by_some newer fits held fs s) → T (picked_by_some newer fits held gs s)
        moved {fs} {gs} sub s t = let (f, i, k) = (some-picks fs s).0 t in (some-picks gs s).1 (f, sub f i, k)

-- ---- two orders and two tests that agree on some slots give the same answer over them
module _ (n n' : ℕ → ℕ → Bool) (f f' : Filter → ℕ → Bool) (held : List ℕ)
    (order : (s t : ℕ) → among held s ≡ true → among held t ≡ true → n s t ≡ n' s t)
    (test : (g : Filter) (s : ℕ) → among held s ≡ true → f g s ≡ f' g s) where
  kept_same : (p q : ℕ → Bool) → ((s : ℕ) → among held s ≡ true → p s ≡ q s) → newest_first n (keep p held) ≡ newest_first n' (keep q held)
  kept_same p q h =
      ap (newest_first n) (keep_same p q held h)
      ∙ sort_same n n' (keep q held) (λ s t m o. order s t (keep_among q held s m) (keep_among q held t o))

  picked_same : (g : Filter) → picked n f held g ≡ picked n' f' held g
  unfolding picked
  picked_same g = ap (cut g.limit) (kept_same (f g) (f' g) (test g))

  some_same : (s : ℕ) (fs : List Filter) → picked_by_some n f held fs s ≡ picked_by_some n' f' held fs s
  some_same s [] = refl
  some_same s (g ∷ fs) = ap₂ (λ l r. among l s || r) (picked_same g) (some_same s fs)

  pub union-same : (fs : List Filter) → union n f held fs ≡ union n' f' held fs
  unfolding union
  union-same fs = kept_same (picked_by_some n f held fs) (picked_by_some n' f' held fs) (λ s m. some_same s fs)
