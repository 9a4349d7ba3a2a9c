-- Laws of lists: tests, a stored entry, entries that differ pairwise, and the count of different entries.
use mathlib.Core.Path.{◌≡◌, refl, sym, ap, ◌∙◌}
use mathlib.Core.Bool.{Bool, true, false, cond, not, ◌||◌, ◌&&◌}
use mathlib.Core.Logic.{◌↔◌, ◌⊎◌, inl, inr, ⊎_elim, ◌≢◌}
use mathlib.Core.List.Memᴰ
use mathlib.Core.List.{List, [], ◌∷◌, ◌++◌}
use Prim.Native.Nat.{zero, suc, ◌<◌}
use native.Mathlib.Omega.{arith}
use lib.Dec.{T, T_not}
use lib.ListN.{length, set}
use Rattle.law.specs.Lists.{◌∈◌, any, find, store, different, Pairwise, Once}

-- ---- tests

pub either : (b : Bool) → T b ⊎ T (not b)
either true = inl tt
either false = inr tt

pub or_cases : (a b : Bool) → T (a || b) → T a ⊎ T b
or_cases true b t = inl tt
or_cases false b t = inr t

pub or_left : (a b : Bool) → T a → T (a || b)
or_left true b t = tt
or_left false b t = absurd t

pub or_right : (a b : Bool) → T b → T (a || b)
or_right true b t = tt
or_right false b t = t

pub and_both : (a b : Bool) → T a → T b → T (a && b)
and_both true b t u = u
and_both false b t u = t

pub and_left : (a b : Bool) → T (a && b) → T a
and_left true b t = tt
and_left false b t = t

pub and_right : (a b : Bool) → T (a && b) → T b
and_right true b t = t
and_right false b t = absurd t

-- ---- some entry

module _ {A : Type 0} (p : A → Bool) where
  pub any_yes : (xs : List A) → T (any p xs) → (x : A) × (x ∈ xs) × T (p x)
  any_yes [] h = absurd h
  any_yes (x ∷ xs) h = go (λ t. any_yes xs t) (or_cases (p x) (any p xs) h)
    where
      go : (T (any p xs) → (y : A) × (y ∈ xs) × T (p y)) → T (p x) ⊎ T (any p xs) → (y : A) × (y ∈ x ∷ xs) × T (p y)
      go ih (inl t) = (x, Memᴰ.head refl, t)
      go ih (inr t) = let (y, m, q) = ih t in (y, Memᴰ.tail m, q)

  pub any_has : {x : A} {xs : List A} → x ∈ xs → T (p x) → T (any p xs)
  any_has (Memᴰ.head {x = y} {xs = ys} e) h = or_left (p y) (any p ys) (rw e at h)
  any_has (Memᴰ.tail {x = y} {xs = ys} m) h = or_right (p y) (any p ys) (any_has m h)

  pub any_no : {x : A} {xs : List A} → x ∈ xs → T (not (any p xs)) → T (p x) → ⊥
  any_no {x} {xs} m h t = T_not (any p xs) h (any_has m t)

  -- ---- a stored entry

  module _ (a : A) where
    pub store_in : (xs : List A) → a ∈ store p a xs
    store_in [] = Memᴰ.head refl
    store_in (x ∷ xs) = go (p x) (store_in xs)
      where
        go : (b : Bool) → a ∈ store p a xs → a ∈ cond b (a ∷ xs) (x ∷ store p a xs)
        go true m = Memᴰ.head refl
        go false m = Memᴰ.tail m

    pub store_keeps : {x : A} {xs : List A} → x ∈ xs → (T (p x) → ⊥) → x ∈ store p a xs
    store_keeps {x} (Memᴰ.head {x = y} {xs = ys} e) h = go (p y) (λ t. h (rw e t))
      where
        go : (b : Bool) → (T b → ⊥) → x ∈ cond b (a ∷ ys) (y ∷ store p a ys)
        go true k = absurd (k tt)
        go false k = Memᴰ.head e
    store_keeps {x} (Memᴰ.tail {x = y} {xs = ys} m) h = go (p y) (store_keeps m h)
      where
        go : (b : Bool) → x ∈ store p a ys → x ∈ cond b (a ∷ ys) (y ∷ store p a ys)
        go true k = Memᴰ.tail m
        go false k = Memᴰ.tail k

    pub store_from : {x : A} (xs : List A) → x ∈ store p a xs → (x ≡ a) ⊎ (x ∈ xs)
    store_from [] m = Memᴰ.cases_cons m
    store_from {x} (y ∷ ys) m = go (p y) (λ k. store_from ys k) m
      where
        under : (x ≡ a) ⊎ (x ∈ ys) → (x ≡ a) ⊎ (x ∈ y ∷ ys)
        under (inl e) = inl e
        under (inr k) = inr (Memᴰ.tail k)

        go : (b : Bool) → (x ∈ store p a ys → (x ≡ a) ⊎ (x ∈ ys)) → x ∈ cond b (a ∷ ys) (y ∷ store p a ys) → (x ≡ a) ⊎ (x ∈ y ∷ ys)
        go true ih k = under (Memᴰ.cases_cons k)
        go false ih k = ⊎_elim (λ e. inr (Memᴰ.head e)) (λ j. under (ih j)) (Memᴰ.cases_cons k)

    pub store_length : (xs : List A) → length (store p a xs) ≡ cond (any p xs) (length xs) (suc (length xs))
    store_length [] = refl
    store_length (y ∷ ys) = go (p y) (any p ys) (store_length ys)
      where
        go : (b c : Bool) → length (store p a ys) ≡ cond c (length ys) (suc (length ys))
            → length (cond b (a ∷ ys) (y ∷ store p a ys)) ≡ cond (b || c) (length (y ∷ ys)) (suc (length (y ∷ ys)))
        go true c h = refl
        go false true h = ap suc h
        go false false h = ap suc h

    -- the slot that is filled: the first that passes the test, else the one behind the last
    pub store_over : (xs : List A) → T (any p xs) → store p a xs ≡ set xs (find p xs) a
    store_over [] t = absurd t
    store_over (x ∷ xs) t = go (p x) (store_over xs) t
      where
        go : (b : Bool) → (T (any p xs) → store p a xs ≡ set xs (find p xs) a) → T (b || any p xs)
            → cond b (a ∷ xs) (x ∷ store p a xs) ≡ set (x ∷ xs) (cond b zero (suc (find p xs))) a
        go true ih t = refl
        go false ih t = ap (x ∷◌) (ih t)

    pub store_behind : (xs : List A) → T (not (any p xs)) → store p a xs ≡ xs ++ (a ∷ [])
    store_behind [] t = refl
    store_behind (x ∷ xs) t = go (p x) (store_behind xs) t
      where
        go : (b : Bool) → (T (not (any p xs)) → store p a xs ≡ xs ++ (a ∷ [])) → T (not (b || any p xs))
            → cond b (a ∷ xs) (x ∷ store p a xs) ≡ x ∷ (xs ++ (a ∷ []))
        go true ih t = absurd t
        go false ih t = ap (x ∷◌) (ih t)

    -- entries stay related pairwise if a takes the relations of the entry that it replaces, and those left are related
    -- to a
    pub store_pairwise : (R : A → A → Type 0) (xs : List A)
        → ((x y : A) → x ∈ xs → y ∈ xs → T (p x) → R x y → R a y)
        → ((x : A) → x ∈ xs → (T (p x) → ⊥) → R x a)
        → Pairwise R xs → Pairwise R (store p a xs)
    store_pairwise R [] takes left o = (λ y m. absurd (Memᴰ.not-nil m), tt)
    store_pairwise R (x ∷ xs) takes left o =
        go (p x) refl (store_pairwise R xs (λ y z m k. takes y z (Memᴰ.tail m) (Memᴰ.tail k)) (λ y m. left y (Memᴰ.tail m)) o.1)
      where
        go : (b : Bool) → p x ≡ b → Pairwise R (store p a xs) → Pairwise R (cond b (a ∷ xs) (x ∷ store p a xs))
        go true e h = (λ y m. takes x y (Memᴰ.head refl) (Memᴰ.tail m) (rw e tt) (o.0 y m), o.1)
        go false e h = (λ y m. ⊎_elim (λ q. rw q (left x (Memᴰ.head refl) (λ t. rw e at t))) (o.0 y) (store_from xs m), h)

  pub find_lt : (xs : List A) → T (any p xs) → find p xs < length xs
  find_lt [] t = absurd t
  find_lt (x ∷ xs) t = go (p x) (find_lt xs) t
    where
      go : (b : Bool) → (T (any p xs) → find p xs < length xs) → T (b || any p xs) → cond b zero (suc (find p xs)) < suc (length xs)
      go true ih t = omega arith
      go false ih t = omega (arith, ih t)

  pub find_none : (xs : List A) → T (not (any p xs)) → find p xs ≡ length xs
  find_none [] t = refl
  find_none (x ∷ xs) t = go (p x) (find_none xs) t
    where
      go : (b : Bool) → (T (not (any p xs)) → find p xs ≡ length xs) → T (not (b || any p xs)) → cond b zero (suc (find p xs)) ≡ suc (length xs)
      go true ih t = absurd t
      go false ih t = ap suc (ih t)

-- ---- entries that f tells apart

module _ {A B : Type 0} (f : A → B) where
  pub once_same : {x y : A} {xs : List A} → Once f xs → x ∈ xs → y ∈ xs → f x ≡ f y → x ≡ y
  once_same {y} o (Memᴰ.head e) k p =
      ⊎_elim (λ q. e ∙ sym q) (λ j. absurd (o.0 y j (ap f (sym e) ∙ p))) (Memᴰ.cases_cons k)
  once_same {x} o (Memᴰ.tail m) k p =
      ⊎_elim (λ q. absurd (o.0 x m (ap f (sym q) ∙ sym p))) (λ j. once_same o.1 m j p) (Memᴰ.cases_cons k)

  pub once_weaker : (xs : List A) → Once f xs → Once (λ (x : A). x) xs
  once_weaker [] o = tt
  once_weaker (x ∷ xs) o = (λ y m q. o.0 y m (ap f q), once_weaker xs o.1)

-- one place of a list left out
module _ {A : Type 0} where
  pub without : {x : A} {xs : List A} → x ∈ xs → List A
  without (Memᴰ.head {xs = ys} e) = ys
  without (Memᴰ.tail {x = y} m) = y ∷ without m

  without_length : {x : A} {xs : List A} (m : x ∈ xs) → length xs ≡ suc (length (without m))
  unfolding without
  without_length (Memᴰ.head e) = refl
  without_length (Memᴰ.tail m) = ap suc (without_length m)

  without_from : {x y : A} {xs : List A} (m : x ∈ xs) → y ∈ without m → y ∈ xs
  unfolding without
  without_from (Memᴰ.head e) k = Memᴰ.tail k
  without_from (Memᴰ.tail m) k =
      ⊎_elim (λ e. Memᴰ.head e) (λ j. Memᴰ.tail (without_from m j)) (Memᴰ.cases_cons k)

  without_keeps : {x y : A} {xs : List A} (m : x ∈ xs) → y ∈ xs → y ≢ x → y ∈ without m
  unfolding without
  without_keeps (Memᴰ.head e) k ne = ⊎_elim (λ q. absurd (ne (q ∙ sym e))) (λ j. j) (Memᴰ.cases_cons k)
  without_keeps (Memᴰ.tail m) k ne =
      ⊎_elim (λ q. Memᴰ.head q) (λ j. Memᴰ.tail (without_keeps m j ne)) (Memᴰ.cases_cons k)

  module _ {B : Type 0} (f : A → B) where
    without_once : {x : A} {xs : List A} (m : x ∈ xs) → Once f xs → Once f (without m)
    unfolding without
    without_once (Memᴰ.head e) o = o.1
    without_once (Memᴰ.tail m) o = (λ y k. o.0 y (without_from m k), without_once m o.1)

    without_other : {x : A} {xs : List A} (m : x ∈ xs) → Once f xs → (y : A) → y ∈ without m → f y ≢ f x
    unfolding without
    without_other (Memᴰ.head e) o y k q = o.0 y k (ap f (sym e) ∙ sym q)
    without_other (Memᴰ.tail m) o y k q =
        ⊎_elim (λ e. o.0 _ m (ap f (sym e) ∙ q)) (λ j. without_other m o.1 y j q) (Memᴰ.cases_cons k)

-- two lists with the same entries, each once, have one length
module _ {A : Type 0} where
  pub same_length : (xs ys : List A) → Once (λ (x : A). x) xs → Once (λ (x : A). x) ys → ((x : A) → x ∈ xs ↔ x ∈ ys) → length xs ≡ length ys
  same_length [] [] o r same = refl
  same_length [] (y ∷ ys) o r same = absurd (Memᴰ.not-nil ((same y).1 (Memᴰ.head refl)))
  same_length (x ∷ xs) ys o r same =
      let m = (same x).0 (Memᴰ.head refl) in
      ap suc (same_length xs (without m) o.1 (without_once (λ x. x) m r) (λ y. (
        λ k. without_keeps m ((same y).0 (Memᴰ.tail k)) (λ q. o.0 y k (sym q)),
        λ k. ⊎_elim (λ q. absurd (without_other (λ x. x) m r y k q)) (λ j. j) (Memᴰ.cases_cons ((same y).1 (without_from m k))),
      )))
      ∙ sym (without_length m)

-- ---- the count of different entries

-- A list whose entries f tells apart, and which f takes to the entries of ys and to no others, is as long as ys has
-- different entries.
module _ {A B : Type 0} (f : A → B) (same : B → B → Bool) (eq : (a b : B) → T (same a b) ↔ (a ≡ b)) where
  -- f takes xs into ys, and onto it
  abbrev Into : List A → List B → Type 0
  Into xs ys = (x : A) → x ∈ xs → f x ∈ ys

  abbrev Onto : List A → List B → Type 0
  Onto xs ys = (z : B) → z ∈ ys → (x : A) × (x ∈ xs) × (f x ≡ z)

  pub count_law : (ys : List B) (xs : List A) → Once f xs → Into xs ys → Onto xs ys → length xs ≡ different same ys
  count_law [] [] o to from = refl
  count_law [] (x ∷ xs) o to from = absurd (Memᴰ.not-nil (to x (Memᴰ.head refl)))
  count_law (y ∷ ys) xs o to from = go (any (same y) ys) (any_yes (same y) ys) (λ h. h) (count_law ys)
    where
      go : (b : Bool) → (T b → (z : B) × (z ∈ ys) × T (same y z)) → (T (any (same y) ys) → T b)
          → ((xs : List A) → Once f xs → Into xs ys → Onto xs ys → length xs ≡ different same ys)
          → length xs ≡ cond b (different same ys) (suc (different same ys))
      go true again all ih =
          let (z, k, q) = again tt in
          ih xs o (λ x m. ⊎_elim (λ e. Memᴰ.cast (e ∙ (eq y z).0 q) k) (λ j. j) (Memᴰ.cases_cons (to x m))) (λ z m. from z (Memᴰ.tail m))
      go false again all ih =
          let (x₀, m₀, p₀) = from y (Memᴰ.head refl) in
          without_length m₀ ∙ ap suc (ih (without m₀) (without_once f m₀ o)
          (λ x m. ⊎_elim (λ e. absurd (without_other f m₀ o x m (e ∙ sym p₀))) (λ j. j) (Memᴰ.cases_cons (to x (without_from m₀ m))))
          (λ z m. let (x, k, p) = from z (Memᴰ.tail m) in
          (x, without_keeps m₀ k (λ q. all (any_has (same y) m ((eq y z).1 (sym p₀ ∙ ap f (sym q) ∙ p)))), p)))
