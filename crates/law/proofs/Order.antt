-- The tests on bytes, keys and events mean equality and a strict order.
use mathlib.Core.Path.{◌≡◌, refl, sym, ap, ◌∙◌}
use mathlib.Core.Bool.{Bool, not, ◌||◌, ◌&&◌}
use mathlib.Core.Logic.{◌↔◌, ◌⊎◌, inl, inr, ⊎_elim, ◌≢◌}
use mathlib.Core.List.{List, [], ◌∷◌}
use Prim.Native.Nat.{ℕ}
use native.Mathlib.Omega.{arith}
use lib.Dec.{T, T_not, not_T, ltb, ltb→lt, lt→ltb, nltb→le}
use lib.IntN.{ℤ, pos, negsuc}
use lib.Signed.{◌<ℤ◌}
use Rattle.law.specs.Table.{Class, Laws}
use Rattle.wire.proofs.Bytes.{same_bytes_lem}
use Rattle.law.specs.Event.{Event, lower, earlier, newer, events}
use Rattle.law.proofs.Lists.{either, or_cases, or_left, or_right, and_both, and_left, and_right}

-- ---- times

-- a negative time is earlier than one that is not
pub negative_earlier : (a b : ℕ) → T (earlier (negsuc a) (pos b))
negative_earlier a b = tt

pub earlier_means : (a b : ℤ) → T (earlier a b) ↔ (a <ℤ b)
earlier_means a b = (λ t. record { lt = t }, λ h. h.lt)

-- ---- strict orders

-- a strict order in which any two are equal or one is below the other
pub record Strict {A : Type 0} (lt : A → A → Bool) : Type 0 where
  pub irreflexive : (a : A) → T (lt a a) → ⊥
  pub transitive : (a b c : A) → T (lt a b) → T (lt b c) → T (lt a c)
  pub total : (a b : A) → T (lt a b) ⊎ ((a ≡ b) ⊎ T (lt b a))

-- first by a strict order, and then by a second test
module _ {A : Type 0} (lt : A → A → Bool) (o : Strict lt) where
  abbrev pub lexical : A → A → Bool → Bool
  lexical a b r = lt a b || (not (lt b a) && r)

  pub lexical_cases : (a b : A) (r : Bool) → T (lexical a b r) → T (lt a b) ⊎ ((a ≡ b) × T r)
  lexical_cases a b r t = ⊎_elim inl (λ u. go u (o.total a b)) (or_cases (lt a b) (not (lt b a) && r) t)
    where
      go : T (not (lt b a) && r) → T (lt a b) ⊎ ((a ≡ b) ⊎ T (lt b a)) → T (lt a b) ⊎ ((a ≡ b) × T r)
      go u (inl l) = inl l
      go u (inr (inl q)) = inr (q, and_right (not (lt b a)) r u)
      go u (inr (inr l)) = absurd (T_not (lt b a) (and_left (not (lt b a)) r u) l)

  pub lexical_first : (a b : A) (r : Bool) → T (lt a b) → T (lexical a b r)
  lexical_first a b r t = or_left (lt a b) (not (lt b a) && r) t

  pub lexical_then : (a b : A) (r : Bool) → a ≡ b → T r → T (lexical a b r)
  lexical_then a b r q t =
      or_right (lt a b) (not (lt b a) && r) (and_both (not (lt b a)) r (not_T (lt b a) (λ l. o.irreflexive b (rw q at l))) t)

  pub lexical_trans : (a b c : A) (r s u : Bool) → (T r → T s → T u) → T (lexical a b r) → T (lexical b c s) → T (lexical a c u)
  lexical_trans a b c r s u k p q = go (lexical_cases a b r p) (lexical_cases b c s q)
    where
      go : T (lt a b) ⊎ ((a ≡ b) × T r) → T (lt b c) ⊎ ((b ≡ c) × T s) → T (lexical a c u)
      go (inl x) (inl y) = lexical_first a c u (o.transitive a b c x y)
      go (inl x) (inr y) = lexical_first a c u (rw y.0 at x)
      go (inr x) (inl y) = lexical_first a c u (rw x.0 y)
      go (inr x) (inr y) = lexical_then a c u (x.0 ∙ y.0) (k x.1 y.1)

strict_ℕ : Strict ltb
strict_ℕ = record {
  irreflexive = λ a t. omega (arith, ltb→lt a a t);
  transitive = λ a b c t u. lt→ltb a c (omega (arith, ltb→lt a b t, ltb→lt b c u));
  total = λ a b. go a b (either (ltb a b)) (either (ltb b a));
}
  where
    go : (a b : ℕ) → T (ltb a b) ⊎ T (not (ltb a b)) → T (ltb b a) ⊎ T (not (ltb b a)) → T (ltb a b) ⊎ ((a ≡ b) ⊎ T (ltb b a))
    go a b (inl t) u = inl t
    go a b (inr n) (inl t) = inr (inr t)
    go a b (inr n) (inr m) = inr (inl (omega (arith, nltb→le a b n, nltb→le b a m)))

pub strict_times : Strict earlier
strict_times = record { irreflexive = irr; transitive = trans; total = tri }
  where
    irr : (a : ℤ) → T (earlier a a) → ⊥
    irr (pos a) t = strict_ℕ.irreflexive a t
    irr (negsuc a) t = strict_ℕ.irreflexive a t

    trans : (a b c : ℤ) → T (earlier a b) → T (earlier b c) → T (earlier a c)
    trans (pos a) (pos b) (pos c) t u = strict_ℕ.transitive a b c t u
    trans (pos a) (pos b) (negsuc c) t u = absurd u
    trans (pos a) (negsuc b) c t u = absurd t
    trans (negsuc a) (pos b) (pos c) t u = tt
    trans (negsuc a) (pos b) (negsuc c) t u = absurd u
    trans (negsuc a) (negsuc b) (pos c) t u = tt
    trans (negsuc a) (negsuc b) (negsuc c) t u = strict_ℕ.transitive c b a u t

    tri_neg : (a b : ℕ) → T (ltb b a) ⊎ ((b ≡ a) ⊎ T (ltb a b)) → T (ltb b a) ⊎ ((negsuc a ≡ negsuc b) ⊎ T (ltb a b))
    tri_neg a b (inl t) = inl t
    tri_neg a b (inr (inl q)) = inr (inl (ap negsuc (sym q)))
    tri_neg a b (inr (inr t)) = inr (inr t)

    tri : (a b : ℤ) → T (earlier a b) ⊎ ((a ≡ b) ⊎ T (earlier b a))
    tri (pos a) (pos b) = ⊎_elim inl (λ s. inr (⊎_elim (λ q. inl (ap pos q)) inr s)) (strict_ℕ.total a b)
    tri (pos a) (negsuc b) = inr (inr tt)
    tri (negsuc a) (pos b) = inl tt
    tri (negsuc a) (negsuc b) = tri_neg a b (strict_ℕ.total b a)

pub strict_bytes : Strict lower
strict_bytes = record { irreflexive = irr; transitive = trans; total = tri }
  where
    irr : (a : List ℕ) → T (lower a a) → ⊥
    irr [] t = t
    irr (x ∷ xs) t = ⊎_elim (strict_ℕ.irreflexive x) (λ p. irr xs p.1) (lexical_cases ltb strict_ℕ x x (lower xs xs) t)

    trans : (a b c : List ℕ) → T (lower a b) → T (lower b c) → T (lower a c)
    trans [] [] c t u = absurd t
    trans [] (y ∷ ys) [] t u = absurd u
    trans [] (y ∷ ys) (z ∷ zs) t u = tt
    trans (x ∷ xs) [] c t u = absurd t
    trans (x ∷ xs) (y ∷ ys) [] t u = absurd u
    trans (x ∷ xs) (y ∷ ys) (z ∷ zs) t u = lexical_trans ltb strict_ℕ x y z (lower xs ys) (lower ys zs) (lower xs zs) (trans xs ys zs) t u

    tri : (a b : List ℕ) → T (lower a b) ⊎ ((a ≡ b) ⊎ T (lower b a))
    tri [] [] = inr (inl refl)
    tri [] (y ∷ ys) = inl tt
    tri (x ∷ xs) [] = inr (inr tt)
    tri (x ∷ xs) (y ∷ ys) = go (strict_ℕ.total x y) (tri xs ys)
      where
        go : T (ltb x y) ⊎ ((x ≡ y) ⊎ T (ltb y x)) → T (lower xs ys) ⊎ ((xs ≡ ys) ⊎ T (lower ys xs))
            → T (lower (x ∷ xs) (y ∷ ys)) ⊎ (((x ∷ xs) ≡ (y ∷ ys)) ⊎ T (lower (y ∷ ys) (x ∷ xs)))
        go (inl t) r = inl (lexical_first ltb strict_ℕ x y _ t)
        go (inr (inr t)) r = inr (inr (lexical_first ltb strict_ℕ y x _ t))
        go (inr (inl q)) (inl t) = inl (lexical_then ltb strict_ℕ x y _ q t)
        go (inr (inl q)) (inr (inl p)) = inr (inl cc)
        go (inr (inl q)) (inr (inr t)) = inr (inr (lexical_then ltb strict_ℕ y x _ (sym q) t))

-- ---- newer

module _ (time : List ℕ → ℤ) where
  abbrev time_of : Event → ℤ
  time_of e = time e.text

  -- later, or of one time and of lower id
  pub newer_means : (e f : Event) →
      T (newer time e f) ↔ (T (earlier (time f.text) (time e.text)) ⊎ ((time f.text ≡ time e.text) × T (lower e.id f.id)))
  newer_means e f = (
    lexical_cases earlier strict_times (time_of f) (time_of e) (lower e.id f.id),
    ⊎_elim
        (lexical_first earlier strict_times (time_of f) (time_of e) (lower e.id f.id))
        (λ p. lexical_then earlier strict_times (time_of f) (time_of e) (lower e.id f.id) p.0 p.1),
  )

  newer_irreflexive : (a : Event) → T (newer time a a) → ⊥
  newer_irreflexive a t = ⊎_elim (strict_times.irreflexive (time_of a)) (λ p. strict_bytes.irreflexive a.id p.1) ((newer_means a a).0 t)

  newer_transitive : (a b c : Event) → T (newer time a b) → T (newer time b c) → T (newer time a c)
  newer_transitive a b c t u =
      lexical_trans earlier strict_times (time_of c) (time_of b) (time_of a) (lower b.id c.id) (lower a.id b.id) (lower a.id c.id)
      (λ x y. strict_bytes.transitive a.id b.id c.id y x) u t

  newer_total : (a b : Event) → a.id ≢ b.id → T (newer time a b) ⊎ T (newer time b a)
  newer_total a b ne = go (strict_times.total (time_of b) (time_of a)) (strict_bytes.total a.id b.id)
    where
      go : T (earlier (time_of b) (time_of a)) ⊎ ((time_of b ≡ time_of a) ⊎ T (earlier (time_of a) (time_of b)))
          → T (lower a.id b.id) ⊎ ((a.id ≡ b.id) ⊎ T (lower b.id a.id)) → T (newer time a b) ⊎ T (newer time b a)
      go (inl t) r = inl ((newer_means a b).1 (inl t))
      go (inr (inr t)) r = inr ((newer_means b a).1 (inl t))
      go (inr (inl q)) (inl t) = inl ((newer_means a b).1 (inr (q, t)))
      go (inr (inl q)) (inr (inl p)) = absurd (ne p)
      go (inr (inl q)) (inr (inr t)) = inr ((newer_means b a).1 (inr (sym q, t)))

-- where the test on keys means equality
pub laws : (Key : Type 0) (same_key : Key → Key → Bool) → ((a b : Key) → T (same_key a b) ↔ (a ≡ b))
    → (class : List ℕ → Class Key) (time : List ℕ → ℤ) → Laws (events Key same_key class time)
laws Key same_key same_key_lem class time = record {
  id_eq = same_bytes_lem;
  key_eq = same_key_lem;
  irreflexive = newer_irreflexive time;
  transitive = newer_transitive time;
  total = newer_total time;
}
