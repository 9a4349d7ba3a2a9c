-- When an offer lacks room, and how many slots a list of offers takes.
use Rattle.std.specs.Prelude.{None, Some}
use mathlib.Core.Path.{◌≡◌, refl, sym, ap, ◌∙◌}
use mathlib.Core.Bool.{Bool, true, false, cond, not, ◌||◌, ◌&&◌}
use mathlib.Core.Logic.{◌↔◌, ◌⊎◌, inl, inr, ⊎_elim}
use mathlib.Core.List.Memᴰ
use mathlib.Core.List.{List, [], ◌∷◌, ◌++◌}
use Prim.Native.Nat.{ℕ, suc, ◌+◌, ◌≤◌, ◌<◌}
use native.Mathlib.Omega.{arith}
use lib.Dec.{T, T_not, leb, leb→le, nleb→lt}
use lib.ListN.{length}
use Rattle.law.specs.Lists.{◌∈◌, any, store, different}
use Rattle.law.specs.Table.{Class, ephemeral, regular, keyed, Events, Laws, is_ephemeral, is_no_room, is_stored}
use Rattle.law.specs.Table.{first_verdict}
use Rattle.law.specs.Table.{Table, Offer, has_id, has_key, has_key_newer, verdict, after}
use Rattle.law.specs.Table.{Valid, IdPremise, id_if_regular, key_if_keyed, regular_ids, keys, slots_needed}
use Rattle.law.proofs.Run.{run, verdicts, lacks, NoneLacks}
use Rattle.law.proofs.Lists.{store_length, count_law}
use Rattle.law.proofs.Held.{Place, own, shared, place_of, place, Lasting, Right, covers, right}
use Rattle.law.proofs.Held.{valid_cases, valid_skip, put, PutsOf}

module _ (E : Events) (L : Laws E) where
  open E use {Event, Id, Key, id_of, class_of, same_id, same_key}
  open L use {id_eq, key_eq}

  -- ---- a table grows, and a run does what it does where there is always room, until it lacks room

  put_grows : (t : Table E) (o : Offer E) → length t ≤ length (put E L t o)
  put_grows t None = omega arith
  put_grows t (Some e) =
      go (is_stored (first_verdict (is_ephemeral (class_of e)) (any (has_id E e) t) (any (has_key_newer E e) t) false)) (any (has_key E e) t) (store_length (has_key E e) e t)
    where
      go : (s k : Bool) → length (store (has_key E e) e t) ≡ cond k (length t) (suc (length t))
          → length t ≤ length (cond s (store (has_key E e) e t) t)
      go true true h = omega arith
      go true false h = omega arith
      go false k h = omega arith

  pub puts_grow : (os : List (Offer E)) (t : Table E) → length t ≤ length (PutsOf E L t os)
  puts_grow [] t = omega arith
  puts_grow (o ∷ os) t = omega (arith, put_grows t o, puts_grow os (put E L t o))

  pub puts_append : (os ps : List (Offer E)) (t : Table E) → PutsOf E L t (os ++ ps) ≡ PutsOf E L (PutsOf E L t os) ps
  puts_append [] ps t = refl
  puts_append (o ∷ os) ps t = puts_append os ps (put E L t o)

  module _ (N : ℕ) where
    -- t is what is left, u what would be left if there were always room
    abbrev Outcome : Bool → Table E → Table E → Type 0
    Outcome lack t u = (T lack × (N < length u)) ⊎ (T (not lack) × (t ≡ u) × (length u ≤ N))

    after_put : (t : Table E) (o : Offer E) → length t ≤ N → Outcome (is_no_room (verdict E N t o)) (after E N t o) (put E L t o)
    unfolding verdict after
    after_put t None h = inr (tt, refl, h)
    after_put t (Some e) h =
        go (is_ephemeral (class_of e)) (any (has_id E e) t) (any (has_key_newer E e) t) (any (has_key E e) t) (leb N (length t)) refl (store_length (has_key E e) e t)
      where
        u : Table E
        u = store (has_key E e) e t

        go : (a b c k f : Bool) → leb N (length t) ≡ f → length u ≡ cond k (length t) (suc (length t))
            → Outcome (is_no_room (first_verdict a b c (not k && f)))
            (cond (is_stored (first_verdict a b c (not k && f))) u t) (cond (is_stored (first_verdict a b c false)) u t)
        go true b c k f p q = inr (tt, refl, h)
        go false true c k f p q = inr (tt, refl, h)
        go false false true k f p q = inr (tt, refl, h)
        go false false false true f p q = inr (tt, refl, omega arith)
        go false false false false true p q = inl (tt, omega (arith, leb→le N (length t) (rw p tt)))
        go false false false false false p q = inr (tt, refl, omega (arith, nleb→lt N (length t) (rw p tt)))

    run_puts : (os : List (Offer E)) (t : Table E) → length t ≤ N → Outcome (lacks E N t os) (run E N t os) (PutsOf E L t os)
    unfolding run verdicts
    run_puts [] t h = inr (tt, refl, h)
    run_puts (o ∷ os) t h = go (is_no_room (verdict E N t o)) (after E N t o) (after_put t o h) (λ t'. run_puts os t')
      where
        go : (b : Bool) (t' : Table E) → Outcome b t' (put E L t o)
            → ((t' : Table E) → length t' ≤ N → Outcome (lacks E N t' os) (run E N t' os) (PutsOf E L t' os))
            → Outcome (b || lacks E N t' os) (run E N t' os) (PutsOf E L (put E L t o) os)
        go true t' (inl f) ih = inl (tt, omega (arith, f.1, puts_grow os (put E L t o)))
        go true t' (inr f) ih = absurd f.0
        go false t' (inl f) ih = absurd f.0
        go false t' (inr f) ih = rw f.1 (ih (put E L t o) f.2)

    pub lacks_long : (os : List (Offer E)) → T (lacks E N [] os) ↔ (N < length (PutsOf E L [] os))
    lacks_long os = (
      λ t. ⊎_elim (λ f. f.1) (λ f. absurd (T_not (lacks E N [] os) f.0 t)) (run_puts os [] (omega arith)),
      λ h. ⊎_elim (λ f. f.0) (λ f. absurd (omega (arith, f.2))) (run_puts os [] (omega arith)),
    )

    pub fits_run : (os : List (Offer E)) → NoneLacks E N os → (run E N [] os ≡ PutsOf E L [] os) × (length (PutsOf E L [] os) ≤ N)
    fits_run os h = ⊎_elim (λ f. absurd (T_not (lacks E N [] os) h f.0)) (λ f. (f.1, f.2)) (run_puts os [] (omega arith))

    pub short_fits : (os : List (Offer E)) → length (PutsOf E L [] os) ≤ N → NoneLacks E N os
    short_fits os h = ⊎_elim (λ f. absurd (omega (arith, f.1))) (λ f. f.0) (run_puts os [] (omega arith))

  -- ---- the places of the valid events of a list

  abbrev same_place : Place Id Key → Place Id Key → Bool
  same_place (own i) (own j) = same_id i j
  same_place (own i) (shared m) = false
  same_place (shared k) (own j) = false
  same_place (shared k) (shared m) = same_key k m

  place_eq : (a b : Place Id Key) → T (same_place a b) ↔ (a ≡ b)
  place_eq (own i) (own j) = (λ t. ap own ((id_eq i j).0 t), λ p. (id_eq i j).1 cc)
  place_eq (own i) (shared m) = (λ t. absurd t, λ p. let z : ◌≡◌ {A = ℕ} 0 1 = cc in omega arith)
  place_eq (shared k) (own j) = (λ t. absurd t, λ p. let z : ◌≡◌ {A = ℕ} 0 1 = cc in omega arith)
  place_eq (shared k) (shared m) = (λ t. ap shared ((key_eq k m).0 t), λ p. (key_eq k m).1 cc)

  abbrev place_in : Class Key → Id → List (Place Id Key) → List (Place Id Key)
  place_in ephemeral i ps = ps
  place_in regular i ps = own i ∷ ps
  place_in (keyed k) i ps = shared k ∷ ps

  abbrev places : List (Offer E) → List (Place Id Key)
  places [] = []
  places (None ∷ os) = places os
  places (Some e ∷ os) = place_in (class_of e) (id_of e) (places os)

  place_in_has : (c : Class Key) (i : Id) (ps : List (Place Id Key)) → T (not (is_ephemeral c)) → place_of i c ∈ place_in c i ps
  place_in_has ephemeral i ps st = absurd st
  place_in_has regular i ps st = Memᴰ.head refl
  place_in_has (keyed k) i ps st = Memᴰ.head refl

  place_in_keeps : (c : Class Key) (i : Id) (ps : List (Place Id Key)) {z : Place Id Key} → z ∈ ps → z ∈ place_in c i ps
  place_in_keeps ephemeral i ps m = m
  place_in_keeps regular i ps m = Memᴰ.tail m
  place_in_keeps (keyed k) i ps m = Memᴰ.tail m

  place_in_from : (c : Class Key) (i : Id) (ps : List (Place Id Key)) (z : Place Id Key) → z ∈ place_in c i ps
      → (T (not (is_ephemeral c)) × (place_of i c ≡ z)) ⊎ (z ∈ ps)
  place_in_from ephemeral i ps z m = inr m
  place_in_from regular i ps z m = ⊎_elim (λ q. inl (tt, sym q)) inr (Memᴰ.cases_cons m)
  place_in_from (keyed k) i ps z m = ⊎_elim (λ q. inl (tt, sym q)) inr (Memᴰ.cases_cons m)

  places_has : (os : List (Offer E)) (e : Event) → Valid E e os → Lasting E L e → place E L e ∈ places os
  places_has [] e v st = absurd (Memᴰ.not-nil v)
  places_has (None ∷ os) e v st = places_has os e (valid_skip E L v) st
  places_has (Some f ∷ os) e v st = go (λ w. places_has os e w st) (valid_cases E L v)
    where
      go : (Valid E e os → place E L e ∈ places os) → (e ≡ f) ⊎ Valid E e os → place E L e ∈ place_in (class_of f) (id_of f) (places os)
      go ih (inl q) = rw q (place_in_has (class_of f) (id_of f) (places os) (rw q at st))
      go ih (inr w) = place_in_keeps (class_of f) (id_of f) (places os) (ih w)

  -- a valid event of the list stands at z
  abbrev Stood : Place Id Key → List (Offer E) → Type 0
  Stood z os = (e : Event) × Valid E e os × Lasting E L e × (place E L e ≡ z)

  places_from_lem : (os : List (Offer E)) (z : Place Id Key) → z ∈ places os → Stood z os
  places_from_lem [] z m = absurd (Memᴰ.not-nil m)
  places_from_lem (None ∷ os) z m = let (e, v, st, p) = places_from_lem os z m in (e, Memᴰ.tail v, st, p)
  places_from_lem (Some f ∷ os) z m = go (λ w. places_from_lem os z w) (place_in_from (class_of f) (id_of f) (places os) z m)
    where
      go : (z ∈ places os → Stood z os) → (Lasting E L f × (place E L f ≡ z)) ⊎ (z ∈ places os) → Stood z (Some f ∷ os)
      go ih (inl q) = (f, Memᴰ.head refl, q.0, q.1)
      go ih (inr w) = let (e, v, st, p) = ih w in (e, Memᴰ.tail v, st, p)

  -- ---- different places are different ids of regular events and different keys

  any_own : (i : Id) (os : List (Offer E)) → any (same_place (own i)) (places os) ≡ any (same_id i) (regular_ids E os)
  any_own i [] = refl
  any_own i (None ∷ os) = any_own i os
  any_own i (Some e ∷ os) = go (class_of e) (any_own i os)
    where
      go : (c : Class Key) → any (same_place (own i)) (places os) ≡ any (same_id i) (regular_ids E os)
          → any (same_place (own i)) (place_in c (id_of e) (places os)) ≡ any (same_id i) (id_if_regular E c (id_of e) (regular_ids E os))
      go ephemeral h = h
      go regular h = cc
      go (keyed k) h = h

  any_shared : (k : Key) (os : List (Offer E)) → any (same_place (shared k)) (places os) ≡ any (same_key k) (keys E os)
  any_shared k [] = refl
  any_shared k (None ∷ os) = any_shared k os
  any_shared k (Some e ∷ os) = go (class_of e) (any_shared k os)
    where
      go : (c : Class Key) → any (same_place (shared k)) (places os) ≡ any (same_key k) (keys E os)
          → any (same_place (shared k)) (place_in c (id_of e) (places os)) ≡ any (same_key k) (key_if_keyed E c (keys E os))
      go ephemeral h = h
      go regular h = h
      go (keyed m) h = cc

  count_left : (b : Bool) (d i k : ℕ) → d ≡ i + k → cond b d (suc d) ≡ cond b i (suc i) + k
  count_left true d i k h = h
  count_left false d i k h = omega arith

  count_right : (b : Bool) (d i k : ℕ) → d ≡ i + k → cond b d (suc d) ≡ i + cond b k (suc k)
  count_right true d i k h = h
  count_right false d i k h = omega arith

  places_needed : (os : List (Offer E)) → different same_place (places os) ≡ slots_needed E os
  places_needed [] = refl
  places_needed (None ∷ os) = places_needed os
  places_needed (Some e ∷ os) = go (class_of e) (places_needed os)
    where
      go : (c : Class Key) → different same_place (places os) ≡ slots_needed E os
          → different same_place (place_in c (id_of e) (places os))
          ≡ different same_id (id_if_regular E c (id_of e) (regular_ids E os)) + different same_key (key_if_keyed E c (keys E os))
      go ephemeral h = h
      go regular h = rw (any_own (id_of e) os) (count_left (any (same_id (id_of e)) (regular_ids E os)) _ _ _ h)
      go (keyed k) h = rw (any_shared k os) (count_right (any (same_key k) (keys E os)) _ _ _ h)

  -- a table that is right for the valid events of a list has as many slots as they need
  pub right_count : (os : List (Offer E)) (t : Table E) → Right E L (λ e. Valid E e os) [] t → length t ≡ slots_needed E os
  right_count os t r =
      count_law (place E L) same_place place_eq (places os) t r.once
      (λ x m. places_has os x (r.from x m).0 (r.from x m).1) (λ z m. stood z (places_from_lem os z m))
      ∙ places_needed os
    where
      stood : (z : Place Id Key) → Stood z os → (x : Event) × (x ∈ t) × (place E L x ≡ z)
      stood z (e, v, st, p) = let (u, m, (q, b)) = covers E L r e v st in (u, m, q ∙ p)

  pub puts_count : (os : List (Offer E)) → IdPremise E os → length (PutsOf E L [] os) ≡ slots_needed E os
  puts_count os ids = right_count os (PutsOf E L [] os) (right E L os ids)
