-- What a list of offers leaves in a table that always has room: of each place the newest event, once.
use Rattle.std.specs.Prelude.{None, Some}
use mathlib.Core.Path.{◌≡◌, refl, sym, ap, ◌∙◌}
use mathlib.Core.Bool.{Bool, true, false, cond, not}
use mathlib.Core.Logic.{◌⊎◌, inl, inr, ⊎_elim, ◌≢◌}
use mathlib.Core.List.Memᴰ
use mathlib.Core.List.{List, [], ◌∷◌}
use Prim.Native.Nat.{ℕ}
use native.Mathlib.Omega.{arith}
use lib.Dec.{T, T_not}
use Rattle.law.specs.Lists.{◌∈◌, any, store, Once}
use Rattle.law.specs.Table.{Class, ephemeral, regular, keyed, Events, Laws, is_ephemeral, share_key, is_stored}
use Rattle.law.specs.Table.{first_verdict}
use Rattle.law.specs.Table.{Table, Offer, has_id, has_key, has_key_newer, Valid, IdPremise, WinsAs, Wins}
use Rattle.law.proofs.Lists.{either, and_both, and_left, and_right, any_yes, any_no, once_same}
use Rattle.law.proofs.Lists.{store_in, store_keeps, store_from, store_pairwise}

-- where an event stands: a regular one at its id, one with a key at its key
pub data Place (Id Key : Type 0) : Type 0 where
  own : Id → Place Id Key
  shared : Key → Place Id Key

abbrev pub place_of : {Id Key : Type 0} → Id → Class Key → Place Id Key
place_of i ephemeral = own i
place_of i regular = own i
place_of i (keyed k) = shared k

module _ (E : Events) (L : Laws E) where
  open E use {Event, Id, Key, id_of, class_of, same_key, newer}
  open L use {id_eq, key_eq, irreflexive, transitive, total}

  abbrev pub place : Event → Place Id Key
  place e = place_of (id_of e) (class_of e)

  key_place : (i j : Id) (c d : Class Key) → T (share_key same_key c d) → place_of i c ≡ place_of j d
  key_place i j ephemeral d t = absurd t
  key_place i j regular d t = absurd t
  key_place i j (keyed k) ephemeral t = absurd t
  key_place i j (keyed k) regular t = absurd t
  key_place i j (keyed k) (keyed m) t = ap shared ((key_eq k m).0 t)

  place_key : (i j : Id) (c d : Class Key) → place_of i c ≡ place_of j d → (i ≡ j) ⊎ T (share_key same_key c d)
  place_key i j ephemeral ephemeral p = inl cc
  place_key i j ephemeral regular p = inl cc
  place_key i j ephemeral (keyed m) p = inl cc
  place_key i j regular ephemeral p = inl cc
  place_key i j regular regular p = inl cc
  place_key i j regular (keyed m) p = inl cc
  place_key i j (keyed k) ephemeral p = inl cc
  place_key i j (keyed k) regular p = inl cc
  place_key i j (keyed k) (keyed m) p = inr ((key_eq k m).1 cc)

  -- one key, one place; and events of one place have one id or one key
  pub key_shares : (e h : Event) → T (has_key E e h) → place h ≡ place e
  key_shares e h t = key_place (id_of h) (id_of e) (class_of h) (class_of e) t

  pub place_shares : (e h : Event) → place h ≡ place e → (id_of h ≡ id_of e) ⊎ T (has_key E e h)
  place_shares e h p = place_key (id_of h) (id_of e) (class_of h) (class_of e) p

  -- a is b, or stands at the place of b and is newer
  abbrev pub Beats : Event → Event → Type 0
  Beats a b = (place a ≡ place b) × ((a ≡ b) ⊎ T (newer a b))

  pub beats_trans : (a b c : Event) → Beats a b → Beats b c → Beats a c
  beats_trans a b c (p, inl e) (q, r) = (p ∙ q, rw e r)
  beats_trans a b c (p, inr n) (q, inl e) = (p ∙ q, inr (rw e at n))
  beats_trans a b c (p, inr n) (q, inr m) = (p ∙ q, inr (transitive a b c n m))

  abbrev pub Lasting : Event → Type 0
  Lasting e = T (not (is_ephemeral (class_of e)))

  abbrev pub Covered : Event → Table E → Type 0
  Covered s t = (e : Event) × (e ∈ t) × Beats e s

  -- ---- a stored event

  -- e is stored: no held event has its id, and none with its key is newer
  module _ (e : Event) (t : Table E) (no_id : T (not (any (has_id E e) t))) (noNewer : T (not (any (has_key_newer E e) t))) where
    pub other_id : (x : Event) → x ∈ t → id_of x ≢ id_of e
    other_id x m q = any_no (has_id E e) m no_id ((id_eq (id_of x) (id_of e)).1 q)

    beats_replaced : (u : Event) → u ∈ t → T (has_key E e u) → Beats e u
    beats_replaced u m h = (sym (key_shares e u h), inr (⊎_elim (λ n. absurd (not_newer n)) (λ n. n) (total u e (other_id u m))))
      where
        not_newer : T (newer u e) → ⊥
        not_newer n = any_no (has_key_newer E e) m noNewer (and_both (has_key E e u) (newer u e) h n)

    pub store_covers : (s : Event) → Covered s t → Covered s (store (has_key E e) e t)
    store_covers s (u, m, b) = go (either (has_key E e u))
      where
        go : T (has_key E e u) ⊎ T (not (has_key E e u)) → Covered s (store (has_key E e) e t)
        go (inl h) = (e, store_in (has_key E e) e t, beats_trans e u s (beats_replaced u m h) b)
        go (inr h) = (u, store_keeps (has_key E e) e m (T_not (has_key E e u) h), b)

    store_once : Once place t → Once place (store (has_key E e) e t)
    store_once o = store_pairwise (has_key E e) e (λ x y. place x ≢ place y) t
        (λ x y m k h ne q. ne (key_shares e x h ∙ q))
        (λ x m nk p. ⊎_elim (other_id x m) nk (place_shares e x p)) o

  -- ---- the invariant

  -- the table t is right for the events S, but for those of `rest`, which are still to come
  pub record Right (S : Event → Type 0) (rest : List (Offer E)) (t : Table E) : Type 0 where
    pub from : (e : Event) → e ∈ t → S e × Lasting e
    pub best : (s : Event) → S s → Lasting s → Valid E s rest ⊎ Covered s t
    pub once : Once place t

  -- at the list's end each event of S is beaten by one that is held
  pub covers : {S : Event → Type 0} {t : Table E} → Right S [] t → (s : Event) → S s → Lasting s → Covered s t
  covers r s ss st = ⊎_elim (λ m. absurd (Memᴰ.not-nil m)) (λ c. c) (r.best s ss st)

  pub valid_cases : {s e : Event} {os : List (Offer E)} → Valid E s (Some e ∷ os) → (s ≡ e) ⊎ Valid E s os
  valid_cases {s} {e} v = ⊎_elim (λ (q : Some s ≡ Some e). inl cc) (λ w. inr w) (Memᴰ.cases_cons v)

  pub valid_skip : {s : Event} {os : List (Offer E)} → Valid E s (None ∷ os) → Valid E s os
  valid_skip {s} v = ⊎_elim
      (λ (q : Some s ≡ None). let z : ◌≡◌ {A = ℕ} 0 1 = cc in absurd (omega arith))
      (λ w. w)
      (Memᴰ.cases_cons v)

  -- an offer, and a list of offers, to a table that always has room
  abbrev pub put : Table E → Offer E → Table E
  put t None = t
  put t (Some e) =
      cond (is_stored (first_verdict (is_ephemeral (class_of e)) (any (has_id E e) t) (any (has_key_newer E e) t) false)) (store (has_key E e) e t) t

  abbrev pub PutsOf : Table E → List (Offer E) → Table E
  PutsOf t [] = t
  PutsOf t (o ∷ os) = PutsOf (put t o) os

  module _ (S : Event → Type 0) (ids : (e f : Event) → S e → S f → id_of e ≡ id_of f → e ≡ f) where
    -- the next offer leaves the table as it is
    keep : (e : Event) (rest : List (Offer E)) (t : Table E) → Right S (Some e ∷ rest) t → (Lasting e → Covered e t)
        → Right S rest t
    keep e rest t r c = record {
      from = r.from;
      best = λ s ss st. ⊎_elim (λ v. ⊎_elim (λ q. inr (rw q (c (rw q at st)))) inl (valid_cases v)) inr (r.best s ss st);
      once = r.once;
    }

    -- the next offer is stored
    add : (e : Event) (rest : List (Offer E)) (t : Table E) → S e → Lasting e
        → T (not (any (has_id E e) t)) → T (not (any (has_key_newer E e) t))
        → Right S (Some e ∷ rest) t → Right S rest (store (has_key E e) e t)
    add e rest t se le no_id noNewer r = record {
      from = λ x m. ⊎_elim (λ q. rw q (se, le)) (r.from x) (store_from (has_key E e) e t m);
      best = λ s ss st. ⊎_elim (λ v. ⊎_elim (itself s) inl (valid_cases v)) (λ c. inr (store_covers e t no_id noNewer s c)) (r.best s ss st);
      once = store_once e t no_id noNewer r.once;
    }
      where
        itself : (s : Event) → s ≡ e → Valid E s rest ⊎ Covered s (store (has_key E e) e t)
        itself s q = inr (e, store_in (has_key E e) e t, (ap place (sym q), inl (sym q)))

    step : (e : Event) (rest : List (Offer E)) (t : Table E) → S e → Right S (Some e ∷ rest) t → Right S rest (put t (Some e))
    step e rest t se r = go (is_ephemeral (class_of e)) (any (has_id E e) t) (any (has_key_newer E e) t) refl refl refl
      where
        go : (a b c : Bool) → is_ephemeral (class_of e) ≡ a → any (has_id E e) t ≡ b → any (has_key_newer E e) t ≡ c
            → Right S rest (cond (is_stored (first_verdict a b c false)) (store (has_key E e) e t) t)
        go true b c p q n = keep e rest t r (λ st. absurd (rw p at st))
        go false true c p q n =
            let (u, m, h) = any_yes (has_id E e) t (rw q tt) in
            let same = ids u e (r.from u m).0 se ((id_eq (id_of u) (id_of e)).0 h) in
            keep e rest t r (λ st. (u, m, (ap place same, inl same)))
        go false false true p q n =
            let (u, m, h) = any_yes (has_key_newer E e) t (rw n tt) in
            let beats : Beats u e = (key_shares e u (and_left (has_key E e u) (newer u e) h), inr (and_right (has_key E e u) (newer u e) h)) in
            keep e rest t r (λ st. (u, m, beats))
        go false false false p q n = add e rest t se (rw p tt) (rw q tt) (rw n tt) r

    steps : (os : List (Offer E)) (t : Table E) → ((e : Event) → Valid E e os → S e) → Right S os t → Right S [] (PutsOf t os)
    steps [] t sees r = r
    steps (None ∷ os) t sees r = steps os t (λ e v. sees e (Memᴰ.tail v)) (record {
      from = r.from;
      best = λ s ss st. ⊎_elim (λ v. inl (valid_skip v)) inr (r.best s ss st);
      once = r.once;
    })
    steps (Some e ∷ os) t sees r = steps os (put t (Some e)) (λ f v. sees f (Memᴰ.tail v)) (step e os t (sees e (Memᴰ.head refl)) r)

  -- a list of offers to a fresh table leaves a table that is right for its valid events
  pub right : (os : List (Offer E)) → IdPremise E os → Right (λ e. Valid E e os) [] (PutsOf [] os)
  right os ids = steps (λ e. Valid E e os) ids os [] (λ e v. v) (record {
    from = λ e m. absurd (Memᴰ.not-nil m);
    best = λ s ss st. inl ss;
    once = tt;
  })

  -- ---- what is held

  regular_no_key : (c : Class Key) → T (share_key same_key c regular) → ⊥
  regular_no_key ephemeral t = t
  regular_no_key regular t = t
  regular_no_key (keyed k) t = t

  key_keyed : (c : Class Key) (k : Key) → T (share_key same_key c (keyed k)) → c ≡ keyed k
  key_keyed ephemeral k t = absurd t
  key_keyed regular k t = absurd t
  key_keyed (keyed m) k t = ap keyed ((key_eq m k).0 t)

  wins_lasts : (c : Class Key) (e : Event) (os : List (Offer E)) → WinsAs E c e os → T (not (is_ephemeral c))
  wins_lasts ephemeral e os w = absurd w
  wins_lasts regular e os w = tt
  wins_lasts (keyed k) e os w = tt

  module _ (os : List (Offer E)) (ids : IdPremise E os) (t : Table E) (r : Right (λ e. Valid E e os) [] t) where
    pub held_wins : (e : Event) → e ∈ t → Wins E e os
    held_wins e m = ((r.from e m).0, go (class_of e) refl)
      where
        go : (c : Class Key) → class_of e ≡ c → WinsAs E c e os
        go ephemeral p = rw p at (r.from e m).1
        go regular p = tt
        go (keyed k) p = λ f vf pf ne.
            let (u, mu, (q, b)) = covers r f vf (rw pf tt) in
            let same : u ≡ e = once_same place r.once mu m (q ∙ ap (place_of (id_of f)) pf ∙ ap (place_of (id_of e)) (sym p)) in
            ⊎_elim (λ w. absurd (ne (sym w ∙ same))) (λ n. rw same at n) b

    -- a winner is not beaten by another event that is held
    unbeaten : (e u : Event) → Valid E e os → (c : Class Key) → class_of e ≡ c → WinsAs E c e os
        → u ∈ t → T (has_key E e u) → T (newer u e) → ⊥
    unbeaten e u v ephemeral p w m k n = w
    unbeaten e u v regular p w m k n = regular_no_key (class_of u) (rw p at k)
    unbeaten e u v (keyed x) p w m k n =
        let back : T (newer e u) = w u (r.from u m).0 (key_keyed (class_of u) x (rw p at k)) (λ i. irreflexive u (rw (← i) at n)) in
        irreflexive u (transitive u e u n back)

    pub wins_held : (e : Event) → Wins E e os → e ∈ t
    wins_held e (v, w) = go (covers r e v (wins_lasts (class_of e) e os w))
      where
        go : Covered e t → e ∈ t
        go (u, m, (q, inl i)) = Memᴰ.cast (sym i) m
        go (u, m, (q, inr n)) = ⊎_elim
            (λ i. Memᴰ.cast (sym (ids u e (r.from u m).0 v i)) m)
            (λ k. absurd (unbeaten e u v (class_of e) refl w m k n))
            (place_shares e u q)
