-- An offer leaves a table with no ephemeral kind and no id or key twice as such, and a held event gives way only to a
-- newer one of its key.
use Rattle.std.specs.Prelude.{None, Some}
use mathlib.Core.Path.{◌≡◌, refl, sym, ap, ◌∙◌}
use mathlib.Core.Bool.{Bool, true, false, cond, not}
use mathlib.Core.Logic.{◌⊎◌, inl, inr, ⊎_elim, ◌≢◌}
use mathlib.Core.List.Memᴰ
use mathlib.Core.List.{List, [], ◌∷◌, ◌++◌}
use Prim.Native.Nat.{ℕ}
use lib.Dec.{T}
use Rattle.law.specs.Lists.{◌∈◌, any, store, Pairwise, Once}
use Rattle.law.specs.Table.{Class, ephemeral, regular, keyed, Events, Laws, Verdict, refused, was_ephemeral}
use Rattle.law.specs.Table.{duplicate, older, stored, no_room, is_ephemeral, share_key, is_stored, first_verdict}
use Rattle.law.specs.Table.{Table, Offer, has_id, has_key, has_key_newer, lacks_slot, verdict, after}
use Rattle.law.proofs.Run.{run}
use Rattle.law.proofs.Lists.{store_from, store_pairwise, once_same}
use Rattle.law.proofs.Held.{place, place_shares, Beats, Lasting, Covered, other_id, store_covers}

module _ (E : Events) where
  open E use {Event, id_of, class_of}

  -- no ephemeral kind, no id and no key twice
  pub record Distinct (t : Table E) : Type 0 where
    pub lasting : (e : Event) → e ∈ t → T (not (is_ephemeral (class_of e)))
    pub ids : Once id_of t
    pub keys : Pairwise (λ e h. T (has_key E e h) → ⊥) t

  -- a stored event, and any other offer
  pub after_stored : (N : ℕ) (t : Table E) (e : Event) → verdict E N t (Some e) ≡ stored → after E N t (Some e) ≡ store (has_key E e) e t
  unfolding after
  after_stored N t e p = rw p

  pub after_other : (N : ℕ) (t : Table E) (o : Offer E) → is_stored (verdict E N t o) ≡ false → after E N t o ≡ t
  unfolding after
  after_other N t None p = refl
  after_other N t (Some e) p = rw p

  -- what is held was held before or stored by an offer of the list
  pub record StoredIn (N : ℕ) (t : Table E) (os : List (Offer E)) (x : Event) : Type 0 where
    pub before : List (Offer E)
    pub later : List (Offer E)
    pub splits : os ≡ before ++ (Some x ∷ later)
    pub says : verdict E N (run E N t before) (Some x) ≡ stored

  pub run_from : (N : ℕ) (os : List (Offer E)) (t : Table E) (x : Event) → x ∈ run E N t os → (x ∈ t) ⊎ StoredIn N t os x
  unfolding run after
  run_from N [] t x m = inl m
  run_from N (o ∷ os) t x m = ⊎_elim (here o) (λ s. inr (there o s)) (run_from N os (after E N t o) x m)
    where
      there : (o : Offer E) → StoredIn N (after E N t o) os x → StoredIn N t (o ∷ os) x
      there o s = record { before = o ∷ s.before; later = s.later; splits = ap (o ∷◌) s.splits; says = s.says }

      now : (e : Event) → verdict E N t (Some e) ≡ stored → x ≡ e → StoredIn N t (Some e ∷ os) x
      now e v q = record { before = []; later = os; splits = ap (λ y. Some y ∷ os) (sym q); says = rw q v }

      here : (o : Offer E) → x ∈ after E N t o → (x ∈ t) ⊎ StoredIn N t (o ∷ os) x
      here None k = inl k
      here (Some e) k = go (verdict E N t (Some e)) refl k
        where
          go : (v : Verdict) → verdict E N t (Some e) ≡ v → x ∈ cond (is_stored v) (store (has_key E e) e t) t → (x ∈ t) ⊎ StoredIn N t (Some e ∷ os) x
          go refused p k = inl k
          go was_ephemeral p k = inl k
          go duplicate p k = inl k
          go older p k = inl k
          go stored p k = ⊎_elim (λ q. inr (now e p q)) inl (store_from (has_key E e) e t k)
          go no_room p k = inl k

module _ (E : Events) (L : Laws E) where
  open E use {Event, Id, Key, id_of, class_of, same_key}
  open L use {key_eq}

  -- what holds of the table as it was and of the table with e stored holds afterwards
  stored_or_not : (P : Table E → Type 0) (N : ℕ) (t : Table E) (e : Event) → P t
      → (Lasting E L e → T (not (any (has_id E e) t)) → T (not (any (has_key_newer E e) t)) → P (store (has_key E e) e t))
      → P (after E N t (Some e))
  unfolding after verdict
  stored_or_not P N t e p s = go (is_ephemeral (class_of e)) (any (has_id E e) t) (any (has_key_newer E e) t) (lacks_slot E N t e) s
    where
      go : (a b c l : Bool) → (T (not a) → T (not b) → T (not c) → P (store (has_key E e) e t))
          → P (cond (is_stored (first_verdict a b c l)) (store (has_key E e) e t) t)
      go true b c l s = p
      go false true c l s = p
      go false false true l s = p
      go false false false true s = p
      go false false false false s = s tt tt tt

  same_keys : (c d b : Class Key) → T (share_key same_key c d) → T (share_key same_key b d) → T (share_key same_key b c)
  same_keys ephemeral d b t u = absurd t
  same_keys regular d b t u = absurd t
  same_keys (keyed k) ephemeral b t u = absurd t
  same_keys (keyed k) regular b t u = absurd t
  same_keys (keyed k) (keyed m) ephemeral t u = absurd u
  same_keys (keyed k) (keyed m) regular t u = absurd u
  same_keys (keyed k) (keyed m) (keyed n) t u = (key_eq n k).1 ((key_eq n m).0 u ∙ sym ((key_eq k m).0 t))

  swap_keys : (c d : Class Key) → T (share_key same_key c d) → T (share_key same_key d c)
  swap_keys ephemeral d t = absurd t
  swap_keys regular d t = absurd t
  swap_keys (keyed k) ephemeral t = absurd t
  swap_keys (keyed k) regular t = absurd t
  swap_keys (keyed k) (keyed m) t = (key_eq m k).1 (sym ((key_eq k m).0 t))

  pub distinct_fresh : Distinct E []
  distinct_fresh = record { lasting = λ e m. absurd (Memᴰ.not-nil m); ids = tt; keys = tt }

  pub distinct_after : (N : ℕ) (t : Table E) (o : Offer E) → Distinct E t → Distinct E (after E N t o)
  unfolding after
  distinct_after N t None d = d
  distinct_after N t (Some e) d = stored_or_not (Distinct E) N t e d (λ le no_id noNewer. record {
    lasting = λ x m. ⊎_elim (λ q. rw q le) (d.lasting x) (store_from (has_key E e) e t m);
    ids = store_pairwise (has_key E e) e (λ x y. id_of x ≢ id_of y) t
        (λ x y m k h ne q. other_id E L e t no_id noNewer y k (sym q))
        (λ x m nk. other_id E L e t no_id noNewer x m) d.ids;
    keys = store_pairwise (has_key E e) e (λ x y. T (has_key E x y) → ⊥) t
        (λ x y m k h no' u. no' (same_keys (class_of x) (class_of e) (class_of y) h u))
        (λ x m nk u. nk (swap_keys (class_of e) (class_of x) u)) d.keys;
  })

  pub distinct_run : (N : ℕ) (os : List (Offer E)) (t : Table E) → Distinct E t → Distinct E (run E N t os)
  unfolding run
  distinct_run N [] t d = d
  distinct_run N (o ∷ os) t d = distinct_run N os (after E N t o) (distinct_after N t o d)

  -- no place is taken twice
  pub distinct_places : (t : Table E) → Distinct E t → Once (place E L) t
  distinct_places t d = go t d.ids d.keys
    where
      go : (t : Table E) → Once id_of t → Pairwise (λ e h. T (has_key E e h) → ⊥) t → Once (place E L) t
      go [] i k = tt
      go (x ∷ xs) i k = (λ y m p. ⊎_elim (λ q. i.0 y m (sym q)) (k.0 y m) (place_shares E L x y (sym p)), go xs i.1 k.1)

  -- a held event stays, or a newer one of its key is held in its place
  pub run_covers : (N : ℕ) (os : List (Offer E)) (t : Table E) (x : Event) → Covered E L x t → Covered E L x (run E N t os)
  unfolding run after
  run_covers N [] t x c = c
  run_covers N (None ∷ os) t x c = run_covers N os t x c
  run_covers N (Some e ∷ os) t x c =
      run_covers N os (after E N t (Some e)) x
      (stored_or_not (Covered E L x) N t e c (λ le no_id noNewer. store_covers E L e t no_id noNewer x c))

  run_append : (N : ℕ) (os ps : List (Offer E)) (t : Table E) → run E N t (os ++ ps) ≡ run E N (run E N t os) ps
  unfolding run
  run_append N [] ps t = refl
  run_append N (o ∷ os) ps t = run_append N os ps (after E N t o)

  -- of two events of one place, held one after the other, the later is the same or newer
  pub later_beats : (N : ℕ) (os ps : List (Offer E)) (x y : Event) → x ∈ run E N [] os → y ∈ run E N [] (os ++ ps)
      → place E L x ≡ place E L y → Beats E L y x
  later_beats N os ps x y m k p =
      let c : Covered E L x (run E N [] (os ++ ps)) = rw run_append (run_covers N ps (run E N [] os) x (x, m, (refl, inl refl))) in
      let o = distinct_places (run E N [] (os ++ ps)) (distinct_run N (os ++ ps) [] distinct_fresh) in
      go c o
    where
      go : Covered E L x (run E N [] (os ++ ps)) → Once (place E L) (run E N [] (os ++ ps)) → Beats E L y x
      go (u, mu, b) o = let same : u ≡ y = once_same (place E L) o mu k (b.0 ∙ p) in rw same at b
