-- A table of slots with signatures does what the table of their events does, and the signature first stored stays.
use Rattle.std.specs.Prelude.{None, Some}
use mathlib.Core.Path.{◌≡◌, refl, ap, ap₂, ◌∙◌}
use mathlib.Core.Bool.{Bool, true, false, cond, ◌||◌}
use mathlib.Core.Logic.{⊎_elim}
use mathlib.Core.List.{List, [], ◌∷◌, ◌++◌, map}
use Prim.Native.Nat.{ℕ}
use lib.ListN.{length-map}
use Rattle.law.specs.Lists.{◌∈◌, any, store}
use Rattle.law.specs.Table.{Events, Laws, is_no_room, is_stored, Table, Offer, has_id, has_key, has_key_newer}
use Rattle.law.specs.Table.{verdict, after}
use Rattle.law.specs.Signature.{with_signature, event, without_signature}
use Rattle.law.proofs.Run.{run, verdicts, lacks}
use Rattle.law.proofs.Sound.{later_beats}

module _ {A B : Type 0} (f : A → B) where
  any_map : (p : B → Bool) (xs : List A) → any p (map f xs) ≡ any (λ x. p (f x)) xs
  any_map p [] = refl
  any_map p (x ∷ xs) = ap (p (f x) ||◌) (any_map p xs)

  cond_map : (b : Bool) (xs ys : List A) → map f (cond b xs ys) ≡ cond b (map f xs) (map f ys)
  cond_map true xs ys = refl
  cond_map false xs ys = refl

  store_map : (p : B → Bool) (a : A) (xs : List A) → map f (store (λ x. p (f x)) a xs) ≡ store p (f a) (map f xs)
  store_map p a [] = refl
  store_map p a (x ∷ xs) =
      cond_map (p (f x)) (a ∷ xs) (x ∷ store (λ x. p (f x)) a xs)
      ∙ ap (λ ys. cond (p (f x)) (f a ∷ map f xs) (f x ∷ ys)) (store_map p a xs)

module _ (E : Events) (Sig : Type 0) where
  abbrev S : Events
  S = with_signature E Sig

  -- the events of a table of slots, and of a list of offers
  abbrev bare : Table S → Table E
  bare t = map (event E Sig) t

  abbrev bares : List (Offer S) → List (Offer E)
  bares os = map (without_signature E Sig) os

  verdict_event : (N : ℕ) (t : Table S) (o : Offer S) → verdict S N t o ≡ verdict E N (bare t) (without_signature E Sig o)
  unfolding verdict
  verdict_event N t None = refl
  verdict_event N t (Some s) = rw (
    any_map (event E Sig) (has_id E s.0) t,
    any_map (event E Sig) (has_key_newer E s.0) t,
    any_map (event E Sig) (has_key E s.0) t,
    length-map t (event E Sig),
  )

  after_event : (N : ℕ) (t : Table S) (o : Offer S) → bare (after S N t o) ≡ after E N (bare t) (without_signature E Sig o)
  unfolding after
  after_event N t None = refl
  after_event N t (Some s) =
      cond_map (event E Sig) (is_stored (verdict S N t (Some s))) (store (has_key S s) s t) t
      ∙ ap₂ (λ v u. cond (is_stored v) u (bare t)) (verdict_event N t (Some s)) (store_map (event E Sig) (has_key E s.0) s t)

  pub run_event : (N : ℕ) (os : List (Offer S)) (t : Table S) → bare (run S N t os) ≡ run E N (bare t) (bares os)
  unfolding run
  run_event N [] t = refl
  run_event N (o ∷ os) t = run_event N os (after S N t o) ∙ ap (λ u. run E N u (bares os)) (after_event N t o)

  pub lacks_event : (N : ℕ) (os : List (Offer S)) (t : Table S) → lacks S N t os ≡ lacks E N (bare t) (bares os)
  unfolding verdicts
  lacks_event N [] t = refl
  lacks_event N (o ∷ os) t = ap₂ (λ v l. is_no_room v || l)
      (verdict_event N t o)
      (lacks_event N os (after S N t o) ∙ ap (λ u. lacks E N u (bares os)) (after_event N t o))

  pub signed_laws : Laws E → Laws S
  signed_laws L = record {
    id_eq = L.id_eq;
    key_eq = L.key_eq;
    irreflexive = λ a. L.irreflexive a.0;
    transitive = λ a b c. L.transitive a.0 b.0 c.0;
    total = λ a b. L.total a.0 b.0;
  }

  pub signature_stays : Laws E → (N : ℕ) (os ps : List (Offer S)) (e : E.Event) (s r : Sig)
      → (e, s) ∈ run S N [] os → (e, r) ∈ run S N [] (os ++ ps) → r ≡ s
  signature_stays L N os ps e s r m k = ⊎_elim
      (λ (q : (e, r) ≡ (e, s)). ap (λ x. x.1) q)
      (λ n. absurd (L.irreflexive e n))
      (later_beats S (signed_laws L) N os ps (e, s) (e, r) m k refl).1
