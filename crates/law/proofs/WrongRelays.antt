-- Relays that do not meet the claims: 01, "How far each promise must reach".
use Rattle.std.specs.Prelude.{Some}
use mathlib.Core.Path.{◌≡◌, refl, sym, ap, ap₂, ◌∙◌}
use mathlib.Core.Bool.{Bool, true, false, cond, not, ◌||◌, ◌&&◌}
use mathlib.Core.Logic.{◌⊎◌, inl, inr, ⊎_elim, ◌≢◌}
use mathlib.Core.List.Memᴰ
use mathlib.Core.List.{List, [], ◌∷◌, ◌++◌}
use Prim.Native.Nat.{ℕ, ◌+◌, ◌≤◌}
use native.Mathlib.Omega.{arith}
use lib.Dec.{T, not_T, leb, leb→le}
use lib.ListN.{length, length-map}
use Rattle.law.specs.Lists.{◌∈◌}
use Rattle.law.specs.Table.{regular, Events, Laws, stored, duplicate, first_verdict}
use Rattle.law.specs.Table.{Offer, verdict, after, Valid, IdPremise, Held, Settled, slots_needed}
use Rattle.law.specs.Signature.{Slot, with_signature, event, without_signature}
use Rattle.law.specs.Demand3.{Machine, view, judged, run_on, lacks_on, HeldSetOn, RoomLawOn, SignatureStoredOn}
use Rattle.law.proofs.Law.{settled_count}
use Rattle.law.proofs.Signature.{signed_laws}
use Rattle.law.proofs.Machine.{Faithful}

-- ---- lists

no_entry : {A : Type 0} (xs : List A) → ((x : A) → x ∈ xs → ⊥) → xs ≡ []
no_entry [] n = refl
no_entry (x ∷ xs) n = absurd (n x (Memᴰ.head refl))

-- the one entry of a list of one
only : {A : Type 0} {x y : A} (xs ys : List A) → x ∷ [] ≡ xs ++ (y ∷ ys) → x ≡ y
only [] ys e = cc
only (z ∷ []) ys e = absurd (let q : ◌≡◌ {A = ℕ} 0 1 = cc in omega arith)
only (z ∷ w ∷ xs) ys e = absurd (let q : ◌≡◌ {A = ℕ} 0 1 = cc in omega arith)

-- ---- lists of one and of two regular events

module _ (E : Events) where
  open E use {Event, id_of, class_of, same_id}

  same_event : {e f : Event} → Valid E e (Some f ∷ []) → e ≡ f
  same_event {e} {f} v = let q : Some e ≡ Some f = Memᴰ.eq_of_singleton v in cc

  one_ids : (e : Event) → IdPremise E (Some e ∷ [])
  one_ids e f g vf vg q = same_event vf ∙ sym (same_event vg)

  one_needed : (e : Event) → class_of e ≡ regular → slots_needed E (Some e ∷ []) ≡ 1
  one_needed e c = rw c

  two_ids : (e f : Event) → id_of e ≢ id_of f → IdPremise E (Some e ∷ Some f ∷ [])
  two_ids e f ne x y vx vy q = go (cases vx) (cases vy)
    where
      cases : {x : Event} → Valid E x (Some e ∷ Some f ∷ []) → (x ≡ e) ⊎ (x ≡ f)
      cases {x} v = ⊎_elim (λ (q : Some x ≡ Some e). inl cc) (λ w. inr (same_event w)) (Memᴰ.cases_cons v)

      go : (x ≡ e) ⊎ (x ≡ f) → (y ≡ e) ⊎ (y ≡ f) → x ≡ y
      go (inl p) (inl r) = p ∙ sym r
      go (inl p) (inr r) = absurd (ne (ap id_of (sym p) ∙ q ∙ ap id_of r))
      go (inr p) (inl r) = absurd (ne (ap id_of (sym r) ∙ sym q ∙ ap id_of p))
      go (inr p) (inr r) = p ∙ sym r

  -- "one .. id for all": no list with two valid events then meets the id premise; row 10 shuts it out, by FIPS 180-4
  pub one_id : ((e f : Event) → id_of e ≡ id_of f) → (os : List (Offer E)) (e f : Event) → Valid E e os → Valid E f os → e ≢ f → IdPremise E os → ⊥
  one_id same os e f v w ne ids = ne (ids e f v w (same e f))

  two_needed : (e f : Event) → class_of e ≡ regular → class_of f ≡ regular → slots_needed E (Some e ∷ Some f ∷ []) ≤ 2
  two_needed e f c d = rw (c, d) (go (same_id (id_of e) (id_of f)))
    where
      go : (b : Bool) → cond (b || false) 1 2 + 0 ≤ 2
      go true = omega arith
      go false = omega arith

  -- ---- a regular event offered twice

  fresh_stored : (N : ℕ) (e : Event) → 1 ≤ N → class_of e ≡ regular → verdict E N [] (Some e) ≡ stored
  unfolding verdict
  fresh_stored N e le c = rw c (go (leb N 0) refl)
    where
      go : (r : Bool) → leb N 0 ≡ r → first_verdict false false false r ≡ stored
      go true p = absurd (omega (arith, leb→le N 0 (rw p tt)))
      go false p = refl

  fresh_table_lem : (N : ℕ) (e : Event) → 1 ≤ N → class_of e ≡ regular → after E N [] (Some e) ≡ e ∷ []
  unfolding after
  fresh_table_lem N e le c = rw (fresh_stored N e le c)

  again_duplicate : Laws E → (N : ℕ) (e : Event) → class_of e ≡ regular → verdict E N (e ∷ []) (Some e) ≡ duplicate
  unfolding verdict
  again_duplicate L N e c = rw c (go (same_id (id_of e) (id_of e)) ((L.id_eq (id_of e) (id_of e)).1 refl))
    where
      go : (b : Bool) → T b → first_verdict false (b || false) (false || false) (not (false || false) && leb N 1) ≡ duplicate
      go true t = refl
      go false t = absurd t

module _ (E : Events) (Sig : Type 0) (M : Machine E Sig) where
  open E use {Event, id_of, class_of}
  open M use {State, Offering, Fresh, answer, next, verdict_of, capacity, slots, judge}

  -- an offer of a regular event
  pub record OfRegular (o : Offering) (e : Event) : Type 0 where
    pub signature : Sig
    pub valid : judge o ≡ Some (e, signature)
    pub kind : class_of e ≡ regular

  judged_one : (o : Offering) (e : Event) → OfRegular o e → judged E Sig M (o ∷ []) ≡ Some e ∷ []
  judged_one o e v = ap (λ j. without_signature E Sig j ∷ []) v.valid

  judged_two : (o p : Offering) (e f : Event) → OfRegular o e → OfRegular p f → judged E Sig M (o ∷ p ∷ []) ≡ Some e ∷ Some f ∷ []
  judged_two o p e f v w = ap₂ (λ j k. without_signature E Sig j ∷ without_signature E Sig k ∷ []) v.valid w.valid

  module _ (held : HeldSetOn E Sig M) (room : RoomLawOn E Sig M) where
    -- a list that needs no more slots than there are leaves the held set
    settles : (b : State) (os : List Offering) → Fresh b → IdPremise E (judged E Sig M os)
        → slots_needed E (judged E Sig M os) ≤ capacity b → Settled E (view E Sig M (run_on E Sig M b os)) (judged E Sig M os)
    settles b os f ids le = held b os f ids (not_T (lacks_on E Sig M b os) (λ t. omega (arith, (room b os f ids).0 t)))

    -- a fresh table holds nothing: what it holds would be a valid event of the empty list
    empty : (b : State) → Fresh b → slots b ≡ []
    unfolding run_on
    empty b f =
        let none = settles b [] f (λ e g v. absurd (Memᴰ.not-nil v)) (omega arith) in
        no_entry (slots b) (λ s m. Memᴰ.not-nil ((none.held s.0).0 (Memᴰ.map (event E Sig) m)).0)

    module _ (b : State) (f : Fresh b) where
      -- after one offer of a regular event that event alone is held
      one_held : (o : Offering) (e : Event) → OfRegular o e → 1 ≤ capacity b → Settled E (view E Sig M (next b o)) (Some e ∷ [])
      unfolding run_on
      one_held o e v le =
          let q = judged_one o e v in
          rw q at (settles b (o ∷ []) f (rw q (one_ids E e)) (rw (q, one_needed E e v.kind) le))

      both_held : (o p : Offering) (e g : Event) → OfRegular o e → OfRegular p g → id_of e ≢ id_of g → 2 ≤ capacity b
          → Settled E (view E Sig M (next (next b o) p)) (Some e ∷ Some g ∷ [])
      unfolding run_on
      both_held o p e g v w ne le =
          let q = judged_two o p e g v w in
          rw q at (settles b (o ∷ p ∷ []) f (rw q (two_ids E e g ne)) (rw q (omega (arith, two_needed E e g v.kind w.kind))))

      -- "a relay that refuses everything or stores nothing", whatever it answers
      pub stores_nothing : (o : Offering) (e : Event) → OfRegular o e → 1 ≤ capacity b
          → ((b : State) (o : Offering) → slots (next b o) ≡ slots b) → ⊥
      stores_nothing o e v le idle =
          let s = one_held o e v le in
          let m : Held E e (view E Sig M (next b o)) = (s.held e).1 (Memᴰ.head refl, rw v.kind tt) in
          Memᴰ.not-nil (rw (idle b o, empty b f) at m)

      -- "one that stores the first offer and only acknowledges later ones"
      pub stores_first_only : (o p : Offering) (e g : Event) → OfRegular o e → OfRegular p g → id_of e ≢ id_of g → 2 ≤ capacity b
          → ((b : State) (o : Offering) → slots b ≢ [] → slots (next b o) ≡ slots b) → ⊥
      stores_first_only o p e g v w ne le idle =
          let s = one_held o e v (omega arith) in
          let t = both_held o p e g v w ne le in
          let full : slots (next b o) ≢ [] = λ q. Memᴰ.not-nil (rw q at ((s.held e).1 (Memᴰ.head refl, rw v.kind tt))) in
          let m = (t.held g).1 (Memᴰ.tail (Memᴰ.head refl), rw w.kind tt) in
          let k : Held E g (view E Sig M (next b o)) = rw (idle (next b o) p full) at m in
          ne (ap id_of (sym (same_event E ((s.held g).0 k).0)))

      -- "a made-up held count": one that no offer changes, and any other than the slots needed
      pub constant_count : Laws E → (o : Offering) (e : Event) → OfRegular o e → 1 ≤ capacity b
          → ((b : State) (o : Offering) → length (slots (next b o)) ≡ length (slots b)) → ⊥
      constant_count L o e v le idle =
          let c = settled_count E L (view E Sig M (next b o)) (Some e ∷ []) (one_ids E e) (one_held o e v le) in
          omega (arith, c, one_needed E e v.kind, length-map (slots (next b o)) (event E Sig), idle b o, ap length (empty b f))

      pub made_up_count : Laws E → (os : List Offering) → IdPremise E (judged E Sig M os) → slots_needed E (judged E Sig M os) ≤ capacity b
          → (n : ℕ) → n ≢ slots_needed E (judged E Sig M os) → length (slots (run_on E Sig M b os)) ≢ n
      made_up_count L os ids le n ne q =
          let c = settled_count E L (view E Sig M (run_on E Sig M b os)) (judged E Sig M os) ids (settles b os f ids le) in
          ne (sym q ∙ sym (length-map (slots (run_on E Sig M b os)) (event E Sig)) ∙ c)

      -- after an offer the table holds the event with the very signature that was offered
      pub held_signature : SignatureStoredOn E Sig M → (o : Offering) (e : Event) (v : OfRegular o e) → 1 ≤ capacity b
          → ((e, v.signature) ∈ slots (next b o) → ⊥) → ⊥
      unfolding run_on
      held_signature sigs o e v le other =
          let m : Held E e (view E Sig M (next b o)) = ((one_held o e v le).held e).1 (Memᴰ.head refl, rw v.kind tt) in
          let (s, k, q) = Memᴰ.of_map (event E Sig) (slots (next b o)) m in
          let i = sigs b (o ∷ []) s f k in
          let j : Some s ≡ Some (e, v.signature) = sym i.brings ∙ ap judge (sym (only i.before i.later i.splits)) ∙ v.valid in
          let same : s ≡ (e, v.signature) = cc in
          other (Memᴰ.cast (sym same) k)

      -- one that stores another signature than the offer's
      pub other_signature : SignatureStoredOn E Sig M → (o : Offering) (e : Event) → OfRegular o e → 1 ≤ capacity b
          → ((b : State) (o : Offering) (s : Slot E Sig) → judge o ≡ Some s → s ∈ slots (next b o) → ⊥) → ⊥
      other_signature sigs o e v le other = held_signature sigs o e v le (other b o (e, v.signature) v.valid)

  -- "one verdict .. for all": the first offer of a regular event is stored, and the second is a duplicate
  pub one_verdict : (Good : State → Type 0) → Faithful E Sig M Good → Laws E
      → (b : State) → Fresh b → (o : Offering) (e : Event) → OfRegular o e → 1 ≤ capacity b
      → ((b c : State) (o p : Offering) → verdict_of (answer b o) ≡ verdict_of (answer c p)) → ⊥
  one_verdict Good F L b f o e v le same =
      let S : Events = with_signature E Sig in
      let x : Slot E Sig = (e, v.signature) in
      let first : verdict_of (answer b o) ≡ stored =
      F.says b o (F.fresh b f) ∙ ap₂ (verdict S (capacity b)) (F.empty b f) v.valid ∙ fresh_stored S (capacity b) x le v.kind in
      let one : slots (next b o) ≡ x ∷ [] =
      F.does b o (F.fresh b f) ∙ ap₂ (after S (capacity b)) (F.empty b f) v.valid ∙ fresh_table_lem S (capacity b) x le v.kind in
      let again = again_duplicate S (signed_laws E Sig L) (capacity (next b o)) x v.kind in
      let second : verdict_of (answer (next b o) o) ≡ duplicate =
      F.says (next b o) o (F.good b o (F.fresh b f)) ∙ ap₂ (verdict S (capacity (next b o))) one v.valid ∙ again in
      let clash : stored ≡ duplicate = sym first ∙ same b (next b o) o o ∙ second in
      let z : ◌≡◌ {A = ℕ} 0 1 = cc in
      omega arith
