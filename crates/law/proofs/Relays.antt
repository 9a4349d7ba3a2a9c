-- Demand 3 on two relays, each a capacity and its lists of offers.
use mathlib.Core.Path.{◌≡◌, ap, ◌∙◌}
use mathlib.Core.Logic.{◌↔◌, ◌⊎◌, inl, inr, ⊎_elim, ⊎_swap}
use mathlib.Core.List.Memᴰ
use mathlib.Core.List.{List, [], ◌++◌, append-nil, append_assoc}
use Prim.Native.Nat.{ℕ, ◌≤◌}
use native.Mathlib.Omega.{arith}
use lib.ListN.{length}
use Rattle.law.specs.Table.{Events, Laws, Table, Offer, Valid, IdPremise, Held, SameHeld, Settled, slots_needed}
use Rattle.law.proofs.Run.{run, NoneLacks}
use Rattle.law.proofs.Held.{PutsOf}
use Rattle.law.proofs.Room.{puts_grow, puts_append, fits_run, short_fits}
use Rattle.law.proofs.Law.{settled_same, settled_count, ids_among, wins_among, Enough, enough_count}
use Rattle.law.proofs.Law.{beginning_fits, held_set, enough_law}

-- ---- two relays, as in specs/Demand3

module _ (E : Events) where
  open E use {Event}

  pub record Relay : Type 0 where
    pub capacity : ℕ
    pub history : List (Offer E)
    pub early : List (Offer E)
    pub late : List (Offer E)

  abbrev pub told : Relay → List (Offer E)
  told A = A.early ++ A.late

  abbrev pub whole : Relay → List (Offer E)
  whole A = A.history ++ told A

  abbrev pub moment : Relay → Table E
  moment A = run E A.capacity [] (A.history ++ A.early)

  abbrev pub end : Relay → Table E
  end A = run E A.capacity [] (whole A)

  -- the valid events told to A are those that B holds at its moment
  abbrev pub Tells : Relay → Relay → Type 0
  Tells B A = (e : Event) → Valid E e (told A) ↔ Held E e (moment B)

  pub record Exchange (A B : Relay) : Type 0 where
    pub to_A : Tells B A
    pub to_B : Tells A B
    pub at_an_end : (A.early ≡ []) ⊎ (B.early ≡ [])

  abbrev pub both : Relay → Relay → List (Offer E)
  both A B = A.history ++ B.history

  abbrev pub Fits : Relay → Type 0
  Fits A = NoneLacks E A.capacity (whole A)

-- ---- the claims

module _ (E : Events) (L : Laws E) where
  open E use {Event}

  -- A relay that was offered gs and then told, as zs, what another relay holds after os has been offered enough, if gs
  -- and os together have all valid events.
  pub told_enough : (M : ℕ) (gs zs os all : List (Offer E)) → IdPremise E all → NoneLacks E M os
      → ((e : Event) → Valid E e gs → Valid E e all) → ((e : Event) → Valid E e os → Valid E e all)
      → ((e : Event) → Valid E e all → Valid E e gs ⊎ Valid E e os)
      → ((e : Event) → Valid E e zs ↔ Held E e (run E M [] os)) → Enough E L (gs ++ zs) all
  told_enough M gs zs os all ids fit gsub osub parts held =
      let s = held_set E L M os (ids_among E L osub ids) fit in
      record {
        among = λ e v. ⊎_elim (gsub e) (λ z. osub e ((s.held e).0 ((held e).0 z)).0) (Memᴰ.append_cases gs v);
        winners = λ e w. ⊎_elim
            (λ g. Memᴰ.append_left zs g)
            (λ o. Memᴰ.append_right gs ((held e).1 ((s.held e).1 (wins_among E L osub e o w))))
            (parts e w.0);
      }

  -- A's moment is the end of its history, and B's is any
  module _ (A B : Relay E) (all : List (Offer E)) (ids : IdPremise E all)
      (asub : (e : Event) → Valid E e A.history → Valid E e all) (bsub : (e : Event) → Valid E e B.history → Valid E e all)
      (parts : (e : Event) → Valid E e all → Valid E e A.history ⊎ Valid E e B.history)
      (to_A : Tells E B A) (to_B : Tells E A B) (p : A.early ≡ []) where
    at_history : moment E A ≡ run E A.capacity [] A.history
    at_history = ap (run E A.capacity []) (ap (A.history ++◌) p ∙ append-nil A.history)

    to_B' : (e : Event) → Valid E e (told E B) ↔ Held E e (run E A.capacity [] A.history)
    to_B' e = rw at_history at (to_B e)

    enough_B : NoneLacks E A.capacity A.history → Enough E L (whole E B) all
    enough_B fit = told_enough A.capacity B.history (told E B) A.history all ids fit
        bsub asub (λ e v. ⊎_swap (parts e v)) to_B'

    early_sub : NoneLacks E A.capacity A.history → (e : Event) → Valid E e (B.history ++ B.early) → Valid E e all
    early_sub fit e v = ⊎_elim
        (bsub e)
        (λ z. (enough_B fit).among e (Memᴰ.append_right B.history (Memᴰ.append_left B.late z)))
        (Memᴰ.append_cases B.history v)

    enough_A : NoneLacks E A.capacity A.history → NoneLacks E B.capacity (B.history ++ B.early) → Enough E L (whole E A) all
    enough_A fit fit' = told_enough B.capacity A.history (told E A) (B.history ++ B.early) all ids fit'
        asub (early_sub fit)
        (λ e v. ⊎_elim inl (λ b. inr (Memᴰ.append_left B.early b)) (parts e v)) to_A

    moment_fits : Fits E B → NoneLacks E B.capacity (B.history ++ B.early)
    moment_fits fit = beginning_fits E L B.capacity (B.history ++ B.early) B.late (rw append_assoc fit)

    agree : Fits E A → Fits E B → Settled E (end E A) all × Settled E (end E B) all
    agree fit fit' =
        let past = beginning_fits E L A.capacity A.history (told E A) fit in (
          enough_law E L A.capacity (whole E A) all ids (enough_A past (moment_fits fit')) fit,
          enough_law E L B.capacity (whole E B) all ids (enough_B past) fit',
        )

    fit_both : slots_needed E all ≤ A.capacity → slots_needed E all ≤ B.capacity → length (PutsOf E L [] A.history) ≤ slots_needed E all
        → Fits E A × Fits E B
    fit_both le le' few =
        let past = short_fits E L A.capacity A.history (omega arith) in
        let needB = enough_count E L (whole E B) all ids (enough_B past) in
        let fitB : Fits E B = short_fits E L B.capacity (whole E B) (omega (arith, needB)) in
        let needA = enough_count E L (whole E A) all ids (enough_A past (moment_fits fitB)) in
        (short_fits E L A.capacity (whole E A) (omega (arith, needA)), fitB)

  history_few : (os ps all : List (Offer E)) → IdPremise E all → Enough E L (os ++ ps) all → length (PutsOf E L [] os) ≤ slots_needed E all
  history_few os ps all ids n =
      let grown = puts_grow E L ps (PutsOf E L [] os) in
      omega (arith, enough_count E L (os ++ ps) all ids n, grown, ap length (puts_append E L os ps []))

  module _ (A B : Relay E) (x : Exchange E A B) (ids : IdPremise E (both E A B)) where
    asub : (e : Event) → Valid E e A.history → Valid E e (both E A B)
    asub e v = Memᴰ.append_left B.history v

    bsub : (e : Event) → Valid E e B.history → Valid E e (both E A B)
    bsub e v = Memᴰ.append_right A.history v

    parts : (e : Event) → Valid E e (both E A B) → Valid E e A.history ⊎ Valid E e B.history
    parts e v = Memᴰ.append_cases A.history v

    settled_both : Fits E A → Fits E B → Settled E (end E A) (both E A B) × Settled E (end E B) (both E A B)
    settled_both fit fit' = ⊎_elim
        (λ p. agree A B (both E A B) ids asub bsub parts x.to_A x.to_B p fit fit')
        (λ p.
        let s = agree B A (both E A B) ids bsub asub (λ e v. ⊎_swap (parts e v)) x.to_B x.to_A p fit' fit in
        (s.1, s.0))
        x.at_an_end

    few_A : length (PutsOf E L [] A.history) ≤ slots_needed E (both E A B)
    few_A = history_few A.history B.history (both E A B) ids (record { among = λ e v. v; winners = λ e w. w.0 })

    few_B : length (PutsOf E L [] B.history) ≤ slots_needed E (both E A B)
    few_B = history_few B.history A.history (both E A B) ids (record {
      among = λ e v. ⊎_elim (bsub e) (asub e) (Memᴰ.append_cases B.history v);
      winners = λ e w. ⊎_elim (λ a. Memᴰ.append_right B.history a) (λ b. Memᴰ.append_left A.history b) (parts e w.0);
    })

    fits : slots_needed E (both E A B) ≤ A.capacity → slots_needed E (both E A B) ≤ B.capacity → Fits E A × Fits E B
    fits le le' = ⊎_elim
        (λ p. fit_both A B (both E A B) ids asub bsub parts x.to_A x.to_B p le le' few_A)
        (λ p.
        let s = fit_both B A (both E A B) ids bsub asub (λ e v. ⊎_swap (parts e v)) x.to_B x.to_A p le' le few_B in
        (s.1, s.0))
        x.at_an_end

  pub relays_agree : (A B : Relay E) → Exchange E A B → IdPremise E (both E A B) → Fits E A → Fits E B
      → Settled E (end E A) (both E A B) × Settled E (end E B) (both E A B) × SameHeld E (end E A) (end E B)
  relays_agree A B x ids fit fit' =
      let s = settled_both A B x ids fit fit' in
      (s.0, s.1, settled_same E L (end E A) (end E B) (both E A B) s.0 s.1)

  -- a relay that lacks no room holds no more than its capacity
  count_fits : (A : Relay E) (os : List (Offer E)) → IdPremise E os → Fits E A → Settled E (end E A) os → slots_needed E os ≤ A.capacity
  count_fits A os ids fit s =
      let (q, le) = fits_run E L A.capacity (whole E A) fit in
      omega (arith, settled_count E L (end E A) os ids s, ap length q, le)

  pub relays_fit : (A B : Relay E) → Exchange E A B → IdPremise E (both E A B)
      → (Fits E A × Fits E B) ↔ ((slots_needed E (both E A B) ≤ A.capacity) × (slots_needed E (both E A B) ≤ B.capacity))
  relays_fit A B x ids = (
    λ f.
        let s = settled_both A B x ids f.0 f.1 in
        (count_fits A (both E A B) ids f.0 s.0, count_fits B (both E A B) ids f.1 s.1),
    λ le. fits A B x ids le.0 le.1,
  )
