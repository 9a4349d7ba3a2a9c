-- The claims, for a relay in any form that does with each single offer what the definition says.
use Rattle.std.specs.Prelude.{Some}
use mathlib.Core.Path.{◌≡◌, refl, sym, ap, ap₂, ◌∙◌}
use mathlib.Core.Bool.{not, ◌||◌}
use mathlib.Core.Logic.{inl, inr, ⊎_elim}
use mathlib.Core.List.Memᴰ
use mathlib.Core.List.{List, [], ◌∷◌, ◌++◌, map, map-append}
use Prim.Native.Nat.{ℕ}
use native.Mathlib.Omega.{arith}
use lib.Dec.{T}
use lib.ListN.{length, length-map}
use Rattle.law.specs.Lists.{◌∈◌}
use Rattle.law.specs.Table.{Events, Laws, is_no_room, Offer, verdict, after, Valid, Held, IdPremise, Settled}
use Rattle.law.specs.Signature.{Slot, with_signature, event, without_signature}
use Rattle.law.specs.Demand3.{Machine, view, judged, run_on, answers_on, lacks_on, NoneLacksOn}
use Rattle.law.specs.Demand3.{HeldSetOn, BeginningsOn, OrderFreeOn, RoomLawOn, StoredBy, SignatureStoredOn}
use Rattle.law.specs.Demand3.{SignatureStaysOn}
use Rattle.law.specs.Demand3.{RelayOn, told_on, moment_on, end_on, FitsOn, TellsOn, ExchangeOn}
use Rattle.law.specs.Demand3.{RelaysAgreeOn, RelaysFitOn, ExchangesOn, Demand3On}
use Rattle.law.proofs.Run.{run, verdicts, lacks}
use Rattle.law.proofs.Sound.{StoredIn, run_from}
use Rattle.law.proofs.Law.{held_set, beginnings, order_free, room_law, Enough, enough_law}
use Rattle.law.proofs.Relays.{Relay, told, whole, moment, end, Tells, Exchange, Fits, relays_agree, relays_fit}
use Rattle.law.proofs.Signature.{run_event, lacks_event, signature_stays}

-- ---- what has to be known of a relay

module _ (E : Events) (Sig : Type 0) (M : Machine E Sig) where
  open M use {State, Offering, Fresh, answer, next, verdict_of, capacity, slots, judge, AsParts}

  -- Good is what is known of the tables that lists of offers lead to: a fresh table has it and holds nothing, offers
  -- keep it, and one offer to a good table does what the definition says
  pub record Faithful (Good : State → Type 0) : Type 0 where
    pub fresh : (b : State) → Fresh b → Good b
    pub empty : (b : State) → Fresh b → slots b ≡ []
    pub good : (b : State) (o : Offering) → Good b → Good (next b o)
    pub keeps : (b : State) (o : Offering) → Good b → capacity (next b o) ≡ capacity b
    pub says : (b : State) (o : Offering) → Good b → verdict_of (answer b o) ≡ verdict (with_signature E Sig) (capacity b) (slots b) (judge o)
    pub does : (b : State) (o : Offering) → Good b → slots (next b o) ≡ after (with_signature E Sig) (capacity b) (slots b) (judge o)

  -- a held slot that is offered as parts passes rows 1 to 10 again
  abbrev pub Passes : (State → Type 0) → Type 0
  Passes Good = (b : State) (o : Offering) (s : Slot E Sig) → Good b → s ∈ slots b → AsParts o s → judge o ≡ Some s

  -- and parts of it exist
  abbrev pub Tellable : (State → Type 0) → Type 0
  Tellable Good = (b : State) (s : Slot E Sig) → Good b → s ∈ slots b → (o : Offering) × AsParts o s

-- ---- the theorems

module _ (E : Events) (Sig : Type 0) (M : Machine E Sig) (Good : M.State → Type 0) (F : Faithful E Sig M Good) where
  open M use {State, Offering, Fresh, answer, next, verdict_of, capacity, slots, judge, AsParts}

  abbrev S : Events
  S = with_signature E Sig

  abbrev ran : State → List Offering → State
  ran b os = run_on E Sig M b os

  abbrev valid : List Offering → List (Offer E)
  valid os = judged E Sig M os

  -- ---- a run of the machine is a run of the definition

  good_from : (os : List Offering) (b : State) → Good b → Good (ran b os)
  unfolding run_on
  good_from [] b g = g
  good_from (o ∷ os) b g = good_from os (next b o) (F.good b o g)

  -- the tables that lists of offers lead to are good
  pub good_run : (b : State) (os : List Offering) → Fresh b → Good (ran b os)
  good_run b os f = good_from os b (F.fresh b f)

  keeps_run : (os : List Offering) (b : State) → Good b → capacity (ran b os) ≡ capacity b
  unfolding run_on
  keeps_run [] b g = refl
  keeps_run (o ∷ os) b g = keeps_run os (next b o) (F.good b o g) ∙ F.keeps b o g

  slots_run : (os : List Offering) (b : State) → Good b → slots (ran b os) ≡ run S (capacity b) (slots b) (map judge os)
  unfolding run_on run
  slots_run [] b g = refl
  slots_run (o ∷ os) b g =
      slots_run os (next b o) (F.good b o g)
      ∙ ap₂ (λ N t. run S N t (map judge os)) (F.keeps b o g) (F.does b o g)

  lacks_run : (os : List Offering) (b : State) → Good b → lacks_on E Sig M b os ≡ lacks S (capacity b) (slots b) (map judge os)
  unfolding answers_on verdicts
  lacks_run [] b g = refl
  lacks_run (o ∷ os) b g = ap₂ (λ v l. is_no_room v || l)
      (F.says b o g)
      (lacks_run os (next b o) (F.good b o g) ∙ ap₂ (λ N t. lacks S N t (map judge os)) (F.keeps b o g) (F.does b o g))

  module _ (b : State) (os : List Offering) (f : Fresh b) where
    slots_is : slots (ran b os) ≡ run S (capacity b) [] (map judge os)
    slots_is = rw (F.empty b f) at (slots_run os b (F.fresh b f))

    table_is : view E Sig M (ran b os) ≡ run E (capacity b) [] (valid os)
    table_is = ap (map (event E Sig)) slots_is ∙ run_event E Sig (capacity b) (map judge os) []

    length_is : length (slots (ran b os)) ≡ length (run E (capacity b) [] (valid os))
    length_is = sym (length-map (slots (ran b os)) (event E Sig)) ∙ ap length table_is

    lacks_is : lacks_on E Sig M b os ≡ lacks E (capacity b) [] (valid os)
    lacks_is = (rw (F.empty b f) at (lacks_run os b (F.fresh b f))) ∙ lacks_event E Sig (capacity b) (map judge os) []

  valid_append : (os ps : List Offering) → valid (os ++ ps) ≡ valid os ++ valid ps
  valid_append os ps = ap (map (without_signature E Sig)) (map-append judge os ps) ∙ map-append (without_signature E Sig) (map judge os) (map judge ps)

  -- ---- one list

  module _ (L : Laws E) where
    pub held_set_on : HeldSetOn E Sig M
    held_set_on b os f ids fit = rw (table_is b os f) (held_set E L (capacity b) (valid os) ids (rw (lacks_is b os f) at fit))

    pub beginnings_on : BeginningsOn E Sig M
    beginnings_on b os ps f ids fit = rw (table_is b os f) (beginnings E L (capacity b) (valid os) (valid ps)
        (rw (valid_append os ps) at ids) (rw (lacks_is b (os ++ ps) f, valid_append os ps) at fit))

    pub order_free_on : OrderFreeOn E Sig M
    order_free_on b c os ps f g ids fit same le =
        rw (table_is b os f, table_is c ps g, lacks_is c ps g, length_is b os f, length_is c ps g)
        (order_free E L (capacity b) (capacity c) (valid os) (valid ps) ids (rw (lacks_is b os f) at fit) same le)

    pub room_law_on : RoomLawOn E Sig M
    room_law_on b os f ids = rw (lacks_is b os f) (room_law E L (capacity b) (valid os) ids)

    -- a list that has enough of another list's valid events leaves what that would
    pub enough_law_on : (b : State) (os ps : List Offering) → Fresh b → IdPremise E (valid ps) → Enough E L (valid os) (valid ps)
        → NoneLacksOn E Sig M b os → Settled E (view E Sig M (ran b os)) (valid ps)
    enough_law_on b os ps f ids n fit = rw (table_is b os f)
        (enough_law E L (capacity b) (valid os) (valid ps) ids n (rw (lacks_is b os f) at fit))

    pub signature_stays_on : SignatureStaysOn E Sig M
    signature_stays_on b os ps e s r f m k = signature_stays E Sig L (capacity b) (map judge os) (map judge ps) e s r
        (rw (slots_is b os f) at m) (rw (slots_is b (os ++ ps) f, map-append judge os ps) at k)

  -- ---- signatures

  -- a list of judged offers that is split comes from a list of offers that is split there
  record Split (os : List Offering) (ps : List (Offer S)) (j : Offer S) : Type 0 where
    before : List Offering
    offer : Offering
    later : List Offering
    splits : os ≡ before ++ (offer ∷ later)
    same : map judge before ≡ ps
    brings : judge offer ≡ j

  split_behind : (o : Offering) (os : List Offering) (p : Offer S) (ps : List (Offer S)) (j : Offer S)
      → judge o ≡ p → Split os ps j → Split (o ∷ os) (p ∷ ps) j
  split_behind o os p ps j q s = record {
    before = o ∷ s.before;
    offer = s.offer;
    later = s.later;
    splits = ap (o ∷◌) s.splits;
    same = ap₂ ◌∷◌ q s.same;
    brings = s.brings;
  }

  judged_split : (os : List Offering) (ps qs : List (Offer S)) (j : Offer S) → map judge os ≡ ps ++ (j ∷ qs) → Split os ps j
  judged_split [] [] qs j e = absurd (let z : ◌≡◌ {A = ℕ} 0 1 = cc in omega arith)
  judged_split [] (p ∷ ps) qs j e = absurd (let z : ◌≡◌ {A = ℕ} 0 1 = cc in omega arith)
  judged_split (o ∷ os) [] qs j e = record { before = []; offer = o; later = os; splits = refl; same = refl; brings = cc }
  judged_split (o ∷ os) (p ∷ ps) qs j e =
      let q : judge o ≡ p = cc in
      let r : map judge os ≡ ps ++ (j ∷ qs) = cc in
      split_behind o os p ps j q (judged_split os ps qs j r)

  pub signature_stored_on : SignatureStoredOn E Sig M
  signature_stored_on b os s f m =
      ⊎_elim (λ k. absurd (Memᴰ.not-nil k)) stored_by (run_from S (capacity b) (map judge os) [] s (rw (slots_is b os f) at m))
    where
      stored_by : StoredIn S (capacity b) [] (map judge os) s → StoredBy E Sig M b os s
      stored_by i =
          let x = judged_split os i.before i.later (Some s) i.splits in
          let c = keeps_run x.before b (F.fresh b f) in
          record {
            before = x.before;
            offer = x.offer;
            later = x.later;
            splits = x.splits;
            brings = x.brings;
            says =
                F.says (ran b x.before) x.offer (good_run b x.before f)
                ∙ ap₂ (λ N t. verdict S N t (judge x.offer)) c (slots_is b x.before f ∙ ap (run S (capacity b) []) x.same)
                ∙ ap (verdict S (capacity b) (run S (capacity b) [] i.before)) x.brings
                ∙ i.says;
          }

  -- ---- two relays

  module _ (L : Laws E) (P : Passes E Sig M Good) where
    abbrev relay : RelayOn E Sig M → Relay E
    relay A = record {
      capacity = capacity A.table;
      history = valid A.history;
      early = valid A.early;
      late = valid A.late;
    }

    module _ (A : RelayOn E Sig M) where
      told_is : valid (told_on E Sig M A) ≡ told E (relay A)
      told_is = valid_append A.early A.late

      whole_is : valid (A.history ++ told_on E Sig M A) ≡ whole E (relay A)
      whole_is = valid_append A.history (told_on E Sig M A) ∙ ap (valid A.history ++◌) told_is

      moment_is : view E Sig M (moment_on E Sig M A) ≡ moment E (relay A)
      moment_is =
          table_is A.table (A.history ++ A.early) A.fresh
          ∙ ap (run E (capacity A.table) []) (valid_append A.history A.early)

      end_is : view E Sig M (end_on E Sig M A) ≡ end E (relay A)
      end_is =
          table_is A.table (A.history ++ told_on E Sig M A) A.fresh
          ∙ ap (run E (capacity A.table) []) whole_is

      fits_is : FitsOn E Sig M A ≡ Fits E (relay A)
      fits_is = ap (λ l. T (not l))
          (lacks_is A.table (A.history ++ told_on E Sig M A) A.fresh ∙ ap (lacks E (capacity A.table) []) whole_is)

    -- what is told is judged to be what is held
    tells_is : (B A : RelayOn E Sig M) → TellsOn E Sig M (slots (moment_on E Sig M B)) (told_on E Sig M A) → Tells E (relay B) (relay A)
    tells_is B A x e = rw (← told_is A, ← moment_is B) (valid_held, held_valid)
      where
        b : State
        b = moment_on E Sig M B

        os : List Offering
        os = told_on E Sig M A

        passes : (o : Offering) (s : Slot E Sig) → s ∈ slots b → AsParts o s → judge o ≡ Some s
        passes o s m p = P b o s (good_run B.table (B.history ++ B.early) B.fresh) m p

        valid_held : Valid E e (valid os) → Held E e (view E Sig M b)
        valid_held v =
            let (j, k, p) = Memᴰ.of_map (without_signature E Sig) (map judge os) v in
            let (o, n, q) = Memᴰ.of_map judge os k in
            let (s, m, t) = x.no_other o n in
            let r : Some e ≡ Some s.0 = sym p ∙ ap (without_signature E Sig) (sym q ∙ passes o s m t) in
            let i : e ≡ s.0 = cc in
            Memᴰ.cast i (Memᴰ.map (event E Sig) m)

        held_valid : Held E e (view E Sig M b) → Valid E e (valid os)
        held_valid h =
            let (s, m, p) = Memᴰ.of_map (event E Sig) (slots b) h in
            let (o, n, t) = x.each s m in
            Memᴰ.cast (ap Some (sym p) ∙ ap (without_signature E Sig) (sym (passes o s m t))) (Memᴰ.map (without_signature E Sig) (Memᴰ.map judge n))

    exchange_is : (A B : RelayOn E Sig M) → ExchangeOn E Sig M A B → Exchange E (relay A) (relay B)
    exchange_is A B x = record {
      to_A = tells_is B A x.to_A;
      to_B = tells_is A B x.to_B;
      at_an_end = ⊎_elim (λ p. inl (ap valid p)) (λ p. inr (ap valid p)) x.at_an_end;
    }

    pub relays_agree_on : RelaysAgreeOn E Sig M
    relays_agree_on A B x ids fit fit' = rw (end_is A, end_is B)
        (relays_agree E L (relay A) (relay B) (exchange_is A B x) ids (rw (fits_is A) at fit) (rw (fits_is B) at fit'))

    pub relays_fit_on : RelaysFitOn E Sig M
    relays_fit_on A B x ids = rw (fits_is A, fits_is B) (relays_fit E L (relay A) (relay B) (exchange_is A B x) ids)

    pub demand_3_on : Demand3On E Sig M
    demand_3_on = record {
      held_set = held_set_on L;
      beginnings = beginnings_on L;
      order_free = order_free_on L;
      signature_stored = signature_stored_on;
      signature_stays = signature_stays_on L;
      relays_agree = relays_agree_on;
      room_law = room_law_on L;
    }

  -- ---- an exchange of all that is held

  tells_list : (xs : List (Slot E Sig)) → ((s : Slot E Sig) → s ∈ xs → (o : Offering) × AsParts o s) → (os : List Offering) × TellsOn E Sig M xs os
  tells_list [] f = ([], record { each = λ s m. absurd (Memᴰ.not-nil m); no_other = λ o m. absurd (Memᴰ.not-nil m) })
  tells_list (x ∷ xs) f =
      let (o, t) = f x (Memᴰ.head refl) in
      let (os, r) = tells_list xs (λ s m. f s (Memᴰ.tail m)) in (
        o ∷ os,
        record {
          each = λ s m. ⊎_elim
              (λ z. (o, Memᴰ.head refl, rw z t))
              (λ k. let (a, b, c) = r.each s k in (a, Memᴰ.tail b, c))
              (Memᴰ.cases_cons m);
          no_other = λ a m. ⊎_elim
              (λ z. (x, Memᴰ.head refl, rw z t))
              (λ k. let (s, b, c) = r.no_other a k in (s, Memᴰ.tail b, c))
              (Memᴰ.cases_cons m);
        },
      )

  pub exchanges_on : Tellable E Sig M Good → ExchangesOn E Sig M
  exchanges_on tell b c f g hs ks =
      let (xs, to_A) = tells_list (slots (ran c (ks ++ []))) (λ s. tell (ran c (ks ++ [])) s (good_run c (ks ++ []) g)) in
      let (ys, to_B) = tells_list (slots (ran b (hs ++ []))) (λ s. tell (ran b (hs ++ [])) s (good_run b (hs ++ []) f)) in
      (xs, ys, record { to_A = to_A; to_B = to_B; at_an_end = inl refl })
