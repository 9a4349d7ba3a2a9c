-- The definitions at work: verdicts, room, and what two relays tell each other.
use Rattle.std.specs.Prelude.{None, Some}
use mathlib.Core.Path.{◌≡◌, refl}
use mathlib.Core.Bool.{true, false}
use mathlib.Core.Logic.{◌↔◌, inr}
use mathlib.Core.List.Memᴰ
use mathlib.Core.List.{List, [], ◌∷◌, ◌++◌, map, append-nil}
use Prim.Native.Nat.{ℕ, zero, suc}
use lib.IntN.{ℤ, pos, negsuc}
use lib.ListN.{replicate}
use Rattle.law.specs.Lists.{◌∈◌}
use Rattle.law.specs.Table.{Class, ephemeral, regular, keyed, Events, Laws}
use Rattle.law.specs.Table.{Verdict, refused, was_ephemeral, duplicate, older, stored, no_room}
use Rattle.law.specs.Table.{Table, Offer, verdict, after, Valid, Held, IdPremise, Settled, slots_needed}
use Rattle.wire.specs.Bytes.{same_bytes}
use Rattle.law.specs.Event.{Event, newer, events}
use Rattle.law.specs.Signature.{with_signature}
use Rattle.law.specs.Demand3.{Machine, Demand3On, ExchangesOn}
use Rattle.law.proofs.Run.{run, verdicts, lacks}
use Rattle.law.proofs.Relays.{Relay, moment, end, Tells, Exchange, both, Fits}
use Rattle.law.proofs.Machine.{Faithful, demand_3_on, exchanges_on}

-- ---- Order

-- a text here is its time
abbrev dated : ℕ → List ℕ → Event
dated t i = record { id = i; text = t ∷ [] }

abbrev first_number : List ℕ → ℤ
first_number [] = pos 0
first_number (zero ∷ r) = negsuc 0
first_number (suc t ∷ r) = pos t

-- 01: "time -1 is older than 0", whatever the ids
minus_one_older : (i j : List ℕ) → newer first_number (dated 1 i) (dated 0 j) ≡ true
minus_one_older i j = refl

-- 01: "equal times, id 00..01 beats 00..02"
lower_id_beats : newer first_number (dated 1 (replicate 31 0 ++ (1 ∷ []))) (dated 1 (replicate 31 0 ++ (2 ∷ []))) ≡ true
lower_id_beats = refl

-- ---- Verdicts, in a table of two slots

-- a text here is a class, a time and a key; time 0 stands for -7200
abbrev class : List ℕ → Class (List ℕ)
class [] = ephemeral
class (zero ∷ r) = regular
class (suc k ∷ []) = ephemeral
class (suc k ∷ t ∷ d) = keyed d

abbrev time : List ℕ → ℤ
time [] = pos 0
time (k ∷ []) = pos 0
time (k ∷ zero ∷ d) = negsuc 7199
time (k ∷ suc t ∷ d) = pos t

abbrev Toy : Events
Toy = events (List ℕ) same_bytes class time

abbrev event : ℕ → List ℕ → Event
event i t = record { id = i ∷ []; text = t }

abbrev note : ℕ → Offer Toy
note i = Some (event i (0 ∷ []))

abbrev tile : (id time d : ℕ) → Offer Toy
tile i t d = Some (event i (1 ∷ t ∷ d ∷ []))

abbrev offers : List (Offer Toy)
offers =
    note 1
    ∷ None
    ∷ tile 5 8 4
    ∷ note 1
    ∷ Some (event 11 [])
    ∷ tile 6 8 4
    ∷ tile 4 8 4
    ∷ tile 2 7 4
    ∷ tile 3 0 4
    ∷ tile 9 9 4
    ∷ note 7
    ∷ tile 8 8 5
    ∷ note 1
    ∷ []

-- a regular event; a refused offer; a tile; the event again; an ephemeral one; the tile at the same time with a higher
-- id; with a lower id; earlier; at -7200; later; a regular event and another tile that lack room; a held event, though
-- all slots are in use
abbrev answers : List Verdict
answers =
    stored
    ∷ refused
    ∷ stored
    ∷ duplicate
    ∷ was_ephemeral
    ∷ older
    ∷ stored
    ∷ older
    ∷ older
    ∷ stored
    ∷ no_room
    ∷ no_room
    ∷ duplicate
    ∷ []

computed : verdicts Toy 2 [] offers ≡ answers
unfolding verdicts verdict after same_bytes
computed = refl

kept : run Toy 2 [] offers ≡ event 1 (0 ∷ []) ∷ event 9 (1 ∷ 9 ∷ 4 ∷ []) ∷ []
unfolding run after verdict same_bytes
kept = refl

-- they need four slots: three are too few, and four are enough
needed : slots_needed Toy offers ≡ 4
unfolding same_bytes
needed = refl

three_lack : lacks Toy 3 [] offers ≡ true
unfolding verdicts verdict after same_bytes
three_lack = refl

four_fit : lacks Toy 4 [] offers ≡ false
unfolding verdicts verdict after same_bytes
four_fit = refl

-- without the id premise the order would matter: of two regular events with one id the first stays
first_of_one_id : run Toy 2 [] (Some (event 1 (0 ∷ 1 ∷ [])) ∷ Some (event 1 (0 ∷ 2 ∷ [])) ∷ []) ≡ event 1 (0 ∷ 1 ∷ []) ∷ []
unfolding run after verdict same_bytes
first_of_one_id = refl

second_of_one_id : run Toy 2 [] (Some (event 1 (0 ∷ 2 ∷ [])) ∷ Some (event 1 (0 ∷ 1 ∷ [])) ∷ []) ≡ event 1 (0 ∷ 2 ∷ []) ∷ []
unfolding run after verdict same_bytes
second_of_one_id = refl

-- ---- Two relays

-- Whatever the histories, there is an exchange: relay A is told what relay B holds, and then B what A holds.
module _ (E : Events) where
  all_told : (t : Table E) (e : E.Event) → Valid E e (map Some t) ↔ Held E e t
  all_told t e = (λ v. of (Memᴰ.of_map Some t v), λ m. Memᴰ.map Some m)
    where
      of : ((a : E.Event) × (a ∈ t) × (Some a ≡ Some e)) → e ∈ t
      of (a, m, q) = let p : e ≡ a = cc in Memᴰ.cast p m

  module _ (N M : ℕ) (H K : List (Offer E)) where
    abbrev relay_a : Relay E
    relay_a = record { capacity = N; history = H; early = map Some (run E M [] K); late = [] }

    abbrev relay_b : Relay E
    relay_b = record { capacity = M; history = K; early = []; late = map Some (moment E relay_a) }

    exchange : Exchange E relay_a relay_b
    exchange = record {
      to_A = λ e. rw (append-nil K, append-nil (map Some (run E M [] K))) (all_told (run E M [] K) e);
      to_B = all_told (moment E relay_a);
      at_an_end = inr refl;
    }

-- an old and a new tile change places: both relays end with the new one and with both regular events
abbrev history_a : List (Offer Toy)
history_a = tile 5 3 4 ∷ note 1 ∷ []

abbrev history_b : List (Offer Toy)
history_b = note 2 ∷ tile 6 4 4 ∷ []

example_A : end Toy (relay_a Toy 4 4 history_a history_b) ≡ event 6 (1 ∷ 4 ∷ 4 ∷ []) ∷ event 1 (0 ∷ []) ∷ event 2 (0 ∷ []) ∷ []
unfolding run after verdict same_bytes
example_A = refl

example_B : end Toy (relay_b Toy 4 4 history_a history_b) ≡ event 2 (0 ∷ []) ∷ event 6 (1 ∷ 4 ∷ 4 ∷ []) ∷ event 1 (0 ∷ []) ∷ []
unfolding run after verdict same_bytes
example_B = refl

-- Were neither moment the end of a history, an event could come from nowhere: each relay is told of one that no history
-- has.
abbrev nowhere : Relay Toy
nowhere = record { capacity = 2; history = []; early = note 1 ∷ []; late = [] }

each_told : Tells Toy nowhere nowhere
unfolding run after verdict same_bytes
each_told e = all_told Toy (event 1 (0 ∷ []) ∷ []) e

abbrev AgreeAnytime : Type 0
AgreeAnytime = (A B : Relay Toy) → Tells Toy B A → Tells Toy A B → IdPremise Toy (both Toy A B) → Fits Toy A → Fits Toy B →
    Settled Toy (end Toy A) (both Toy A B)

an_end_is_needed : AgreeAnytime → ⊥
unfolding run verdicts after verdict same_bytes
an_end_is_needed agree =
    let s = agree nowhere nowhere each_told each_told (λ e f v. absurd (Memᴰ.not-nil v)) tt tt in
    Memᴰ.not-nil ((s.held (event 1 (0 ∷ []))).0 (Memᴰ.head refl)).0

-- ---- A relay that meets demand 3: the definition itself

module _ (E : Events) (Sig : Type 0) where
  pub record Listed : Type 0 where
    pub capacity : ℕ
    pub held : Table (with_signature E Sig)

  abbrev model : Machine E Sig
  model = record {
    State = Listed;
    Offering = Offer (with_signature E Sig);
    Answer = Verdict;
    Fresh = λ b. b.held ≡ [];
    answer = λ b o. verdict (with_signature E Sig) b.capacity b.held o;
    next = λ b o. record { capacity = b.capacity; held = after (with_signature E Sig) b.capacity b.held o };
    verdict_of = λ v. v;
    capacity = λ b. b.capacity;
    slots = λ b. b.held;
    judge = λ o. o;
    AsParts = λ o s. o ≡ Some s;
  }

  abbrev any_table : Listed → Type 0
  any_table b = Unit {0}

  model_faithful : Faithful E Sig model any_table
  model_faithful = record {
    fresh = λ b f. tt;
    empty = λ b f. f;
    good = λ b o g. tt;
    keeps = λ b o g. refl;
    says = λ b o g. refl;
    does = λ b o g. refl;
  }

  model_meets : Laws E → Demand3On E Sig model
  model_meets L = demand_3_on E Sig model any_table model_faithful L (λ b o s g m p. p)

  model_exchanges : ExchangesOn E Sig model
  model_exchanges = exchanges_on E Sig model any_table model_faithful (λ b s g m. (Some s, refl))
