-- The claims of demand 3 for a relay in any form, as a table in bytes. Quotes are from demand 3 where nothing else is
-- said.
use Rattle.std.specs.Prelude.{◌≡◌, Bool, not, ◌↔◌, ◌⊎◌, List, [], ◌∷◌, ◌++◌, map, ℕ, ◌≤◌, ◌<◌, T, length, Some}
use Rattle.law.specs.Lists.{◌∈◌, any}
use Rattle.law.specs.Table.{Events, Verdict, stored, is_no_room, Table, Offer, IdPremise, SameValid, SameHeld}
use Rattle.law.specs.Table.{Settled, slots_needed}
use Rattle.law.specs.Signature.{Slot, with_signature, event, without_signature}

pub record Machine (E : Events) (Sig : Type 0) : Type 1 where
  -- a table, an offer "as messages or as parts", and an answer
  pub State : Type 0
  pub Offering : Type 0
  pub Answer : Type 0
  -- 01: "A fresh table is one just formatted"
  pub Fresh : State → Type 0
  -- what an offer is answered, and the table that it leaves
  pub answer : State → Offering → Answer
  pub next : State → Offering → State
  pub verdict_of : Answer → Verdict
  -- N, and slots 0 to C-1
  pub capacity : State → ℕ
  pub slots : State → List (Slot E Sig)
  -- the event and the signature that are offered, if none of rows 1 to 10 refuses the offer
  pub judge : Offering → Offer (with_signature E Sig)
  -- the offer is, as parts, 01: "with the id, text and signature held there"
  pub AsParts : Offering → Slot E Sig → Type 0

module _ (E : Events) (Sig : Type 0) (M : Machine E Sig) where
  open M use {State, Offering, Answer, Fresh, answer, next, verdict_of, capacity, slots, judge, AsParts}

  -- the events held
  abbrev pub view : State → Table E
  view b = map (event E Sig) (slots b)

  -- the valid events of a list
  abbrev pub judged : List Offering → List (Offer E)
  judged os = map (without_signature E Sig) (map judge os)

  -- "the first made to a fresh table and each other to the table the last one left". 01: "Nobody else writes the table
  -- meanwhile."
  unfoldable pub run_on : State → List Offering → State
  run_on b [] = b
  run_on b (o ∷ os) = run_on (next b o) os

  unfoldable pub answers_on : State → List Offering → List Answer
  answers_on b [] = []
  answers_on b (o ∷ os) = answer b o ∷ answers_on (next b o) os

  -- some offer of the list lacks room
  abbrev pub lacks_on : State → List Offering → Bool
  lacks_on b os = any (λ a. is_no_room (verdict_of a)) (answers_on b os)

  -- "none lacked room"
  abbrev pub NoneLacksOn : State → List Offering → Type 0
  NoneLacksOn b os = T (not (lacks_on b os))

  -- ---- One list

  -- "Suppose none lacked room and no two valid events .. share an id .. Then at the list's end .."
  abbrev pub HeldSetOn : Type 0
  HeldSetOn = (b : State) (os : List Offering) → Fresh b → IdPremise E (judged os) → NoneLacksOn b os →
      Settled E (view (run_on b os)) (judged os)

  -- 01: "every beginning of a list is a list too, so it holds after each offer"
  abbrev pub BeginningsOn : Type 0
  BeginningsOn = (b : State) (os ps : List Offering) → Fresh b → IdPremise E (judged (os ++ ps)) →
      NoneLacksOn b (os ++ ps) →
      Settled E (view (run_on b os)) (judged os)

  -- "any other list with the same valid events from a fresh table of no smaller capacity, whatever their order and
  -- repetition, leaves an equal set in as many slots"
  abbrev pub OrderFreeOn : Type 0
  OrderFreeOn = (b c : State) (os ps : List Offering) → Fresh b → Fresh c → IdPremise E (judged os) → NoneLacksOn b os →
      SameValid E (judged os) (judged ps) → capacity b ≤ capacity c →
      NoneLacksOn c ps × SameHeld E (view (run_on c ps)) (view (run_on b os)) ×
      (length (slots (run_on c ps)) ≡ length (slots (run_on b os)))

  -- "Given the id premise alone, some offer of a list lacks room exactly when its distinct valid regular ids and
  -- distinct valid keys together outnumber the slots." 01: "some offer gives 12 exactly when the sum is over N"
  abbrev pub RoomLawOn : Type 0
  RoomLawOn = (b : State) (os : List Offering) → Fresh b → IdPremise E (judged os) →
      T (lacks_on b os) ↔ (capacity b < slots_needed E (judged os))

  -- ---- Signatures

  -- the slot s is what an offer of the list brought that was answered stored
  pub record StoredBy (b : State) (os : List Offering) (s : Slot E Sig) : Type 0 where
    pub before : List Offering
    pub offer : Offering
    pub later : List Offering
    pub splits : os ≡ before ++ (offer ∷ later)
    pub brings : judge offer ≡ Some s
    pub says : verdict_of (answer (run_on b before) offer) ≡ stored

  -- the signature held is that of such an offer
  abbrev pub SignatureStoredOn : Type 0
  SignatureStoredOn = (b : State) (os : List Offering) (s : Slot E Sig) → Fresh b → s ∈ slots (run_on b os) →
      StoredBy b os s

  -- 01: "the signature first stored stays"
  abbrev pub SignatureStaysOn : Type 0
  SignatureStaysOn = (b : State) (os ps : List Offering) (e : E.Event) (s r : Sig) → Fresh b →
      (e, s) ∈ slots (run_on b os) → (e, r) ∈ slots (run_on b (os ++ ps)) → r ≡ s

  -- ---- Two relays

  -- 01: "Two relays have a table and a list each, their capacities alike or not. A relay's history is its list before
  -- the exchange." The offers of the exchange are early up to the moment at which this relay's table is taken for the
  -- other, and late after it.
  pub record RelayOn : Type 0 where
    pub table : State
    pub fresh : Fresh table
    pub history : List Offering
    pub early : List Offering
    pub late : List Offering

  abbrev pub told_on : RelayOn → List Offering
  told_on A = A.early ++ A.late

  -- what a relay holds 01: "at one moment, at the end of that relay's history or later"
  abbrev pub moment_on : RelayOn → State
  moment_on A = run_on A.table (A.history ++ A.early)

  -- 01: "Then each list goes on with offers .. of what the other relay holds"
  abbrev pub end_on : RelayOn → State
  end_on A = run_on A.table (A.history ++ told_on A)

  -- it does not lack room
  abbrev pub FitsOn : RelayOn → Type 0
  FitsOn A = NoneLacksOn A.table (A.history ++ told_on A)

  -- the offers os tell the slots xs, 01: "as parts .. each such event at least once, in any order, with the id, text
  -- and signature held there, and nothing else"
  pub record TellsOn (xs : List (Slot E Sig)) (os : List Offering) : Type 0 where
    pub each : (s : Slot E Sig) → s ∈ xs → (o : Offering) × (o ∈ os) × AsParts o s
    pub no_other : (o : Offering) → o ∈ os → (s : Slot E Sig) × (s ∈ xs) × AsParts o s

  pub record ExchangeOn (A B : RelayOn) : Type 0 where
    pub to_A : TellsOn (slots (moment_on B)) (told_on A)
    pub to_B : TellsOn (slots (moment_on A)) (told_on B)
    -- 01: "At least one of the two moments is the end of its relay's history"
    pub at_an_end : (A.early ≡ []) ⊎ (B.early ≡ [])

  -- "both histories"
  abbrev pub both_on : RelayOn → RelayOn → List (Offer E)
  both_on A B = judged A.history ++ judged B.history

  -- "Two relays that offer each other, as parts, all they hold end with equal sets, if neither lacks room and the id
  -- premise holds over both histories." 01: "Both end with the set that demand 3 gives for the valid events of both
  -- histories together."
  abbrev pub RelaysAgreeOn : Type 0
  RelaysAgreeOn = (A B : RelayOn) → ExchangeOn A B → IdPremise E (both_on A B) → FitsOn A → FitsOn B →
      Settled E (view (end_on A)) (both_on A B) × Settled E (view (end_on B)) (both_on A B) ×
      SameHeld E (view (end_on A)) (view (end_on B))

  -- neither lacks room exactly when the valid events of both histories fit both
  abbrev pub RelaysFitOn : Type 0
  RelaysFitOn = (A B : RelayOn) → ExchangeOn A B → IdPremise E (both_on A B) →
      (FitsOn A × FitsOn B) ↔ ((slots_needed E (both_on A B) ≤ capacity A.table) ×
      (slots_needed E (both_on A B) ≤ capacity B.table))

  -- a relay whose moment is the end of its history
  abbrev pub at_its_end : (b : State) → Fresh b → (history told : List Offering) → RelayOn
  at_its_end b f hs xs = record { table = b; fresh = f; history = hs; early = []; late = xs }

  -- whatever the histories, there is an exchange
  abbrev pub ExchangesOn : Type 0
  ExchangesOn = (b c : State) (f : Fresh b) (g : Fresh c) (hs ks : List Offering) →
      (xs : List Offering) × (ys : List Offering) × ExchangeOn (at_its_end b f hs xs) (at_its_end c g ks ys)

  -- ---- All of it, in the order of demand 3

  pub record Demand3On : Type 0 where
    pub held_set : HeldSetOn
    pub beginnings : BeginningsOn
    pub order_free : OrderFreeOn
    pub signature_stored : SignatureStoredOn
    pub signature_stays : SignatureStaysOn
    pub relays_agree : RelaysAgreeOn
    pub room_law : RoomLawOn
