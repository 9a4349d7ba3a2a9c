-- Demand 3 for whoever calls: calls are known by their promises alone (src/lib.rt, and `format` of slots/src/lib.rt),
-- and this is what a list of them leaves. Quotes are from demand 3 where nothing else is said. Proofs: proofs/Demand3.
use Rattle.std.specs.Prelude.{◌≡◌, Bool, true, false, ◌↔◌, ◌≢◌, List, [], ◌∷◌, ◌++◌, map, ℕ, ◌≤◌, ◌<◌, eqb, length, Some, Result, Ok}
use Rattle.std.proofs.Common.{sym, ◌∙◌}
use Rattle.digest.specs.Digest.{digest}
use Rattle.text.specs.Event.{Event, serialise}
use Rattle.law.specs.Lists.{◌∈◌, any}
use Rattle.law.specs.Table.{Offer, Table, IdPremise, SameValid, SameHeld, Settled, slots_needed}
use Rattle.law.specs.Demand3.{RelayOn, ExchangeOn, judged}
use Rattle.law.specs.Demand3 as law
use Rattle.table.specs.Layout.{count_of}
use Rattle.table.specs.Events.{Signature, SignedEvent, table_events, view}
use Rattle.table.specs.Offer.{Offering, is_valid, offered_of, judge, answer, offer_number, next}
use Rattle.table.specs.Format.{format_row, formatted}
use Rattle.table.specs.Demand3.{Fresh, relay}
use Rattle.shape.specs.declared.Refusal.{Refusal}
use Rattle.table.specs.declared.Offered.{Offered}
use Rattle.table.specs.declared.Offered.TheVariants.{Stored}
use Rattle.offers.specs.Row.{offer_row}
use Rattle.wire.specs.Bytes.{Bytes}

-- ---- calls
-- of `offer_message` or `offer_parts`: what is offered, the answer, and the table at exit
pub record Call : Type 0 where
  pub offer : Offering
  pub answer : Result Offered Refusal
  pub exit : List ℕ

-- what the call promises, with the table b lent to it
pub record Promised (b : List ℕ) (c : Call) : Type 0 where
  pub answers : c.answer ≡ answer b c.offer
  pub number : offer_number c.answer ≡ offer_row b c.offer
  pub leaves : c.exit ≡ next b c.offer

-- "each other to the table the last one left". 01: "Nobody else writes the table meanwhile."
abbrev pub InTurn : Bytes → List Call → Type 0
InTurn b [] = Unit {0}
InTurn b (c ∷ cs) = Promised b c × InTurn c.exit cs

-- the table after the last
abbrev pub left : Bytes → List Call → Bytes
left b [] = b
left b (c ∷ cs) = left c.exit cs

-- "the first made to a fresh table": `format` is called with a capacity and a buffer, promises its answer and the table
-- at exit, and answers 0
pub record Session (cs : List Call) : Type 0 where
  pub capacity : ℕ
  pub buffer : List ℕ
  pub row : ℕ
  pub table : List ℕ
  pub answers : row ≡ format_row capacity buffer
  pub leaves : table ≡ formatted capacity buffer
  pub passes : row ≡ 0
  pub calls : InTurn table cs

abbrev pub at_end : {cs : List Call} → Session cs → Bytes
at_end {cs} s = left s.table cs

abbrev pub offers_of : List Call → List Offering
offers_of cs = map (λ (c : Call). c.offer) cs

-- the valid events of their offers
abbrev pub valid_of : List Call → List (Offer table_events)
valid_of cs = judged table_events Signature relay (offers_of cs)

-- 01: "An offer lacks room when its answer is 12."
abbrev pub lacks_room : List Call → Bool
lacks_room cs = any (λ (c : Call). eqb (offer_number c.answer) 12) cs

-- 01: "The set held is the pairs of id and text in slots 0 to C-1."
abbrev pub held_in : Bytes → Table table_events
held_in b = law.view table_events Signature relay b

-- ---- what they leave
-- "Suppose none lacked room and no two valid events .. share an id .. Then at the list's end an event is held exactly
-- when .. Each is held once."
abbrev pub HeldAtEnd : Type 0
HeldAtEnd = (cs : List Call) (s : Session cs) → IdPremise table_events (valid_of cs) → lacks_room cs ≡ false →
    Settled table_events (held_in (at_end s)) (valid_of cs)

-- 01: "every beginning of a list is a list too, so it holds after each offer"
abbrev pub HeldAfterEach : Type 0
HeldAfterEach =
    (cs ds : List Call) (s : Session (cs ++ ds)) → IdPremise table_events (valid_of (cs ++ ds)) →
    lacks_room (cs ++ ds) ≡ false →
    Settled table_events (held_in (left s.table cs)) (valid_of cs)

-- "any other list with the same valid events from a fresh table of no smaller capacity .. leaves an equal set in as
-- many slots"
abbrev pub AnyOrder : Type 0
AnyOrder =
    (cs ds : List Call) (s : Session cs) (t : Session ds) → IdPremise table_events (valid_of cs) → lacks_room cs ≡ false →
    SameValid table_events (valid_of cs) (valid_of ds) → s.capacity ≤ t.capacity →
    (lacks_room ds ≡ false) × SameHeld table_events (held_in (at_end t)) (held_in (at_end s)) ×
    (count_of (at_end t) ≡ count_of (at_end s))

-- "Given the id premise alone, some offer of a list lacks room exactly when .. together outnumber the slots."
abbrev pub RoomRunsOut : Type 0
RoomRunsOut = (cs : List Call) (s : Session cs) → IdPremise table_events (valid_of cs) →
    (lacks_room cs ≡ true) ↔ (s.capacity < slots_needed table_events (valid_of cs))

-- ---- signatures
-- the call that brought what is held, event and signature
pub record Brought (cs : List Call) (x : SignedEvent) : Type 0 where
  pub before : List Call
  pub call : Call
  pub later : List Call
  pub splits : cs ≡ before ++ (call ∷ later)
  pub brings : judge call.offer ≡ Some x
  pub says : call.answer ≡ Ok Stored

-- what is held was stored: with its event, its signature too
abbrev pub SignatureBrought : Type 0
SignatureBrought = (cs : List Call) (s : Session cs) (x : SignedEvent) → x ∈ view (at_end s) → Brought cs x

-- 01: "the signature first stored stays"
abbrev pub SignatureStays : Type 0
SignatureStays = (cs ds : List Call) (s : Session (cs ++ ds)) (e : table_events.Event) (first last : Signature) →
    (e, first) ∈ view (left s.table cs) → (e, last) ∈ view (at_end s) → last ≡ first

-- ---- two relays
abbrev pub is_fresh : {cs : List Call} (s : Session cs) → Fresh s.table
is_fresh s = record { capacity = s.capacity; buffer = s.buffer; passes = sym s.answers ∙ s.passes; is = s.leaves }

-- a history, then calls up to the moment at which this relay's table is taken for the other, and calls after it
abbrev pub relay_of : (hs es ls : List Call) (s : Session (hs ++ (es ++ ls))) → RelayOn table_events Signature relay
relay_of hs es ls s =
    record { table = s.table; fresh = is_fresh s; history = offers_of hs; early = offers_of es; late = offers_of ls }

-- "Two relays that offer each other, as parts, all they hold end with equal sets, if neither lacks room and the id
-- premise holds over both histories."
abbrev pub RelaysEndAlike : Type 0
RelaysEndAlike = (hs es ls ks fs ms : List Call) (s : Session (hs ++ (es ++ ls))) (t : Session (ks ++ (fs ++ ms))) →
    ExchangeOn table_events Signature relay (relay_of hs es ls s) (relay_of ks fs ms t) →
    IdPremise table_events (valid_of hs ++ valid_of ks) →
    lacks_room (hs ++ (es ++ ls)) ≡ false → lacks_room (ks ++ (fs ++ ms)) ≡ false →
    Settled table_events (held_in (at_end s)) (valid_of hs ++ valid_of ks)
    × Settled table_events (held_in (at_end t)) (valid_of hs ++ valid_of ks)
    × SameHeld table_events (held_in (at_end s)) (held_in (at_end t))

-- demand 3 of calls, whole
pub record Demand3OfCalls : Type 0 where
  pub held_at_end : HeldAtEnd
  pub held_after_each : HeldAfterEach
  pub any_order : AnyOrder
  pub relays_end_alike : RelaysEndAlike
  pub room_runs_out : RoomRunsOut
  pub signature_brought : SignatureBrought
  pub signature_stays : SignatureStays

-- ---- 01, "How far each promise must reach: .. Check it against these": whatever answers and leaves tables as promised
-- is none of them
module _ (says : List ℕ → Offering → Result Offered Refusal) (exit : List ℕ → Offering → List ℕ) where
  pub record Keeps : Type 0 where
    pub answers : (b : List ℕ) (o : Offering) → says b o ≡ answer b o
    pub leaves : (b : List ℕ) (o : Offering) → exit b o ≡ next b o

  pub record NoneOfThese : Type 0 where
    -- "a relay that refuses everything or stores nothing"
    pub takes : ((b : List ℕ) (o : Offering) → offer_number (says b o) ≢ 0) → ⊥
    pub stores : ((b : List ℕ) (o : Offering) → view (exit b o) ≡ view b) → ⊥
    -- "one verdict or id for all": the id of a valid event is the digest of its text, and those are not all one
    pub verdicts : ((b c : List ℕ) (o p : Offering) → says b o ≡ says c p) → ⊥
    pub own_id : (o : Offering) → is_valid o ≡ true → (offered_of o).id ≡ digest (serialise (offered_of o).event)
    pub ids : ((e f : Event) → digest (serialise e) ≡ digest (serialise f)) → ⊥
    -- "one that stores the first offer and only acknowledges later ones"
    pub later : ((b : List ℕ) (o : Offering) → view b ≢ [] → view (exit b o) ≡ view b) → ⊥
    -- "a made-up held count": it is the number of events held, and offers change it
    pub count : (b : List ℕ) (o : Offering) → count_of (exit b o) ≡ length (view (exit b o))
    pub counts : ((b : List ℕ) (o : Offering) → count_of (exit b o) ≡ count_of b) → ⊥
