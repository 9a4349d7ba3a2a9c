-- Relays over the same table, offers and judge that do not meet the claims of demand 3, and that this one does: 01,
-- "How far each promise must reach". Law's WrongRelays, with two events and a fresh table in bytes.
use Rattle.std.specs.Prelude.{Some, Result}
use mathlib.Core.Path.{◌≡◌, refl, sym, ap, ◌∙◌}
use mathlib.Core.Bool.{false}
use mathlib.Core.Logic.{◌≢◌}
use mathlib.Core.List.{List, []}
use Prim.Native.Nat.{ℕ, ◌≤◌}
use native.Mathlib.Omega.{arith}
use lib.ListN.{length, get_or, replicate, length-replicate}
use Rattle.digest.specs.Digest.{digest}
use Rattle.text.specs.Event.{Event, serialise, all}
use Rattle.text.specs.Kinds.{class_of}
use Rattle.event.proofs.TwoEvents.{noted, Suits, suits₀, suits₁, ids_differ}
use Rattle.law.specs.Table.{regular, IdPremise, slots_needed}
use Rattle.law.specs.Event as law
use Rattle.law.specs.Lists.{◌∈◌}
use Rattle.law.specs.Demand3.{Machine, HeldSetOn, RoomLawOn, SignatureStoredOn, judged, run_on}
use Rattle.law.proofs.WrongRelays.{OfRegular}
use Rattle.law.proofs.WrongRelays as wrong
use Rattle.table.specs.Layout.{table_size, capacity_of, count_of}
use Rattle.table.specs.Events.{SignedEvent, Signature, table_events, class_of_text, view}
use Rattle.table.specs.Offer.{Offering, as_parts, is_stored, judge, answer, next}
use Rattle.table.specs.Format.{format_row, formatted}
use Rattle.table.specs.Demand3.{Fresh, verdict_of, relay_with, relay}
use Rattle.shape.specs.declared.Refusal.{Refusal}
use Rattle.table.specs.declared.Offered.{Offered}
use Rattle.table.proofs.Texts.{text_says}
use Rattle.table.proofs.Formatted.{formatted_capacity, just_formatted}
use Rattle.table.proofs.Good.{Good}
use Rattle.table.proofs.Distinct.{event_laws}
use Rattle.table.proofs.Stored.{length_view}
use Rattle.table.proofs.Faithful.{faithful, unchanged}
use Rattle.table.proofs.Tellable.{offerable}
use Rattle.table.proofs.Demand3.{demand_3}

-- ---- an offer of each of two events of a regular kind
abbrev named : Event → law.Event
named e = record { id = digest (serialise e); text = serialise e }

is_regular : (t : ℕ) → Suits (noted t) → class_of_text (serialise (noted t)) ≡ regular
unfolding class_of
is_regular t s = (text_says (noted t) s.fit (omega (arith, s.size))).is_regular refl

-- 64 bytes of one value
abbrev signature : ℕ → Signature
signature x = replicate 64 x

offer_of : (t : ℕ) → Suits (noted t) → (o : Offering) × (v : OfRegular table_events Signature relay o (named (noted t))) × (v.signature ≡ signature 1)
unfolding all
offer_of t s =
    let (c, p, j) = offerable (noted t) (signature 1) s.fit (omega (arith, s.size)) refl refl in
    (as_parts c p, record { signature = signature 1; valid = j; kind = is_regular t s }, refl)

-- ---- a fresh table of two slots
two_fit : (b : List ℕ) → length b ≡ table_size 2 → format_row 2 b ≡ 0
unfolding format_row
two_fit b l = rw l

abbrev buffer : List ℕ
buffer = replicate (table_size 2) 0

abbrev table : List ℕ
table = formatted 2 buffer

two_pass : format_row 2 buffer ≡ 0
two_pass = two_fit buffer (length-replicate {A = ℕ} (table_size 2) 0)

table_fresh : Fresh table
table_fresh = just_formatted 2 buffer two_pass

table_two : capacity_of table ≡ 2
table_two = formatted_capacity 2 buffer two_pass

-- ---- a relay with answers and a next table of its own
module _ (answer' : List ℕ → Offering → Result Offered Refusal) (next' : List ℕ → Offering → List ℕ) where
  abbrev pub another : Machine table_events Signature
  another = relay_with answer' next'

  of_regular : {o : Offering} {e : law.Event} → OfRegular table_events Signature relay o e → OfRegular table_events Signature another o e
  of_regular r = record { signature = r.signature; valid = r.valid; kind = r.kind }

  module _ (held : HeldSetOn table_events Signature another) (room : RoomLawOn table_events Signature another) where
    -- "a relay that refuses everything or stores nothing (shut out by the table of numbers and by the held set of
    -- demand 3)"
    pub stores_nothing : ((b : List ℕ) (o : Offering) → view (next' b o) ≡ view b) → ⊥
    stores_nothing idle =
        let (o, v, _) = offer_of 0 suits₀ in
        wrong.stores_nothing table_events Signature another held room table table_fresh o (named (noted 0)) (of_regular v)
        (omega (arith, table_two)) idle

    -- one that refuses everything, if it keeps "every lent buffer stays as found"
    pub refuses_all : ((b : List ℕ) (o : Offering) → is_stored (answer' b o) ≡ false → next' b o ≡ b) → ((b : List ℕ) (o : Offering) → is_stored (answer' b o) ≡ false) → ⊥
    refuses_all stays none = stores_nothing (λ b o. ap view (stays b o (none b o)))

    -- "one that stores the first offer and only acknowledges later ones (demand 3 holds after each offer)"
    pub stores_first_only : ((b : List ℕ) (o : Offering) → view b ≢ [] → view (next' b o) ≡ view b) → ⊥
    stores_first_only idle =
        let (o, v, _) = offer_of 0 suits₀ in
        let (p, w, _) = offer_of 1 suits₁ in
        wrong.stores_first_only table_events Signature another held room table table_fresh o p (named (noted 0)) (named (noted 1))
        (of_regular v) (of_regular w) ids_differ (omega (arith, table_two)) idle

    -- "a made-up held count .. (the header ..)": one that no offer changes, and any other than the slots needed
    pub constant_count : ((b : List ℕ) (o : Offering) → count_of (next' b o) ≡ count_of b) → ⊥
    constant_count idle =
        let (o, v, _) = offer_of 0 suits₀ in
        wrong.constant_count table_events Signature another held room table table_fresh event_laws o (named (noted 0)) (of_regular v)
        (omega (arith, table_two)) (λ b o. length_view (next' b o) ∙ idle b o ∙ sym (length_view b))

    pub made_up_count : (b : List ℕ) → Fresh b → (os : List Offering) → IdPremise table_events (judged table_events Signature another os)
        → slots_needed table_events (judged table_events Signature another os) ≤ capacity_of b
        → (n : ℕ) → n ≢ slots_needed table_events (judged table_events Signature another os) → count_of (run_on table_events Signature another b os) ≢ n
    made_up_count b f os ids le n ne q =
        wrong.made_up_count table_events Signature another held room b f event_laws os ids le n ne
        (length_view (run_on table_events Signature another b os) ∙ q)

    -- one that stores another signature than the offer's, and so one that stores 64 zero bytes for every signature
    pub other_signature : SignatureStoredOn table_events Signature another
        → ((b : List ℕ) (o : Offering) (s : SignedEvent) → judge o ≡ Some s → s ∈ view (next' b o) → ⊥) → ⊥
    other_signature sigs other =
        let (o, v, _) = offer_of 0 suits₀ in
        wrong.other_signature table_events Signature another held room table table_fresh sigs o (named (noted 0)) (of_regular v)
        (omega (arith, table_two)) other

    pub zero_signature : SignatureStoredOn table_events Signature another
        → ((b : List ℕ) (o : Offering) (s : SignedEvent) → s ∈ view (next' b o) → s.1 ≡ signature 0) → ⊥
    unfolding of_regular
    zero_signature sigs zero =
        let (o, v, q) = offer_of 0 suits₀ in
        let s : SignedEvent = (named (noted 0), v.signature) in
        let zeros : s ∈ view (next' table o) → signature 1 ≡ signature 0 = λ m. sym q ∙ zero table o s m in
        wrong.held_signature table_events Signature another held room table table_fresh sigs o (named (noted 0)) (of_regular v)
        (omega (arith, table_two)) (λ m. omega (arith, ap (λ (l : List ℕ). get_or l 0 0) (zeros m)))

-- ---- this relay meets the claims, and so is none of these
pub stores_something : ((b : List ℕ) (o : Offering) → view (next b o) ≡ view b) → ⊥
stores_something = stores_nothing answer next demand_3.held_set demand_3.room_law

pub takes_something : ((b : List ℕ) (o : Offering) → is_stored (answer b o) ≡ false) → ⊥
takes_something = refuses_all answer next demand_3.held_set demand_3.room_law unchanged

pub stores_later : ((b : List ℕ) (o : Offering) → view b ≢ [] → view (next b o) ≡ view b) → ⊥
stores_later = stores_first_only answer next demand_3.held_set demand_3.room_law

pub keeps_signatures : ((b : List ℕ) (o : Offering) (s : SignedEvent) → judge o ≡ Some s → s ∈ view (next b o) → ⊥) → ⊥
keeps_signatures = other_signature answer next demand_3.held_set demand_3.room_law demand_3.signature_stored

pub counts : ((b : List ℕ) (o : Offering) → count_of (next b o) ≡ count_of b) → ⊥
counts = constant_count answer next demand_3.held_set demand_3.room_law

-- "one verdict .. for all (the verdict rules ..)"
pub answers_differ : ((b c : List ℕ) (o p : Offering) → answer b o ≡ answer c p) → ⊥
answers_differ same =
    let (o, v, _) = offer_of 0 suits₀ in
    wrong.one_verdict table_events Signature relay Good faithful event_laws table table_fresh o (named (noted 0)) v (omega (arith, table_two))
    (λ b c o p. ap verdict_of (same b c o p))

-- "one .. id for all (.. FIPS 180-4)"
pub two_ids : ((e g : Event) → digest (serialise e) ≡ digest (serialise g)) → ⊥
two_ids same = ids_differ (same (noted 0) (noted 1))
