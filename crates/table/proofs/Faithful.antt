-- One offer does at the table's bytes what the law says of the events that they hold, and writes no byte but those of
-- one slot and the count.
use Rattle.std.specs.Prelude.{None, Some, Result, Ok, Err}
use mathlib.Core.Path.{◌≡◌, refl, sym, ap, ◌∙◌}
use mathlib.Core.Bool.{Bool, true, false, cond, not, false≢true}
use mathlib.Core.Logic.{◌⊎◌, inl, inr, ⊎_elim}
use mathlib.Core.List.{List}
use Prim.Native.Nat.{ℕ}
use native.Mathlib.Omega.{arith}
use lib.Dec.{T, eqb, leb}
use lib.ListN.{length, get_or, drop}
use borrow.Author.Tests.{ne_eqb, leb-false}
use Rattle.shape.specs.Offsets.{plain_refusal}
use Rattle.shape.specs.declared.Refusal.{Refusal}
use Rattle.shape.proofs.Offsets.{offset_plain}
use Rattle.text.specs.Kinds.{key_of, is_ephemeral}
use Rattle.law.specs.Lists.{◌∈◌, any}
use Rattle.law.specs.Table.{Verdict, refused, was_ephemeral, duplicate, older, stored, no_room, first_verdict, has_id}
use Rattle.law.specs.Table.{has_key_newer, lacks_slot, verdict, after}
use Rattle.law.specs.Table as law
use Rattle.law.proofs.Machine.{Faithful}
use Rattle.law.proofs.Lists.{either, store_from}
use Rattle.law.proofs.Sound.{after_stored, after_other, distinct_after}
use Rattle.table.specs.Layout.{Fits, table_size, capacity_of, slot_bytes}
use Rattle.table.specs.Events.{SignedEvent, Signature, table_events, signed_events, of_held, class_of_event}
use Rattle.table.specs.Events.{class_of_text, view}
use Rattle.table.specs.Sound.{sound}
use Rattle.table.specs.Offer.{Offering, as_message, as_parts, offering_row, offering_refusal, is_valid, offered_of}
use Rattle.table.specs.Offer.{judge, offered_by, verdict_on, answer, is_stored, slot_for, count_after, stored_in, next}
use Rattle.table.specs.Demand3.{verdict_of, relay}
use Rattle.table.specs.Claims.{Unchanged, OtherBytes, BytesAfter}
use Rattle.table.specs.declared.Offered.{Offered}
use Rattle.table.specs.declared.Offered.TheVariants.{Ephemeral, Duplicate, Older, Stored}
use Rattle.table.proofs.Lists.{is_true}
use Rattle.table.proofs.Distinct.{class_lasts, signed_event_laws, distinct}
use Rattle.table.proofs.Bytes.{Clauses, clauses, written_after, written_byte}
use Rattle.table.proofs.Slots.{slot_length, slot_sound_lem}
use Rattle.table.proofs.Stored.{length_view, shares, HasSlot, stored_length, stored_capacity, After, after_store}
use Rattle.table.proofs.Stored.{stored_sound}
use Rattle.table.proofs.Good.{Good, fresh_good, fresh_view}
use Rattle.table.proofs.Valid.{valid_fits, valid_hashed, valid_read, refused_row_lem}

-- ---- verdicts
answer_stored : (r : Refusal) (v : Verdict) → is_stored (offered_by r v) ≡ true → v ≡ stored
answer_stored r refused e = absurd (false≢true e)
answer_stored r was_ephemeral e = absurd (false≢true e)
answer_stored r duplicate e = absurd (false≢true e)
answer_stored r older e = absurd (false≢true e)
answer_stored r stored e = refl
answer_stored r no_room e = absurd (false≢true e)

-- the verdict of an answer is stored if the answer is
stored_as : (a : Result Offered Refusal) → law.is_stored (verdict_of a) ≡ is_stored a
stored_as (Ok Ephemeral) = refl
stored_as (Ok Duplicate) = refl
stored_as (Ok Older) = refl
stored_as (Ok Stored) = refl
stored_as (Err r) = go (eqb r.row 12)
  where
    go : (t : Bool) → law.is_stored (cond t no_room refused) ≡ false
    go true = refl
    go false = refl

first_said : (r : Refusal) (a i n l : Bool) → verdict_of (offered_by r (first_verdict a i n l)) ≡ first_verdict a i n l
first_said r true i n l = refl
first_said r false true n l = refl
first_said r false false true l = refl
first_said r false false false true = refl
first_said r false false false false = refl

first_stored : (a i n l : Bool) → first_verdict a i n l ≡ stored → (a ≡ false) × (l ≡ false)
first_stored true i n l e = absurd (false≢true (ap law.is_stored e))
first_stored false true n l e = absurd (false≢true (ap law.is_stored e))
first_stored false false true l e = absurd (false≢true (ap law.is_stored e))
first_stored false false false true e = absurd (false≢true (ap law.is_stored e))
first_stored false false false false e = (refl, refl)

-- ---- what refuses an offer: by its row, and none with an offset where no row does
pub refusal_row : (o : Offering) → (offering_refusal o).row ≡ offering_row o
refusal_row (as_message m) = refl
refusal_row (as_parts b p) = refl

pub valid_plain : (o : Offering) → offering_row o ≡ 0 → offering_refusal o ≡ plain_refusal 0
valid_plain (as_message m) z = rw z (ap (λ x. record { row = 0; offset = x }) (offset_plain m 0 (λ e. omega arith) (λ e. omega arith)))
valid_plain (as_parts b p) z = ap plain_refusal z

-- ---- an offer
module _ (b : List ℕ) (o : Offering) where
  abbrev offered : SignedEvent
  offered = of_held (offered_of o)

  pub answer_invalid : is_valid o ≡ false → answer b o ≡ Err (offering_refusal o)
  unfolding answer verdict_on judge verdict
  answer_invalid e = rw e

  pub answer_unsound : is_valid o ≡ true → sound b ≡ false → answer b o ≡ Err (plain_refusal 11)
  unfolding answer
  answer_unsound e s = rw (e, s)

  pub answer_valid : is_valid o ≡ true → sound b ≡ true → answer b o ≡ offered_by (offering_refusal o) (verdict signed_events (capacity_of b) (view b) (Some offered))
  unfolding answer verdict_on judge
  answer_valid e s = rw (e, s)

  judge_invalid : is_valid o ≡ false → judge o ≡ None
  unfolding judge
  judge_invalid e = rw e

  judge_valid : is_valid o ≡ true → judge o ≡ Some offered
  unfolding judge
  judge_valid e = rw e

  -- the offer is stored
  pub record Stores : Type 0 where
    pub valid : is_valid o ≡ true
    pub is_sound : sound b ≡ true
    pub stores : verdict signed_events (capacity_of b) (view b) (Some offered) ≡ stored

  pub stores_if : is_stored (answer b o) ≡ true → Stores
  stores_if e = go (is_valid o) (sound b) refl refl
    where
      go : (u s : Bool) → is_valid o ≡ u → sound b ≡ s → Stores
      go false s p q = absurd (false≢true (sym (ap is_stored (answer_invalid p)) ∙ e))
      go true false p q = absurd (false≢true (sym (ap is_stored (answer_unsound p q)) ∙ e))
      go true true p q = record {
        valid = p;
        is_sound = q;
        stores = answer_stored (offering_refusal o) (verdict signed_events (capacity_of b) (view b) (Some offered)) (sym (ap is_stored (answer_valid p q)) ∙ e);
      }

  module _ (s : Stores) where
    told : (law.is_ephemeral (signed_events.class_of offered) ≡ false) × (lacks_slot signed_events (capacity_of b) (view b) offered ≡ false)
    unfolding verdict
    told = first_stored (law.is_ephemeral (signed_events.class_of offered)) (any (has_id signed_events offered) (view b))
        (any (has_key_newer signed_events offered) (view b)) (lacks_slot signed_events (capacity_of b) (view b) offered) s.stores

    has_slot : HasSlot b (offered_of o)
    has_slot = go (either (any (shares b (offered_of o)) (view b)))
      where
        go : T (any (shares b (offered_of o)) (view b)) ⊎ T (not (any (shares b (offered_of o)) (view b))) → HasSlot b (offered_of o)
        go (inl t) = inl t
        go (inr t) =
            let e : leb (capacity_of b) (length (view b)) ≡ false = rw (is_true (not (any (shares b (offered_of o)) (view b))) t) at told.1 in
            inr (t, omega (arith, leb-false (capacity_of b) (length (view b)) e, length_view b))

    lasts : is_ephemeral (offered_of o).event.kind ≡ false
    unfolding class_of_text class_of_event
    lasts =
        sym (class_lasts (offered_of o).event.kind (key_of (offered_of o).event))
        ∙ (rw (valid_read o s.valid) at told.0)

    pub fits : Fits (offered_of o)
    fits = valid_fits o s.valid

    pub sound_parts : Clauses b
    sound_parts = clauses b s.is_sound

    pub leaves : After b (offered_of o) sound_parts fits
    leaves = after_store b (offered_of o) sound_parts fits has_slot

    -- the law keeps a table distinct
    pub stays_sound : sound (stored_in b (offered_of o)) ≡ true
    stays_sound =
        let c = sound_parts in
        stored_sound b (offered_of o) c fits leaves (slot_sound_lem (offered_of o) fits lasts)
        (rw (after_stored signed_events (capacity_of b) (view b) offered s.stores) at
        (distinct_after signed_events signed_event_laws (capacity_of b) (view b) (Some offered) (distinct b c.slots c.ids c.keys)))

    view_from : (x : SignedEvent) → x ∈ view (stored_in b (offered_of o)) → (x ≡ offered) ⊎ (x ∈ view b)
    view_from x m = store_from (shares b (offered_of o)) offered (view b) (rw leaves.holds at m)

    stays_good : Good b → Good (stored_in b (offered_of o))
    stays_good g = record {
      is_sound = stays_sound;
      hashed = λ x m. ⊎_elim (λ q. rw q (valid_hashed o s.valid)) (g.hashed x) (view_from x m);
      sig_length_lem = λ x m. ⊎_elim (λ q. rw q fits.sig) (g.sig_length_lem x) (view_from x m);
      sig_bytes = λ x m. ⊎_elim (λ q. rw q fits.sig_bytes) (g.sig_bytes x) (view_from x m);
    }

-- ---- the theorems
-- a table keeps its slots, and a sound one is sound after every offer
pub next_capacity : (b : List ℕ) (o : Offering) → capacity_of (next b o) ≡ capacity_of b
unfolding next
next_capacity b o = go (is_stored (answer b o))
  where
    go : (t : Bool) → capacity_of (cond t (stored_in b (offered_of o)) b) ≡ capacity_of b
    go true = stored_capacity b (offered_of o)
    go false = refl

pub next_sound : (b : List ℕ) (o : Offering) → sound b ≡ true → sound (next b o) ≡ true
unfolding next
next_sound b o ok = go (is_stored (answer b o)) refl
  where
    go : (t : Bool) → is_stored (answer b o) ≡ t → sound (cond t (stored_in b (offered_of o)) b) ≡ true
    go true e = stays_sound b o (stores_if b o e)
    go false e = ok

module _ (b : List ℕ) (o : Offering) (g : Good b) where
  good : Good (next b o)
  unfolding next
  good = go (is_stored (answer b o)) refl
    where
      go : (t : Bool) → is_stored (answer b o) ≡ t → Good (cond t (stored_in b (offered_of o)) b)
      go true e = stays_good b o (stores_if b o e) g
      go false e = g

  keeps : capacity_of (next b o) ≡ capacity_of b
  keeps = next_capacity b o

  says : verdict_of (answer b o) ≡ verdict signed_events (capacity_of b) (view b) (judge o)
  unfolding verdict
  says = go (is_valid o) refl
    where
      go : (t : Bool) → is_valid o ≡ t → verdict_of (answer b o) ≡ verdict signed_events (capacity_of b) (view b) (judge o)
      go true e =
          let x = offered b o in
          ap verdict_of (answer_valid b o e g.is_sound)
          ∙ first_said (offering_refusal o) (law.is_ephemeral (signed_events.class_of x)) (any (has_id signed_events x) (view b))
          (any (has_key_newer signed_events x) (view b)) (lacks_slot signed_events (capacity_of b) (view b) x)
          ∙ ap (verdict signed_events (capacity_of b) (view b)) (sym (judge_valid b o e))
      go false e =
          ap verdict_of (answer_invalid b o e)
          ∙ ap (λ t. cond t no_room refused) (ap (λ r. eqb r 12) (refusal_row o) ∙ ne_eqb (offering_row o) 12 (λ q. omega (arith, refused_row_lem o e)))
          ∙ ap (verdict signed_events (capacity_of b) (view b)) (sym (judge_invalid b o e))

  does : view (next b o) ≡ after signed_events (capacity_of b) (view b) (judge o)
  unfolding next
  does = go (is_stored (answer b o)) refl
    where
      go : (t : Bool) → is_stored (answer b o) ≡ t → view (cond t (stored_in b (offered_of o)) b) ≡ after signed_events (capacity_of b) (view b) (judge o)
      go true e =
          let s = stores_if b o e in
          (leaves b o s).holds
          ∙ sym (after_stored signed_events (capacity_of b) (view b) (offered b o) s.stores)
          ∙ ap (after signed_events (capacity_of b) (view b)) (sym (judge_valid b o s.valid))
      go false e =
          sym (after_other signed_events (capacity_of b) (view b) (judge o) (ap law.is_stored (sym says) ∙ stored_as (answer b o) ∙ e))

pub faithful : Faithful table_events Signature relay Good
faithful = record { fresh = fresh_good; empty = fresh_view; good = good; keeps = keeps; says = says; does = does }

pub unchanged : Unchanged
unfolding next
unchanged b o e = rw e

pub other_bytes : OtherBytes
unfolding next stored_in
other_bytes b o i c k = go (is_stored (answer b o)) refl
  where
    go : (t : Bool) → is_stored (answer b o) ≡ t → get_or (cond t (stored_in b (offered_of o)) b) i 0 ≡ get_or b i 0
    go true e =
        let h = offered_of o in
        let l = slot_length h (fits b o (stores_if b o e)) in
        written_byte b (slot_for b h) (count_after b (slot_for b h)) (slot_bytes h) i c (rw l k)
    go false e = refl

pub bytes_after : BytesAfter
unfolding next stored_in
bytes_after b o = go (is_stored (answer b o)) refl
  where
    go : (t : Bool) → is_stored (answer b o) ≡ t →
        (length (cond t (stored_in b (offered_of o)) b) ≡ length b)
        × (drop (table_size (capacity_of b)) (cond t (stored_in b (offered_of o)) b) ≡ drop (table_size (capacity_of b)) b)
    go true e =
        let h = offered_of o in
        let s = stores_if b o e in
        let l = slot_length h (fits b o s) in
        let k = (leaves b o s).inside in
        (stored_length b h, written_after b (slot_for b h) (count_after b (slot_for b h)) (slot_bytes h) (table_size (capacity_of b)) (omega arith))
    go false e = (refl, refl)
