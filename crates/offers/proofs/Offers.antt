-- The calls: what the slot of an offer is answered is what the offer is answered, with 01's number.
use Rattle.std.specs.Prelude.{Some, Result, Err}
use mathlib.Core.Path.{◌≡◌, refl, sym, ap, ap₂, ◌∙◌}
use mathlib.Core.Bool.{Bool, true, false, cond, not, ◌&&◌, ◌||◌, false≢true}
use mathlib.Core.List.{List, [], ◌∷◌}
use Prim.Native.Nat.{ℕ}
use lib.Dec.{eqb, leb}
use borrow.Author.Tests.{eqb-true, eq-eqb, ne_eqb}
use Rattle.wire.specs.Put.{put}
use Rattle.wire.specs.Field.{le_bytes}
use Rattle.text.specs.Kinds.{is_ephemeral, key_of}
use Rattle.shape.specs.Offsets.{plain_refusal}
use Rattle.shape.specs.declared.Refusal.{Refusal}
use Rattle.law.specs.Lists.{any, find}
use Rattle.law.specs.Table.{has_id, has_key, has_key_newer, lacks_slot, first_verdict, verdict}
use Rattle.law.specs.Table as law
use Rattle.table.specs.Layout.{Held, Fits, slot_place, count_place, capacity_of, count_of, slot_bytes}
use Rattle.table.specs.Events.{signed_events, class_in, class_of_event, class_of_text, in_slot, of_held, view}
use Rattle.table.specs.Sound.{sound}
use Rattle.table.specs.Offer.{Offering, offering_row, offering_refusal, is_valid, offered_of, offered_by, answer}
use Rattle.table.specs.Offer.{offer_number, is_stored, count_after, slot_for, stored_in, next}
use Rattle.table.specs.declared.Offered.{Offered}
use Rattle.table.proofs.Valid.{valid_fits, valid_read}
use Rattle.table.proofs.Slots.{slot_length, slot_kind, slot_reads, slot_sound_lem, slot_holds}
use Rattle.table.proofs.Distinct.{class_lasts}
use Rattle.table.proofs.Stored.{length_view}
use Rattle.table.proofs.Faithful.{refusal_row, valid_plain, answer_invalid, answer_unsound, answer_valid}
use Rattle.offers.specs.Row.{needs_slot, all_in_use, offer_row}
use Rattle.offers.specs.Inner.{New, answer_for, slot_of, stored_for, offered_to, offered_next}

-- ---- the slot of an event that a slot has room for
pub new_slot : (h : Held) → Fits h → New (slot_bytes h)
unfolding class_of_text class_of_event
new_slot h f = record {
  long = slot_length h f;
  class = ap (λ r. law.is_ephemeral (class_in r)) (slot_reads h f) ∙ class_lasts h.event.kind (key_of h.event) ∙ ap is_ephemeral (sym (slot_kind h f));
  ok = λ k. slot_sound_lem h f (ap is_ephemeral (sym (slot_kind h f)) ∙ k);
}

-- ---- 01's number
module _ {A : Type 0} (p q : A → Bool) where
  any_both : (l : List A) → any p l ≡ false → any (λ x. p x && q x) l ≡ false
  any_both [] e = refl
  any_both (x ∷ l) e = go (p x) e (any_both l)
    where
      go : (t : Bool) → (t || any p l) ≡ false → (any p l ≡ false → any (λ y. p y && q y) l ≡ false) → ((t && q x) || any (λ y. p y && q y) l) ≡ false
      go true f h = absurd (false≢true (sym f))
      go false f h = h f

-- the number of a verdict: n holds nowhere where k does not
verdict_number : (e i n k l : Bool) → (k ≡ false → n ≡ false)
    → offer_number (offered_by (plain_refusal 0) (first_verdict e i n (not k && l))) ≡ cond ((not e && (not i && not k)) && l) 12 0
verdict_number true i n k l h = refl
verdict_number false true n k l h = refl
verdict_number false false true true l h = refl
verdict_number false false true false l h = absurd (false≢true (sym (h refl)))
verdict_number false false false true l h = refl
verdict_number false false false false true h = refl
verdict_number false false false false false h = refl

module _ (b : List ℕ) (o : Offering) where
  class_is : is_valid o ≡ true → law.is_ephemeral (class_of_text (of_held (offered_of o)).0.text) ≡ is_ephemeral (offered_of o).event.kind
  unfolding class_of_text class_of_event
  class_is v = ap (λ r. law.is_ephemeral (class_in r)) (valid_read o v) ∙ class_lasts (offered_of o).event.kind (key_of (offered_of o).event)

  valid_number : is_valid o ≡ true → sound b ≡ true → offer_number (answer b o) ≡ cond (needs_slot b (offered_of o) && all_in_use b) 12 0
  unfolding verdict needs_slot all_in_use
  valid_number v g =
      let h = of_held (offered_of o) in
      let k = any (has_key signed_events h) (view b) in
      let i = any (has_id signed_events h) (view b) in
      let n = any (has_key_newer signed_events h) (view b) in
      ap offer_number (answer_valid b o v g)
      ∙ ap₂ (λ r e. offer_number (offered_by r (first_verdict e i n (lacks_slot signed_events (capacity_of b) (view b) h)))) (valid_plain o (eqb-true (offering_row o) 0 v)) (class_is v)
      ∙ ap (λ m. offer_number (offered_by (plain_refusal 0) (first_verdict (is_ephemeral (offered_of o).event.kind) i n (not k && leb (capacity_of b) m)))) (length_view b)
      ∙ verdict_number (is_ephemeral (offered_of o).event.kind) i n k (leb (capacity_of b) (count_of b))
      (any_both (has_key signed_events h) (λ x. signed_events.newer x h) (view b))

  pub number_is : offer_number (answer b o) ≡ offer_row b o
  unfolding offer_row
  number_is = go (eqb (offering_row o) 0) refl (sound b) refl
    where
      go : (v : Bool) → eqb (offering_row o) 0 ≡ v → (g : Bool) → sound b ≡ g
          → offer_number (answer b o) ≡ cond v (cond g (cond (needs_slot b (offered_of o) && all_in_use b) 12 0) 11) (offering_row o)
      go true v true g = valid_number v g
      go true v false g = ap offer_number (answer_unsound b o v g)
      go false v g h = ap offer_number (answer_invalid b o v) ∙ refusal_row o

-- ---- an offer o by its slot
module _ (b : List ℕ) (o : Offering) where
  -- what is promised of an answer, and of the table at exit
  abbrev pub Answers : Result Offered Refusal → Type 0
  Answers a = (a ≡ answer b o) × (offer_number a ≡ offer_row b o)

  abbrev pub Leaves : Result Offered Refusal → List ℕ → Type 0
  Leaves a t = (a ≡ answer b o) × ((offer_number a ≡ offer_row b o) × (t ≡ next b o))

  answers : {a : Result Offered Refusal} → a ≡ answer b o → Answers a
  answers e = (e, ap offer_number e ∙ number_is b o)

  module _ {r : ℕ} (f : r ≡ offering_row o) where
    refused_is : (r ≡ 0 → ⊥) → answer b o ≡ Err (offering_refusal o)
    refused_is n = answer_invalid b o (ne_eqb (offering_row o) 0 (λ q. n (f ∙ q)))

    pub refused : (r ≡ 0 → ⊥) → {x : Refusal} → x ≡ offering_refusal o → Answers (Err x)
    refused n e = answers (ap Err e ∙ sym (refused_is n))

    pub refused_stays : (r ≡ 0 → ⊥) → {x : Refusal} → x ≡ offering_refusal o → Leaves (Err x) b
    unfolding next
    refused_stays n e = let a = refused n e in (a.0, (a.1, sym (ap (λ x. cond (is_stored x) (stored_in b (offered_of o)) b) (refused_is n))))

    module _ (z : r ≡ 0) {s : List ℕ} (w : r ≡ 0 → s ≡ slot_bytes (offered_of o)) where
      q : s ≡ slot_bytes (offered_of o)
      q = w z

      valid : is_valid o ≡ true
      valid = eq-eqb (offering_row o) 0 (sym f ∙ z)

      fits : Fits (offered_of o)
      fits = valid_fits o valid

      pub is_new : New s
      is_new = rw q (new_slot (offered_of o) fits)

      held : in_slot s ≡ of_held (offered_of o)
      held = ap in_slot q ∙ slot_holds (offered_of o) fits

      answer_is : offered_to b s ≡ answer b o
      unfolding offered_to answer_for
      answer_is = go (sound b) refl
        where
          go : (x : Bool) → sound b ≡ x → cond x (answer_for b s) (Err (plain_refusal 11)) ≡ answer b o
          go true g =
              ap₂ (λ k v. offered_by k (verdict signed_events (capacity_of b) (view b) (Some v))) (sym (valid_plain o (sym f ∙ z))) held ∙ sym (answer_valid b o valid g)
          go false g = sym (answer_unsound b o valid g)

      stores : stored_for b s ≡ stored_in b (offered_of o)
      unfolding stored_for stored_in slot_of slot_for
      stores =
          ap₂ (λ v w. put (put b (slot_place (find (has_key signed_events v) (view b))) w) count_place (le_bytes 4 (count_after b (find (has_key signed_events v) (view b))))) held q

      pub judged : {a : Result Offered Refusal} → a ≡ offered_to b s → Answers a
      judged e = answers (e ∙ answer_is)

      pub taken : {a : Result Offered Refusal} {t : List ℕ} → (a ≡ offered_to b s) × (t ≡ offered_next b s) → Leaves a t
      unfolding offered_next next
      taken g = let a = judged g.0 in (a.0, (a.1, g.1 ∙ ap₂ (λ x y. cond (is_stored x) y b) answer_is stores))
