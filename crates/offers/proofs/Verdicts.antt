-- The verdict: a law for each way out. The premises are the facts of the path, in the order of the code.
use Rattle.std.specs.Prelude.{Ok, Err}
use mathlib.Core.Path.{◌≡◌, refl, sym, ap, ap₂, ◌∙◌}
use mathlib.Core.Bool.{Bool, true, false, not, ◌&&◌}
use mathlib.Core.List.{List, []}
use Prim.Native.Nat.{ℕ, ◌≤◌, ◌<◌}
use lib.Dec.{leb, ltb}
use lib.ListN.{get_or}
use lib.IntN.{ℤ}
use mir.Syntax.{w64}
use mir.Val.{to_z, of_z, SFits}
use mir.ValLaws.{to_z-of_z}
use borrow.Author.Tests.{lt-ltb, le-ltb}
use Rattle.wire.specs.Bytes.{part}
use Rattle.wire.specs.Field.{field_at, signed}
use Rattle.text.specs.Kinds.{is_ephemeral}
use Rattle.shape.specs.Offsets.{plain_refusal}
use Rattle.shape.specs.declared.Refusal.{Refusal}
use Rattle.event.specs.Order.{is_newer}
use Rattle.law.specs.Lists.{any, find}
use Rattle.law.specs.Table.{has_id, has_key_newer, lacks_slot, first_verdict, verdict}
use Rattle.table.specs.Layout.{capacity_of, count_of, kind_in, id_in, held_slots, slot_at}
use Rattle.table.specs.Events.{signed_events, in_slot, view}
use Rattle.table.specs.Sound.{sound, slot_sound}
use Rattle.table.specs.Offer.{offered_by}
use Rattle.table.specs.declared.Offered.TheVariants.{Ephemeral, Duplicate, Older}
use Rattle.table.proofs.Stored.{length_view}
use Rattle.table.proofs.Shown.{slot_entry}
use Rattle.slots.specs.Slots.{same_id_in, same_key_in, slots_from}
use Rattle.offers.specs.Inner.{newer_in, New, answer_for, slot_of, Decides}
use Rattle.offers.specs.declared.Decided.{Decided}
use Rattle.offers.specs.declared.Decided.TheVariants.{Fills, Answered}
use Rattle.offers.proofs.Held.{ids, slot_is, keys, newers}

-- the questions of the verdict on slot s: a newer event with its key is held; no slot is left for it
abbrev pub newer_held : List ℕ → List ℕ → Bool
newer_held b s = any (has_key_newer signed_events (in_slot s)) (view b)

abbrev pub lacks : List ℕ → List ℕ → Bool
lacks b s = lacks_slot signed_events (capacity_of b) (view b) (in_slot s)

module _ (b s : List ℕ) (g : sound b ≡ true) (n : New s) where
  abbrev Says : Decided → Type 0
  Says d = Decides b s (answer_for b s) d

  pub by_class : answer_for b s ≡ offered_by (plain_refusal 0) (first_verdict (is_ephemeral (kind_in s)) (any (has_id signed_events (in_slot s)) (view b)) (newer_held b s) (lacks b s))
  unfolding answer_for verdict
  by_class = ap (λ x. offered_by (plain_refusal 0) (first_verdict x (any (has_id signed_events (in_slot s)) (view b)) (newer_held b s) (lacks b s))) n.class

  module _ {k : ℕ} {x : Bool} (p : k ≡ field_at s 104 2) (q : x ≡ is_ephemeral k) where
    class_is : is_ephemeral (kind_in s) ≡ x
    unfolding kind_in
    class_is = sym (q ∙ ap is_ephemeral p)

    pub was_ephemeral_lem : x ≡ true → Says (Answered (Ok Ephemeral))
    was_ephemeral_lem e = record {
      is =
          (sym (by_class ∙ ap (λ t. offered_by (plain_refusal 0) (first_verdict t (any (has_id signed_events (in_slot s)) (view b)) (newer_held b s) (lacks b s))) (class_is ∙ e)), refl);
    }

    module _ (e : x ≡ false) {c : ℕ} (l : c ≡ field_at b 4 4) {y : Bool} (f : y ≡ any (same_id_in s) (slots_from b 0 c)) where
      pub lasts : slot_sound s ≡ true
      lasts = n.ok (class_is ∙ e)

      count_is : c ≡ count_of b
      unfolding count_of
      count_is = l

      by_id : answer_for b s ≡ offered_by (plain_refusal 0) (first_verdict false y (newer_held b s) (lacks b s))
      by_id =
          by_class
          ∙ ap₂ (λ t u. offered_by (plain_refusal 0) (first_verdict t u (newer_held b s) (lacks b s))) (class_is ∙ e)
          (ids b s g ∙ sym (f ∙ ap (λ m. any (same_id_in s) (slots_from b 0 m)) count_is))

      pub was_duplicate : y ≡ true → Says (Answered (Ok Duplicate))
      was_duplicate h = record { is = (sym (by_id ∙ ap (λ u. offered_by (plain_refusal 0) (first_verdict false u (newer_held b s) (lacks b s))) h), refl) }

      module _ (h : y ≡ false) {j : ℕ} (o : j ≡ find (same_key_in s) (slots_from b 0 c)) where
        place_is : j ≡ slot_of b s
        place_is = o ∙ ap (λ m. find (same_key_in s) (slots_from b 0 m)) count_is ∙ sym (slot_is b s g lasts)

        by_key : answer_for b s ≡ offered_by (plain_refusal 0) (first_verdict false false (ltb j c && newer_in (get_or (held_slots b) j []) s) (not (ltb j c) && leb (capacity_of b) c))
        by_key =
            by_id
            ∙ ap₂ (λ u v. offered_by (plain_refusal 0) (first_verdict false u v (lacks b s))) h
            (newers b s g lasts ∙ ap₂ (λ a m. ltb a m && newer_in (get_or (held_slots b) a []) s) (sym place_is) (sym count_is))
            ∙ ap₂ (λ t m. offered_by (plain_refusal 0) (first_verdict false false (ltb j c && newer_in (get_or (held_slots b) j []) s) (not t && leb (capacity_of b) m)))
            (keys b s g lasts ∙ ap₂ ltb (sym place_is) (sym count_is)) (length_view b ∙ sym count_is)

        module _ (i : j < c) {w : Bool} {d : List ℕ} (a : d ≡ slot_at b j) (v : w ≡ newer_in d s) where
          by_time : answer_for b s ≡ offered_by (plain_refusal 0) (first_verdict false false w false)
          by_time =
              by_key
              ∙ ap (λ t. offered_by (plain_refusal 0) (first_verdict false false (t && newer_in (get_or (held_slots b) j []) s) (not t && leb (capacity_of b) c))) (lt-ltb j c i)
              ∙ ap (λ t. offered_by (plain_refusal 0) (first_verdict false false t false)) (ap (λ r. newer_in r s) (slot_entry b j (rw count_is at i) ∙ sym a) ∙ sym v)

          pub was_older : w ≡ true → Says (Answered (Ok Older))
          was_older z = record { is = (sym (by_time ∙ ap (λ t. offered_by (plain_refusal 0) (first_verdict false false t false)) z), refl) }

          pub was_newer : w ≡ false → Says (Fills j)
          was_newer z = record { is = (sym (by_time ∙ ap (λ t. offered_by (plain_refusal 0) (first_verdict false false t false)) z), place_is) }

        module _ (i : c ≤ j) {u : Bool} (r : u ≡ leb (capacity_of b) c) where
          by_room : answer_for b s ≡ offered_by (plain_refusal 0) (first_verdict false false false u)
          by_room = by_key ∙ ap₂ (λ t a. offered_by (plain_refusal 0) (first_verdict false false (t && newer_in (get_or (held_slots b) j []) s) (not t && a))) (le-ltb j c i) (sym r)

          pub no_room_lem : u ≡ true → {x : Refusal} → x ≡ plain_refusal 12 → Says (Answered (Err x))
          no_room_lem z {x} f = record { is = (ap Err f ∙ sym (by_room ∙ ap (λ t. offered_by (plain_refusal 0) (first_verdict false false false t)) z), refl) }

          pub was_stored : u ≡ false → Says (Fills j)
          was_stored z = record { is = (sym (by_room ∙ ap (λ t. offered_by (plain_refusal 0) (first_verdict false false false t)) z), place_is) }

-- ---- what a comparison of two slots answers
pub newer_by : (s t : List ℕ) (a b : ℤ) {r : Bool} {x y : ℕ} {i j : List ℕ} → SFits w64 a → SFits w64 b
    → r ≡ is_newer (to_z w64 (of_z w64 a)) i (to_z w64 (of_z w64 b)) j
    → a ≡ signed x → x ≡ field_at s 96 8 → b ≡ signed y → y ≡ field_at t 96 8 → i ≡ part s 0 32 → j ≡ part t 0 32 → r ≡ newer_in s t
unfolding newer_in id_in
newer_by s t a b {r} {x} {y} {i} {j} f g e p q u v k l =
    e
    ∙ ap₂ (λ m n. is_newer m i n j) (to_z-of_z w64 a f ∙ p ∙ ap signed q) (to_z-of_z w64 b g ∙ u ∙ ap signed v)
    ∙ ap₂ (λ m n. is_newer (signed (field_at s 96 8)) m (signed (field_at t 96 8)) n) k l
