-- The store: a law for each way out. The slot's part of the table came back as its bytes, and the count was put after
-- it.
use Rattle.std.specs.Prelude.{Result, Ok, Err}
use mathlib.Core.Path.{◌≡◌, refl, sym, ap, ap₂, ◌∙◌}
use mathlib.Core.Bool.{Bool, true, false, cond, not, ◌&&◌, false≢true}
use mathlib.Core.List.{List, ◌++◌, append_assoc}
use Prim.Native.Nat.{ℕ, ◌+◌, ◌-◌, ◌≤◌, ◌<◌}
use native.Mathlib.Omega.{arith}
use lib.Dec.{leb, ltb}
use lib.ListN.{length, take, drop}
use lib.Seq.{sets-eq, drop-drop}
use borrow.Rule.Slice.PartMut.{put_mid}
use borrow.Author.Tests.{ltb-true, leb-false}
use Rattle.wire.specs.Limits.{most_slots}
use Rattle.wire.specs.Field.{field_at, le_bytes}
use Rattle.wire.specs.Put.{put, Puts}
use Rattle.shape.specs.Offsets.{plain_refusal}
use Rattle.shape.specs.declared.Refusal.{Refusal}
use Rattle.text.specs.Kinds.{is_ephemeral}
use Rattle.law.specs.Lists.{any}
use Rattle.law.specs.Table.{has_id, has_key, first_verdict}
use Rattle.table.specs.Layout.{slot_size, slot_place, count_place, capacity_of, count_of, kind_in}
use Rattle.table.specs.Events.{signed_events, in_slot, view}
use Rattle.table.specs.Sound.{sound}
use Rattle.table.specs.Offer.{offered_by, is_stored}
use Rattle.table.specs.declared.Offered.{Offered}
use Rattle.table.specs.declared.Offered.TheVariants.{Stored}
use Rattle.table.proofs.Bytes.{clauses}
use Rattle.table.proofs.Stored.{length_view}
use Rattle.offers.specs.Inner.{New, answer_for, offered_to, slot_of, DecidedAs, Decides, HasRoom, count_from}
use Rattle.offers.specs.Inner.{stored_for, offered_next}
use Rattle.offers.specs.declared.Decided.{Decided}
use Rattle.offers.specs.declared.Decided.TheVariants.{Fills, Answered}
use Rattle.offers.proofs.First.{find_most}
use Rattle.offers.proofs.Held.{keys}
use Rattle.offers.proofs.Verdicts.{newer_held, lacks, by_class}

-- a part that was lent and came back as s
pub lent_put : (d : List ℕ) (a k : ℕ) (s : List ℕ) → length s ≡ k → a + k ≤ length d → take a d ++ (s ++ drop k (drop a d)) ≡ put d a s
unfolding put
lent_put d a k s e h =
    let h' : a + length s ≤ length d = omega arith in
    sym (sets-eq s d a h' ∙ append_assoc (take a d) s (drop (a + length s) d)
    ∙ ap (λ (l : List ℕ). take a d ++ (s ++ l)) (ap (λ (j : ℕ). drop (a + j) d) e ∙ sym (drop-drop k a d)))

stored_means : (a i n l : Bool) → is_stored (offered_by (plain_refusal 0) (first_verdict a i n l)) ≡ true → (a ≡ false) × (l ≡ false)
stored_means true i n l e = absurd (false≢true e)
stored_means false true n l e = absurd (false≢true e)
stored_means false false true l e = absurd (false≢true e)
stored_means false false false true e = absurd (false≢true e)
stored_means false false false false e = (refl, refl)

-- what is stored is stored in a sound table
pub room_sound : (b s : List ℕ) → HasRoom b s → (sound b ≡ true) × (is_stored (answer_for b s) ≡ true)
unfolding offered_to
room_sound b s h = go (sound b) refl h.stored
  where
    go : (t : Bool) → sound b ≡ t → is_stored (cond t (answer_for b s) (Err (plain_refusal 11))) ≡ true → (sound b ≡ true) × (is_stored (answer_for b s) ≡ true)
    go true e q = (e, q)
    go false e q = absurd (false≢true q)

module _ (b s : List ℕ) (n : New s) (h : HasRoom b s) where
  g : sound b ≡ true
  g = (room_sound b s h).0

  means : (is_ephemeral (kind_in s) ≡ false) × (lacks b s ≡ false)
  means =
      stored_means (is_ephemeral (kind_in s)) (any (has_id signed_events (in_slot s)) (view b)) (newer_held b s) (lacks b s)
      (sym (ap is_stored (by_class b s g n)) ∙ (room_sound b s h).1)

  at_most : slot_of b s ≤ count_of b
  unfolding slot_of
  at_most = omega (arith, find_most (has_key signed_events (in_slot s)) (view b), length_view b)

  room : slot_of b s < capacity_of b
  room =
      let e : (not (ltb (slot_of b s) (count_of b)) && leb (capacity_of b) (count_of b)) ≡ false
      = ap₂ (λ t m. not t && leb (capacity_of b) m) (sym (keys b s g (n.ok means.0))) (sym (length_view b)) ∙ means.1 in
      go (ltb (slot_of b s) (count_of b)) refl e
    where
      go : (t : Bool) → ltb (slot_of b s) (count_of b) ≡ t → (not t && leb (capacity_of b) (count_of b)) ≡ false → slot_of b s < capacity_of b
      go true q e = omega (arith, ltb-true (slot_of b s) (count_of b) q, (clauses b g).count)
      go false q e = omega (arith, leb-false (capacity_of b) (count_of b) e, at_most)

  module _ {k : ℕ} (o : k ≡ slot_of b s) where
    pub fits : (k < most_slots) × (slot_place k + slot_size ≤ length b)
    fits =
        let q = clauses b g in
        let r : k < capacity_of b = omega (arith, o, room) in
        let f = q.fit in
        let t = q.high in
        (omega arith, omega arith)

    module _ {c : ℕ} (l : c ≡ field_at b 4 4) where
      count_is : c ≡ count_of b
      unfolding count_of
      count_is = l

      pub count_few : c ≤ most_slots
      count_few = let q = clauses b g in omega (arith, count_is, q.count, q.high)

      pub stored_is : {y p : List ℕ} {m r : ℕ} → y ≡ s → m ≡ count_from c k
          → Puts (put_mid (slot_place k) (slot_place k + slot_size - slot_place k) b y) count_place (le_bytes 4 m) r p → p ≡ stored_for b s
      unfolding stored_for
      stored_is {y} {p} {m} {r} e f u =
          let z : slot_place k + slot_size - slot_place k ≡ slot_size = omega arith in
          let w : put_mid (slot_place k) (slot_place k + slot_size - slot_place k) b y ≡ put b (slot_place k) s
          = rw (z, e) (lent_put b (slot_place k) slot_size s n.long fits.1) in
          u.bytes
          ∙ ap₂ (λ x v. put x count_place (le_bytes 4 v)) w f
          ∙ ap₂ (λ j i. put (put b (slot_place j) s) count_place (le_bytes 4 (count_from i j))) o count_is

-- ---- an offer to a table that is sound or not
module _ (b s : List ℕ) {x : Bool} (f : x ≡ sound b) where
  pub not_sound : x ≡ false → {y : Refusal} → y ≡ plain_refusal 11 → Decides b s (offered_to b s) (Answered (Err y))
  unfolding offered_to
  not_sound e h = record { is = (ap Err h ∙ sym (ap (λ t. cond t (answer_for b s) (Err (plain_refusal 11))) (sym f ∙ e)), refl) }

  pub is_judged : {d : Decided} → x ≡ true → Decides b s (answer_for b s) d → Decides b s (offered_to b s) d
  unfolding offered_to
  is_judged e j = rw (sym f ∙ e) j

-- ---- what was decided of an offer
module _ (b s : List ℕ) {d : Decided} (j : Decides b s (offered_to b s) d) where
  pub skipped : {a : Result Offered Refusal} → d ≡ Answered a → (a ≡ offered_to b s) × (b ≡ offered_next b s)
  unfolding offered_next
  skipped {a} e =
      let (f, n) : DecidedAs b s (offered_to b s) (Answered a) = rw e at j.is in
      (f, sym (ap (λ t. cond t (stored_for b s) b) (sym (ap is_stored f) ∙ n)))

  module _ {k : ℕ} (e : d ≡ Fills k) where
    pub fills : (Ok Stored ≡ offered_to b s) × (k ≡ slot_of b s)
    fills = let h : DecidedAs b s (offered_to b s) (Fills k) = rw e at j.is in h

    pub has_room : HasRoom b s × (k ≡ slot_of b s)
    has_room = (record { stored = sym (ap is_stored fills.0) }, fills.1)

    pub filled : {o : List ℕ} → o ≡ stored_for b s → (Ok Stored ≡ offered_to b s) × (o ≡ offered_next b s)
    unfolding offered_next
    filled z = (fills.0, z ∙ sym (ap (λ t. cond t (stored_for b s) b) (sym (ap is_stored fills.0))))
