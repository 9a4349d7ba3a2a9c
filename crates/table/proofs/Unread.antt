-- 01: "Bytes after slot N-1 are never read or written." Whatever stands behind the last slot, an offer is answered the
-- same and it stays.
use Rattle.std.specs.Prelude.{Some}
use mathlib.Core.Path.{◌≡◌, refl, sym, ap, ap₂, ◌∙◌}
use mathlib.Core.Bool.{Bool, true, false, cond}
use mathlib.Core.List.{List, [], ◌∷◌, ◌++◌, map}
use Prim.Native.Nat.{ℕ, zero, suc, ◌+◌, ◌-◌, ◌*◌, ◌≤◌}
use native.Mathlib.Omega.{arith}
use lib.ListN.{length, take, drop, set, length-append, length-drop, length-set}
use lib.Seq.{sets, take-append-le, drop-append-le, set-append_left}
use Rattle.wire.specs.Put.{put}
use Rattle.wire.specs.Field.{le, le_bytes, field_at}
use Rattle.wire.proofs.Laws.{length_put}
use Rattle.wire.proofs.Fields.{length_le_bytes}
use Rattle.text.specs.Event.{all}
use Rattle.law.specs.Lists.{find}
use Rattle.table.specs.Cells.{cells}
use Rattle.law.specs.Table.{has_id, has_key, verdict}
use Rattle.table.specs.Layout.{header_size, slot_size, table_size, slot_place, count_place, capacity_of, count_of}
use Rattle.table.specs.Layout.{slot_size_of, first_slot_of, held_slots, later_slots, slot_bytes}
use Rattle.table.specs.Events.{signed_events, in_slot, of_held, view}
use Rattle.table.specs.Sound.{slot_sound, slots_sound, none_twice, no_id_twice, no_key_twice, is_zero, later_zero, sound}
use Rattle.table.specs.Offer.{Offering, offering_refusal, is_valid, offered_of, offered_by, answer, is_stored, slot_for}
use Rattle.table.specs.Offer.{count_after, stored_in, next}
use Rattle.table.proofs.Slots.{slot_length}
use Rattle.table.specs.Claims.{NeverRead}
use Rattle.table.proofs.Bytes.{Clauses, clauses, is_sound}
use Rattle.table.proofs.Faithful.{answer_invalid, answer_unsound, answer_valid, stores_if, fits, leaves}

-- ---- lists with more behind them
field_append : (b t : List ℕ) (i k : ℕ) → i + k ≤ length b → field_at (b ++ t) i k ≡ field_at b i k
unfolding field_at
field_append b t i k h =
    ap (λ l. le (take k l)) (drop-append-le i b t (omega arith)) ∙ ap le (take-append-le k (drop i b) t (omega (arith, length-drop i b)))

cells_append : (size n : ℕ) (d t : List ℕ) → n * size ≤ length d → cells size n (d ++ t) ≡ cells size n d
cells_append size zero d t h = refl
cells_append size (suc n) d t h =
    ap₂ (λ x y. x ∷ cells size n y) (take-append-le size d t (omega arith)) (drop-append-le size d t (omega arith))
    ∙ ap (take size d ∷◌) (cells_append size n (drop size d) t (omega (arith, length-drop size d)))

put_append : (d t : List ℕ) (at : ℕ) (s : List ℕ) → at + length s ≤ length d → put (d ++ t) at s ≡ put d at s ++ t
unfolding put
put_append d t at [] h = refl
put_append d t at (x ∷ s) h =
    ap (λ l. sets l (suc at) s) (set-append_left d t at x (omega arith)) ∙ put_append (set d at x) t (suc at) s (omega (arith, length-set d at x))

same_test : (x y : Bool) → (x ≡ true → y ≡ true) → (y ≡ true → x ≡ true) → x ≡ y
same_test true y f g = sym (f refl)
same_test false true f g = g refl
same_test false false f g = refl

-- ---- a table with bytes behind its last slot
module _ (b t : List ℕ) (full : length b ≡ table_size (capacity_of b)) where
  capacity_append : capacity_of (b ++ t) ≡ capacity_of b
  unfolding capacity_of
  capacity_append = field_append b t 0 4 (omega arith)

  pub count_append : count_of (b ++ t) ≡ count_of b
  unfolding count_of
  count_append = field_append b t count_place 4 (omega arith)

  size_append : slot_size_of (b ++ t) ≡ slot_size_of b
  unfolding slot_size_of
  size_append = field_append b t 8 4 (omega arith)

  first_append : first_slot_of (b ++ t) ≡ first_slot_of b
  unfolding first_slot_of
  first_append = field_append b t 12 4 (omega arith)

  module _ (few : count_of b ≤ capacity_of b) where
    slots_append : held_slots (b ++ t) ≡ held_slots b
    slots_append =
        ap₂ (cells slot_size) count_append (drop-append-le header_size b t (omega arith))
        ∙ cells_append slot_size (count_of b) (drop header_size b) t (omega (arith, length-drop header_size b))

    view_append : view (b ++ t) ≡ view b
    unfolding view
    view_append = ap (map in_slot) slots_append

    later_append : later_slots (b ++ t) ≡ later_slots b
    later_append =
        let n : ℕ = (capacity_of b - count_of b) * slot_size in
        let at : ℕ = slot_place (count_of b) in
        ap₂ (λ N C. take ((N - C) * slot_size) (drop (slot_place C) (b ++ t))) capacity_append count_append
        ∙ ap (take n) (drop-append-le at b t (omega arith))
        ∙ take-append-le n (drop at b) t (omega (arith, length-drop at b))

  pub sound_append : sound (b ++ t) ≡ sound b
  unfolding slots_sound no_id_twice no_key_twice later_zero
  sound_append = same_test (sound (b ++ t)) (sound b) (λ e. is_sound b (to (clauses (b ++ t) e))) (λ e. is_sound (b ++ t) (from (clauses b e)))
    where
      to : Clauses (b ++ t) → Clauses b
      to c =
          let few : count_of b ≤ capacity_of b = rw (← count_append, ← capacity_append) c.count in
          record {
            header = omega arith;
            low = rw (← capacity_append) c.low;
            high = rw (← capacity_append) c.high;
            fit = omega arith;
            count = few;
            size = sym size_append ∙ c.size;
            first = sym first_append ∙ c.first;
            slots = ap (all slot_sound) (sym (slots_append few)) ∙ c.slots;
            ids = ap (none_twice (has_id signed_events)) (sym (view_append few)) ∙ c.ids;
            keys = ap (none_twice (has_key signed_events)) (sym (view_append few)) ∙ c.keys;
            later = ap is_zero (sym (later_append few)) ∙ c.later;
          }

      from : Clauses b → Clauses (b ++ t)
      from c = record {
        header = omega (arith, length-append b t);
        low = rw capacity_append c.low;
        high = rw capacity_append c.high;
        fit = rw capacity_append (omega (arith, length-append b t));
        count = rw (count_append, capacity_append) c.count;
        size = size_append ∙ c.size;
        first = first_append ∙ c.first;
        slots = ap (all slot_sound) (slots_append c.count) ∙ c.slots;
        ids = ap (none_twice (has_id signed_events)) (view_append c.count) ∙ c.ids;
        keys = ap (none_twice (has_key signed_events)) (view_append c.count) ∙ c.keys;
        later = ap is_zero (later_append c.count) ∙ c.later;
      }

  module _ (o : Offering) where
    answer_append : answer (b ++ t) o ≡ answer b o
    answer_append = go (is_valid o) (sound b) refl refl
      where
        go : (u s : Bool) → is_valid o ≡ u → sound b ≡ s → answer (b ++ t) o ≡ answer b o
        go false s p q = answer_invalid (b ++ t) o p ∙ sym (answer_invalid b o p)
        go true false p q = answer_unsound (b ++ t) o p (sound_append ∙ q) ∙ sym (answer_unsound b o p q)
        go true true p q =
            answer_valid (b ++ t) o p (sound_append ∙ q)
            ∙ ap₂ (λ N v. offered_by (offering_refusal o) (verdict signed_events N v (Some (of_held (offered_of o))))) capacity_append (view_append (clauses b q).count)
            ∙ sym (answer_valid b o p q)

    stored_append : is_stored (answer b o) ≡ true → stored_in (b ++ t) (offered_of o) ≡ stored_in b (offered_of o) ++ t
    unfolding stored_in slot_for
    stored_append e =
        let h = offered_of o in
        let s = stores_if b o e in
        let c = clauses b s.is_sound in
        let k = slot_for b h in
        let inside = (leaves b o s).inside in
        let l = slot_length h (fits b o s) in
        let w = slot_bytes h in
        let n = le_bytes 4 (count_after b k) in
        let place : slot_for (b ++ t) h ≡ k = ap (find (has_key signed_events (of_held h))) (view_append c.count) in
        let count : count_after (b ++ t) (slot_for (b ++ t) h) ≡ count_after b k = rw (place, count_append) in
        ap₂ (λ i m. put (put (b ++ t) (slot_place i) w) count_place (le_bytes 4 m)) place count
        ∙ ap (λ d. put d count_place n) (put_append b t (slot_place k) w (omega arith))
        ∙ put_append (put b (slot_place k) w) t count_place n (omega (arith, length_put b (slot_place k) w, length_le_bytes 4 (count_after b k)))

    next_append : next (b ++ t) o ≡ next b o ++ t
    unfolding next
    next_append = ap (λ a. cond (is_stored a) (stored_in (b ++ t) (offered_of o)) (b ++ t)) answer_append ∙ go (is_stored (answer b o)) refl
      where
        go : (u : Bool) → is_stored (answer b o) ≡ u → cond u (stored_in (b ++ t) (offered_of o)) (b ++ t) ≡ cond u (stored_in b (offered_of o)) b ++ t
        go true e = stored_append e
        go false e = refl

pub never_read : NeverRead
never_read b t o full = (answer_append b t full o, next_append b t full o)
