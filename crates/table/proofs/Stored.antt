-- An event stored in a sound table, over the slot with its key or behind the last one: what the table holds then, and
-- that it is sound.
use mathlib.Core.Path.{◌≡◌, refl, sym, ap, ap₂, ◌∙◌}
use mathlib.Core.Bool.{Bool, true, not}
use mathlib.Core.Logic.{◌⊎◌, inl, inr}
use mathlib.Core.List.{List, [], ◌∷◌, ◌++◌, map}
use Prim.Native.Nat.{ℕ, suc, ◌+◌, ◌-◌, ◌*◌, ◌≤◌, ◌<◌}
use native.Mathlib.Numerals.{add-one}
use native.Mathlib.Omega.{arith}
use lib.Dec.{T, eqb}
use lib.ListN.{length, take, drop, length-map, length-drop}
use lib.Seq.{sets, take-add, drop-drop}
use borrow.Author.Tests.{lt-ltb, le-ltb}
use Rattle.wire.specs.Limits.{most_slots}
use Rattle.text.specs.Event.{all}
use Rattle.law.specs.Lists.{any, store}
use Rattle.table.specs.Cells.{cells}
use Rattle.law.specs.Table.{has_key}
use Rattle.law.proofs.Lists.{find_lt, find_none}
use Rattle.law.proofs.Sound.{Distinct}
use Rattle.table.proofs.Cells.{length_cells, cells_over, cells_behind, stored_over, stored_behind}
use Rattle.table.specs.Layout.{Held, Fits, header_size, slot_size, slot_place, capacity_of, count_of, slot_size_of}
use Rattle.table.specs.Layout.{first_slot_of, held_slots, later_slots, slot_bytes}
use Rattle.table.specs.Events.{SignedEvent, signed_events, in_slot, of_held, view}
use Rattle.table.specs.Sound.{slot_sound, slots_sound, is_zero, later_zero, sound}
use Rattle.table.specs.Offer.{slot_for, count_after, stored_in}
use Rattle.table.proofs.Lists.{all_set, all_append, all_one, all_behind}
use Rattle.table.proofs.Distinct.{distinct_ids, distinct_keys}
use Rattle.table.proofs.Slots.{slot_length, slot_holds}
use Rattle.table.proofs.Bytes.{Clauses, is_sound, written, written_length_lem, written_capacity, written_count}
use Rattle.table.proofs.Bytes.{written_size, written_first, written_slots, written_after}

pub length_view : (b : List ℕ) → length (view b) ≡ count_of b
unfolding view
length_view b = length-map (held_slots b) in_slot ∙ length_cells slot_size (count_of b) (drop header_size b)

module _ (b : List ℕ) (h : Held) where
  abbrev pub shares : SignedEvent → Bool
  shares = has_key signed_events (of_held h)

  -- a held slot has its key, or one is left
  abbrev pub HasSlot : Type 0
  HasSlot = T (any shares (view b)) ⊎ (T (not (any shares (view b))) × (count_of b < capacity_of b))

  pub stored_length : length (stored_in b h) ≡ length b
  unfolding stored_in
  stored_length = written_length_lem b (slot_for b h) (count_after b (slot_for b h)) (slot_bytes h)

  pub stored_capacity : capacity_of (stored_in b h) ≡ capacity_of b
  unfolding stored_in
  stored_capacity = written_capacity b (slot_for b h) (count_after b (slot_for b h)) (slot_bytes h)

  stored_size : slot_size_of (stored_in b h) ≡ slot_size_of b
  unfolding stored_in
  stored_size = written_size b (slot_for b h) (count_after b (slot_for b h)) (slot_bytes h)

  stored_first : first_slot_of (stored_in b h) ≡ first_slot_of b
  unfolding stored_in
  stored_first = written_first b (slot_for b h) (count_after b (slot_for b h)) (slot_bytes h)

  -- the slot and the count that are written
  pub record Fills (k n : ℕ) : Type 0 where
    pub place : slot_for b h ≡ k
    pub count : count_after b (slot_for b h) ≡ n

  pub fills_over : T (any shares (view b)) → (slot_for b h < count_of b) × Fills (slot_for b h) (count_of b)
  unfolding slot_for
  fills_over t =
      let i : slot_for b h < count_of b = omega (arith, find_lt shares (view b) t, length_view b) in
      (i, record { place = refl; count = rw (lt-ltb (slot_for b h) (count_of b) i) })

  pub fills_behind : T (not (any shares (view b))) → Fills (count_of b) (suc (count_of b))
  unfolding slot_for
  fills_behind t =
      let e : slot_for b h ≡ count_of b = find_none shares (view b) t ∙ length_view b in
      record { place = e; count = rw (le-ltb (slot_for b h) (count_of b) (omega arith), add-one) }

  module _ (c : Clauses b) (f : Fits h) where
    module _ (k n : ℕ) (p : Fills k n) (small : n ≤ most_slots) where
      is_written : stored_in b h ≡ written b k n (slot_bytes h)
      unfolding stored_in
      is_written = rw (p.count, p.place)

      is_count : count_of (stored_in b h) ≡ n
      is_count = ap count_of is_written ∙ written_count b k n (slot_bytes h) c.header small

      is_slots : held_slots (stored_in b h) ≡ cells slot_size n (sets (drop header_size b) (k * slot_size) (slot_bytes h))
      is_slots = ap₂ (cells slot_size) is_count (ap (drop header_size) is_written ∙ written_slots b k n (slot_bytes h))

      -- what stands behind the slot that is written
      is_later : k < n → later_slots (stored_in b h) ≡ take ((capacity_of b - n) * slot_size) (drop (slot_place n) b)
      is_later l =
          ap₂ (λ N C. take ((N - C) * slot_size) (drop (slot_place C) (stored_in b h))) stored_capacity is_count
          ∙ ap (λ d. take ((capacity_of b - n) * slot_size) (drop (slot_place n) d)) is_written
          ∙ ap (take ((capacity_of b - n) * slot_size)) (written_after b k n (slot_bytes h) (slot_place n) (omega (arith, slot_length h f)))

    -- what a store leaves
    pub record After : Type 0 where
      pub inside : slot_for b h < capacity_of b
      pub count : count_of (stored_in b h) ≤ capacity_of b
      pub holds : view (stored_in b h) ≡ store shares (of_held h) (view b)
      pub slots : slot_sound (slot_bytes h) ≡ true → slots_sound (stored_in b h) ≡ true
      pub later : later_zero (stored_in b h) ≡ true

    after_over : T (any shares (view b)) → After
    unfolding view slot_for slots_sound later_zero
    after_over t =
        let (i, p) = fills_over t in
        let small : count_of b ≤ most_slots = omega (arith, c.count, c.high) in
        let room : count_of b * slot_size ≤ length (drop header_size b) = omega (arith, c.count, c.fit, length-drop header_size b) in
        let s = is_slots (slot_for b h) (count_of b) p small in
        record {
          inside = omega (arith, c.count);
          count = omega (arith, is_count (slot_for b h) (count_of b) p small, c.count);
          holds =
              ap (map in_slot) s
              ∙ stored_over slot_size in_slot shares (slot_bytes h) (slot_length h f) (count_of b) (drop header_size b) room t
              ∙ ap (λ x. store shares x (view b)) (slot_holds h f);
          slots = λ e. ap (all slot_sound) (s ∙ cells_over slot_size (slot_bytes h) (slot_length h f) (count_of b) (slot_for b h) (drop header_size b) i room)
              ∙ all_set slot_sound (held_slots b) (slot_for b h) (slot_bytes h) c.slots e;
          later = ap is_zero (is_later (slot_for b h) (count_of b) p small i) ∙ c.later;
        }

    -- the later slots are the new one and those that stay
    after_behind : T (not (any shares (view b))) → count_of b < capacity_of b → After
    unfolding view slot_for slots_sound later_zero
    after_behind t l =
        let p = fills_behind t in
        let n : ℕ = suc (count_of b) in
        let small : n ≤ most_slots = omega (arith, c.high) in
        let room : n * slot_size ≤ length (drop header_size b) = omega (arith, c.fit, length-drop header_size b) in
        let s = is_slots (count_of b) n p small in
        let next : slot_place (count_of b) + slot_size ≡ slot_place n = omega arith in
        let more : (capacity_of b - count_of b) * slot_size ≡ slot_size + (capacity_of b - n) * slot_size = omega arith in
        let split : later_slots b ≡ take slot_size (drop (slot_place (count_of b)) b) ++ take ((capacity_of b - n) * slot_size) (drop (slot_place n) b) =
        ap (λ m. take m (drop (slot_place (count_of b)) b)) more
        ∙ take-add slot_size ((capacity_of b - n) * slot_size) (drop (slot_place (count_of b)) b)
        ∙ ap (λ d. take slot_size (drop (slot_place (count_of b)) b) ++ take ((capacity_of b - n) * slot_size) d)
        (drop-drop slot_size (slot_place (count_of b)) b ∙ ap (λ m. drop m b) next)
        in
        record {
          inside = omega (arith, p.place);
          count = omega (arith, is_count (count_of b) n p small);
          holds =
              ap (map in_slot) s
              ∙ stored_behind slot_size in_slot shares (slot_bytes h) (slot_length h f) (count_of b) (drop header_size b) room t
              ∙ ap (λ x. store shares x (view b)) (slot_holds h f);
          slots = λ e. ap (all slot_sound) (s ∙ cells_behind slot_size (slot_bytes h) (slot_length h f) (count_of b) (drop header_size b) room)
              ∙ all_append slot_sound (held_slots b) (slot_bytes h ∷ []) c.slots (all_one slot_sound (slot_bytes h) e);
          later =
              ap is_zero (is_later (count_of b) n p small (omega arith))
              ∙ all_behind (eqb 0) (take slot_size (drop (slot_place (count_of b)) b)) (take ((capacity_of b - n) * slot_size) (drop (slot_place n) b))
              (ap is_zero (sym split) ∙ c.later);
        }

    pub after_store : HasSlot → After
    after_store (inl t) = after_over t
    after_store (inr (t, l)) = after_behind t l

    pub stored_sound : After → slot_sound (slot_bytes h) ≡ true → Distinct signed_events (store shares (of_held h) (view b)) → sound (stored_in b h) ≡ true
    stored_sound a e d =
        let u : Distinct signed_events (view (stored_in b h)) = rw a.holds d in
        is_sound (stored_in b h) (record {
          header = rw stored_length c.header;
          low = rw stored_capacity c.low;
          high = rw stored_capacity c.high;
          fit = rw (stored_capacity, stored_length) c.fit;
          count = rw stored_capacity a.count;
          size = stored_size ∙ c.size;
          first = stored_first ∙ c.first;
          slots = a.slots e;
          ids = distinct_ids (stored_in b h) u;
          keys = distinct_keys (stored_in b h) u;
          later = a.later;
        })
