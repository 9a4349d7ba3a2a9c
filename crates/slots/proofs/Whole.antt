-- The header and the whole table: a law for each way out of the code that tests them.
use mathlib.Core.Path.{◌≡◌, refl, sym, ap, ap₂, ◌∙◌}
use mathlib.Core.Bool.{Bool, true, false, ◌&&◌, and_assoc, and_comm}
use mathlib.Core.Logic.{◌⊎◌, inl, inr}
use mathlib.Core.List.{List}
use Prim.Native.Nat.{ℕ, ◌+◌, ◌-◌, ◌*◌, ◌≤◌, ◌<◌}
use native.Mathlib.Omega.{arith}
use lib.Dec.{eqb, leb}
use lib.ListN.{length}
use borrow.Author.Tests.{leb-true, le-leb, lt-leb, eq-eqb, ne_eqb}
use Rattle.wire.specs.Bytes.{part}
use Rattle.wire.specs.Limits.{most_slots}
use Rattle.wire.specs.Field.{field_at}
use Rattle.text.specs.Event.{all}
use Rattle.text.proofs.Pieces.{both}
use Rattle.table.specs.Layout.{header_size, slot_size, table_size, capacity_of, count_of, slot_size_of, first_slot_of}
use Rattle.table.specs.Sound.{is_zero, has_header, capacity_fits, slots_fit, count_fits, others_as_above, slot_sound}
use Rattle.table.specs.Sound.{slots_sound, no_id_twice, no_key_twice, later_zero, none_twice, sound_up_to, sound}
use Rattle.slots.specs.Slots.{clash, slots_from, header_sound}
use Rattle.slots.proofs.Keys.{apart_is}

-- ---- the header
module _ (b : List ℕ) where
  pub no_header : length b < 16 → false ≡ header_sound b
  unfolding header_sound has_header
  no_header h = sym (rw (lt-leb header_size (length b) h))

  module _ {n : ℕ} (l : 16 ≤ length b) (a : n ≡ field_at b 0 4) where
    pub outside : (n < 1) ⊎ (most_slots < n) → false ≡ header_sound b
    unfolding header_sound has_header capacity_fits capacity_of
    outside (inl h) = sym (rw (le-leb header_size (length b) l, ← a, lt-leb 1 n h))
    outside (inr h) = sym (rw (le-leb header_size (length b) l, ← a, lt-leb n most_slots h, and_comm (leb 1 n) false))

    module _ (g : 1 ≤ n) (h : n ≤ most_slots) where
      pub cut_off : length b < 16 + n * 4208 → false ≡ header_sound b
      unfolding header_sound has_header capacity_fits slots_fit capacity_of
      cut_off k = sym (rw (le-leb header_size (length b) l, ← a, le-leb 1 n g, le-leb n most_slots h, lt-leb (table_size n) (length b) k))

      module _ {c : ℕ} (k : 16 + n * 4208 ≤ length b) (d : c ≡ field_at b 4 4) where
        pub too_full : n < c → false ≡ header_sound b
        unfolding header_sound has_header capacity_fits slots_fit count_fits capacity_of count_of
        too_full q =
            sym (rw (le-leb header_size (length b) l, ← a, ← d, le-leb 1 n g, le-leb n most_slots h, le-leb (table_size n) (length b) k, lt-leb c n q))

        module _ {z : ℕ} (q : c ≤ n) (e : z ≡ field_at b 8 4) where
          pub other_size : (z ≡ 4208 → ⊥) → false ≡ header_sound b
          unfolding header_sound has_header capacity_fits slots_fit count_fits others_as_above capacity_of count_of slot_size_of
          other_size o =
              sym
              (rw (le-leb header_size (length b) l, ← a, ← d, ← e, le-leb 1 n g, le-leb n most_slots h, le-leb (table_size n) (length b) k, le-leb c n q, ne_eqb z slot_size o))

          pub first_decides : {f : ℕ} → z ≡ 4208 → f ≡ field_at b 12 4 → eqb f 16 ≡ header_sound b
          unfolding header_sound has_header capacity_fits slots_fit count_fits others_as_above capacity_of count_of slot_size_of first_slot_of
          first_decides o i =
              sym
              (rw (le-leb header_size (length b) l, ← a, ← d, ← e, ← i, le-leb 1 n g, le-leb n most_slots h, le-leb (table_size n) (length b) k, le-leb c n q, eq-eqb z slot_size o))

-- ---- the whole table
grouped : (a b c d e r : Bool) → (a && (b && (c && (d && (e && r))))) ≡ ((a && (b && (c && (d && e)))) && r)
grouped true true true true e r = refl
grouped true true true false e r = refl
grouped true true false d e r = refl
grouped true false c d e r = refl
grouped false b c d e r = refl

module _ (b : List ℕ) where
  by_header : sound b ≡ (header_sound b && (slots_sound b && (no_id_twice b && (no_key_twice b && later_zero b))))
  unfolding sound sound_up_to header_sound
  by_header =
      grouped (has_header b) (capacity_fits most_slots b) (slots_fit b) (count_fits b) (others_as_above b)
      (slots_sound b && (no_id_twice b && (no_key_twice b && later_zero b)))

  module _ {x : Bool} (h : x ≡ header_sound b) where
    pub header_bad : x ≡ false → false ≡ sound b
    header_bad e = sym (by_header ∙ ap (◌&& (slots_sound b && (no_id_twice b && (no_key_twice b && later_zero b)))) (sym h ∙ e))

    module _ (e : x ≡ true) where
      after_header : sound b ≡ (slots_sound b && (no_id_twice b && (no_key_twice b && later_zero b)))
      after_header = by_header ∙ ap (◌&& (slots_sound b && (no_id_twice b && (no_key_twice b && later_zero b)))) (sym h ∙ e)

      pub few : {n c : ℕ} → n ≡ field_at b 0 4 → c ≡ field_at b 4 4 → (c ≤ n) × (n ≤ most_slots) × (16 + n * 4208 ≤ length b)
      unfolding header_sound capacity_fits slots_fit count_fits capacity_of count_of
      few p q =
          let a = (both (has_header b) _ (sym h ∙ e)).1 in
          let d = both (capacity_fits most_slots b) _ a in
          let f = both (slots_fit b) _ d.1 in
          let g = both (count_fits b) _ f.1 in
          let i = both (leb 1 (capacity_of b)) (leb (capacity_of b) most_slots) d.0 in
          (omega (arith, leb-true (count_of b) (capacity_of b) g.0), omega (arith, leb-true (capacity_of b) most_slots i.1), omega (arith, leb-true (table_size (capacity_of b)) (length b) f.0))

      module _ {c : ℕ} (p : c ≡ field_at b 4 4) {y : Bool} (k : y ≡ all slot_sound (slots_from b 0 c)) where
        slots_are : y ≡ slots_sound b
        unfolding slots_sound slots_from count_of
        slots_are = k ∙ ap (λ n. all slot_sound (slots_from b 0 n)) p

        pub slots_bad : y ≡ false → false ≡ sound b
        slots_bad f = sym (after_header ∙ ap (◌&& (no_id_twice b && (no_key_twice b && later_zero b))) (sym slots_are ∙ f))

        module _ (f : y ≡ true) {z : Bool} (g : z ≡ none_twice clash (slots_from b 0 c)) where
          apart_are : z ≡ (no_id_twice b && no_key_twice b)
          unfolding count_of
          apart_are = g ∙ ap (λ n. none_twice clash (slots_from b 0 n)) p ∙ sym (apart_is b (sym slots_are ∙ f))

          after_slots : sound b ≡ (z && later_zero b)
          after_slots = after_header ∙ ap (◌&& (no_id_twice b && (no_key_twice b && later_zero b))) (sym slots_are ∙ f)
              ∙ sym (and_assoc (no_id_twice b) (no_key_twice b) (later_zero b)) ∙ ap (◌&& later_zero b) (sym apart_are)

          pub twice_held : z ≡ false → false ≡ sound b
          twice_held q = sym (after_slots ∙ ap (◌&& later_zero b) q)

          pub later_decides : {n : ℕ} {w : List ℕ} {u : Bool} → z ≡ true → n ≡ field_at b 0 4 → w ≡ part b (16 + c * 4208) ((n - c) * 4208)
              → u ≡ is_zero w → u ≡ sound b
          unfolding later_zero capacity_of count_of
          later_decides {n} {w} {u} q i j v =
              v ∙ ap is_zero (j ∙ ap₂ (λ x y. part b (16 + x * 4208) ((y - x) * 4208)) p i) ∙ sym (after_slots ∙ ap (◌&& later_zero b) q)
