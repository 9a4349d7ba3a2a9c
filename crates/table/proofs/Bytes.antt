-- A slot and the count written into a table: what the header says, where the slots stand, and what every other byte
-- keeps.
use mathlib.Core.Path.{◌≡◌, sym, ap, ◌∙◌}
use mathlib.Core.Bool.{Bool, true, ◌&&◌}
use mathlib.Core.Logic.{◌⊎◌, inl, inr}
use mathlib.Core.List.{List}
use Prim.Native.Nat.{ℕ, ◌+◌, ◌*◌, ◌≤◌, ◌<◌}
use native.Mathlib.Nat.{add-zero}
use native.Mathlib.Omega.{arith}
use lib.Dec.{leb, eqb}
use lib.ListN.{length, get_or, drop}
use lib.Seq.{sets, get_or-take, get_or-drop}
use borrow.Author.Tests.{leb-true, le-leb, eqb-true, eq-eqb}
use Rattle.wire.specs.Limits.{most_slots}
use Rattle.wire.specs.Put.{put}
use Rattle.wire.specs.Field.{le_bytes, field_at}
use Rattle.wire.proofs.Laws.{length_put, take_put, drop_put}
use Rattle.wire.proofs.Fields.{length_le_bytes, field_put, field_before, field_after}
use Rattle.text.proofs.Pieces.{both}
use Rattle.table.proofs.Cells.{drop_sets}
use Rattle.table.specs.Layout.{header_size, slot_size, table_size, slot_place, count_place, capacity_of, count_of}
use Rattle.table.specs.Layout.{slot_size_of, first_slot_of}
use Rattle.table.specs.Sound.{has_header, capacity_fits, slots_fit, count_fits, others_as_above, slots_sound, no_id_twice}
use Rattle.table.specs.Sound.{no_key_twice, later_zero, sound_up_to, sound}

-- ---- soundness, clause by clause, of tables of up to `most` slots
pub record ClausesUpTo (most : ℕ) (b : List ℕ) : Type 0 where
  pub header : header_size ≤ length b
  pub low : 1 ≤ capacity_of b
  pub high : capacity_of b ≤ most
  pub fit : table_size (capacity_of b) ≤ length b
  pub count : count_of b ≤ capacity_of b
  pub size : slot_size_of b ≡ slot_size
  pub first : first_slot_of b ≡ header_size
  pub slots : slots_sound b ≡ true
  pub ids : no_id_twice b ≡ true
  pub keys : no_key_twice b ≡ true
  pub later : later_zero b ≡ true

module _ (most : ℕ) (b : List ℕ) where
  pub clauses_up_to : sound_up_to most b ≡ true → ClausesUpTo most b
  unfolding sound_up_to has_header capacity_fits slots_fit count_fits others_as_above
  clauses_up_to e =
      let from₈ : Bool = no_key_twice b && later_zero b in
      let from₇ : Bool = no_id_twice b && from₈ in
      let from₆ : Bool = slots_sound b && from₇ in
      let from₅ : Bool = others_as_above b && from₆ in
      let from₄ : Bool = count_fits b && from₅ in
      let from₃ : Bool = slots_fit b && from₄ in
      let c₁ = both (has_header b) (capacity_fits most b && from₃) e in
      let c₂ = both (capacity_fits most b) from₃ c₁.1 in
      let c₃ = both (slots_fit b) from₄ c₂.1 in
      let c₄ = both (count_fits b) from₅ c₃.1 in
      let c₅ = both (others_as_above b) from₆ c₄.1 in
      let c₆ = both (slots_sound b) from₇ c₅.1 in
      let c₇ = both (no_id_twice b) from₈ c₆.1 in
      let c₈ = both (no_key_twice b) (later_zero b) c₇.1 in
      let n = both (leb 1 (capacity_of b)) (leb (capacity_of b) most) c₂.0 in
      let o = both (eqb (slot_size_of b) slot_size) (eqb (first_slot_of b) header_size) c₅.0 in
      record {
        header = leb-true header_size (length b) c₁.0;
        low = leb-true 1 (capacity_of b) n.0;
        high = leb-true (capacity_of b) most n.1;
        fit = leb-true (table_size (capacity_of b)) (length b) c₃.0;
        count = leb-true (count_of b) (capacity_of b) c₄.0;
        size = eqb-true (slot_size_of b) slot_size o.0;
        first = eqb-true (first_slot_of b) header_size o.1;
        slots = c₆.0;
        ids = c₇.0;
        keys = c₈.0;
        later = c₈.1;
      }

  pub is_sound_up_to : ClausesUpTo most b → sound_up_to most b ≡ true
  unfolding sound_up_to has_header capacity_fits slots_fit count_fits others_as_above
  is_sound_up_to c = rw (
    le-leb header_size (length b) c.header,
    le-leb 1 (capacity_of b) c.low,
    le-leb (capacity_of b) most c.high,
    le-leb (table_size (capacity_of b)) (length b) c.fit,
    le-leb (count_of b) (capacity_of b) c.count,
    eq-eqb (slot_size_of b) slot_size c.size,
    eq-eqb (first_slot_of b) header_size c.first,
    c.slots,
    c.ids,
    c.keys,
    c.later,
  )

abbrev pub Clauses : List ℕ → Type 0
Clauses b = ClausesUpTo most_slots b

module _ (b : List ℕ) where
  pub clauses : sound b ≡ true → Clauses b
  unfolding sound
  clauses e = clauses_up_to most_slots b e

  pub is_sound : Clauses b → sound b ≡ true
  unfolding sound
  is_sound c = is_sound_up_to most_slots b c

-- ---- a byte that a put leaves
pub byte_put : (d : List ℕ) (at : ℕ) (s : List ℕ) (i : ℕ) → (i < at) ⊎ (at + length s ≤ i) → get_or (put d at s) i 0 ≡ get_or d i 0
byte_put d at s i (inl h) =
    sym (get_or-take at (put d at s) i 0 h) ∙ ap (λ (l : List ℕ). get_or l i 0) (take_put d at s at (omega arith)) ∙ get_or-take at d i 0 h
byte_put d at s i (inr h) = sym (from (put d at s)) ∙ ap (λ (l : List ℕ). get_or l 0 0) (drop_put d at s i h) ∙ from d
  where
    from : (l : List ℕ) → get_or (drop i l) 0 0 ≡ get_or l i 0
    from l = get_or-drop i l 0 0 ∙ ap (λ (j : ℕ). get_or l j 0) (add-zero i)

-- ---- the bytes w written to slot k, and the count n
abbrev pub written : (b : List ℕ) (k n : ℕ) (w : List ℕ) → List ℕ
written b k n w = put (put b (slot_place k) w) count_place (le_bytes 4 n)

module _ (b : List ℕ) (k n : ℕ) (w : List ℕ) where
  pub written_length_lem : length (written b k n w) ≡ length b
  written_length_lem = length_put (put b (slot_place k) w) count_place (le_bytes 4 n) ∙ length_put b (slot_place k) w

  -- the header: fields before the count, the count, and those behind it
  pub written_capacity : capacity_of (written b k n w) ≡ capacity_of b
  unfolding capacity_of
  written_capacity =
      field_before (put b (slot_place k) w) 0 4 count_place (le_bytes 4 n) (omega arith) ∙ field_before b 0 4 (slot_place k) w (omega arith)

  pub written_count : header_size ≤ length b → n ≤ most_slots → count_of (written b k n w) ≡ n
  unfolding count_of
  written_count h s =
      field_put (put b (slot_place k) w) count_place 4 n (omega (arith, length_put b (slot_place k) w)) (omega arith)

  behind_count : (i : ℕ) → 8 ≤ i → i + 4 ≤ header_size → field_at (written b k n w) i 4 ≡ field_at b i 4
  behind_count i h s =
      field_after (put b (slot_place k) w) i 4 count_place (le_bytes 4 n) (omega (arith, length_le_bytes 4 n))
      ∙ field_before b i 4 (slot_place k) w (omega arith)

  pub written_size : slot_size_of (written b k n w) ≡ slot_size_of b
  unfolding slot_size_of
  written_size = behind_count 8 (omega arith) (omega arith)

  pub written_first : first_slot_of (written b k n w) ≡ first_slot_of b
  unfolding first_slot_of
  written_first = behind_count 12 (omega arith) (omega arith)

  -- the slots: the count stands before them
  pub written_slots : drop header_size (written b k n w) ≡ sets (drop header_size b) (k * slot_size) w
  unfolding put
  written_slots =
      drop_put (put b (slot_place k) w) count_place (le_bytes 4 n) header_size (omega (arith, length_le_bytes 4 n))
      ∙ drop_sets header_size b (k * slot_size) w

  pub written_after : (m : ℕ) → slot_place k + length w ≤ m → drop m (written b k n w) ≡ drop m b
  written_after m h =
      drop_put (put b (slot_place k) w) count_place (le_bytes 4 n) m (omega (arith, length_le_bytes 4 n)) ∙ drop_put b (slot_place k) w m h

  pub written_byte : (i : ℕ) → (i < 4) ⊎ (8 ≤ i) → (i < slot_place k) ⊎ (slot_place k + length w ≤ i)
      → get_or (written b k n w) i 0 ≡ get_or b i 0
  written_byte i h s = byte_put (put b (slot_place k) w) count_place (le_bytes 4 n) i (clear h) ∙ byte_put b (slot_place k) w i s
    where
      clear : (i < 4) ⊎ (8 ≤ i) → (i < 4) ⊎ (4 + length (le_bytes 4 n) ≤ i)
      clear (inl l) = inl l
      clear (inr l) = inr (omega (arith, length_le_bytes 4 n))
