-- What is shown is what is held, and nothing behind the last slot is read.
use mathlib.Core.Path.{◌≡◌, refl, sym, ap, ◌∙◌}
use mathlib.Core.Bool.{Bool, true, false, cond}
use mathlib.Core.List.Memᴰ
use mathlib.Core.List.{List, [], ◌++◌}
use Prim.Native.Nat.{ℕ, ◌+◌, ◌*◌, ◌≤◌, ◌<◌}
use native.Mathlib.Omega.{arith}
use lib.Dec.{eqb, ltb}
use lib.ListN.{length, get_or, take, drop, length-drop, get_or-map}
use lib.Seq.{drop-drop, take-append-le, drop-append-le}
use borrow.Author.Tests.{ltb-true, lt-ltb, le-ltb, eqb-true, ne_eqb}
use Rattle.law.specs.Lists.{◌∈◌}
use Rattle.table.proofs.Cells.{length_cells, cell_at}
use Rattle.wire.specs.Limits.{most_text}
use Rattle.wire.specs.Field.{signed}
use Rattle.rows.specs.Strings.{part}
use Rattle.table.specs.Layout.{header_size, slot_size, table_size, slot_place, capacity_of, count_of, slot_at, held_slots}
use Rattle.table.specs.Layout.{text_place, time_in, length_in, text_in}
use Rattle.table.specs.Events.{time_of_text, in_slot, view}
use Rattle.table.specs.Events as events
use Rattle.table.specs.Sound.{slot_sound, slots_sound, sound}
use Rattle.table.specs.Format.{shown_row, shown}
use Rattle.table.specs.Claims.{ShownHeld, ShownInside, ShownRows, HeldCount, ViewAt, ShownNeverRead}
use Rattle.table.proofs.Lists.{all_has, entry_in}
use Rattle.table.proofs.Slots.{sound_event, sound_signed, sound_text_length, part_length, length_at, text_at}
use Rattle.table.proofs.Bytes.{clauses}
use Rattle.table.proofs.Stored.{length_view}
use Rattle.table.proofs.Unread.{count_append, sound_append}

-- slot k as an entry of the held slots
pub slot_entry : (b : List ℕ) (k : ℕ) → k < count_of b → get_or (held_slots b) k [] ≡ slot_at b k
slot_entry b k h =
    cell_at slot_size (count_of b) k (drop header_size b) h ∙ ap (take slot_size) (drop-drop (k * slot_size) header_size b)

pub view_at : ViewAt
unfolding view
view_at b k h = get_or-map in_slot (held_slots b) k [] ∙ ap in_slot (slot_entry b k h)

slot_held : (b : List ℕ) (k : ℕ) → k < count_of b → in_slot (slot_at b k) ∈ view b
unfolding view
slot_held b k h =
    Memᴰ.cast (ap in_slot (sym (slot_entry b k h)))
    (Memᴰ.map in_slot (entry_in (held_slots b) k [] (omega (arith, length_cells slot_size (count_of b) (drop header_size b)))))

-- ---- a sound slot's field has the time of its text
pub time_of_lem : (s : List ℕ) → slot_sound s ≡ true → time_of_text (text_in s) ≡ signed (time_in s)
unfolding time_of_text
time_of_lem s ok = let (e, r) = sound_event s ok in ap events.read_time r ∙ sym (sound_signed s ok e r)

-- ---- a held slot of a sound table
module _ (b : List ℕ) (ok : sound b ≡ true) (k : ℕ) (h : k < count_of b) where
  pub slot_sound_at : slot_sound (slot_at b k) ≡ true
  unfolding slots_sound
  slot_sound_at =
      let m = entry_in (held_slots b) k [] (omega (arith, length_cells slot_size (count_of b) (drop header_size b))) in
      all_has slot_sound (held_slots b) (clauses b ok).slots (Memᴰ.cast (sym (slot_entry b k h)) m)

  pub slot_size_lem : length (slot_at b k) ≡ slot_size
  slot_size_lem = let c = clauses b ok in part_length b (slot_place k) slot_size (omega (arith, c.count, c.fit))

  pub text_small : length_in (slot_at b k) ≤ most_text
  text_small = sound_text_length (slot_at b k) slot_sound_at

-- a slot is shown exactly where the table is sound and the slot held
pub shown_if : (b : List ℕ) (k : ℕ) → shown_row b k ≡ 0 → (sound b ≡ true) × (k < count_of b)
unfolding shown_row
shown_if b k r = go (sound b) (ltb k (count_of b)) refl refl r
  where
    go : (s t : Bool) → sound b ≡ s → ltb k (count_of b) ≡ t → ◌≡◌ {A = ℕ} (cond s (cond t 0 14) 11) 0 → (sound b ≡ true) × (k < count_of b)
    go true true p q r = (p, ltb-true k (count_of b) q)
    go true false p q r = absurd (omega arith)
    go false t p q r = absurd (omega arith)

pub shown_rows : (b : List ℕ) (k : ℕ) → ShownRows b k
unfolding shown_row shown
shown_rows b k = record {
  unsound = λ s. rw s;
  not_held = λ s h. rw (s, le-ltb k (count_of b) h);
  none = λ s h. rw (s, lt-ltb k (count_of b) h);
  empty = λ n. rw (ne_eqb (shown_row b k) 0 n);
}

pub held_count : HeldCount
held_count = length_view

pub shown_held : ShownHeld
unfolding shown
shown_held b k r = (slot_held b k (shown_if b k r).1, rw r)

pub shown_inside : ShownInside
unfolding shown
shown_inside b k r =
    let (s, h) = shown_if b k r in
    let m = text_small b s k h in
    rw r (sym (ap (part b (slot_place k + text_place)) (sym (length_at b k)) ∙ text_at b k m))

module _ (b t : List ℕ) (k : ℕ) (full : length b ≡ table_size (capacity_of b)) where
  row_append : shown_row (b ++ t) k ≡ shown_row b k
  unfolding shown_row
  row_append = rw (sound_append b t full, count_append b t full)

  -- a held slot lies within the table
  slot_append : shown_row b k ≡ 0 → slot_at (b ++ t) k ≡ slot_at b k
  slot_append r =
      let (s, h) = shown_if b k r in
      let few = (clauses b s).count in
      let fit : slot_place k + slot_size ≤ length b = omega arith in
      ap (take slot_size) (drop-append-le (slot_place k) b t (omega arith))
      ∙ take-append-le slot_size (drop (slot_place k) b) t (omega (arith, length-drop (slot_place k) b))

  text_append : shown (b ++ t) k ≡ shown b k
  unfolding shown
  text_append = ap (λ r. cond (eqb r 0) (text_in (slot_at (b ++ t) k)) []) row_append ∙ go (eqb (shown_row b k) 0) refl
    where
      go : (q : Bool) → eqb (shown_row b k) 0 ≡ q → cond q (text_in (slot_at (b ++ t) k)) [] ≡ cond q (text_in (slot_at b k)) []
      go true e = ap text_in (slot_append (eqb-true (shown_row b k) 0 e))
      go false e = refl

pub shown_never_read : ShownNeverRead
shown_never_read b t k full = (row_append b t k full, text_append b t k full)
