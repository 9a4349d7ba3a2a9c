-- A table just formatted is sound, empty and of its capacity: FormattedFresh of specs/Claims.
use mathlib.Core.Path.{◌≡◌, refl, sym, ap, ◌∙◌}
use mathlib.Core.Bool.{Bool, true, false, cond}
use mathlib.Core.Logic.{◌⊎◌, inl, inr}
use mathlib.Core.List.{List, [], ◌++◌, append_assoc}
use Prim.Native.Nat.{ℕ, ◌-◌, ◌*◌, ◌≤◌, ◌<◌}
use native.Mathlib.Omega.{arith}
use lib.Dec.{leb, ltb}
use lib.ListN.{length, drop, replicate, length-append, length-replicate, length-drop}
use lib.Seq.{drop_at, drop-drop}
use borrow.Author.Tests.{leb-true, ltb-false, le-leb, lt-leb, lt-ltb, le-ltb, ne_eqb}
use Rattle.wire.specs.Limits.{most_slots}
use Rattle.wire.specs.Field.{le_bytes}
use Rattle.wire.proofs.Fields.{length_le_bytes}
use Rattle.text.specs.Event.{all}
use Rattle.text.proofs.Pieces.{both}
use Rattle.table.specs.Layout.{header_size, slot_size, table_size, capacity_of, count_of, slot_size_of, first_slot_of}
use Rattle.table.specs.Layout.{header_bytes, later_slots}
use Rattle.table.specs.Events.{view}
use Rattle.table.specs.Sound.{is_capacity, has_header, capacity_fits, slots_fit, count_fits, others_as_above, slots_sound}
use Rattle.table.specs.Sound.{none_twice, no_id_twice, no_key_twice, later_zero, sound_up_to, sound}
use Rattle.table.specs.Format.{format_row, formatted}
use Rattle.table.specs.Demand3.{Fresh}
use Rattle.table.specs.Claims.{FormattedFresh, FormatRows}
use Rattle.table.proofs.Fields.{piece, field, after_field, zeros_zero}

-- rows 14 and 13 let the capacity and the buffer pass
pub record Passed (N : ℕ) (b : List ℕ) : Type 0 where
  pub capacity : is_capacity most_slots N ≡ true
  pub room : table_size N ≤ length b

pub passed : (N : ℕ) (b : List ℕ) → format_row N b ≡ 0 → Passed N b
unfolding format_row
passed N b r = go (is_capacity most_slots N) refl (ltb (length b) (table_size N)) refl r
  where
    go : (c : Bool) → is_capacity most_slots N ≡ c → (t : Bool) → ltb (length b) (table_size N) ≡ t → ◌≡◌ {A = ℕ} (cond c (cond t 13 0) 14) 0 → Passed N b
    go true e false f r = record { capacity = e; room = ltb-false (length b) (table_size N) f }
    go true e true f r = absurd (omega arith)
    go false e t f r = absurd (omega arith)

pub format_rows : (N : ℕ) (b : List ℕ) → FormatRows N b
unfolding format_row formatted
format_rows N b = record {
  capacity = λ h. rw (out h);
  short = λ l h s. rw (le-leb 1 N l, le-leb N most_slots h, lt-ltb (length b) (table_size N) s);
  none = λ l h s. rw (le-leb 1 N l, le-leb N most_slots h, le-ltb (length b) (table_size N) s);
  stays = λ n. rw (ne_eqb (format_row N b) 0 n);
}
  where
    out : (N < 1) ⊎ (most_slots < N) → is_capacity most_slots N ≡ false
    out (inl h) = rw (lt-leb 1 N h)
    out (inr h) = rw (le-leb 1 N (omega arith), lt-leb N most_slots h)

-- the zeros of all slots, and what stands after them
abbrev from_slots : ℕ → List ℕ → List ℕ
from_slots N b = replicate (N * slot_size) 0 ++ drop (table_size N) b

module _ (N : ℕ) (b : List ℕ) (r : format_row N b ≡ 0) where
  small : N ≤ most_slots
  small = leb-true N most_slots (both (leb 1 N) (leb N most_slots) (passed N b r).capacity).1

  -- the bytes from each number of the header on
  at_capacity : formatted N b ≡ le_bytes 4 N ++ (le_bytes 4 0 ++ (le_bytes 4 slot_size ++ (le_bytes 4 header_size ++ from_slots N b)))
  unfolding formatted header_bytes
  at_capacity = rw r (simp append_assoc)

  at_count : drop 4 (formatted N b) ≡ le_bytes 4 0 ++ (le_bytes 4 slot_size ++ (le_bytes 4 header_size ++ from_slots N b))
  at_count = after_field (formatted N b) _ 0 4 N at_capacity

  at_slot_size : drop 8 (formatted N b) ≡ le_bytes 4 slot_size ++ (le_bytes 4 header_size ++ from_slots N b)
  at_slot_size = after_field (formatted N b) _ 4 4 0 at_count

  at_first : drop 12 (formatted N b) ≡ le_bytes 4 header_size ++ from_slots N b
  at_first = after_field (formatted N b) _ 8 4 slot_size at_slot_size

  at_slots : drop 16 (formatted N b) ≡ from_slots N b
  at_slots = after_field (formatted N b) _ 12 4 header_size at_first

  pub formatted_capacity : capacity_of (formatted N b) ≡ N
  unfolding capacity_of
  formatted_capacity = let l = small in field (formatted N b) _ 0 4 N at_capacity (omega arith)

  pub formatted_count : count_of (formatted N b) ≡ 0
  unfolding count_of
  formatted_count = field (formatted N b) _ 4 4 0 at_count (omega arith)

  formatted_slot_size : slot_size_of (formatted N b) ≡ slot_size
  unfolding slot_size_of
  formatted_slot_size = field (formatted N b) _ 8 4 slot_size at_slot_size (omega arith)

  formatted_first : first_slot_of (formatted N b) ≡ header_size
  unfolding first_slot_of
  formatted_first = field (formatted N b) _ 12 4 header_size at_first (omega arith)

  pub formatted_length : length (formatted N b) ≡ length b
  formatted_length =
      let m = (passed N b r).room in
      ap length at_capacity ∙ simp (length-append, length_le_bytes, length-replicate, length-drop) (omega arith)

  formatted_later : later_slots (formatted N b) ≡ replicate (N * slot_size) 0
  formatted_later =
      let l : length (replicate {A = ℕ} (N * slot_size) 0) ≡ (N - 0) * slot_size = length-replicate {A = ℕ} (N * slot_size) 0 ∙ omega arith in
      rw (formatted_count, formatted_capacity) (piece (formatted N b) (replicate (N * slot_size) 0) _ 16 ((N - 0) * slot_size) at_slots l)

  pub formatted_view : view (formatted N b) ≡ []
  unfolding view
  formatted_view = rw formatted_count

  pub formatted_sound : sound (formatted N b) ≡ true
  unfolding sound sound_up_to has_header capacity_fits slots_fit count_fits others_as_above slots_sound no_id_twice no_key_twice none_twice later_zero all
  formatted_sound =
      let m = (passed N b r).room in
      rw (
        formatted_length,
        le-leb header_size (length b) (omega arith),
        formatted_later,
        formatted_view,
        formatted_capacity,
        formatted_count,
        (passed N b r).capacity,
        le-leb (table_size N) (length b) m,
        le-leb 0 N (omega arith),
        formatted_slot_size,
        formatted_first,
      )
      (zeros_zero (N * slot_size))

-- what stands behind the table stays
pub formatted_rest : (N : ℕ) (b : List ℕ) → format_row N b ≡ 0 → drop (table_size N) (formatted N b) ≡ drop (table_size N) b
formatted_rest N b r =
    sym (drop-drop (N * slot_size) header_size (formatted N b))
    ∙ ap (drop (N * slot_size)) (at_slots N b r)
    ∙ drop_at (replicate (N * slot_size) 0) (drop (table_size N) b) (N * slot_size) (length-replicate {A = ℕ} (N * slot_size) 0)

pub formatted_fresh : FormattedFresh
formatted_fresh N b r = (
  formatted_sound N b r,
  formatted_view N b r,
  formatted_capacity N b r,
  formatted_count N b r,
  formatted_length N b r,
  formatted_rest N b r,
)

pub just_formatted : (N : ℕ) (b : List ℕ) → format_row N b ≡ 0 → Fresh (formatted N b)
just_formatted N b r = record { capacity = N; buffer = b; passes = r; is = refl }
