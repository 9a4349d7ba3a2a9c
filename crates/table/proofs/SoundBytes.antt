-- A held slot, byte for byte: SlotWritten of specs/Claims.
use mathlib.Core.Path.{◌≡◌, ap, ◌∙◌}
use mathlib.Core.Bool.{true}
use mathlib.Core.List.{List}
use Prim.Native.Nat.{ℕ}
use native.Mathlib.Omega.{arith}
use lib.ListN.{length, take, drop, take-append-drop}
use Rattle.rows.specs.Strings.{part}
use Rattle.text.specs.Event.{all}
use Rattle.text.proofs.RoundTrip.{read_same}
use Rattle.table.specs.Layout.{Held, Fits, slot_size, slot_place, slot_at, is_byte, id_in, sig_in, text_in, slot_bytes}
use Rattle.table.specs.Sound.{slot_sound}
use Rattle.table.specs.Claims.{SlotWritten}
use Rattle.table.proofs.Lists.{all_behind, all_before}
use Rattle.table.proofs.Slots.{slot_is, sound_event, part_length}
use Rattle.table.proofs.Shown.{slot_sound_at, slot_size_lem}

-- ---- a part of bytes
part_bytes : (s : List ℕ) (i k : ℕ) → all is_byte s ≡ true → all is_byte (part s i k) ≡ true
part_bytes s i k h =
    let f : all is_byte (drop i s) ≡ true = all_behind is_byte (take i s) (drop i s) (ap (all is_byte) (take-append-drop i s) ∙ h) in
    all_before is_byte (take k (drop i s)) (drop k (drop i s)) (ap (all is_byte) (take-append-drop k (drop i s)) ∙ f)

-- ---- a slot of bytes that is sound
module _ (s : List ℕ) (l : length s ≡ slot_size) (a : all is_byte s ≡ true) (ok : slot_sound s ≡ true) where
  slot_held : (h : Held) × Fits h × (s ≡ slot_bytes h)
  unfolding id_in sig_in text_in
  slot_held =
      let (e, r) = sound_event s ok in
      let t = read_same (text_in s) e r in
      let h : Held = record { id = id_in s; sig = sig_in s; event = e } in (
        h,
        record {
          id = part_length s 0 32 (omega arith);
          id_bytes = part_bytes s 0 32 a;
          sig = part_length s 32 64 (omega arith);
          sig_bytes = part_bytes s 32 64 a;
          event = t.fit;
          text = omega (arith, ap length t.same, t.small);
        },
        slot_is s e l a ok r,
      )

pub slot_written : SlotWritten
slot_written b k s a h = slot_held (slot_at b k) (slot_size_lem b s k h) (part_bytes b (slot_place k) slot_size a) (slot_sound_at b s k h)
