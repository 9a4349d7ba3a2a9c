-- An event written to a slot is read back from it, and a slot that is sound is what its event writes; the fields of
-- slot k as parts of the table.
use mathlib.Core.Path.{◌≡◌, refl, sym, ap, ap₂, ◌∙◌}
use mathlib.Core.Bool.{true, false, not, ◌&&◌}
use mathlib.Core.List.{List, [], ◌∷◌, ◌++◌}
use Prim.Native.Nat.{ℕ, zero, suc, ◌+◌, ◌-◌, ◌≤◌, ◌<◌, ◌^◌}
use native.Mathlib.Omega.{arith}
use lib.Dec.{eqb, leb, ltb}
use lib.IntN.{ℤ, pos, negsuc}
use lib.ListN.{length, take, drop, replicate, length-append, length-replicate, length-take, length-drop}
use lib.Seq.{drop_at, drop-drop, take-take}
use lib.Signed.{mag}
use borrow.Author.Tests.{ltb-false, not-true, le-leb, leb-true, eq-eqb, eqb-true}
use Rattle.wire.specs.Limits.{widest, most_text}
use Rattle.wire.specs.Field.{le, le_bytes, field_at, signed, unsigned}
use Rattle.wire.proofs.Fields.{length_le_bytes, signed_unsigned}
use Rattle.numeral.specs.Whole.{is_within}
use Rattle.rows.specs.Strings.{part}
use Rattle.text.specs.Event.{Event, serialise, is_time, all}
use Rattle.text.specs.Read.{Read, too_large, wrong_shape, read, read_text, IsTextOf}
use Rattle.text.specs.Kinds.{is_ephemeral, class_of}
use Rattle.text.specs.declared.Class.{Class}
use Rattle.text.specs.declared.Class.TheVariants.{Regular, Replaceable, Ephemeral, Addressable}
use Rattle.text.proofs.Pieces.{both}
use Rattle.text.proofs.Limits.{limits_of}
use Rattle.text.proofs.RoundTrip.{read_back, read_same}
use Rattle.text.proofs.Places.{d_inside}
use Rattle.table.specs.Layout.{Held, Fits, slot_size, slot_place, slot_at, text_place, id_in, sig_in, time_in, kind_in}
use Rattle.table.specs.Layout.{length_in, d_in, text_in, rest_in, is_byte, d_if_addressable, d_place, text_bytes}
use Rattle.table.specs.Layout.{slot_bytes}
use Rattle.table.specs.Events.{in_slot, of_held}
use Rattle.table.specs.Sound.{is_read, text_reads, agrees_with, fields_agree, is_lasting, is_zero, zero_after_text}
use Rattle.table.specs.Sound.{slot_sound}
use Rattle.table.proofs.Fields.{piece, after, cut, field, after_field, field_back, byte_small, zeros_zero}
use Rattle.table.proofs.Fields.{zero_zeros}

-- ---- the numbers are small enough for their fields
small_time : (z : ℤ) → is_time z ≡ true → unsigned z < 256 ^ 8
unfolding is_time is_within unsigned
small_time (pos n) h = let l = ltb-false widest n (not-true (ltb widest n) h) in omega arith
small_time (negsuc n) h = omega arith

mag_time : (z : ℤ) → is_time z ≡ true → mag z < 2 ^ 63
unfolding is_time is_within
mag_time (pos n) h = let l = ltb-false widest n (not-true (ltb widest n) h) in omega arith
mag_time (negsuc n) h = let l = ltb-false 9007199254740990 n (not-true (ltb 9007199254740990 n) (both (not (ltb 9007199254740990 n)) true h).0) in omega arith

d_in_text : (e : Event) → IsTextOf (serialise e) e → (d_place e).at + (d_place e).len ≤ length (serialise e)
unfolding d_place
d_in_text e a = go (class_of e.kind)
  where
    go : (c : Class) → (d_if_addressable c e).at + (d_if_addressable c e).len ≤ length (serialise e)
    go Regular = omega arith
    go Replaceable = omega arith
    go Ephemeral = omega arith
    go Addressable = d_inside (serialise e) e a

-- ---- what stands in a slot from each field on
abbrev from_text : Event → List ℕ
from_text e = text_bytes (serialise e)

abbrev from_d_length : Event → List ℕ
from_d_length e = le_bytes 2 (d_place e).len ++ from_text e

abbrev from_d : Event → List ℕ
from_d e = le_bytes 2 (d_place e).at ++ from_d_length e

abbrev from_length : Event → List ℕ
from_length e = le_bytes 2 (length (serialise e)) ++ from_d e

abbrev from_kind : Event → List ℕ
from_kind e = le_bytes 2 e.kind ++ from_length e

abbrev from_time : Event → List ℕ
from_time e = le_bytes 8 (unsigned e.time) ++ from_kind e

-- ---- written, then read
module _ (h : Held) (f : Fits h) where
  pub is_text_lem : IsTextOf (serialise h.event) h.event
  is_text_lem = record { same = refl; fit = f.event; small = f.text }

  pub slot_length : length (slot_bytes h) ≡ slot_size
  unfolding slot_bytes text_bytes
  slot_length = let m = f.text in simp (length-append, length_le_bytes, length-replicate, f.id, f.sig) (omega arith)

  at_sig : drop 32 (slot_bytes h) ≡ h.sig ++ from_time h.event
  unfolding slot_bytes
  at_sig = drop_at h.id (h.sig ++ from_time h.event) 32 f.id

  at_time : drop 96 (slot_bytes h) ≡ from_time h.event
  at_time = after (slot_bytes h) h.sig _ 32 64 at_sig f.sig

  at_kind : drop 104 (slot_bytes h) ≡ from_kind h.event
  at_kind = after_field (slot_bytes h) (from_kind h.event) 96 8 (unsigned h.event.time) at_time

  at_length : drop 106 (slot_bytes h) ≡ from_length h.event
  at_length = after_field (slot_bytes h) _ 104 2 _ at_kind

  at_d : drop 108 (slot_bytes h) ≡ from_d h.event
  at_d = after_field (slot_bytes h) _ 106 2 _ at_length

  at_d_length : drop 110 (slot_bytes h) ≡ from_d_length h.event
  at_d_length = after_field (slot_bytes h) _ 108 2 _ at_d

  at_text : drop 112 (slot_bytes h) ≡ serialise h.event ++ replicate (most_text - length (serialise h.event)) 0
  unfolding text_bytes
  at_text = after_field (slot_bytes h) _ 110 2 _ at_d_length

  pub slot_time : field_at (slot_bytes h) 96 8 ≡ unsigned h.event.time
  slot_time = field (slot_bytes h) (from_kind h.event) 96 8 (unsigned h.event.time) at_time (small_time h.event.time (limits_of h.event f.event).time)

  pub slot_kind : kind_in (slot_bytes h) ≡ h.event.kind
  unfolding kind_in
  slot_kind = let l = (limits_of h.event f.event).kind in field (slot_bytes h) _ 104 2 _ at_kind (omega arith)

  pub slot_text_length : length_in (slot_bytes h) ≡ length (serialise h.event)
  unfolding length_in
  slot_text_length = let l = f.text in field (slot_bytes h) _ 106 2 _ at_length (omega arith)

  pub slot_d : d_in (slot_bytes h) ≡ d_place h.event
  unfolding d_in
  slot_d =
      let d = d_in_text h.event is_text_lem in
      let l = f.text in
      let a = field (slot_bytes h) _ 108 2 _ at_d (omega arith) in
      let b = field (slot_bytes h) _ 110 2 _ at_d_length (omega arith) in
      rw (a, b)

  pub slot_text_lem : text_in (slot_bytes h) ≡ serialise h.event
  unfolding text_in
  slot_text_lem = piece (slot_bytes h) (serialise h.event) _ 112 (length_in (slot_bytes h)) at_text (sym slot_text_length)

  pub slot_rest : rest_in (slot_bytes h) ≡ replicate (most_text - length (serialise h.event)) 0
  unfolding rest_in
  slot_rest = after (slot_bytes h) (serialise h.event) _ 112 (length_in (slot_bytes h)) at_text (sym slot_text_length)

  pub slot_id : id_in (slot_bytes h) ≡ h.id
  unfolding id_in slot_bytes
  slot_id = piece (slot_bytes h) h.id _ 0 32 refl f.id

  pub slot_sig : sig_in (slot_bytes h) ≡ h.sig
  unfolding sig_in
  slot_sig = piece (slot_bytes h) h.sig _ 32 64 at_sig f.sig

  pub slot_holds : in_slot (slot_bytes h) ≡ of_held h
  slot_holds = rw (slot_id, slot_text_lem, slot_sig)

  pub slot_reads : read_text (text_in (slot_bytes h)) ≡ read h.event
  slot_reads = ap read_text slot_text_lem ∙ read_back h.event f.event f.text

  pub slot_sound_lem : is_ephemeral h.event.kind ≡ false → slot_sound (slot_bytes h) ≡ true
  unfolding slot_sound text_reads fields_agree is_lasting zero_after_text agrees_with
  slot_sound_lem k =
      let s = slot_bytes h in
      let e = h.event in
      let l = f.text in
      simp (
        slot_reads,
        le-leb (length_in s) most_text (omega (arith, slot_text_length)),
        eq-eqb (field_at s 96 8) (unsigned e.time) slot_time,
        eq-eqb (kind_in s) e.kind slot_kind,
        eq-eqb (d_in s).at (d_place e).at (ap (λ p. p.at) slot_d),
        eq-eqb (d_in s).len (d_place e).len (ap (λ p. p.len) slot_d),
        ap is_ephemeral slot_kind ∙ k,
        ap is_zero slot_rest ∙ zeros_zero (most_text - length (serialise e)),
      )

-- ---- what soundness says of a slot whose text is read as e
pub read_of_lem : (r : Read) → is_read r ≡ true → (e : Event) × (r ≡ read e)
read_of_lem too_large h = absurd (let z : ◌≡◌ {A = ℕ} 0 1 = cc in omega arith)
read_of_lem wrong_shape h = absurd (let z : ◌≡◌ {A = ℕ} 0 1 = cc in omega arith)
read_of_lem (read e) h = (e, refl)

module _ (s : List ℕ) (ok : slot_sound s ≡ true) where
  text_sound : text_reads s ≡ true
  unfolding slot_sound
  text_sound = (both (text_reads s) (fields_agree s && (is_lasting s && zero_after_text s)) ok).0

  rest_sound : (fields_agree s && (is_lasting s && zero_after_text s)) ≡ true
  unfolding slot_sound
  rest_sound = (both (text_reads s) (fields_agree s && (is_lasting s && zero_after_text s)) ok).1

  pub sound_text_length : length_in s ≤ most_text
  unfolding text_reads
  sound_text_length = leb-true (length_in s) most_text (both (leb (length_in s) most_text) (is_read (read_text (text_in s))) text_sound).0

  pub sound_event : (e : Event) × (read_text (text_in s) ≡ read e)
  unfolding text_reads
  sound_event = read_of_lem (read_text (text_in s)) (both (leb (length_in s) most_text) (is_read (read_text (text_in s))) text_sound).1

  pub sound_lasting : is_ephemeral (kind_in s) ≡ false
  unfolding is_lasting
  sound_lasting =
      not-true (is_ephemeral (kind_in s))
      (both (is_lasting s) (zero_after_text s) (both (fields_agree s) (is_lasting s && zero_after_text s) rest_sound).1).0

  pub sound_rest : is_zero (rest_in s) ≡ true
  unfolding zero_after_text
  sound_rest = (both (is_lasting s) (zero_after_text s) (both (fields_agree s) (is_lasting s && zero_after_text s) rest_sound).1).1

  module _ (e : Event) (r : read_text (text_in s) ≡ read e) where
    sound_fields : agrees_with s e ≡ true
    unfolding fields_agree
    sound_fields = rw r at (both (fields_agree s) (is_lasting s && zero_after_text s) rest_sound).0

    pub sound_time : field_at s 96 8 ≡ unsigned e.time
    unfolding agrees_with
    sound_time = eqb-true (field_at s 96 8) (unsigned e.time) (both (eqb (field_at s 96 8) (unsigned e.time)) _ sound_fields).0

    -- the event's time, not its bits
    pub sound_signed : signed (time_in s) ≡ e.time
    sound_signed = ap signed sound_time ∙ signed_unsigned e.time (mag_time e.time (limits_of e (read_same (text_in s) e r).fit).time)

    sound_others : (eqb (kind_in s) e.kind && (eqb (d_in s).at (d_place e).at && eqb (d_in s).len (d_place e).len)) ≡ true
    unfolding agrees_with
    sound_others = (both (eqb (field_at s 96 8) (unsigned e.time)) _ sound_fields).1

    pub sound_kind : kind_in s ≡ e.kind
    sound_kind = eqb-true (kind_in s) e.kind (both (eqb (kind_in s) e.kind) _ sound_others).0

    sound_d_both : (eqb (d_in s).at (d_place e).at && eqb (d_in s).len (d_place e).len) ≡ true
    sound_d_both = (both (eqb (kind_in s) e.kind) _ sound_others).1

    pub sound_d : d_in s ≡ d_place e
    sound_d =
        let b = both (eqb (d_in s).at (d_place e).at) (eqb (d_in s).len (d_place e).len) sound_d_both in
        ap₂ (λ i n. record { at = i; len = n }) (eqb-true (d_in s).at (d_place e).at b.0) (eqb-true (d_in s).len (d_place e).len b.1)

-- ---- read, then written: the slot's bytes are known from each field on, the last field first
pub slot_is : (s : List ℕ) (e : Event) → length s ≡ slot_size → all is_byte s ≡ true → slot_sound s ≡ true → read_text (text_in s) ≡ read e
    → s ≡ slot_bytes (record { id = id_in s; sig = sig_in s; event = e })
unfolding slot_bytes text_bytes id_in sig_in kind_in length_in d_in text_in rest_in
slot_is s e l b ok r =
    let small = byte_small s b in
    let m = sound_text_length s ok in
    let t : text_in s ≡ serialise e = sym (read_same (text_in s) e r).same in
    let n : length_in s ≡ length (serialise e) = omega (arith, ap length t, length-take (length_in s) (drop 112 s), length-drop 112 s) in
    let z : length (rest_in s) ≡ most_text - length (serialise e) = omega (arith, length-drop (112 + length_in s) s) in
    let r112 : drop 112 s ≡ from_text e =
    cut s 112 (length_in s) ∙ ap₂ ◌++◌ t (zero_zeros (rest_in s) (sound_rest s ok) ∙ ap (λ k. replicate k 0) z) in
    let r110 = field_back s (from_text e) 110 2 (d_place e).len (omega arith) small (ap (λ p. p.len) (sound_d s ok e r)) r112 in
    let r108 = field_back s (from_d_length e) 108 2 (d_place e).at (omega arith) small (ap (λ p. p.at) (sound_d s ok e r)) r110 in
    let r106 = field_back s (from_d e) 106 2 (length (serialise e)) (omega arith) small n r108 in
    let r104 = field_back s (from_length e) 104 2 e.kind (omega arith) small (sound_kind s ok e r) r106 in
    let r96 = field_back s (from_kind e) 96 8 (unsigned e.time) (omega arith) small (sound_time s ok e r) r104 in
    cut s 0 32 ∙ ap (id_in s ++◌) (cut s 32 64 ∙ ap (sig_in s ++◌) r96)

-- ---- parts of parts
take_inside : (k i n : ℕ) (l : List ℕ) → i + k ≤ n → take k (drop i (take n l)) ≡ take k (drop i l)
take_inside k zero n l h = take-take k n l (omega arith)
take_inside k (suc i) zero l h = absurd (omega arith)
take_inside k (suc i) (suc n) [] h = refl
take_inside k (suc i) (suc n) (x ∷ l) h = take_inside k i n l (omega arith)

pub part_part : (b : List ℕ) (p n i k : ℕ) → i + k ≤ n → part (part b p n) i k ≡ part b (p + i) k
part_part b p n i k h = take_inside k i n (drop p b) h ∙ ap (take k) (drop-drop i p b)

pub part_length : (s : List ℕ) (i k : ℕ) → i + k ≤ length s → length (part s i k) ≡ k
part_length s i k h = omega (arith, length-take k (drop i s), length-drop i s)

-- ---- the fields of slot k, as parts of the table
module _ (b : List ℕ) (k : ℕ) where
  pub field_at_lem : (i n : ℕ) → i + n ≤ slot_size → field_at b (slot_place k + i) n ≡ field_at (slot_at b k) i n
  unfolding field_at
  field_at_lem i n h = ap le (sym (part_part b (slot_place k) slot_size i n h))

  pub id_at : part b (slot_place k) 32 ≡ id_in (slot_at b k)
  unfolding id_in
  id_at =
      let z : slot_place k + 0 ≡ slot_place k = omega arith in
      sym (part_part b (slot_place k) slot_size 0 32 (omega arith) ∙ ap (λ (p : ℕ). part b p 32) z)

  pub sig_at : part b (slot_place k + 32) 64 ≡ sig_in (slot_at b k)
  unfolding sig_in
  sig_at = sym (part_part b (slot_place k) slot_size 32 64 (omega arith))

  pub time_at_lem : field_at b (slot_place k + 96) 8 ≡ time_in (slot_at b k)
  time_at_lem = field_at_lem 96 8 (omega arith)

  pub kind_at : field_at b (slot_place k + 104) 2 ≡ kind_in (slot_at b k)
  unfolding kind_in
  kind_at = field_at_lem 104 2 (omega arith)

  pub length_at : field_at b (slot_place k + 106) 2 ≡ length_in (slot_at b k)
  unfolding length_in
  length_at = field_at_lem 106 2 (omega arith)

  -- the text of a sound slot, which is at most 4,096 bytes
  pub text_at : length_in (slot_at b k) ≤ most_text → part b (slot_place k + text_place) (field_at b (slot_place k + 106) 2) ≡ text_in (slot_at b k)
  unfolding text_in
  text_at h =
      ap (part b (slot_place k + text_place)) length_at
      ∙ sym (part_part b (slot_place k) slot_size text_place (length_in (slot_at b k)) (omega arith))
