-- Soundness is 01's clauses: SoundExactly of specs/Claims. Each test of specs/Sound means its clause; what is tested of
-- a list of slots is said of slot k.
use mathlib.Core.Path.{◌≡◌, refl, sym, ap, ◌∙◌}
use mathlib.Core.Bool.{Bool, true, false, cond, false≢true}
use mathlib.Core.Logic.{◌≢◌}
use mathlib.Core.List.{List, []}
use Prim.Native.Nat.{ℕ, ◌+◌, ◌-◌, ◌*◌, ◌≤◌, ◌<◌}
use native.Mathlib.Omega.{arith}
use lib.Dec.{T}
use lib.ListN.{get_or, drop, length-take, length-drop}
use lib.Seq.{get_or-take, get_or-drop}
use borrow.Author.Tests.{le-leb, eq-eqb}
use Rattle.wire.specs.Limits.{most_text}
use Rattle.wire.specs.Field.{field_at, unsigned}
use Rattle.text.specs.Event.{Event}
use Rattle.text.specs.Read.{read, read_text}
use Rattle.text.specs.Kinds.{Key, key_in, key_of, has_key, same_key, class_of, is_ephemeral, is_replaceable, is_addressable}
use Rattle.text.specs.declared.Class as kinds
use Rattle.text.specs.declared.Class.TheVariants.{Regular, Replaceable, Ephemeral, Addressable}
use Rattle.text.proofs.RoundTrip.{read_back, read_same}
use Rattle.law.specs.Lists.{Pairwise}
use Rattle.law.specs.Table.{keyed, share_key}
use Rattle.law.specs.Table as law
use Rattle.table.proofs.Cells.{length_cells}
use Rattle.law.proofs.Sound.{Distinct}
use Rattle.table.specs.Layout.{header_size, slot_size, table_size, slot_place, capacity_of, count_of, slot_at, held_slots}
use Rattle.table.specs.Layout.{later_slots, kind_in, length_in, d_in, text_in, rest_in, d_place}
use Rattle.table.specs.Events.{SignedEvent, signed_events, in_slot, class_for, class_of_event, class_in, class_of_text}
use Rattle.table.specs.Events.{view}
use Rattle.table.specs.Sound.{is_zero, text_reads, agrees_with, fields_agree, is_lasting, zero_after_text, slot_sound}
use Rattle.table.specs.Sound.{slots_sound, later_zero, sound}
use Rattle.table.specs.Claims.{Holds, SoundClauses, SoundExactly}
use Rattle.table.proofs.Fields.{zero_at, zero_from}
use Rattle.table.proofs.Slots.{sound_event, sound_lasting, sound_rest, sound_text_length, sound_time, sound_kind}
use Rattle.table.proofs.Slots.{sound_d, part_length}
use Rattle.table.proofs.Lists.{all_from, pairwise_from, pairwise_at}
use Rattle.table.proofs.Distinct.{event_laws, not_both, distinct, distinct_lasting, distinct_ids, distinct_keys}
use Rattle.table.proofs.Bytes.{clauses, is_sound}
use Rattle.table.proofs.Stored.{length_view}
use Rattle.table.proofs.Shown.{slot_entry, slot_sound_at, view_at}

-- ---- classes
-- the class of a kind is ephemeral exactly for the kinds that the test names
class_ephemeral : (k : ℕ) → is_ephemeral k ≡ true → class_of k ≡ Ephemeral
unfolding class_of
class_ephemeral k e = rw (not_both k e, e)

apart : (r a : Bool) → cond r Replaceable (cond a Addressable Regular) ≢ Ephemeral
apart true a q = let z : ◌≡◌ {A = ℕ} 0 1 = cc in omega arith
apart false true q = let z : ◌≡◌ {A = ℕ} 0 1 = cc in omega arith
apart false false q = let z : ◌≡◌ {A = ℕ} 0 1 = cc in omega arith

not_ephemeral : (k : ℕ) → is_ephemeral k ≡ false → class_of k ≢ Ephemeral
unfolding class_of
not_ephemeral k e q = apart (is_replaceable k) (is_addressable k) (rw e at q)

is_lasting_lem : (k : ℕ) → class_of k ≢ Ephemeral → is_ephemeral k ≡ false
is_lasting_lem k n = go (is_ephemeral k) refl
  where
    go : (t : Bool) → is_ephemeral k ≡ t → t ≡ false
    go true e = absurd (n (class_ephemeral k e))
    go false e = refl

-- ---- keys
-- two events share a key in the law's sense exactly where the one has a key and it is the other's
shared_key : (e f : Event) → T (share_key same_key (class_of_event f) (class_of_event e)) → (has_key (key_of e) ≡ true) × (key_of e ≡ key_of f)
unfolding class_of_event key_of
shared_key e f t = go (class_of e.kind) (class_of f.kind) t
  where
    same : {x y : Key} → T (same_key y x) → x ≡ y
    same {x} {y} t = sym ((event_laws.key_eq y x).0 t)

    go : (c d : kinds.Class) → T (share_key same_key (class_for d (key_in d f)) (class_for c (key_in c e)))
        → (has_key (key_in c e) ≡ true) × (key_in c e ≡ key_in d f)
    go c Regular t = absurd t
    go c Ephemeral t = absurd t
    go Regular Replaceable t = absurd t
    go Ephemeral Replaceable t = absurd t
    go Replaceable Replaceable t = (refl, same t)
    go Addressable Replaceable t = (refl, same t)
    go Regular Addressable t = absurd t
    go Ephemeral Addressable t = absurd t
    go Replaceable Addressable t = (refl, same t)
    go Addressable Addressable t = (refl, same t)

keyed_class : (e : Event) → has_key (key_of e) ≡ true → class_of_event e ≡ keyed (key_of e)
unfolding class_of_event key_of
keyed_class e h = go (class_of e.kind) h
  where
    go : (c : kinds.Class) → has_key (key_in c e) ≡ true → class_for c (key_in c e) ≡ keyed (key_in c e)
    go Regular h = absurd (false≢true h)
    go Ephemeral h = absurd (false≢true h)
    go Replaceable h = refl
    go Addressable h = refl

key_shared : (e f : Event) → has_key (key_of e) ≡ true → key_of e ≡ key_of f → T (share_key same_key (class_of_event f) (class_of_event e))
key_shared e f h q =
    rw (keyed_class e h, keyed_class f (ap has_key (sym q) ∙ h)) ((event_laws.key_eq (key_of f) (key_of e)).1 (sym q))

-- ---- one slot
module _ (s : List ℕ) where
  holds : slot_sound s ≡ true → (e : Event) × Holds s e
  holds ok =
      let (e, r) = sound_event s ok in (
        e,
        record {
          inside = sound_text_length s ok;
          text = read_same (text_in s) e r;
          time = sound_time s ok e r;
          kind = sound_kind s ok e r;
          d_offset = ap (λ p. p.at) (sound_d s ok e r);
          d_length = ap (λ p. p.len) (sound_d s ok e r);
        },
      )

  module _ (e : Event) (h : Holds s e) where
    is_read : read_text (text_in s) ≡ read e
    is_read = let a = h.text in rw (← a.same) (read_back e a.fit (rw a.same a.small))

    class_is : class_of_text (text_in s) ≡ class_of_event e
    unfolding class_of_text
    class_is = ap class_in is_read

    is_slot : class_of (kind_in s) ≢ Ephemeral → is_zero (rest_in s) ≡ true → slot_sound s ≡ true
    unfolding slot_sound text_reads fields_agree is_lasting zero_after_text agrees_with
    is_slot n z = rw (
      is_read,
      le-leb (length_in s) most_text h.inside,
      eq-eqb (field_at s 96 8) (unsigned e.time) h.time,
      eq-eqb (kind_in s) e.kind h.kind,
      eq-eqb (d_in s).at (d_place e).at h.d_offset,
      eq-eqb (d_in s).len (d_place e).len h.d_length,
      is_lasting_lem (kind_in s) n,
      z,
    )

-- ---- a sound table
module _ (b : List ℕ) (ok : sound b ≡ true) where
  is_distinct : Distinct signed_events (view b)
  is_distinct = let c = clauses b ok in distinct b c.slots c.ids c.keys

  -- what any two entries of the view are told apart by, said of their slots
  apart_at : (R : SignedEvent → SignedEvent → Type 0) → Pairwise R (view b) → (j k : ℕ) → j < k → k < count_of b
      → R (in_slot (slot_at b j)) (in_slot (slot_at b k))
  apart_at R o j k l h = rw (view_at b j (omega arith), view_at b k h) at (pairwise_at (in_slot []) R (view b) o j k l (omega (arith, length_view b)))

  rest_zero : (k i : ℕ) → k < count_of b → 112 + length_in (slot_at b k) ≤ i → get_or (slot_at b k) i 0 ≡ 0
  unfolding rest_in
  rest_zero k i h l =
      let s = slot_at b k in
      let n = 112 + length_in s in
      let z : n + (i - n) ≡ i = omega arith in
      ap (λ (m : ℕ). get_or s m 0) (sym z) ∙ sym (get_or-drop n s (i - n) 0) ∙ zero_at (rest_in s) (i - n) (sound_rest s (slot_sound_at b ok k h))

  later_zero_lem : (i : ℕ) → slot_place (count_of b) ≤ i → i < table_size (capacity_of b) → get_or b i 0 ≡ 0
  unfolding later_zero
  later_zero_lem i l h =
      let n = (capacity_of b - count_of b) * slot_size in
      let j = i - slot_place (count_of b) in
      let z : slot_place (count_of b) + j ≡ i = omega arith in
      ap (λ (m : ℕ). get_or b m 0) (sym z)
      ∙ sym (get_or-drop (slot_place (count_of b)) b j 0)
      ∙ sym (get_or-take n (drop (slot_place (count_of b)) b) j 0 (omega arith))
      ∙ zero_at (later_slots b) j (clauses b ok).later

  is_clauses : SoundClauses b
  is_clauses =
      let c = clauses b ok in
      let d = is_distinct in
      record {
        header = c.header;
        capacity = (c.low, c.high);
        fit = c.fit;
        count = c.count;
        size = c.size;
        first = c.first;
        held = λ k h. holds (slot_at b k) (slot_sound_at b ok k h);
        lasting = λ k h. not_ephemeral (kind_in (slot_at b k)) (sound_lasting (slot_at b k) (slot_sound_at b ok k h));
        ids = apart_at (λ x y. x.0.id ≢ y.0.id) d.ids;
        keys = λ j k e f l h he hf has q.
            apart_at (λ x y. T (law.has_key signed_events x y) → ⊥) d.keys j k l h
            (rw (class_is (slot_at b j) e he, class_is (slot_at b k) f hf) (key_shared e f has q));
        rest = λ k i h l m. rest_zero k i h l;
        later = later_zero_lem;
      }

-- ---- and back
module _ (b : List ℕ) (c : SoundClauses b) where
  slot_is_sound : (k : ℕ) → k < count_of b → slot_sound (slot_at b k) ≡ true
  unfolding rest_in
  slot_is_sound k h =
      let s = slot_at b k in
      let (e, held) = c.held k h in
      let n = 112 + length_in s in
      let size = part_length b (slot_place k) slot_size (omega (arith, c.count, c.fit)) in
      is_slot s e held (c.lasting k h)
      (zero_from (rest_in s) (λ j l. get_or-drop n s j 0 ∙ c.rest k (n + j) h (omega arith) (omega (arith, length-drop n s))))

  all_sound : slots_sound b ≡ true
  unfolding slots_sound
  all_sound = all_from [] slot_sound (held_slots b) (λ k h.
      let l : k < count_of b = omega (arith, length_cells slot_size (count_of b) (drop header_size b)) in
      ap slot_sound (slot_entry b k l) ∙ slot_is_sound k l)

  apart_from : (R : SignedEvent → SignedEvent → Type 0) → ((j k : ℕ) → j < k → k < count_of b → R (in_slot (slot_at b j)) (in_slot (slot_at b k)))
      → Pairwise R (view b)
  apart_from R f = pairwise_from (in_slot []) R (view b) (λ j k l h.
      let n : k < count_of b = omega (arith, length_view b) in
      rw (view_at b j (omega arith), view_at b k n) (f j k l n))

  all_later : later_zero b ≡ true
  unfolding later_zero
  all_later =
      let n = (capacity_of b - count_of b) * slot_size in
      let p = slot_place (count_of b) in
      let few = c.count in
      zero_from (later_slots b) (λ j h.
      let m : j < n = omega (arith, length-take n (drop p b)) in
      get_or-take n (drop p b) j 0 m ∙ get_or-drop p b j 0 ∙ c.later (p + j) (omega arith) (omega arith))

  are_distinct : Distinct signed_events (view b)
  are_distinct = record {
    lasting = λ x m. distinct_lasting b all_sound x m;
    ids = apart_from (λ x y. x.0.id ≢ y.0.id) c.ids;
    keys = apart_from (λ x y. T (law.has_key signed_events x y) → ⊥) (λ j k l h t.
        let (e, he) = c.held j (omega arith) in
        let (f, hf) = c.held k h in
        let (has, q) = shared_key e f (rw (class_is (slot_at b j) e he, class_is (slot_at b k) f hf) at t) in
        c.keys j k e f l h he hf has q);
  }

  from_clauses : sound b ≡ true
  from_clauses = is_sound b (record {
    header = c.header;
    low = c.capacity.0;
    high = c.capacity.1;
    fit = c.fit;
    count = c.count;
    size = c.size;
    first = c.first;
    slots = all_sound;
    ids = distinct_ids b are_distinct;
    keys = distinct_keys b are_distinct;
    later = all_later;
  })

pub sound_exactly : SoundExactly
sound_exactly b = (is_clauses b, from_clauses b)
