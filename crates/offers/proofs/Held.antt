-- The verdict over the bytes of the held slots: ids, keys and times compared there are those of the events held.
use mathlib.Core.Path.{◌≡◌, refl, sym, ap, ap₂, ◌∙◌}
use mathlib.Core.Bool.{Bool, true, false, ◌&&◌}
use mathlib.Core.List.{List, []}
use Prim.Native.Nat.{ℕ, ◌-◌}
use lib.Dec.{eqb, ltb}
use lib.ListN.{length, get_or, drop}
use borrow.Author.Tests.{eqb-true, eq-eqb}
use Rattle.wire.specs.Bytes.{same_bytes, part}
use Rattle.wire.specs.Field.{field_at}
use Rattle.wire.proofs.Bytes.{same_equal, equal_same}
use Rattle.text.specs.Event.{all}
use Rattle.text.specs.Kinds.{class_of}
use Rattle.text.proofs.Pieces.{both, and_true}
use Rattle.law.specs.Lists.{any, find}
use Rattle.law.specs.Table.{has_id, has_key, has_key_newer}
use Rattle.table.proofs.Cells.{length_cells}
use Rattle.event.specs.Order.{is_newer, newer_is}
use Rattle.table.specs.Layout.{header_size, slot_size, count_of, kind_in, id_in, length_in, d_in, text_in, held_slots}
use Rattle.table.specs.Events.{signed_events, in_slot, time_of_text, view}
use Rattle.table.specs.Sound.{slot_sound, slots_sound, none_twice, no_key_twice, sound}
use Rattle.table.proofs.Bytes.{clauses}
use Rattle.table.proofs.Shown.{time_of_lem}
use Rattle.table.proofs.Stored.{length_view}
use Rattle.slots.specs.Slots.{has_key_in, pubkey_bytes, d_bytes_in, same_id_in, same_key_in, slots_from}
use Rattle.slots.proofs.Pairs.{any_map, any_as, none_map, none_as}
use Rattle.slots.proofs.Keys.{key_same}
use Rattle.offers.specs.Inner.{newer_in, d_last, slot_of}
use Rattle.offers.proofs.First.{find_map, find_as, find_any, first_decides}

-- ---- keys of slots
same_parts : (s t : List ℕ) → same_key_in s t ≡ true
    → (kind_in t ≡ kind_in s) × (has_key_in (class_of (kind_in t)) ≡ true) × (pubkey_bytes t ≡ pubkey_bytes s) × (d_bytes_in t ≡ d_bytes_in s)
unfolding same_key_in
same_parts s t h =
    let a = both (eqb (kind_in t) (kind_in s)) (has_key_in (class_of (kind_in t)) && (same_bytes (pubkey_bytes t) (pubkey_bytes s) && same_bytes (d_bytes_in t) (d_bytes_in s))) h in
    let b = both (has_key_in (class_of (kind_in t))) (same_bytes (pubkey_bytes t) (pubkey_bytes s) && same_bytes (d_bytes_in t) (d_bytes_in s)) a.1 in
    let c = both (same_bytes (pubkey_bytes t) (pubkey_bytes s)) (same_bytes (d_bytes_in t) (d_bytes_in s)) b.1 in
    (eqb-true (kind_in t) (kind_in s) a.0, b.0, same_equal (pubkey_bytes t) (pubkey_bytes s) c.0, same_equal (d_bytes_in t) (d_bytes_in s) c.1)

tied : (s x y : List ℕ) → same_key_in s x ≡ true → same_key_in s y ≡ true → same_key_in x y ≡ true
unfolding same_key_in
tied s x y e f =
    let (a, b, c, d) = same_parts s x e in
    let (i, j, k, l) = same_parts s y f in
    and_true (eqb (kind_in y) (kind_in x)) _ (eq-eqb (kind_in y) (kind_in x) (i ∙ sym a))
    (and_true (has_key_in (class_of (kind_in y))) _ j
    (and_true (same_bytes (pubkey_bytes y) (pubkey_bytes x)) (same_bytes (d_bytes_in y) (d_bytes_in x)) (equal_same (pubkey_bytes y) (pubkey_bytes x) (k ∙ sym c)) (equal_same (d_bytes_in y) (d_bytes_in x) (l ∙ sym d))))

-- d that ends otherwise
pub other_end : (s t : List ℕ) → (d_last t ≡ d_last s → ⊥) → false ≡ same_key_in s t
unfolding d_last
other_end s t n = go (same_key_in s t) refl
  where
    go : (b : Bool) → same_key_in s t ≡ b → false ≡ b
    go true e = absurd (n (ap (λ d. get_or d (length d - 1) 0) (same_parts s t e).3))
    go false e = refl

-- how the code finds the last byte: n, at and len are the slot's numbers, t its text, d the bytes of d
module _ (s : List ℕ) {n at len : ℕ} {t d : List ℕ} (x : n ≡ field_at s 106 2) (y : at ≡ field_at s 108 2) (z : len ≡ field_at s 110 2) (p : t ≡ part s 112 n) (q : d ≡ part t at len) where
  d_bytes : d ≡ d_bytes_in s
  unfolding d_bytes_in d_in text_in length_in
  d_bytes = q ∙ ap (λ r. part r at len) (p ∙ ap (part s 112) x) ∙ ap₂ (part (part s 112 (field_at s 106 2))) y z

  pub last_is : get_or d (length d - 1) 0 ≡ d_last s
  unfolding d_last
  last_is = ap (λ r. get_or r (length r - 1) 0) d_bytes

-- ---- times
newer_same : (t s : List ℕ) → slot_sound t ≡ true → slot_sound s ≡ true → signed_events.newer (in_slot t) (in_slot s) ≡ newer_in t s
unfolding newer_in
newer_same t s p q =
    newer_is time_of_text (in_slot t).0 (in_slot s).0 ∙ ap₂ (λ x y. is_newer x (id_in t) y (id_in s)) (time_of_lem t p) (time_of_lem s q)

-- ---- a sound table b, and the slot s that an offer would fill
module _ (b s : List ℕ) (g : sound b ≡ true) where
  slots_ok : all slot_sound (held_slots b) ≡ true
  unfolding slots_sound
  slots_ok = (clauses b g).slots

  pub ids : any (has_id signed_events (in_slot s)) (view b) ≡ any (same_id_in s) (slots_from b 0 (count_of b))
  unfolding view slots_from same_id_in
  ids = any_map in_slot (has_id signed_events (in_slot s)) (held_slots b)

  module _ (ok : slot_sound s ≡ true) where
    pub slot_is : slot_of b s ≡ find (same_key_in s) (slots_from b 0 (count_of b))
    unfolding slot_of view slots_from
    slot_is =
        find_map in_slot (has_key signed_events (in_slot s)) (held_slots b)
        ∙ find_as slot_sound (λ t. has_key signed_events (in_slot s) (in_slot t)) (same_key_in s) (λ t q. key_same s t ok q) (held_slots b) slots_ok

    pub keys : any (has_key signed_events (in_slot s)) (view b) ≡ ltb (slot_of b s) (count_of b)
    unfolding slot_of
    keys = find_any (has_key signed_events (in_slot s)) (view b) ∙ ap (ltb (find (has_key signed_events (in_slot s)) (view b))) (length_view b)

    no_key_twice_lem : none_twice same_key_in (held_slots b) ≡ true
    unfolding no_key_twice view
    no_key_twice_lem =
        sym (none_as slot_sound (λ x y. has_key signed_events (in_slot x) (in_slot y)) same_key_in key_same (held_slots b) slots_ok)
        ∙ sym (none_map in_slot (has_key signed_events) (held_slots b))
        ∙ (clauses b g).keys

    pub newers : any (has_key_newer signed_events (in_slot s)) (view b) ≡ (ltb (slot_of b s) (count_of b) && newer_in (get_or (held_slots b) (slot_of b s) []) s)
    unfolding view slots_from
    newers =
        any_map in_slot (has_key_newer signed_events (in_slot s)) (held_slots b)
        ∙ any_as slot_sound (λ t. has_key_newer signed_events (in_slot s) (in_slot t)) (λ t. same_key_in s t && newer_in t s)
        (λ t q. ap₂ ◌&&◌ (key_same s t ok q) (newer_same t s q ok)) (held_slots b) slots_ok
        ∙ first_decides (same_key_in s) (λ t. newer_in t s) same_key_in [] (tied s) (held_slots b) no_key_twice_lem
        ∙ ap₂ (λ k n. ltb k n && newer_in (get_or (held_slots b) k []) s) (sym slot_is) (length_cells slot_size (count_of b) (drop header_size b))
