-- Marks: that slots whose marks differ have neither one id nor one key.
use mathlib.Core.Path.{◌≡◌, refl, sym, ap, ap₂, ◌∙◌}
use mathlib.Core.Bool.{Bool, true, false, ◌||◌}
use mathlib.Core.Logic.{◌⊎◌, inl, inr, ⊎_elim}
use mathlib.Core.List.{List}
use Prim.Native.Nat.{ℕ, ◌+◌, ◌-◌, ◌≤◌, ◌<◌}
use native.Mathlib.Omega.{arith}
use native.Mathlib.Decide.{dec_lt}
use lib.Bits.{bit_xor}
use lib.Dec.{eqb}
use lib.ListN.{length, get_or, set, length-set}
use lib.Seq.{get_or-set_same, get_or-set_other}
use borrow.Author.Tests.{eqb-true, eqb-false}
use Rattle.wire.specs.Bytes.{same_bytes}
use Rattle.wire.specs.Field.{field_at}
use Rattle.wire.proofs.Bytes.{same_equal}
use Rattle.text.specs.Kinds.{class_of}
use Rattle.text.proofs.Pieces.{both}
use Rattle.law.specs.Lists.{any}
use Rattle.table.specs.Layout.{slot_at, kind_in, id_in}
use Rattle.slots.specs.Slots.{has_key_in, pubkey_bytes, d_bytes_in, same_id_in, same_key_in, clash, slots_from}
use Rattle.slots.specs.Marks.{id_mark, key_number, key_mark, Marked, Unlike, bucket_count, bucket_of, Noted}
use Rattle.slots.proofs.Bytes.{is_false}
use Rattle.slots.proofs.Walk.{any_none}

-- ---- the mark of a slot whose kind is x, with a key and without
module _ (s : List ℕ) {x : ℕ} (k : x ≡ kind_in s) where
  pub mark_keyed : {l : ℕ} → has_key_in (class_of x) ≡ true → l ≡ key_number (d_bytes_in s) (pubkey_bytes s) → bit_xor l x ≡ key_mark s
  unfolding key_mark
  mark_keyed h p =
      let g : has_key_in (class_of (kind_in s)) ≡ true = ap (λ z. has_key_in (class_of z)) (sym k) ∙ h in
      rw g (ap₂ bit_xor p k)

  pub mark_plain : {l : ℕ} → has_key_in (class_of x) ≡ false → l ≡ id_mark s → l ≡ key_mark s
  unfolding key_mark
  mark_plain h p =
      let g : has_key_in (class_of (kind_in s)) ≡ false = ap (λ z. has_key_in (class_of z)) (sym k) ∙ h in
      rw g p

-- ---- two slots
alike : (s t : List ℕ) → same_key_in s t ≡ true → key_mark t ≡ key_mark s
unfolding same_key_in key_mark
alike s t e =
    let (a, f) = both (eqb (kind_in t) (kind_in s)) _ e in
    let (h, p) = both (has_key_in (class_of (kind_in t))) _ f in
    let q = both (same_bytes (pubkey_bytes t) (pubkey_bytes s)) (same_bytes (d_bytes_in t) (d_bytes_in s)) p in
    let k = eqb-true (kind_in t) (kind_in s) a in
    let g : has_key_in (class_of (kind_in s)) ≡ true = ap (λ z. has_key_in (class_of z)) (sym k) ∙ h in
    rw (h, g, same_equal (pubkey_bytes t) (pubkey_bytes s) q.0, same_equal (d_bytes_in t) (d_bytes_in s) q.1, k)

module _ {b : List ℕ} {c : ℕ} {ids keys : List ℕ} (m : Marked b c ids keys) (i j : ℕ) (h : i < c) (k : j < c) where
  pub ids_differ : (get_or ids i 0 ≡ get_or ids j 0 → ⊥) → false ≡ same_id_in (slot_at b i) (slot_at b j)
  unfolding same_id_in id_mark
  ids_differ n =
      sym (is_false (same_bytes (id_in (slot_at b j)) (id_in (slot_at b i)))
      (λ e. n (m.ids_are i h ∙ ap (λ l. field_at l 0 2) (sym (same_equal (id_in (slot_at b j)) (id_in (slot_at b i)) e)) ∙ sym (m.ids_are j k))))

  pub keys_differ : (get_or keys i 0 ≡ get_or keys j 0 → ⊥) → false ≡ same_key_in (slot_at b i) (slot_at b j)
  keys_differ n =
      sym
      (is_false (same_key_in (slot_at b i) (slot_at b j)) (λ e. n (m.keys_are i h ∙ sym (alike (slot_at b i) (slot_at b j) e) ∙ sym (m.keys_are j k))))

module _ (s t : List ℕ) where
  pub clash_id : same_id_in s t ≡ true → clash s t ≡ true
  unfolding clash
  clash_id e = ap (◌|| same_key_in s t) e

  pub clash_other : same_id_in s t ≡ false → clash s t ≡ same_key_in s t
  unfolding clash
  clash_other e = ap (◌|| same_key_in s t) e

  pub clash_none : same_id_in s t ≡ false → same_key_in s t ≡ false → clash s t ≡ false
  unfolding clash
  clash_none e f = ap₂ ◌||◌ e f

-- ---- no later slot is alike
pub none_alike : {b : List ℕ} {c : ℕ} {ids keys : List ℕ} (i : ℕ) → Marked b c ids keys → i < c → Unlike ids keys i c
    → false ≡ any (clash (slot_at b i)) (slots_from b (i + 1) (c - (i + 1)))
none_alike {b} {c} {ids} {keys} i m h u =
    sym (any_none b c (clash (slot_at b i)) (c - (i + 1)) (i + 1) refl
    (λ j p q. clash_none (slot_at b i) (slot_at b j) (sym (ids_differ m i j h q (u.ids_differ j (omega arith) q))) (sym (keys_differ m i j h q (u.keys_differ j (omega arith) q)))))

-- ---- marks that fall into buckets
-- a bucket that one has fallen into stays so
stays : (l : List ℕ) (k j : ℕ) → j < length l → get_or l k 0 ≡ 1 → get_or (set l j 1) k 0 ≡ 1
stays l k j h e = go (eqb k j) refl
  where
    go : (t : Bool) → eqb k j ≡ t → get_or (set l j 1) k 0 ≡ 1
    go true z = rw (eqb-true k j z) (get_or-set_same l j 1 0 h)
    go false z = get_or-set_other l j k 1 0 (eqb-false k j z) ∙ e

pub bucket_small : (m : ℕ) → bucket_of m < bucket_count
unfolding bucket_of
bucket_small m = omega arith

module _ {ids keys : List ℕ} {c : ℕ} where
  pub none_noted : {seen : List ℕ} → length seen ≡ bucket_count → Noted ids keys c c seen
  none_noted l = record { seen_long = l; ids_noted = λ j p q. absurd (omega arith); keys_noted = λ j p q. absurd (omega arith) }

  -- slot i is the next
  module _ {i : ℕ} {seen : List ℕ} (n : Noted ids keys (i + 1) c seen) where
    pub noted_more : Noted ids keys i c (set (set seen (bucket_of (get_or ids i 0)) 1) (bucket_of (get_or keys i 0)) 1)
    noted_more = record {
      seen_long = simp length-set n.seen_long;
      ids_noted = λ j p q. ⊎_elim (λ e. rw e (stays noted (bucket_of (get_or ids i 0)) (bucket_of (get_or keys i 0)) second (get_or-set_same seen (bucket_of (get_or ids i 0)) 1 0 first))) (λ l. both_stay (bucket_of (get_or ids j 0)) (n.ids_noted j l q)) (at_or j p);
      keys_noted = λ j p q. ⊎_elim (λ e. rw e (get_or-set_same noted (bucket_of (get_or keys i 0)) 1 0 second)) (λ l. both_stay (bucket_of (get_or keys j 0)) (n.keys_noted j l q)) (at_or j p);
    }
      where
        noted : List ℕ
        noted = set seen (bucket_of (get_or ids i 0)) 1

        first : bucket_of (get_or ids i 0) < length seen
        first = omega (arith, bucket_small (get_or ids i 0), n.seen_long)

        second : bucket_of (get_or keys i 0) < length (set seen (bucket_of (get_or ids i 0)) 1)
        second = simp length-set (omega (arith, bucket_small (get_or keys i 0), n.seen_long))

        both_stay : (k : ℕ) → get_or seen k 0 ≡ 1 → get_or (set (set seen (bucket_of (get_or ids i 0)) 1) (bucket_of (get_or keys i 0)) 1) k 0 ≡ 1
        both_stay k e =
            stays (set seen (bucket_of (get_or ids i 0)) 1) k (bucket_of (get_or keys i 0)) second (stays seen k (bucket_of (get_or ids i 0)) first e)

        at_or : (j : ℕ) → i ≤ j → (j ≡ i) ⊎ (i + 1 ≤ j)
        at_or j p = go (dec_lt i j)
          where
            go : Dec (i < j) → (j ≡ i) ⊎ (i + 1 ≤ j)
            go (yes l) = inr (omega arith)
            go (no l) = inl (omega arith)

    -- none fell into its buckets, so no later mark is its own
    pub unmet : get_or seen (bucket_of (get_or ids i 0)) 0 ≡ 0 → get_or seen (bucket_of (get_or keys i 0)) 0 ≡ 0 → Unlike ids keys i c
    unmet d e = record {
      ids_differ = λ j p q z. differ _ _ z d (n.ids_noted j (omega arith) q);
      keys_differ = λ j p q z. differ _ _ z e (n.keys_noted j (omega arith) q);
    }
      where
        differ : (a b : ℕ) → a ≡ b → get_or seen (bucket_of a) 0 ≡ 0 → get_or seen (bucket_of b) 0 ≡ 1 → ⊥
        differ a b z d e = let x : ◌≡◌ {A = ℕ} 0 1 = sym d ∙ ap (λ m. get_or seen (bucket_of m) 0) z ∙ e in omega (arith, x)
