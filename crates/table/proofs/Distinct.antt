-- What a sound table holds is distinct in the sense of the law: no ephemeral kind, no id and no key twice; and back.
use mathlib.Core.Path.{◌≡◌, refl, sym, ap, ◌∙◌}
use mathlib.Core.Bool.{Bool, true, false, cond, not, ◌&&◌, false≢true}
use mathlib.Core.Logic.{◌↔◌, ◌≢◌}
use mathlib.Core.List.Memᴰ
use mathlib.Core.List.{List}
use Prim.Native.Nat.{ℕ, ◌≤◌}
use native.Mathlib.Omega.{arith}
use lib.Dec.{T, eqb, leb}
use borrow.Author.Tests.{leb-true, le-leb, lt-leb, ne_eqb, not-true, eqb-true}
use Rattle.text.specs.Read.{Read, too_large, wrong_shape, read, read_text}
use Rattle.text.specs.Kinds.{Key, same_key, key_of, class_of, is_replaceable, is_ephemeral, is_addressable}
use Rattle.text.specs.declared.Class.TheVariants.{Regular, Replaceable, Ephemeral, Addressable}
use Rattle.text.proofs.Pieces.{both}
use Rattle.text.proofs.Keys.{same_key_lem}
use Rattle.law.specs.Lists.{◌∈◌}
use Rattle.law.specs.Table.{Laws, has_id, has_key}
use Rattle.law.specs.Table as law
use Rattle.law.proofs.Order.{laws}
use Rattle.law.proofs.Signature.{signed_laws}
use Rattle.law.proofs.Sound.{Distinct}
use Rattle.table.specs.Layout.{kind_in, text_in, held_slots, d_in, d_place}
use Rattle.wire.specs.Field.{field_at, unsigned}
use Rattle.table.specs.Events.{SignedEvent, Signature, table_events, signed_events, in_slot, class_for, class_of_event}
use Rattle.table.specs.Events.{class_in, class_of_text, time_of_text, view}
use Rattle.table.specs.Sound.{agrees_with, agrees_in, fields_agree, is_lasting, text_reads, zero_after_text, slot_sound}
use Rattle.table.specs.Sound.{slots_sound, no_id_twice, no_key_twice}
use Rattle.table.proofs.Lists.{is_true, all_has, pairwise_as, twice_apart, apart_twice}

-- ---- the laws of ids, keys and "newer"
key_means : (a b : Key) → T (same_key a b) ↔ (a ≡ b)
key_means a b = (λ t. (same_key_lem a b).0 (is_true (same_key a b) t), λ e. rw ((same_key_lem a b).1 e) tt)

pub event_laws : Laws table_events
event_laws = laws Key same_key key_means class_of_text time_of_text

pub signed_event_laws : Laws signed_events
signed_event_laws = signed_laws table_events Signature event_laws

-- ---- a kind that the law calls ephemeral is one of 20000 to 29999
pub not_both : (k : ℕ) → is_ephemeral k ≡ true → is_replaceable k ≡ false
not_both k e =
    let h = both (leb 20000 k) (leb k 29999) e in
    let low : 20000 ≤ k = leb-true 20000 k h.0 in
    rw (ne_eqb k 0 (λ q. omega arith), ne_eqb k 3 (λ q. omega arith), le-leb 10000 k (omega arith), lt-leb k 19999 (omega arith))

pub class_lasts : (k : ℕ) (x : Key) → law.is_ephemeral (class_for (class_of k) x) ≡ is_ephemeral k
unfolding class_of
class_lasts k x = go (is_replaceable k) (is_ephemeral k) (is_addressable k) refl refl
  where
    go : (r e a : Bool) → is_replaceable k ≡ r → is_ephemeral k ≡ e
        → law.is_ephemeral (class_for (cond r Replaceable (cond e Ephemeral (cond a Addressable Regular))) x) ≡ e
    go true true a p q = absurd (false≢true (sym (not_both k q) ∙ p))
    go true false a p q = refl
    go false true a p q = refl
    go false false true p q = refl
    go false false false p q = refl

pub slot_lasts : (s : List ℕ) → slot_sound s ≡ true → law.is_ephemeral (class_of_text (text_in s)) ≡ false
unfolding slot_sound fields_agree is_lasting class_of_text agrees_with class_of_event
slot_lasts s e =
    let h = both (text_reads s) (fields_agree s && (is_lasting s && zero_after_text s)) e in
    let i = both (fields_agree s) (is_lasting s && zero_after_text s) h.1 in
    let j = both (is_lasting s) (zero_after_text s) i.1 in
    go (read_text (text_in s)) i.0 (not-true (is_ephemeral (kind_in s)) j.0)
  where
    go : (r : Read) → agrees_in s r ≡ true → is_ephemeral (kind_in s) ≡ false → law.is_ephemeral (class_in r) ≡ false
    go too_large a l = refl
    go wrong_shape a l = refl
    go (read x) a l =
        let h = both (eqb (field_at s 96 8) (unsigned x.time)) (eqb (kind_in s) x.kind && (eqb (d_in s).at (d_place x).at && eqb (d_in s).len (d_place x).len)) a in
        let i = both (eqb (kind_in s) x.kind) (eqb (d_in s).at (d_place x).at && eqb (d_in s).len (d_place x).len) h.1 in
        class_lasts x.kind (key_of x) ∙ ap is_ephemeral (sym (eqb-true (kind_in s) x.kind i.0)) ∙ l

-- ---- ids and keys
module _ (b : List ℕ) where
  pub distinct_lasting : slots_sound b ≡ true → (x : SignedEvent) → x ∈ view b → T (not (law.is_ephemeral (signed_events.class_of x)))
  unfolding view slots_sound
  distinct_lasting s x m = let (c, n, q) = Memᴰ.of_map in_slot (held_slots b) m in rw (← q, slot_lasts c (all_has slot_sound (held_slots b) s n)) tt

  pub distinct : slots_sound b ≡ true → no_id_twice b ≡ true → no_key_twice b ≡ true → Distinct signed_events (view b)
  unfolding no_id_twice no_key_twice
  distinct s i k = record {
    lasting = distinct_lasting s;
    ids = pairwise_as (λ x y. T (has_id signed_events x y) → ⊥) (λ x y. x.0.id ≢ y.0.id)
        (λ x y ne q. ne ((event_laws.id_eq y.0.id x.0.id).1 (sym q))) (view b) (twice_apart (has_id signed_events) (view b) i);
    keys = twice_apart (has_key signed_events) (view b) k;
  }

  pub distinct_ids : Distinct signed_events (view b) → no_id_twice b ≡ true
  unfolding no_id_twice
  distinct_ids d = apart_twice (has_id signed_events) (view b) (pairwise_as (λ x y. x.0.id ≢ y.0.id) (λ x y. T (has_id signed_events x y) → ⊥)
      (λ x y ne t. ne (sym ((event_laws.id_eq y.0.id x.0.id).0 t))) (view b) d.ids)

  pub distinct_keys : Distinct signed_events (view b) → no_key_twice b ≡ true
  unfolding no_key_twice
  distinct_keys d = apart_twice (has_key signed_events) (view b) d.keys
