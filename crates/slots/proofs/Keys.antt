-- Two slots: in sound ones the test on bytes is the test on keys, so no two clash exactly where no id and no key is
-- held twice.
use mathlib.Core.Path.{◌≡◌, refl, sym, ap, ap₂, ◌∙◌}
use mathlib.Core.Bool.{Bool, true, false, ◌&&◌, and_comm}
use mathlib.Core.Logic.{◌≢◌, inl}
use mathlib.Core.List.{List, []}
use Prim.Native.Nat.{ℕ}
use native.Mathlib.Omega.{arith}
use lib.Dec.{eqb}
use borrow.Author.Tests.{eqb-true, eq-eqb, ne_eqb}
use Rattle.wire.specs.Escape.{escape}
use Rattle.wire.specs.Field.{field_at}
use Rattle.wire.specs.Bytes.{same_bytes}
use Rattle.wire.proofs.Bytes.{same_equal, equal_same}
use Rattle.text.specs.Event.{Event, is_tags}
use Rattle.text.specs.Kinds.{same_key, key_in, key_of, class_of, d_of}
use Rattle.text.specs.declared.Class.{Class}
use Rattle.text.specs.declared.Class.TheVariants.{Regular, Replaceable, Ephemeral, Addressable}
use Rattle.text.proofs.Strings.{escape_once}
use Rattle.text.proofs.Places.{pubkey_stands}
use Rattle.text.proofs.RoundTrip.{read_same}
use Rattle.law.specs.Table.{share_key, has_id, has_key}
use Rattle.table.specs.Layout.{kind_in, text_in, id_in, held_slots, count_of}
use Rattle.table.specs.Events.{signed_events, in_slot, class_for, class_in, class_of_event, class_of_text, view}
use Rattle.table.specs.Sound.{slot_sound, slots_sound, none_twice, no_id_twice, no_key_twice}
use Rattle.table.proofs.Slots.{sound_event, sound_kind}
use Rattle.table.proofs.DPlaces.{d_place_lem}
use Rattle.slots.specs.Slots.{has_key_in, pubkey_bytes, d_bytes_in, same_id_in, same_key_in, clash, slots_from}
use Rattle.slots.proofs.Pairs.{none_map, none_or, none_as}

-- two tests that imply each other
same_tests : (a b : Bool) → (a ≡ true → b ≡ true) → (b ≡ true → a ≡ true) → a ≡ b
same_tests true b f g = sym (f refl)
same_tests false true f g = g refl
same_tests false false f g = refl

same_escaped : (u v : List ℕ) → same_bytes u v ≡ same_bytes (escape u) (escape v)
same_escaped u v = same_tests (same_bytes u v) (same_bytes (escape u) (escape v))
    (λ e. equal_same (escape u) (escape v) (ap escape (same_equal u v e)))
    (λ e. equal_same u v (escape_once u v (same_equal (escape u) (escape v) e)))

-- ---- a sound slot, by the event of its text
pub record Slot (s : List ℕ) (e : Event) : Type 0 where
  pub class : class_of_text (text_in s) ≡ class_for (class_of e.kind) (key_in (class_of e.kind) e)
  pub kind : kind_in s ≡ e.kind
  pub pubkey : pubkey_bytes s ≡ e.pubkey
  pub d_none : class_of e.kind ≢ Addressable → d_bytes_in s ≡ []
  pub d_there : class_of e.kind ≡ Addressable → d_bytes_in s ≡ escape (d_of e.tags)

pub slot_of_lem : (s : List ℕ) → slot_sound s ≡ true → (e : Event) × Slot s e
unfolding class_of_text class_of_event key_of pubkey_bytes d_bytes_in is_tags
slot_of_lem s ok =
    let (e, r) = sound_event s ok in
    let t = read_same (text_in s) e r in
    let p = d_place_lem s e ok r in (
      e,
      record {
        class = ap class_in r;
        kind = sound_kind s ok e r;
        pubkey = pubkey_stands (text_in s) e t;
        d_none = λ n. rw (p.nowhere (inl n));
        d_there = p.stands;
      },
    )

-- pubkey and d's bytes are those of slot s
abbrev alike : List ℕ → List ℕ → Bool
alike s t = same_bytes (pubkey_bytes t) (pubkey_bytes s) && same_bytes (d_bytes_in t) (d_bytes_in s)

-- ---- keys of different kinds differ
key_apart : (c d : Class) (e f : Event) → eqb e.kind f.kind ≡ false → share_key same_key (class_for c (key_in c e)) (class_for d (key_in d f)) ≡ false
key_apart Regular d e f h = refl
key_apart Ephemeral d e f h = refl
key_apart Replaceable Regular e f h = refl
key_apart Replaceable Ephemeral e f h = refl
key_apart Replaceable Replaceable e f h = rw h
key_apart Replaceable Addressable e f h = refl
key_apart Addressable Regular e f h = refl
key_apart Addressable Ephemeral e f h = refl
key_apart Addressable Replaceable e f h = refl
key_apart Addressable Addressable e f h = rw h

-- of one class: s holds e, t holds f
key_alike : (c : Class) (s t : List ℕ) (e f : Event) → Slot s e → Slot t f → class_of e.kind ≡ c → class_of f.kind ≡ c → eqb f.kind e.kind ≡ true
    → share_key same_key (class_for c (key_in c f)) (class_for c (key_in c e)) ≡ (has_key_in c && (same_bytes f.pubkey e.pubkey && same_bytes (d_bytes_in t) (d_bytes_in s)))
unfolding same_bytes
key_alike Regular s t e f a b p q h = refl
key_alike Ephemeral s t e f a b p q h = refl
key_alike Replaceable s t e f a b p q h =
    let x = same_bytes f.pubkey e.pubkey in
    let n = b.d_none (λ z. other (sym q ∙ z)) in
    let m = a.d_none (λ z. other (sym p ∙ z)) in
    rw (h, n, m) (and_comm true x)
  where
    other : Replaceable ≢ Addressable
    other z = let y : ◌≡◌ {A = ℕ} 0 1 = cc in omega arith
key_alike Addressable s t e f a b p q h =
    rw (h, b.d_there q, a.d_there p, same_escaped (d_of f.tags) (d_of e.tags))

pub key_same : (s t : List ℕ) → slot_sound s ≡ true → slot_sound t ≡ true → has_key signed_events (in_slot s) (in_slot t) ≡ same_key_in s t
unfolding same_key_in
key_same s t ok on =
    let (e, a) = slot_of_lem s ok in
    let (f, b) = slot_of_lem t on in
    ap₂ (share_key same_key) b.class a.class ∙ go e f a b (eqb f.kind e.kind) refl
    ∙ sym (ap₂ (λ j k. eqb j k && (has_key_in (class_of j) && alike s t)) b.kind a.kind)
  where
    go : (e f : Event) → Slot s e → Slot t f → (x : Bool) → eqb f.kind e.kind ≡ x
        → share_key same_key (class_for (class_of f.kind) (key_in (class_of f.kind) f)) (class_for (class_of e.kind) (key_in (class_of e.kind) e))
        ≡ (eqb f.kind e.kind && (has_key_in (class_of f.kind) && alike s t))
    go e f a b false h = key_apart (class_of f.kind) (class_of e.kind) f e h ∙ sym (ap (◌&& (has_key_in (class_of f.kind) && alike s t)) h)
    go e f a b true h =
        let c = ap class_of (eqb-true f.kind e.kind h) in
        ap (λ d. share_key same_key (class_for (class_of f.kind) (key_in (class_of f.kind) f)) (class_for d (key_in d e))) (sym c)
        ∙ key_alike (class_of f.kind) s t e f a b (sym c) refl h
        ∙ ap (◌&& (has_key_in (class_of f.kind) && (same_bytes f.pubkey e.pubkey && same_bytes (d_bytes_in t) (d_bytes_in s)))) (sym h)
        ∙ ap (λ k. eqb f.kind e.kind && (has_key_in (class_of f.kind) && (k && same_bytes (d_bytes_in t) (d_bytes_in s)))) (sym (ap₂ same_bytes b.pubkey a.pubkey))

-- ---- the whole table
pub apart_is : (b : List ℕ) → slots_sound b ≡ true → (no_id_twice b && no_key_twice b) ≡ none_twice clash (slots_from b 0 (count_of b))
unfolding slots_sound no_id_twice no_key_twice view slots_from clash same_id_in
apart_is b ok =
    let l = held_slots b in
    ap₂ ◌&&◌ (none_map in_slot (has_id signed_events) l)
    (none_map in_slot (has_key signed_events) l ∙ none_as slot_sound (λ s t. has_key signed_events (in_slot s) (in_slot t)) same_key_in key_same l ok)
    ∙ none_or (λ s t. same_bytes (id_in t) (id_in s)) same_key_in l

-- ---- the key of two slots, test by test
module _ (s t : List ℕ) {j k : ℕ} (a : k ≡ field_at t 104 2) (b : j ≡ field_at s 104 2) where
  pub other_kinds : (k ≡ j → ⊥) → false ≡ same_key_in s t
  unfolding same_key_in kind_in
  other_kinds n = sym (ap (◌&& (has_key_in (class_of (kind_in t)) && alike s t)) (ne_eqb (field_at t 104 2) (field_at s 104 2) (λ e. n (a ∙ e ∙ sym b))))

  module _ (e : k ≡ j) {x : Bool} (c : x ≡ has_key_in (class_of k)) where
    kinds : eqb (field_at t 104 2) (field_at s 104 2) ≡ true
    kinds = eq-eqb (field_at t 104 2) (field_at s 104 2) (sym a ∙ e ∙ b)

    by_key : same_key_in s t ≡ (x && alike s t)
    unfolding same_key_in kind_in
    by_key = ap (◌&& (has_key_in (class_of (field_at t 104 2)) && alike s t)) kinds
        ∙ ap (◌&& alike s t) (ap (λ n. has_key_in (class_of n)) (sym a) ∙ sym c)

    pub no_key : x ≡ false → false ≡ same_key_in s t
    no_key f = sym (by_key ∙ ap (◌&& alike s t) f)

    module _ (f : x ≡ true) {y : Bool} (g : y ≡ same_bytes (pubkey_bytes t) (pubkey_bytes s)) where
      pub other_pubkey : y ≡ false → false ≡ same_key_in s t
      other_pubkey h = sym (by_key ∙ ap (◌&& alike s t) f ∙ ap (◌&& same_bytes (d_bytes_in t) (d_bytes_in s)) (sym g ∙ h))

      pub d_decides : {z : Bool} → y ≡ true → z ≡ same_bytes (d_bytes_in t) (d_bytes_in s) → z ≡ same_key_in s t
      d_decides h k = k ∙ sym (by_key ∙ ap (◌&& alike s t) f ∙ ap (◌&& same_bytes (d_bytes_in t) (d_bytes_in s)) (sym g ∙ h))
