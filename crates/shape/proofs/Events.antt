-- EVENT: the seven members, each once. Where no slot is taken twice and all seven are taken, each name is there once,
-- and the other way.
use mathlib.Core.Path.{◌≡◌, refl, sym, ap, ◌∙◌}
use mathlib.Core.List.{List, []}
use mathlib.Core.Bool.{Bool, true, false, cond, not, ◌&&◌, ◌||◌, or-false}
use Prim.Native.Nat.{ℕ, zero, suc, ◌≤◌, ◌<◌}
use native.Mathlib.Omega.{arith}
use borrow.Author.Tests.{lt-ltb, eq-eqb, eqb-true, ltb-true}
use lib.Dec.{eqb, ltb}
use Rattle.json_tree.specs.Tree.{Json, word, num, str, arr, obj, Items, nil, item, on_object, of_object}
use Rattle.wire.specs.Limits.{hex_length}
use Rattle.wire.specs.Bytes.{same_bytes}
use Rattle.rows.specs.Strings.{refused_in}
use Rattle.shape.specs.Shape.{all_items, any_item, count_items, name_at, named, id_name, pubkey_name, created_at_name}
use Rattle.shape.specs.Shape.{kind_name, tags_name, content_name, sig_name, event_member, once, is_event, is_string}
use Rattle.shape.specs.Rows.{wrong_small, wrong_hex, event_number, event_hex, event_count}
use Rattle.shape.specs.Offsets.{value_places, member_places}
use Rattle.shape.specs.Inner.{SHAPE, no_fault, UNKNOWN, EVENT, string_form, string_fault, number_fault, group_form}
use Rattle.shape.specs.Inner.{name_slot, event_slot, event_form, member_form, bit_of, is_in, is_full, fresh, end_fault}
use Rattle.shape.specs.Inner.{fault_of}
use Rattle.shape.proofs.Names.{no, and_left, and_right, both_ways}
use Rattle.shape.proofs.Bits.{in_none, full_bits}
use Rattle.shape.proofs.Low.{placed_at, low, Lowest, said, begins}
use Rattle.shape.proofs.Never.{never, never_after}
use Rattle.shape.proofs.Leaves.{text, hex64, hex128, time, small}
use Rattle.shape.proofs.Lists.{tags}
use Rattle.shape.proofs.Placed.{own_time, own_small, own_hex}
use Rattle.shape.proofs.Objects.{twice, taken, no_two, slot_at, bit_at, object_after, count_same, any_count, twice_none}
use Rattle.shape.proofs.Objects.{taken_is, most_one, one_each, eqb_turned}
use Rattle.shape.proofs.Known.{event_cases, event_back, event_back_lem, event_bit, same_bit}

module _ (s : List ℕ) where
  -- ---- one member
  -- the places of its number, of its hex
  abbrev pub number_at : (p v : ℕ) (t : Json) → List ℕ
  number_at p v t = cond (event_number s p t) (value_places (wrong_small s) v t) []

  abbrev pub hex_at : (p v : ℕ) (t : Json) → List ℕ
  hex_at p v t = cond (event_hex s p t) (value_places (wrong_hex hex_length s) v t) []

  member : (p v : ℕ) (t : Json) → Lowest (fault_of s (member_form EVENT (slot_at s EVENT p)) v t) (refused_in s t) (not (event_member s p t)) (number_at p v t) (hex_at p v t) (event_count s p t)
  unfolding member_form name_slot event_form event_slot event_member event_number event_hex event_count same_bytes
  member p v t =
      event_cases
      (λ w. name_at s p ≡ w → Lowest (fault_of s (member_form EVENT (slot_at s EVENT p)) v t) (refused_in s t) (not (event_member s p t)) (number_at p v t) (hex_at p v t) (event_count s p t))
      (λ e. rw e hex) (λ e. rw e hex) (λ e. rw e (said refl refl (own_time s (wrong_small s) v t) refl refl (time s v t))) (λ e. rw e (said refl refl (own_small s (wrong_small s) v t) refl refl (small s v t)))
      (λ e. rw e (tags s v t)) (λ e. rw e (text s v t)) (λ e. rw e (said refl refl refl (own_hex s (wrong_hex hex_length s) v 128 t) refl (hex128 s v t)))
      (λ w a b c d f g h e. rw (e, a, b, c, d, f, g, h) (never s v t)) (name_at s p) refl
    where
      hex : Lowest (fault_of s 3 v t) (refused_in s t) (not (is_string t)) [] (cond (wrong_hex 64 s t) (value_places (wrong_hex hex_length s) v t) []) false
      hex = said refl refl refl (own_hex s (wrong_hex hex_length s) v 64 t) refl (hex64 s v t)

  known : (p : ℕ) (t : Json) → event_member s p t ≡ true → ltb (bit_at s EVENT p) 7 ≡ true
  unfolding name_slot event_slot event_member same_bytes
  known p t =
      event_cases (λ w. name_at s p ≡ w → event_member s p t ≡ true → ltb (bit_at s EVENT p) 7 ≡ true) (λ e m. rw e) (λ e m. rw e) (λ e m. rw e) (λ e m. rw e) (λ e m. rw e)
      (λ e m. rw e) (λ e m. rw e) (λ w a b c d f g h e m. no (let z : false ≡ true = rw (e, a, b, c, d, f, g, h) at m in cc)) (name_at s p) refl

  all_known : (ts : Items) → all_items (event_member s) ts ≡ true → all_items (λ p t. ltb (bit_at s EVENT p) 7) ts ≡ true
  unfolding all_items
  all_known nil e = refl
  all_known (item p v t ts) e = rw (known p t (and_left (event_member s p t) _ e)) (all_known ts (and_right (event_member s p t) _ e))

  -- ---- each of the seven
  module _ (ts : Items) where
    times : ℕ → ℕ
    times j = count_items (λ p t. eqb j (bit_at s EVENT p)) ts

    name_times : (w : List ℕ) → (event_slot w ≡ UNKNOWN → ⊥) → times (bit_of (event_slot w)) ≡ count_items (λ p t. named s w p) ts
    unfolding times name_slot
    name_times w n = count_same _ _ (λ p t. eqb_turned (bit_of (event_slot w)) (bit_of (event_slot (name_at s p))) ∙ same_bit event_slot event_back event_back_lem event_bit (name_at s p) w n) ts

    there_times : (j : ℕ) → is_in j (taken (bit_at s EVENT) 0 ts) ≡ ltb 0 (times j)
    unfolding times
    there_times j = taken_is (bit_at s EVENT) j 0 ts ∙ ap (λ (x : Bool). x || any_item (λ p t. eqb j (bit_at s EVENT p)) ts) (in_none j) ∙ any_count _ ts

    one : (w : List ℕ) (n : event_slot w ≡ UNKNOWN → ⊥) → no_two (bit_at s EVENT) ts ≡ true → is_in (bit_of (event_slot w)) (taken (bit_at s EVENT) 0 ts) ≡ true → once s w ts ≡ true
    unfolding once times
    one w n e h =
        let most = most_one (bit_at s EVENT) ts e (bit_of (event_slot w)) in
        let some = ltb-true 0 (times (bit_of (event_slot w))) (sym (there_times (bit_of (event_slot w))) ∙ h) in
        eq-eqb _ _ (sym (name_times w n) ∙ omega arith)

    is_one : (w : List ℕ) (n : event_slot w ≡ UNKNOWN → ⊥) → once s w ts ≡ true → times (bit_of (event_slot w)) ≡ 1
    unfolding once
    is_one w n e = name_times w n ∙ eqb-true _ _ e

    both : (x y : Bool) → x ≡ true → y ≡ true → (x && y) ≡ true
    both x y p q = rw (p, q)

    each_once : Bool
    each_once = once s id_name ts && (once s pubkey_name ts && (once s created_at_name ts && (once s kind_name ts && (once s tags_name ts && (once s content_name ts && once s sig_name ts)))))

    there : no_two (bit_at s EVENT) ts ≡ true → is_full (taken (bit_at s EVENT) 0 ts) ≡ true → each_once ≡ true
    unfolding each_once event_slot same_bytes
    there e h =
        let m = taken (bit_at s EVENT) 0 ts in
        let h₀ = sym (full_bits m) ∙ h in
        let h₁ = and_right (is_in 0 m) _ h₀ in
        let h₂ = and_right (is_in 1 m) _ h₁ in
        let h₃ = and_right (is_in 2 m) _ h₂ in
        let h₄ = and_right (is_in 3 m) _ h₃ in
        let h₅ = and_right (is_in 4 m) _ h₄ in
        both _ _ (one id_name (λ z. omega arith) e (and_left (is_in 0 m) _ h₀))
        (both _ _ (one pubkey_name (λ z. omega arith) e (and_left (is_in 1 m) _ h₁))
        (both _ _ (one created_at_name (λ z. omega arith) e (and_left (is_in 2 m) _ h₂))
        (both _ _ (one kind_name (λ z. omega arith) e (and_left (is_in 3 m) _ h₃))
        (both _ _ (one tags_name (λ z. omega arith) e (and_left (is_in 4 m) _ h₄))
        (both _ _ (one content_name (λ z. omega arith) e (and_left (is_in 5 m) _ h₅)) (one sig_name (λ z. omega arith) e (and_right (is_in 5 m) _ h₅)))))))

    in_it : (j : ℕ) → times j ≡ 1 → is_in j (taken (bit_at s EVENT) 0 ts) ≡ true
    in_it j c = there_times j ∙ lt-ltb 0 (times j) (omega arith)

    -- where each of the seven is there once
    module _ (c₀ : times 0 ≡ 1) (c₁ : times 1 ≡ 1) (c₂ : times 2 ≡ 1) (c₃ : times 3 ≡ 1) (c₄ : times 4 ≡ 1) (c₅ : times 5 ≡ 1) (c₆ : times 6 ≡ 1) where
      most : (j : ℕ) → j < 7 → times j ≤ 1
      most zero h = omega (arith, c₀)
      most (suc zero) h = omega (arith, c₁)
      most (suc (suc zero)) h = omega (arith, c₂)
      most (suc (suc (suc zero))) h = omega (arith, c₃)
      most (suc (suc (suc (suc zero)))) h = omega (arith, c₄)
      most (suc (suc (suc (suc (suc zero))))) h = omega (arith, c₅)
      most (suc (suc (suc (suc (suc (suc zero)))))) h = omega (arith, c₆)
      most (suc (suc (suc (suc (suc (suc (suc j))))))) h = absurd (omega arith)

      seven : all_items (event_member s) ts ≡ true → (no_two (bit_at s EVENT) ts && is_full (taken (bit_at s EVENT) 0 ts)) ≡ true
      unfolding times
      seven a =
          both _ _ (one_each (bit_at s EVENT) 7 ts (all_known ts a) most)
          (full_bits (taken (bit_at s EVENT) 0 ts)
          ∙ both _ _ (in_it 0 c₀) (both _ _ (in_it 1 c₁) (both _ _ (in_it 2 c₂) (both _ _ (in_it 3 c₃) (both _ _ (in_it 4 c₄) (both _ _ (in_it 5 c₅) (in_it 6 c₆)))))))

    back : all_items (event_member s) ts ≡ true → each_once ≡ true → (no_two (bit_at s EVENT) ts && is_full (taken (bit_at s EVENT) 0 ts)) ≡ true
    unfolding each_once event_slot same_bytes
    back a e =
        let e₁ = and_right (once s id_name ts) _ e in
        let e₂ = and_right (once s pubkey_name ts) _ e₁ in
        let e₃ = and_right (once s created_at_name ts) _ e₂ in
        let e₄ = and_right (once s kind_name ts) _ e₃ in
        let e₅ = and_right (once s tags_name ts) _ e₄ in
        seven (is_one id_name (λ z. omega arith) (and_left (once s id_name ts) _ e)) (is_one pubkey_name (λ z. omega arith) (and_left (once s pubkey_name ts) _ e₁))
        (is_one created_at_name (λ z. omega arith) (and_left (once s created_at_name ts) _ e₂)) (is_one kind_name (λ z. omega arith) (and_left (once s kind_name ts) _ e₃))
        (is_one tags_name (λ z. omega arith) (and_left (once s tags_name ts) _ e₄)) (is_one content_name (λ z. omega arith) (and_left (once s content_name ts) _ e₅))
        (is_one sig_name (λ z. omega arith) (and_right (once s content_name ts) _ e₅)) a

    each_once_lem : (not (all_items (event_member s) ts) || (twice (bit_at s EVENT) 0 ts || not (is_full (taken (bit_at s EVENT) 0 ts)))) ≡ not (all_items (event_member s) ts && each_once)
    each_once_lem = go (all_items (event_member s) ts) refl
      where
        not_and : (x y : Bool) → (not x || not y) ≡ not (x && y)
        not_and true y = refl
        not_and false y = refl

        go : (x : Bool) → all_items (event_member s) ts ≡ x → (not x || (twice (bit_at s EVENT) 0 ts || not (is_full (taken (bit_at s EVENT) 0 ts)))) ≡ not (x && each_once)
        go false a = refl
        go true a =
            let n = no_two (bit_at s EVENT) ts in
            let f = is_full (taken (bit_at s EVENT) 0 ts) in
            ap (λ (x : Bool). x || not f) (twice_none (bit_at s EVENT) ts) ∙ not_and n f
            ∙ ap not (both_ways (n && f) each_once (λ e. there (and_left n f e) (and_right n f e)) (back a))

  -- ---- the whole
  pub event : (v : ℕ) (t : Json)
      → Lowest (fault_of s EVENT v t) (refused_in s t) (not (is_event s t)) (of_object [] (member_places (event_number s) (wrong_small s)) t)
      (of_object [] (member_places (event_hex s) (wrong_hex hex_length s)) t) (on_object (any_item (event_count s)) t)
  unfolding low placed_at fault_of refused_in string_fault string_form number_fault group_form fresh end_fault is_event each_once
  event v (word a n) = record { is = refl }
  event v (num a n) = record { is = refl }
  event v (str a n) = record { is = refl }
  event v (arr ts) = begins (never_after s false 0 fresh ts)
  event v (obj ts) =
      said refl (each_once_lem ts) refl refl (or-false (any_item (event_count s) ts))
      (begins (object_after s EVENT (event_member s) (event_count s) number_at hex_at (λ m. not (is_full m)) (λ n. false) member (λ k a. record { is = ends (is_full a.seen) }) 0 fresh ts))
    where
      ends : (x : Bool) → cond x no_fault SHAPE ≡ cond (not x) SHAPE no_fault
      ends true = refl
      ends false = refl
