-- Filters: each name at most once, which is each slot at most once; and the # conditions counted to one more than may
-- be.
use mathlib.Core.Path.{◌≡◌, refl, sym, ap, ◌∙◌}
use mathlib.Core.List.{List, [], ◌∷◌}
use mathlib.Core.Bool.{Bool, true, false, cond, not, ◌&&◌, ◌||◌, or-false}
use Prim.Native.Nat.{ℕ, suc, ◌+◌, ◌-◌, ◌≤◌, min}
use native.Mathlib.Omega.{arith}
use borrow.Author.Tests.{lt-ltb, le-ltb, ltb-true, ltb-false, le-leb, eqb-true, eqb-false, ne_eqb}
use lib.Dec.{ltb, eqb}
use Rattle.json_tree.specs.Tree.{Json, word, num, str, arr, obj, Items, nil, item, on_object, of_object}
use Rattle.json_tree.specs.Grammar.{is_between}
use Rattle.wire.specs.Limits.{most_conditions, hex_length}
use Rattle.wire.specs.Bytes.{same_bytes}
use Rattle.wire.proofs.Bytes.{same_equal}
use Rattle.rows.specs.Strings.{refused_in}
use Rattle.shape.specs.Shape.{all_items, any_item, count_items, name_at, is_string, is_array_of, is_letter, is_condition}
use Rattle.shape.specs.Shape.{filter_member}
use Rattle.shape.specs.Shape.{no_name_twice, is_filter, e_condition_name, p_condition_name}
use Rattle.shape.specs.Rows.{outside, wrong_small, wrong_hex, filter_number, wrong_hexes, filter_hex, wrong_filter, wrong_list}
use Rattle.shape.specs.Rows.{filter_counts}
use Rattle.shape.specs.Offsets.{value_places, member_places}
use Rattle.shape.specs.Inner.{UNKNOWN, LOWER, UPPER, LETTER_E, LETTER_P, FILTER, TEXTS, string_form, string_fault}
use Rattle.shape.specs.Inner.{number_fault, group_form, name_slot, letter_slot, condition_slot, filter_slot, filter_form}
use Rattle.shape.specs.Inner.{member_form, marks_after, fresh, end_fault, fault_of}
use Rattle.shape.proofs.Names.{no, and_left, and_right, within_ends}
use Rattle.shape.proofs.Low.{placed_at, low, Lowest, said, begins}
use Rattle.shape.proofs.Never.{never, never_after}
use Rattle.shape.proofs.Leaves.{bounds_is, time, small}
use Rattle.shape.proofs.Lists.{texts, hexes, smalls}
use Rattle.shape.proofs.Placed.{lists, own_time, own_small}
use Rattle.shape.proofs.Objects.{twice, marked, no_two, slot_at, bit_at, object_after, any_same, twice_none}
use Rattle.shape.proofs.Known.{filter_cases, filter_back, filter_back_lem, condition_slot_lem, filter_bit, same_bit}

-- ---- the slot of a condition
letter_high : (b : ℕ) → is_letter b ≡ true → LOWER ≤ letter_slot b
unfolding letter_slot
letter_high b e = go (is_between 97 122 b) refl (is_between 65 90 b) refl e
  where
    go : (x : Bool) → is_between 97 122 b ≡ x → (y : Bool) → is_between 65 90 b ≡ y → (x || y) ≡ true → LOWER ≤ cond x (b - 97 + LOWER) (cond y (b - 65 + UPPER) UNKNOWN)
    go true p y q e = omega arith
    go false p true q e = omega arith
    go false p false q e = no cc

-- a letter other than e and p
letter_other : (b : ℕ) → is_letter b ≡ true → eqb b 101 ≡ false → eqb b 112 ≡ false → (letter_slot b ≡ LETTER_E → ⊥) × (letter_slot b ≡ LETTER_P → ⊥)
unfolding letter_slot
letter_other b l e p = let m = eqb-false b 101 e in let n = eqb-false b 112 p in go (is_between 97 122 b) refl (is_between 65 90 b) refl m n l
  where
    go : (x : Bool) → is_between 97 122 b ≡ x → (y : Bool) → is_between 65 90 b ≡ y → (b ≡ 101 → ⊥) → (b ≡ 112 → ⊥) → (x || y) ≡ true
        → (cond x (b - 97 + LOWER) (cond y (b - 65 + UPPER) UNKNOWN) ≡ LETTER_E → ⊥) × (cond x (b - 97 + LOWER) (cond y (b - 65 + UPPER) UNKNOWN) ≡ LETTER_P → ⊥)
    go true p y q m n e = let w = within_ends 97 122 b p in (λ z. omega arith, λ z. omega arith)
    go false p true q m n e = (λ z. omega arith, λ z. omega arith)
    go false p false q m n e = no cc

-- a name that is no condition is neither #e nor #p
other_name : (w : List ℕ) (b : ℕ) → is_letter b ≡ true → is_condition w ≡ false → same_bytes w (35 ∷ b ∷ []) ≡ false
unfolding is_condition
other_name w b l e = go (same_bytes w (35 ∷ b ∷ [])) refl
  where
    go : (x : Bool) → same_bytes w (35 ∷ b ∷ []) ≡ x → x ≡ false
    go true q = no (let i : is_condition w ≡ true = rw (same_equal w _ q) l in cc)
    go false q = refl

condition_form : (n : ℕ) → LOWER ≤ n → (n ≡ LETTER_E → ⊥) × (n ≡ LETTER_P → ⊥) → filter_form n ≡ TEXTS
unfolding filter_form
condition_form n h (e, p) = rw (ne_eqb n LETTER_E e, ne_eqb n LETTER_P p, le-leb LOWER n h)

module _ (s : List ℕ) where
  -- ---- one member
  -- the places of its numbers, of its hex
  abbrev pub number_at : (p v : ℕ) (t : Json) → List ℕ
  number_at p v t = cond (filter_number s p t) (value_places (wrong_small s) v t) []

  abbrev pub hex_at : (p v : ℕ) (t : Json) → List ℕ
  hex_at p v t = cond (filter_hex s p t) (value_places (wrong_hex hex_length s) v t) []

  -- row 7 does not look at the list of another letter
  free_list : (b : ℕ) (t : Json) → eqb b 101 ≡ false → eqb b 112 ≡ false
      → cond (same_bytes (35 ∷ b ∷ []) e_condition_name) (wrong_hexes s t) (cond (same_bytes (35 ∷ b ∷ []) p_condition_name) (wrong_hexes s t) false) ≡ false
  unfolding same_bytes
  free_list b t x y = rw (x, y)

  hex_list : (v : ℕ) (t : Json) → Lowest (fault_of s 12 v t) (refused_in s t) (not (is_array_of is_string t)) [] (cond (wrong_hexes s t) (value_places (wrong_hex hex_length s) v t) []) (wrong_list t)
  hex_list v t = said refl refl refl (lists (wrong_hex hex_length s) v t) refl (hexes s v t)

  condition : (p v : ℕ) (t : Json) (b : ℕ) → name_at s p ≡ 35 ∷ b ∷ [] → is_letter b ≡ true
      → Lowest (fault_of s (member_form FILTER (slot_at s FILTER p)) v t) (refused_in s t) (not (filter_member s p t)) (number_at p v t) (hex_at p v t) (wrong_filter s p t)
  unfolding member_form name_slot filter_form filter_slot condition_slot letter_slot filter_member filter_number filter_hex wrong_filter same_bytes is_condition
  condition p v t b e l = go (eqb b 101) refl (eqb b 112) refl
    where
      go : (x : Bool) → eqb b 101 ≡ x → (y : Bool) → eqb b 112 ≡ y
          → Lowest (fault_of s (member_form FILTER (slot_at s FILTER p)) v t) (refused_in s t) (not (filter_member s p t)) (number_at p v t) (hex_at p v t) (wrong_filter s p t)
      go true x y q = rw (e, eqb-true b 101 x) (hex_list v t)
      go false x true q = rw (e, eqb-true b 112 q) (hex_list v t)
      go false x false q =
          rw (e, condition_slot_lem b, condition_form (letter_slot b) (letter_high b l) (letter_other b l x q), l)
          (said refl refl refl (sym (ap (λ (w : Bool). cond w (value_places (wrong_hex hex_length s) v t) []) (free_list b t x q))) refl (texts s v t))

  member : (p v : ℕ) (t : Json) → Lowest (fault_of s (member_form FILTER (slot_at s FILTER p)) v t) (refused_in s t) (not (filter_member s p t)) (number_at p v t) (hex_at p v t) (wrong_filter s p t)
  unfolding member_form name_slot filter_form filter_slot condition_slot filter_member filter_number filter_hex wrong_filter same_bytes is_condition
  member p v t =
      filter_cases
      (λ w. name_at s p ≡ w → Lowest (fault_of s (member_form FILTER (slot_at s FILTER p)) v t) (refused_in s t) (not (filter_member s p t)) (number_at p v t) (hex_at p v t) (wrong_filter s p t))
      (λ e. rw e (hex_list v t)) (λ e. rw e (hex_list v t)) (λ e. rw e (said refl refl (lists (wrong_small s) v t) refl refl (smalls s v t)))
      (λ e. rw e (said refl refl (own_time s (wrong_small s) v t) refl refl (time s v t))) (λ e. rw e (said refl refl (own_time s (wrong_small s) v t) refl refl (time s v t)))
      (λ e. rw e (said refl refl (own_small s (wrong_small s) v t) refl refl (small s v t)))
      (λ b l e. condition p v t b e l) (λ w a b c d f g h e. rw (e, a, b, c, d, f, g, h, other_name w 101 refl h, other_name w 112 refl h) (never s v t)) (name_at s p) refl

  known : (p : ℕ) (t : Json) → filter_member s p t ≡ true → slot_at s FILTER p ≡ UNKNOWN → ⊥
  unfolding name_slot filter_slot condition_slot filter_member same_bytes is_condition
  known p t =
      filter_cases (λ w. name_at s p ≡ w → filter_member s p t ≡ true → slot_at s FILTER p ≡ UNKNOWN → ⊥)
      (λ e m z. let y = rw e at z in omega arith) (λ e m z. let y = rw e at z in omega arith) (λ e m z. let y = rw e at z in omega arith)
      (λ e m z. let y = rw e at z in omega arith) (λ e m z. let y = rw e at z in omega arith) (λ e m z. let y = rw e at z in omega arith)
      (λ b l e m z. let y : letter_slot b ≡ UNKNOWN = rw (e, l) at z in let h = letter_high b l in omega arith)
      (λ w a b c d f g h e m z. no (let y : false ≡ true = rw (e, a, b, c, d, f, g, h) at m in cc)) (name_at s p) refl

  -- ---- each at most once
  two_same : (ts : Items) → all_items (filter_member s) ts ≡ true → no_two (bit_at s FILTER) ts ≡ no_name_twice s ts
  unfolding no_two no_name_twice all_items name_slot
  two_same nil e = refl
  two_same (item p v t ts) e =
      rw (
        any_same _ _ (λ q u. same_bit filter_slot filter_back filter_back_lem filter_bit (name_at s q) (name_at s p) (known p t (and_left (filter_member s p t) _ e))) ts,
        two_same ts (and_right (filter_member s p t) _ e),
      )

  none_twice_lem : (ts : Items) → (not (all_items (filter_member s) ts) || (twice (bit_at s FILTER) 0 ts || false)) ≡ not (all_items (filter_member s) ts && no_name_twice s ts)
  none_twice_lem ts = go (all_items (filter_member s) ts) refl
    where
      go : (x : Bool) → all_items (filter_member s) ts ≡ x → (not x || (twice (bit_at s FILTER) 0 ts || false)) ≡ not (x && no_name_twice s ts)
      go false a = refl
      go true a = or-false _ ∙ twice_none (bit_at s FILTER) ts ∙ ap not (two_same ts a)

  -- ---- the # conditions
  marks_one : (p n : ℕ) → marks_after (slot_at s FILTER p) n ≡ cond (is_condition (name_at s p)) (min (n + 1) 5) n
  unfolding marks_after name_slot filter_slot condition_slot same_bytes is_condition
  marks_one p n =
      filter_cases (λ w. name_at s p ≡ w → marks_after (slot_at s FILTER p) n ≡ cond (is_condition (name_at s p)) (min (n + 1) 5) n) (λ e. rw e) (λ e. rw e) (λ e. rw e)
      (λ e. rw e) (λ e. rw e) (λ e. rw e) (λ b l e. rw (e, l, le-ltb (letter_slot b) LOWER (letter_high b l))) (λ w a b c d f g h e. rw (e, a, b, c, d, f, g, h)) (name_at s p) refl

  marks_are : (n : ℕ) (ts : Items) → n ≤ 5 → marked (slot_at s FILTER) n ts ≡ min (n + count_items (λ p t. is_condition (name_at s p)) ts) 5
  unfolding marked count_items
  marks_are n nil h = omega arith
  marks_are n (item p v t ts) h = ap (λ (m : ℕ). marked (slot_at s FILTER) m ts) (marks_one p n) ∙ go (is_condition (name_at s p)) (λ m l. marks_are m ts l)
    where
      go : (x : Bool) → ((m : ℕ) → m ≤ 5 → marked (slot_at s FILTER) m ts ≡ min (m + count_items (λ p t. is_condition (name_at s p)) ts) 5)
          → marked (slot_at s FILTER) (cond x (min (n + 1) 5) n) ts ≡ min (n + cond x (suc (count_items (λ p t. is_condition (name_at s p)) ts)) (count_items (λ p t. is_condition (name_at s p)) ts)) 5
      go true f = f (min (n + 1) 5) (omega arith) ∙ omega arith
      go false f = f n h

  outside_most : (n : ℕ) → outside 0 most_conditions (min (0 + n) 5) ≡ outside 0 most_conditions n
  outside_most n = rw (le-ltb (min (0 + n) 5) 0 (omega arith), le-ltb n 0 (omega arith)) (go (ltb most_conditions n) refl)
    where
      go : (x : Bool) → ltb most_conditions n ≡ x → ltb most_conditions (min (0 + n) 5) ≡ ltb most_conditions n
      go true e = let h = ltb-true most_conditions n e in lt-ltb most_conditions (min (0 + n) 5) (omega arith) ∙ sym e
      go false e = let h = ltb-false most_conditions n e in le-ltb most_conditions (min (0 + n) 5) (omega arith) ∙ sym e

  -- ---- the whole
  pub filter : (v : ℕ) (t : Json)
      → Lowest (fault_of s FILTER v t) (refused_in s t) (not (is_filter s t)) (of_object [] (member_places (filter_number s) (wrong_small s)) t)
      (of_object [] (member_places (filter_hex s) (wrong_hex hex_length s)) t) (on_object (filter_counts s) t)
  unfolding low placed_at fault_of refused_in string_fault string_form number_fault group_form fresh end_fault is_filter filter_counts
  filter v (word a n) = record { is = refl }
  filter v (num a n) = record { is = refl }
  filter v (str a n) = record { is = refl }
  filter v (arr ts) = begins (never_after s false 0 fresh ts)
  filter v (obj ts) =
      said refl (none_twice_lem ts) refl refl
      (ap (λ (x : Bool). any_item (wrong_filter s) ts || x) (ap (outside 0 most_conditions) (marks_are 0 ts (omega arith)) ∙ outside_most (count_items (λ p t. is_condition (name_at s p)) ts)))
      (begins
      (object_after s FILTER (filter_member s) (wrong_filter s) number_at hex_at (λ m. false) (outside 0 most_conditions) member
      (λ k a. record { is = bounds_is 0 most_conditions a.marks }) 0 fresh ts))
