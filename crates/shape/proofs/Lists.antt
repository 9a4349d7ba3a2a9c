-- Arrays: where every element from a number on has one form, the rows of the whole are those of some element, and of
-- the count.
use mathlib.Core.Path.{◌≡◌, refl, ap, ◌∙◌}
use mathlib.Core.List.{List, []}
use mathlib.Core.Bool.{Bool, true, false, not, ◌&&◌, ◌||◌, or-false, or_comm}
use Prim.Native.Nat.{ℕ, suc, ◌+◌, ◌≤◌}
use native.Mathlib.Nat.{add-zero, zero-add}
use native.Mathlib.Omega.{arith}
use Rattle.json_tree.specs.Tree.{Json, word, num, str, arr, obj, Items, nil, item, of_array}
use Rattle.rows.specs.Strings.{refused_in, refused_items}
use Rattle.shape.specs.declared.Tally.{Tally}
use Rattle.shape.specs.Shape.{any_item, all_items, count_items, count, is_string, is_number, is_array_of}
use Rattle.wire.specs.Limits.{most_tags, most_strings, most_members}
use Rattle.shape.specs.Rows.{outside, wrong_small, wrong_hex, wrong_tag, wrong_tags, wrong_list}
use Rattle.shape.specs.Offsets.{collect}
use Rattle.shape.specs.Inner.{TEXT, HEX64, SMALL, TAGLIST, TAG, TEXTS, HEXES, SMALLS, string_form, string_fault}
use Rattle.shape.specs.Inner.{number_fault, group_form, item_of, element_form, fresh, end_fault, closed, fault_of}
use Rattle.shape.specs.Inner.{fault_items}
use Rattle.shape.proofs.Low.{placed_at, low, Lowest, After, said, after_said, ends, begins, not_both, either_first}
use Rattle.shape.proofs.Never.{turn_after, never_after}
use Rattle.shape.proofs.Leaves.{place_if, bounds_is, text, hex64, small}

module _ (s : List ℕ) (f h k₀ : ℕ) (ok w₈ : Json → Bool) (w₆ w₇ : ℕ → Json → List ℕ) (c₅ c₈ : ℕ → Bool)
    (inner : (v : ℕ) (t : Json) → Lowest (fault_of s h v t) (refused_in s t) (not (ok t)) (w₆ v t) (w₇ v t) (w₈ t))
    (form : (k : ℕ) → k₀ ≤ k → element_form f k ≡ h)
    (end : (k : ℕ) (a : Tally) → Lowest (end_fault f k a) false (c₅ k) [] [] (c₈ k)) where
  pub array_after : (k : ℕ) (a : Tally) (ts : Items) → k₀ ≤ k
      → After (fault_items s false f k a ts) a.fault (refused_items s false ts) (not (all_items (λ p t. ok t) ts) || c₅ (k + count ts)) (collect (λ p v t. w₆ v t) ts)
      (collect (λ p v t. w₇ v t) ts) (any_item (λ p t. w₈ t) ts || c₈ (k + count ts))
  unfolding fault_of refused_in item_of closed all_items any_item count_items collect
  array_after k a nil l = ends refl (rw (add-zero k) (end k a))
  array_after k a (item p v t ts) l =
      after_said refl (not_both (ok t) (all_items (λ p t. ok t) ts) _ ∙ ap (λ (n : ℕ). not (ok t && all_items (λ p t. ok t) ts) || c₅ n) more) refl refl
      (either_first (w₈ t) (any_item (λ p t. w₈ t) ts) _ ∙ ap (λ (n : ℕ). (w₈ t || any_item (λ p t. w₈ t) ts) || c₈ n) more)
      (turn_after s f false k p a value (array_after (k + 1) _ ts (omega arith)))
    where
      more : k + 1 + count ts ≡ k + suc (count ts)
      more = omega arith

      value : Lowest (fault_of s (element_form f k) v t) (refused_in s t) (not (ok t)) (w₆ v t) (w₇ v t) (w₈ t)
      value = rw (form k l) (inner v t)

-- ---- lists of a filter, and a tag: 1 to so many members of one form
pub no_item : (ts : Items) → any_item (λ p t. false) ts ≡ false
unfolding any_item
no_item nil = refl
no_item (item p v t ts) = no_item ts

pub no_place : (ts : Items) → collect (λ p v t. []) ts ≡ []
unfolding collect
no_place nil = refl
no_place (item p v t ts) = no_place ts

module _ (s : List ℕ) (f h most : ℕ) (ok : Json → Bool) (w₆ w₇ : ℕ → Json → List ℕ)
    (inner : (v : ℕ) (t : Json) → Lowest (fault_of s h v t) (refused_in s t) (not (ok t)) (w₆ v t) (w₇ v t) false)
    (form : (k : ℕ) → 0 ≤ k → element_form f k ≡ h)
    (end : (k : ℕ) (a : Tally) → Lowest (end_fault f k a) false false [] [] (outside 1 most k)) where
  members : (ts : Items)
      → Lowest (fault_items s false f 0 fresh ts) (refused_items s false ts) (not (all_items (λ p t. ok t) ts)) (collect (λ p v t. w₆ v t) ts) (collect (λ p v t. w₇ v t) ts)
      (outside 1 most (count ts))
  unfolding fresh
  members ts =
      said refl (or-false _) refl refl (ap (λ (x : Bool). x || outside 1 most (0 + count ts)) (no_item ts) ∙ ap (outside 1 most) (zero-add (count ts)))
      (begins (array_after s f h 0 ok (λ t. false) w₆ w₇ (λ k. false) (outside 1 most) inner form end 0 fresh ts (omega arith)))

-- the places of the members of a list of which g holds
abbrev pub list_places : (g : Json → Bool) (t : Json) → List ℕ
list_places g t = of_array [] (collect (λ p v u. place_if (g u) v)) t

module _ (s : List ℕ) (v : ℕ) where
  pub tag : (t : Json) → Lowest (fault_of s TAG v t) (refused_in s t) (not (is_array_of is_string t)) [] [] (wrong_tag t)
  unfolding low placed_at fault_of refused_in string_fault string_form number_fault group_form fresh wrong_tag element_form end_fault
  tag (word a n) = record { is = refl }
  tag (num a n) = record { is = refl }
  tag (str a n) = record { is = refl }
  tag (arr ts) = said refl refl (no_place ts) (no_place ts) refl (members s TAG TEXT most_strings is_string (λ v t. []) (λ v t. []) (text s) (λ k l. refl) (λ k a. record { is = bounds_is 1 most_strings k }) ts)
  tag (obj ts) = begins (never_after s true 0 fresh ts)

  pub texts : (t : Json) → Lowest (fault_of s TEXTS v t) (refused_in s t) (not (is_array_of is_string t)) [] [] (wrong_list t)
  unfolding low placed_at fault_of refused_in string_fault string_form number_fault group_form fresh wrong_list element_form end_fault
  texts (word a n) = record { is = refl }
  texts (num a n) = record { is = refl }
  texts (str a n) = record { is = refl }
  texts (arr ts) = said refl refl (no_place ts) (no_place ts) refl (members s TEXTS TEXT most_members is_string (λ v t. []) (λ v t. []) (text s) (λ k l. refl) (λ k a. record { is = bounds_is 1 most_members k }) ts)
  texts (obj ts) = begins (never_after s true 0 fresh ts)

  pub hexes : (t : Json) → Lowest (fault_of s HEXES v t) (refused_in s t) (not (is_array_of is_string t)) [] (list_places (wrong_hex 64 s) t) (wrong_list t)
  unfolding low placed_at fault_of refused_in string_fault string_form number_fault group_form fresh wrong_list element_form end_fault
  hexes (word a n) = record { is = refl }
  hexes (num a n) = record { is = refl }
  hexes (str a n) = record { is = refl }
  hexes (arr ts) = said refl refl (no_place ts) refl refl (members s HEXES HEX64 most_members is_string (λ v t. []) (λ v t. place_if (wrong_hex 64 s t) v) (hex64 s) (λ k l. refl) (λ k a. record { is = bounds_is 1 most_members k }) ts)
  hexes (obj ts) = begins (never_after s true 0 fresh ts)

  pub smalls : (t : Json) → Lowest (fault_of s SMALLS v t) (refused_in s t) (not (is_array_of is_number t)) (list_places (wrong_small s) t) [] (wrong_list t)
  unfolding low placed_at fault_of refused_in string_fault string_form number_fault group_form fresh wrong_list element_form end_fault
  smalls (word a n) = record { is = refl }
  smalls (num a n) = record { is = refl }
  smalls (str a n) = record { is = refl }
  smalls (arr ts) = said refl refl refl (no_place ts) refl (members s SMALLS SMALL most_members is_number (λ v t. place_if (wrong_small s t) v) (λ v t. []) (small s) (λ k l. refl) (λ k a. record { is = bounds_is 1 most_members k }) ts)
  smalls (obj ts) = begins (never_after s true 0 fresh ts)

-- ---- the tags of an event
pub tags : (s : List ℕ) (v : ℕ) (t : Json) → Lowest (fault_of s TAGLIST v t) (refused_in s t) (not (is_array_of (is_array_of is_string) t)) [] [] (wrong_tags t)
unfolding low placed_at fault_of refused_in string_fault string_form number_fault group_form fresh element_form end_fault
tags s v (word a n) = record { is = refl }
tags s v (num a n) = record { is = refl }
tags s v (str a n) = record { is = refl }
tags s v (arr ts) =
    said refl (or-false _) (no_place ts) (no_place ts) (or_comm (any_item (λ q u. wrong_tag u) ts) (outside 0 most_tags (0 + count ts)) ∙ ap (λ (n : ℕ). outside 0 most_tags n || any_item (λ q u. wrong_tag u) ts) (zero-add (count ts)))
    (begins
    (array_after s TAGLIST TAG 0 (is_array_of is_string) wrong_tag (λ v t. []) (λ v t. []) (λ k. false) (outside 0 most_tags) (tag s) (λ k l. refl) (λ k a. record { is = bounds_is 0 most_tags k }) 0
    fresh ts (omega arith)))
tags s v (obj ts) = begins (never_after s true 0 fresh ts)
