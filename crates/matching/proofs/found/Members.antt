-- The strings and the numbers of an array, written into the row one by one.
use Rattle.std.specs.Prelude.{Option, Some, None}
use mathlib.Core.Path.{◌≡◌, refl, sym, ap, ◌∙◌}
use mathlib.Core.Bool.{Bool, true, false, not, false≢true}
use mathlib.Core.List.{List, [], ◌∷◌, ◌++◌}
use Prim.Native.Nat.{ℕ, suc, ◌+◌, ◌*◌, ◌≤◌, ◌<◌}
use native.Mathlib.Omega.{arith}
use lib.IntN.{ℤ, pos, negsuc}
use lib.ListN.{length, set, drop, length-take, length-drop, length-set}
use Rattle.wire.specs.Bytes.{part}
use Rattle.wire.specs.Limits.{most_small}
use Rattle.spell.specs.Spell.{decode}
use Rattle.json_tree.specs.Grammar.{scalar_at, start_at}
use Rattle.json_tree.specs.Tree.{Json, word, num, str, arr, obj, Items, nil, item, Got, none, got, on_leaf, node}
use Rattle.json_tree.specs.Tree.{items_at, group_at, depth, tree_at, on_array}
use Rattle.json_tree.specs.declared.Kind.{Kind}
use Rattle.json_tree.specs.declared.Kind.TheVariants.{Str, Num, Word}
use Rattle.json_tree.specs.declared.Start.{Start}
use Rattle.json_tree.specs.declared.Start.TheVariants.{Leaf, Empty, Many}
use Rattle.json_tree.proofs.Trees.{tree_open}
use Rattle.numeral.specs.Whole.{whole_of, whole_answer, is_within}
use Rattle.numeral.specs.declared.Whole.{Whole}
use Rattle.numeral.specs.declared.Whole.TheVariants.{Value, Large, Malformed}
use Rattle.rows.specs.Strings.{spelled_at}
use Rattle.shape.specs.Shape.{any_item, is_array_of, is_string, is_number}
use Rattle.shape.specs.Rows.{wrong_list, wrong_small}
use Rattle.message.specs.Lists.{start_element, next_of}
use Rattle.message.specs.Parts.{whole_value, number_spelled}
use Rattle.message.specs.Lent.{value5, on_value, value_at, wrong_smalls}
use Rattle.message.proofs.Walks.{never, bind_got}
use Rattle.event.specs.Lent.{natural, string_of, strings_of}
use Rattle.event.proofs.Strings.{spelled_says}
use Rattle.query.specs.Filter.{strings_in, numbers_of, numbers_in}
use Rattle.matching.specs.Inner.Found.{spelled_by, numbers_by}
use Rattle.matching.specs.Inner.Steps.{placed}
use Rattle.matching.specs.Inner.Finds.{Finds, small_of, small_at}
use Rattle.matching.proofs.found.Lists.{Going, going_none, going_full, going_more, going_start}
use Rattle.matching.proofs.found.Lists.{take_past, store_one, store_two, strings_more, numbers_more}

-- ---- strings
abbrev pub Strings : List ℕ → ℕ → List ℕ → ℕ → List ℕ → Option ℕ → ℕ → Type 0
Strings m v before at row x n =
    Going 2 is_string (λ u. false) (spelled_by m) (string_of m) (strings_of m) m (strings_in m (tree_at m depth v)) before at row x n

none_of : (ts : Items) → any_item (λ q u. false) ts ≡ false
unfolding any_item
none_of nil = refl
none_of (item p w t ts) = none_of ts

none_wrong : (r : Got Json) → on_value (on_array (any_item (λ q u. false))) r ≡ false
none_wrong none = refl
none_wrong (got (word a n) m) = refl
none_wrong (got (num a n) m) = refl
none_wrong (got (str a n) m) = refl
none_wrong (got (arr ts) m) = none_of ts
none_wrong (got (obj ts) m) = refl

module _ (m : List ℕ) (v : ℕ) where
  pub strings_start : (row : List ℕ) (at : ℕ) {x : Option ℕ} → value5 (is_array_of is_string) m v ≡ false → on_value wrong_list (value_at m v) ≡ false → x ≡ placed (start_element (start_at m v)) → Strings m v row at row x 0
  unfolding spelled_by
  strings_start row at e d q =
      going_start 2 is_string (λ u. false) (spelled_by m) (string_of m) (strings_of m) m (strings_in m (tree_at m depth v)) v row at (λ r. refl) (λ ts n tr. sym (rw tr refl)) e (none_wrong (tree_at m depth v)) d q

  module _ {before : List ℕ} {at : ℕ} {row : List ℕ} {x : Option ℕ} {n : ℕ} (k : Strings m v before at row x n) where
    pub strings_none : n < 32 → x ≡ None → Finds (spelled_by m) (strings_in m (tree_at m depth v)) 32 before at n row
    unfolding strings_of
    strings_none h e = going_none 2 is_string (λ u. false) (spelled_by m) (string_of m) (strings_of m) m (strings_in m (tree_at m depth v)) refl (λ p w t ts. refl) k (omega arith) e

    pub strings_full : 32 ≤ n → Finds (spelled_by m) (strings_in m (tree_at m depth v)) 32 before at n row
    unfolding strings_of
    strings_full h =
        let s = k.size in
        let f = k.few in
        going_full 2 is_string (λ u. false) (spelled_by m) (string_of m) (strings_of m) m (strings_in m (tree_at m depth v)) refl (λ p w t ts. refl) k (omega arith) (omega arith)

    pub strings_next : {i : ℕ} (a l : ℕ) {y : Option ℕ} → x ≡ Some i → part m a l ≡ spelled_at m i → y ≡ placed (next_of m i) → at + 32 ≤ length before → n < 32
        → Strings m v before at (set (set row (at + n) a) (at + n + 1) l) y (n + 2)
    unfolding strings_of
    strings_next {i} a l e sp nx room h =
        let s = k.size in
        let lg = k.long in
        let in_row : at + n + 1 < length row = omega arith in
        let len : length (part row at n) ≡ k.done * 2 = length-take n (drop at row) ∙ (let d = length-drop at row in omega arith) in
        going_more 2 is_string (λ u. false) (spelled_by m) (string_of m) (strings_of m) m (strings_in m (tree_at m depth v)) refl (λ p w t ts. refl) k e nx (omega arith)
        (take_past at (set row (at + n) a) (at + n + 1) l (omega arith) ∙ take_past at row (at + n) a (omega arith))
        (length-set (set row (at + n) a) (at + n + 1) l ∙ length-set row (at + n) a)
        (λ t j tr ft gt.
        ap (spelled_by m) (store_two row at n a l in_row) ∙ strings_more m k.done (part row at n) a l len
        ∙ ap (λ (z : List ℕ). spelled_by m (part row at n) ++ (z ∷ [])) (ap decode sp ∙ spelled_says m i t j tr))

-- ---- the number at a place
module _ (s : List ℕ) (d v : ℕ) (t : Json) (k : ℕ) where
  number_says : tree_at s (suc d) v ≡ got t k → is_number t ≡ true → small_at s v ≡ natural (number_spelled s t)
  unfolding small_at
  number_says e h = on (start_at s v) (sym (tree_open s d v (start_at s v) refl) ∙ e)
    where
      same : (u : Json) (j x : ℕ) → got u j ≡ got t k → x ≡ natural (number_spelled s u) → x ≡ natural (number_spelled s t)
      same u j x q r = let z : u ≡ t = cc in r ∙ ap (λ y. natural (number_spelled s y)) z

      leaf : (c : Option Kind) → on_leaf s v c ≡ got t k → small_of s v c ≡ natural (number_spelled s t)
      leaf (Some (Str n)) q = same _ _ _ q refl
      leaf (Some (Num n)) q = same _ _ _ q refl
      leaf (Some (Word n)) q = same _ _ _ q refl
      leaf None q = never q

      other : {A : Type 0} (named : Bool) (us : Items) (j : ℕ) → got (node named us) j ≡ got t k → A
      other true us j q = let z : obj us ≡ t = cc in absurd (false≢true (ap is_number z ∙ h))
      other false us j q = let z : arr us ≡ t = cc in absurd (false≢true (ap is_number z ∙ h))

      on : (r : Start) → group_at (tree_at s d) s v r ≡ got t k → small_of s v (scalar_at s v) ≡ natural (number_spelled s t)
      on Leaf q = leaf (scalar_at s v) q
      on (Empty n named) q = other named nil _ q
      on (Many i named) q = let (us, j, w, r) = bind_got (items_at (tree_at s d) s named (length s) i) _ q in other named us j r

within_natural : (w : Whole) → not (is_within w (pos 0) (pos most_small)) ≡ false → pos (natural (whole_value w)) ≡ whole_value w
unfolding is_within
within_natural (Value (pos n)) e = refl
within_natural (Value (negsuc n)) e = absurd (false≢true (sym e))
within_natural Large e = absurd (false≢true (sym e))
within_natural Malformed e = absurd (false≢true (sym e))

small_says : (s : List ℕ) (v : ℕ) (t : Json) (k : ℕ) → tree_at s 7 v ≡ got t k → is_number t ≡ true → wrong_small s t ≡ false → pos (small_at s v) ≡ number_spelled s t
unfolding wrong_small
small_says s v (word a n) k e h w = absurd (false≢true h)
small_says s v (num a n) k e h w = ap pos (number_says s 6 v (num a n) k e h) ∙ within_natural (whole_answer (whole_of (part s a n))) w
small_says s v (str a n) k e h w = absurd (false≢true h)
small_says s v (arr ts) k e h w = absurd (false≢true h)
small_says s v (obj ts) k e h w = absurd (false≢true h)

pub small_is : (s : List ℕ) (at : ℕ) {o p : Option Kind} → o ≡ scalar_at s at → o ≡ p → small_of s at p ≡ small_at s at
unfolding small_at
small_is s at e q = ap (small_of s at) (sym q ∙ e)

-- ---- numbers
abbrev pub Numbers : List ℕ → ℕ → List ℕ → ℕ → List ℕ → Option ℕ → ℕ → Type 0
Numbers m v before at row x n =
    Going 1 is_number (wrong_small m) numbers_by (number_spelled m) (numbers_of m) m (numbers_in m (tree_at m depth v)) before at row x n

module _ (m : List ℕ) (v : ℕ) where
  pub numbers_start : (row : List ℕ) (at : ℕ) {x : Option ℕ} → value5 (is_array_of is_number) m v ≡ false → on_value (wrong_smalls m) (value_at m v) ≡ false → on_value wrong_list (value_at m v) ≡ false
      → x ≡ placed (start_element (start_at m v)) → Numbers m v row at row x 0
  unfolding numbers_by
  numbers_start row at e c d q =
      going_start 1 is_number (wrong_small m) numbers_by (number_spelled m) (numbers_of m) m (numbers_in m (tree_at m depth v)) v row at (λ r. refl) (λ ts n tr. sym (rw tr refl)) e c d q

  module _ {before : List ℕ} {at : ℕ} {row : List ℕ} {x : Option ℕ} {n : ℕ} (k : Numbers m v before at row x n) where
    pub numbers_none : n < 16 → x ≡ None → Finds numbers_by (numbers_in m (tree_at m depth v)) 16 before at n row
    numbers_none h e = going_none 1 is_number (wrong_small m) numbers_by (number_spelled m) (numbers_of m) m (numbers_in m (tree_at m depth v)) refl (λ p w t ts. refl) k (omega arith) e

    pub numbers_full : 16 ≤ n → Finds numbers_by (numbers_in m (tree_at m depth v)) 16 before at n row
    numbers_full h =
        let s = k.size in
        let f = k.few in
        going_full 1 is_number (wrong_small m) numbers_by (number_spelled m) (numbers_of m) m (numbers_in m (tree_at m depth v)) refl (λ p w t ts. refl) k (omega arith) (omega arith)

    pub numbers_next : {i a : ℕ} {y : Option ℕ} → x ≡ Some i → a ≡ small_at m i → y ≡ placed (next_of m i) → at + 16 ≤ length before → n < 16
        → Numbers m v before at (set row (at + n) a) y (n + 1)
    numbers_next {i} {a} e sp nx room h =
        let s = k.size in
        let lg = k.long in
        let in_row : at + n < length row = omega arith in
        going_more 1 is_number (wrong_small m) numbers_by (number_spelled m) (numbers_of m) m (numbers_in m (tree_at m depth v)) refl (λ p w t ts. refl) k e nx (omega arith)
        (take_past at row (at + n) a (omega arith))
        (length-set row (at + n) a)
        (λ t j tr ft gt.
        ap numbers_by (store_one row at n a in_row) ∙ numbers_more (part row at n) a
        ∙ ap (λ (z : ℤ). numbers_by (part row at n) ++ (z ∷ [])) (ap pos sp ∙ small_says m i t j tr ft gt))
