-- The members of an array that are left while they are written into the row.
use Rattle.std.specs.Prelude.{Option, Some, None}
use mathlib.Core.Path.{◌≡◌, refl, sym, ap, ap₂, ◌∙◌}
use mathlib.Core.Bool.{Bool, true, false, not, false≢true}
use mathlib.Core.List.{List, [], ◌∷◌, ◌++◌, append_assoc, append-nil}
use Prim.Native.Nat.{ℕ, zero, suc, ◌+◌, ◌-◌, ◌*◌, ◌≤◌, ◌<◌}
use native.Mathlib.Omega.{arith}
use borrow.Author.Tests.{not-false}
use lib.IntN.{pos}
use lib.ListN.{length, set, take, drop, length-drop, length-set}
use lib.Seq.{take-suc-set, drop-set-add}
use Rattle.wire.specs.Bytes.{part}
use Rattle.spell.specs.Spell.{decode}
use Rattle.json_tree.specs.Grammar.{start_at}
use Rattle.json_tree.specs.Tree.{Json, arr, Items, nil, item, Got, none, got, depth, tree_at, on_array}
use Rattle.shape.specs.Shape.{any_item, all_items, count_items, count, is_array_of}
use Rattle.shape.specs.Rows.{wrong_list}
use Rattle.message.specs.Lists.{start_element, next_of}
use Rattle.message.specs.Lent.{value5, on_value, value_at}
use Rattle.message.proofs.Facts.{and_true, or_not}
use Rattle.message.proofs.Elements.{group_of, Listing, one}
use Rattle.message.proofs.Checked.{ListOf, list_of_lem}
use Rattle.matching.specs.Inner.Found.{spelled_by, numbers_by}
use Rattle.matching.specs.Inner.Steps.{placed}
use Rattle.matching.specs.Inner.Finds.{Finds}
use Rattle.matching.proofs.matcher.Places.{first_left, all_left}

-- ---- what is left of an array whose members f takes and g does not, w numbers for each, when n numbers were written
module _ {X : Type 0} (w : ℕ) (f g : Json → Bool) (means : List ℕ → List X) (says : Json → X) (saysAll : Items → List X) (m : List ℕ) (whole : List X) where
  pub record Going (before : List ℕ) (at : ℕ) (row : List ℕ) (x : Option ℕ) (n : ℕ) : Type 0 where
    pub us : Items
    pub listing : Listing m us
    pub here : x ≡ first_left us
    pub each : all_items (λ q u. f u) us ≡ true
    pub clean : any_item (λ q u. g u) us ≡ false
    pub done : ℕ
    pub size : n ≡ done * w
    pub few : count us + done ≤ 16
    pub is : means (part row at n) ++ saysAll us ≡ whole
    pub same : take at row ≡ take at before
    pub long : length row ≡ length before

  module _ (saysNil : saysAll nil ≡ []) (saysItem : (p v : ℕ) (t : Json) (ts : Items) → saysAll (item p v t ts) ≡ says t ∷ saysAll ts) where
    module _ {before : List ℕ} {at : ℕ} {row : List ℕ} {x : Option ℕ} {n : ℕ} (k : Going before at row x n) where
      ended : {most : ℕ} → n ≤ most → k.us ≡ nil → Finds means whole most before at n row
      ended h e = record {
        few = h;
        is = sym (append-nil (means (part row at n))) ∙ ap (λ (l : List X). means (part row at n) ++ l) (sym (ap saysAll e ∙ saysNil)) ∙ k.is;
        same = k.same;
        long = k.long;
      }

      pub going_none : {most : ℕ} → n ≤ most → x ≡ None → Finds means whole most before at n row
      going_none h e = ended h (go k.us (sym k.here ∙ e))
        where
          go : (us : Items) → first_left us ≡ None → us ≡ nil
          go nil q = refl
          go (item p v t ts) q = absurd (let y : ◌≡◌ {A = ℕ} 0 1 = cc in omega arith)

      pub going_full : {most : ℕ} → n ≤ most → 16 ≤ k.done → Finds means whole most before at n row
      unfolding count_items
      going_full h l = ended h (go k.us k.few)
        where
          go : (us : Items) → count us + k.done ≤ 16 → us ≡ nil
          go nil q = refl
          go (item p v t ts) q = absurd (omega (arith, l))

      module _ {i : ℕ} (e : x ≡ Some i) where
        -- one member more is written
        pub going_more : {n' : ℕ} {row' : List ℕ} {y : Option ℕ} → y ≡ placed (next_of m i) → n' ≡ (k.done + 1) * w → take at row' ≡ take at row → length row' ≡ length row
            → ((t : Json) (j : ℕ) → tree_at m 7 i ≡ got t j → f t ≡ true → g t ≡ false → means (part row' at n') ≡ means (part row at n) ++ (says t ∷ []))
            → Going before at row' y n'
        unfolding count_items all_items any_item
        going_more {n'} {row'} {y} nx sz sm ln st = go k.us k.listing (sym k.here ∙ e) k.each k.clean k.few k.is
          where
            go : (us : Items) → Listing m us → first_left us ≡ Some i → all_items (λ q u. f u) us ≡ true → any_item (λ q u. g u) us ≡ false → count us + k.done ≤ 16
                → means (part row at n) ++ saysAll us ≡ whole → Going before at row' y n'
            go nil l q a c h s = absurd (let z : ◌≡◌ {A = ℕ} 0 1 = cc in omega arith)
            go (item p v t ts) (one {m = j} tr nt l) q a c h s =
                let u : v ≡ i = cc in
                record {
                  us = ts;
                  listing = l;
                  here = nx ∙ ap (λ z. placed (next_of m z)) (sym u) ∙ ap placed nt;
                  each = (and_true (f t) _ a).1;
                  clean = (or_not (g t) _ c).1;
                  done = k.done + 1;
                  size = sz;
                  few = omega arith;
                  is =
                      ap (λ (l : List X). l ++ saysAll ts) (st t j (ap (tree_at m 7) (sym u) ∙ tr) (and_true (f t) _ a).0 (or_not (g t) _ c).0)
                      ∙ append_assoc (means (part row at n)) (says t ∷ []) (saysAll ts)
                      ∙ ap (λ (l : List X). means (part row at n) ++ l) (sym (saysItem p v t ts))
                      ∙ s;
                  same = sm ∙ k.same;
                  long = ln ∙ k.long;
                }

  -- where the value at v is such an array of 1 to 16
  pub going_start : (v : ℕ) (row : List ℕ) (at : ℕ) {x : Option ℕ} → ((r : List ℕ) → means (part r at 0) ≡ []) → ((ts : Items) (n : ℕ) → tree_at m depth v ≡ got (arr ts) n → saysAll ts ≡ whole)
      → value5 (is_array_of f) m v ≡ false → on_value (on_array (any_item (λ q u. g u))) (value_at m v) ≡ false → on_value wrong_list (value_at m v) ≡ false
      → x ≡ placed (start_element (start_at m v)) → Going row at row x 0
  unfolding value5
  going_start v row at {x} z s e c d q = go (tree_at m depth v) refl e c d
    where
      array : (t : Json) (n : ℕ) → tree_at m depth v ≡ got t n → ListOf f g t → Going row at row x 0
      array t n tr l =
          let ts = l.items in
          let tr' = tr ∙ ap (λ (y : Json). got y n) l.is in
          let (h, li) = all_left (group_of m v false ts n tr') in
          record {
            us = ts;
            listing = li;
            here = q ∙ h;
            each = l.each;
            clean = l.clean;
            done = 0;
            size = omega arith;
            few = omega (arith, l.few);
            is = ap (λ (y : List X). y ++ saysAll ts) (z row) ∙ s ts n tr';
            same = refl;
            long = refl;
          }

      go : (r : Got Json) → tree_at m depth v ≡ r → not (on_value (is_array_of f) r) ≡ false → on_value (on_array (any_item (λ q u. g u))) r ≡ false → on_value wrong_list r ≡ false → Going row at row x 0
      go none tr a c d = absurd (false≢true (sym a))
      go (got t n) tr a c d = array t n tr (list_of_lem f g t (not-false _ a) c d)

-- ---- stores into the row
pub take_past : {A : Type 0} (n : ℕ) (l : List A) (i : ℕ) (a : A) → n ≤ i → take n (set l i a) ≡ take n l
take_past zero l i a h = refl
take_past (suc n) [] i a h = refl
take_past {A} (suc n) (x ∷ l) zero a h = absurd (omega arith)
take_past {A} (suc n) (x ∷ l) (suc i) a h = ap (λ (k : List A). x ∷ k) (take_past n l i a (omega arith))

pub store_one : (row : List ℕ) (at n a : ℕ) → at + n < length row → part (set row (at + n) a) at (n + 1) ≡ part row at n ++ (a ∷ [])
store_one row at n a h =
    let l : length (drop at row) ≡ length row - at = length-drop at row in
    let x : n + 1 ≡ suc n = omega arith in
    ap₂ (λ (k : ℕ) (t : List ℕ). take k t) x (drop-set-add at row n a) ∙ take-suc-set (drop at row) n a (omega arith)

pub store_two : (row : List ℕ) (at n a b : ℕ) → at + n + 1 < length row → part (set (set row (at + n) a) (at + n + 1) b) at (n + 2) ≡ part row at n ++ (a ∷ b ∷ [])
store_two row at n a b h =
    let z : at + n + 1 ≡ at + (n + 1) = omega arith in
    let y : n + 2 ≡ n + 1 + 1 = omega arith in
    let l : length (set row (at + n) a) ≡ length row = length-set row (at + n) a in
    ap₂ (λ (k j : ℕ). part (set (set row (at + n) a) k b) at j) z y
    ∙ store_one (set row (at + n) a) at (n + 1) b (omega arith)
    ∙ ap (λ (t : List ℕ). t ++ (b ∷ [])) (store_one row at n a (omega arith))
    ∙ append_assoc (part row at n) (a ∷ []) (b ∷ [])

-- what two numbers, or one, behind others say
pub strings_more : (m : List ℕ) (k : ℕ) (r : List ℕ) (a n : ℕ) → length r ≡ k * 2 → spelled_by m (r ++ (a ∷ n ∷ [])) ≡ spelled_by m r ++ (decode (part m a n) ∷ [])
unfolding spelled_by
strings_more m zero [] a n e = refl
strings_more m zero (x ∷ r) a n e = absurd (omega arith)
strings_more m (suc k) [] a n e = absurd (omega arith)
strings_more m (suc k) (x ∷ []) a n e = absurd (omega arith)
strings_more m (suc k) (x ∷ y ∷ r) a n e = ap (λ (l : List (List ℕ)). decode (part m x y) ∷ l) (strings_more m k r a n (omega arith))

pub numbers_more : (r : List ℕ) (a : ℕ) → numbers_by (r ++ (a ∷ [])) ≡ numbers_by r ++ (pos a ∷ [])
unfolding numbers_by
numbers_more [] a = refl
numbers_more (x ∷ r) a = ap (λ l. pos x ∷ l) (numbers_more r a)
