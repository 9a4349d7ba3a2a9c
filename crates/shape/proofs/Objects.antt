-- Objects: the rows of the whole are those of some member, of a member that is there twice, of the members that are
-- there, and of the number of # conditions.
use mathlib.Core.Path.{◌≡◌, refl, sym, ap, ◌∙◌}
use mathlib.Core.List.{List, []}
use mathlib.Core.Bool.{Bool, true, false, cond, not, ◌&&◌, ◌||◌, or-false}
use Prim.Native.Nat.{ℕ, suc, ◌+◌, ◌^◌, ◌≤◌, ◌<◌}
use native.Mathlib.Omega.{arith}
use borrow.Author.Tests.{lt-ltb, le-ltb, eq-eqb, eqb-true, ltb-true, ltb-false}
use lib.Dec.{eqb, ltb}
use lib.Bits.{bit_or}
use Rattle.json_tree.specs.Tree.{Json, Items, nil, item}
use Rattle.rows.specs.Strings.{refused_in, refused_items}
use Rattle.shape.specs.declared.Tally.{Tally}
use Rattle.shape.specs.Shape.{any_item, all_items, count_items, name_at}
use Rattle.shape.specs.Offsets.{collect}
use Rattle.shape.specs.Inner.{name_slot, member_form, member_item, item_of, bit_of, is_in, marks_after, stepped, end_fault}
use Rattle.shape.specs.Inner.{closed, fault_of, fault_items}
use Rattle.shape.proofs.Names.{no, and_left, and_right, both_ways}
use Rattle.shape.proofs.Bits.{in_more, in_none}
use Rattle.shape.proofs.Low.{Lowest, After, after_said, ends, either_first, broken_first}
use Rattle.shape.proofs.Never.{turn_after}
use Rattle.shape.proofs.Lists.{no_item}

-- ---- over the items: by the bit of each, one that is there already and the bits taken; by its slot the # conditions
module _ (slot : ℕ → ℕ) where
  unfoldable pub twice : ℕ → Items → Bool
  twice m nil = false
  twice m (item p v t ts) = is_in (slot p) m || twice (bit_or m (2 ^ slot p)) ts

  unfoldable pub taken : ℕ → Items → ℕ
  taken m nil = m
  taken m (item p v t ts) = taken (bit_or m (2 ^ slot p)) ts

  unfoldable pub marked : ℕ → Items → ℕ
  marked n nil = n
  marked n (item p v t ts) = marked (marks_after (slot p) n) ts

  -- no two items have the same bit
  unfoldable pub no_two : Items → Bool
  no_two nil = true
  no_two (item p v t ts) = not (any_item (λ q u. eqb (slot q) (slot p)) ts) && no_two ts

abbrev pub slot_at : List ℕ → ℕ → ℕ → ℕ
slot_at s f p = name_slot f (name_at s p)

abbrev pub bit_at : List ℕ → ℕ → ℕ → ℕ
bit_at s f p = bit_of (slot_at s f p)

module _ (s : List ℕ) (f : ℕ) (member w₈ : ℕ → Json → Bool) (w₆ w₇ : ℕ → ℕ → Json → List ℕ) (e₅ e₈ : ℕ → Bool)
    (inner : (p v : ℕ) (t : Json) → Lowest (fault_of s (member_form f (slot_at s f p)) v t) (refused_in s t) (not (member p t)) (w₆ p v t) (w₇ p v t) (w₈ p t))
    (end : (k : ℕ) (a : Tally) → Lowest (end_fault f k a) false (e₅ a.seen) [] [] (e₈ a.marks)) where
  pub object_after : (k : ℕ) (a : Tally) (ts : Items)
      → After (fault_items s true f k a ts) a.fault (refused_items s true ts) (not (all_items member ts) || (twice (bit_at s f) a.seen ts || e₅ (taken (bit_at s f) a.seen ts)))
      (collect w₆ ts) (collect w₇ ts) (any_item w₈ ts || e₈ (marked (slot_at s f) a.marks ts))
  unfolding fault_of refused_in item_of member_item name_at stepped closed all_items any_item collect twice taken marked
  object_after k a nil = ends refl (end k a)
  object_after k a (item p v t ts) =
      after_said refl (broken_first (member p t) (is_in (bit_at s f p) a.seen) (all_items member ts) _ _) refl refl (either_first (w₈ p t) (any_item w₈ ts) _)
      (turn_after s f true k p a (inner p v t) (object_after (k + 1) _ ts))

-- ---- what holds of some item, and how many
pub any_same : (f g : ℕ → Json → Bool) → ((p : ℕ) (t : Json) → f p t ≡ g p t) → (ts : Items) → any_item f ts ≡ any_item g ts
unfolding any_item
any_same f g e nil = refl
any_same f g e (item p v t ts) = rw (e p t, any_same f g e ts)

any_or : (f g : ℕ → Json → Bool) (ts : Items) → any_item (λ p t. f p t || g p t) ts ≡ (any_item f ts || any_item g ts)
unfolding any_item
any_or f g nil = refl
any_or f g (item p v t ts) = ap (λ (x : Bool). (f p t || g p t) || x) (any_or f g ts) ∙ go (f p t) (g p t) (any_item f ts) (any_item g ts)
  where
    go : (x y a b : Bool) → ((x || y) || (a || b)) ≡ ((x || a) || (y || b))
    go true y a b = refl
    go false true true b = refl
    go false true false b = refl
    go false false a b = refl

pub count_same : (f g : ℕ → Json → Bool) → ((p : ℕ) (t : Json) → f p t ≡ g p t) → (ts : Items) → count_items f ts ≡ count_items g ts
unfolding count_items
count_same f g e nil = refl
count_same f g e (item p v t ts) = rw (e p t, count_same f g e ts)

pub any_count : (f : ℕ → Json → Bool) (ts : Items) → any_item f ts ≡ ltb 0 (count_items f ts)
unfolding any_item count_items
any_count f nil = refl
any_count f (item p v t ts) = go (f p t) (any_count f ts)
  where
    go : (x : Bool) → any_item f ts ≡ ltb 0 (count_items f ts) → (x || any_item f ts) ≡ ltb 0 (cond x (suc (count_items f ts)) (count_items f ts))
    go true h = sym (lt-ltb 0 (suc (count_items f ts)) (omega arith))
    go false h = h

any_none : (f : ℕ → Json → Bool) (ts : Items) → any_item f ts ≡ false → count_items f ts ≡ 0
any_none f ts e = let h = ltb-false 0 (count_items f ts) (sym (any_count f ts) ∙ e) in omega arith

none_any : (f : ℕ → Json → Bool) (ts : Items) → count_items f ts ≡ 0 → any_item f ts ≡ false
none_any f ts e = any_count f ts ∙ le-ltb 0 (count_items f ts) (omega arith)

pub eqb_turned : (a b : ℕ) → eqb a b ≡ eqb b a
eqb_turned a b = both_ways (eqb a b) (eqb b a) (λ e. eq-eqb b a (sym (eqb-true a b e))) (λ e. eq-eqb a b (sym (eqb-true b a e)))

not_not : (x : Bool) → not x ≡ true → x ≡ false
not_not true e = no cc
not_not false e = refl

-- ---- the slots
module _ (slot : ℕ → ℕ) where
  twice_is : (m : ℕ) (ts : Items) → twice slot m ts ≡ (any_item (λ p t. is_in (slot p) m) ts || not (no_two slot ts))
  unfolding twice no_two any_item
  twice_is m nil = refl
  twice_is m (item p v t ts) =
      ap (λ (x : Bool). is_in (slot p) m || x)
      (twice_is (bit_or m (2 ^ slot p)) ts
      ∙ ap (λ (x : Bool). x || not (no_two slot ts))
      (any_same _ _ (λ q u. in_more (slot q) (slot p) m) ts ∙ any_or (λ q u. is_in (slot q) m) (λ q u. eqb (slot q) (slot p)) ts))
      ∙ go (is_in (slot p) m) (any_item (λ q u. is_in (slot q) m) ts) (any_item (λ q u. eqb (slot q) (slot p)) ts) (no_two slot ts)
    where
      go : (i a b n : Bool) → (i || ((a || b) || not n)) ≡ ((i || a) || not (not b && n))
      go true a b n = refl
      go false true b n = refl
      go false false true n = refl
      go false false false n = refl

  pub twice_none : (ts : Items) → twice slot 0 ts ≡ not (no_two slot ts)
  twice_none ts =
      twice_is 0 ts ∙ ap (λ (x : Bool). x || not (no_two slot ts)) (any_same _ (λ p t. false) (λ p t. in_none (slot p)) ts ∙ no_item ts)

  pub taken_is : (j m : ℕ) (ts : Items) → is_in j (taken slot m ts) ≡ (is_in j m || any_item (λ p t. eqb j (slot p)) ts)
  unfolding taken any_item
  taken_is j m nil = sym (or-false (is_in j m))
  taken_is j m (item p v t ts) =
      taken_is j (bit_or m (2 ^ slot p)) ts ∙ ap (λ (x : Bool). x || any_item (λ q u. eqb j (slot q)) ts) (in_more j (slot p) m)
      ∙ sym (either_first (is_in j m) (eqb j (slot p)) (any_item (λ q u. eqb j (slot q)) ts))

  -- each slot at most once
  pub most_one : (ts : Items) → no_two slot ts ≡ true → (j : ℕ) → count_items (λ p t. eqb j (slot p)) ts ≤ 1
  unfolding no_two count_items
  most_one nil e j = omega arith
  most_one (item p v t ts) e j = go (eqb j (slot p)) refl (most_one ts (and_right (not others) (no_two slot ts) e) j)
    where
      others : Bool
      others = any_item (λ q u. eqb (slot q) (slot p)) ts

      go : (x : Bool) → eqb j (slot p) ≡ x → count_items (λ q u. eqb j (slot q)) ts ≤ 1
          → cond x (suc (count_items (λ q u. eqb j (slot q)) ts)) (count_items (λ q u. eqb j (slot q)) ts) ≤ 1
      go true r h =
          let z = any_none (λ q u. eqb (slot q) (slot p)) ts (not_not others (and_left (not others) (no_two slot ts) e)) in
          let w = count_same (λ q u. eqb j (slot q)) (λ q u. eqb (slot q) (slot p)) (λ q u. eqb_turned j (slot q) ∙ ap (eqb (slot q)) (eqb-true j (slot p) r)) ts in
          omega arith
      go false r h = h

  pub one_each : (n : ℕ) (ts : Items) → all_items (λ p t. ltb (slot p) n) ts ≡ true → ((j : ℕ) → j < n → count_items (λ p t. eqb j (slot p)) ts ≤ 1) → no_two slot ts ≡ true
  unfolding no_two count_items all_items
  one_each n nil e f = refl
  one_each n (item p v t ts) e f = rw (none, one_each n ts (and_right (ltb (slot p) n) _ e) (λ j h. fewer (eqb j (slot p)) _ (f j h)))
    where
      fewer : (x : Bool) (k : ℕ) → cond x (suc k) k ≤ 1 → k ≤ 1
      fewer true k h = omega arith
      fewer false k h = h

      once : cond (eqb (slot p) (slot p)) (suc (count_items (λ q u. eqb (slot p) (slot q)) ts)) (count_items (λ q u. eqb (slot p) (slot q)) ts) ≤ 1
      once = f (slot p) (ltb-true (slot p) n (and_left (ltb (slot p) n) _ e))

      none : any_item (λ q u. eqb (slot q) (slot p)) ts ≡ false
      none =
          let h : suc (count_items (λ q u. eqb (slot p) (slot q)) ts) ≤ 1 = rw (eq-eqb (slot p) (slot p) refl) at once in
          any_same _ _ (λ q u. eqb_turned (slot q) (slot p)) ts ∙ none_any (λ q u. eqb (slot p) (slot q)) ts (omega arith)
