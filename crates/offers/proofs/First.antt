-- The first entry of a list that passes a test, or the length of the list.
use mathlib.Core.Path.{◌≡◌, refl, sym, ap, ap₂, ◌∙◌}
use mathlib.Core.Bool.{Bool, true, false, cond, not, ◌&&◌, ◌||◌, false≢true}
use mathlib.Core.List.{List, [], ◌∷◌, map}
use Prim.Native.Nat.{ℕ, zero, suc, ◌+◌, ◌-◌, ◌≤◌, ◌<◌}
use native.Mathlib.Omega.{arith}
use lib.Dec.{ltb}
use lib.ListN.{length, get_or}
use borrow.Author.Tests.{not-true, lt-ltb, le-ltb, ltb-true, ltb-false}
use Rattle.text.specs.Event.{all}
use Rattle.text.proofs.Pieces.{both}
use Rattle.law.specs.Lists.{any, find}
use Rattle.event.proofs.Decoded.{or_neither}
use Rattle.table.specs.Layout.{slot_at}
use Rattle.table.specs.Sound.{none_twice}
use Rattle.slots.specs.Slots.{slots_from}
use Rattle.slots.proofs.Walk.{from_more, from_none}

module _ {A B : Type 0} (f : A → B) (p : B → Bool) where
  pub find_map : (l : List A) → find p (map f l) ≡ find (λ x. p (f x)) l
  find_map [] = refl
  find_map (x ∷ l) = ap (λ n. cond (p (f x)) zero (suc n)) (find_map l)

module _ {A : Type 0} (ok p q : A → Bool) (h : (x : A) → ok x ≡ true → p x ≡ q x) where
  pub find_as : (l : List A) → all ok l ≡ true → find p l ≡ find q l
  unfolding all
  find_as [] e = refl
  find_as (x ∷ l) e = let d = both (ok x) (all ok l) e in ap₂ (λ b n. cond b zero (suc n)) (h x d.0) (find_as l d.1)

ltb_suc : (m n : ℕ) → ltb m n ≡ ltb (suc m) (suc n)
ltb_suc m n = go (ltb m n) refl
  where
    go : (b : Bool) → ltb m n ≡ b → b ≡ ltb (suc m) (suc n)
    go true e = sym (lt-ltb (suc m) (suc n) (omega (arith, ltb-true m n e)))
    go false e = sym (le-ltb (suc m) (suc n) (omega (arith, ltb-false m n e)))

module _ {A : Type 0} (p : A → Bool) where
  pub find_any : (l : List A) → any p l ≡ ltb (find p l) (length l)
  find_any [] = sym (le-ltb 0 0 (omega arith))
  find_any (x ∷ l) = go (p x) (find_any l)
    where
      go : (b : Bool) → any p l ≡ ltb (find p l) (length l) → (b || any p l) ≡ ltb (cond b zero (suc (find p l))) (suc (length l))
      go true e = sym (lt-ltb 0 (suc (length l)) (omega arith))
      go false e = e ∙ ltb_suc (find p l) (length l)

  -- where no two entries that pass are at two places, the first of them decides
  module _ (q : A → Bool) (r : A → A → Bool) (z : A) (tied : (x y : A) → p x ≡ true → p y ≡ true → r x y ≡ true) where
    no_other : (x : A) (l : List A) → p x ≡ true → any (r x) l ≡ false → any (λ y. p y && q y) l ≡ false
    no_other x [] e n = refl
    no_other x (y ∷ l) e n = go (p y) refl (no_other x l e (or_neither (r x y) (any (r x) l) n).1)
      where
        go : (b : Bool) → p y ≡ b → any (λ w. p w && q w) l ≡ false → ((b && q y) || any (λ w. p w && q w) l) ≡ false
        go true f ih = absurd (false≢true (sym (or_neither (r x y) (any (r x) l) n).0 ∙ tied x y e f))
        go false f ih = ih

    pub first_decides : (l : List A) → none_twice r l ≡ true → any (λ y. p y && q y) l ≡ (ltb (find p l) (length l) && q (get_or l (find p l) z))
    unfolding none_twice
    first_decides [] n = sym (ap (◌&& q z) (le-ltb 0 0 (omega arith)))
    first_decides (x ∷ l) n =
        let d = both (not (any (r x) l)) (none_twice r l) n in
        go (p x) refl (not-true (any (r x) l) d.0) (first_decides l d.1)
      where
        or_none : (a b : Bool) → b ≡ false → (a || b) ≡ a
        or_none true b e = refl
        or_none false b e = e

        go : (b : Bool) → p x ≡ b → any (r x) l ≡ false → any (λ y. p y && q y) l ≡ (ltb (find p l) (length l) && q (get_or l (find p l) z))
            → ((b && q x) || any (λ y. p y && q y) l) ≡ (ltb (cond b zero (suc (find p l))) (suc (length l)) && q (get_or (x ∷ l) (cond b zero (suc (find p l))) z))
        go true e o ih = or_none (q x) (any (λ y. p y && q y) l) (no_other x l e o) ∙ sym (ap (◌&& q x) (lt-ltb 0 (suc (length l)) (omega arith)))
        go false e o ih = ih ∙ ap (◌&& q (get_or l (find p l) z)) (ltb_suc (find p l) (length l))

pub find_most : {A : Type 0} (p : A → Bool) (l : List A) → find p l ≤ length l
find_most p [] = omega arith
find_most p (x ∷ l) = go (p x) (find_most p l)
  where
    go : (t : Bool) → find p l ≤ length l → cond t zero (suc (find p l)) ≤ suc (length l)
    go true h = omega arith
    go false h = omega arith

-- ---- the first slot that passes, turn by turn
module _ (b : List ℕ) (k c : ℕ) (p : List ℕ → Bool) {x : ℕ} (e : x ≡ k + find p (slots_from b k (c - k))) where
  pub find_more : k < c → p (slot_at b k) ≡ false → x ≡ k + 1 + find p (slots_from b (k + 1) (c - (k + 1)))
  find_more h q =
      e ∙ ap (λ l. k + find p l) (from_more b k c h) ∙ ap (λ t. k + cond t zero (suc (find p (slots_from b (k + 1) (c - (k + 1)))))) q ∙ omega arith

  pub find_met : k < c → p (slot_at b k) ≡ true → x ≡ k
  find_met h q =
      e ∙ ap (λ l. k + find p l) (from_more b k c h) ∙ ap (λ t. k + cond t zero (suc (find p (slots_from b (k + 1) (c - (k + 1)))))) q ∙ omega arith

  pub find_end : c ≤ k → x ≡ k
  find_end h = e ∙ ap (λ l. k + find p l) (from_none b k c h) ∙ omega arith
