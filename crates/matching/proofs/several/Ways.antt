-- Filters asked one by one; and the ways out of the public call.
use Rattle.std.specs.Prelude.{Result, Ok, Err}
use mathlib.Core.Path.{◌≡◌, refl, sym, ap, ap₂, ◌∙◌}
use mathlib.Core.Bool.{Bool, true, false, cond, ◌||◌}
use mathlib.Core.List.{List, ◌∷◌, map}
use Prim.Native.Nat.{ℕ, suc, ◌+◌, ◌-◌, min, ◌≤◌, ◌<◌}
use native.Mathlib.Omega.{arith}
use borrow.Author.Tests.{eqb-true, eqb-false, ne_eqb, lt-ltb, le-ltb}
use lib.Dec.{eqb}
use lib.ListN.{length, get_or, take, drop, drop_of_length-le}
use lib.Seq.{drop-cons, take-nil}
use Rattle.wire.specs.Limits.{most_text}
use Rattle.text.specs.Event.{Event}
use Rattle.message.specs.declared.EventParts.{EventParts}
use Rattle.message.specs.declared.FilterParts.{FilterParts}
use Rattle.message.specs.Lent.{event_row}
use Rattle.wire.specs.Lowest.{lower_row}
use Rattle.event.specs.Lent.{said, event_of, text_of}
use Rattle.event.specs.Lent.{length_of}
use Rattle.event.specs.Answer.{or_else, is_large}
use Rattle.law.specs.Lists.{any}
use Rattle.query.specs.Match.{matches, matches_some}
use Rattle.query.specs.Filter.{Filter}
use Rattle.query.specs.Answer.{meant, filters_row, matched_row, matched, match_number}
use Rattle.query.proofs.Listings.{matched_means}

-- ---- those that are left, after i of them
module _ {A B : Type 0} (p : B → Bool) (f : A → B) (n : ℕ) (l : List A) where
  abbrev pub Rest : ℕ → Type 0
  Rest i = any p (map f (take n l)) ≡ any p (map f (take (n - i) (drop i l)))

  pub rest_none : (i : ℕ) → Rest i → n ≤ i → false ≡ any p (map f (take n l))
  rest_none i r h = let z : n - i ≡ 0 = omega arith in sym (r ∙ ap (λ k. any p (map f (take k (drop i l)))) z)

  pub rest_end : (i : ℕ) → Rest i → length l ≤ i → false ≡ any p (map f (take n l))
  rest_end i r h = sym (r ∙ ap (λ k. any p (map f k)) (ap (take (n - i)) (drop_of_length-le l {i = i} h) ∙ take-nil (n - i)))

  module _ (i : ℕ) (r : Rest i) (h : i < n) (k : i < length l) (z : A) where
    next : any p (map f (take n l)) ≡ (p (f (get_or l i z)) || any p (map f (take (n - (i + 1)) (drop (i + 1) l))))
    next =
        let e : n - i ≡ suc (n - (i + 1)) = omega arith in
        let d : suc i ≡ i + 1 = omega arith in
        r ∙ ap (λ (m : ℕ). any p (map f (take m (drop i l)))) e ∙ ap (λ m. any p (map f (take (suc (n - (i + 1))) m))) (drop-cons l i z k ∙ ap (λ j. get_or l i z ∷ drop j l) d)

    pub rest_yes : p (f (get_or l i z)) ≡ true → true ≡ any p (map f (take n l))
    rest_yes e = sym (next ∙ ap (λ y. y || any p (map f (take (n - (i + 1)) (drop (i + 1) l)))) e)

    pub rest_more : p (f (get_or l i z)) ≡ false → Rest (i + 1)
    rest_more e = next ∙ ap (λ y. y || any p (map f (take (n - (i + 1)) (drop (i + 1) l)))) e

-- one filter asked
pub filter_is : {r : Bool} {g h : Filter} (i : List ℕ) (e : Event) → r ≡ matches g i e → g ≡ h → r ≡ matches h i e
filter_is i e q w = q ∙ ap (λ (y : Filter). matches y i e) w

-- ---- the public call
pub lower_none : (x y : ℕ) → lower_row x y ≡ 0 → (x ≡ 0) × (y ≡ 0)
lower_none x y e = go (eqb x 0) refl (eqb y 0) refl e
  where
    go : (a : Bool) → eqb x 0 ≡ a → (c : Bool) → eqb y 0 ≡ c → cond a y (cond c x (min x y)) ≡ 0 → (x ≡ 0) × (y ≡ 0)
    go true p c q e = (eqb-true x 0 p, e)
    go false p true q e = (e, eqb-true y 0 q)
    go false p false q e = absurd (let h = eqb-false x 0 p in let k = eqb-false y 0 q in omega (arith, h, k, e))

module _ (b : List ℕ) (p : EventParts) (m : List ℕ) (fs : List FilterParts) (n : ℕ) where
  abbrev by : ℕ → Bool → Bool → Result Bool ℕ
  by l g s = cond (eqb (or_else l (cond g 9 0)) 0) (Ok s) (Err (or_else l (cond g 9 0)))

  whole : by (lower_row (event_row b p) (filters_row m fs n)) (is_large b p.body) (matches_some (meant m fs n) (said b p.id) (event_of b p.body)) ≡ matched b p m fs n
  unfolding matched matched_row
  whole = refl

  number : {x : Result Bool ℕ} → x ≡ matched b p m fs n → (x ≡ matched b p m fs n) × (match_number x ≡ matched_row b p m fs n)
  number e = (e, ap match_number e ∙ (matched_means b p m fs n).number)

  module _ {r e f : ℕ} (qr : r ≡ lower_row e f) (qe : e ≡ event_row b p) (qf : f ≡ filters_row m fs n) where
    row_is : r ≡ lower_row (event_row b p) (filters_row m fs n)
    row_is = qr ∙ ap₂ lower_row qe qf

    pub row_refuses : (r ≡ 0 → ⊥) → (Err r ≡ matched b p m fs n) × (match_number (Err r) ≡ matched_row b p m fs n)
    row_refuses z = number (here ∙ ap (λ l. by l (is_large b p.body) (matches_some (meant m fs n) (said b p.id) (event_of b p.body))) row_is ∙ whole)
      where
        here : Err r ≡ by r (is_large b p.body) (matches_some (meant m fs n) (said b p.id) (event_of b p.body))
        here = sym (rw (ne_eqb r 0 z, ne_eqb r 0 z) refl)

    module _ (z : r ≡ 0) where
      none : lower_row (event_row b p) (filters_row m fs n) ≡ 0
      none = sym row_is ∙ z

      pub event_passed : event_row b p ≡ 0
      event_passed = (lower_none (event_row b p) (filters_row m fs n) none).0

      pub filters_passed : filters_row m fs n ≡ 0
      filters_passed = (lower_none (event_row b p) (filters_row m fs n) none).1

      module _ {k : ℕ} (qk : k ≡ length_of (text_of b p.body)) where
        pub large_refuses : most_text < k → (Err 9 ≡ matched b p m fs n) × (match_number (Err 9) ≡ matched_row b p m fs n)
        unfolding is_large
        large_refuses h =
            let g : is_large b p.body ≡ true = lt-ltb most_text (length (text_of b p.body)) (omega arith) in
            number (ap₂ (λ l y. by l y (matches_some (meant m fs n) (said b p.id) (event_of b p.body))) (sym none) (sym g) ∙ whole)

        module _ (h : k ≤ most_text) {s : Bool} (qs : s ≡ matches_some (meant m fs n) (said b p.id) (event_of b p.body)) where
          asked : by 0 false s ≡ matched b p m fs n
          unfolding is_large
          asked =
              let g : is_large b p.body ≡ false = le-ltb most_text (length (text_of b p.body)) (omega arith) in
              ap (by 0 false) qs ∙ ap₂ (λ l y. by l y (matches_some (meant m fs n) (said b p.id) (event_of b p.body))) (sym none) (sym g) ∙ whole

          pub answers : (Ok s ≡ matched b p m fs n) × (match_number (Ok s) ≡ matched_row b p m fs n)
          answers = number asked
