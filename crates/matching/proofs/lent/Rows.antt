-- The row of lent filters from the last down: of those from j on, the lowest.
use mathlib.Core.Path.{◌≡◌, sym, ap, ap₂, ◌∙◌}
use mathlib.Core.Bool.{cond}
use mathlib.Core.List.{List, ◌∷◌, map}
use Prim.Native.Nat.{min, ℕ, suc, ◌-◌, ◌≤◌, ◌<◌}
use native.Mathlib.Omega.{arith}
use lib.ListN.{length, take, drop, get_or, length-take, drop_of_length-le}
use lib.Seq.{drop-cons, get_or-take}
use Rattle.wire.specs.Limits.{most_filters}
use Rattle.shape.specs.Rows.{outside}
use Rattle.message.specs.declared.FilterParts.{FilterParts}
use Rattle.message.specs.Lent.{filter_row}
use Rattle.wire.specs.Lowest.{lower_row}
use Rattle.query.specs.Answer.{lowest_of, filters_row}

-- ---- their number
module _ (n : ℕ) where
  abbrev pub counted : ℕ
  counted = cond (outside 1 most_filters n) 8 0

-- ---- each
module _ (m : List ℕ) (fs : List FilterParts) (n : ℕ) where
  abbrev pub lowest_from : ℕ → ℕ
  lowest_from j = lowest_of (map (filter_row m) (drop j (take n fs)))

  none : (j : ℕ) → length (take n fs) ≤ j → lowest_from j ≡ 0
  unfolding lowest_of
  none j h = rw (drop_of_length-le (take n fs) h)

  pub rows_none : (j : ℕ) → min n (length fs) ≤ j → 0 ≡ lowest_from j
  rows_none j h = sym (none j (omega (arith, length-take n fs)))

  pub rows_more : (j r s t : ℕ) (z : FilterParts) → 0 < j → j ≤ length fs → j - 1 < n → r ≡ lowest_from j → s ≡ filter_row m (get_or fs (j - 1) z) → t ≡ lower_row s r
      → t ≡ lowest_from (j - 1)
  unfolding lowest_of
  rows_more j r s t z p l h e f g =
      let q : suc (j - 1) ≡ j = omega arith in
      let i : j - 1 < length (take n fs) = omega (arith, length-take n fs) in
      let d : drop (j - 1) (take n fs) ≡ get_or fs (j - 1) z ∷ drop j (take n fs) =
      drop-cons (take n fs) (j - 1) z i ∙ ap₂ (λ x k. x ∷ drop k (take n fs)) (get_or-take n fs (j - 1) z h) q in
      g ∙ ap₂ lower_row f e ∙ sym (ap (λ l. lowest_of (map (filter_row m) l)) d)

  pub rows_all : (j r s t : ℕ) → j ≤ 0 → r ≡ lowest_from j → s ≡ counted n → t ≡ lower_row r s → t ≡ filters_row m fs n
  unfolding filters_row
  rows_all j r s t h e f g = let q : j ≡ 0 = omega arith in g ∙ ap₂ lower_row (e ∙ ap lowest_from q) f
