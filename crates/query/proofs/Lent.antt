-- The row of lent filters: the claims of specs/Claims, "lent filters".
use mathlib.Core.Path.{◌≡◌, refl}
use mathlib.Core.Bool.{Bool, true, false, cond}
use mathlib.Core.Logic.{◌⊎◌, inl, inr, ⊎_elim}
use mathlib.Core.List.Memᴰ
use mathlib.Core.List.{List, [], ◌∷◌, map}
use Prim.Native.Nat.{ℕ, ◌≤◌, ◌<◌}
use native.Mathlib.Omega.{arith}
use native.Mathlib.Decide.{dec_lt}
use borrow.Author.Tests.{eqb-true, eqb-false, ltb-true, ltb-false}
use lib.Dec.{eqb, ltb}
use lib.ListN.{take}
use Rattle.wire.specs.Limits.{most_filters}
use Rattle.shape.specs.Rows.{outside}
use Rattle.message.specs.declared.FilterParts.{FilterParts}
use Rattle.message.specs.Lent.{filter_row}
use Rattle.law.specs.Lists.{◌∈◌}
use Rattle.query.specs.Answer.{lowest_of, filters_row}
use Rattle.query.specs.Claims.{RowHolds, of_filter, miscounted, LowestMeans, FiltersRowIs, AllPass, LentPass}
use Rattle.wire.specs.Lowest.{Lowest}
use Rattle.wire.proofs.Cases.{bool, or_cases, no_left, no_right}
use Rattle.wire.proofs.Lowest.{join, alike, alone}

pub lowest_means : LowestMeans
unfolding lowest_of
lowest_means [] = record { holds = λ ne. absurd (ne refl); least = λ k m ne. absurd (Memᴰ.not-nil m) }
lowest_means (r ∷ rs) = alike (λ k. ⊎_elim Memᴰ.head Memᴰ.tail) (λ k m. Memᴰ.cases_cons m) (join r (lowest_of rs) (alone r) (lowest_means rs))

-- ---- the row of lent filters
module _ (m : List ℕ) (fs : List FilterParts) (n : ℕ) where
  abbrev rows : List ℕ
  rows = map (filter_row m) (take n fs)

  -- row 8 of their number
  abbrev Miscounted : ℕ → Type 0
  Miscounted k = (k ≡ 8) × ((n < 1) ⊎ (4 < n))

  count_row_lem : (c : Bool) → outside 1 most_filters n ≡ c → Lowest Miscounted (cond c 8 0)
  count_row_lem true q = record {
    holds = λ ne. (refl, ⊎_elim (λ e. inl (ltb-true n 1 e)) (λ e. inr (ltb-true 4 n e)) (or_cases (ltb n 1) (ltb 4 n) q));
    least = λ k h ne. (λ z. absurd (omega arith), let z = h.0 in omega (arith, z));
  }
  count_row_lem false q = record {
    holds = λ ne. absurd (ne refl);
    least = λ k h ne. absurd (⊎_elim few many h.1);
  }
    where
      few : n < 1 → ⊥
      few l = let z = ltb-false n 1 (no_left (ltb n 1) (ltb 4 n) q) in omega arith

      many : 4 < n → ⊥
      many l = let z = ltb-false 4 n (no_right (ltb n 1) (ltb 4 n) q) in omega arith

  to_rows : (k : ℕ) → (k ∈ rows) ⊎ Miscounted k → RowHolds m fs n k
  to_rows k (inl h) = let (p, i, e) = Memᴰ.of_map (filter_row m) (take n fs) h in rw (← e) (of_filter i)
  to_rows k (inr (e, h)) = rw e (miscounted h)

  of_rows : (k : ℕ) → RowHolds m fs n k → (k ∈ rows) ⊎ Miscounted k
  of_rows _ (of_filter i) = inl (Memᴰ.map (filter_row m) i)
  of_rows _ (miscounted h) = inr (refl, h)

pub filters_row_is : FiltersRowIs
unfolding filters_row
filters_row_is m fs n =
    alike (to_rows m fs n) (of_rows m fs n)
    (join (lowest_of (rows m fs n)) _ (lowest_means (rows m fs n)) (count_row_lem m fs n (outside 1 most_filters n) refl))

pub filters_pass : LentPass
filters_pass m fs n = (to, from)
  where
    never : filters_row m fs n ≡ 0 → (k : ℕ) → RowHolds m fs n k → k ≡ 0
    never e k h = ⊎_elim (eqb-true k 0) (λ q. absurd (((filters_row_is m fs n).least k h (eqb-false k 0 q)).0 e)) (bool (eqb k 0))

    to : filters_row m fs n ≡ 0 → AllPass m fs n
    to e = record { each = λ p i. never e _ (of_filter i); some = some (dec_lt n 1); few = few (dec_lt 4 n) }
      where
        some : Dec (n < 1) → 1 ≤ n
        some (yes l) = absurd (let z = never e 8 (miscounted (inl l)) in omega arith)
        some (no l) = omega arith

        few : Dec (4 < n) → n ≤ 4
        few (yes l) = absurd (let z = never e 8 (miscounted (inr l)) in omega arith)
        few (no l) = omega arith

    none : {k : ℕ} → AllPass m fs n → RowHolds m fs n k → k ≡ 0
    none a (of_filter {p = p} i) = a.each p i
    none a (miscounted h) = absurd (let s = a.some in let f = a.few in ⊎_elim (λ l. omega arith) (λ l. omega arith) h)

    from : AllPass m fs n → filters_row m fs n ≡ 0
    from a = ⊎_elim (eqb-true (filters_row m fs n) 0) (λ q. none a ((filters_row_is m fs n).holds (eqb-false (filters_row m fs n) 0 q))) (bool (eqb (filters_row m fs n) 0))
