-- What matching lent parts and asking for a REQ's answer give: the claims of specs/Claims, "what is answered".
use Rattle.std.specs.Prelude.{Ok, Err}
use mathlib.Core.Path.{◌≡◌, refl, sym, ap, ◌∙◌}
use mathlib.Core.Bool.{Bool, true, false, cond}
use mathlib.Core.Logic.{◌↔◌, ◌⊎◌, inl, inr, ⊎_elim, ◌≢◌}
use mathlib.Core.List.{List, ◌++◌}
use Prim.Native.Nat.{ℕ, ◌≤◌, ◌<◌}
use native.Mathlib.Omega.{arith}
use native.Mathlib.Decide.{dec_lt}
use borrow.Author.Tests.{eqb-true, eqb-false, eq-eqb, ne_eqb, ltb-true, lt-ltb}
use lib.Dec.{T, eqb, ltb}
use lib.ListN.{length, take, drop, length-append, length-drop}
use lib.Seq.{take_at, drop_at}
use Rattle.message.specs.declared.EventParts.{EventParts}
use Rattle.message.specs.declared.FilterParts.{FilterParts}
use Rattle.message.specs.Lent.{body6, body8, event2, event4, event5, event7, event_row, filter2, filter4, filter5}
use Rattle.message.specs.Lent.{filter6, filter7, filter8, filter_row}
use Rattle.message.specs.Inner.{lowest_by}
use Rattle.event.specs.Lent.{said, event_of}
use Rattle.event.specs.Answer.{or_else, is_large}
use Rattle.table.specs.Sound.{sound}
use Rattle.table.proofs.StillSound.{same_sound}
use Rattle.query.specs.Match.{matches_some}
use Rattle.query.specs.Answer.{meant, filters_row, answer_to, matched_row, matched, match_number, match_value}
use Rattle.query.specs.Answer.{listing_row_if, listing_row, listed, listed_row, listing_number, listed_count}
use Rattle.query.specs.Claims.{RowHolds, of_filter, miscounted, MatchedHolds, of_event, of_filters, too_large_lem}
use Rattle.query.specs.Claims.{MatchedRowIs, MatchedMeans, ListingHolds, of_lent, not_sound, too_short}
use Rattle.query.specs.Claims.{ListingRowIs, ListingIs, ListingMeans, SameListing}
use Rattle.wire.specs.Lowest.{Lowest}
use Rattle.wire.proofs.Cases.{bool, clash}
use Rattle.query.proofs.Lent.{filters_row_is}
use Rattle.wire.proofs.Lowest.{join, alike, alone}

-- ---- rows of parts are at most 8
lowest_small : (a b c d e f : Bool) → lowest_by a b c d e f ≤ 8
lowest_small true b c d e f = omega arith
lowest_small false true c d e f = omega arith
lowest_small false false true d e f = omega arith
lowest_small false false false true e f = omega arith
lowest_small false false false false true f = omega arith
lowest_small false false false false false true = omega arith
lowest_small false false false false false false = omega arith

filter_small : (b : List ℕ) (p : FilterParts) → filter_row b p ≤ 8
unfolding filter_row
filter_small b p = lowest_small (filter2 b p) (filter4 b p) (filter5 b p) (filter6 b p) (filter7 b p) (filter8 b p)

row_small : (m : List ℕ) (fs : List FilterParts) (n r : ℕ) → RowHolds m fs n r → r ≤ 8
row_small m fs n _ (of_filter {p = p} i) = filter_small m p
row_small m fs n _ (miscounted h) = omega arith

event_small : (b : List ℕ) (p : EventParts) → event_row b p ≤ 8
unfolding event_row
event_small b p = lowest_small (event2 b p) (event4 b p) (event5 b p) (body6 p.body) (event7 b p) (body8 b p.body)

-- the lowest_by row of some that are at most n is at most n
small : {P : ℕ → Type 0} (n r : ℕ) → ((k : ℕ) → P k → k ≤ n) → Lowest P r → r ≤ n
small n r h p = ⊎_elim (λ e. let z = eqb-true r 0 e in omega arith) (λ e. h r (p.holds (eqb-false r 0 e))) (bool (eqb r 0))

-- a row of at most n, or else one of more, is the lowest_by of both
pub or_else_lem : {P Q : ℕ → Type 0} (n r s : ℕ) → ((k : ℕ) → P k → k ≤ n) → ((k : ℕ) → Q k → n < k) → Lowest P r → Lowest Q s → Lowest (λ k. P k ⊎ Q k) (or_else r s)
or_else_lem {P} {Q} n r s low high p q = go (eqb r 0) refl
  where
    go : (b : Bool) → eqb r 0 ≡ b → Lowest (λ k. P k ⊎ Q k) (cond b s r)
    go true e = record {
      holds = λ ne. inr (q.holds ne);
      least = λ k h ne. ⊎_elim (λ i. absurd ((p.least k i ne).0 (eqb-true r 0 e))) (λ i. q.least k i ne) h;
    }
    go false e = record {
      holds = λ ne. inl (p.holds ne);
      least = λ k h ne. ⊎_elim (λ i. p.least k i ne) (λ i. (eqb-false r 0 e, let y = high k i in let z = small n r low p in omega arith)) h;
    }

-- ---- matching
pub matched_row_is : MatchedRowIs
unfolding matched_row
matched_row_is b p m fs n =
    alike to from
    (or_else_lem 8 _ (cond (is_large b p.body) 9 0) (λ k. ⊎_elim (λ e. let z = event_small b p in omega (arith, e)) (row_small m fs n k)) (λ k h. let z = h.0 in omega (arith, z))
    (join (event_row b p) (filters_row m fs n) (alone (event_row b p)) (filters_row_is m fs n))
    (large (is_large b p.body) refl))
  where
    large : (x : Bool) → is_large b p.body ≡ x → Lowest (λ k. (k ≡ 9) × (is_large b p.body ≡ true)) (cond x 9 0)
    large true e = record { holds = λ ne. (refl, e); least = λ k h ne. (λ z. absurd (omega arith), let z = h.0 in omega (arith, z)) }
    large false e = record { holds = λ ne. absurd (ne refl); least = λ k h ne. absurd (clash h.1 e) }

    to : (k : ℕ) → ((k ≡ event_row b p) ⊎ RowHolds m fs n k) ⊎ ((k ≡ 9) × (is_large b p.body ≡ true)) → MatchedHolds b p m fs n k
    to k (inl (inl e)) = rw e of_event
    to k (inl (inr h)) = of_filters h
    to k (inr (e, h)) = rw e (too_large_lem h)

    from : (k : ℕ) → MatchedHolds b p m fs n k → ((k ≡ event_row b p) ⊎ RowHolds m fs n k) ⊎ ((k ≡ 9) × (is_large b p.body ≡ true))
    from _ of_event = inl (inl refl)
    from k (of_filters h) = inl (inr h)
    from _ (too_large_lem h) = inr (refl, h)

pub matched_means : MatchedMeans
unfolding matched
matched_means b p m fs n =
    let (k, a) = go (matched_row b p m fs n) (bool (eqb (matched_row b p m fs n) 0)) (matches_some (meant m fs n) (said b p.id) (event_of b p.body)) in
    record { number = k; value = a }
  where
    go : (r : ℕ) → (eqb r 0 ≡ true) ⊎ (eqb r 0 ≡ false) → (x : Bool)
        → (match_number (cond (eqb r 0) (Ok x) (Err r)) ≡ r) × (T (match_value (cond (eqb r 0) (Ok x) (Err r))) ↔ ((r ≡ 0) × T x))
    go r (inl e) x = rw e (sym (eqb-true r 0 e), (λ t. (eqb-true r 0 e, t), λ h. h.1))
    go r (inr e) x = rw e (refl, (λ t. absurd t, λ h. absurd (eqb-false r 0 e h.0)))

-- ---- the answer
module _ (b m : List ℕ) (fs : List FilterParts) (n : ℕ) (row : List ℕ) where
  abbrev slots : List ℕ
  slots = answer_to b m fs n

  -- rows 11 and 13
  abbrev Later : ℕ → Type 0
  Later k = ((k ≡ 11) × (sound b ≡ false)) ⊎ ((k ≡ 13) × (length row < length slots))

  later : (x y : Bool) → sound b ≡ x → ltb (length row) (length slots) ≡ y → Lowest Later (cond x (cond y 13 0) 11)
  later false y e f = record {
    holds = λ ne. inl (refl, e);
    least = λ k h ne. (λ z. absurd (omega arith), ⊎_elim (λ q. let z = q.0 in omega (arith, z)) (λ q. let z = q.0 in omega (arith, z)) h);
  }
  later true true e f = record {
    holds = λ ne. inr (refl, ltb-true (length row) (length slots) f);
    least = λ k h ne. (λ z. absurd (omega arith), ⊎_elim (λ q. absurd (clash e q.1)) (λ q. let z = q.0 in omega (arith, z)) h);
  }
  later true false e f = record {
    holds = λ ne. absurd (ne refl);
    least = λ k h ne. ⊎_elim (λ q. absurd (clash e q.1)) (λ q. absurd (clash (lt-ltb (length row) (length slots) q.1) f)) h;
  }

  to_listing : (k : ℕ) → RowHolds m fs n k ⊎ Later k → ListingHolds b m fs n row k
  to_listing k (inl h) = of_lent h
  to_listing k (inr (inl (e, h))) = rw e (not_sound h)
  to_listing k (inr (inr (e, h))) = rw e (too_short h)

  of_listing : (k : ℕ) → ListingHolds b m fs n row k → RowHolds m fs n k ⊎ Later k
  of_listing k (of_lent h) = inl h
  of_listing _ (not_sound h) = inr (inl (refl, h))
  of_listing _ (too_short h) = inr (inr (refl, h))

  listing_row_lem : Lowest (ListingHolds b m fs n row) (listing_row b m fs n row)
  unfolding listing_row
  listing_row_lem =
      alike to_listing of_listing
      (or_else_lem 8 (filters_row m fs n) _ (row_small m fs n) (λ k. ⊎_elim (λ q. let z = q.0 in omega (arith, z)) (λ q. let z = q.0 in omega (arith, z)))
      (filters_row_is m fs n) (later (sound b) (ltb (length row) (length slots)) refl refl))

  long_enough : listing_row b m fs n row ≡ 0 → length slots ≤ length row
  long_enough e = on (dec_lt (length row) (length slots))
    where
      on : Dec (length row < length slots) → length slots ≤ length row
      on (yes h) = absurd ((listing_row_lem.least 13 (too_short h) (λ z. absurd (omega arith))).0 e)
      on (no l) = omega arith

  taken : listing_row b m fs n row ≡ 0 → listed_row b m fs n row ≡ slots ++ drop (length slots) row
  unfolding listed_row
  taken e = rw (eq-eqb (listing_row b m fs n row) 0 e)

  left : listing_row b m fs n row ≢ 0 → listed_row b m fs n row ≡ row
  unfolding listed_row
  left ne = rw (ne_eqb (listing_row b m fs n row) 0 ne)

  is_count : listing_row b m fs n row ≡ 0 → listed b m fs n row ≡ Ok (length slots)
  unfolding listed
  is_count e = rw (eq-eqb (listing_row b m fs n row) 0 e)

  is_refused_lem : listing_row b m fs n row ≢ 0 → listed b m fs n row ≡ Err (listing_row b m fs n row)
  unfolding listed
  is_refused_lem ne = rw (ne_eqb (listing_row b m fs n row) 0 ne)

  zero_or : (listing_row b m fs n row ≡ 0) ⊎ (listing_row b m fs n row ≢ 0)
  zero_or = ⊎_elim (λ e. inl (eqb-true (listing_row b m fs n row) 0 e)) (λ e. inr (eqb-false (listing_row b m fs n row) 0 e)) (bool (eqb (listing_row b m fs n row) 0))

  listing_is : ListingIs b m fs n row
  listing_is = record {
    number = ⊎_elim (λ e. ap listing_number (is_count e) ∙ sym e) (λ ne. ap listing_number (is_refused_lem ne)) zero_or;
    count = λ e. ap listed_count (is_count e);
    written = λ e. ap (take (length slots)) (taken e) ∙ take_at slots (drop (length slots) row) (length slots) refl;
    rest = λ e. ap (drop (length slots)) (taken e) ∙ drop_at slots (drop (length slots) row) (length slots) refl;
    as_long = ⊎_elim (λ e. ap length (taken e) ∙ (let h = long_enough e in simp (length-append, length-drop) (omega arith))) (λ ne. ap length (left ne)) zero_or;
    refused = λ ne. (left ne, ap listed_count (is_refused_lem ne));
  }

-- one test of soundness, which says the same of a table of at most 64 slots
pub same_listing : SameListing
unfolding listing_row
same_listing b m fs n row h = ap (λ s. listing_row_if s b m fs n row) (same_sound b h)

pub listing_row_is : ListingRowIs
listing_row_is b m fs n row = listing_row_lem b m fs n row

pub listing_means : ListingMeans
listing_means b m fs n row = listing_is b m fs n row
