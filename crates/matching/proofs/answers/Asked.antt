-- The filters asked so far, each with its bytes, and the whole answer.
use Rattle.std.specs.Prelude.{Result, Ok, Err}
use mathlib.Core.Path.{◌≡◌, refl, sym, ap, ◌∙◌}
use mathlib.Core.Bool.{Bool, true, false, cond}
use mathlib.Core.Logic.{◌≢◌}
use mathlib.Core.List.{List, [], ◌∷◌, ◌++◌, map, map-append}
use Prim.Native.Nat.{ℕ, suc, ◌+◌, ◌≤◌, ◌<◌}
use native.Mathlib.Omega.{arith}
use borrow.Author.Tests.{ne_eqb}
use lib.Dec.{eqb, ltb}
use lib.ListN.{length, get_or, take, length-take, length-map}
use lib.Seq.{take-suc, get_or-take}
use Rattle.wire.specs.Limits.{most_slots}
use Rattle.wire.specs.Field.{Field}
use Rattle.message.specs.declared.FilterParts.{FilterParts}
use Rattle.message.specs.Lent.{filter_row}
use Rattle.table.specs.Layout.{count_of}
use Rattle.table.specs.Sound.{sound}
use Rattle.table.proofs.Bytes.{clauses}
use Rattle.table.proofs.Lists.{entry_in}
use Rattle.query.specs.Filter.{Filter, filter_of}
use Rattle.query.specs.Answer.{among, numbers_from, matches_slot, meant, answer_to, filters_row, listing_row, listed}
use Rattle.query.specs.Answer.{listed_row, listing_number}
use Rattle.query.proofs.Sorting.{from_among}
use Rattle.query.proofs.Lent.{filters_pass}
use Rattle.matching.specs.Inner.Hits.{hit_at, Filled}
use Rattle.matching.specs.Inner.Pass.{pass_taken}
use Rattle.matching.specs.Inner.Order.{laid_over, told, told_row}
use Rattle.matching.proofs.order.Pass.{Agrees}
use Rattle.matching.proofs.order.Turns.{taken_answers}

-- one filter more, whose bytes are the next
agrees_more : (fits : Filter → ℕ → Bool) (held : List ℕ) (h k : ℕ → ℕ → Bool) (f : ℕ) (gs : List Filter) (g : Filter)
    → ((i s : ℕ) → f ≤ i → i < f + length gs → k i s ≡ h i s) → ((s : ℕ) → among held s ≡ true → k (f + length gs) s ≡ fits g s)
    → Agrees h fits held f gs → Agrees k fits held f (gs ++ (g ∷ []))
agrees_more fits held h k f [] g o n a = (λ s m. let z : f ≡ f + 0 = omega arith in ap (λ (i : ℕ). k i s) z ∙ n s m, tt)
agrees_more fits held h k f (x ∷ gs) g o n a = (
  λ s m. o f s (omega arith) (omega arith) ∙ a.0 s m,
  agrees_more fits held h k (suc f) gs g (λ i s p q. o i s (omega arith) (omega arith))
      (λ s m. let z : suc f + length gs ≡ f + suc (length gs) = omega arith in ap (λ (i : ℕ). k i s) z ∙ n s m) a.1,
)

-- ---- what passed
module _ (m : List ℕ) (fs : List FilterParts) (n : ℕ) (ok : filters_row m fs n ≡ 0) where
  pub few_filters : n ≤ 4
  few_filters = ((filters_pass m fs n).0 ok).few

  pub each_passed : (j : ℕ) (z : FilterParts) → j < n → j < length fs → filter_row m (get_or fs j z) ≡ 0
  each_passed j z h l =
      ap (filter_row m) (sym (get_or-take n fs j z h))
      ∙ ((filters_pass m fs n).0 ok).each (get_or (take n fs) j z) (entry_in (take n fs) j z (omega (arith, length-take n fs)))

pub count_is : (b : List ℕ) {r : ℕ} → Field b 4 4 r → r ≡ count_of b
unfolding count_of
count_is b f = f.is

pub few_slots : (b : List ℕ) → sound b ≡ true → count_of b ≤ most_slots
few_slots b ok = let c = clauses b ok in omega (arith, c.count, c.high)

pub of_parts : {b : List ℕ} {f g : Filter} {j c : ℕ} {h out : List ℕ} → f ≡ g → Filled b f j c h out → Filled b g j c h out
of_parts e w = rw e at w

-- ---- what was asked
module _ (b m : List ℕ) (fs : List FilterParts) where
  -- the bytes h say what the first j filters match
  abbrev pub Asked : List ℕ → ℕ → Type 0
  Asked h j = Agrees (hit_at h) (matches_slot b) (numbers_from 0 (count_of b)) 0 (map (filter_of m) (take j fs))

  pub asked_more : (h out : List ℕ) (j c : ℕ) (z : FilterParts) → c ≡ count_of b → length fs ≡ 4 → j < 4 → Asked h j
      → Filled b (filter_of m (get_or fs j z)) j c h out → Asked out (j + 1)
  asked_more h out j c z e l v a w =
      let n : length (map (filter_of m) (take j fs)) ≡ j = length-map (take j fs) (filter_of m) ∙ length-take j fs ∙ omega arith in
      let y : 0 + length (map (filter_of m) (take j fs)) ≡ j = omega arith in
      let r = agrees_more (matches_slot b) (numbers_from 0 (count_of b)) (hit_at h) (hit_at out) 0 (map (filter_of m) (take j fs)) (filter_of m (get_or fs j z))
      (λ i s p q. w.others i s (omega arith) (λ x. absurd (omega arith)))
      (λ s i. ap (λ (k : ℕ). hit_at out k s) y ∙ w.here s (let t = from_among 0 (count_of b) s i in omega arith)) a in
      rw (← more) at r
    where
      more : map (filter_of m) (take (j + 1) fs) ≡ map (filter_of m) (take j fs) ++ (filter_of m (get_or fs j z) ∷ [])
      more =
          let y : j + 1 ≡ suc j = omega arith in
          ap (λ k. map (filter_of m) (take k fs)) y ∙ ap (map (filter_of m)) (take-suc fs j z (omega arith)) ∙ map-append (filter_of m) (take j fs) (get_or fs j z ∷ [])

  module _ (n : ℕ) where
    pub taken_is : (h : List ℕ) (j : ℕ) → j ≤ n → n ≤ j → Asked h j → pass_taken b h fs n ≡ answer_to b m fs n
    unfolding meant
    taken_is h j p q a = let e : j ≡ n = omega arith in taken_answers b h m fs n (rw e at a)

    pub as_told : (h row out : List ℕ) (r : Result ℕ ℕ) → pass_taken b h fs n ≡ answer_to b m fs n → (r ≡ told (pass_taken b h fs n) row) × (out ≡ told_row (pass_taken b h fs n) row)
        → (r ≡ told (answer_to b m fs n) row) × (out ≡ told_row (answer_to b m fs n) row)
    as_told h row out r e (p, q) = (p ∙ ap (λ t. told t row) e, q ∙ ap (λ t. told_row t row) e)

    -- ---- the ways out: the answer, its number, the row
    module _ (row : List ℕ) where
      abbrev Listed : Result ℕ ℕ → List ℕ → Type 0
      Listed r out = (r ≡ listed b m fs n row) × ((listing_number r ≡ listing_row b m fs n row) × (out ≡ listed_row b m fs n row))

      pub filters_refuse : (r : ℕ) → r ≡ filters_row m fs n → r ≢ 0 → Listed (Err r) row
      unfolding listed listed_row listing_row
      filters_refuse r e ne = rw (← e, ne_eqb r 0 ne, ne_eqb r 0 ne) (refl, (refl, refl))

      module _ (passed : filters_row m fs n ≡ 0) where
        pub not_sound : sound b ≡ false → Listed (Err 11) row
        unfolding listed listed_row listing_row
        not_sound e = rw (passed, e) (refl, (refl, refl))

        pub answers_rest : sound b ≡ true → (r : Result ℕ ℕ) (out : List ℕ) → r ≡ told (answer_to b m fs n) row → out ≡ told_row (answer_to b m fs n) row → Listed r out
        unfolding listed listed_row listing_row told told_row laid_over
        answers_rest e r out p q = rw (passed, e, p, q) (go (ltb (length row) (length (answer_to b m fs n))))
          where
            go : (t : Bool) → (cond {A = Result ℕ ℕ} t (Err 13) (Ok (length (answer_to b m fs n))) ≡ cond (eqb (cond t 13 0) 0) (Ok (length (answer_to b m fs n))) (Err (cond t 13 0)))
                × ((listing_number (cond t (Err 13) (Ok (length (answer_to b m fs n)))) ≡ cond t 13 0)
                × (cond t row (laid_over (answer_to b m fs n) row) ≡ cond (eqb (cond t 13 0) 0) (laid_over (answer_to b m fs n) row) row))
            go true = (refl, (refl, refl))
            go false = (refl, (refl, refl))
