-- Numbers: the bytes up to the next comma are a decimal exactly if a decimal stands there and a comma follows.
use mathlib.Core.Path.{◌≡◌, refl, sym, ap, ◌∙◌}
use mathlib.Core.Bool.{Bool, true, false, cond, ◌&&◌}
use mathlib.Core.List.{List, [], ◌∷◌, ◌++◌}
use Prim.Native.Nat.{ℕ, suc, ◌+◌}
use native.Mathlib.Omega.{arith}
use lib.Dec.{eqb, leb}
use lib.IntN.{ℤ, pos, negsuc}
use lib.ListN.{length, get_or, drop}
use borrow.Author.Tests.{ne_eqb, leb-true}
use Rattle.numeral.specs.Decimal.{digits, decimal}
use Rattle.numeral.specs.Whole.{is_digit, all_digits, whole_of}
use Rattle.numeral.specs.Whole as numeral
use Rattle.numeral.proofs.Digits.{digits_all}
use Rattle.numeral.proofs.Wholes.{whole_decimal, decimal_whole}
use Rattle.text.specs.Event.{is_time, is_kind}
use Rattle.text.specs.Read.{none, got, run_of, time_of, kind_of, time_at, kind_at}
use Rattle.text.proofs.Pieces.{Spelt, Piece, both, spelt, first_of}

-- ---- the run up to a comma
pub run_split : (l : List ℕ) → l ≡ run_of l ++ drop (length (run_of l)) l
unfolding run_of
run_split [] = refl
run_split (x ∷ l) = go (eqb x 44) (run_split l)
  where
    go : (t : Bool) → l ≡ run_of l ++ drop (length (run_of l)) l
        → x ∷ l ≡ cond t [] (x ∷ run_of l) ++ drop (length (cond t [] (x ∷ run_of l))) (x ∷ l)
    go true ih = refl
    go false ih = ap (◌∷◌ x) ih

run_over : (l r : List ℕ) → all_digits l ≡ true → get_or r 0 0 ≡ 44 → run_of (l ++ r) ≡ l
unfolding run_of all_digits is_digit
run_over [] [] e c = refl
run_over [] (x ∷ r) e c = rw (run_of, c)
run_over (x ∷ l) r e c =
    let a = both (leb 48 x && leb x 57) (all_digits l) e in
    let h = leb-true 48 x (both (leb 48 x) (leb x 57) a.0).0 in
    rw (run_of, ne_eqb x 44 (λ q. omega arith), run_over l r a.1 c)

run_decimal : (z : ℤ) (r : List ℕ) → get_or r 0 0 ≡ 44 → run_of (decimal z ++ r) ≡ decimal z
unfolding decimal run_of
run_decimal (pos n) r c = run_over (digits n) r (digits_all n) c
run_decimal (negsuc n) r c = ap (◌∷◌ 45) (run_over (digits (suc n)) r (digits_all (suc n)) c)

-- a number that is read stands there
run_spelt : (s : List ℕ) (at : ℕ) (z : ℤ) → whole_of (run_of (drop at s)) ≡ numeral.whole z → Spelt s at (decimal z) (at + length (run_of (drop at s)))
run_spelt s at z e =
    let d = decimal_whole (run_of (drop at s)) z e in
    let l : List ℕ = drop at s in
    rw (← d) (spelt s (run_of l) (drop (length (run_of l)) l) at (at + length (run_of l)) (run_split l) refl)

-- a number that stands there is read
module _ (s : List ℕ) (at : ℕ) (z : ℤ) (n : ℕ) (a : Spelt s at (decimal z) n) (c : get_or s n 0 ≡ 44) where
  run_is : run_of (drop at s) ≡ decimal z
  run_is = ap run_of a.is ∙ run_decimal z (drop n s) (sym (first_of s n (drop n s) refl) ∙ c)

  run_whole : whole_of (run_of (drop at s)) ≡ numeral.whole z
  run_whole = ap whole_of run_is ∙ whole_decimal z

  run_end : at + length (run_of (drop at s)) ≡ n
  run_end = omega (arith, a.end, ap length run_is)

-- ---- times
pub time_same : (s : List ℕ) (at : ℕ) (z : ℤ) (n : ℕ) → time_at s at ≡ got z n → Piece decimal is_time s at z n
unfolding time_at
time_same s at z n q = go (whole_of (run_of (drop at s))) refl q
  where
    go : (w : numeral.Spelled) → whole_of (run_of (drop at s)) ≡ w → time_of w (at + length (run_of (drop at s))) ≡ got z n → Piece decimal is_time s at z n
    go numeral.malformed e q = absurd (let z : ◌≡◌ {A = ℕ} 0 1 = cc in omega arith)
    go (numeral.whole y) e q = small (is_time y) refl q
      where
        small : (t : Bool) → is_time y ≡ t → cond t (got y (at + length (run_of (drop at s)))) none ≡ got z n → Piece decimal is_time s at z n
        small true h q =
            let zy : y ≡ z = cc in
            let zn : at + length (run_of (drop at s)) ≡ n = cc in
            rw (← zy, ← zn) (record { is = run_spelt s at y e; fine = h })
        small false h q = absurd (let z : ◌≡◌ {A = ℕ} 0 1 = cc in omega arith)

pub time_back : (s : List ℕ) (at : ℕ) (z : ℤ) (n : ℕ) → Piece decimal is_time s at z n → get_or s n 0 ≡ 44 → time_at s at ≡ got z n
unfolding time_at
time_back s at z n a c = rw (run_whole s at z n a.is c, run_end s at z n a.is c, a.fine)

-- ---- kinds
pub kind_same : (s : List ℕ) (at k n : ℕ) → kind_at s at ≡ got k n → Piece digits is_kind s at k n
unfolding kind_at decimal
kind_same s at k n q = go (whole_of (run_of (drop at s))) refl q
  where
    go : (w : numeral.Spelled) → whole_of (run_of (drop at s)) ≡ w → kind_of w (at + length (run_of (drop at s))) ≡ got k n → Piece digits is_kind s at k n
    go numeral.malformed e q = absurd (let z : ◌≡◌ {A = ℕ} 0 1 = cc in omega arith)
    go (numeral.whole (negsuc y)) e q = absurd (let z : ◌≡◌ {A = ℕ} 0 1 = cc in omega arith)
    go (numeral.whole (pos y)) e q = small (is_kind y) refl q
      where
        small : (t : Bool) → is_kind y ≡ t → cond t (got y (at + length (run_of (drop at s)))) none ≡ got k n → Piece digits is_kind s at k n
        small true h q =
            let zy : y ≡ k = cc in
            let zn : at + length (run_of (drop at s)) ≡ n = cc in
            rw (← zy, ← zn) (record { is = run_spelt s at (pos y) e; fine = h })
        small false h q = absurd (let z : ◌≡◌ {A = ℕ} 0 1 = cc in omega arith)

pub kind_back : (s : List ℕ) (at k n : ℕ) → Piece digits is_kind s at k n → get_or s n 0 ≡ 44 → kind_at s at ≡ got k n
unfolding kind_at decimal
kind_back s at k n a c = rw (run_whole s at (pos k) n a.is c, run_end s at (pos k) n a.is c, a.fine)
