-- The form that 01 asks for is shortest decimal and nothing else: what is written is read, and what is read is what
-- would be written.
use mathlib.Core.Path.{◌≡◌, refl, sym, ap, ◌∙◌}
use mathlib.Core.Bool.{Bool, true, false, cond, ◌&&◌}
use mathlib.Core.List.{List, [], ◌∷◌, ◌++◌, append_assoc, append-nil}
use Prim.Native.Nat.{ℕ, zero, suc, ◌+◌, ◌-◌, ◌*◌, ◌^◌, ◌<◌, ◌≤◌}
use native.Mathlib.Omega.{arith}
use borrow.Author.Tests.{ne_eqb, eqb-true, eqb-false, leb-true}
use lib.Dec.{eqb, leb, lit<}
use lib.IntN.{ℤ, pos, negsuc, neg_ℤ}
use lib.Signed.{mag}
use lib.ListN.{length, get_or}
use Rattle.numeral.specs.Decimal.{digits, decimal}
use Rattle.wire.specs.Limits.{widest}
use Rattle.numeral.specs.Whole.{is_digit, all_digits, value_from, value_of, is_empty, is_natural, Spelled, malformed}
use Rattle.numeral.specs.Whole.{whole, natural_of, negative_of, whole_of, is_within, whole_answer}
use Rattle.numeral.specs.declared.Whole.TheVariants.{Value, Large}
use Rattle.numeral.proofs.Digits.{digits_one, digits_more, digits_all, digits_first, value_digits, digits_few}
use Rattle.numeral.proofs.Digits.{digits_20}

and_true : (a b : Bool) → a && b ≡ true → (a ≡ true) × (b ≡ true)
and_true true true e = (refl, refl)
and_true true false e = absurd (let z : ◌≡◌ {A = ℕ} 0 1 = cc in omega arith)
and_true false b e = absurd (let z : ◌≡◌ {A = ℕ} 0 1 = cc in omega arith)

digit_low : (x : ℕ) → is_digit x ≡ true → (48 ≤ x) × (x ≤ 57)
unfolding is_digit
digit_low x e = let a = and_true (leb 48 x) (leb x 57) e in (leb-true 48 x a.0, leb-true x 57 a.1)

-- ---- written, then read
natural_lead : (l : List ℕ) → all_digits l ≡ true → 48 < get_or l 0 0 → is_natural l ≡ true
unfolding is_natural
natural_lead [] e h = absurd (omega arith)
natural_lead (x ∷ l) e h = rw (ne_eqb x 48 (λ q. omega arith)) e

pub natural_digits : (n : ℕ) → is_natural (digits n) ≡ true
unfolding is_natural
natural_digits zero = rw (digits_one 0 (omega arith))
natural_digits (suc n) = natural_lead (digits (suc n)) (digits_all (suc n)) (digits_first (suc n) (omega arith))

-- a natural number does not begin with a minus
whole_natural : (l : List ℕ) → is_natural l ≡ true → whole_of l ≡ natural_of l
unfolding whole_of is_natural all_digits is_digit
whole_natural [] e = absurd (let z : ◌≡◌ {A = ℕ} 0 1 = cc in omega arith)
whole_natural (x ∷ l) e = go (eqb x 45) refl
  where
    go : (t : Bool) → eqb x 45 ≡ t → cond t (negative_of l) (natural_of (x ∷ l)) ≡ natural_of (x ∷ l)
    go false q = refl
    go true q = absurd (let f = rw (eqb-true x 45 q) at e in let z : ◌≡◌ {A = ℕ} 0 1 = cc in omega arith)

pub whole_decimal : (z : ℤ) → whole_of (decimal z) ≡ whole z
unfolding decimal whole_of natural_of negative_of
whole_decimal (pos n) = whole_natural (digits n) (natural_digits n) ∙ rw (natural_digits n, value_digits n)
whole_decimal (negsuc n) = rw (natural_digits (suc n), value_digits (suc n), ne_eqb (suc n) 0 (λ e. omega arith))

-- ---- read, then written
value_more : (l : List ℕ) (v : ℕ) → 0 < v → all_digits l ≡ true → digits (value_from v l) ≡ digits v ++ l
unfolding all_digits value_from
value_more [] v h e = sym (append-nil (digits v))
value_more (x ∷ l) v h e =
    let a = and_true (is_digit x) (all_digits l) e in
    let d = digit_low x a.0 in
    let z : 48 + (x - 48) ≡ x = omega arith in
    value_more l (v * 10 + (x - 48)) (omega arith) a.1
    ∙ rw (digits_more v (x - 48) h (omega arith), z) (append_assoc (digits v) (x ∷ []) l)

pub digits_natural : (l : List ℕ) → is_natural l ≡ true → digits (value_of l) ≡ l
unfolding is_natural value_from all_digits
digits_natural [] e = absurd (let z : ◌≡◌ {A = ℕ} 0 1 = cc in omega arith)
digits_natural (x ∷ l) e = go (eqb x 48) refl e
  where
    nought : (l : List ℕ) → x ≡ 48 → is_empty l ≡ true → digits (value_of (x ∷ l)) ≡ x ∷ l
    nought [] q e = rw q (digits_one 0 (omega arith))
    nought (y ∷ l) q e = absurd (let z : ◌≡◌ {A = ℕ} 0 1 = cc in omega arith)

    go : (t : Bool) → eqb x 48 ≡ t → cond t (is_empty l) (all_digits (x ∷ l)) ≡ true → digits (value_of (x ∷ l)) ≡ x ∷ l
    go true q e = nought l (eqb-true x 48 q) e
    go false q e =
        let n = eqb-false x 48 q in
        let a = and_true (is_digit x) (all_digits l) e in
        let d = digit_low x a.0 in
        let m : 0 < 0 * 10 + (x - 48) = omega arith in
        let k : 0 * 10 + (x - 48) ≡ x - 48 = omega arith in
        let z : 48 + (x - 48) ≡ x = omega arith in
        value_more l (0 * 10 + (x - 48)) m a.1 ∙ rw (k, digits_one (x - 48) (omega arith), z)

pub decimal_whole : (l : List ℕ) (z : ℤ) → whole_of l ≡ whole z → l ≡ decimal z
unfolding decimal whole_of natural_of negative_of
decimal_whole [] z e = absurd (let z : ◌≡◌ {A = ℕ} 0 1 = cc in omega arith)
decimal_whole (x ∷ l) z e = go (eqb x 45) refl e
  where
    positive : (t : Bool) → is_natural (x ∷ l) ≡ t → cond t (whole (pos (value_of (x ∷ l)))) malformed ≡ whole z → x ∷ l ≡ decimal z
    positive true q e = let k : pos (value_of (x ∷ l)) ≡ z = cc in rw (← k) (sym (digits_natural (x ∷ l) q))
    positive false q e = absurd (let z : ◌≡◌ {A = ℕ} 0 1 = cc in omega arith)

    negative : (t : Bool) (n : ℕ) → is_natural l ≡ t → value_of l ≡ n → cond t (cond (eqb n 0) malformed (whole (neg_ℤ (pos n)))) malformed ≡ whole z → 45 ∷ l ≡ decimal z
    negative false n q v e = absurd (let z : ◌≡◌ {A = ℕ} 0 1 = cc in omega arith)
    negative true zero q v e = absurd (let z : ◌≡◌ {A = ℕ} 0 1 = cc in omega arith)
    negative true (suc n) q v e =
        let f = rw (ne_eqb (suc n) 0 (λ e. omega arith)) at e in
        let k : negsuc n ≡ z = cc in
        rw (← k, ← v) (ap (λ (d : List ℕ). 45 ∷ d) (sym (digits_natural l q)))

    go : (t : Bool) → eqb x 45 ≡ t → cond t (negative_of l) (natural_of (x ∷ l)) ≡ whole z → x ∷ l ≡ decimal z
    go true q e = ap (λ (b : ℕ). b ∷ l) (eqb-true x 45 q) ∙ negative (is_natural l) (value_of l) refl refl e
    go false q e = positive (is_natural (x ∷ l)) refl e

pub decimal_once : (y z : ℤ) → decimal y ≡ decimal z → y ≡ z
decimal_once y z e = let a : whole y ≡ whole z = sym (whole_decimal y) ∙ ap whole_of e ∙ whole_decimal z in cc

-- ---- within the widest range
abbrev pub in_range : ℤ → Bool
in_range z = is_within (Value z) (neg_ℤ (pos widest)) (pos widest)

pub answer_value : (r : Spelled) (z : ℤ) → whole_answer r ≡ Value z → (r ≡ whole z) × (in_range z ≡ true)
unfolding whole_answer
answer_value malformed z e = absurd (let z : ◌≡◌ {A = ℕ} 0 1 = cc in omega arith)
answer_value (whole y) z e = go (in_range y) refl e
  where
    go : (t : Bool) → in_range y ≡ t → cond t (Value y) Large ≡ Value z → (whole y ≡ whole z) × (in_range z ≡ true)
    go true q e = let k : y ≡ z = cc in (ap whole k, sym (ap in_range k) ∙ q)
    go false q e = absurd (let z : ◌≡◌ {A = ℕ} 0 1 = cc in omega arith)

pub decimal_value : (z : ℤ) → in_range z ≡ true → whole_answer (whole_of (decimal z)) ≡ Value z
unfolding whole_answer
decimal_value z e = rw (whole_decimal z, e)

-- ---- how long
pub decimal_20 : (z : ℤ) → mag z < 2 ^ 63 → length (decimal z) ≤ 20
unfolding decimal
decimal_20 (pos n) h = digits_20 n (omega arith)
decimal_20 (negsuc n) h = omega (arith, digits_few 19 (suc n) (lit< tt) (omega arith))
