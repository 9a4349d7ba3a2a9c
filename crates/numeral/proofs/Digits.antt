-- Laws of shortest decimal: one digit more, what its digits spell, its length, and that no two numbers share it.
use mathlib.Core.Path.{◌≡◌, refl, ap, ◌∙◌}
use mathlib.Core.Bool.{Bool, true, false, ◌&&◌}
use mathlib.Core.List.{List, [], ◌∷◌, ◌++◌}
use Prim.Native.Nat.{ℕ, zero, suc, ◌+◌, ◌-◌, ◌*◌, ◌/◌, ◌%◌, ◌^◌, ◌<◌, ◌≤◌}
use native.Mathlib.Nat.{div-lt_iff_lt-mul, pow-suc}
use native.Mathlib.Decide.{dec_lt}
use native.Mathlib.Omega.{arith}
use borrow.Author.Tests.{lt-ltb, le-ltb, le-leb, ltb-false}
use lib.Dec.{ltb, lit<}
use lib.ListN.{length, get_or, length-append}
use Rattle.numeral.specs.Decimal.{digits_in, digits}
use Rattle.numeral.specs.Whole.{is_digit, all_digits, value_from, value_of}

-- any fuel above n gives the same
in_fuel : (f g n : ℕ) → n < f → n < g → digits_in f n ≡ digits_in g n
unfolding digits_in
in_fuel zero g n h k = absurd (omega arith)
in_fuel (suc f) zero n h k = absurd (omega arith)
in_fuel (suc f) (suc g) n h k = go (ltb n 10) refl (in_fuel f g (n / 10))
  where
    go : (t : Bool) → ltb n 10 ≡ t → (n / 10 < f → n / 10 < g → digits_in f (n / 10) ≡ digits_in g (n / 10)) → digits_in (suc f) n ≡ digits_in (suc g) n
    go true e ih = rw (digits_in, e)
    go false e ih = let l = ltb-false n 10 e in rw (digits_in, e, ih (omega arith) (omega arith))

pub digits_one : (n : ℕ) → n < 10 → digits n ≡ (48 + n) ∷ []
unfolding digits digits_in
digits_one n h = rw (digits_in, lt-ltb n 10 h)

in_more : (f n : ℕ) → 10 ≤ n → digits_in (suc f) n ≡ digits_in f (n / 10) ++ ((48 + n % 10) ∷ [])
unfolding digits_in
in_more f n h = rw (digits_in, le-ltb n 10 h)

pub digits_split : (n : ℕ) → 10 ≤ n → digits n ≡ digits (n / 10) ++ ((48 + n % 10) ∷ [])
unfolding digits
digits_split n h = in_more n n h ∙ rw (in_fuel n (suc (n / 10)) (n / 10) (omega arith) (omega arith))

pub digits_more : (v d : ℕ) → 0 < v → d < 10 → digits (v * 10 + d) ≡ digits v ++ ((48 + d) ∷ [])
digits_more v d h k =
    let q : (v * 10 + d) / 10 ≡ v = omega arith in
    let r : (v * 10 + d) % 10 ≡ d = omega arith in
    digits_split (v * 10 + d) (omega arith) ∙ rw (q, r)

-- what holds of one digit, and of n where it holds of n / 10, holds of all
module _ (P : ℕ → Type 0) (one : (n : ℕ) → n < 10 → P n) (more : (n : ℕ) → 10 ≤ n → P (n / 10) → P n) where
  upto : (f n : ℕ) → n < f → P n
  upto zero n h = absurd (omega arith)
  upto (suc f) n h = elim (dec_lt n 10) [ yes k ↦ one n k | no k ↦ more n (omega arith) (upto f (n / 10) (omega arith)) ]

  pub by_digits : (n : ℕ) → P n
  by_digits n = upto (suc n) n (omega arith)

-- ---- what they spell
value_append : (v : ℕ) (l m : List ℕ) → value_from v (l ++ m) ≡ value_from (value_from v l) m
unfolding value_from
value_append v [] m = refl
value_append v (x ∷ l) m = value_append (v * 10 + (x - 48)) l m

pub value_digits : (n : ℕ) → value_of (digits n) ≡ n
unfolding value_from
value_digits = by_digits (λ n. value_of (digits n) ≡ n) one more
  where
    one : (n : ℕ) → n < 10 → value_of (digits n) ≡ n
    one n h = rw (digits_one n h) (omega arith)

    more : (n : ℕ) → 10 ≤ n → value_of (digits (n / 10)) ≡ n / 10 → value_of (digits n) ≡ n
    more n h e = rw (digits_split n h, value_append 0 (digits (n / 10)) ((48 + n % 10) ∷ []), e) (omega arith)

-- ---- each is a digit, and the first is not 0
pub digit_is : (x : ℕ) → 48 ≤ x → x ≤ 57 → is_digit x ≡ true
unfolding is_digit
digit_is x h k = rw (le-leb 48 x h, le-leb x 57 k)

all_append : (l m : List ℕ) → all_digits l ≡ true → all_digits m ≡ true → all_digits (l ++ m) ≡ true
unfolding all_digits
all_append [] m e f = f
all_append (x ∷ l) m e f = go (is_digit x) e (λ d. all_append l m d f)
  where
    go : (t : Bool) → t && all_digits l ≡ true → (all_digits l ≡ true → all_digits (l ++ m) ≡ true) → t && all_digits (l ++ m) ≡ true
    go true e ih = ih e
    go false e ih = e

pub digits_all : (n : ℕ) → all_digits (digits n) ≡ true
unfolding all_digits
digits_all = by_digits (λ n. all_digits (digits n) ≡ true) one more
  where
    one : (n : ℕ) → n < 10 → all_digits (digits n) ≡ true
    one n h = rw (digits_one n h, digit_is (48 + n) (omega arith) (omega arith))

    more : (n : ℕ) → 10 ≤ n → all_digits (digits (n / 10)) ≡ true → all_digits (digits n) ≡ true
    more n h e = rw (digits_split n h) (all_append (digits (n / 10)) ((48 + n % 10) ∷ []) e (rw (digit_is (48 + n % 10) (omega arith) (omega arith))))

first_append : (l m : List ℕ) → 0 < get_or l 0 0 → get_or (l ++ m) 0 0 ≡ get_or l 0 0
first_append [] m h = absurd (omega arith)
first_append (x ∷ l) m h = refl

pub digits_first : (n : ℕ) → 0 < n → 48 < get_or (digits n) 0 0
digits_first = by_digits (λ n. 0 < n → 48 < get_or (digits n) 0 0) one more
  where
    one : (n : ℕ) → n < 10 → 0 < n → 48 < get_or (digits n) 0 0
    one n h k = rw (digits_one n h) (omega arith)

    more : (n : ℕ) → 10 ≤ n → (0 < n / 10 → 48 < get_or (digits (n / 10)) 0 0) → 0 < n → 48 < get_or (digits n) 0 0
    more n h ih k =
        let a = ih (omega arith) in
        rw (digits_split n h, first_append (digits (n / 10)) ((48 + n % 10) ∷ []) (omega arith)) a

-- ---- how many
pub one_length : (n : ℕ) → n < 10 → length (digits n) ≡ 1
one_length n h = ap length (digits_one n h)

pub digits_length : (n : ℕ) → 10 ≤ n → length (digits n) ≡ length (digits (n / 10)) + 1
digits_length n h = ap length (digits_split n h) ∙ length-append (digits (n / 10)) ((48 + n % 10) ∷ [])

pub some_digit : (n : ℕ) → 1 ≤ length (digits n)
some_digit n = elim (dec_lt n 10) [ yes h ↦ omega (arith, one_length n h) | no h ↦ omega (arith, digits_length n (omega arith)) ]

-- a number below the power k of ten has at most k digits
few : (k n : ℕ) → n < 10 ^ suc k → length (digits n) ≤ suc k
few zero n h = let l : n < 10 = h in omega (arith, one_length n l)
few (suc k) n h = elim (dec_lt n 10) [
  | yes l ↦ omega (arith, one_length n l)
  | no l ↦
      let q : n < 10 ^ suc k * 10 = rw (← pow-suc 10 (suc k)) h in
      let p : n / 10 < 10 ^ suc k = (div-lt_iff_lt-mul (lit< tt)).1 q in
      omega (arith, digits_length n (omega arith), few k (n / 10) p)
]

pub digits_few : (k n : ℕ) → 0 < k → n < 10 ^ k → length (digits n) ≤ k
digits_few zero n z h = absurd (omega arith)
digits_few (suc k) n z h = few k n h

pub digits_20 : (n : ℕ) → n < 2 ^ 64 → length (digits n) ≤ 20
digits_20 n h = digits_few 20 n (lit< tt) (omega arith)
