-- A law for each way out of the code.
use mathlib.Core.Path.{◌≡◌, refl, sym, ap, ◌∙◌}
use mathlib.Core.Bool.{Bool, true, false, cond, not}
use mathlib.Core.List.{List, [], ◌∷◌, ◌++◌, append_assoc}
use Prim.Native.Nat.{ℕ, zero, suc, ◌+◌, ◌-◌, ◌*◌, ◌/◌, ◌%◌, ◌^◌, ◌<◌, ◌≤◌, min}
use native.Mathlib.Decide.{dec_le}
use native.Mathlib.Omega.{arith}
use native.Mathlib.Numerals.{add-one}
use borrow.Author.Tests.{lt-ltb, le-ltb, le-leb, lt-leb, eq-eqb, ne_eqb, ltb-true, eqb-true}
use lib.Dec.{eqb, leb, ltb}
use lib.IntN.{ℤ, pos, negsuc, neg_ℤ, nat_abs, ◌-ℤ◌, +ℤ_idl}
use lib.ListN.{length, take, drop, get_or, set, length-set, length-drop, drop_of_length-le}
use lib.Seq.{drop-cons, drop-set-lt, get_or-set_same, take_all}
use lib.Signed.{lt_z, le_z, mag}
use mir.Facts.{to_z_pos}
use mir.Syntax.{w64}
use mir.Val.{to_z, of_z, SFits}
use mir.ValLaws.{to_z-of_z}
use Rattle.wire.specs.Put.{Puts}
use Rattle.wire.proofs.Laws.{puts_then}
use Rattle.numeral.specs.Decimal.{digits, decimal}
use Rattle.wire.specs.Limits.{widest}
use Rattle.numeral.specs.Whole.{is_digit, all_digits, value_from, value_of, is_natural, malformed, whole, natural_of}
use Rattle.numeral.specs.Whole.{negative_of, whole_of, is_within, whole_answer}
use Rattle.numeral.specs.Inner.{above_widest, digits_sum, natural_sum, above_of, below_of}
use Rattle.numeral.specs.declared.Whole.{Whole}
use Rattle.numeral.specs.declared.Whole.TheVariants.{Value, Large}
use Rattle.std.specs.Prelude.{Option, Some, None}
use Rattle.numeral.proofs.Digits.{digits_one, digits_split, digits_length, one_length, some_digit, digit_is}

-- ---- digits read
not_low : (x : ℕ) → x < 48 → is_digit x ≡ false
unfolding is_digit
not_low x h = rw (lt-leb 48 x h)

not_high : (x : ℕ) → 57 < x → is_digit x ≡ false
unfolding is_digit
not_high x h = rw (le-leb 48 x (omega arith), lt-leb x 57 h)

-- b is the answer seen from i on; the digits passed spell a number that v is, but for the cap
pub record Seen (b : Option ℕ) (s : List ℕ) (i v : ℕ) : Type 0 where
  pub sum : ℕ
  pub is : v ≡ min sum above_widest
  pub same : b ≡ digits_sum sum (drop i s)

module _ {b : Option ℕ} {s : List ℕ} {i v : ℕ} (p : Seen b s i v) where
  pub seen_end_lem : length s ≤ i → Some v ≡ b
  unfolding digits_sum all_digits value_from
  seen_end_lem h = sym (p.same ∙ rw (drop_of_length-le s {i = i} h, p.is))

  module _ (h : i < length s) where
    seen_other : is_digit (get_or s i 0) ≡ false → None ≡ b
    unfolding digits_sum all_digits
    seen_other e = sym (p.same ∙ rw (drop-cons s i 0, e))

    pub seen_low : get_or s i 0 < 48 → None ≡ b
    seen_low l = seen_other (not_low (get_or s i 0) l)

    pub seen_high : 57 < get_or s i 0 → None ≡ b
    seen_high l = seen_other (not_high (get_or s i 0) l)

    pub seen_more : 48 ≤ get_or s i 0 → get_or s i 0 ≤ 57 → (w : ℕ) → w ≡ min (v * 10 + (get_or s i 0 - 48)) above_widest → Seen b s (i + 1) w
    unfolding digits_sum all_digits value_from
    seen_more l r w e = record {
      sum = p.sum * 10 + (get_or s i 0 - 48);
      is = omega (arith, e, p.is);
      same = p.same ∙ rw (drop-cons s i 0, digit_is (get_or s i 0) l r, add-one);
    }

-- a first 0 only alone
pub natural_none : (l : List ℕ) → length l < 1 → None ≡ natural_sum l
unfolding natural_sum is_natural
natural_none [] h = refl
natural_none (x ∷ l) h = absurd (omega arith)

pub natural_zeros : (l : List ℕ) → 2 ≤ length l → get_or l 0 0 ≡ 48 → None ≡ natural_sum l
unfolding natural_sum is_natural
natural_zeros [] h z = absurd (omega arith)
natural_zeros (x ∷ []) h z = absurd (omega arith)
natural_zeros (x ∷ y ∷ l) h z = rw z

pub natural_rest : (l : List ℕ) → 1 ≤ length l → (get_or l 0 0 ≡ 48 → length l < 2) → digits_sum 0 l ≡ natural_sum l
unfolding natural_sum is_natural digits_sum all_digits is_digit value_from
natural_rest [] h k = absurd (omega arith)
natural_rest (x ∷ []) h k = go (eqb x 48) refl
  where
    go : (t : Bool) → eqb x 48 ≡ t → digits_sum 0 (x ∷ []) ≡ cond (cond t true (all_digits (x ∷ []))) (Some (min (value_of (x ∷ [])) above_widest)) None
    go true q = rw (eqb-true x 48 q)
    go false q = refl
natural_rest (x ∷ y ∷ l) h k = rw (ne_eqb x 48 (λ e. omega (arith, k e)))

-- ---- the number, by its sign; the cap is above the widest
answer_pos : (v : ℕ) → above_of (Some (min v above_widest)) ≡ whole_answer (whole (pos v))
unfolding above_of whole_answer is_within
answer_pos v = elim (dec_le v widest) [
  | yes h ↦ let e : min v above_widest ≡ v = omega arith in rw (e, le-ltb widest v h)
  | no h ↦
      let k : widest < min v above_widest = omega arith in
      let l : widest < v = omega arith in
      rw (lt-ltb widest (min v above_widest) k, lt-ltb widest v l)
]

answer_neg : (n : ℕ) → below_of (Some (min (suc n) above_widest)) ≡ whole_answer (whole (negsuc n))
unfolding below_of whole_answer is_within
answer_neg n = elim (dec_le (suc n) widest) [
  | yes h ↦
      let e : min (suc n) above_widest ≡ suc n = omega arith in
      rw (e, ne_eqb (suc n) 0 (λ q. omega arith), le-ltb widest (suc n) h, le-ltb 9007199254740990 n (omega arith))
  | no h ↦
      let k : widest < min (suc n) above_widest = omega arith in
      rw (ne_eqb (min (suc n) above_widest) 0 (λ q. omega arith), lt-ltb widest (min (suc n) above_widest) k, lt-ltb 9007199254740990 n (omega arith))
]

above_is : (l : List ℕ) → above_of (natural_sum l) ≡ whole_answer (natural_of l)
unfolding natural_sum natural_of above_of whole_answer
above_is l = go (is_natural l)
  where
    go : (t : Bool) → above_of (cond t (Some (min (value_of l) above_widest)) None) ≡ whole_answer (cond t (whole (pos (value_of l))) malformed)
    go true = answer_pos (value_of l)
    go false = refl

below_is : (l : List ℕ) → below_of (natural_sum l) ≡ whole_answer (negative_of l)
unfolding natural_sum negative_of below_of whole_answer
below_is l = go (is_natural l) (value_of l)
  where
    go : (t : Bool) (v : ℕ) → below_of (cond t (Some (min v above_widest)) None) ≡ whole_answer (cond t (cond (eqb v 0) malformed (whole (neg_ℤ (pos v)))) malformed)
    go true zero = refl
    go true (suc n) = answer_neg n ∙ rw (ne_eqb (suc n) 0 (λ q. omega arith))
    go false v = refl

module _ (p : List ℕ) (n : Option ℕ) (r : Whole) where
  pub whole_minus : get_or p 0 0 ≡ 45 → n ≡ natural_sum (drop 1 p) → r ≡ below_of n → r ≡ whole_answer (whole_of p)
  unfolding whole_of
  whole_minus h e f = f ∙ ap below_of e ∙ go p h
    where
      go : (p : List ℕ) → get_or p 0 0 ≡ 45 → below_of (natural_sum (drop 1 p)) ≡ whole_answer (whole_of p)
      go [] h = absurd (omega arith)
      go (x ∷ l) h = below_is l ∙ rw (eq-eqb x 45 h)

  pub whole_plain : (get_or p 0 0 ≡ 45 → length p < 1) → n ≡ natural_sum p → r ≡ above_of n → r ≡ whole_answer (whole_of p)
  unfolding whole_of whole_answer natural_sum is_natural above_of
  whole_plain h e f = f ∙ ap above_of e ∙ go p h
    where
      go : (p : List ℕ) → (get_or p 0 0 ≡ 45 → length p < 1) → above_of (natural_sum p) ≡ whole_answer (whole_of p)
      go [] h = refl
      go (x ∷ l) h = above_is (x ∷ l) ∙ rw (ne_eqb x 45 (λ e. omega (arith, h e)))

-- ---- digits written
-- the digits of v, and those from i on, are the digits of n
pub record Made (n : ℕ) (text : List ℕ) (i v : ℕ) : Type 0 where
  pub long : length text ≡ 20
  pub some : 1 ≤ i
  pub room : length (digits v) ≤ i
  pub inside : i ≤ 20
  pub is : digits v ++ drop i text ≡ digits n

stored : (l : List ℕ) (j x : ℕ) → j < length l → drop j (set l j x) ≡ x ∷ drop (suc j) l
stored l j x h =
    let k : j < length (set l j x) = rw length-set h in
    drop-cons (set l j x) j 0 k ∙ rw (get_or-set_same l j x 0 h, drop-set-lt (suc j) l j x (omega arith))

module _ {n : ℕ} {text : List ℕ} {i v : ℕ} (m : Made n text i v) where
  last : (x : ℕ) → drop (i - 1) (set text (i - 1) x) ≡ x ∷ drop i text
  last x =
      let e : suc (i - 1) ≡ i = omega (arith, m.some) in
      let k : i - 1 < length text = omega (arith, m.long, m.some, m.inside) in
      stored text (i - 1) x k ∙ rw e

  pub made_turn : 10 ≤ v → Made n (set text (i - 1) (48 + v % 10)) (i - 1) (v / 10)
  made_turn h =
      let l = digits_length v h in
      let s = some_digit (v / 10) in
      record {
        long = length-set text (i - 1) (48 + v % 10) ∙ m.long;
        some = omega (arith, m.room);
        room = omega (arith, m.room);
        inside = omega (arith, m.inside);
        is = rw (last (48 + v % 10)) (sym (append_assoc (digits (v / 10)) ((48 + v % 10) ∷ []) (drop i text)) ∙ rw (← digits_split v h) m.is);
      }

  pub made_end : v < 10 → take (20 - (i - 1)) (drop (i - 1) (set text (i - 1) (48 + v))) ≡ digits n
  made_end h =
      let o = one_length v h in
      let k : length (drop (i - 1) (set text (i - 1) (48 + v))) ≤ 20 - (i - 1) = rw (length-drop, length-set) (omega (arith, m.long)) in
      take_all (20 - (i - 1)) (drop (i - 1) (set text (i - 1) (48 + v))) k ∙ last (48 + v)
      ∙ ap (λ (d : List ℕ). d ++ drop i text) (sym (digits_one v h)) ∙ m.is

-- ---- signed numbers
pub plain : (v : ℕ) → v ≤ widest → to_z w64 v ≡ pos v
plain v h = to_z_pos w64 (omega arith)

neg_fits : (v : ℕ) → v ≤ widest → SFits w64 (neg_ℤ (pos v))
neg_fits zero h = record { sfits = omega arith }
neg_fits (suc n) h = record { sfits = omega arith }

module _ (v : ℕ) (h : v ≤ widest) where
  pub minus_fits : SFits w64 (pos 0 -ℤ to_z w64 v)
  minus_fits = rw (plain v h, +ℤ_idl (neg_ℤ (pos v))) (neg_fits v h)

  pub minus_is : to_z w64 (of_z w64 (pos 0 -ℤ to_z w64 v)) ≡ neg_ℤ (pos v)
  minus_is = to_z-of_z w64 _ minus_fits ∙ rw (plain v h, +ℤ_idl (neg_ℤ (pos v)))

pub below_large : (v : ℕ) → widest < v → Large ≡ below_of (Some v)
unfolding below_of
below_large v h = rw (ne_eqb v 0 (λ e. omega arith), lt-ltb widest v h)

-- a number is what the machine reads back from its bits
pub back : (x : ℤ) → mag x < 2 ^ 63 → to_z w64 (of_z w64 x) ≡ x
back x f = to_z-of_z w64 x (record { sfits = f })

le_not : (m n : ℕ) → leb m n ≡ not (ltb n m)
le_not m n = elim (dec_le m n) [
  | yes h ↦ rw (le-leb m n h, le-ltb n m h)
  | no h ↦ let k : n < m = omega arith in rw (lt-leb m n k, lt-ltb n m k)
]

told_not : (x y : ℤ) → le_z x y ≡ not (lt_z y x)
told_not (pos m) (pos n) = le_not m n
told_not (pos m) (negsuc n) = refl
told_not (negsuc m) (pos n) = refl
told_not (negsuc m) (negsuc n) = le_not n m

told : (x y : ℤ) (t : Bool) → mag x < 2 ^ 63 → mag y < 2 ^ 63 → le_z (to_z w64 (of_z w64 x)) (to_z w64 (of_z w64 y)) ≡ t → not (lt_z y x) ≡ t
told x y t f g e = sym (told_not x y) ∙ rw (back x f, back y g) at e

module _ (w : Whole) (z lo hi : ℤ) (e : w ≡ Value z) (fz : mag z < 2 ^ 63) (fl : mag lo < 2 ^ 63) (fh : mag hi < 2 ^ 63) where
  pub within_low : le_z (to_z w64 (of_z w64 lo)) (to_z w64 (of_z w64 z)) ≡ false → le_z (to_z w64 (of_z w64 lo)) (to_z w64 (of_z w64 z)) ≡ is_within w lo hi
  unfolding is_within
  within_low a = a ∙ rw (e, told lo z false fl fz a)

  pub within_high : le_z (to_z w64 (of_z w64 lo)) (to_z w64 (of_z w64 z)) ≡ true → le_z (to_z w64 (of_z w64 z)) (to_z w64 (of_z w64 hi)) ≡ is_within w lo hi
  unfolding is_within
  within_high a = sym (told z hi _ fz fh refl) ∙ rw (e, told lo z true fl fz a)

-- ---- a number written
module _ (x : ℤ) (f : mag x < 2 ^ 63) (n : ℕ) (e : n ≡ nat_abs (to_z w64 (of_z w64 x))) where
  pub decimal_below : lt_z (to_z w64 (of_z w64 x)) (pos 0) ≡ true → decimal x ≡ 45 ∷ digits n
  unfolding decimal
  decimal_below t = go x (e ∙ ap nat_abs (back x f)) (rw (back x f) at t)
    where
      go : (x : ℤ) → n ≡ nat_abs x → lt_z x (pos 0) ≡ true → decimal x ≡ 45 ∷ digits n
      go (pos n) e t = absurd (omega (arith, ltb-true n 0 t))
      go (negsuc n) e t = rw e

  pub decimal_above : lt_z (to_z w64 (of_z w64 x)) (pos 0) ≡ false → decimal x ≡ digits n
  unfolding decimal
  decimal_above t = go x (e ∙ ap nat_abs (back x f)) (rw (back x f) at t)
    where
      go : (x : ℤ) → n ≡ nat_abs x → lt_z x (pos 0) ≡ false → decimal x ≡ digits n
      go (pos n) e t = rw e
      go (negsuc n) e t = absurd (let z : ◌≡◌ {A = ℕ} 0 1 = cc in omega arith)

  pub put_below : {d o o' : List ℕ} {at r r' : ℕ} → lt_z (to_z w64 (of_z w64 x)) (pos 0) ≡ true → Puts d at (45 ∷ []) r o → Puts o r (digits n) r' o' → Puts d at (decimal x) r' o'
  put_below t p q = rw (decimal_below t) (puts_then p q)

  pub put_above : {d o : List ℕ} {at r : ℕ} → lt_z (to_z w64 (of_z w64 x)) (pos 0) ≡ false → Puts d at (digits n) r o → Puts d at (decimal x) r o
  put_above t p = rw (decimal_above t) p
