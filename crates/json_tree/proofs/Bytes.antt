-- Bytes and runs of bytes: a byte of a class lies within the text, and a run goes a byte at a time.
use Rattle.std.specs.Prelude.{Some, None}
use mathlib.Core.Path.{◌≡◌, refl, sym, ap, ◌∙◌}
use mathlib.Core.List.{List, [], ◌∷◌}
use mathlib.Core.Bool.{Bool, true, false, ◌&&◌, false≢true}
use Prim.Native.Nat.{ℕ, zero, suc, ◌+◌, ◌<◌, ◌≤◌}
use native.Mathlib.Nat.{add-zero}
use native.Mathlib.Numerals.{add-one}
use native.Mathlib.Decide.{dec_lt}
use native.Mathlib.Omega.{arith}
use lib.ListN.{length, get_or, drop, get_or-eq_default, drop_of_length-le}
use lib.Dec.{ltb}
use lib.Seq.{drop-cons}
use borrow.Author.Tests.{lt-ltb, le-ltb, le-leb, lt-leb, eq-eqb, ne_eqb, ltb-true}
use Rattle.json_tree.specs.Grammar.{case, no_zero, in_class, run, past, one_at, word_at, digits_at}
use Rattle.json_tree.specs.declared.Class.{Class}
use Rattle.json_tree.specs.declared.Class.TheVariants.{Digit, Hex, Short, Byte}

pub ruleset tests = (lt-ltb, le-ltb, le-leb, lt-leb, eq-eqb, ne_eqb)

module _ (class : Class) (s : List ℕ) (at : ℕ) where
  pub class_within : in_class class 0 ≡ false → in_class class (get_or s at 0) ≡ true → at < length s
  class_within z e = elim (dec_lt at (length s)) [
    | yes h ↦ h
    | no h ↦
        let l : length s ≤ at = omega arith in
        absurd (false≢true (sym z ∙ sym (ap (in_class class) (get_or-eq_default s 0 l)) ∙ e))
  ]

  pub past_more : at < length s → in_class class (get_or s at 0) ≡ true → past class s (at + 1) ≡ past class s at
  unfolding past run
  past_more h e =
      let q : drop at s ≡ get_or s at 0 ∷ drop (at + 1) s = rw (add-one, drop-cons s at 0) in
      let r : run class (drop at s) ≡ suc (run class (drop (at + 1) s)) = rw (q, e) in
      omega arith

  pub past_none : in_class class (get_or s at 0) ≡ false → past class s at ≡ at
  unfolding past run
  past_none e = elim (dec_lt at (length s)) [
    | yes h ↦ rw (drop-cons s at 0, e, add-zero)
    | no h ↦
        let l : length s ≤ at = omega arith in
        rw (drop_of_length-le s l, add-zero)
  ]

pub byte_not_zero : (b : ℕ) → 0 < b → in_class (Byte b) 0 ≡ false
unfolding in_class
byte_not_zero b h = ne_eqb 0 b (λ e. omega arith)

digit_not_zero : in_class Digit 0 ≡ false
unfolding in_class
digit_not_zero = refl

pub hex_not_zero : in_class Hex 0 ≡ false
unfolding in_class
hex_not_zero = refl

pub short_not_zero : in_class Short 0 ≡ false
unfolding in_class
short_not_zero = refl

pub digits_are : (s : List ℕ) (at : ℕ) → in_class Digit (get_or s at 0) ≡ true → digits_at s at ≡ Some (past Digit s at)
unfolding digits_at one_at
digits_are s at e =
    let h = class_within Digit s at digit_not_zero e in
    let q = past_more Digit s at h e in
    rw (e, q)

-- ---- the bytes of a word
module _ (s w : List ℕ) (k i : ℕ) where
  pub word_out : length w ≤ k → word_at s (drop k w) i ≡ Some i
  unfolding word_at
  word_out h = rw (drop_of_length-le w h)

  pub word_step : k < length w → word_at s (drop k w) i ≡ case (one_at s (Byte (get_or w k 0)) i) (word_at s (drop (k + 1) w)) None
  unfolding word_at
  word_step h = rw (add-one, drop-cons w k 0)

pub both : (a b : Bool) → (a && b) ≡ true → (a ≡ true) × (b ≡ true)
both true b e = (refl, e)
both false b e = absurd (false≢true e)

pub no_zero_lem : (w : List ℕ) (k : ℕ) → no_zero w ≡ true → k < length w → 0 < get_or w k 0
no_zero_lem [] k e h = omega arith
no_zero_lem (b ∷ w) zero e h = ltb-true 0 b (both (ltb 0 b) (no_zero w) e).0
no_zero_lem (b ∷ w) (suc k) e h = no_zero_lem w k (both (ltb 0 b) (no_zero w) e).1 (omega arith)
