-- What stands at a place: pieces in a row and single bytes, and when a reader is exact.
use mathlib.Core.Path.{◌≡◌, refl, sym, ap, ◌∙◌}
use mathlib.Core.Bool.{Bool, true, false, ◌&&◌, false≢true}
use mathlib.Core.List.{List, [], ◌∷◌, ◌++◌, append_assoc, append-nil}
use Prim.Native.Nat.{ℕ, ◌+◌, ◌<◌, ◌≤◌}
use native.Mathlib.Nat.{add-zero}
use native.Mathlib.Numerals.{add-one}
use native.Mathlib.Decide.{dec_lt}
use native.Mathlib.Omega.{arith}
use lib.ListN.{length, get_or, drop, length-append, length-drop, get_or-eq_default}
use lib.Seq.{drop-cons, drop-drop, drop-append_seam, get_or-drop, drop-length}
use Rattle.text.specs.Read.{Got, got}

pub both : (a b : Bool) → (a && b) ≡ true → (a ≡ true) × (b ≡ true)
both true b e = (refl, e)
both false b e = absurd (false≢true e)

pub and_true : (a b : Bool) → a ≡ true → b ≡ true → (a && b) ≡ true
and_true a b p q = rw (p, q)

-- p stands in s from at on, and ends at n
pub record Spelt (s : List ℕ) (at : ℕ) (p : List ℕ) (n : ℕ) : Type 0 where
  pub is : drop at s ≡ p ++ drop n s
  pub end : n ≡ at + length p

-- where what follows is known as a list
pub spelt : (s p r : List ℕ) (at n : ℕ) → drop at s ≡ p ++ r → n ≡ at + length p → Spelt s at p n
spelt s p r at n e z = record { is = e ∙ ap (◌++◌ p) (sym rest); end = z }
  where
    rest : drop n s ≡ r
    rest = rw (z, ← drop-drop, e) (drop-append_seam p r)

module _ {s : List ℕ} {at m n : ℕ} {p q : List ℕ} where
  pub join : Spelt s at p m → Spelt s m q n → Spelt s at (p ++ q) n
  join a b = record { is = a.is ∙ ap (◌++◌ p) b.is ∙ sym (append_assoc p q (drop n s)); end = rw length-append (omega (arith, a.end, b.end)) }

module _ (p q : List ℕ) {s : List ℕ} {at n : ℕ} (a : Spelt s at (p ++ q) n) where
  pub left : Spelt s at p (at + length p)
  left = spelt s p (q ++ drop n s) at (at + length p) (a.is ∙ append_assoc p q (drop n s)) refl

  pub right : Spelt s (at + length p) q n
  right = record {
    is = rw (← drop-drop, a.is, append_assoc) (drop-append_seam p (q ++ drop n s));
    end = omega (arith, a.end, length-append p q);
  }

-- ---- single bytes
pub first_of : (s : List ℕ) (at : ℕ) (l : List ℕ) → drop at s ≡ l → get_or s at 0 ≡ get_or l 0 0
first_of s at l e = ap (λ (k : ℕ). get_or s k 0) (sym (add-zero at)) ∙ sym (get_or-drop at s 0 0) ∙ ap (λ (l : List ℕ). get_or l 0 0) e

pub byte_is : {s : List ℕ} {at n b : ℕ} {p : List ℕ} → Spelt s at (b ∷ p) n → get_or s at 0 ≡ b
byte_is {s} {at} {n} {b} {p} a = first_of s at (b ∷ (p ++ drop n s)) a.is

pub in_text : (s : List ℕ) (at b : ℕ) → 0 < b → get_or s at 0 ≡ b → at < length s
in_text s at b h e = elim (dec_lt at (length s)) [
  | yes l ↦ l
  | no l ↦ absurd (let k : length s ≤ at = omega arith in omega (arith, get_or-eq_default s 0 k))
]

pub byte_at_lem : (s : List ℕ) (at b : ℕ) → 0 < b → get_or s at 0 ≡ b → Spelt s at (b ∷ []) (at + 1)
byte_at_lem s at b h e = record { is = rw (add-one, ← e, drop-cons s at 0 (in_text s at b h e)); end = refl }

-- the rest after one byte
pub tail : {s : List ℕ} {at n b : ℕ} {p : List ℕ} → Spelt s at (b ∷ p) n → Spelt s (at + 1) p n
tail {s} {at} {n} {b} {p} a = right (b ∷ []) p a

pub spelt_inside : (s : List ℕ) (at : ℕ) (p : List ℕ) (n : ℕ) → Spelt s at p n → 1 ≤ length p → n ≤ length s
spelt_inside s at p n a h = omega (arith, a.end, length-drop at s, length-drop n s, ap length a.is ∙ length-append p (drop n s))

-- ---- a whole text
pub whole : {s p : List ℕ} → Spelt s 0 p (length s) → s ≡ p
whole {s} {p} a = a.is ∙ rw (drop-length s) (append-nil p)

pub all_of : (s p : List ℕ) → s ≡ p → Spelt s 0 p (length s)
all_of s p e = record { is = rw (drop-length s) (e ∙ sym (append-nil p)); end = omega (arith, ap length e) }

-- ---- x stands at a place, as `print` spells it, and is within its limits
pub record Piece {A : Type 0} (print : A → List ℕ) (ok : A → Bool) (s : List ℕ) (at : ℕ) (x : A) (n : ℕ) : Type 0 where
  pub is : Spelt s at (print x) n
  pub fine : ok x ≡ true

-- a reader gets just what stands there
pub record Exact {A : Type 0} (print : A → List ℕ) (ok : A → Bool) (s : List ℕ) (read : ℕ → Got A) : Type 0 where
  pub same : (at : ℕ) (x : A) (n : ℕ) → read at ≡ got x n → Piece print ok s at x n
  pub back : (at : ℕ) (x : A) (n : ℕ) → Piece print ok s at x n → read at ≡ got x n
