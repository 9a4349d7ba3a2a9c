-- Fields in a row: the piece or the number that stands at a place, and what stands after it; and zeros.
use mathlib.Core.Path.{◌≡◌, refl, sym, ap, ap₂, ◌∙◌}
use mathlib.Core.Bool.{true}
use mathlib.Core.List.{List, [], ◌∷◌, ◌++◌}
use Prim.Native.Nat.{ℕ, zero, suc, ◌+◌, ◌≤◌, ◌<◌, ◌^◌}
use native.Mathlib.Omega.{arith}
use lib.Dec.{eqb, lit<}
use lib.ListN.{length, take, drop, get_or, replicate, take-append-drop}
use lib.Seq.{take_at, drop_at, drop-drop}
use borrow.Author.Tests.{ltb-true, eqb-true, eq-eqb}
use Rattle.wire.specs.Field.{le, le_bytes, field_at}
use Rattle.wire.proofs.Fields.{le_le_bytes, length_le_bytes, field_bytes}
use Rattle.rows.specs.Strings.{part}
use Rattle.text.specs.Event.{all}
use Rattle.text.proofs.Pieces.{both, and_true}
use Rattle.table.specs.Layout.{is_byte}
use Rattle.table.specs.Sound.{is_zero}

-- ---- a piece q that stands at i, k bytes long, with r after it
module _ (s q r : List ℕ) (i k : ℕ) (e : drop i s ≡ q ++ r) (l : length q ≡ k) where
  pub piece : part s i k ≡ q
  piece = ap (take k) e ∙ take_at q r k l

  pub after : drop (i + k) s ≡ r
  after = sym (drop-drop k i s) ∙ ap (drop k) e ∙ drop_at q r k l

pub cut : (s : List ℕ) (i k : ℕ) → drop i s ≡ part s i k ++ drop (i + k) s
cut s i k = sym (take-append-drop k (drop i s)) ∙ ap (part s i k ++◌) (drop-drop k i s)

-- ---- a number n that stands at i, in k bytes
module _ (s r : List ℕ) (i k n : ℕ) where
  pub field : drop i s ≡ le_bytes k n ++ r → n < 256 ^ k → field_at s i k ≡ n
  unfolding field_at
  field e h = ap le (piece s (le_bytes k n) r i k e (length_le_bytes k n)) ∙ le_le_bytes k n h

  pub after_field : drop i s ≡ le_bytes k n ++ r → drop (i + k) s ≡ r
  after_field e = after s (le_bytes k n) r i k e (length_le_bytes k n)

  -- and back, where s is bytes
  pub field_back : i + k ≤ length s → ((j : ℕ) → get_or s j 0 < 256) → field_at s i k ≡ n → drop (i + k) s ≡ r → drop i s ≡ le_bytes k n ++ r
  field_back h b e f = cut s i k ∙ ap₂ ◌++◌ (sym (field_bytes s i k h b) ∙ ap (le_bytes k) e) f

pub byte_small : (s : List ℕ) → all is_byte s ≡ true → (j : ℕ) → get_or s j 0 < 256
unfolding all
byte_small [] h j = lit< tt
byte_small (x ∷ s) h zero = ltb-true x 256 (both (is_byte x) (all is_byte s) h).0
byte_small (x ∷ s) h (suc j) = byte_small s (both (is_byte x) (all is_byte s) h).1 j

-- ---- zeros
pub zeros_zero : (n : ℕ) → is_zero (replicate n 0) ≡ true
unfolding all
zeros_zero zero = refl
zeros_zero (suc n) = zeros_zero n

pub zero_zeros : (l : List ℕ) → is_zero l ≡ true → l ≡ replicate (length l) 0
unfolding all
zero_zeros [] h = refl
zero_zeros (x ∷ l) h =
    let b = both (eqb 0 x) (is_zero l) h in
    ap₂ ◌∷◌ (sym (eqb-true 0 x b.0)) (zero_zeros l b.1)

pub zero_at : (l : List ℕ) (j : ℕ) → is_zero l ≡ true → get_or l j 0 ≡ 0
unfolding all
zero_at [] j h = refl
zero_at (x ∷ l) zero h = sym (eqb-true 0 x (both (eqb 0 x) (is_zero l) h).0)
zero_at (x ∷ l) (suc j) h = zero_at l j (both (eqb 0 x) (is_zero l) h).1

pub zero_from : (l : List ℕ) → ((j : ℕ) → j < length l → get_or l j 0 ≡ 0) → is_zero l ≡ true
unfolding all
zero_from [] h = refl
zero_from (x ∷ l) h = and_true (eqb 0 x) (is_zero l) (eq-eqb 0 x (sym (h 0 (omega arith)))) (zero_from l (λ j k. h (suc j) (omega arith)))
