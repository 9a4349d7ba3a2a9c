-- Hex and bytes: what hex_of writes is lower-case hex and is read back by unhex; a digest is 32 bytes.
use mathlib.Core.Bool.{true}
use mathlib.Core.Path.{◌≡◌, refl, ap, ap₂}
use mathlib.Core.List.{List, [], ◌∷◌, ◌++◌}
use Prim.Native.Nat.{ℕ, zero, suc, ◌+◌, ◌*◌, ◌/◌, ◌%◌, ◌<◌}
use native.Mathlib.Decide.{dec_lt}
use native.Mathlib.Nat.{mod-lt}
use native.Mathlib.Omega.{arith}
use borrow.Author.Tests.{lt-ltb, le-ltb, le-leb, lt-leb, ltb-true}
use lib.ListN.{length, length-append}
use Rattle.wire.specs.Bytes.{is_hex}
use Rattle.spell.specs.Spell.{hex_val}
use Rattle.spell.specs.Spell as spell
use Rattle.digest.specs.Digest.{hashed, padded, digest_bytes, digest_byte, digest}
use Rattle.digest.specs.Block.{H0}
use Rattle.text.specs.Event.{all}
use Rattle.text.proofs.Pieces.{both}
use Rattle.event.specs.Answer.{hex_of}
use Rattle.wire.specs.Bytes.{hex_digit}
use Rattle.event.proofs.Decoded.{digit_few}
use Rattle.table.specs.Layout.{is_byte}
use Rattle.table.specs.Offer.{unhex}

-- ---- a digit
module _ (d : ℕ) (h : d < 16) where
  digit_back : hex_val (hex_digit d) ≡ d
  unfolding hex_val
  digit_back = elim (dec_lt d 10) [
    | yes l ↦ rw (lt-ltb d 10 l, le-ltb (48 + d) 0x30 (omega arith), le-leb (48 + d) 0x39 (omega arith)) (omega arith)
    | no l ↦
        rw (
          le-ltb d 10 (omega arith),
          le-ltb (87 + d) 0x30 (omega arith),
          lt-leb (87 + d) 0x39 (omega arith),
          le-ltb (87 + d) 0x41 (omega arith),
          lt-leb (87 + d) 0x46 (omega arith),
          le-ltb (87 + d) 0x61 (omega arith),
          le-leb (87 + d) 0x66 (omega arith),
        )
        (omega arith)
  ]

  digit_hex : is_hex (hex_digit d) ≡ true
  unfolding is_hex
  digit_hex = elim (dec_lt d 10) [
    | yes l ↦ rw (lt-ltb d 10 l, le-leb 0x30 (48 + d) (omega arith), le-leb (48 + d) 0x39 (omega arith))
    | no l ↦ rw (le-ltb d 10 (omega arith), lt-leb (87 + d) 0x39 (omega arith), le-leb 0x30 (87 + d) (omega arith), le-leb 0x61 (87 + d) (omega arith), le-leb (87 + d) 0x66 (omega arith))
  ]

-- ---- bytes
byte_small : (x : ℕ) (l : List ℕ) → all is_byte (x ∷ l) ≡ true → (x < 256) × (all is_byte l ≡ true)
unfolding all
byte_small x l e = let (a, b) = both (is_byte x) (all is_byte l) e in (ltb-true x 256 a, b)

pub unhex_hex : (l : List ℕ) → all is_byte l ≡ true → unhex (hex_of l) ≡ l
unfolding unhex hex_of
unhex_hex [] e = refl
unhex_hex (x ∷ l) e =
    let (h, r) = byte_small x l e in
    let y : x / 16 * 16 + x % 16 ≡ x = omega arith in
    ap₂ (λ (n : ℕ) (t : List ℕ). n ∷ t) (rw (digit_back (x / 16) (omega arith), digit_back (x % 16) (omega arith)) y) (unhex_hex l r)

pub hex_is : (l : List ℕ) → all is_byte l ≡ true → spell.all is_hex (hex_of l) ≡ true
unfolding spell.all hex_of
hex_is [] e = refl
hex_is (x ∷ l) e = let (h, r) = byte_small x l e in rw (digit_hex (x / 16) (omega arith), digit_hex (x % 16) (omega arith)) (hex_is l r)

-- 2n hex characters stand for n bytes
pub unhex_length : (n : ℕ) (l : List ℕ) → length l ≡ n + n → length (unhex l) ≡ n
unfolding unhex
unhex_length zero [] e = refl
unhex_length zero (x ∷ l) e = absurd (omega arith)
unhex_length (suc n) [] e = absurd (omega arith)
unhex_length (suc n) (x ∷ []) e = absurd (omega arith)
unhex_length (suc n) (x ∷ y ∷ l) e = ap suc (unhex_length n l (omega arith))

pub unhex_bytes : (l : List ℕ) → all is_byte (unhex l) ≡ true
unfolding unhex all
unhex_bytes [] = refl
unhex_bytes (x ∷ []) = refl
unhex_bytes (x ∷ y ∷ l) = rw (lt-ltb (hex_val x * 16 + hex_val y) 256 (omega (arith, digit_few x, digit_few y))) (unhex_bytes l)

-- ---- a digest
all_append : (s t : List ℕ) → all is_byte s ≡ true → all is_byte t ≡ true → all is_byte (s ++ t) ≡ true
unfolding all
all_append [] t p q = q
all_append (x ∷ s) t p q = let (a, b) = both (is_byte x) (all is_byte s) p in rw a (all_append s t b q)

first_length : (h : List ℕ) (n : ℕ) → length (digest_bytes h n) ≡ n
unfolding digest_bytes
first_length h zero = refl
first_length h (suc n) = omega (arith, length-append (digest_bytes h n) (digest_byte h n ∷ []), first_length h n)

first_bytes_lem : (h : List ℕ) (n : ℕ) → all is_byte (digest_bytes h n) ≡ true
unfolding digest_bytes all
first_bytes_lem h zero = refl
first_bytes_lem h (suc n) = all_append (digest_bytes h n) (digest_byte h n ∷ []) (first_bytes_lem h n) (rw (lt-ltb (digest_byte h n) 256 (mod-lt _ (omega arith))))

pub digest_length : (l : List ℕ) → length (digest l) ≡ 32
unfolding digest
digest_length l = first_length (hashed H0 (padded l)) 32

pub digest_bytes_lem : (l : List ℕ) → all is_byte (digest l) ≡ true
unfolding digest
digest_bytes_lem l = first_bytes_lem (hashed H0 (padded l)) 32
