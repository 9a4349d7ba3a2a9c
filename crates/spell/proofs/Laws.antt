-- What other crates may cite of decoding: spellings without a backslash, the seven escapes read back, and hex.
use mathlib.Core.Bool.{Bool, true, false, cond, not, ◌&&◌, ◌||◌}
use mathlib.Core.Path.{◌≡◌, refl, ◌∙◌, ap}
use mathlib.Core.List.{List, [], ◌∷◌, ◌++◌}
use Prim.Native.Nat.{ℕ, zero, suc, ◌≤◌, ◌<◌}
use native.Mathlib.Omega.{arith}
use borrow.Author.Tests.{ne_eqb, eqb-true, eqb-false, leb-true, lt-leb, not-true}
use lib.Dec.{leb, eqb}
use lib.ListN.{length, get_or}
use Rattle.wire.specs.Bytes.{is_hex}
use Rattle.spell.specs.Spell.{short_of, char_of, chars, chars_from, char_bytes, chars_bytes, decode, points}
use Rattle.spell.specs.Spell.{character_count, all, is_hex_of, not_slash}
use Rattle.wire.specs.Escape.{letter_of, esc_one, escape}
use Rattle.spell.proofs.Chars.{and_left, and_right, char_raw, char_short, first, choose, decode_few}

-- no more bytes than spell them
pub decode_length : (l : List ℕ) → length (decode l) ≤ length l
decode_length l = decode_few l

-- the first character, where it is no escape and where it is a short one
chars_raw : (x : ℕ) (l : List ℕ) → (x ≡ 0x5c → ⊥) → chars (x ∷ l) ≡ record { code = x; raw = true; width = 1 } ∷ chars l
chars_raw x l n =
    let e : record { code = x; raw = true; width = 1 } ≡ char_of (x ∷ l) = char_raw (x ∷ l) refl _ n refl in
    first (x ∷ l) (omega arith) ∙ rw (← e)

chars_short : (y : ℕ) (l : List ℕ) → (y ≡ 0x75 → ⊥) → chars (0x5c ∷ y ∷ l) ≡ record { code = short_of y; raw = true; width = 2 } ∷ chars l
chars_short y l n =
    let e : record { code = short_of y; raw = true; width = 2 } ≡ char_of (0x5c ∷ y ∷ l) = char_short (0x5c ∷ y ∷ l) refl refl _ n refl in
    first (0x5c ∷ y ∷ l) (omega arith) ∙ rw (← e)

pub decode_raw : (x : ℕ) (l : List ℕ) → (x ≡ 0x5c → ⊥) → decode (x ∷ l) ≡ x ∷ decode l
unfolding decode chars_bytes char_bytes
decode_raw x l n = rw (chars_raw x l n)

pub decode_short : (y : ℕ) (l : List ℕ) → (y ≡ 0x75 → ⊥) → decode (0x5c ∷ y ∷ l) ≡ short_of y ∷ decode l
unfolding decode chars_bytes char_bytes
decode_short y l n = rw (chars_short y l n)

-- a spelling without a backslash decodes to itself
pub decode_plain : (l : List ℕ) → all not_slash l ≡ true → decode l ≡ l
unfolding all not_slash decode chars_bytes chars_from
decode_plain [] e = refl
decode_plain (x ∷ l) e =
    let n = eqb-false x 0x5c (not-true (eqb x 0x5c) (and_left (not (eqb x 0x5c)) (all not_slash l) e)) in
    decode_raw x l n ∙ ap (λ (t : List ℕ). x ∷ t) (decode_plain l (and_right (not (eqb x 0x5c)) (all not_slash l) e))

-- what the seven escapes spell decodes to what was escaped
decode_one : (b : ℕ) (l : List ℕ) → decode (esc_one b ++ l) ≡ b ∷ decode l
unfolding esc_one letter_of short_of
decode_one b l =
    let P : ℕ → Type 0 = λ k. decode (cond (eqb k 0) (b ∷ []) (0x5c ∷ k ∷ []) ++ l) ≡ b ∷ decode l in
    let short : (c k : ℕ) → eqb b c ≡ true → (k ≡ 0x75 → ⊥) → short_of k ≡ c → decode (0x5c ∷ k ∷ l) ≡ b ∷ decode l = λ c k e n s. decode_short k l n ∙ rw (s, eqb-true b c e) in
    choose P (eqb b 0x0a) (λ e. short 0x0a 0x6e e (λ q. omega arith) refl) (λ _.
    choose P (eqb b 0x22) (λ e. short 0x22 0x22 e (λ q. omega arith) refl) (λ _.
    choose P (eqb b 0x5c) (λ e. short 0x5c 0x5c e (λ q. omega arith) refl) (λ n.
    choose P (eqb b 0x0d) (λ e. short 0x0d 0x72 e (λ q. omega arith) refl) (λ _.
    choose P (eqb b 0x09) (λ e. short 0x09 0x74 e (λ q. omega arith) refl) (λ _.
    choose P (eqb b 0x08) (λ e. short 0x08 0x62 e (λ q. omega arith) refl) (λ _.
    choose P (eqb b 0x0c) (λ e. short 0x0c 0x66 e (λ q. omega arith) refl) (λ _. decode_raw b l (eqb-false b 0x5c n))))))))

pub decode_escape : (v : List ℕ) → decode (escape v) ≡ v
unfolding escape decode chars_bytes chars_from
decode_escape [] = refl
decode_escape (b ∷ v) = decode_one b (escape v) ∙ ap (λ (t : List ℕ). b ∷ t) (decode_escape v)

-- what holds of all holds of each, and so does what follows from it
pub all_at : (f : ℕ → Bool) (s : List ℕ) (i : ℕ) → all f s ≡ true → i < length s → f (get_or s i 0) ≡ true
unfolding all
all_at f [] i e h = absurd (omega arith)
all_at f (x ∷ s) zero e h = and_left (f x) (all f s) e
all_at f (x ∷ s) (suc i) e h = all_at f s i (and_right (f x) (all f s) e) (omega arith)

pub all_from : {f g : ℕ → Bool} → ((x : ℕ) → f x ≡ true → g x ≡ true) → (s : List ℕ) → all f s ≡ true → all g s ≡ true
unfolding all
all_from h [] e = refl
all_from {f} {g} h (x ∷ s) e = rw (h x (and_left (f x) (all f s) e)) (all_from h s (and_right (f x) (all f s) e))

-- hex
pub hex_length_lem : (n : ℕ) (l : List ℕ) → is_hex_of n l ≡ true → length (decode l) ≡ n
unfolding is_hex_of
hex_length_lem n l e = eqb-true (length (decode l)) n (and_left (eqb (length (decode l)) n) (all is_hex (decode l)) e)

pub hex_all : (n : ℕ) (l : List ℕ) → is_hex_of n l ≡ true → all is_hex (decode l) ≡ true
unfolding is_hex_of
hex_all n l e = and_right (eqb (length (decode l)) n) (all is_hex (decode l)) e

-- a hex digit is 0-9 or a-f
pub data HexDigit (x : ℕ) : Type 0 where
  digit : 0x30 ≤ x → x ≤ 0x39 → HexDigit x
  letter : 0x61 ≤ x → x ≤ 0x66 → HexDigit x

pub hex_digit_lem : (x : ℕ) → is_hex x ≡ true → HexDigit x
unfolding is_hex
hex_digit_lem x e = go (leb 0x30 x && leb x 0x39) refl e
  where
    go : (b : Bool) → (leb 0x30 x && leb x 0x39) ≡ b → (b || (leb 0x61 x && leb x 0x66)) ≡ true → HexDigit x
    go true q e = digit (leb-true 0x30 x (and_left (leb 0x30 x) (leb x 0x39) q)) (leb-true x 0x39 (and_right (leb 0x30 x) (leb x 0x39) q))
    go false q e = letter (leb-true 0x61 x (and_left (leb 0x61 x) (leb x 0x66) e)) (leb-true x 0x66 (and_right (leb 0x61 x) (leb x 0x66) e))

module _ {x : ℕ} where
  hex_low : HexDigit x → 0x30 ≤ x
  hex_low (digit l h) = l
  hex_low (letter l h) = omega arith

  hex_high : HexDigit x → x ≤ 0x66
  hex_high (digit l h) = omega arith
  hex_high (letter l h) = h

  hex_no_slash : HexDigit x → x ≡ 0x5c → ⊥
  hex_no_slash (digit l h) q = omega arith
  hex_no_slash (letter l h) q = omega arith

hex_points : (s : List ℕ) → all is_hex s ≡ true → points s ≡ length s
unfolding points all
hex_points [] e = refl
hex_points (x ∷ s) e =
    let h = hex_high (hex_digit_lem x (and_left (is_hex x) (all is_hex s) e)) in
    rw (lt-leb 0x80 x (omega arith)) (ap suc (hex_points s (and_right (is_hex x) (all is_hex s) e)))

pub hex_characters : (n : ℕ) (l : List ℕ) → is_hex_of n l ≡ true → character_count l ≡ n
unfolding character_count
hex_characters n l e = hex_points (decode l) (hex_all n l e) ∙ hex_length_lem n l e

-- hex has no backslash, so it decodes to itself; it needs no escape; and row 4 lets it pass
pub hex_itself : (s : List ℕ) → all is_hex s ≡ true → decode s ≡ s
unfolding not_slash
hex_itself s e = decode_plain s (all_from {f = is_hex} {g = not_slash} (λ x h. rw (ne_eqb x 0x5c (hex_no_slash (hex_digit_lem x h)))) s e)

pub hex_escape : (s : List ℕ) → all is_hex s ≡ true → escape s ≡ s
unfolding escape esc_one letter_of all
hex_escape [] e = refl
hex_escape (x ∷ s) e =
    let h = hex_digit_lem x (and_left (is_hex x) (all is_hex s) e) in
    let l = hex_low h in
    let none : letter_of x ≡ 0 = rw (ne_eqb x 0x0a (λ q. omega arith), ne_eqb x 0x22 (λ q. omega arith), ne_eqb x 0x5c (hex_no_slash h), ne_eqb x 0x0d (λ q. omega arith), ne_eqb x 0x09 (λ q. omega arith), ne_eqb x 0x08 (λ q. omega arith), ne_eqb x 0x0c (λ q. omega arith)) in
    rw none (ap (λ (t : List ℕ). x ∷ t) (hex_escape s (and_right (is_hex x) (all is_hex s) e)))
