-- Digits of hex: a part that is as long as the digits that it spells is these digits; the number of one, and the bytes
-- of pairs.
use mathlib.Core.Path.{◌≡◌, refl, sym, ap, ◌∙◌}
use mathlib.Core.Bool.{Bool, true, false, cond, false≢true}
use mathlib.Core.List.{List, [], ◌∷◌, ◌++◌}
use Prim.Native.Nat.{ℕ, zero, suc, pred, ◌+◌, ◌*◌, ◌/◌, ◌%◌, ◌≤◌, ◌<◌}
use native.Mathlib.Numerals.{add-one}
use native.Mathlib.Omega.{arith}
use borrow.Author.Tests.{eqb-true, eqb-false, le-ltb, le-leb, lt-leb}
use lib.Dec.{eqb, ltb, lit≤}
use lib.ListN.{length, get_or, set, drop, length-append, length-drop}
use lib.Seq.{drop-cons}
use Rattle.wire.specs.Bytes.{is_hex}
use Rattle.wire.specs.Put.{Puts}
use Rattle.wire.proofs.Laws.{length_put, Rest, puts_one, rest_turn, rest_end}
use Rattle.spell.specs.Spell.{hex_val, unhex, short_of, is_pair, pair_of, unicode_of, char_of, chars, chars_from, utf8_of}
use Rattle.spell.specs.Spell.{char_bytes, chars_bytes, decode, all, is_hex_of}
use Rattle.spell.specs.declared.Char.{Char}
use Rattle.spell.proofs.Laws.{HexDigit, digit, letter, hex_digit_lem, hex_length_lem, hex_all, decode_raw, decode_short}
use Rattle.spell.proofs.Laws.{decode_length}
use Rattle.text.proofs.Pieces.{both}
use Rattle.table.proofs.Hex.{unhex_length}

-- ---- no escape spells a digit in as many bytes as it has
either : {A : Type 0} (P : A → Type 0) (b : Bool) {x y : A} → P x → P y → P (cond b x y)
either P true p q = p
either P false p q = q

-- the bytes l of a character before r: if the first is a digit, it is alone
record One (r l : List ℕ) : Type 0 where
  one : all is_hex (l ++ r) ≡ true → length l ≡ 1

many : (r : List ℕ) (x : ℕ) (l : List ℕ) → 0x67 ≤ x → One r (x ∷ l)
unfolding all
many r x l h = record { one = λ e. absurd (go (hex_digit_lem x (both (is_hex x) (all is_hex (l ++ r)) e).0)) }
  where
    go : HexDigit x → ⊥
    go (digit a b) = omega arith
    go (letter a b) = omega arith

one_byte : (c : Char) (r : List ℕ) → One r (char_bytes c)
unfolding char_bytes utf8_of
one_byte c r =
    let n = c.code in
    let t = 0x80 + n % 0x40 in
    let u = 0x80 + n / 0x40 % 0x40 in
    let v = 0x80 + n / 0x1000 % 0x40 in
    let alone : One r (n ∷ []) = record { one = λ e. refl } in
    either (One r) c.raw alone
    (either (One r) (ltb n 0x80) alone
    (either (One r) (ltb n 0x800) (many r (0xc0 + n / 0x40) (t ∷ []) (omega arith))
    (either (One r) (ltb n 0x10000) (many r (0xe0 + n / 0x1000) (u ∷ t ∷ []) (omega arith)) (many r (0xf0 + n / 0x40000) (v ∷ u ∷ t ∷ []) (omega arith)))))

wide : (u x y v : ℕ) → 6 ≤ (unicode_of u x y v).width
unfolding unicode_of
wide u x y v = go (is_pair u x y v)
  where
    go : (b : Bool) → 6 ≤ (cond {A = Char} b (record { code = pair_of u v; raw = false; width = 12 }) (record { code = u; raw = false; width = 6 })).width
    go true = lit≤ tt
    go false = lit≤ tt

lone : all is_hex (decode (0x5c ∷ [])) ≡ false
unfolding decode chars_bytes chars_from char_of char_bytes short_of all is_hex
lone = refl

skipped : (k : ℕ) (l : List ℕ) → chars_from k l ≡ chars (drop k l)
unfolding chars_from
skipped zero l = refl
skipped (suc k) [] = refl
skipped (suc k) (x ∷ l) = skipped k l

unicode_shorter : (l : List ℕ) → all is_hex (decode (0x5c ∷ 0x75 ∷ l)) ≡ true → length (decode (0x5c ∷ 0x75 ∷ l)) < length (0x5c ∷ 0x75 ∷ l)
unfolding decode chars_bytes chars_from char_of
unicode_shorter l e =
    let c = char_of (0x5c ∷ 0x75 ∷ l) in
    let t = drop (pred c.width) (0x75 ∷ l) in
    let p : decode (0x5c ∷ 0x75 ∷ l) ≡ char_bytes c ++ decode t = ap (λ r. char_bytes c ++ chars_bytes r) (skipped (pred c.width) (0x75 ∷ l)) in
    let w : 6 ≤ c.width = wide _ _ _ _ in
    omega (
      arith,
      ap length p,
      length-append (char_bytes c) (decode t),
      (one_byte c (decode t)).one (sym (ap (all is_hex) p) ∙ e),
      decode_length t,
      length-drop (pred c.width) (0x75 ∷ l),
    )

no_escape : (l : List ℕ) → length (decode (0x5c ∷ l)) ≡ length (0x5c ∷ l) → all is_hex (decode (0x5c ∷ l)) ≡ true → ⊥
no_escape [] n e = false≢true (sym lone ∙ e)
no_escape (y ∷ l) n e = go (eqb y 0x75) refl
  where
    go : (b : Bool) → eqb y 0x75 ≡ b → ⊥
    go false q = omega (arith, ap length (decode_short y l (eqb-false y 0x75 q)), decode_length l)
    go true q =
        let u = eqb-true y 0x75 q in
        let m : length (decode (0x5c ∷ 0x75 ∷ l)) ≡ length (0x5c ∷ 0x75 ∷ l) = rw u at n in
        omega (arith, m, unicode_shorter l (rw u at e))

nothing : decode [] ≡ []
unfolding decode chars_bytes chars_from
nothing = refl

as_long : (l : List ℕ) → length (decode l) ≡ length l → all is_hex (decode l) ≡ true → decode l ≡ l
unfolding all
as_long [] n h = nothing
as_long (x ∷ l) n h = go (as_long l) (eqb x 0x5c) refl
  where
    go : (length (decode l) ≡ length l → all is_hex (decode l) ≡ true → decode l ≡ l) → (b : Bool) → eqb x 0x5c ≡ b → decode (x ∷ l) ≡ x ∷ l
    go rest true q = let s = eqb-true x 0x5c q in absurd (no_escape l (rw s at n) (rw s at h))
    go rest false q =
        let p = decode_raw x l (eqb-false x 0x5c q) in
        p ∙ ap (x ∷◌) (rest (omega (arith, ap length p)) (both (is_hex x) (all is_hex (decode l)) (sym (ap (all is_hex) p) ∙ h)).1)

-- ---- the part q spells n digits, and s is its bytes
module _ (n : ℕ) {q s : List ℕ} (h : is_hex_of n q ≡ true) (e : s ≡ q) where
  pub spelled_length : length (decode s) ≡ n
  spelled_length = ap (λ l. length (decode l)) e ∙ hex_length_lem n q h

  pub spelled_hex : all is_hex (decode s) ≡ true
  spelled_hex = ap (λ l. all is_hex (decode l)) e ∙ hex_all n q h

  module _ (l : length s ≡ n) where
    itself : decode s ≡ s
    itself = as_long s (spelled_length ∙ sym l) spelled_hex

    pub as_spelled : all is_hex s ≡ true
    as_spelled = rw itself at spelled_hex

    pub digits_put : {d o : List ℕ} {at r : ℕ} → Puts d at (unhex s) r o → Puts d at (unhex (decode q)) r o
    digits_put {d} {o} {at} {r} p = let z : decode q ≡ s = ap decode (sym e) ∙ itself in rw z p

-- 32 bytes put from the start leave room for 128
pub room_left : (q : List ℕ) {d o : List ℕ} {r : ℕ} → is_hex_of 64 q ≡ true → 160 ≤ length d → Puts d 0 (unhex (decode q)) r o → r + 128 ≤ length o
room_left q {d} h l p = omega (arith, p.next, unhex_length 32 (decode q) (hex_length_lem 64 q h), ap length p.bytes, length_put d 0 (unhex (decode q)))

-- ---- the number of a digit
pub digit_is : (x : ℕ) → is_hex x ≡ true → (x % 16 + 9 * (x / 64) ≡ hex_val x) × (x % 16 + 9 * (x / 64) ≤ 15)
unfolding hex_val
digit_is x e = go (hex_digit_lem x e)
  where
    go : HexDigit x → (x % 16 + 9 * (x / 64) ≡ hex_val x) × (x % 16 + 9 * (x / 64) ≤ 15)
    go (digit l h) = (rw (le-ltb x 0x30 l, le-leb x 0x39 h) (omega arith), omega arith)
    go (letter l h) = (
      rw (le-ltb x 0x30 (omega arith), lt-leb x 0x39 (omega arith), le-ltb x 0x41 (omega arith), lt-leb x 0x46 (omega arith), le-ltb x 0x61 l, le-leb x 0x66 h) (omega arith),
      omega arith,
    )

-- ---- pairs of digits, of which k are put
module _ {d : List ℕ} (s : List ℕ) {at : ℕ} (k : ℕ) {o : List ℕ} (w : Rest d at (unhex s) o (at + k) (unhex (drop (2 * k) s))) where
  pub pair_turn : 2 * k + 1 < length s → at + k < length o → {x y : ℕ} → x ≡ hex_val (get_or s (2 * k) 0) → y ≡ hex_val (get_or s (2 * k + 1) 0)
      → Rest d at (unhex s) (set o (at + k) (x * 16 + y)) (at + (k + 1)) (unhex (drop (2 * (k + 1)) s))
  unfolding unhex
  pair_turn h r {x} {y} p q =
      let e : 2 * (k + 1) ≡ suc (suc (2 * k)) = omega arith in
      let f : at + (k + 1) ≡ at + k + 1 = omega arith in
      let j : suc (2 * k) < length s = omega arith in
      let t : unhex (drop (2 * k) s) ≡ ((x * 16 + y) ∷ []) ++ unhex (drop (suc (suc (2 * k))) s)
      = rw (drop-cons s (2 * k) 0 (omega arith), drop-cons s (suc (2 * k)) 0 j, p, q, add-one (2 * k)) in
      rw (e, f) (rest_turn w (puts_one o (at + k) (x * 16 + y) r) t)

  pub pairs_end : length s ≤ 2 * k + 1 → Puts d at (unhex s) (at + k) o
  unfolding unhex
  pairs_end h = rest_end w (go (drop (2 * k) s) (omega (arith, length-drop (2 * k) s)))
    where
      go : (l : List ℕ) → length l ≤ 1 → unhex l ≡ []
      go [] m = refl
      go (x ∷ []) m = refl
      go (x ∷ y ∷ l) m = absurd (omega arith)
