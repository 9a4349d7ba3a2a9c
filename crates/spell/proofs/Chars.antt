-- What a character is by its first bytes; one turn over the characters and over the decoded bytes.
use mathlib.Core.Bool.{Bool, true, false, cond, ◌&&◌}
use mathlib.Core.Path.{◌≡◌, refl, sym, ◌∙◌, ap}
use mathlib.Core.List.{List, [], ◌∷◌, ◌++◌}
use Prim.Native.Nat.{ℕ, zero, suc, pred, ◌+◌, ◌/◌, ◌%◌, ◌≤◌, ◌<◌}
use native.Mathlib.Decide.{dec_le}
use native.Mathlib.Omega.{arith}
use native.Mathlib.Numerals.{add-one}
use borrow.Author.Tests.{lt-ltb, lt-leb, eq-eqb, ne_eqb, leb-true, eqb-true}
use lib.Dec.{ltb, leb, eqb}
use lib.ListN.{length, get_or, drop, length-drop, length-append, drop_of_length-le, get_or-eq_default}
use lib.Seq.{drop-cons, drop-drop, drop-nil, drop-append-le, get_or-drop}
use Rattle.wire.proofs.Laws.{tests}
use Rattle.spell.specs.declared.Char.{Char}
use Rattle.spell.specs.Spell.{hex_val, four, is_pair, unicode_of, pair_of, four_at, short_of, char_of, chars_from, chars}
use Rattle.spell.specs.Spell.{utf8_of, char_bytes, chars_bytes, decode, is_refused, any}
use Rattle.spell.specs.Inner.{Sized, left_of, Within, Stepped}

pub and_left : (a b : Bool) → (a && b) ≡ true → a ≡ true
and_left true b e = refl
and_left false b e = e

pub and_right : (a b : Bool) → (a && b) ≡ true → b ≡ true
and_right true b e = e
and_right false b e = absurd (let z : ◌≡◌ {A = ℕ} 0 1 = cc in omega arith)

pub pair_bounds : (u x y v : ℕ) → is_pair u x y v ≡ true → (0xd800 ≤ u) × (u ≤ 0xdbff) × (0xdc00 ≤ v) × (v ≤ 0xdfff)
unfolding is_pair
pair_bounds u x y v e =
    let low = leb 0xdc00 v && leb v 0xdfff in
    let high = and_left (leb 0xd800 u && leb u 0xdbff) (eqb x 0x5c && (eqb y 0x75 && low)) e in
    let after = and_right (leb 0xd800 u && leb u 0xdbff) (eqb x 0x5c && (eqb y 0x75 && low)) e in
    let lows = and_right (eqb y 0x75) low (and_right (eqb x 0x5c) (eqb y 0x75 && low) after) in
    (leb-true _ _ (and_left _ (leb u 0xdbff) high), leb-true _ _ (and_right (leb 0xd800 u) _ high), leb-true _ _ (and_left _ (leb v 0xdfff) lows), leb-true _ _ (and_right (leb 0xdc00 v) _ lows))

-- what a character is by its first bytes
module _ (l : List ℕ) {x : ℕ} (ex : x ≡ get_or l 0 0) (r : Char) where
  pub char_raw : (x ≡ 0x5c → ⊥) → r ≡ record { code = x; raw = true; width = 1 } → r ≡ char_of l
  unfolding char_of
  char_raw n e = e ∙ rw (ex, ne_eqb (get_or l 0 0) 0x5c (λ q. n (ex ∙ q)))

module _ (l : List ℕ) (ex : get_or l 0 0 ≡ 0x5c) {y : ℕ} (ey : y ≡ get_or l 1 0) (r : Char) where
  pub char_short : (y ≡ 0x75 → ⊥) → r ≡ record { code = short_of y; raw = true; width = 2 } → r ≡ char_of l
  unfolding char_of
  char_short n e = e ∙ rw (ey, eq-eqb (get_or l 0 0) 0x5c ex, ne_eqb (get_or l 1 0) 0x75 (λ q. n (ey ∙ q)))

  pub char_unicode : y ≡ 0x75 → {u z w v : ℕ} → u ≡ four_at l 2 → z ≡ get_or l 6 0 → w ≡ get_or l 7 0 → v ≡ four_at l 8 → r ≡ unicode_of u z w v → r ≡ char_of l
  unfolding char_of
  char_unicode q eu ez ew ev e = e ∙ rw (eu, ez, ew, ev, eq-eqb (get_or l 0 0) 0x5c ex, eq-eqb (get_or l 1 0) 0x75 (sym ey ∙ q))

-- bytes of what is left from i on
module _ (p : List ℕ) (i : ℕ) where
  pub here : get_or p i 0 ≡ get_or (drop i p) 0 0
  here = let e : i + 0 ≡ i = omega arith in sym (get_or-drop i p 0 0 ∙ ap (λ (n : ℕ). get_or p n 0) e)

  pub there : (n : ℕ) {x : ℕ} → x ≡ get_or p (i + n) 0 → x ≡ get_or (drop i p) n 0
  there n e = e ∙ sym (get_or-drop i p n 0)

  pub four_there : (k : ℕ) {u : ℕ} → u ≡ four_at p (i + k) → u ≡ four_at (drop i p) k
  unfolding four_at
  four_there k e =
      let at : (n : ℕ) → get_or (drop i p) (k + n) 0 ≡ get_or p (i + k + n) 0 = λ n. let q : i + (k + n) ≡ i + k + n = omega arith in get_or-drop i p (k + n) 0 ∙ ap (λ (m : ℕ). get_or p m 0) q in
      e ∙ rw (get_or-drop i p k 0, at 1, at 2, at 3)

-- no pair where the first number is no surrogate
pub no_pair : (u x y v : ℕ) → u < 0xd800 → record { code = u; raw = false; width = 6 } ≡ unicode_of u x y v
unfolding unicode_of is_pair
no_pair u x y v h = rw (lt-leb 0xd800 u h)

-- what holds of both sides holds of the choice
pub either : {A : Type 0} (P : A → Type 0) (b : Bool) {x y : A} → P x → P y → P (cond b x y)
either P true p q = p
either P false p q = q

-- a code point has one to four octets, by its range
module _ (n : ℕ) where
  pub utf8_1 : n < 0x80 → utf8_of n ≡ n ∷ []
  unfolding utf8_of
  utf8_1 h = search tests

  pub utf8_2 : 0x80 ≤ n → n < 0x800 → utf8_of n ≡ (0xc0 + n / 0x40) ∷ (0x80 + n % 0x40) ∷ []
  unfolding utf8_of
  utf8_2 h k = search tests

  pub utf8_3 : 0x80 ≤ n → 0x800 ≤ n → n < 0x10000 → utf8_of n ≡ (0xe0 + n / 0x1000) ∷ (0x80 + n / 0x40 % 0x40) ∷ (0x80 + n % 0x40) ∷ []
  unfolding utf8_of
  utf8_3 h k l = search tests

  pub utf8_4 : 0x80 ≤ n → 0x800 ≤ n → 0x10000 ≤ n → utf8_of n ≡ (0xf0 + n / 0x40000) ∷ (0x80 + n / 0x1000 % 0x40) ∷ (0x80 + n / 0x40 % 0x40) ∷ (0x80 + n % 0x40) ∷ []
  unfolding utf8_of
  utf8_4 h k l = search tests

pub bytes_some : (c : Char) → 1 ≤ length (char_bytes c)
unfolding char_bytes utf8_of
bytes_some c =
    let P : List ℕ → Type 0 = λ l. 1 ≤ length l in
    either P c.raw (omega arith) (either P (ltb c.code 0x80) (omega arith) (either P (ltb c.code 0x800) (omega arith) (either P (ltb c.code 0x10000) (omega arith) (omega arith))))

utf8_few : (n : ℕ) → length (utf8_of n) ≤ 4
unfolding utf8_of
utf8_few n =
    let P : List ℕ → Type 0 = λ l. length l ≤ 4 in
    either P (ltb n 0x80) (omega arith) (either P (ltb n 0x800) (omega arith) (either P (ltb n 0x10000) (omega arith) (omega arith)))

bytes_few : (c : Char) → length (char_bytes c) ≤ 4
unfolding char_bytes
bytes_few c = let P : List ℕ → Type 0 = λ l. length l ≤ 4 in either P c.raw (omega arith) (utf8_few c.code)

char_some : (l : List ℕ) → 1 ≤ (char_of l).width
unfolding char_of unicode_of
char_some l =
    let P : Char → Type 0 = λ c. 1 ≤ c.width in
    either P (eqb (get_or l 0 0) 0x5c) (either P (eqb (get_or l 1 0) 0x75) (either P (is_pair (four_at l 2) (get_or l 6 0) (get_or l 7 0) (four_at l 8)) (omega arith) (omega arith)) (omega arith)) (omega arith)

-- one turn over the characters
skip : (k : ℕ) (l : List ℕ) → chars_from k l ≡ chars (drop k l)
unfolding chars_from
skip zero l = refl
skip (suc k) [] = refl
skip (suc k) (x ∷ l) = skip k l

by_width : (w x : ℕ) (l : List ℕ) → 1 ≤ w → chars_from (pred w) l ≡ chars (drop w (x ∷ l))
by_width zero x l h = absurd (omega arith)
by_width (suc w) x l h = skip w l

pub first : (l : List ℕ) → 1 ≤ length l → chars l ≡ char_of l ∷ chars (drop (char_of l).width l)
unfolding chars_from
first [] h = absurd (omega arith)
first (x ∷ l) h = ap (λ (r : List Char). char_of (x ∷ l) ∷ r) (by_width (char_of (x ∷ l)).width x l (char_some (x ∷ l)))

module _ (p : List ℕ) (i : ℕ) where
  pub turn : i < length p → (c : Char) → c ≡ char_of (drop i p) → chars (drop i p) ≡ c ∷ chars (drop (i + c.width) p)
  turn h c e = rw e (first (drop i p) (simp length-drop (omega arith)) ∙ rw drop-drop)

  pub over : length p ≤ i → chars (drop i p) ≡ []
  unfolding chars_from
  over h = rw (drop_of_length-le p {i = i} h)

-- one step over the decoded bytes
module _ (p : List ℕ) (i k : ℕ) where
  pub left_over : length p ≤ i → left_of p i k ≡ []
  unfolding left_of decode chars_bytes
  left_over h = rw (over p i h) (drop-nil k)

  pub begin : Within p i 0
  begin = record { below = omega (arith, bytes_some (char_of (drop i p))) }

  pub within_few : Within p i k → k < 4
  within_few w = omega (arith, bytes_few (char_of (drop i p)))

  module _ (c : Char) (e : c ≡ char_of (drop i p)) (h : i < length p) (w : Within p i k) where
    pub decode_turn : decode (drop i p) ≡ char_bytes c ++ decode (drop (i + c.width) p)
    unfolding decode chars_bytes
    decode_turn = rw (turn p i h c e)

    below : k < length (char_bytes c)
    below = rw e w.below

    pub left_turn : left_of p i k ≡ get_or (char_bytes c) k 0 ∷ drop (suc k) (char_bytes c) ++ decode (drop (i + c.width) p)
    unfolding left_of
    left_turn = let l = below in rw (decode_turn, drop-append-le k (char_bytes c) _ (omega arith), drop-cons (char_bytes c) k 0 l)

-- an element of a list, where both are known by equations
pub at_index : {l m : List ℕ} (k j : ℕ) {x : ℕ} → l ≡ m → k ≡ j → x ≡ get_or m j 0 → x ≡ get_or l k 0
at_index k j e q f = f ∙ rw (e, q)

raw_bytes : (c : Char) → c.raw ≡ true → char_bytes c ≡ c.code ∷ []
unfolding char_bytes
raw_bytes c e = rw e

utf8_bytes : (c : Char) → c.raw ≡ false → char_bytes c ≡ utf8_of c.code
unfolding char_bytes
utf8_bytes c e = rw e

-- the ways out of `advance`
module _ (p : List ℕ) (i k : ℕ) (c : Char) (e : c ≡ char_of (drop i p)) (h : i < length p) (w : Within p i k) where
  left_at : {l : List ℕ} → char_bytes c ≡ l → left_of p i k ≡ get_or l k 0 ∷ drop (suc k) l ++ decode (drop (i + c.width) p)
  left_at q = rw q at (left_turn p i k c e h w)

  below_at : {l : List ℕ} → char_bytes c ≡ l → k < length l
  below_at q = rw q at (below p i k c e h w)

  pub utf8_below : c.raw ≡ false → k < length (utf8_of c.code)
  utf8_below r = below_at (utf8_bytes c r)

  pub step_raw : c.raw ≡ true → Stepped p i k (record { byte = c.code; at = i + c.width; taken = 0 })
  unfolding left_of
  step_raw r =
      let q = raw_bytes c r in
      let z : k ≡ 0 = omega (arith, below_at q) in
      record { left = left_at q ∙ rw z; within = begin p (i + c.width) k }

  module _ (r : c.raw ≡ false) {x n : ℕ} (ex : x ≡ get_or (utf8_of c.code) k 0) (en : n ≡ length (utf8_of c.code)) where
    pub step_in : k + 1 < n → Stepped p i k (record { byte = x; at = i; taken = k + 1 })
    unfolding left_of
    step_in l =
        let q = utf8_bytes c r in
        let m : suc k ≤ length (utf8_of c.code) = omega arith in
        let d : decode (drop i p) ≡ utf8_of c.code ++ decode (drop (i + c.width) p) = rw q at (decode_turn p i k c e h w) in
        record {
          left = left_at q ∙ rw (ex, add-one, d, drop-append-le (suc k) (utf8_of c.code) (decode (drop (i + c.width) p)) m);
          within = record { below = rw (← e, q) (omega arith) };
        }

    pub step_out : n ≤ k + 1 → Stepped p i k (record { byte = x; at = i + c.width; taken = 0 })
    unfolding left_of
    step_out l =
        let q = utf8_bytes c r in
        let m : length (utf8_of c.code) ≤ suc k = omega arith in
        record { left = left_at q ∙ rw (ex, drop_of_length-le (utf8_of c.code) {i = suc k} m); within = begin p (i + c.width) k }

-- a byte that stands as it is
module _ (p : List ℕ) (i : ℕ) (n : get_or p i 0 ≡ 0x5c → ⊥) where
  pub raw_is : record { code = get_or p i 0; raw = true; width = 1 } ≡ char_of (drop i p)
  raw_is = char_raw (drop i p) (here p i) _ n refl

  pub step_byte : (k : ℕ) → i < length p → Within p i k → Stepped p i k (record { byte = get_or p i 0; at = i + 1; taken = k })
  step_byte k h w =
      let z : k ≡ 0 = omega (arith, below_at p i k _ raw_is h w (raw_bytes _ refl)) in
      rw z (rw z at (step_raw p i k _ raw_is h w refl))

-- a backslash and a byte that is no u
pub step_short : (p : List ℕ) (i : ℕ) → get_or p i 0 ≡ 0x5c → (get_or p (i + 1) 0 ≡ 0x75 → ⊥) → (k : ℕ) → i < length p → Within p i k → Stepped p i k (record { byte = short_of (get_or p (i + 1) 0); at = i + 2; taken = k })
step_short p i s n k h w =
    let e = char_short (drop i p) (sym (here p i) ∙ s) (there p i 1 refl) _ n refl in
    let z : k ≡ 0 = omega (arith, below_at p i k _ e h w (raw_bytes _ refl)) in
    rw z (rw z at (step_raw p i k _ e h w refl))

-- the character's bounds, where it is raw and where not
module _ {c : Char} (s : Sized c) where
  pub raw_small : c.raw ≡ true → c.code ≤ 0xff
  raw_small e = rw e at s.small

  pub code_small : c.raw ≡ false → c.code ≤ 0x10ffff
  code_small e = rw e at s.small

-- row 4, a character a turn: a byte is no surrogate
pub raw_refused : (b : ℕ) → b < 0x100 → is_refused (record { code = b; raw = true; width = 1 }) ≡ false
unfolding is_refused
raw_refused b h = rw (lt-leb 0xd800 b (omega arith))

module _ (p : List ℕ) (i : ℕ) {b : Bool} (inv : b ≡ any is_refused (chars (drop i p))) where
  module _ (h : i < length p) (c : Char) (e : c ≡ char_of (drop i p)) where
    pub refused_here : is_refused c ≡ true → b ≡ true
    unfolding any
    refused_here f = inv ∙ rw (turn p i h c e, any, f)

    pub refused_later : is_refused c ≡ false → b ≡ any is_refused (chars (drop (i + c.width) p))
    unfolding any
    refused_later f = inv ∙ rw (turn p i h c e, any, f)

  pub refused_none : length p ≤ i → b ≡ false
  unfolding any
  refused_none h = inv ∙ rw (over p i h)

-- no spelling decodes to more bytes than it has: a character has no more than spell it, and one that the end cuts off
-- no more than are there
pub choose : {A : Type 0} (P : A → Type 0) (b : Bool) {x y : A} → (b ≡ true → P x) → (b ≡ false → P y) → P (cond b x y)
choose P true p q = p refl
choose P false p q = q refl

-- a short escape is never refused
pub short_is : (p : List ℕ) (i : ℕ) → get_or p i 0 ≡ 0x5c → {y : ℕ} → y ≡ get_or p (i + 1) 0 → (y ≡ 0x75 → ⊥) → record { code = short_of y; raw = true; width = 2 } ≡ char_of (drop i p)
short_is p i s e n = char_short (drop i p) (sym (here p i) ∙ s) (there p i 1 e) _ n refl

pub short_refused : (y : ℕ) → y < 0x100 → is_refused (record { code = short_of y; raw = true; width = 2 }) ≡ false
unfolding is_refused short_of
short_refused y h =
    let P : ℕ → Type 0 = λ n. is_refused (record { code = n; raw = true; width = 2 }) ≡ false in
    either P (eqb y 0x62) refl (
    either P (eqb y 0x66) refl (
    either P (eqb y 0x6e) refl (
    either P (eqb y 0x72) refl (
    either P (eqb y 0x74) refl (
    rw (lt-leb 0xd800 y (omega arith)))))))

digit_few : (x : ℕ) → hex_val x ≤ 15
unfolding hex_val
digit_few x =
    let P : ℕ → Type 0 = λ n. n ≤ 15 in
    either P (ltb x 0x30) (omega arith) (choose P (leb x 0x39) (λ e. omega (arith, leb-true x 0x39 e)) (λ _.
    either P (ltb x 0x41) (omega arith) (choose P (leb x 0x46) (λ e. omega (arith, leb-true x 0x46 e)) (λ _.
    either P (ltb x 0x61) (omega arith) (choose P (leb x 0x66) (λ e. omega (arith, leb-true x 0x66 e)) (λ _. omega arith))))))

four_few : (l : List ℕ) (k : ℕ) → four_at l k ≤ 0xffff
unfolding four_at four
four_few l k = omega (arith, digit_few (get_or l k 0), digit_few (get_or l (k + 1) 0), digit_few (get_or l (k + 2) 0), digit_few (get_or l (k + 3) 0))

four_none : (l : List ℕ) → length l ≤ 2 → four_at l 2 ≡ 0
unfolding four_at four hex_val
four_none l h =
    let at : (n : ℕ) → 2 ≤ n → get_or l n 0 ≡ 0 = λ n m. get_or-eq_default l 0 (omega arith) in
    rw (at 2 (omega arith), at 3 (omega arith), at 4 (omega arith), at 5 (omega arith))

char_fits : (l : List ℕ) → length (char_bytes (char_of l)) ≤ (char_of l).width
unfolding char_of unicode_of char_bytes
char_fits l =
    let P : Char → Type 0 = λ c. length (char_bytes c) ≤ c.width in
    either P (eqb (get_or l 0 0) 0x5c)
    (either P (eqb (get_or l 1 0) 0x75)
    (either P (is_pair (four_at l 2) (get_or l 6 0) (get_or l 7 0) (four_at l 8)) (omega (arith, utf8_few (pair_of (four_at l 2) (four_at l 8)))) (omega (arith, utf8_few (four_at l 2))))
    (omega arith))
    (omega arith)

three_few : (n : ℕ) → n ≤ 0xffff → length (utf8_of n) ≤ 3
unfolding utf8_of
three_few n h =
    let P : List ℕ → Type 0 = λ l. length l ≤ 3 in
    either P (ltb n 0x80) (omega arith) (either P (ltb n 0x800) (omega arith) (rw (lt-ltb n 0x10000 (omega arith)) (omega arith)))

pair_long : (l : List ℕ) (u y v : ℕ) → is_pair u (get_or l 6 0) y v ≡ true → 7 ≤ length l
unfolding is_pair
pair_long l u y v e = go (dec_le 7 (length l))
  where
    slash : get_or l 6 0 ≡ 0x5c
    slash =
        let low = eqb y 0x75 && (leb 0xdc00 v && leb v 0xdfff) in
        eqb-true _ _ (and_left (eqb (get_or l 6 0) 0x5c) low (and_right (leb 0xd800 u && leb u 0xdbff) (eqb (get_or l 6 0) 0x5c && low) e))

    go : Dec (7 ≤ length l) → 7 ≤ length l
    go (yes h) = h
    go (no h) = absurd (omega (arith, slash, get_or-eq_default l 0 {n = 6} (omega arith)))

char_there : (l : List ℕ) → 1 ≤ length l → length (char_bytes (char_of l)) ≤ length l
unfolding char_of unicode_of char_bytes utf8_of
char_there l h =
    let P : Char → Type 0 = λ c. length (char_bytes c) ≤ length l in
    either P (eqb (get_or l 0 0) 0x5c)
    (either P (eqb (get_or l 1 0) 0x75)
    (choose P (is_pair (four_at l 2) (get_or l 6 0) (get_or l 7 0) (four_at l 8))
    (λ e. omega (arith, pair_long l _ _ _ e, utf8_few (pair_of (four_at l 2) (four_at l 8))))
    (λ _. single (dec_le 3 (length l))))
    h)
    h
  where
    single : Dec (3 ≤ length l) → length (utf8_of (four_at l 2)) ≤ length l
    single (yes m) = omega (arith, three_few (four_at l 2) (four_few l 2))
    single (no m) = rw (four_none l (omega arith)) h

decode_first : (l : List ℕ) → 1 ≤ length l → decode l ≡ char_bytes (char_of l) ++ decode (drop (char_of l).width l)
unfolding decode chars_bytes
decode_first l h = rw (first l h)

pub decode_few : (l : List ℕ) → length (decode l) ≤ length l
unfolding decode chars_bytes chars_from
decode_few l = go (length l) l (omega arith)
  where
    go : (n : ℕ) (l : List ℕ) → length l ≤ n → length (decode l) ≤ length l
    go zero [] h = omega arith
    go zero (x ∷ l) h = absurd (omega arith)
    go (suc n) [] h = omega arith
    go (suc n) (x ∷ l) h =
        let c = char_of (x ∷ l) in
        let t = drop c.width (x ∷ l) in
        let s : length t ≤ n = simp length-drop (omega (arith, char_some (x ∷ l))) in
        rw (decode_first (x ∷ l) (omega arith), length-append (char_bytes c) (decode t))
        (omega (arith, go n t s, length-drop c.width (x ∷ l), char_fits (x ∷ l), char_there (x ∷ l) (omega arith)))
