-- A spelling that is UTF-8, and that row 4 lets pass, decodes to a string within the limits: a character at a time,
-- with the state that UTF-8 is in before it.
use mathlib.Core.Bool.{Bool, true, false, cond, ◌&&◌, ◌||◌}
use mathlib.Core.Path.{◌≡◌, refl, sym, ap, ◌∙◌}
use mathlib.Core.List.{List, [], ◌∷◌, ◌++◌}
use Prim.Native.Nat.{ℕ, zero, suc, ◌+◌, ◌-◌, ◌/◌, ◌%◌, ◌≤◌, ◌<◌}
use native.Mathlib.Decide.{dec_lt}
use native.Mathlib.Numerals.{add-one}
use native.Mathlib.Omega.{arith}
use borrow.Author.Tests.{lt-ltb, le-ltb, le-leb, ne_eqb, eqb-true, leb-true}
use lib.Dec.{ltb, leb, eqb}
use lib.ListN.{length, get_or, drop}
use lib.Seq.{drop-cons, drop-length}
use Rattle.wire.specs.Bytes.{is_control}
use Rattle.wire.proofs.Json.{control_low}
use Rattle.utf8.specs.Utf8.{next_want, utf8_from, is_utf8}
use Rattle.utf8.specs.declared.Want.{Want}
use Rattle.utf8.specs.declared.Want.TheVariants.{Lead}
use Rattle.utf8.specs.Abnf.{Octets, utf8_1, utf8_2, utf8_3_e0, utf8_3_e1, utf8_3_ed, utf8_3_ee, utf8_4_f0, utf8_4_f1}
use Rattle.utf8.specs.Abnf.{utf8_4_f4}
use Rattle.utf8.proofs.Abnf.{as_in_abnf}
use Rattle.utf8.proofs.States.{Reached, lead_reached, next_reached, lead_low, low_lead}
use Rattle.json_tree.specs.Grammar.{is_between, is_unescaped, in_class, chars_at, is_spelling}
use Rattle.json_tree.proofs.Ends.{one_is, one_ends, byte_is}
use Rattle.json_tree.proofs.Spelled.{Char, Chars, chars_sound}
use Rattle.json_tree.proofs.Spelled as json
use Rattle.spell.specs.declared.Char as spell
use Rattle.spell.specs.Spell.{hex_val, four, four_at, short_of, is_pair, pair_of, unicode_of, char_of, chars, chars_from}
use Rattle.spell.specs.Spell.{utf8_of, char_bytes, chars_bytes, decode, is_surrogate, is_refused, any, refuses}
use Rattle.text.specs.Event.{is_string_bytes}

-- ---- Bools
pub and_both : (a b : Bool) → (a && b) ≡ true → (a ≡ true) × (b ≡ true)
and_both true b e = (refl, e)
and_both false b e = absurd (let z : ◌≡◌ {A = ℕ} 0 1 = cc in omega arith)

pub or_either : {A : Type 0} (a b : Bool) → (a ≡ true → A) → (b ≡ true → A) → (a || b) ≡ true → A
or_either true b f g e = f refl
or_either false b f g e = g e

pub or_neither : (a b : Bool) → (a || b) ≡ false → (a ≡ false) × (b ≡ false)
or_neither true b e = absurd (let z : ◌≡◌ {A = ℕ} 0 1 = cc in omega arith)
or_neither false b e = (refl, e)

within_bounds : (low high x : ℕ) → is_between low high x ≡ true → (low ≤ x) × (x ≤ high)
within_bounds low high x e = let (p, q) = and_both (leb low x) (leb x high) e in (leb-true low x p, leb-true x high q)

-- ---- bytes of a spelling, by RFC 8259's classes
plain_byte : (x : ℕ) → (is_unescaped x || is_control x) ≡ true → x ≡ 0x5c → ⊥
plain_byte x e q =
    or_either (is_unescaped x) (is_control x)
    (λ e. or_either (is_between 0x20 0x21 x) _ (λ p. omega (arith, (within_bounds 0x20 0x21 x p).1))
    (λ e. or_either (is_between 0x23 0x5B x) _ (λ p. omega (arith, (within_bounds 0x23 0x5B x p).1)) (λ p. omega (arith, leb-true 0x5D x p)) e) e)
    (λ p. omega (arith, control_low x p)) e

hex_byte : (x : ℕ) → (is_between 0x30 0x39 x || (is_between 0x41 0x46 x || is_between 0x61 0x66 x)) ≡ true → x < 128
hex_byte x e =
    or_either (is_between 0x30 0x39 x) _ (λ p. omega (arith, (within_bounds 0x30 0x39 x p).1))
    (λ e. or_either (is_between 0x41 0x46 x) _ (λ p. omega (arith, (within_bounds 0x41 0x46 x p).1)) (λ p. omega (arith, (within_bounds 0x61 0x66 x p).1)) e) e

-- what stands after a backslash, and what it stands for
pub record Short (y : ℕ) : Type 0 where
  pub other : y ≡ 0x75 → ⊥
  pub low : y < 128
  pub means : short_of y < 128

short_byte : (y : ℕ) → (eqb y 0x22 || (eqb y 0x5C || (eqb y 0x2F || (eqb y 0x62 || (eqb y 0x66 || (eqb y 0x6E || (eqb y 0x72 || eqb y 0x74))))))) ≡ true → Short y
unfolding short_of
short_byte y e =
    or_either (eqb y 0x22) _ (is 0x22 (λ q. omega arith) (omega arith) (omega arith))
    (λ e. or_either (eqb y 0x5C) _ (is 0x5C (λ q. omega arith) (omega arith) (omega arith))
    (λ e. or_either (eqb y 0x2F) _ (is 0x2F (λ q. omega arith) (omega arith) (omega arith))
    (λ e. or_either (eqb y 0x62) _ (is 0x62 (λ q. omega arith) (omega arith) (omega arith))
    (λ e. or_either (eqb y 0x66) _ (is 0x66 (λ q. omega arith) (omega arith) (omega arith))
    (λ e. or_either (eqb y 0x6E) _ (is 0x6E (λ q. omega arith) (omega arith) (omega arith))
    (λ e. or_either (eqb y 0x72) _ (is 0x72 (λ q. omega arith) (omega arith) (omega arith)) (is 0x74 (λ q. omega arith) (omega arith) (omega arith)) e) e) e) e) e) e) e
  where
    is : (k : ℕ) → (k ≡ 0x75 → ⊥) → k < 128 → short_of k < 128 → eqb y k ≡ true → Short y
    is k o l m e = rw (eqb-true y k e) (record { other = o; low = l; means = m })

-- ---- a spelling as a list
pub data Spelling : List ℕ → Type 0 where
  end : Spelling []
  plain : {x : ℕ} {l : List ℕ} → (x ≡ 0x5c → ⊥) → Spelling l → Spelling (x ∷ l)
  short : {y : ℕ} {l : List ℕ} → Short y → Spelling l → Spelling (0x5c ∷ y ∷ l)
  code : {a b c d : ℕ} {l : List ℕ} → a < 128 → b < 128 → c < 128 → d < 128 → Spelling l → Spelling (0x5c ∷ 0x75 ∷ a ∷ b ∷ c ∷ d ∷ l)

module _ (s : List ℕ) where
  here : (at n : ℕ) → at + 1 ≡ n → n ≤ length s → drop at s ≡ get_or s at 0 ∷ drop n s
  here at n e h = drop-cons s at 0 (omega arith) ∙ ap (λ (k : ℕ). get_or s at 0 ∷ drop k s) (sym (add-one at) ∙ e)

  spelling : (at n : ℕ) → Chars s at n → n ≡ length s → Spelling (drop at s)
  unfolding in_class
  spelling at n json.stop z = rw (z, drop-length s) end
  spelling at n (json.more {m = m} (json.plain h e) r) z =
      let q = one_is s _ at e in
      rw (here at m q.1 (omega (arith, q.1))) (plain (plain_byte (get_or s at 0) q.0) (spelling m n r z))
  spelling at n (json.more {m = m} (json.short {a = a} e f) r) z =
      let q = one_is s _ at e in
      let w = one_is s _ a f in
      rw (here at a q.1 (one_ends s _ at refl a e).1, byte_is s 0x5c at e, here a m w.1 (one_ends s _ a refl m f).1) (short (short_byte (get_or s a 0) w.0) (spelling m n r z))
  spelling at n (json.more {m = m} (json.code {a = a} {b = b} {c = c} {d = d} {e = e} i j k o p t) r) z =
      let q₀ = one_is s _ at i in
      let q₁ = one_is s _ a j in
      let q₂ = one_is s _ b k in
      let q₃ = one_is s _ c o in
      let q₄ = one_is s _ d p in
      let q₅ = one_is s _ e t in
      rw (
        here at a q₀.1 (one_ends s _ at refl a i).1,
        byte_is s 0x5c at i,
        here a b q₁.1 (one_ends s _ a refl b j).1,
        byte_is s 0x75 a j,
        here b c q₂.1 (one_ends s _ b refl c k).1,
        here c d q₃.1 (one_ends s _ c refl d o).1,
        here d e q₄.1 (one_ends s _ d refl e p).1,
        here e m q₅.1 (one_ends s _ e refl m t).1,
      )
      (code (hex_byte (get_or s b 0) q₂.0) (hex_byte (get_or s c 0) q₃.0) (hex_byte (get_or s d 0) q₄.0) (hex_byte (get_or s e 0) q₅.0) (spelling m n r z))

pub is_spelling_lem : (s : List ℕ) → is_spelling s ≡ true → Spelling s
is_spelling_lem s e = spelling s 0 (chars_at s 0) (chars_sound s 0) (eqb-true (chars_at s 0) (length s) e)

-- ---- the first character of each
pub chars_plain : (x : ℕ) (l : List ℕ) → (x ≡ 0x5c → ⊥) → chars (x ∷ l) ≡ record { code = x; raw = true; width = 1 } ∷ chars l
unfolding chars_from char_of
chars_plain x l n = rw (ne_eqb x 0x5c n)

pub chars_short : (y : ℕ) (l : List ℕ) → (y ≡ 0x75 → ⊥) → chars (0x5c ∷ y ∷ l) ≡ record { code = short_of y; raw = true; width = 2 } ∷ chars l
unfolding chars_from char_of
chars_short y l n = rw (ne_eqb y 0x75 n)

module _ (a b c d : ℕ) where
  pub chars_one : (l : List ℕ) → is_pair (four a b c d) (get_or l 0 0) (get_or l 1 0) (four_at l 2) ≡ false
      → chars (0x5c ∷ 0x75 ∷ a ∷ b ∷ c ∷ d ∷ l) ≡ record { code = four a b c d; raw = false; width = 6 } ∷ chars l
  unfolding chars_from char_of unicode_of four_at
  chars_one l e = rw e

  pub chars_pair : (e f g h : ℕ) (l : List ℕ) → is_pair (four a b c d) 0x5c 0x75 (four e f g h) ≡ true
      → chars (0x5c ∷ 0x75 ∷ a ∷ b ∷ c ∷ d ∷ 0x5c ∷ 0x75 ∷ e ∷ f ∷ g ∷ h ∷ l) ≡ record { code = pair_of (four a b c d) (four e f g h); raw = false; width = 12 } ∷ chars l
  unfolding chars_from char_of unicode_of four_at
  chars_pair e f g h l q = rw q

-- what a first character says of the rest
module _ (l m : List ℕ) {c : spell.Char} (e : chars l ≡ c ∷ chars m) where
  pub decode_more : decode l ≡ char_bytes c ++ decode m
  unfolding decode chars_bytes
  decode_more = rw e

  refuses_more : refuses l ≡ false → (is_surrogate c.code ≡ false) × (refuses m ≡ false)
  unfolding refuses any is_refused
  refuses_more h = or_neither (is_surrogate c.code) _ (rw e at h)

-- ---- the code of an escape
pub digit_few : (x : ℕ) → hex_val x ≤ 15
unfolding hex_val
digit_few x = go (ltb x 0x30) (leb x 0x39) refl (ltb x 0x41) (leb x 0x46) refl (ltb x 0x61) (leb x 0x66) refl
  where
    go : (a b : Bool) → leb x 0x39 ≡ b → (c d : Bool) → leb x 0x46 ≡ d → (e f : Bool) → leb x 0x66 ≡ f
        → cond a 0 (cond b (x - 0x30) (cond c 0 (cond d (x - 0x41 + 10) (cond e 0 (cond f (x - 0x61 + 10) 0))))) ≤ 15
    go true b p c d q e f r = omega arith
    go false true p c d q e f r = omega (arith, leb-true x 0x39 p)
    go false false p true d q e f r = omega arith
    go false false p false true q e f r = omega (arith, leb-true x 0x46 q)
    go false false p false false q true f r = omega arith
    go false false p false false q false true r = omega (arith, leb-true x 0x66 r)
    go false false p false false q false false r = omega arith

four_few : (a b c d : ℕ) → four a b c d ≤ 0xffff
unfolding four
four_few a b c d = omega (arith, digit_few a, digit_few b, digit_few c, digit_few d)

-- a pair of surrogates stands where its two escapes do
pub record Paired (u x y v : ℕ) : Type 0 where
  pub slash : x ≡ 0x5c
  pub letter : y ≡ 0x75
  pub high : (0xd800 ≤ u) × (u ≤ 0xdbff)
  pub low : (0xdc00 ≤ v) × (v ≤ 0xdfff)

pub paired : (u x y v : ℕ) → is_pair u x y v ≡ true → Paired u x y v
unfolding is_pair
paired u x y v e =
    let (p, q) = and_both (is_between 0xd800 0xdbff u) _ e in
    let (r, s) = and_both (eqb x 0x5c) _ q in
    let (t, w) = and_both (eqb y 0x75) _ s in
    record { slash = eqb-true x 0x5c r; letter = eqb-true y 0x75 t; high = within_bounds 0xd800 0xdbff u p; low = within_bounds 0xdc00 0xdfff v w }

-- ---- the octets of a code point
module _ (n : ℕ) where
  not_surrogate : {A : Type 0} → (n < 0xd800 → A) → (0xdfff < n → A) → is_surrogate n ≡ false → A
  not_surrogate f g e = elim (dec_lt n 0xd800) [
    | yes h ↦ f h
    | no h ↦ elim (dec_lt 0xdfff n) [
      | yes k ↦ g k
      | no k ↦ absurd (let z : is_surrogate n ≡ true = rw (le-leb 0xd800 n (omega arith), le-leb n 0xdfff (omega arith)) in let y : ◌≡◌ {A = ℕ} 0 1 = cc in omega arith)
    ]
  ]

  module _ (t : List ℕ) (o : Octets t) where
    three : 0x800 ≤ n → n < 0x10000 → is_surrogate n ≡ false → Octets ((0xe0 + n / 0x1000) ∷ (0x80 + n / 0x40 % 0x40) ∷ (0x80 + n % 0x40) ∷ t)
    three h k e = not_surrogate low high e
      where
        low : n < 0xd800 → Octets ((0xe0 + n / 0x1000) ∷ (0x80 + n / 0x40 % 0x40) ∷ (0x80 + n % 0x40) ∷ t)
        low l = elim (dec_lt n 0x1000) [
          | yes a ↦
              let z : 0xe0 + n / 0x1000 ≡ 0xe0 = omega arith in
              rw z (utf8_3_e0 {b = 0x80 + n / 0x40 % 0x40} {c = 0x80 + n % 0x40} (record { low = omega arith; high = omega arith }) (record { low = omega arith; high = omega arith }) o)
          | no a ↦ elim (dec_lt n 0xd000) [
            | yes b ↦ utf8_3_e1 {a = 0xe0 + n / 0x1000} {b = 0x80 + n / 0x40 % 0x40} {c = 0x80 + n % 0x40} (record { low = omega arith; high = omega arith }) (record { low = omega arith; high = omega arith }) (record { low = omega arith; high = omega arith }) o
            | no b ↦
                let z : 0xe0 + n / 0x1000 ≡ 0xed = omega arith in
                rw z (utf8_3_ed {b = 0x80 + n / 0x40 % 0x40} {c = 0x80 + n % 0x40} (record { low = omega arith; high = omega arith }) (record { low = omega arith; high = omega arith }) o)
          ]
        ]

        high : 0xdfff < n → Octets ((0xe0 + n / 0x1000) ∷ (0x80 + n / 0x40 % 0x40) ∷ (0x80 + n % 0x40) ∷ t)
        high l = utf8_3_ee {a = 0xe0 + n / 0x1000} {b = 0x80 + n / 0x40 % 0x40} {c = 0x80 + n % 0x40} (record { low = omega arith; high = omega arith }) (record { low = omega arith; high = omega arith }) (record { low = omega arith; high = omega arith }) o

    four_octets : 0x10000 ≤ n → n ≤ 0x10ffff → Octets ((0xf0 + n / 0x40000) ∷ (0x80 + n / 0x1000 % 0x40) ∷ (0x80 + n / 0x40 % 0x40) ∷ (0x80 + n % 0x40) ∷ t)
    four_octets h k = elim (dec_lt n 0x40000) [
      | yes a ↦
          let z : 0xf0 + n / 0x40000 ≡ 0xf0 = omega arith in
          rw z (utf8_4_f0 {b = 0x80 + n / 0x1000 % 0x40} {c = 0x80 + n / 0x40 % 0x40} {d = 0x80 + n % 0x40} (record { low = omega arith; high = omega arith }) (record { low = omega arith; high = omega arith }) (record { low = omega arith; high = omega arith }) o)
      | no a ↦ elim (dec_lt n 0x100000) [
        | yes b ↦ utf8_4_f1 {a = 0xf0 + n / 0x40000} {b = 0x80 + n / 0x1000 % 0x40} {c = 0x80 + n / 0x40 % 0x40} {d = 0x80 + n % 0x40} (record { low = omega arith; high = omega arith }) (record { low = omega arith; high = omega arith }) (record { low = omega arith; high = omega arith }) (record { low = omega arith; high = omega arith }) o
        | no b ↦
            let z : 0xf0 + n / 0x40000 ≡ 0xf4 = omega arith in
            rw z (utf8_4_f4 {b = 0x80 + n / 0x1000 % 0x40} {c = 0x80 + n / 0x40 % 0x40} {d = 0x80 + n % 0x40} (record { low = omega arith; high = omega arith }) (record { low = omega arith; high = omega arith }) (record { low = omega arith; high = omega arith }) o)
      ]
    ]

    octets_of : n ≤ 0x10ffff → is_surrogate n ≡ false → Octets (utf8_of n ++ t)
    unfolding utf8_of
    octets_of h e = elim (dec_lt n 0x80) [
      | yes a ↦ rw (lt-ltb n 0x80 a) (utf8_1 {a = n} (record { low = omega arith; high = omega arith }) o)
      | no a ↦ elim (dec_lt n 0x800) [
        | yes b ↦ rw (le-ltb n 0x80 (omega arith), lt-ltb n 0x800 b) (utf8_2 {a = 0xc0 + n / 0x40} {b = 0x80 + n % 0x40} (record { low = omega arith; high = omega arith }) (record { low = omega arith; high = omega arith }) o)
        | no b ↦ elim (dec_lt n 0x10000) [
          | yes c ↦ rw (le-ltb n 0x80 (omega arith), le-ltb n 0x800 (omega arith), lt-ltb n 0x10000 c) (three (omega arith) c e)
          | no c ↦ rw (le-ltb n 0x80 (omega arith), le-ltb n 0x800 (omega arith), le-ltb n 0x10000 (omega arith)) (four_octets (omega arith) h)
        ]
      ]
    ]

-- ---- UTF-8 from a state on
lead_of_lem : (n : ℕ) (t : List ℕ) → n ≤ 0x10ffff → is_surrogate n ≡ false → utf8_from Lead t ≡ true → utf8_from Lead (utf8_of n ++ t) ≡ true
unfolding is_utf8
lead_of_lem n t h e u = (as_in_abnf (utf8_of n ++ t)).1 (octets_of n t ((as_in_abnf t).0 u) h e)

-- ---- the whole
abbrev Good : Want → List ℕ → Type 0
Good w t = utf8_from w t ≡ true

step_plain : (x : ℕ) (l : List ℕ) → (x ≡ 0x5c → ⊥) → (w : Want) → refuses (x ∷ l) ≡ false → utf8_from w (x ∷ l) ≡ true
    → (refuses l ≡ false → utf8_from (next_want w x) l ≡ true → Good (next_want w x) (decode l)) → Good w (decode (x ∷ l))
unfolding utf8_from char_bytes
step_plain x l n w r u ih =
    let e = chars_plain x l n in
    rw (decode_more (x ∷ l) l e) (ih (refuses_more (x ∷ l) l e r).1 u)

step_short : (y : ℕ) (l : List ℕ) → Short y → (w : Want) → Reached w → refuses (0x5c ∷ y ∷ l) ≡ false → utf8_from w (0x5c ∷ y ∷ l) ≡ true
    → (refuses l ≡ false → utf8_from Lead l ≡ true → Good Lead (decode l)) → Good w (decode (0x5c ∷ y ∷ l))
unfolding char_bytes
step_short y l s w v r u ih =
    let (z, u₁) = low_lead w 0x5c (y ∷ l) v (omega arith) u in
    let u₂ = (low_lead Lead y l lead_reached s.low u₁).1 in
    let e = chars_short y l s.other in
    rw (decode_more (0x5c ∷ y ∷ l) l e, z) (lead_low (short_of y) (decode l) s.means (ih (refuses_more (0x5c ∷ y ∷ l) l e r).1 u₂))

module _ {a b c d : ℕ} (ha : a < 128) (hb : b < 128) (hc : c < 128) (hd : d < 128) where
  -- an escape stands only where a character may begin
  pub six_lead : (w : Want) (l : List ℕ) → Reached w → utf8_from w (0x5c ∷ 0x75 ∷ a ∷ b ∷ c ∷ d ∷ l) ≡ true → (w ≡ Lead) × (utf8_from Lead l ≡ true)
  six_lead w l v u =
      let (z, u₁) = low_lead w 0x5c (0x75 ∷ a ∷ b ∷ c ∷ d ∷ l) v (omega arith) u in
      let u₂ = (low_lead Lead 0x75 (a ∷ b ∷ c ∷ d ∷ l) lead_reached (omega arith) u₁).1 in
      let u₃ = (low_lead Lead a (b ∷ c ∷ d ∷ l) lead_reached ha u₂).1 in
      let u₄ = (low_lead Lead b (c ∷ d ∷ l) lead_reached hb u₃).1 in
      let u₅ = (low_lead Lead c (d ∷ l) lead_reached hc u₄).1 in
      (z, (low_lead Lead d l lead_reached hd u₅).1)

-- a character of an escape, of a code point n, before m
step_code : (l m : List ℕ) (n k : ℕ) (w : Want) → w ≡ Lead → n ≤ 0x10ffff → chars l ≡ record { code = n; raw = false; width = k } ∷ chars m → refuses l ≡ false
    → (refuses m ≡ false → Good Lead (decode m)) → Good w (decode l)
unfolding char_bytes
step_code l m n k w z h e r ih =
    let q = refuses_more l m e r in
    rw (decode_more l m e, z) (lead_of_lem n (decode m) h q.0 (ih q.1))

module _ (a b c d : ℕ) (ha : a < 128) (hb : b < 128) (hc : c < 128) (hd : d < 128) (w : Want) (v : Reached w) where
  abbrev Rest : List ℕ → Type 0
  Rest l = (m : List ℕ) → length m ≤ length l → Spelling m → refuses m ≡ false → utf8_from Lead m ≡ true → Good Lead (decode m)

  step_pair : {l : List ℕ} → Spelling l → is_pair (four a b c d) (get_or l 0 0) (get_or l 1 0) (four_at l 2) ≡ true → Rest l
      → refuses (0x5c ∷ 0x75 ∷ a ∷ b ∷ c ∷ d ∷ l) ≡ false → utf8_from w (0x5c ∷ 0x75 ∷ a ∷ b ∷ c ∷ d ∷ l) ≡ true → Good w (decode (0x5c ∷ 0x75 ∷ a ∷ b ∷ c ∷ d ∷ l))
  unfolding four_at pair_of
  step_pair end e ih r u = let p = paired _ _ _ _ e in absurd (omega (arith, p.slash))
  step_pair (plain n s) e ih r u = let p = paired _ _ _ _ e in absurd (n p.slash)
  step_pair (short y s) e ih r u = let p = paired _ _ _ _ e in absurd (y.other p.letter)
  step_pair (code {a = i} {b = j} {c = x} {d = y} {l = m} hi hj hx hy s) e ih r u =
      let p = paired (four a b c d) 0x5c 0x75 (four i j x y) e in
      let (z, u₁) = six_lead ha hb hc hd w (0x5c ∷ 0x75 ∷ i ∷ j ∷ x ∷ y ∷ m) v u in
      let u₂ = (six_lead hi hj hx hy Lead m lead_reached u₁).1 in
      step_code _ m (pair_of (four a b c d) (four i j x y)) 12 w z (omega (arith, p.high, p.low)) (chars_pair a b c d i j x y m e) r (λ q. ih m (omega arith) s q u₂)

  step_escape : {l : List ℕ} → Spelling l → Rest l → refuses (0x5c ∷ 0x75 ∷ a ∷ b ∷ c ∷ d ∷ l) ≡ false → utf8_from w (0x5c ∷ 0x75 ∷ a ∷ b ∷ c ∷ d ∷ l) ≡ true
      → Good w (decode (0x5c ∷ 0x75 ∷ a ∷ b ∷ c ∷ d ∷ l))
  step_escape {l} s ih r u = go (is_pair (four a b c d) (get_or l 0 0) (get_or l 1 0) (four_at l 2)) refl
    where
      go : (t : Bool) → is_pair (four a b c d) (get_or l 0 0) (get_or l 1 0) (four_at l 2) ≡ t → Good w (decode (0x5c ∷ 0x75 ∷ a ∷ b ∷ c ∷ d ∷ l))
      go true e = step_pair s e ih r u
      go false e =
          let (z, u₁) = six_lead ha hb hc hd w l v u in
          step_code _ l (four a b c d) 6 w z (omega (arith, four_few a b c d)) (chars_one a b c d l e) r (λ q. ih l (omega arith) s q u₁)

abbrev Upto : ℕ → Type 0
Upto k = (l : List ℕ) → length l ≤ k → Spelling l → (w : Want) → Reached w → refuses l ≡ false → utf8_from w l ≡ true → Good w (decode l)

none_decoded : (w : Want) → utf8_from w [] ≡ true → Good w (decode [])
unfolding decode chars_bytes chars_from
none_decoded w u = u

longer : (k : ℕ) → Upto k → Upto (suc k)
longer k ih l h end w v r u = none_decoded w u
longer k ih l h (plain {x = x} {l = m} n s) w v r u = step_plain x m n w r u (λ e f. ih m (omega arith) s (next_want w x) (next_reached w x v) e f)
longer k ih l h (short {y = y} {l = m} t s) w v r u = step_short y m t w v r u (λ e f. ih m (omega arith) s Lead lead_reached e f)
longer k ih l h (code {a = a} {b = b} {c = c} {d = d} {l = m} ha hb hc hd s) w v r u =
    step_escape a b c d ha hb hc hd w v s (λ i g t e f. ih i (omega arith) t Lead lead_reached e f) r u

shortest : Upto 0
shortest [] h s w v r u = none_decoded w u
shortest (x ∷ l) h s w v r u = absurd (omega arith)

decoded : (k : ℕ) → Upto k
decoded zero = shortest
decoded (suc k) = longer k (decoded k)

-- the theorem
pub decoded_string : (l : List ℕ) → is_utf8 l ≡ true → is_spelling l ≡ true → refuses l ≡ false → is_string_bytes (decode l) ≡ true
unfolding is_utf8 is_string_bytes
decoded_string l u s r = decoded (length l) l (omega arith) (is_spelling_lem l s) Lead lead_reached r u
