-- The converse of event/proofs/Decoded: a spelling whose decoded bytes are a string within the limits is not refused by
-- row 4. A character at a time, with the state that UTF-8 is in before it: a refused control would stand among the
-- decoded bytes and is not plain, and a refused surrogate's octets would stand where a character begins, and are no
-- UTF-8.
use mathlib.Core.Bool.{Bool, true, false}
use mathlib.Core.Path.{◌≡◌, refl}
use mathlib.Core.List.{List, [], ◌∷◌, ◌++◌}
use Prim.Native.Nat.{ℕ, zero, suc, ◌+◌, ◌/◌, ◌%◌, ◌≤◌, ◌<◌}
use native.Mathlib.Decide.{dec_lt}
use native.Mathlib.Omega.{arith}
use borrow.Author.Tests.{lt-ltb, le-ltb, le-leb, lt-leb}
use lib.ListN.{length, get_or}
use Rattle.utf8.specs.Utf8.{next_want, utf8_from, is_utf8}
use Rattle.utf8.specs.declared.Want.{Want}
use Rattle.utf8.specs.declared.Want.TheVariants.{Lead}
use Rattle.utf8.specs.Abnf.{Octets, utf8_1, utf8_2, utf8_3_e0, utf8_3_e1, utf8_3_ed, utf8_3_ee, utf8_4_f0, utf8_4_f1}
use Rattle.utf8.specs.Abnf.{utf8_4_f4}
use Rattle.utf8.proofs.Abnf.{as_in_abnf}
use Rattle.utf8.proofs.States.{Reached, lead_reached, next_reached, low_lead, byte_few}
use Rattle.json_tree.specs.Grammar.{is_spelling}
use Rattle.spell.specs.declared.Char as spell
use Rattle.spell.specs.Spell.{four, four_at, short_of, is_pair, pair_of, chars, chars_from, utf8_of, char_bytes, decode}
use Rattle.spell.specs.Spell.{is_surrogate, is_refused, any, refuses}
use Rattle.text.specs.Event.{is_string_bytes}
use Rattle.event.proofs.Decoded.{Short, Spelling, end, plain, short, code, is_spelling_lem, chars_plain, chars_short}
use Rattle.event.proofs.Decoded.{chars_one, chars_pair, decode_more, paired, six_lead}

-- ---- tests
few_surrogate : (n : ℕ) → n < 0xd800 → is_surrogate n ≡ false
few_surrogate n h = rw (lt-leb 0xd800 n h)

-- ---- the octets of a code point where a character may begin
two_rest : {a b : ℕ} {s : List ℕ} → Octets (a ∷ b ∷ s) → 0xc0 ≤ a → a ≤ 0xdf → Octets s
two_rest (utf8_1 r o) h k = absurd (omega (arith, r.high))
two_rest (utf8_2 r p o) h k = o
two_rest (utf8_3_e0 p q o) h k = absurd (omega arith)
two_rest (utf8_3_e1 r p q o) h k = absurd (omega (arith, r.low))
two_rest (utf8_3_ed p q o) h k = absurd (omega arith)
two_rest (utf8_3_ee r p q o) h k = absurd (omega (arith, r.low))
two_rest (utf8_4_f0 p q u o) h k = absurd (omega arith)
two_rest (utf8_4_f1 r p q u o) h k = absurd (omega (arith, r.low))
two_rest (utf8_4_f4 p q u o) h k = absurd (omega arith)

three_rest : {a b c : ℕ} {s : List ℕ} → Octets (a ∷ b ∷ c ∷ s) → 0xe0 ≤ a → a ≤ 0xef → (a ≡ 0xed → b ≤ 0x9f) × Octets s
three_rest (utf8_1 r o) h k = absurd (omega (arith, r.high))
three_rest (utf8_2 r p o) h k = absurd (omega (arith, r.high))
three_rest (utf8_3_e0 p q o) h k = (λ e. absurd (omega arith), o)
three_rest (utf8_3_e1 r p q o) h k = (λ e. absurd (omega (arith, r.high)), o)
three_rest (utf8_3_ed p q o) h k = (λ e. p.high, o)
three_rest (utf8_3_ee r p q o) h k = (λ e. absurd (omega (arith, r.low)), o)
three_rest (utf8_4_f0 p q u o) h k = absurd (omega arith)
three_rest (utf8_4_f1 r p q u o) h k = absurd (omega (arith, r.low))
three_rest (utf8_4_f4 p q u o) h k = absurd (omega arith)

four_rest : {a b c d : ℕ} {s : List ℕ} → Octets (a ∷ b ∷ c ∷ d ∷ s) → 0xf0 ≤ a → Octets s
four_rest (utf8_1 r o) h = absurd (omega (arith, r.high))
four_rest (utf8_2 r p o) h = absurd (omega (arith, r.high))
four_rest (utf8_3_e0 p q o) h = absurd (omega arith)
four_rest (utf8_3_e1 r p q o) h = absurd (omega (arith, r.high))
four_rest (utf8_3_ed p q o) h = absurd (omega arith)
four_rest (utf8_3_ee r p q o) h = absurd (omega (arith, r.high))
four_rest (utf8_4_f0 p q u o) h = o
four_rest (utf8_4_f1 r p q u o) h = o
four_rest (utf8_4_f4 p q u o) h = o

module _ (n : ℕ) (t : List ℕ) where
  octets_rest : Octets (utf8_of n ++ t) → (is_surrogate n ≡ false) × Octets t
  unfolding utf8_of is_utf8
  octets_rest o = elim (dec_lt n 0x80) [
    | yes a ↦ (few_surrogate n (omega arith), one a (rw (lt-ltb n 0x80 a) at o))
    | no a ↦ elim (dec_lt n 0x800) [
      | yes b ↦ (few_surrogate n (omega arith), two_rest (rw (le-ltb n 0x80 (omega arith), lt-ltb n 0x800 b) at o) (omega arith) (omega arith))
      | no b ↦ elim (dec_lt n 0x10000) [
        | yes c ↦ three c (rw (le-ltb n 0x80 (omega arith), le-ltb n 0x800 (omega arith), lt-ltb n 0x10000 c) at o)
        | no c ↦ (far (omega arith), four_rest (rw (le-ltb n 0x80 (omega arith), le-ltb n 0x800 (omega arith), le-ltb n 0x10000 (omega arith)) at o) (omega arith))
      ]
    ]
  ]
    where
      one : n < 0x80 → Octets (n ∷ t) → Octets t
      one h o = (as_in_abnf t).0 (low_lead Lead n t lead_reached h ((as_in_abnf (n ∷ t)).1 o)).1

      far : 0x10000 ≤ n → is_surrogate n ≡ false
      far h = rw (le-leb 0xd800 n (omega arith), lt-leb n 0xdfff (omega arith))

      three : n < 0x10000 → Octets ((0xe0 + n / 0x1000) ∷ (0x80 + n / 0x40 % 0x40) ∷ (0x80 + n % 0x40) ∷ t) → (is_surrogate n ≡ false) × Octets t
      three c o = let (f, r) = three_rest o (omega arith) (omega arith) in (pick f, r)
        where
          pick : (0xe0 + n / 0x1000 ≡ 0xed → 0x80 + n / 0x40 % 0x40 ≤ 0x9f) → is_surrogate n ≡ false
          pick f = elim (dec_lt n 0xd800) [
            | yes l ↦ few_surrogate n l
            | no l ↦ elim (dec_lt 0xdfff n) [
              | yes k ↦ rw (le-leb 0xd800 n (omega arith), lt-leb n 0xdfff k)
              | no k ↦ absurd (omega (arith, f (omega arith)))
            ]
          ]

  code_utf8 : utf8_from Lead (utf8_of n ++ t) ≡ true → (is_surrogate n ≡ false) × (utf8_from Lead t ≡ true)
  unfolding is_utf8
  code_utf8 u = let (p, o) = octets_rest ((as_in_abnf (utf8_of n ++ t)).0 u) in (p, (as_in_abnf t).1 o)

-- ---- the whole
module _ (l m : List ℕ) {c : spell.Char} (e : chars l ≡ c ∷ chars m) where
  refuses_not : is_surrogate c.code ≡ false → refuses m ≡ false → refuses l ≡ false
  unfolding refuses any is_refused
  refuses_not p r = rw (e, any, p) r

-- from the state w the decoded bytes are UTF-8
abbrev Fine : Want → List ℕ → Type 0
Fine w t = utf8_from w t ≡ true

step_plain : (x : ℕ) (l : List ℕ) → (x ≡ 0x5c → ⊥) → (w : Want) → Reached w → utf8_from w (x ∷ l) ≡ true → Fine w (decode (x ∷ l))
    → (utf8_from (next_want w x) l ≡ true → Fine (next_want w x) (decode l) → refuses l ≡ false) → refuses (x ∷ l) ≡ false
unfolding utf8_from char_bytes
step_plain x l n w s u f ih =
    let e = chars_plain x l n in
    let d = decode_more (x ∷ l) l e in
    let v : utf8_from (next_want w x) (decode l) ≡ true = rw d at f in
    refuses_not (x ∷ l) l e (few_surrogate x (omega (arith, byte_few w x l s u))) (ih u v)

step_short : (y : ℕ) (l : List ℕ) → Short y → (w : Want) → Reached w → utf8_from w (0x5c ∷ y ∷ l) ≡ true → Fine w (decode (0x5c ∷ y ∷ l))
    → (utf8_from Lead l ≡ true → Fine Lead (decode l) → refuses l ≡ false) → refuses (0x5c ∷ y ∷ l) ≡ false
unfolding char_bytes
step_short y l h w s u f ih =
    let (z, u₁) = low_lead w 0x5c (y ∷ l) s (omega arith) u in
    let u₂ = (low_lead Lead y l lead_reached h.low u₁).1 in
    let e = chars_short y l h.other in
    let d = decode_more (0x5c ∷ y ∷ l) l e in
    let v = (low_lead w (short_of y) (decode l) s h.means (rw d at f)).1 in
    refuses_not (0x5c ∷ y ∷ l) l e (few_surrogate (short_of y) (omega (arith, h.means))) (ih u₂ v)

-- a character of an escape, of a code point n, before m
step_code : (l m : List ℕ) (n k : ℕ) (w : Want) → w ≡ Lead → chars l ≡ record { code = n; raw = false; width = k } ∷ chars m → Fine w (decode l)
    → (Fine Lead (decode m) → refuses m ≡ false) → refuses l ≡ false
unfolding char_bytes
step_code l m n k w z e f ih =
    let d = decode_more l m e in
    let (a, b) = code_utf8 n (decode m) (rw (d, z) at f) in
    refuses_not l m e a (ih b)

module _ (a b c d : ℕ) (ha : a < 128) (hb : b < 128) (hc : c < 128) (hd : d < 128) (w : Want) (v : Reached w) where
  abbrev Rest : List ℕ → Type 0
  Rest l = (m : List ℕ) → length m ≤ length l → Spelling m → utf8_from Lead m ≡ true → Fine Lead (decode m) → refuses m ≡ false

  step_pair : {l : List ℕ} → Spelling l → is_pair (four a b c d) (get_or l 0 0) (get_or l 1 0) (four_at l 2) ≡ true → Rest l
      → utf8_from w (0x5c ∷ 0x75 ∷ a ∷ b ∷ c ∷ d ∷ l) ≡ true → Fine w (decode (0x5c ∷ 0x75 ∷ a ∷ b ∷ c ∷ d ∷ l)) → refuses (0x5c ∷ 0x75 ∷ a ∷ b ∷ c ∷ d ∷ l) ≡ false
  unfolding four_at
  step_pair end e ih u f = let p = paired _ _ _ _ e in absurd (omega (arith, p.slash))
  step_pair (plain n s) e ih u f = let p = paired _ _ _ _ e in absurd (n p.slash)
  step_pair (short y s) e ih u f = let p = paired _ _ _ _ e in absurd (y.other p.letter)
  step_pair (code {a = i} {b = j} {c = x} {d = y} {l = m} hi hj hx hy s) e ih u f =
      let (z, u₁) = six_lead ha hb hc hd w (0x5c ∷ 0x75 ∷ i ∷ j ∷ x ∷ y ∷ m) v u in
      let u₂ = (six_lead hi hj hx hy Lead m lead_reached u₁).1 in
      step_code _ m (pair_of (four a b c d) (four i j x y)) 12 w z (chars_pair a b c d i j x y m e) f (λ g. ih m (omega arith) s u₂ g)

  step_escape : {l : List ℕ} → Spelling l → Rest l → utf8_from w (0x5c ∷ 0x75 ∷ a ∷ b ∷ c ∷ d ∷ l) ≡ true → Fine w (decode (0x5c ∷ 0x75 ∷ a ∷ b ∷ c ∷ d ∷ l))
      → refuses (0x5c ∷ 0x75 ∷ a ∷ b ∷ c ∷ d ∷ l) ≡ false
  step_escape {l} s ih u f = go (is_pair (four a b c d) (get_or l 0 0) (get_or l 1 0) (four_at l 2)) refl
    where
      go : (t : Bool) → is_pair (four a b c d) (get_or l 0 0) (get_or l 1 0) (four_at l 2) ≡ t → refuses (0x5c ∷ 0x75 ∷ a ∷ b ∷ c ∷ d ∷ l) ≡ false
      go true e = step_pair s e ih u f
      go false e =
          let (z, u₁) = six_lead ha hb hc hd w l v u in
          step_code _ l (four a b c d) 6 w z (chars_one a b c d l e) f (λ g. ih l (omega arith) s u₁ g)

abbrev Upto : ℕ → Type 0
Upto k = (l : List ℕ) → length l ≤ k → Spelling l → (w : Want) → Reached w → utf8_from w l ≡ true → Fine w (decode l) → refuses l ≡ false

none_refused : refuses [] ≡ false
unfolding refuses any chars_from
none_refused = refl

longer : (k : ℕ) → Upto k → Upto (suc k)
longer k ih l h end w v u f = none_refused
longer k ih l h (plain {x = x} {l = m} n s) w v u f = step_plain x m n w v u f (λ e g. ih m (omega arith) s (next_want w x) (next_reached w x v) e g)
longer k ih l h (short {y = y} {l = m} t s) w v u f = step_short y m t w v u f (λ e g. ih m (omega arith) s Lead lead_reached e g)
longer k ih l h (code {a = a} {b = b} {c = c} {d = d} {l = m} ha hb hc hd s) w v u f =
    step_escape a b c d ha hb hc hd w v s (λ i g t e j. ih i (omega arith) t Lead lead_reached e j) u f

shortest : Upto 0
shortest [] h s w v u f = none_refused
shortest (x ∷ l) h s w v u f = absurd (omega arith)

upto : (k : ℕ) → Upto k
upto zero = shortest
upto (suc k) = longer k (upto k)

-- the theorem
pub not_refused : (l : List ℕ) → is_utf8 l ≡ true → is_spelling l ≡ true → is_string_bytes (decode l) ≡ true → refuses l ≡ false
unfolding is_utf8 is_string_bytes
not_refused l u s e = upto (length l) l (omega arith) (is_spelling_lem l s) Lead lead_reached u e
