-- The reason of a refusal: no byte of it is escaped, and between its quotes it has at most 29 bytes.
use Rattle.std.specs.Prelude.{Option, Some, None}
use mathlib.Core.Path.{◌≡◌, refl, ap, ◌∙◌}
use mathlib.Core.Bool.{Bool, true, false, not, ◌&&◌}
use mathlib.Core.List.{List, [], ◌∷◌, ◌++◌, append_assoc}
use Prim.Native.Nat.{ℕ, zero, suc, ◌+◌, ◌/◌, ◌%◌, ◌≤◌, ◌<◌}
use native.Mathlib.Omega.{arith}
use borrow.Author.Tests.{eqb-true, eqb-false, leb-true, ne_eqb, not-true}
use lib.Dec.{eqb, leb, lit<}
use lib.ListN.{length, get_or, length-append}
use Rattle.wire.specs.Ascii.{ascii}
use Rattle.wire.specs.Bytes.{is_control, has_control}
use Rattle.wire.specs.Escape.{letter_of, esc_one, escape}
use Rattle.wire.proofs.Escapes.{control_high}
use Rattle.wire.proofs.Json.{json_same}
use Rattle.numeral.specs.Decimal.{digits}
use Rattle.numeral.proofs.Digits.{digits_one, digits_split, by_digits, digits_few}
use Rattle.shape.specs.declared.Refusal.{Refusal}
use Rattle.shape.specs.Offsets.{offset_for, refusal_for}
use Rattle.shape.proofs.Offsets.{offset_plain, offset_for_within}
use Rattle.text.specs.Event.{all}
use Rattle.text.proofs.Pieces.{both}
use Rattle.event.proofs.Forms.{form_quoted}
use Rattle.reply.specs.Replies.{string_json, reasons, reason_of, offset_text, refusal_reason}

-- ---- "all else is verbatim": bytes that have no escape and are no control characters
abbrev is_verbatim : ℕ → Bool
is_verbatim b = eqb (letter_of b) 0 && not (is_control b)

verbatim_same : (l : List ℕ) → all is_verbatim l ≡ true → (escape l ≡ l) × (has_control l ≡ false)
unfolding all escape esc_one
verbatim_same [] h = (refl, refl)
verbatim_same (b ∷ l) h =
    let (p, q) = both (is_verbatim b) _ h in
    let (u, v) = both (eqb (letter_of b) 0) _ p in
    let (e, n) = verbatim_same l q in
    (rw (u, e), rw (not-true (is_control b) v, n))

string_verbatim : (v : List ℕ) → all is_verbatim v ≡ true → string_json v ≡ 34 ∷ (v ++ (34 ∷ []))
unfolding string_json
string_verbatim v h = let (e, n) = verbatim_same v h in form_quoted true v ∙ rw (e, json_same v n)

verbatim_append : (l m : List ℕ) → all is_verbatim l ≡ true → all is_verbatim m ≡ true → all is_verbatim (l ++ m) ≡ true
unfolding all
verbatim_append [] m h k = k
verbatim_append (b ∷ l) m h k = let (p, q) = both (is_verbatim b) _ h in rw (p, verbatim_append l m q k)

-- ---- digits are such
digit_verbatim : (b : ℕ) → 48 ≤ b → b ≤ 57 → is_verbatim b ≡ true
unfolding letter_of
digit_verbatim b h k =
    rw (
      control_high b (omega arith),
      ne_eqb b 0x0a (λ q. omega arith),
      ne_eqb b 0x22 (λ q. omega arith),
      ne_eqb b 0x5c (λ q. omega arith),
      ne_eqb b 0x0d (λ q. omega arith),
      ne_eqb b 0x09 (λ q. omega arith),
      ne_eqb b 0x08 (λ q. omega arith),
      ne_eqb b 0x0c (λ q. omega arith),
    )

digits_verbatim : (n : ℕ) → all is_verbatim (digits n) ≡ true
unfolding all
digits_verbatim = by_digits (λ n. all is_verbatim (digits n) ≡ true) one more
  where
    one : (n : ℕ) → n < 10 → all is_verbatim (digits n) ≡ true
    one n h = rw (digits_one n h, digit_verbatim (48 + n) (omega arith) (omega arith))

    more : (n : ℕ) → 10 ≤ n → all is_verbatim (digits (n / 10)) ≡ true → all is_verbatim (digits n) ≡ true
    more n h e = rw (digits_split n h) (verbatim_append (digits (n / 10)) ((48 + n % 10) ∷ []) e (rw (digit_verbatim (48 + n % 10) (omega arith) (omega arith))))

-- ---- what holds of every row's text
entry : (f : List ℕ → Bool) (ls : List (List ℕ)) (r : ℕ) → f [] ≡ true → all f ls ≡ true → f (get_or ls r []) ≡ true
unfolding all
entry f [] r z h = z
entry f (l ∷ ls) zero z h = (both (f l) _ h).0
entry f (l ∷ ls) (suc r) z h = entry f ls r z (both (f l) _ h).1

row_verbatim : (r : ℕ) → all is_verbatim (reason_of r) ≡ true
unfolding reason_of all letter_of
row_verbatim r = entry (all is_verbatim) reasons r refl refl

pub row_short : (r : ℕ) → length (reason_of r) ≤ 27
unfolding reason_of all
row_short r = leb-true (length (reason_of r)) 27 (entry (λ l. leb (length l) 27) reasons r refl refl)

-- ---- a reason
offset_verbatim : (x : Option ℕ) → all is_verbatim (offset_text x) ≡ true
unfolding all letter_of
offset_verbatim None = refl
offset_verbatim (Some p) = verbatim_append (ascii " at ") (digits p) refl (digits_verbatim p)

module _ (x : Refusal) where
  pub reason_json : string_json (refusal_reason x) ≡ (34 ∷ reason_of x.row) ++ (offset_text x.offset ++ (34 ∷ []))
  reason_json =
      string_verbatim (refusal_reason x) (verbatim_append (reason_of x.row) (offset_text x.offset) (row_verbatim x.row) (offset_verbatim x.offset))
      ∙ ap (34 ∷◌) (append_assoc (reason_of x.row) (offset_text x.offset) (34 ∷ []))

  pub reason_length : length (string_json (refusal_reason x)) ≡ length (reason_of x.row) + length (offset_text x.offset) + 2
  reason_length = ap length reason_json ∙ simp length-append (omega arith)

-- a message's offset goes with rows 6 and 7, and has at most five digits
pub reason_short : (m : List ℕ) (r : ℕ) → length (string_json (refusal_reason (refusal_for m r))) ≤ 29
unfolding reason_of
reason_short m r = go (offset_for m r) refl
  where
    digits_5 : {p : ℕ} → offset_for m r ≡ Some p → length (digits p) ≤ 5
    digits_5 {p} e = let (h, k) = offset_for_within m r e in digits_few 5 p (lit< tt) (omega arith)

    short : {p : ℕ} → offset_for m r ≡ Some p → (six seven : Bool) → eqb r 6 ≡ six → eqb r 7 ≡ seven → length (reason_of r) ≤ 15
    short e true seven a b = rw (eqb-true r 6 a) (omega arith)
    short e false true a b = rw (eqb-true r 7 b) (omega arith)
    short e false false a b = absurd (let y = offset_plain m r (eqb-false r 6 a) (eqb-false r 7 b) in let z : ◌≡◌ {A = ℕ} 0 1 = cc in omega arith)

    go : (x : Option ℕ) → offset_for m r ≡ x → length (string_json (refusal_reason (refusal_for m r))) ≤ 29
    go None e = omega (arith, reason_length (refusal_for m r), ap (λ y. length (offset_text y)) e, row_short r)
    go (Some p) e =
        omega (
          arith,
          reason_length (refusal_for m r),
          ap (λ y. length (offset_text y)) e,
          length-append (ascii " at ") (digits p),
          digits_5 e,
          short e (eqb r 6) (eqb r 7) refl refl,
        )
