-- Laws of what is escaped as it stands in a reply: piece by piece, how long it is, what stays, and turns of the loops.
use mathlib.Core.Bool.{Bool, true, false, cond, not, ◌&&◌, ◌||◌, false≢true}
use mathlib.Core.Path.{◌≡◌, refl, sym, ap, ◌∙◌}
use mathlib.Core.List.{List, [], ◌∷◌, ◌++◌, append_assoc}
use Prim.Native.Nat.{ℕ, suc, ◌+◌, ◌*◌, ◌/◌, ◌%◌, ◌≤◌, ◌<◌}
use native.Mathlib.Numerals.{add-one}
use native.Mathlib.Omega.{arith}
use borrow.Author.Tests.{ne_eqb, lt-ltb, ltb-true}
use lib.Dec.{eqb, ltb}
use lib.ListN.{length, drop, get_or, length-append, drop_of_length-le}
use lib.Seq.{drop-cons}
use Rattle.wire.specs.Ascii.{ascii}
use Rattle.wire.specs.Bytes.{is_control, has_control, hex_digit}
use Rattle.wire.specs.Put.{Puts}
use Rattle.wire.specs.Escape.{letter_of, esc_one, escape, json_one, json_of, control_count}
use Rattle.wire.proofs.Laws.{puts_then}
use Rattle.wire.proofs.Cases.{no_left, no_right}

-- ---- one byte
module _ (b : ℕ) where
  pub json_kept : is_control b ≡ false → json_one b ≡ b ∷ []
  unfolding json_one
  json_kept e = rw e

  pub json_spelled : is_control b ≡ true → json_one b ≡ ascii "\\u00" ++ (hex_digit (b / 16) ∷ hex_digit (b % 16) ∷ [])
  unfolding json_one
  json_spelled e = rw e

  pub one_length : length (json_one b) ≡ 1 + 5 * control_count (b ∷ [])
  unfolding json_one control_count
  one_length = go (is_control b)
    where
      go : (t : Bool) → length (cond t (ascii "\\u00" ++ (hex_digit (b / 16) ∷ hex_digit (b % 16) ∷ [])) (b ∷ [])) ≡ 1 + 5 * cond t 1 0
      go true = refl
      go false = refl

-- a control character has no escape, and the letter of an escape is none
pub control_low : (b : ℕ) → is_control b ≡ true → b < 0x20
control_low b e = go (ltb b 0x20) _ refl e
  where
    go : (t r : Bool) → ltb b 0x20 ≡ t → (t && r) ≡ true → b < 0x20
    go true r h q = ltb-true b 0x20 h
    go false r h q = absurd (false≢true q)

pub control_own : (b : ℕ) → is_control b ≡ true → letter_of b ≡ 0
unfolding letter_of
control_own b e =
    let h = control_low b e in
    go (eqb b 0x0a) (eqb b 0x22) (eqb b 0x5c) (eqb b 0x0d) (eqb b 0x09) (eqb b 0x08) (eqb b 0x0c) (ne_eqb b 0x22 (λ q. omega arith))
    (ne_eqb b 0x5c (λ q. omega arith)) (rw (lt-ltb b 0x20 h) at e)
  where
    go : (n q s r t u f : Bool) → q ≡ false → s ≡ false → (not u && (not t && (not n && (not f && not r)))) ≡ true
        → ◌≡◌ {A = ℕ} (cond n 110 (cond q 34 (cond s 92 (cond r 114 (cond t 116 (cond u 98 (cond f 102 0))))))) 0
    go n true s r t u f x y z = absurd (false≢true (sym x))
    go n false true r t u f x y z = absurd (false≢true (sym y))
    go n false false r t true f x y z = absurd (false≢true z)
    go n false false r true false f x y z = absurd (false≢true z)
    go true false false r false false f x y z = absurd (false≢true z)
    go false false false r false false true x y z = absurd (false≢true z)
    go false false false true false false false x y z = absurd (false≢true z)
    go false false false false false false false x y z = refl

pub letter_high : (b : ℕ) → eqb (letter_of b) 0 ≡ false → is_control (letter_of b) ≡ false
unfolding letter_of
letter_high b = go (eqb b 0x0a) (eqb b 0x22) (eqb b 0x5c) (eqb b 0x0d) (eqb b 0x09) (eqb b 0x08) (eqb b 0x0c)
  where
    go : (n q s r t u f : Bool) → eqb (cond n 110 (cond q 34 (cond s 92 (cond r 114 (cond t 116 (cond u 98 (cond f 102 0))))))) 0 ≡ false
        → is_control (cond n 110 (cond q 34 (cond s 92 (cond r 114 (cond t 116 (cond u 98 (cond f 102 0))))))) ≡ false
    go true q s r t u f e = refl
    go false true s r t u f e = refl
    go false false true r t u f e = refl
    go false false false true t u f e = refl
    go false false false false true u f e = refl
    go false false false false false true f e = refl
    go false false false false false false true e = refl
    go false false false false false false false e = absurd (false≢true (sym e))

pub own_escape : (b : ℕ) → is_control b ≡ true → esc_one b ≡ b ∷ []
unfolding esc_one
own_escape b e = rw (control_own b e)

-- ---- lists
pub json_append : (a b : List ℕ) → json_of (a ++ b) ≡ json_of a ++ json_of b
unfolding json_of
json_append [] b = refl
json_append (x ∷ a) b = ap (json_one x ++◌) (json_append a b) ∙ sym (append_assoc (json_one x) (json_of a) (json_of b))

pub json_one_lem : (b : ℕ) → json_of (b ∷ []) ≡ json_one b
unfolding json_of
json_one_lem b = append_empty (json_one b)
  where
    append_empty : (l : List ℕ) → l ++ [] ≡ l
    append_empty [] = refl
    append_empty (x ∷ l) = ap (x ∷◌) (append_empty l)

pub json_same : (l : List ℕ) → has_control l ≡ false → json_of l ≡ l
unfolding json_of
json_same [] h = refl
json_same (x ∷ l) h = rw (json_kept x (no_left (is_control x) (has_control l) h), json_same l (no_right (is_control x) (has_control l) h))

pub count_none : (l : List ℕ) → has_control l ≡ false → control_count l ≡ 0
unfolding control_count
count_none [] h = refl
count_none (x ∷ l) h = rw (no_left (is_control x) (has_control l) h, count_none l (no_right (is_control x) (has_control l) h))

pub none_has : (l : List ℕ) → control_count l ≡ 0 → has_control l ≡ false
unfolding control_count
none_has [] h = refl
none_has (x ∷ l) h = go (is_control x) h (none_has l)
  where
    go : (t : Bool) → cond t (suc (control_count l)) (control_count l) ≡ 0 → (control_count l ≡ 0 → has_control l ≡ false) → (t || has_control l) ≡ false
    go true q f = absurd (omega arith)
    go false q f = f q

pub count_cons : (x : ℕ) (l : List ℕ) → control_count (x ∷ l) ≡ control_count (x ∷ []) + control_count l
unfolding control_count
count_cons x l = go (is_control x)
  where
    go : (t : Bool) → cond t (suc (control_count l)) (control_count l) ≡ cond t 1 0 + control_count l
    go true = omega arith
    go false = omega arith

count_nil : control_count [] ≡ 0
unfolding control_count
count_nil = refl

pub count_one : (x : ℕ) → control_count (x ∷ []) ≤ 1
unfolding control_count
count_one x = go (is_control x)
  where
    go : (t : Bool) → cond t 1 0 ≤ 1
    go true = omega arith
    go false = omega arith

pub count_append : (a b : List ℕ) → control_count (a ++ b) ≡ control_count a + control_count b
count_append [] b = omega (arith, count_nil)
count_append (x ∷ a) b = omega (arith, count_cons x (a ++ b), count_cons x a, count_append a b)

pub count_most : (l : List ℕ) → control_count l ≤ length l
unfolding control_count
count_most [] = omega arith
count_most (x ∷ l) = go (is_control x) (count_most l)
  where
    go : (t : Bool) → control_count l ≤ length l → cond t (suc (control_count l)) (control_count l) ≤ suc (length l)
    go true h = omega arith
    go false h = omega arith

-- five bytes more for each
pub json_length : (l : List ℕ) → length (json_of l) ≡ length l + 5 * control_count l
unfolding json_of
json_length [] = omega (arith, count_nil)
json_length (x ∷ l) = omega (arith, length-append (json_one x) (json_of l), one_length x, json_length l, count_cons x l)

-- ---- escaped
-- one byte of a string: spelled out, or as in the text
pub json_escaped : (b : ℕ) → is_control b ≡ false → json_of (esc_one b) ≡ esc_one b
unfolding esc_one
json_escaped b e = go (eqb (letter_of b) 0) refl
  where
    go : (t : Bool) → eqb (letter_of b) 0 ≡ t → json_of (cond t (b ∷ []) (92 ∷ letter_of b ∷ [])) ≡ cond t (b ∷ []) (92 ∷ letter_of b ∷ [])
    go true q = json_same (b ∷ []) (rw e)
    go false q = json_same (92 ∷ letter_of b ∷ []) (rw (letter_high b q))

escape_none : (b : ℕ) → is_control b ≡ false → control_count (esc_one b) ≡ 0
unfolding esc_one
escape_none b e = go (eqb (letter_of b) 0) refl
  where
    go : (t : Bool) → eqb (letter_of b) 0 ≡ t → control_count (cond t (b ∷ []) (92 ∷ letter_of b ∷ [])) ≡ 0
    go true q = count_none (b ∷ []) (rw e)
    go false q = count_none (92 ∷ letter_of b ∷ []) (rw (letter_high b q))

pub count_esc_one : (b : ℕ) → control_count (esc_one b) ≡ control_count (b ∷ [])
count_esc_one b = go (is_control b) refl
  where
    go : (t : Bool) → is_control b ≡ t → control_count (esc_one b) ≡ control_count (b ∷ [])
    go true e = rw (own_escape b e)
    go false e = escape_none b e ∙ sym (count_none (b ∷ []) (rw e))

pub count_escape : (l : List ℕ) → control_count (escape l) ≡ control_count l
unfolding escape
count_escape [] = refl
count_escape (x ∷ l) = omega (arith, count_append (esc_one x) (escape l), count_esc_one x, count_escape l, count_cons x l)

-- ---- turns of the loops: the byte at i, then the rest
module _ (s : List ℕ) (i : ℕ) where
  pub json_turn : i < length s → json_of (drop i s) ≡ json_one (get_or s i 0) ++ json_of (drop (i + 1) s)
  unfolding json_of
  json_turn h = rw (drop-cons s i 0 h, add-one i)

  pub json_none : length s ≤ i → json_of (drop i s) ≡ []
  unfolding json_of
  json_none h = rw (drop_of_length-le s h)

  pub count_turn : i < length s → control_count (drop i s) ≡ control_count (get_or s i 0 ∷ []) + control_count (drop (i + 1) s)
  count_turn h = ap control_count (drop-cons s i 0 h) ∙ rw (add-one i) (count_cons (get_or s i 0) (drop (suc i) s))

  pub count_end : length s ≤ i → control_count (drop i s) ≡ 0
  unfolding control_count
  count_end h = rw (drop_of_length-le s h)

-- ---- a byte put
module _ {d o : List ℕ} {i r : ℕ} (b : ℕ) where
  pub put_kept : is_control b ≡ false → Puts d i (b ∷ []) r o → Puts d i (json_one b) r o
  put_kept e p = rw (json_kept b e) p

  pub put_own : is_control b ≡ true → Puts d i (json_one b) r o → Puts d i (json_of (esc_one b)) r o
  put_own e p = rw (own_escape b e, json_one_lem b) p

  pub put_escape : is_control b ≡ false → Puts d i (esc_one b) r o → Puts d i (json_of (esc_one b)) r o
  put_escape e p = rw (json_escaped b e) p

pub put_same : {d l o : List ℕ} {i r : ℕ} → has_control l ≡ false → Puts d i l r o → Puts d i (json_of l) r o
put_same {l = l} e p = rw (json_same l e) p

pub put_spelled : {d o o' o'' : List ℕ} {i r r' r'' : ℕ} (b x y : ℕ) → is_control b ≡ true → x ≡ hex_digit (b / 16) → y ≡ hex_digit (b % 16)
    → Puts d i (ascii "\\u00") r o → Puts o r (x ∷ []) r' o' → Puts o' r' (y ∷ []) r'' o'' → Puts d i (json_one b) r'' o''
put_spelled b x y e f g p q t = rw (json_spelled b e, ← f, ← g) (puts_then p (puts_then q t))
