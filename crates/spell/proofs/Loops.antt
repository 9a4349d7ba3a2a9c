-- What a loop over the decoded bytes knows of the list left, an element a turn: a comparison, a count of characters,
-- hex, escapes, pairs of hex digits.
use mathlib.Core.Bool.{Bool, true, false, cond, not, ◌&&◌, and-true, and-false}
use mathlib.Core.Path.{◌≡◌, refl, sym, ◌∙◌, ap}
use mathlib.Core.List.{List, [], ◌∷◌, ◌++◌}
use Prim.Native.Nat.{ℕ, zero, suc, ◌+◌, ◌-◌, ◌*◌, ◌≤◌, ◌<◌}
use native.Mathlib.Omega.{arith}
use native.Mathlib.Numerals.{add-one, sub-one}
use borrow.Author.Tests.{eq-eqb, ne_eqb, eqb-true, eqb-false, not-true, not-false}
use lib.Dec.{eqb, eqb-suc-suc, eqb-suc-zero, eqb-zero-suc}
use lib.ListN.{length, get_or, drop, length-append}
use lib.Seq.{drop-cons}
use Rattle.std.specs.Prelude.{Option, None, Some, MatchOption, IfSome}
use Rattle.std.specs.Option.{is_some, option_eq}
use Rattle.wire.specs.Escape.{esc_one, escape, json_of, control_count}
use Rattle.wire.proofs.Escapes.{esc_two}
use Rattle.wire.proofs.Json.{count_cons, count_escape, none_has, json_append, json_same}
use Rattle.wire.specs.Bytes.{same_bytes, is_hex}
use Rattle.spell.specs.Spell.{hex_val, unhex, is_tail, points, all}

-- the elements from i on
pub byte_turn : (s : List ℕ) (i : ℕ) → i < length s → drop i s ≡ get_or s i 0 ∷ drop (i + 1) s
byte_turn s i h = rw (add-one, drop-cons s i 0)

-- one turn of a comparison
module _ {b : Bool} {k l : List ℕ} (inv : b ≡ same_bytes k l) where
  pub both_end : k ≡ [] → l ≡ [] → b ≡ true
  unfolding same_bytes
  both_end p q = inv ∙ rw (p, q)

  pub first_ends : {y : ℕ} {l' : List ℕ} → k ≡ [] → l ≡ y ∷ l' → b ≡ false
  unfolding same_bytes
  first_ends p q = inv ∙ rw (p, q)

  pub second_ends : {x : ℕ} {k' : List ℕ} → k ≡ x ∷ k' → l ≡ [] → b ≡ false
  unfolding same_bytes
  second_ends p q = inv ∙ rw (p, q)

  module _ {x y : ℕ} {k' l' : List ℕ} (p : k ≡ x ∷ k') (q : l ≡ y ∷ l') where
    pub differ : (x ≡ y → ⊥) → b ≡ false
    unfolding same_bytes
    differ n = inv ∙ rw (p, q, same_bytes, ne_eqb x y n)

    pub agree : x ≡ y → b ≡ same_bytes k' l'
    unfolding same_bytes
    agree e = inv ∙ rw (p, q, same_bytes, eq-eqb x y e)

-- one turn of a comparison where an iterator gives the first list: o is what it gave, and k' what it has left
module _ {b : Bool} (k l k' : List ℕ) (inv : b ≡ same_bytes k l) where
  pub given_end : l ≡ [] → (o : Option ℕ) → MatchOption o ((k ≡ []) × (k' ≡ [])) (λ x. k ≡ x ∷ k') → (r : Bool) → is_some o ≡ not r → r ≡ b
  given_end q None s true e = sym (both_end inv s.0 q)
  given_end q None s false e = absurd (let z : ◌≡◌ {A = ℕ} 0 1 = cc in omega arith)
  given_end q (Some x) s true e = absurd (let z : ◌≡◌ {A = ℕ} 0 1 = cc in omega arith)
  given_end q (Some x) s false e = sym (second_ends inv s q)

  module _ {y : ℕ} {l' : List ℕ} (q : l ≡ y ∷ l') where
    pub given_other : (o : Option ℕ) → MatchOption o ((k ≡ []) × (k' ≡ [])) (λ x. k ≡ x ∷ k') → not (option_eq eqb o (Some y)) ≡ true → false ≡ b
    given_other None s e = sym (first_ends inv s.0 q)
    given_other (Some x) s e = sym (differ inv s q (eqb-false x y (not-true _ e)))

    pub given_same : (o : Option ℕ) → MatchOption o ((k ≡ []) × (k' ≡ [])) (λ x. k ≡ x ∷ k') → not (option_eq eqb o (Some y)) ≡ false → b ≡ same_bytes k' l'
    given_same None s e = absurd (let z : ◌≡◌ {A = ℕ} 0 1 = cc in omega arith)
    given_same (Some x) s e = agree inv s q (eqb-true x y (not-false _ e))

-- and that the iterator may be asked again
pub given_some : (P : Type 0) (o : Option ℕ) (y : ℕ) → IfSome o (λ _. P) → not (option_eq eqb o (Some y)) ≡ false → P
given_some P None y s e = absurd (let z : ◌≡◌ {A = ℕ} 0 1 = cc in omega arith)
given_some P (Some x) y s e = s

-- one turn of the count of characters
pub points_few : (l : List ℕ) → points l ≤ length l
unfolding points
points_few [] = omega arith
points_few (x ∷ l) = go (is_tail x) (points_few l)
  where
    go : (b : Bool) → points l ≤ length l → cond b (points l) (suc (points l)) ≤ suc (length l)
    go true h = omega arith
    go false h = omega arith

module _ {x : ℕ} {k l : List ℕ} (p : k ≡ x ∷ l) where
  pub point_passed : is_tail x ≡ true → points k ≡ points l
  unfolding points
  point_passed e = rw (p, points, e)

  pub point_counted : is_tail x ≡ false → points k ≡ suc (points l)
  unfolding points
  point_counted e = rw (p, points, e)

pub point_end : {k : List ℕ} → k ≡ [] → points k ≡ 0
unfolding points
point_end e = rw e

-- one turn of the test for n characters of hex
module _ {b : Bool} (n : ℕ) {k : List ℕ} (inv : b ≡ (eqb (length k) n && all is_hex k)) where
  pub hex_end : k ≡ [] → b ≡ eqb n 0
  unfolding all
  hex_end p = inv ∙ rw p (and-true (eqb 0 n)) ∙ swap n
    where
      swap : (n : ℕ) → eqb 0 n ≡ eqb n 0
      swap zero = refl
      swap (suc n) = eqb-zero-suc n ∙ sym (eqb-suc-zero n)

  module _ {x : ℕ} {l : List ℕ} (p : k ≡ x ∷ l) where
    pub hex_long : n ≡ 0 → b ≡ false
    unfolding all
    hex_long z = inv ∙ rw (p, z, eqb-suc-zero (length l))

    pub hex_bad : is_hex x ≡ false → b ≡ false
    unfolding all
    hex_bad e = inv ∙ rw (p, all, e) (and-false (eqb (suc (length l)) n))

    pub hex_good : is_hex x ≡ true → (n ≡ 0 → ⊥) → b ≡ (eqb (length l) (n - 1) && all is_hex l)
    unfolding all
    hex_good e z = inv ∙ rw (p, all, e) (ap (λ (t : Bool). t && all is_hex l) (go n z))
      where
        go : (n : ℕ) → (n ≡ 0 → ⊥) → eqb (suc (length l)) n ≡ eqb (length l) (n - 1)
        go zero z = absurd (z refl)
        go (suc n) z = eqb-suc-suc (length l) n ∙ rw sub-one

-- one turn over what is to be escaped
pub escape_turn : {k l : List ℕ} {x : ℕ} → k ≡ x ∷ l → escape k ≡ esc_one x ++ escape l
unfolding escape
escape_turn e = rw e

pub escape_end : {k : List ℕ} → k ≡ [] → escape k ≡ []
unfolding escape
escape_end e = rw e

pub escape_few : (s : List ℕ) → length (escape s) ≤ 2 * length s
unfolding escape
escape_few [] = omega arith
escape_few (b ∷ s) = rw (length-append (esc_one b) (escape s)) (omega (arith, esc_two b, escape_few s))

-- one turn of the count of control characters
pub control_turn : {k l : List ℕ} {x : ℕ} → k ≡ x ∷ l → control_count k ≡ control_count (x ∷ []) + control_count l
control_turn {l = l} {x = x} e = rw e (count_cons x l)

pub control_end : {k : List ℕ} → k ≡ [] → control_count k ≡ 0
unfolding control_count
control_end e = rw e

-- one turn over what is to be escaped as in a reply
pub json_turn : {k l : List ℕ} {x : ℕ} → k ≡ x ∷ l → json_of (escape k) ≡ json_of (esc_one x) ++ json_of (escape l)
json_turn {l = l} {x = x} e = ap json_of (escape_turn e) ∙ json_append (esc_one x) (escape l)

pub json_end : {k : List ℕ} → k ≡ [] → json_of (escape k) ≡ []
unfolding json_of escape
json_end e = rw e

-- no control character: as in the text
pub json_plain : (l : List ℕ) → control_count l ≡ 0 → json_of (escape l) ≡ escape l
json_plain l e = json_same (escape l) (none_has (escape l) (count_escape l ∙ e))

-- one turn over pairs of hex digits: x is the pair, and l what follows it
pub unhex_turn : {k : List ℕ} (x l : List ℕ) → k ≡ x ++ l → length x ≡ 2 → unhex k ≡ ((hex_val (get_or x 0 0) * 16 + hex_val (get_or x 1 0)) ∷ []) ++ unhex l
unfolding unhex
unhex_turn x l e h = rw e (go x h)
  where
    go : (x : List ℕ) → length x ≡ 2 → unhex (x ++ l) ≡ ((hex_val (get_or x 0 0) * 16 + hex_val (get_or x 1 0)) ∷ []) ++ unhex l
    go [] h = absurd (omega arith)
    go (a ∷ []) h = absurd (omega arith)
    go (a ∷ b ∷ []) h = refl
    go (a ∷ b ∷ c ∷ x) h = absurd (omega arith)

pub unhex_none : (l : List ℕ) → length l < 2 → unhex l ≡ []
unfolding unhex
unhex_none [] h = refl
unhex_none (x ∷ []) h = refl
unhex_none (x ∷ y ∷ l) h = absurd (omega arith)
