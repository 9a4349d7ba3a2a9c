-- Names: a condition's name is # and its letter.
use mathlib.Core.Path.{◌≡◌, refl, sym, ap, ◌∙◌}
use mathlib.Core.List.{List, [], ◌∷◌}
use mathlib.Core.Bool.{Bool, true, false, cond, ◌&&◌, ◌||◌}
use Prim.Native.Nat.{ℕ, suc, ◌+◌, ◌-◌, ◌≤◌, ◌<◌}
use native.Mathlib.Omega.{arith}
use borrow.Author.Tests.{eqb-true, eqb-false, leb-true, eq-eqb, ne_eqb}
use lib.Dec.{eqb, leb}
use lib.ListN.{length, get_or}
use Rattle.json_tree.specs.Grammar.{is_between}
use Rattle.wire.proofs.Bytes.{same_self}
use Rattle.wire.specs.Bytes.{same_bytes}
use Rattle.spell.specs.Spell.{char_of, chars_from, char_bytes, chars_bytes, decode}
use Rattle.shape.specs.Shape.{id_name, pubkey_name, created_at_name, kind_name, tags_name, content_name, ids_name}
use Rattle.shape.specs.Shape.{authors_name, kinds_name, since_name, until_name, limit_name, is_letter, is_condition}
use Rattle.shape.specs.Inner.{UNKNOWN, LOWER, UPPER, among, letter_slot, condition_slot}

pub no : {A : Type 0} → ◌≡◌ {A = ℕ} 0 1 → A
no e = absurd (omega arith)

pub and_left : (a b : Bool) → (a && b) ≡ true → a ≡ true
and_left true b e = refl
and_left false b e = e

pub and_right : (a b : Bool) → (a && b) ≡ true → b ≡ true
and_right true b e = e
and_right false b e = no cc

pub both_ways : (x y : Bool) → (x ≡ true → y ≡ true) → (y ≡ true → x ≡ true) → x ≡ y
both_ways true y f g = sym (f refl)
both_ways false true f g = g refl
both_ways false false f g = refl

-- ---- letters
pub letter_not : (b : ℕ) → is_letter b ≡ false → letter_slot b ≡ UNKNOWN
unfolding letter_slot
letter_not b e = go (is_between 97 122 b) (is_between 65 90 b) e
  where
    go : (x y : Bool) → (x || y) ≡ false → cond x (b - 97 + LOWER) (cond y (b - 65 + UPPER) UNKNOWN) ≡ UNKNOWN
    go true y e = no cc
    go false true e = no cc
    go false false e = refl

pub within_ends : (low high b : ℕ) → is_between low high b ≡ true → (low ≤ b) × (b ≤ high)
within_ends low high b q = (leb-true _ _ (and_left (leb low b) (leb b high) q), leb-true _ _ (and_right (leb low b) (leb b high) q))

-- a letter lies in one of two ranges
pub letter_range : (b : ℕ) → is_letter b ≡ true → (65 ≤ b) × (b ≤ 122) × (b ≡ 0x5c → ⊥)
letter_range b e = go (is_between 97 122 b) refl (is_between 65 90 b) refl e
  where
    go : (x : Bool) → is_between 97 122 b ≡ x → (y : Bool) → is_between 65 90 b ≡ y → (x || y) ≡ true → (65 ≤ b) × (b ≤ 122) × (b ≡ 0x5c → ⊥)
    go true p y q e = let w = within_ends 97 122 b p in (omega arith, omega arith, λ z. omega arith)
    go false p true q e = let w = within_ends 65 90 b q in (omega arith, omega arith, λ z. omega arith)
    go false p false q e = no cc

-- ---- conditions
pub condition_letter_lem : (b : ℕ) → letter_slot b ≡ condition_slot (35 ∷ b ∷ [])
unfolding condition_slot is_condition
condition_letter_lem b = go (is_letter b) refl
  where
    go : (x : Bool) → is_letter b ≡ x → letter_slot b ≡ cond x (letter_slot b) UNKNOWN
    go true e = refl
    go false e = letter_not b e

pub condition_is : (w : List ℕ) → is_condition w ≡ true → (w ≡ 35 ∷ get_or w 1 0 ∷ []) × (is_letter (get_or w 1 0) ≡ true)
unfolding is_condition
condition_is [] e = no cc
condition_is (a ∷ []) e = no cc
condition_is (a ∷ b ∷ []) e =
    let h = eqb-true a 35 (and_left (eqb a 35) (is_letter b) e) in
    (cc, and_right (eqb a 35) (is_letter b) e)
condition_is (a ∷ b ∷ c ∷ w) e =
    let l = eqb-true (suc (suc (suc (length w)))) 2 (and_left (eqb (suc (suc (suc (length w)))) 2) (eqb a 35 && is_letter b) e) in
    absurd (omega arith)

-- no letter from A to z fits
pub condition_none : (w : List ℕ) → ((k : ℕ) → 65 ≤ k → k < 123 → same_bytes w (35 ∷ k ∷ []) ≡ false) → UNKNOWN ≡ condition_slot w
unfolding condition_slot
condition_none w f = go (is_condition w) refl
  where
    go : (x : Bool) → is_condition w ≡ x → UNKNOWN ≡ cond x (letter_slot (get_or w 1 0)) UNKNOWN
    go true e =
        let c = condition_is w e in
        let r = letter_range (get_or w 1 0) c.1 in
        let f = f (get_or w 1 0) r.0 (omega arith) in
        let t = same_self w in
        no (let g : same_bytes w w ≡ same_bytes w (35 ∷ get_or w 1 0 ∷ []) = ap (same_bytes w) c.0 in cc)
    go false e = refl

-- one letter more that does not fit
pub one_more : (w : List ℕ) (b : ℕ) → ((k : ℕ) → 65 ≤ k → k < b → same_bytes w (35 ∷ k ∷ []) ≡ false) → same_bytes w (35 ∷ b ∷ []) ≡ false
    → (k : ℕ) → 65 ≤ k → k < b + 1 → same_bytes w (35 ∷ k ∷ []) ≡ false
one_more w b f e k h l = go (eqb k b) refl
  where
    go : (x : Bool) → eqb k b ≡ x → same_bytes w (35 ∷ k ∷ []) ≡ false
    go true q = rw (eqb-true k b q) e
    go false q = let n = eqb-false k b q in f k h (omega arith)

-- spelled plainly
plain_decodes : (b : ℕ) → (b ≡ 0x5c → ⊥) → decode (35 ∷ b ∷ []) ≡ 35 ∷ b ∷ []
unfolding decode chars_bytes chars_from char_of char_bytes
plain_decodes b m = rw (ne_eqb b 0x5c m)

pub condition_plain : (p : List ℕ) {x : ℕ} → length p ≡ 2 → get_or p 0 0 ≡ 35 → x ≡ get_or p 1 0 → (letter_slot x ≡ UNKNOWN → ⊥) → letter_slot x ≡ condition_slot (decode p)
condition_plain [] l h e n = absurd (omega arith)
condition_plain (a ∷ []) l h e n = absurd (omega arith)
condition_plain (a ∷ b ∷ c ∷ p) l h e n = absurd (omega arith)
condition_plain (a ∷ b ∷ []) {x} l h e n = rw (e, h, go (is_letter b) refl) (condition_letter_lem b)
  where
    go : (y : Bool) → is_letter b ≡ y → decode (35 ∷ b ∷ []) ≡ 35 ∷ b ∷ []
    go true q = plain_decodes b (letter_range b q).2
    go false q = absurd (n (rw e (letter_not b q)))

-- ---- one of six names
six : (a b c d e f : Bool) (x : ℕ) → ℕ
six a b c d e f x = cond a 0 (cond b 1 (cond c 2 (cond d 3 (cond e 4 (cond f 5 x)))))

six_or : (a b c d e f : Bool) (x : ℕ) → six a b c d e f x ≡ cond (eqb (six a b c d e f 6) 6) x (six a b c d e f 6)
unfolding six
six_or true b c d e f x = refl
six_or false true c d e f x = refl
six_or false false true d e f x = refl
six_or false false false true e f x = refl
six_or false false false false true f x = refl
six_or false false false false false true x = refl
six_or false false false false false false x = refl

-- k is the name that w is
module _ (w : List ℕ) (event : Bool) (x : ℕ) {k : ℕ} (e : k ≡ among w event 6) where
  are : among w event x ≡ cond (eqb k 6) x k
  unfolding six
  are =
      rw e
      (six_or (same_bytes w (cond event id_name ids_name)) (same_bytes w (cond event pubkey_name authors_name)) (same_bytes w (cond event created_at_name kinds_name))
      (same_bytes w (cond event kind_name since_name)) (same_bytes w (cond event tags_name until_name)) (same_bytes w (cond event content_name limit_name)) x)

  pub among_none : k ≡ 6 → x ≡ among w event x
  among_none z = sym (are ∙ rw (eq-eqb k 6 z))
