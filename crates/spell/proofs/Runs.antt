-- Runs of characters that stand in the escaped text as in the spelling.
use mathlib.Core.Bool.{Bool, true, false, cond, not}
use mathlib.Core.Logic.{◌⊎◌, inl, inr}
use mathlib.Core.Path.{◌≡◌, refl, sym, ◌∙◌, ap}
use mathlib.Core.List.{List, [], ◌∷◌, ◌++◌, append_assoc}
use Prim.Native.Nat.{ℕ, suc, ◌+◌, ◌-◌, ◌≤◌, ◌<◌}
use native.Mathlib.Decide.{dec_le}
use native.Mathlib.Omega.{arith}
use native.Mathlib.Numerals.{add-one}
use borrow.Author.Tests.{ne_eqb}
use lib.Dec.{eqb, lit≤}
use lib.ListN.{length, get_or, take, drop, length-append, get_or-eq_default}
use lib.Seq.{drop-cons, drop-drop, take-add}
use Rattle.wire.specs.Escape.{letter_of, esc_one, escape}
use Rattle.wire.proofs.Escapes.{plain}
use Rattle.spell.specs.Spell.{short_of}
use Rattle.spell.specs.Inner.{left_of, Within, Stays, Same}
use Rattle.spell.proofs.Chars.{step_byte, step_short}
use Rattle.spell.proofs.Loops.{escape_turn}

is_yes : (r : Bool) → not r ≡ false → r ≡ true
is_yes true e = refl
is_yes false e = sym e

pub stays_no : (y : ℕ) → Stays y false
stays_no y = record { other = λ e. absurd (no e); some = λ e. absurd (no e); pair = λ e. absurd (no e) }
  where
    no : false ≡ true → ⊥
    no e = let z : ◌≡◌ {A = ℕ} 0 1 = cc in omega arith

pub stays_yes : (y : ℕ) → (y ≡ 34) ⊎ ((y ≡ 92) ⊎ ((y ≡ 98) ⊎ ((y ≡ 102) ⊎ ((y ≡ 110) ⊎ ((y ≡ 114) ⊎ (y ≡ 116)))))) → Stays y true
unfolding esc_one short_of letter_of
stays_yes y (inl e) = rw e (record { other = λ _ e. omega arith; some = λ _. omega arith; pair = λ _. refl })
stays_yes y (inr (inl e)) = rw e (record { other = λ _ e. omega arith; some = λ _. omega arith; pair = λ _. refl })
stays_yes y (inr (inr (inl e))) = rw e (record { other = λ _ e. omega arith; some = λ _. omega arith; pair = λ _. refl })
stays_yes y (inr (inr (inr (inl e)))) = rw e (record { other = λ _ e. omega arith; some = λ _. omega arith; pair = λ _. refl })
stays_yes y (inr (inr (inr (inr (inl e))))) = rw e (record { other = λ _ e. omega arith; some = λ _. omega arith; pair = λ _. refl })
stays_yes y (inr (inr (inr (inr (inr (inl e)))))) = rw e (record { other = λ _ e. omega arith; some = λ _. omega arith; pair = λ _. refl })
stays_yes y (inr (inr (inr (inr (inr (inr e)))))) = rw e (record { other = λ _ e. omega arith; some = λ _. omega arith; pair = λ _. refl })

-- a byte that has no letter
pub no_letter : (b : ℕ) → 0x20 ≤ b → (b ≡ 0x22 → ⊥) → (b ≡ 0x5c → ⊥) → letter_of b ≡ 0
unfolding letter_of
no_letter b h q s =
    rw (ne_eqb b 0x0a (λ e. omega arith), ne_eqb b 0x22 q, ne_eqb b 0x5c s, ne_eqb b 0x0d (λ e. omega arith), ne_eqb b 0x09 (λ e. omega arith), ne_eqb b 0x08 (λ e. omega arith), ne_eqb b 0x0c (λ e. omega arith))

-- what stands at a place that holds no 0 stands in the list
pub stands : (p : List ℕ) (n : ℕ) → 0 < get_or p n 0 → n < length p
stands p n h = go (dec_le (length p) n)
  where
    go : Dec (length p ≤ n) → n < length p
    go (yes l) = absurd (omega (arith, get_or-eq_default p 0 l))
    go (no l) = omega arith

pub same_start : (p : List ℕ) (i : ℕ) → i ≤ length p → Same p i i
same_start p i h = let e : i - i ≡ 0 = omega arith in record { from = omega arith; inside = h; is = λ k w. rw e; within = λ k w. w }

-- a run that goes on by w bytes
same_more : {p : List ℕ} {i n : ℕ} (w : ℕ) → Same p i n → n + w ≤ length p
    → ((k : ℕ) → Within p n k → escape (left_of p n k) ≡ take w (drop n p) ++ escape (left_of p (n + w) k))
    → ((k : ℕ) → Within p n k → Within p (n + w) k) → Same p i (n + w)
same_more {p} {i} {n} w s h f g =
    let a : n + w - i ≡ (n - i) + w = omega (arith, s.from) in
    let b : i + (n - i) ≡ n = omega (arith, s.from) in
    let t : take (n + w - i) (drop i p) ≡ take (n - i) (drop i p) ++ take w (drop n p) = rw (a, take-add (n - i) w (drop i p), drop-drop, b) in
    record {
      from = omega (arith, s.from);
      inside = h;
      is = λ k v. s.is k v ∙ ap (◌++◌ (take (n - i) (drop i p))) (f k (s.within k v)) ∙ sym (append_assoc (take (n - i) (drop i p)) (take w (drop n p)) (escape (left_of p (n + w) k))) ∙ rw t;
      within = λ k v. g k (s.within k v);
    }

module _ {p : List ℕ} {i n : ℕ} (s : Same p i n) (h : n < length p) where
  pub same_byte : 0x20 ≤ get_or p n 0 → (get_or p n 0 ≡ 0x22 → ⊥) → (get_or p n 0 ≡ 0x5c → ⊥) → Same p i (n + 1)
  same_byte low quote slash =
      let one : take 1 (drop n p) ≡ get_or p n 0 ∷ [] = rw (drop-cons p n 0 h) in
      let e = plain (get_or p n 0) 0 (sym (no_letter (get_or p n 0) low quote slash)) refl in
      same_more 1 s (omega arith) (λ k w. escape_turn (step_byte p n slash k h w).left ∙ rw (e, one)) (λ k w. (step_byte p n slash k h w).within)

  pub same_pair : {y : ℕ} {r : Bool} → get_or p n 0 ≡ 0x5c → y ≡ get_or p (n + 1) 0 → Stays y r → not r ≡ false → Same p i (n + 2)
  same_pair {y} {r} slash q v f =
      let e = is_yes r f in
      let l = stands p (n + 1) (rw q at (v.some e)) in
      let l' : suc n < length p = omega arith in
      let u = rw q at (v.other e) in
      let two : take 2 (drop n p) ≡ 0x5c ∷ get_or p (n + 1) 0 ∷ [] = rw (add-one n, drop-cons p n 0 h, drop-cons p (suc n) 0 l', slash) in
      let m : esc_one (short_of (get_or p (n + 1) 0)) ≡ 0x5c ∷ get_or p (n + 1) 0 ∷ [] = rw q at (v.pair e) in
      same_more 2 s (omega arith) (λ k w. escape_turn (step_short p n slash u k h w).left ∙ rw (m, two)) (λ k w. (step_short p n slash u k h w).within)

-- every character is escaped to something
pub esc_some : (b : ℕ) → 1 ≤ length (esc_one b)
unfolding esc_one
esc_some b = go (eqb (letter_of b) 0)
  where
    go : (t : Bool) → 1 ≤ length (cond t (b ∷ []) (92 ∷ letter_of b ∷ []))
    go true = lit≤ tt
    go false = lit≤ tt

-- a byte leaves less
pub byte_less : {k l : List ℕ} {x : ℕ} → k ≡ x ∷ l → length (escape l) < length (escape k)
byte_less {k} {l} {x} q = let e = simp length-append at (ap length (escape_turn q)) in omega (arith, esc_some x)
