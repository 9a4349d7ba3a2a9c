-- The first space, the loop over a line's fields, and the gap before a field that is written.
use Rattle.std.specs.Prelude.{Some, None}
use mathlib.Core.Bool.{Bool, true, false, cond}
use mathlib.Core.Path.{◌≡◌, refl, sym, ap, ◌∙◌}
use mathlib.Core.List.{List, [], ◌∷◌}
use Prim.Native.Nat.{ℕ, zero, suc, ◌+◌, ◌-◌, ◌≤◌, ◌<◌}
use native.Mathlib.Omega.{arith}
use Rattle.std.specs.List.{position, position_or_len}
use Rattle.std.specs.Option.{unwrap_or}
use Rattle.std.proofs.lemmas.List.Recursion.{is_position_or_len}
use borrow.Author.Tests.{ne_eqb, ltb-false}
use lib.Dec.{eqb, ltb}
use lib.ListN.{length}
use Rattle.wire.specs.Put.{Puts}
use Rattle.wire.proofs.Laws.{puts_none}
use Rattle.fields.specs.Line.{space_in, rest_of_line, fields_from, gap_of}

-- ---- the first space, as std looks for it
space_first : (l : List ℕ) → space_in l ≡ position_or_len (λ b. eqb b 32) l
unfolding space_in
space_first = is_position_or_len space_in (λ b. eqb b 32) refl (λ b l. let e : suc (space_in l) ≡ 1 + space_in l = omega arith in ap (λ (n : ℕ). cond (eqb b 32) 0 n) e)

space_within : (l : List ℕ) → space_in l ≤ length l
unfolding space_in
space_within [] = omega arith
space_within (b ∷ l) = go (eqb b 32) (space_within l)
  where
    go : (x : Bool) → space_in l ≤ length l → cond x 0 (suc (space_in l)) ≤ suc (length l)
    go true h = omega arith
    go false h = omega arith

at_or_end : (a m : ℕ) → a ≤ m → unwrap_or (cond (ltb a m) (Some a) None) m ≡ a
at_or_end a m h = go (ltb a m) refl
  where
    go : (x : Bool) → ltb a m ≡ x → unwrap_or (cond x (Some a) None) m ≡ a
    go true q = refl
    go false q = let k : m ≤ a = ltb-false a m q in omega arith

pub space_found : (l : List ℕ) {n : ℕ} → n ≡ unwrap_or (position (λ b. eqb b 32) l) (length l) → n ≡ space_in l
space_found l e =
    let h : position_or_len (λ b. eqb b 32) l ≤ length l = rw (← space_first l) (space_within l) in
    e ∙ at_or_end (position_or_len (λ b. eqb b 32) l) (length l) h ∙ sym (space_first l)

-- ---- a field less to pass
pub from_turn : (k : ℕ) (l : List ℕ) → 0 < k → fields_from k l ≡ fields_from (k - 1) (rest_of_line l)
unfolding fields_from
from_turn zero l h = absurd (omega arith)
from_turn (suc k) l h = let e : suc k - 1 ≡ k = omega arith in rw e

pub from_end : (k : ℕ) (l : List ℕ) → k ≤ 0 → fields_from k l ≡ l
unfolding fields_from
from_end zero l h = refl
from_end (suc k) l h = absurd (omega arith)

-- ---- the gap before a field
pub gap_none : (d : List ℕ) (at : ℕ) → at ≡ 0 → Puts d at (gap_of at) 0 d
unfolding gap_of
gap_none d at e = rw e (puts_none d 0 (omega arith))

pub gap_some : (at : ℕ) → (at ≡ 0 → ⊥) → gap_of at ≡ 32 ∷ []
unfolding gap_of
gap_some at e = rw (ne_eqb at 0 e)
