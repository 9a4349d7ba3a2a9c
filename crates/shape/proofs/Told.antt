-- The row and the offset that a fault tells: the lowest row that holds, and the earliest of its places.
use Rattle.std.specs.Prelude.{Option, Some, None}
use mathlib.Core.Path.{◌≡◌, refl, ap, ◌∙◌}
use mathlib.Core.List.{List, [], ◌∷◌}
use mathlib.Core.Bool.{Bool, true, false, cond}
use Prim.Native.Nat.{ℕ, ◌+◌, ◌%◌, ◌≤◌, ◌<◌, min}
use native.Mathlib.Omega.{arith}
use borrow.Author.Tests.{ne_eqb, lt-ltb, le-ltb}
use lib.Dec.{eqb}
use Rattle.shape.specs.Offsets.{least_of, earliest}
use Rattle.shape.specs.Inner.{places, last_place, NUMBER, HEX, COUNT, no_fault, fault_row, fault_offset}
use Rattle.shape.proofs.Low.{placed_at, low, Lowest}
use Rattle.shape.proofs.Placed.{some}

-- the lowest of rows 4 to 8, 0 where none holds
abbrev pub row_by : (a b : Bool) (c d : List ℕ) (e : Bool) → ℕ
row_by a b c d e = cond a 4 (cond b 5 (cond (some c) 6 (cond (some d) 7 (cond e 8 0))))

module _ (q : ℕ) where
  number_row : fault_row (NUMBER + min q last_place) ≡ 6
  unfolding fault_row
  number_row = rw (ne_eqb (NUMBER + min q last_place) no_fault (λ z. omega arith)) (omega arith)

  hex_row_lem : fault_row (HEX + min q last_place) ≡ 7
  unfolding fault_row
  hex_row_lem = rw (ne_eqb (HEX + min q last_place) no_fault (λ z. omega arith)) (omega arith)

  module _ (h : q < places) where
    number_offset : fault_offset (NUMBER + min q last_place) ≡ Some q
    unfolding fault_offset
    number_offset =
        let z : (NUMBER + min q last_place) % places ≡ q = omega arith in
        rw (le-ltb (NUMBER + min q last_place) NUMBER (omega arith), lt-ltb (NUMBER + min q last_place) COUNT (omega arith), z)

    hex_offset : fault_offset (HEX + min q last_place) ≡ Some q
    unfolding fault_offset
    hex_offset =
        let z : (HEX + min q last_place) % places ≡ q = omega arith in
        rw (le-ltb (HEX + min q last_place) NUMBER (omega arith), lt-ltb (HEX + min q last_place) COUNT (omega arith), z)

row_of : (a b : Bool) (c d : List ℕ) (e : Bool) → fault_row (low a b c d e) ≡ row_by a b c d e
unfolding fault_row low placed_at
row_of true b c d e = refl
row_of false true c d e = refl
row_of false false (p ∷ ps) d e = number_row (least_of p ps)
row_of false false [] (p ∷ ps) e = hex_row_lem (least_of p ps)
row_of false false [] [] true = refl
row_of false false [] [] false = refl

pub told_row_lem : {x : ℕ} {a b e : Bool} {c d : List ℕ} → Lowest x a b c d e → fault_row x ≡ row_by a b c d e
told_row_lem {x} {a} {b} {e} {c} {d} w = ap fault_row w.is ∙ row_of a b c d e

-- ---- the offset, where places are few enough to be told
abbrev pub Told : List ℕ → Type 0
Told [] = Unit {0}
Told (p ∷ ps) = p < places

least_first : (p : ℕ) (ps : List ℕ) → least_of p ps ≤ p
unfolding least_of
least_first p [] = omega arith
least_first p (q ∷ qs) = omega arith

abbrev pub offset_by : (row : ℕ) (c d : List ℕ) → Option ℕ
offset_by row c d = cond (eqb row 6) (earliest c) (cond (eqb row 7) (earliest d) None)

offset_of_lem : (a b : Bool) (c d : List ℕ) (e : Bool) → Told c → Told d → fault_offset (low a b c d e) ≡ offset_by (row_by a b c d e) c d
unfolding fault_offset low placed_at
offset_of_lem true b c d e h k = refl
offset_of_lem false true c d e h k = refl
offset_of_lem false false (p ∷ ps) d e h k = number_offset (least_of p ps) (let l = least_first p ps in omega arith)
offset_of_lem false false [] (p ∷ ps) e h k = hex_offset (least_of p ps) (let l = least_first p ps in omega arith)
offset_of_lem false false [] [] true h k = refl
offset_of_lem false false [] [] false h k = refl

pub told_offset : {x : ℕ} {a b e : Bool} {c d : List ℕ} → Lowest x a b c d e → Told c → Told d → fault_offset x ≡ offset_by (row_by a b c d e) c d
told_offset {x} {a} {b} {e} {c} {d} w h k = ap fault_offset w.is ∙ offset_of_lem a b c d e h k
