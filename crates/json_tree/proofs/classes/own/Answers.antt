-- From 0x20 on the bytes without two are three ranges; below, the bytes without five are the control characters.
use mathlib.Core.Path.{◌≡◌}
use mathlib.Core.Bool.{true, false, not, ◌&&◌, ◌||◌}
use Prim.Native.Nat.{ℕ, ◌≤◌}
use native.Mathlib.Decide.{dec_le}
use native.Mathlib.Omega.{arith}
use borrow.Author.Tests.{le-leb, lt-leb, lt-ltb, le-ltb, eq-eqb, ne_eqb}
use lib.Dec.{eqb}
use Rattle.json_tree.specs.Grammar.{is_unescaped, in_class}
use Rattle.json_tree.specs.declared.Class.TheVariants.{Plain}
use Rattle.json_tree.proofs.classes.own.Goals as goal

ranges : (b : ℕ) → 32 ≤ b → (not (eqb b 34) && (not (eqb b 92) && true)) ≡ (is_unescaped b || false)
ranges b x = go (dec_le b 33) (dec_le 35 b) (dec_le b 91) (dec_le 93 b)
  where
    go : Dec (b ≤ 33) → Dec (35 ≤ b) → Dec (b ≤ 91) → Dec (93 ≤ b) → (not (eqb b 34) && (not (eqb b 92) && true)) ≡ (is_unescaped b || false)
    go (yes y) z v w = rw (le-leb 32 b x, le-leb b 33 y, ne_eqb b 34 (omega arith), ne_eqb b 92 (omega arith))
    go (no y) (no z) v w =
        let e : b ≡ 34 = omega arith in
        rw (le-leb 32 b x, lt-leb b 33 (omega arith), lt-leb 35 b (omega arith), lt-leb 93 b (omega arith), eq-eqb b 34 e)
    go (no y) (yes z) (yes v) w =
        rw (le-leb 32 b x, lt-leb b 33 (omega arith), le-leb 35 b z, le-leb b 91 v, ne_eqb b 34 (omega arith), ne_eqb b 92 (omega arith))
    go (no y) (yes z) (no v) (yes w) =
        rw (le-leb 32 b x, lt-leb b 33 (omega arith), le-leb 35 b z, lt-leb b 91 (omega arith), le-leb 93 b w, ne_eqb b 34 (omega arith), ne_eqb b 92 (omega arith))
    go (no y) (yes z) (no v) (no w) =
        let e : b ≡ 92 = omega arith in
        rw (le-leb 32 b x, lt-leb b 33 (omega arith), le-leb 35 b z, lt-leb b 91 (omega arith), lt-leb 93 b (omega arith), ne_eqb b 34 (omega arith), eq-eqb b 92 e)

all_but : (b : ℕ) → (not (eqb b 34) && (not (eqb b 92) && (not (eqb b 8) && (not (eqb b 9) && (not (eqb b 10) && (not (eqb b 12) && not (eqb b 13))))))) ≡ in_class Plain b
unfolding in_class
all_but b = elim (dec_le 32 b) [
  | yes x ↦
      rw (le-ltb b 32 x, ne_eqb b 8 (omega arith), ne_eqb b 9 (omega arith), ne_eqb b 10 (omega arith), ne_eqb b 12 (omega arith), ne_eqb b 13 (omega arith))
      (ranges b x)
  | no x ↦
      rw (ne_eqb b 34 (omega arith), ne_eqb b 92 (omega arith), lt-ltb b 32 (omega arith), lt-leb 32 b (omega arith), lt-leb 35 b (omega arith), lt-leb 93 b (omega arith))
]

pub returns : goal.returns
returns c = all_but _
