-- Rows 1 to 4, which hold of the text, go before rows 5 to 8, which hold of the message.
use mathlib.Core.Path.{◌≡◌, refl, sym, ◌∙◌}
use mathlib.Core.List.{List}
use mathlib.Core.Bool.{Bool, true, false, cond, not, ◌&&◌, false≢true}
use mathlib.Core.Logic.{◌≢◌, ◌⊎◌, inl, inr}
use Prim.Native.Nat.{ℕ, ◌≤◌}
use native.Mathlib.Omega.{arith}
use borrow.Author.Tests.{eqb-true, eqb-false}
use lib.Dec.{eqb}
use lib.ListN.{length}
use Rattle.wire.specs.Bytes.{has_control}
use Rattle.json_tree.specs.Tree.{Json, Got, none, got, end_of, ends_at, root}
use Rattle.rows.specs.Strings.{refused_in}
use Rattle.rows.specs.Rows.{row1, row2, row3, row4, on_root, text_row}
use Rattle.shape.specs.Rows.{row5, row6, row7, row8, tree_row, root_row, message_row}

-- a row of a message that is none of rows 1 to 4
abbrev pub Late : ℕ → Type 0
Late r = (r ≡ 0) ⊎ (5 ≤ r)

-- a and b, c, d: whether rows 1 to 4 hold; r: the row of the tree
first_of : (a b c d : Bool) (r : ℕ) → (d ≡ true → r ≡ 4) → ◌≢◌ {A = ℕ} (cond a 1 (cond b 2 (cond c 3 (cond d 4 0)))) 0
    → cond a 1 (cond b 2 (cond c 3 r)) ≡ cond a 1 (cond b 2 (cond c 3 (cond d 4 0)))
first_of true b c d r f n = refl
first_of false true c d r f n = refl
first_of false false true d r f n = refl
first_of false false false true r f n = f refl
first_of false false false false r f n = absurd (n refl)

late_of : (a b c d : Bool) (r : ℕ) → (c ≡ false → d ≡ false → Late r) → ◌≡◌ {A = ℕ} (cond a 1 (cond b 2 (cond c 3 (cond d 4 0)))) 0 → Late (cond a 1 (cond b 2 (cond c 3 r)))
late_of true b c d r f e = absurd (omega arith)
late_of false true c d r f e = absurd (omega arith)
late_of false false true d r f e = absurd (omega arith)
late_of false false false true r f e = absurd (omega arith)
late_of false false false false r f e = f refl refl

tree_late : (b c d e : Bool) → Late (cond b 5 (cond c 6 (cond d 7 (cond e 8 0))))
tree_late true c d e = inr (omega arith)
tree_late false true d e = inr (omega arith)
tree_late false false true e = inr (omega arith)
tree_late false false false true = inr (omega arith)
tree_late false false false false = inl refl

module _ (m : List ℕ) where
  -- where one of rows 1 to 4 holds, the lowest of them is the message's row
  pub rows_first : text_row m ≢ 0 → message_row m ≡ text_row m
  unfolding text_row message_row row4 tree_row
  rows_first = first_of (row1 m) (row2 m) (row3 m) (on_root (refused_in m) (root m)) (root_row m (root m)) (go (root m))
    where
      go : (g : Got Json) → on_root (refused_in m) g ≡ true → root_row m g ≡ 4
      go none e = absurd (false≢true e)
      go (got t n) e = rw e

  -- where none does, none is the message's row
  pub rows_late : text_row m ≡ 0 → Late (message_row m)
  unfolding text_row message_row row4 tree_row
  rows_late = late_of (row1 m) (row2 m) (row3 m) (on_root (refused_in m) (root m)) (root_row m (root m)) (go (has_control m) (root m))
    where
      go : (x : Bool) (g : Got Json) → not (not x && ends_at (length m) (end_of g)) ≡ false → on_root (refused_in m) g ≡ false → Late (root_row m g)
      go true g c e = absurd (false≢true (sym c))
      go false none c e = absurd (false≢true (sym c))
      go false (got t n) c e = rw e (tree_late (row5 m t) (row6 m t) (row7 m t) (row8 m t))

  pub text_clean : message_row m ≡ 0 → text_row m ≡ 0
  text_clean e = go (eqb (text_row m) 0) refl
    where
      go : (b : Bool) → eqb (text_row m) 0 ≡ b → text_row m ≡ 0
      go true q = eqb-true (text_row m) 0 q
      go false q = sym (rows_first (eqb-false (text_row m) 0 q)) ∙ e
