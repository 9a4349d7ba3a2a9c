-- 01: "Where several hold, the lowest number is given". Whether row r of 1 to 8 holds of a message, and that no lower
-- one does.
use Rattle.std.specs.Prelude.{ℕ, ◌<◌, ◌≡◌, List, Bool, true, false, cond, eqb}
use Rattle.json_tree.specs.Tree.{root}
use Rattle.rows.specs.Rows.{row1, row2, row3, on_root}
use Rattle.shape.specs.Rows.{row4, row5, row6, row7, row8}
use Rattle.wire.specs.Bytes.{Bytes}

-- rows 4 to 8 are asked of the tree
unfoldable pub holds : Bytes → ℕ → Bool
holds s r =
    cond (eqb r 1) (row1 s)
    (cond (eqb r 2) (row2 s)
    (cond (eqb r 3) (row3 s)
    (cond (eqb r 4) (on_root (row4 s) (root s))
    (cond (eqb r 5) (on_root (row5 s) (root s))
    (cond (eqb r 6) (on_root (row6 s) (root s))
    (cond (eqb r 7) (on_root (row7 s) (root s))
    (cond (eqb r 8) (on_root (row8 s) (root s)) false)))))))

pub record LowestRow (s : List ℕ) (r : ℕ) : Type 0 where
  pub held : holds s r ≡ true
  pub none_lower : (k : ℕ) → k < r → holds s k ≡ false
