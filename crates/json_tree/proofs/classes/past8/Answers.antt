-- Twice four.
use mathlib.Core.Path.{refl}
use native.Mathlib.Omega.{arith}
use Rattle.json_tree.proofs.Ends.{all_both, chars_eight}
use Rattle.json_tree.proofs.classes.past8.Goals as goal

pub returns-then-s-i-lt8 : goal.returns-then-s-i-lt8
returns-then-s-i-lt8 c = record { same = refl; on = omega arith }

pub returns-then-own4 : goal.returns-then-own4
returns-then-own4 c =
    let (x, y) = all_both _ _ c.if-own4.true in
    record { same = chars_eight _ _ (c.own4-2.ensures.same y) (c.own4.ensures.same x); on = omega arith }
