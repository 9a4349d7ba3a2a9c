-- The invariant: all conditions hold exactly if those from i on do.
use mathlib.Core.Path.{◌≡◌}
use mathlib.Core.List.{map}
use Prim.Native.Nat.{◌-◌}
use lib.ListN.{take, drop}
use Rattle.text.specs.Event.{all}
use Rattle.event.specs.Lent.{lent_tags_at}
use Rattle.query.specs.Match.{condition_holds}
use Rattle.matching.specs.Inner.Found.{condition_by}
use Rattle.matching.proofs.matcher.all_hold.Given as goal

abbrev pub invariant-loop-i : goal.invariant-loop-i
invariant-loop-i l = all (condition_holds (lent_tags_at l.b l.tags)) (map (condition_by l.m l.row) (take l.n l.cs)) ≡ all (condition_holds (lent_tags_at l.b l.tags)) (map (condition_by l.m l.row) (take (l.n - l.i) (drop l.i l.cs)))
