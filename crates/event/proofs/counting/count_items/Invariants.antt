-- The invariant: what is still to be counted gives the whole.
use mathlib.Core.Bool.{Bool}
use mathlib.Core.List.{List}
use Prim.Native.Nat.{ℕ}
use Rattle.json_tree.specs.Tree.{Got, Json, Items}
use Rattle.event.specs.Inner.{Counts, Does, Printer}
use Rattle.event.specs.declared.Reached.{Reached}
use Rattle.event.proofs.Walks.{Left}
use Rattle.event.proofs.counting.count_items.Given as goal

abbrev pub invariant-loop : goal.invariant-loop
invariant-loop g l =
    (json : Bool) (value : ℕ → Got Json) (p : Json → List ℕ) (all : Items → List ℕ) → Printer p all
    → ((o v : ℕ) (w : Reached) → goal.F-post g l.one o v w → Does (Counts json) (value v) p o w.at w.next)
    → Left (Counts json) value l.b l.first all l.n l.counter l.i l.o
