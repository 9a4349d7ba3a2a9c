-- The invariant: what is still to be written gives the whole.
use mathlib.Core.Bool.{Bool}
use mathlib.Core.List.{List}
use Prim.Native.Nat.{ℕ}
use Rattle.json_tree.specs.Tree.{Got, Json, Items}
use Rattle.event.specs.Inner.{PutsOf, Does, Printer}
use Rattle.event.specs.declared.Reached.{Reached}
use Rattle.event.proofs.Walks.{Left}
use Rattle.event.proofs.writing.put_items.Given as goal

abbrev pub invariant-loop : goal.invariant-loop
invariant-loop g l =
    (json : Bool) (value : ℕ → Got Json) (p : Json → List ℕ) (all : Items → List ℕ) → Printer p all
    → ((x : _) (o v : ℕ) (w : Reached) (y : _) → goal.F-post g l.one x o v w y → Does (PutsOf json) (value v) p (x.now, o) (y.now, w.at) w.next)
    → Left (PutsOf json) value l.b l.first all (l.initial.out, l.at) l.counter l.i (l.out, l.o)
