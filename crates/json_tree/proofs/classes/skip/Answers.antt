use mathlib.Core.Path.{◌≡◌, sym, ◌∙◌}
use mathlib.Core.Bool.{Bool, true, false}
use mathlib.Core.List.{List}
use Prim.Native.Nat.{ℕ, ◌<◌}
use native.Mathlib.Omega.{arith}
use lib.ListN.{length, get_or}
use Rattle.json_tree.specs.declared.Class.{Class}
use Rattle.json_tree.specs.Grammar.{in_class}
use Rattle.json_tree.proofs.Bytes.{class_within, past_more, past_none}
use Rattle.json_tree.proofs.classes.skip.Goals as goal

-- a turn: the byte at i is of the class, and i lies within
turn : (class : Class) (s : List ℕ) (i b : ℕ) (r : Bool) → in_class class 0 ≡ false → b ≡ get_or s i 0 → r ≡ in_class class b → r ≡ true
    → (in_class class (get_or s i 0) ≡ true) × (i < length s)
turn class s i b r z p q h =
    let e : in_class class (get_or s i 0) ≡ true = rw (← p, ← q) h in
    (e, class_within class s i z e)

pub overflow_add-i : goal.overflow_add-i
overflow_add-i c = let t = turn c.args.class c.args.s.now c.loop-class.i _ _ c.requires c.byte.ensures c.is.ensures c.loop-class-test.true in omega (arith, t.1)

pub loop-class-smaller : goal.loop-class-smaller
loop-class-smaller c = let t = turn c.args.class c.args.s.now c.loop-class.i _ _ c.requires c.byte.ensures c.is.ensures c.loop-class-test.true in omega (arith, t.1)

pub loop-class-preserved : goal.loop-class-preserved
loop-class-preserved c =
    let t = turn c.args.class c.args.s.now c.loop-class.i _ _ c.requires c.byte.ensures c.is.ensures c.loop-class-test.true in
    past_more _ _ _ t.1 t.0 ∙ c.loop-class.invariant

pub returns : goal.returns
returns c = sym (past_none _ _ _ (rw (← c.byte.ensures, ← c.is.ensures) c.loop-class-test.false)) ∙ c.loop-class.invariant
