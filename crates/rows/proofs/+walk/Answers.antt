use mathlib.Core.Path.{sym, ap, ◌∙◌}
use Prim.Native.Nat.{◌-◌}
use Rattle.json_tree.specs.Tree.{tree_at}
use Rattle.json_tree.specs.declared.Start.TheVariants.{Leaf}
use Rattle.json_tree.specs.declared.Next.TheVariants.{More, Done, Wrong}
use Rattle.json_tree.proofs.Trees.{value_open, value_flat}
use Rattle.rows.specs.Inner.{seen_of, seen_after}
use Rattle.rows.proofs.Laws.{seen_empty, seen_many, seen_gone, seen_unnamed, seen_no_value, seen_next}
use Rattle.rows.proofs.+walk.Goals as goal

pub returns-then-d-eq0 : goal.returns-then-d-eq0
returns-then-d-eq0 t c = c.leaf.ensures ∙ ap (λ g. seen_after c.args.refused.now (seen_of c.args.s.now g)) (value_flat _ _ _ c.if-d-eq0.true)

pub loop-turn-init : goal.loop-turn-init
loop-turn-init t c = seen_many _ _ _ _ _ _ c.if-d-eq0.false (sym c.in-Many.is ∙ c.begin.ensures)

pub returns-in_err-v-in-Many : goal.returns-in_err-v-in-Many
returns-in_err-v-in-Many t c =
    rw c.from_residual.ensures (sym
    (seen_unnamed (tree_at c.args.s.now (c.args.d - 1)) _ _ _ _ _ c.loop-turn-test.true c.name.new.refused (rw c.in_err-v-in-Many.was at c.name.ensures))
    ∙ c.loop-turn.invariant)

pub returns-in_err-n-in-Many : goal.returns-in_err-n-in-Many
returns-in_err-n-in-Many t c =
    rw c.from_residual-in_err-n-in-Many.ensures (sym
    (seen_no_value (tree_at c.args.s.now (c.args.d - 1)) _ _ _ _ _ c.loop-turn-test.true _ _ (rw c.in_ok-v-in-Many.was at c.name.ensures)
    c.walk.new.refused (rw c.in_err-n-in-Many.was at c.walk.ensures))
    ∙ c.loop-turn.invariant)

pub returns-in-Done : goal.returns-in-Done
returns-in-Done t c =
    sym
    (seen_next (tree_at c.args.s.now (c.args.d - 1)) _ _ _ _ _ c.loop-turn-test.true _ _ (rw c.in_ok-v-in-Many.was at c.name.ensures)
    _ (Done c.in-Done.end) _ (rw c.in_ok-n-in-Many.was at c.walk.ensures) (sym c.after.ensures ∙ c.in-Done.is))
    ∙ c.loop-turn.invariant

pub returns-in-Wrong : goal.returns-in-Wrong
returns-in-Wrong t c =
    sym
    (seen_next (tree_at c.args.s.now (c.args.d - 1)) _ _ _ _ _ c.loop-turn-test.true _ _ (rw c.in_ok-v-in-Many.was at c.name.ensures)
    _ Wrong _ (rw c.in_ok-n-in-Many.was at c.walk.ensures) (sym c.after.ensures ∙ c.in-Wrong.is))
    ∙ c.loop-turn.invariant

pub loop-turn-preserved : goal.loop-turn-preserved
loop-turn-preserved t c =
    sym
    (seen_next (tree_at c.args.s.now (c.args.d - 1)) _ _ _ _ _ c.loop-turn-test.true _ _ (rw c.in_ok-v-in-Many.was at c.name.ensures)
    _ (More c.in-More.j) _ (rw c.in_ok-n-in-Many.was at c.walk.ensures) (sym c.after.ensures ∙ c.in-More.is))
    ∙ c.loop-turn.invariant

pub returns-in-Leaf : goal.returns-in-Leaf
returns-in-Leaf t c =
    c.leaf-in-Leaf.ensures ∙ ap (λ g. seen_after c.args.refused.now (seen_of c.args.s.now g)) (value_open _ _ _ Leaf c.if-d-eq0.false (sym c.in-Leaf.is ∙ c.begin.ensures))

pub returns-in-Empty : goal.returns-in-Empty
returns-in-Empty t c = seen_empty _ _ _ _ _ _ c.if-d-eq0.false (sym c.in-Empty.is ∙ c.begin.ensures)

pub returns-after-loop-turn : goal.returns-after-loop-turn
returns-after-loop-turn t c =
    sym (seen_gone (tree_at c.args.s.now (c.args.d - 1)) _ _ _ _ _ c.loop-turn-test.false) ∙ c.loop-turn.invariant
