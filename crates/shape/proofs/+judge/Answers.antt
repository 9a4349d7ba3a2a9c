use Rattle.std.proofs.Common.{refl, sym, ap, ◌∙◌}
use Rattle.json_tree.specs.declared.Start.TheVariants.{Leaf}
use Rattle.json_tree.specs.declared.Next.TheVariants.{More, Done, Wrong}
use Rattle.json_tree.proofs.Trees.{value_open, value_flat}
use Rattle.shape.specs.Inner.{ends, judged_of}
use Rattle.shape.proofs.Walks.{judge_empty, judge_many, judge_gone, judge_unnamed, judge_bad, judge_next}
use Rattle.shape.proofs.+judge.Goals as goal

pub returns-then-d-eq0 : goal.returns-then-d-eq0
returns-then-d-eq0 t c = c.leaf.ensures ∙ ap (judged_of _ _ _) (value_flat _ _ _ c.if-d-eq0.true)

pub loop-k-init : goal.loop-k-init
loop-k-init t c = judge_many _ _ _ _ c.if-d-eq0.false _ c.group_form-inner.ensures c.start-a.ensures _ (sym c.in-Many.is ∙ c.begin.ensures)

pub returns-in_err-v-in-Many : goal.returns-in_err-v-in-Many
returns-in_err-v-in-Many t c = c.from_residual.ensures ∙
    sym (judge_unnamed _ _ _ _ _ _ _ c.loop-k-test.true (sym c.head.ensures ∙ c.in_err-v-in-Many.was)) ∙ c.loop-k.invariant

pub returns-in_err-x-in-Many : goal.returns-in_err-x-in-Many
returns-in_err-x-in-Many t c = c.from_residual-in_err-x-in-Many.ensures ∙
    sym
    (judge_bad _ _ _ _ _ _ _ _ _ c.loop-k-test.true (sym c.head.ensures ∙ c.in_ok-v-in-Many.was) (sym c.in_err-x-in-Many.was ∙ c.judge.ensures))
    ∙ c.loop-k.invariant

pub returns-in-Done : goal.returns-in-Done
returns-in-Done t c =
    ap (ends c.in-Done.end) c.close-fault.ensures
    ∙ sym
    (judge_next _ _ _ _ _ _ _ _ _ (Done c.in-Done.end) c.loop-k-test.true (sym c.head.ensures ∙ c.in_ok-v-in-Many.was) c.item_of-it.ensures
    refl (sym c.in_ok-x-in-Many.was ∙ c.judge.ensures) c.step-a.ensures (sym c.after.ensures ∙ c.in-Done.is))
    ∙ c.loop-k.invariant

pub returns-in-Wrong : goal.returns-in-Wrong
returns-in-Wrong t c =
    sym
    (judge_next _ _ _ _ _ _ _ _ _ Wrong c.loop-k-test.true (sym c.head.ensures ∙ c.in_ok-v-in-Many.was) c.item_of-it.ensures
    refl (sym c.in_ok-x-in-Many.was ∙ c.judge.ensures) c.step-a.ensures (sym c.after.ensures ∙ c.in-Wrong.is))
    ∙ c.loop-k.invariant

pub loop-k-preserved : goal.loop-k-preserved
loop-k-preserved t c =
    sym
    (judge_next _ _ _ _ _ _ _ _ _ (More c.in-More.j) c.loop-k-test.true (sym c.head.ensures ∙ c.in_ok-v-in-Many.was) c.item_of-it.ensures
    refl (sym c.in_ok-x-in-Many.was ∙ c.judge.ensures) c.step-a.ensures (sym c.after.ensures ∙ c.in-More.is))
    ∙ c.loop-k.invariant

pub returns-in-Leaf : goal.returns-in-Leaf
returns-in-Leaf t c =
    c.leaf-in-Leaf.ensures ∙ ap (judged_of _ _ _) (value_open _ _ _ Leaf c.if-d-eq0.false (sym c.in-Leaf.is ∙ c.begin.ensures))

pub returns-in-Empty : goal.returns-in-Empty
returns-in-Empty t c =
    judge_empty _ _ _ _ c.if-d-eq0.false _ c.group_form.ensures c.start.ensures _ c.close.ensures (sym c.in-Empty.is ∙ c.begin.ensures)

pub returns-after-loop-k : goal.returns-after-loop-k
returns-after-loop-k t c = sym (judge_gone _ _ _ _ _ _ _ c.loop-k-test.false) ∙ c.loop-k.invariant
