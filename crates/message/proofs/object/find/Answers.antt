use mathlib.Core.Path.{◌≡◌, sym, ◌∙◌}
use mathlib.Core.Bool.{true}
use native.Mathlib.Nat.{sub-zero}
use borrow.Author.Rules.{rules}
use Rattle.json_tree.specs.declared.Start.TheVariants.{Many}
use Rattle.json_tree.specs.declared.Next.TheVariants.{More, Done, Wrong}
use Rattle.json_tree.proofs.Trees.{fold_gone, fold_unnamed, fold_bad, fold_next}
use Rattle.message.specs.Inner.{no_members}
use Rattle.message.proofs.Found.{by, fold_open, fold_start}
use Rattle.message.proofs.object.find.Goals as goal

pub loop-k-init : goal.loop-k-init
loop-k-init c = rw sub-zero (fold_open _ _ _ _ (Many _ true) (sym (rw c.in-Many-default-true.field-1-test at c.in-Many-default-true.is) ∙ c.begin.ensures))

pub loop-k-preserved : goal.loop-k-preserved
loop-k-preserved c = sym
    (fold_next (by c.args.s.now c.args.event) no_members (λ b n. b) c.loop-k.a _ _ _ _ _ _ _ (More _) _ c.loop-k-test.true (sym c.head.ensures ∙ c.in-Some.is) (sym c.value.ensures ∙ c.in-Some-value.is)
    (sym c.after.ensures ∙ c.in-More.is) (λ t q. c.step-a.ensures))
    ∙ c.loop-k.invariant

pub returns : goal.returns
returns c = sym (fold_gone (by c.args.s.now c.args.event) no_members (λ b n. b) c.loop-k.a _ _ _ _ _ c.loop-k-test.false) ∙ c.loop-k.invariant

pub returns-in-Done : goal.returns-in-Done
returns-in-Done c = sym
    (fold_next (by c.args.s.now c.args.event) no_members (λ b n. b) c.loop-k.a _ _ _ _ _ _ _ (Done _) _ c.loop-k-test.true (sym c.head.ensures ∙ c.in-Some.is) (sym c.value.ensures ∙ c.in-Some-value.is)
    (sym c.after.ensures ∙ c.in-Done.is) (λ t q. c.step-a.ensures))
    ∙ c.loop-k.invariant

pub returns-in-Wrong : goal.returns-in-Wrong
returns-in-Wrong c = sym
    (fold_next (by c.args.s.now c.args.event) no_members (λ b n. b) c.loop-k.a _ _ _ _ _ _ _ Wrong _ c.loop-k-test.true (sym c.head.ensures ∙ c.in-Some.is) (sym c.value.ensures ∙ c.in-Some-value.is)
    (sym c.after.ensures ∙ c.in-Wrong.is) (λ t q. c.step-a.ensures))
    ∙ c.loop-k.invariant

pub returns-in_default : goal.returns-in_default
returns-in_default c = (let q : no_members ≡ fold_start (by c.args.s.now c.args.event) no_members c.args.s.now c.begin.result = search rules in q) ∙ fold_open _ _ _ _ c.begin.result c.begin.ensures

pub returns-in_default-2 : goal.returns-in_default-2
returns-in_default-2 c = (let q : no_members ≡ fold_start (by c.args.s.now c.args.event) no_members c.args.s.now c.begin.result = search rules in q) ∙ fold_open _ _ _ _ c.begin.result c.begin.ensures

pub returns-in_default-head : goal.returns-in_default-head
returns-in_default-head c = sym (fold_unnamed (by c.args.s.now c.args.event) no_members (λ b n. b) c.loop-k.a _ _ _ _ _ c.loop-k-test.true (sym c.head.ensures ∙ c.in_default-head.is)) ∙ c.loop-k.invariant

pub returns-in_default-value : goal.returns-in_default-value
returns-in_default-value c = sym (fold_bad (by c.args.s.now c.args.event) no_members (λ b n. b) c.loop-k.a _ _ _ _ _ _ c.loop-k-test.true (sym c.head.ensures ∙ c.in-Some.is) (sym c.value.ensures ∙ c.in_default-value.is))
    ∙ c.loop-k.invariant
