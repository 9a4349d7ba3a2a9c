use Rattle.std.specs.Prelude.{Some, None}
use mathlib.Core.Path.{◌≡◌, refl, sym, ap, ◌∙◌}
use mathlib.Core.List.{List}
use mathlib.Core.Bool.{Bool}
use Prim.Native.Nat.{ℕ, ◌+◌, ◌-◌, ◌<◌, ◌≤◌}
use native.Mathlib.Omega.{arith}
use lib.ListN.{length}
use Rattle.json_tree.specs.Grammar.{head_at, next_at}
use Rattle.json_tree.specs.Tree.{Json, Got, end_of, items_at}
use Rattle.json_tree.specs.declared.Next.{Next}
use Rattle.json_tree.specs.declared.Start.TheVariants.{Leaf, Empty}
use Rattle.json_tree.specs.declared.Next.TheVariants.{More, Done, Wrong}
use Rattle.json_tree.proofs.Trees.{value_open, value_flat, value_many, end_items, fold_gone, fold_unnamed, fold_bad}
use Rattle.json_tree.proofs.Trees.{fold_next, turned}
use Rattle.json_tree.proofs.+value.Goals as goal

-- the laws of a fold, where only the end of the items is gathered
module _ (value : ℕ → Got Json) (s : List ℕ) (named : Bool) (k i : ℕ) where
  end_gone : length s ≤ k → end_items (items_at value s named (length s - k) i) ≡ None
  end_gone h = fold_gone (λ a p v t. a) None (λ a n. Some n) (tt {0}) value s named k i h

  end_unnamed : k < length s → head_at s i named ≡ None → end_items (items_at value s named (length s - k) i) ≡ None
  end_unnamed h e = fold_unnamed (λ a p v t. a) None (λ a n. Some n) (tt {0}) value s named k i h e

  end_bad : (v : ℕ) → k < length s → head_at s i named ≡ Some v → end_of (value v) ≡ None → end_items (items_at value s named (length s - k) i) ≡ None
  end_bad v h e w = fold_bad (λ a p v t. a) None (λ a n. Some n) (tt {0}) value s named k i v h e w

  end_next : (v n : ℕ) (x : Next) → k < length s → head_at s i named ≡ Some v → end_of (value v) ≡ Some n → next_at s n named ≡ x
      → end_items (items_at value s named (length s - k) i) ≡ turned x None Some (λ j. end_items (items_at value s named (length s - (k + 1)) j))
  end_next v n x h e w y = fold_next (λ a p v t. a) None (λ a n. Some n) (tt {0}) value s named k i v n x (tt {0}) h e w y (λ t q. refl)

pub returns-then-d-eq0 : goal.returns-then-d-eq0
returns-then-d-eq0 t c = c.leaf.ensures ∙ ap end_of (value_flat _ _ _ c.if-d-eq0.true)

pub loop-init : goal.loop-init
loop-init t c = (omega arith, value_many _ _ _ _ _ c.if-d-eq0.false (sym c.in-Many.is ∙ c.begin.ensures))

pub returns-in_err-v-in-Many : goal.returns-in_err-v-in-Many
returns-in_err-v-in-Many t c =
    c.from_residual.ensures ∙ sym (end_unnamed _ _ _ _ _ c.loop-test.true (sym c.head.ensures ∙ c.in_err-v-in-Many.was)) ∙ c.loop.invariant.1

pub returns-in_err-n-in-Many : goal.returns-in_err-n-in-Many
returns-in_err-n-in-Many t c =
    c.from_residual-in_err-n-in-Many.ensures ∙
    sym
    (end_bad _ _ _ _ _ _ c.loop-test.true (sym c.head.ensures ∙ c.in_ok-v-in-Many.was)
    (sym c.value.ensures ∙ c.in_err-n-in-Many.was)) ∙ c.loop.invariant.1

pub returns-in-Done : goal.returns-in-Done
returns-in-Done t c =
    sym
    (end_next _ _ _ _ _ _ _ (Done c.in-Done.e) c.loop-test.true (sym c.head.ensures ∙ c.in_ok-v-in-Many.was)
    (sym c.value.ensures ∙ c.in_ok-n-in-Many.was) (sym c.after.ensures ∙ c.in-Done.is))
    ∙ c.loop.invariant.1

pub returns-in-Wrong : goal.returns-in-Wrong
returns-in-Wrong t c =
    sym
    (end_next _ _ _ _ _ _ _ Wrong c.loop-test.true (sym c.head.ensures ∙ c.in_ok-v-in-Many.was)
    (sym c.value.ensures ∙ c.in_ok-n-in-Many.was) (sym c.after.ensures ∙ c.in-Wrong.is))
    ∙ c.loop.invariant.1

pub loop-preserved : goal.loop-preserved
loop-preserved t c = (
  omega (arith, c.loop-test.true),
  sym
      (end_next _ _ _ _ _ _ _ (More c.in-More.j) c.loop-test.true (sym c.head.ensures ∙ c.in_ok-v-in-Many.was)
      (sym c.value.ensures ∙ c.in_ok-n-in-Many.was) (sym c.after.ensures ∙ c.in-More.is))
      ∙ c.loop.invariant.1,
)

pub returns-in-Leaf : goal.returns-in-Leaf
returns-in-Leaf t c =
    c.leaf-in-Leaf.ensures ∙ ap end_of (value_open _ _ _ Leaf c.if-d-eq0.false (sym c.in-Leaf.is ∙ c.begin.ensures))

pub returns-in-Empty : goal.returns-in-Empty
returns-in-Empty t c =
    ap end_of (value_open _ _ _ (Empty c.in-Empty.n c.in-Empty.field-1) c.if-d-eq0.false (sym c.in-Empty.is ∙ c.begin.ensures))

pub returns-after-loop : goal.returns-after-loop
returns-after-loop t c = sym (end_gone _ _ _ _ _ c.loop-test.false) ∙ c.loop.invariant.1
