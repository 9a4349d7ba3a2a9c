-- By the kind that `scalar` found. A string begins within the text and ends after 0, so its quotes can be cut off.
use mathlib.Core.Path.{sym, ◌∙◌}
use native.Mathlib.Omega.{arith}
use Rattle.shape.specs.Inner.{judged_of, fault_of}
use Rattle.shape.proofs.Places.{string_within, string_inner, scalar_string}
use Rattle.shape.proofs.scalar.leaf.Goals as goal
use Rattle.shape.proofs.scalar.leaf.Goals.{in-Str, in-Num, in-Word}

pub returns-in_err-n : goal.returns-in_err-n
unfolding judged_of
returns-in_err-n c = c.from_residual.ensures ∙ simp (← c.scalar.ensures, c.in_err-n.was)

pub overflow_add-inner : goal.overflow_add-inner
overflow_add-inner c = omega (arith, (string_within _ _ _ (scalar_string _ _ _ (sym c.scalar.ensures ∙ rw c.in-Str.is at c.in_ok-n.was))).0, c.well_formed.0)

pub overflow_sub-n : goal.overflow_sub-n
overflow_sub-n c = omega (arith, (string_within _ _ _ (scalar_string _ _ _ (sym c.scalar.ensures ∙ rw c.in-Str.is at c.in_ok-n.was))).1)

pub returns : goal.returns
unfolding judged_of fault_of
returns c = elim c.match-branch-2.branch [
  | in-Str w ↦ simp (← c.scalar.ensures, c.in_ok-n.was, w.in-Str.is, c.space.ensures, w.n-is, w.string_fault.ensures, string_inner c.args.s.now c.args.at w.in-Str.n w.cut.ensures)
  | in-Num w ↦ simp (← c.scalar.ensures, c.in_ok-n.was, w.in-Num.is, c.space.ensures, w.n-is, w.number_fault.ensures, w.cut-in-Num.ensures)
  | in-Word w ↦ simp (← c.scalar.ensures, c.in_ok-n.was, w.in-Word.is, c.space.ensures, w.n-is)
]
