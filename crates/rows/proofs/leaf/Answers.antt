-- A string lies within the text, and its part is what row 4 looks at; another leaf has none.
use mathlib.Core.Bool.{or-false}
use mathlib.Core.Path.{sym, ◌∙◌}
use Rattle.rows.specs.Strings.{refused_in}
use Rattle.rows.proofs.Laws.{leaf_other, scalar_string, string_within}
use Rattle.rows.proofs.leaf.Goals as goal
use Rattle.rows.proofs.leaf.Goals.{in-Str, in-Num, in-Num-2}

pub inner-requires : goal.inner-requires
inner-requires c = string_within _ _ _ (scalar_string _ _ _ (sym c.scalar.ensures ∙ rw c.in-Str.is at c.in_ok-n.was))

pub returns : goal.returns
unfolding refused_in
returns c = elim c.match-branch-2.branch [
  | in-Str w ↦ simp (← c.scalar.ensures, c.in_ok-n.was, w.in-Str.is, c.space.ensures, w.n-is, w.refused-is, w.refused.ensures, w.inner.ensures)
  | in-Num w ↦ simp (← c.scalar.ensures, c.in_ok-n.was, leaf_other c.args.s.now c.args.at _ _ w.in-Num.is, c.space.ensures, w.n-is, w.refused-is, or-false)
  | in-Num-2 w ↦ simp (← c.scalar.ensures, c.in_ok-n.was, leaf_other c.args.s.now c.args.at _ _ w.in-Num.is, c.space.ensures, w.n-is, w.refused-is, or-false)
]
