-- Past the end stands 0, which is no colon.
use borrow.Author.Tests.{eq-eqb, ne_eqb}
use lib.ListN.{get_or-eq_default}
use Rattle.json_tree.specs.Grammar.{in_class, one_at, token_at}
use Rattle.rows.proofs.colon.Goals as goal
use Rattle.rows.proofs.colon.Goals.{else-at-s-via-then-at-s+else-s-at-eq58, else-at-s-via-else-at-s}

pub returns-then-s-at-eq58 : goal.returns-then-s-at-eq58
unfolding token_at one_at in_class
returns-then-s-at-eq58 c = simp (eq-eqb _ _ c.if-s-at-eq58.true, c.space.ensures)

pub returns-else-at-s : goal.returns-else-at-s
unfolding token_at one_at in_class
returns-else-at-s c = elim c.else-at-s.branch [
  | else-at-s-via-then-at-s+else-s-at-eq58 w ↦ simp (ne_eqb _ _ w.if-s-at-eq58.false)
  | else-at-s-via-else-at-s w ↦ rw (get_or-eq_default _ _ w.if-at-s.false)
]
