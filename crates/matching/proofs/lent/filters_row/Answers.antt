use borrow.Author.Rules.{rules}
use native.Mathlib.Omega.{arith}
use Rattle.matching.proofs.lent.Rows.{rows_none, rows_more, rows_all}
use Rattle.matching.proofs.lent.filters_row.Goals as goal

pub loop-j-init : goal.loop-j-init
loop-j-init c = let a = c.args in (search rules, search rules, rows_none a.m.now a.fs a.n _ (omega (arith, c.min-j.ensures, c.well_formed)))

pub loop-j-preserved : goal.loop-j-preserved
loop-j-preserved c =
    let l = c.loop-j in (
      search rules,
      search rules,
      rows_more _ _ _ l.j _ _ _ _ c.loop-j-test.true (search rules) (omega arith) l.invariant.2
          c.filter_row.ensures c.lower_row-r.ensures,
    )

pub returns : goal.returns
returns c =
    let l = c.loop-j in
    rows_all _ _ _ l.j _ _ _ c.loop-j-test.false l.invariant.2 c.count_row.ensures c.lower_row.ensures
