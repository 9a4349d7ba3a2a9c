-- A law for each way out.
use mathlib.Core.Path.{sym, ◌∙◌}
use borrow.Author.Tests.{eqb-true, eqb-false}
use Rattle.feed.proofs.Turning.{no_line_lem, last_line_lem}
use Rattle.feed.proofs.finish.Goals as goal

pub returns-then-is_empty : goal.returns-then-is_empty
returns-then-is_empty c = let both = no_line_lem _ _ _ _ c.so_far-many.ensures c.piece-m.ensures (eqb-true _ _ (sym c.is_empty.ensures ∙ c.if-is_empty.true)) in record { value = both.0; result_value = both.1.0; table_after = both.1.1.0; out_after = both.1.1.1 }

pub returns : goal.returns
returns c = let both = last_line_lem _ _ _ _ c.so_far-many.ensures c.piece-m.ensures (eqb-false _ _ (sym c.is_empty.ensures ∙ c.if-is_empty.false)) (let e = c.respond.ensures in (e.value, (e.result_value, (e.out_after, e.table_after)))) in record { value = both.0; result_value = both.1.0; table_after = both.1.1.0; out_after = both.1.1.1 }
