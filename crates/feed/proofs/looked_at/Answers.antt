-- By the two tests; what comes before the line's end begins the piece.
use mathlib.Core.Path.{sym, ◌∙◌}
use native.Mathlib.Omega.{arith}
use lib.Seq.{length-take-le}
use Rattle.feed.proofs.Lines.{before_few, looked_all, looked_start, looked_before}
use Rattle.feed.proofs.looked_at.Goals as goal

pub returns-then-n-eq0 : goal.returns-then-n-eq0
returns-then-n-eq0 c = looked_all _ _ c.if-n-eq0.true

pub returns-then-e-eq0 : goal.returns-then-e-eq0
returns-then-e-eq0 c = looked_start _ _ (sym c.end_at-e.ensures ∙ c.if-e-eq0.true)

pub slice_bounds-result-end : goal.slice_bounds-result-end
slice_bounds-result-end c = sym (length-take-le _ _ (omega (arith, c.end_at-e.ensures, before_few c.args.piece.now)))

pub returns : goal.returns
returns c = looked_before _ _ c.if-n-eq0.false c.end_at-e.ensures c.if-e-eq0.false
