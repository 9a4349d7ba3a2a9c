use mathlib.Core.Path.{refl}
use native.Mathlib.Omega.{arith}
use lib.ListN.{get_or}
use Rattle.wire.proofs.Laws.{puts_out, rest_start, rest_turn, rest_end}
use Rattle.slot_replies.proofs.Lines.{lines_turn, lines_none, line_at}
use Rattle.slot_replies.proofs.put_events.Goals as goal

pub loop-k-preserved : goal.loop-k-preserved
loop-k-preserved c =
    let l = c.loop-k in
    rest_turn l.invariant
    (line_at c.args.table.now _ {k = get_or c.args.ks.now l.k-index 0} refl c.slot-s.ensures c.put_line-o.ensures)
    (lines_turn _ _ _ _ c.loop-k-test.true)

pub returns-then-out-at : goal.returns-then-out-at
returns-then-out-at c = puts_out _ _ _ (omega arith)

pub loop-k-init : goal.loop-k-init
loop-k-init c = rest_start _ _ _ c.if-out-at.false

pub returns : goal.returns
returns c = rest_end c.loop-k.invariant (lines_none _ _ _ _ c.loop-k-test.false)
