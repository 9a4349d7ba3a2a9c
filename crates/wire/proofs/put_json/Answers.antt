use mathlib.Core.Path.{sym, ◌∙◌}
use borrow.Author.Tests.{not-true}
use native.Mathlib.Omega.{arith}
use Rattle.wire.proofs.Laws.{puts_out, rest_start, rest_turn, rest_end}
use Rattle.wire.proofs.Json.{json_turn, json_none, put_same}
use Rattle.wire.proofs.put_json.Goals as goal

pub returns-then-not-has_control : goal.returns-then-not-has_control
returns-then-not-has_control c = put_same (sym c.has_control.ensures ∙ not-true _ c.if-not-has_control.true-raw) c.put.ensures

pub loop-b-preserved : goal.loop-b-preserved
loop-b-preserved c = rest_turn c.loop-b.invariant c.put_json_byte-o.ensures (json_turn _ _ c.loop-b-test.true)

pub returns-then-out-at : goal.returns-then-out-at
returns-then-out-at c = puts_out _ _ _ (omega arith)

pub loop-b-init : goal.loop-b-init
loop-b-init c = rest_start _ _ _ c.if-out-at.false

pub returns : goal.returns
returns c = rest_end c.loop-b.invariant (json_none _ _ c.loop-b-test.false)
