use mathlib.Core.Path.{sym, ap, ◌∙◌}
use native.Mathlib.Omega.{arith}
use lib.ListN.{length, length-append}
use Rattle.wire.specs.Escape.{escape}
use Rattle.wire.proofs.Laws.{puts_out, rest_start, rest_turn, rest_end}
use Rattle.spell.proofs.Loops.{escape_turn, escape_end}
use Rattle.spell.proofs.Runs.{byte_less}
use Rattle.spell.proofs.put_escaped.Goals as goal

pub returns-then-out-at : goal.returns-then-out-at
returns-then-out-at c = puts_out _ _ _ (omega arith)

pub loop-b-init : goal.loop-b-init
loop-b-init c =
    let e = sym (ap escape c.new-rest.ensures.bytes) ∙ c.pass_same.ensures.bytes in
    (rest_turn (rest_start _ _ _ c.if-out-at.false) c.put-o.ensures e, c.pass_same.ensures.stands)

pub loop-b-preserved : goal.loop-b-preserved
loop-b-preserved c =
    let w = rest_turn c.loop-b.invariant.0 c.put_escaped_byte-o.ensures (escape_turn c.in-Some.ensures.steps) in
    (rest_turn w c.put-o-in-Some.ensures c.pass_same-in-Some.ensures.bytes, c.pass_same-in-Some.ensures.stands)

pub loop-b-smaller : goal.loop-b-smaller
loop-b-smaller c =
    let e = simp length-append at (ap length c.pass_same-in-Some.ensures.bytes) in
    let h = byte_less c.in-Some.ensures.steps in
    omega arith

pub returns : goal.returns
returns c = rest_end c.loop-b.invariant.0 (escape_end c.in_default.ensures.steps.0)
