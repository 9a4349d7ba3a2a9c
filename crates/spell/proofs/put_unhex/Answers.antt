use mathlib.Core.Path.{sym, ap₂, ◌∙◌}
use mathlib.Core.List.{◌∷◌, [], ◌++◌}
use Prim.Native.Nat.{◌+◌, ◌*◌}
use native.Mathlib.Omega.{arith}
use Rattle.std.specs.Slice.Iter.{chunks_exact_rest}
use Rattle.wire.proofs.Laws.{puts_out, rest_turn, rest_end}
use Rattle.spell.specs.Spell.{unhex}
use Rattle.spell.proofs.Loops.{unhex_turn, unhex_none}
use Rattle.spell.proofs.put_unhex.Goals as goal

pub returns-then-out-at : goal.returns-then-out-at
returns-then-out-at c = puts_out _ _ _ (omega arith)

pub loop-pair-preserved : goal.loop-pair-preserved
loop-pair-preserved c =
    let e = c.in-Some.ensures.steps in
    let turn = unhex_turn _ _ e.1.0 (e.1.1 ∙ c.loop-pair.invariant.1) in
    let digits = ap₂ (λ x y. ((x * 16 + y) ∷ []) ++ unhex (chunks_exact_rest c.next.new.self)) (sym c.hex_val-h.ensures.value) (sym c.hex_val-l.ensures.value) in
    (rest_turn c.loop-pair.invariant.0 c.put_byte-o.ensures (turn ∙ digits), e.0 ∙ c.loop-pair.invariant.1)

pub returns : goal.returns
returns c = rest_end c.loop-pair.invariant.0 (unhex_none _ (omega (arith, c.in-None.ensures.steps.1.0)))
