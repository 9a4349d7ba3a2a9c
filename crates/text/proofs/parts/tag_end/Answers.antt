use mathlib.Core.Path.{◌≡◌, sym, ◌∙◌}
use Prim.Native.Nat.{◌+◌, ◌-◌}
use native.Mathlib.Omega.{arith}
use Rattle.text.proofs.Ways.{tag_other, tag_open, turn_out_lem, turn_bad, turn_more, turn_done, turn_wrong}
use Rattle.text.proofs.parts.tag_end.Goals as goal

pub returns-then-byte-ne91 : goal.returns-then-byte-ne91
returns-then-byte-ne91 c = tag_other _ _ _ c.byte.ensures c.if-byte-ne91.true

pub returns-in_default : goal.returns-in_default
returns-in_default c = sym (turn_bad _ _ _ _ (sym c.in_default.is ∙ c.string_end.ensures)) ∙ c.loop.invariant

pub returns-in-93 : goal.returns-in-93
returns-in-93 c = sym (turn_done _ _ _ _ _ _ (omega arith) (sym c.in-Some.is ∙ c.string_end.ensures) c.byte-in-loop.ensures (λ e. omega arith) c.in-93.is) ∙ c.loop.invariant

pub returns-in_default-byte : goal.returns-in_default-byte
returns-in_default-byte c = sym (turn_wrong _ _ _ _ _ _ (omega arith) (sym c.in-Some.is ∙ c.string_end.ensures) c.byte-in-loop.ensures (λ e. omega arith) (λ e. omega arith)) ∙ c.loop.invariant

pub loop-preserved : goal.loop-preserved
loop-preserved c =
    let z : 16 - c.loop.counter - 1 ≡ 16 - (c.loop.counter + 1) = omega arith in
    rw z at (sym (turn_more _ _ _ _ _ _ (omega arith) (sym c.in-Some.is ∙ c.string_end.ensures) c.byte-in-loop.ensures c.in-44.is) ∙ c.loop.invariant)

pub loop-init : goal.loop-init
loop-init c = tag_open _ _ _ c.byte.ensures c.if-byte-ne91.false

pub returns : goal.returns
returns c = sym (turn_out_lem _ _ _ _ (omega arith)) ∙ c.loop.invariant
