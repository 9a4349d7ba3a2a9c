use mathlib.Core.Path.{◌≡◌, sym, ◌∙◌}
use Prim.Native.Nat.{◌+◌, ◌-◌}
use native.Mathlib.Omega.{arith}
use Rattle.text.proofs.Named.{tags_other, tags_empty, tags_open, tags_out, tags_bad, tags_more, tags_done}
use Rattle.text.proofs.Named.{tags_wrong}
use Rattle.text.proofs.parts.tags_end.Goals as goal

pub returns-then-byte-ne91 : goal.returns-then-byte-ne91
returns-then-byte-ne91 c = tags_other _ _ _ c.byte.ensures c.if-byte-ne91.true

pub returns-then-byte-eq93 : goal.returns-then-byte-eq93
returns-then-byte-eq93 c = tags_empty _ _ _ c.byte.ensures c.if-byte-ne91.false _ c.byte-2.ensures c.if-byte-eq93.true

pub loop-init : goal.loop-init
loop-init c = tags_open _ _ _ c.byte.ensures c.if-byte-ne91.false _ c.byte-2.ensures c.if-byte-eq93.false

pub returns-in_err-n : goal.returns-in_err-n
returns-in_err-n c = c.from_residual.ensures ∙ sym (tags_bad _ _ _ c.loop.d (sym c.in_err-n.was ∙ c.tag_end.ensures)) ∙ c.loop.invariant

pub returns-in-93 : goal.returns-in-93
returns-in-93 c = rw c.unwrap_or.ensures (sym (tags_done _ _ _ _ _ _ (omega arith) (sym c.in_ok-n.was ∙ c.tag_end.ensures) c.byte-in-loop.ensures _ c.look-d.ensures c.in-93.is) ∙ c.loop.invariant)

pub returns-in_default : goal.returns-in_default
returns-in_default c = sym (tags_wrong _ _ _ c.loop.d _ _ (omega arith) (sym c.in_ok-n.was ∙ c.tag_end.ensures) c.byte-in-loop.ensures (λ e. omega arith) (λ e. omega arith)) ∙ c.loop.invariant

pub loop-preserved : goal.loop-preserved
loop-preserved c =
    let z : 64 - c.loop.counter - 1 ≡ 64 - (c.loop.counter + 1) = omega arith in
    rw z at (sym (tags_more _ _ _ _ _ _ (omega arith) (sym c.in_ok-n.was ∙ c.tag_end.ensures) c.byte-in-loop.ensures _ c.look-d.ensures c.in-44.is) ∙ c.loop.invariant)

pub returns : goal.returns
returns c = sym (tags_out _ _ _ c.loop.d (omega arith)) ∙ c.loop.invariant
