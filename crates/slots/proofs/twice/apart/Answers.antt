use mathlib.Core.Path.{◌≡◌, refl, sym, ◌∙◌}
use Prim.Native.Nat.{◌+◌, ◌-◌}
use native.Mathlib.Omega.{arith}
use Rattle.slots.specs.Slots.{clash}
use Rattle.slots.proofs.Walk.{none_more, none_bad, none_end, none_whole}
use Rattle.slots.proofs.Marks.{none_noted, noted_more}
use Rattle.slots.proofs.twice.apart.Goals as goal

pub loop-i-init : goal.loop-i-init
loop-i-init c = let n = c.args.c in (c.mark.ensures, none_noted refl, none_end _ n n clash refl (omega arith))

pub returns-then-repeated : goal.returns-then-repeated
returns-then-repeated c =
    let l = c.loop-i in
    let n = c.args.c in
    sym (none_whole _ n clash (l.i - 1) (omega arith) (none_bad _ (l.i - 1) n clash refl (omega arith) (sym c.repeated.ensures ∙ c.if-repeated.true)))

pub loop-i-preserved : goal.loop-i-preserved
loop-i-preserved c =
    let l = c.loop-i in
    let n = c.args.c in
    let z : l.i - 1 + 1 ≡ l.i = omega arith in (
      l.invariant.0,
      rw c.note.ensures (noted_more {seen = l.seen} (rw z l.invariant.1)),
      none_more _ (l.i - 1) n clash refl (omega arith) (sym c.repeated.ensures ∙ c.if-repeated.false) ∙ rw z l.invariant.2,
    )
