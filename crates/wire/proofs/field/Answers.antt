use mathlib.Core.Path.{◌≡◌}
use Prim.Native.Nat.{◌+◌, ◌-◌}
use native.Mathlib.Omega.{arith}
use Rattle.std.proofs.lemmas.List.{nil_from_length}
use Rattle.wire.proofs.Fields.{reading_none, reading_turn, reading_end}
use Rattle.wire.proofs.field.Goals as goal

pub loop-b-init : goal.loop-b-init
loop-b-init c =
    let e : c.args.at + c.args.n - c.args.at ≡ c.args.n = omega arith in
    rw (c.into_iter-b-iterator.ensures.into_iter_gives, c.rev-b-items.ensures.source, c.iter.ensures.rest, e) (reading_none _ _ _)

pub loop-b-preserved : goal.loop-b-preserved
loop-b-preserved c = rw c.from.ensures (reading_turn c.in-Some.b.now c.type_inv.s c.requires.1 c.in-Some.ensures.steps c.loop-b.invariant).1

pub overflow_mul-x : goal.overflow_mul-x
overflow_mul-x c = omega (arith, (reading_turn c.in-Some.b.now c.type_inv.s c.requires.1 c.in-Some.ensures.steps c.loop-b.invariant).0)

pub overflow_add-x : goal.overflow_add-x
overflow_add-x c = omega (arith, c.from.ensures, (reading_turn c.in-Some.b.now c.type_inv.s c.requires.1 c.in-Some.ensures.steps c.loop-b.invariant).0)

pub returns : goal.returns
returns c = reading_end c.requires.0 (nil_from_length _ c.in-None.ensures.steps.0) c.loop-b.invariant
