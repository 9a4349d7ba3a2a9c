use mathlib.Core.Path.{refl}
use mathlib.Core.List.{append-nil}
use Prim.Native.Nat.{◌≤◌}
use lib.ListN.{length, length-set}
use native.Mathlib.Omega.{arith}
use Rattle.numeral.proofs.Digits.{digits_20}
use Rattle.numeral.proofs.Ways.{made_turn, made_end}
use Rattle.numeral.proofs.put_natural.Goals as goal

pub loop-v-init : goal.loop-v-init
loop-v-init c =
    let h = digits_20 c.args.n c.well_formed.1.1.0.1 in
    record { long = refl; some = omega arith; room = h; inside = omega arith; is = append-nil _ }

pub returns : goal.returns
returns c = rw (made_end c.loop-v.invariant c.loop-v-test.false) at c.put.ensures

pub loop-v-preserved : goal.loop-v-preserved
loop-v-preserved c = made_turn c.loop-v.invariant c.loop-v-test.true

pub slice_bounds-put-end : goal.slice_bounds-put-end
slice_bounds-put-end c = let h : 20 ≤ length c.loop-v.text = omega arith in simp length-set h
