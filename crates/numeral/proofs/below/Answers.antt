-- The tests in the order of the code; a number of the range can be taken from 0.
use mathlib.Core.Path.{◌≡◌, sym, ◌∙◌}
use Prim.Native.Nat.{◌≤◌}
use native.Mathlib.Omega.{arith}
use borrow.Author.Tests.{ne_eqb, le-ltb}
use Rattle.wire.specs.Limits.{widest}
use Rattle.numeral.specs.Inner.{below_of}
use Rattle.numeral.proofs.Ways.{minus_fits, minus_is, below_large}
use Rattle.numeral.proofs.below.Goals as goal

pub returns-in-Some : goal.returns-in-Some
returns-in-Some c = rw c.in-Some.is (below_large _ c.if-v-gt-WIDEST.true)

pub overflow_sub-result : goal.overflow_sub-result
overflow_sub-result c =
    let e : c.in-Some-2.v ≡ c.in-Some.v = cc (sym c.in-Some-2.is ∙ c.in-Some.is) in
    let h : c.in-Some-2.v ≤ widest = omega arith in
    minus_fits _ h

pub returns-in-Some-2 : goal.returns-in-Some-2
unfolding below_of
returns-in-Some-2 c =
    let e : c.in-Some-2.v ≡ c.in-Some.v = cc (sym c.in-Some-2.is ∙ c.in-Some.is) in
    let h : c.in-Some-2.v ≤ widest = omega arith in
    rw (c.in-Some-2.is, minus_is _ h, ne_eqb c.in-Some-2.v 0 (λ z. omega (arith, c.if-v-gt0.true)), le-ltb widest c.in-Some-2.v h)

pub returns-in-Some-3 : goal.returns-in-Some-3
unfolding below_of
returns-in-Some-3 c = let z : c.in-Some-2.v ≡ 0 = omega arith in rw (c.in-Some-2.is, z)

pub returns-in-None : goal.returns-in-None
unfolding below_of
returns-in-None c = rw c.in-None.is
