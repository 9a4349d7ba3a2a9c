use mathlib.Core.Path.{◌≡◌}
use Prim.Native.Nat.{◌+◌, ◌*◌, ◌<◌, ◌≤◌}
use lib.ListN.{length-set}
use native.Mathlib.Omega.{arith}
use Rattle.matching.proofs.found.Members.{strings_start, strings_none, strings_full, strings_next}
use Rattle.matching.proofs.found.strings_at.Goals as goal

pub loop-k-init : goal.loop-k-init
loop-k-init c = strings_start _ _ _ _ c.requires.v_value c.requires.v_value_2 c.first-x.ensures

pub returns-in_default : goal.returns-in_default
returns-in_default c = let h : c.loop-k.k * 2 < 32 = omega (arith, c.loop-k-test.true) in strings_none _ _ c.loop-k.invariant h c.in_default.is

pub loop-k-preserved : goal.loop-k-preserved
loop-k-preserved c =
    let h : c.loop-k.k * 2 < 32 = omega (arith, c.loop-k-test.true) in
    let e : c.loop-k.k * 2 + 2 ≡ (c.loop-k.k + 1) * 2 = omega arith in
    rw e at (strings_next _ _ c.loop-k.invariant _ _ c.in-Some.is c.span-s.ensures c.next-x.ensures c.requires.strings_room_in_bounds h)

pub returns : goal.returns
returns c =
    let e : c.loop-k.k * 2 ≡ 32 = omega (arith, c.loop-k.auto, c.loop-k-test.false) in
    let h : 32 ≤ c.loop-k.k * 2 = omega (arith, c.loop-k-test.false) in
    rw e at (strings_full _ _ c.loop-k.invariant h)

pub bounds-row-at-in-loop-k : goal.bounds-row-at-in-loop-k
bounds-row-at-in-loop-k c = simp length-set (omega (arith, c.loop-k.invariant.long, c.loop-k-test.true, c.requires.strings_room_in_bounds))
