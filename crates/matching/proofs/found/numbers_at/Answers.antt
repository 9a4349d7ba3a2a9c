use mathlib.Core.Path.{◌≡◌}
use native.Mathlib.Omega.{arith}
use Rattle.matching.proofs.found.Members.{numbers_start, numbers_none, numbers_full, numbers_next}
use Rattle.matching.proofs.found.numbers_at.Goals as goal

pub loop-n-init : goal.loop-n-init
loop-n-init c = numbers_start _ _ _ _ c.requires.v_value c.requires.v_value_2 c.requires.v_value_3 c.first-x.ensures

pub returns-in_default : goal.returns-in_default
returns-in_default c = numbers_none _ _ c.loop-n.invariant c.loop-n-test.true c.in_default.is

pub loop-n-preserved : goal.loop-n-preserved
loop-n-preserved c = numbers_next _ _ c.loop-n.invariant c.in-Some.is c.small_at.ensures c.next-x.ensures c.requires.kinds_room_in_bounds c.loop-n-test.true

pub returns : goal.returns
returns c = let e : c.loop-n.n ≡ 16 = omega (arith, c.loop-n.auto, c.loop-n-test.false) in rw e at (numbers_full _ _ c.loop-n.invariant c.loop-n-test.false)
