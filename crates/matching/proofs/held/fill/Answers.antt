use mathlib.Core.Path.{◌≡◌, refl}
use lib.ListN.{length-set}
use Rattle.matching.proofs.held.Bytes.{as_byte, filled_none, filled_more}
use native.Mathlib.Omega.{arith}
use Rattle.matching.proofs.held.fill.Goals as goal

pub loop-k-init : goal.loop-k-init
loop-k-init c = (omega arith, refl, filled_none _ _ _ _)

pub loop-k-preserved : goal.loop-k-preserved
loop-k-preserved c =
    let l = c.loop-k in
    let p = c.requires.c_bound in (
      omega (arith, c.loop-k-test.true),
      simp length-set l.invariant.1,
      filled_more l.invariant.2 p.2 (omega (arith, c.loop-k-test.true, l.invariant.1, p.2, p.3)) c.slot_matched.ensures _ (as_byte _),
    )

pub returns : goal.returns
returns c =
    let l = c.loop-k in
    let e : l.k ≡ c.args.c = omega (arith, l.invariant.0, c.loop-k-test.false) in rw e at l.invariant.2
