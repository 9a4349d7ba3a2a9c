use mathlib.Core.Path.{◌≡◌}
use Prim.Native.Nat.{◌/◌}
use lib.ListN.{length}
use native.Mathlib.Nat.{add-zero}
use native.Mathlib.Omega.{arith}
use Rattle.wire.proofs.Laws.{rest_start}
use Rattle.spell.proofs.Laws.{all_at}
use Rattle.offers.proofs.Digits.{pair_turn, pairs_end}
use Rattle.offers.proofs.made.put_digits.Goals as goal

pub digit-requires : goal.digit-requires
digit-requires c = all_at _ _ _ c.requires.s_value (omega arith)

pub digit-requires-in-loop-k : goal.digit-requires-in-loop-k
digit-requires-in-loop-k c = all_at _ _ _ c.requires.s_value (omega arith)

pub loop-k-preserved : goal.loop-k-preserved
loop-k-preserved c =
    let l = c.loop-k in
    pair_turn _ l.k l.invariant (omega arith) (omega arith) c.digit.ensures.0 c.digit-in-loop-k.ensures.0

pub loop-k-init : goal.loop-k-init
loop-k-init c = simp add-zero (rest_start _ _ _ (omega arith))

pub returns : goal.returns
returns c =
    let l = c.loop-k in
    let z : l.k ≡ length c.args.s.now / 2 = omega arith in
    rw z at (pairs_end _ l.k l.invariant (omega arith))
