use mathlib.Core.Path.{◌≡◌, refl}
use native.Mathlib.Omega.{arith}
use lib.ListN.{length}
use Rattle.slot_replies.proofs.Batches.{held_stop, held_turn, held_end}
use Rattle.slot_replies.proofs.held_len.Goals as goal

pub returns-then-c-k : goal.returns-then-c-k
returns-then-c-k c = held_stop _ _ _ c.loop-i.invariant c.loop-i-test.true refl
    c.le_at-c.ensures c.if-c-k.true

pub loop-i-preserved : goal.loop-i-preserved
loop-i-preserved c = held_turn _ _ _ c.loop-i.invariant c.loop-i-test.true refl
    c.le_at-c.ensures c.if-c-k.false

pub returns : goal.returns
returns c =
    let e : length c.args.ks.now ≡ c.loop-i.i = omega arith in
    rw e (held_end _ _ _ c.loop-i.invariant c.loop-i-test.false)
