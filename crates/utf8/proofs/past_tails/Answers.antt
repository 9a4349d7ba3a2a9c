-- A turn for each octet: one that is not wanted ends the scan, and the last one that is wanted leaves it where a
-- character may begin.
use mathlib.Core.Path.{◌∙◌}
use Prim.Native.Nat.{◌+◌, ◌-◌}
use native.Mathlib.Omega.{arith}
use Rattle.utf8.proofs.Laws.{some, low, high, last, more, stops, goes}
use Rattle.utf8.proofs.past_tails.Goals as goal
use Rattle.utf8.proofs.past_tails.Goals.{then-a-lo-via-then-a-lo, then-a-lo-via-else-a-lo+then-hi-a}
use Rattle.utf8.proofs.past_tails.Goals.{then-b-lt128-via-then-b-lt128, then-b-lt128-via-else-b-lt128+then-b-gt191}
use Rattle.utf8.proofs.past_tails.Goals.{then-d-lt128-via-then-d-lt128, then-d-lt128-via-else-d-lt128+then-d-gt191}

pub returns-then-more-eq0 : goal.returns-then-more-eq0
returns-then-more-eq0 c =
    let s = c.args.s.now in let i = c.args.i in let n = c.args.more in
    let l = some s (i + 1) _ c.byte-a.ensures (omega arith) in
    goes c.requires.i_in_bounds (omega arith) (omega arith) (last s c.args.lo c.args.hi n (i + 1) _ c.byte-a.ensures c.requires.small.0 c.if-a-lo.false c.if-hi-a.false (i + 2) (omega arith) c.if-more-eq0.true)

pub returns-then-b-lt128 : goal.returns-then-b-lt128
returns-then-b-lt128 c =
    let s = c.args.s.now in let i = c.args.i in let n = c.args.more in
    elim c.then-b-lt128.branch [
      | then-b-lt128-via-then-b-lt128 w ↦ stops c.requires.i_in_bounds (more s c.args.lo c.args.hi n (i + 1) _ c.byte-a.ensures c.requires.small.0 c.if-a-lo.false c.if-hi-a.false (i + 2) (omega arith) (omega arith)
          ∙ low s 0x80 0xbf (n - 1) (i + 2) _ c.byte-b.ensures w.if-b-lt128.true)
      | then-b-lt128-via-else-b-lt128+then-b-gt191 w ↦ stops c.requires.i_in_bounds (more s c.args.lo c.args.hi n (i + 1) _ c.byte-a.ensures c.requires.small.0 c.if-a-lo.false c.if-hi-a.false (i + 2) (omega arith) (omega arith)
          ∙ high s 0x80 0xbf (n - 1) (i + 2) _ c.byte-b.ensures w.if-b-lt128.false w.if-b-gt191.true)
    ]

pub returns-then-more-eq1 : goal.returns-then-more-eq1
returns-then-more-eq1 c =
    let s = c.args.s.now in let i = c.args.i in let n = c.args.more in
    let l = some s (i + 2) _ c.byte-b.ensures (omega arith) in
    goes c.requires.i_in_bounds (omega arith) (omega arith) (more s c.args.lo c.args.hi n (i + 1) _ c.byte-a.ensures c.requires.small.0 c.if-a-lo.false c.if-hi-a.false (i + 2) (omega arith) (omega arith)
    ∙ last s 0x80 0xbf (n - 1) (i + 2) _ c.byte-b.ensures (omega arith) c.if-b-lt128.false c.if-b-gt191.false (i + 3) (omega arith) (omega arith))

pub returns-then-d-lt128 : goal.returns-then-d-lt128
returns-then-d-lt128 c =
    let s = c.args.s.now in let i = c.args.i in let n = c.args.more in
    elim c.then-d-lt128.branch [
      | then-d-lt128-via-then-d-lt128 w ↦ stops c.requires.i_in_bounds (more s c.args.lo c.args.hi n (i + 1) _ c.byte-a.ensures c.requires.small.0 c.if-a-lo.false c.if-hi-a.false (i + 2) (omega arith) (omega arith)
          ∙ more s 0x80 0xbf (n - 1) (i + 2) _ c.byte-b.ensures (omega arith) c.if-b-lt128.false c.if-b-gt191.false (i + 3) (omega arith) (omega arith)
          ∙ low s 0x80 0xbf (n - 1 - 1) (i + 3) _ c.byte-d.ensures w.if-d-lt128.true)
      | then-d-lt128-via-else-d-lt128+then-d-gt191 w ↦ stops c.requires.i_in_bounds (more s c.args.lo c.args.hi n (i + 1) _ c.byte-a.ensures c.requires.small.0 c.if-a-lo.false c.if-hi-a.false (i + 2) (omega arith) (omega arith)
          ∙ more s 0x80 0xbf (n - 1) (i + 2) _ c.byte-b.ensures (omega arith) c.if-b-lt128.false c.if-b-gt191.false (i + 3) (omega arith) (omega arith)
          ∙ high s 0x80 0xbf (n - 1 - 1) (i + 3) _ c.byte-d.ensures w.if-d-lt128.false w.if-d-gt191.true)
    ]

pub returns : goal.returns
returns c =
    let s = c.args.s.now in let i = c.args.i in let n = c.args.more in
    let l = some s (i + 3) _ c.byte-d.ensures (omega arith) in
    goes c.requires.i_in_bounds (omega arith) (omega arith) (more s c.args.lo c.args.hi n (i + 1) _ c.byte-a.ensures c.requires.small.0 c.if-a-lo.false c.if-hi-a.false (i + 2) (omega arith) (omega arith)
    ∙ more s 0x80 0xbf (n - 1) (i + 2) _ c.byte-b.ensures (omega arith) c.if-b-lt128.false c.if-b-gt191.false (i + 3) (omega arith) (omega arith)
    ∙ last s 0x80 0xbf (n - 1 - 1) (i + 3) _ c.byte-d.ensures (omega arith) c.if-d-lt128.false c.if-d-gt191.false (i + 4) (omega arith) (omega arith))

pub returns-then-a-lo : goal.returns-then-a-lo
returns-then-a-lo c =
    elim c.then-a-lo.branch [
      | then-a-lo-via-then-a-lo w ↦ stops c.requires.i_in_bounds (low c.args.s.now _ _ _ (c.args.i + 1) _ c.byte-a.ensures w.if-a-lo.true)
      | then-a-lo-via-else-a-lo+then-hi-a w ↦ stops c.requires.i_in_bounds (high c.args.s.now _ _ _ (c.args.i + 1) _ c.byte-a.ensures w.if-a-lo.false w.if-hi-a.true)
    ]
