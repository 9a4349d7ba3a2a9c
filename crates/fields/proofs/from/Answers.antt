use mathlib.Core.Path.{◌≡◌, sym, ◌∙◌}
use native.Mathlib.Nat.{sub-zero}
use native.Mathlib.Omega.{arith}
use Prim.Native.Nat.{◌+◌, ◌-◌, ◌<◌, ◌≤◌}
use Rattle.fields.proofs.Fields.{from_turn, from_end}
use Rattle.fields.proofs.from.Goals as goal

pub loop-k-init : goal.loop-k-init
loop-k-init c = rw sub-zero

pub loop-k-preserved : goal.loop-k-preserved
loop-k-preserved c =
    let l = c.loop-k in
    let e : c.args.k - (l._k + 1) ≡ c.args.k - l._k - 1 = omega arith in
    let h : 0 < c.args.k - l._k = omega arith in
    rw (e, c.after-rest.ensures) (sym (from_turn (c.args.k - l._k) l.rest.now h) ∙ l.invariant)

pub returns : goal.returns
returns c =
    let l = c.loop-k in
    let h : c.args.k - l._k ≤ 0 = omega arith in
    sym (from_end (c.args.k - l._k) l.rest.now h) ∙ l.invariant
