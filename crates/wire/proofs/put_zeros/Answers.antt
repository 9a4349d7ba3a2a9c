use mathlib.Core.Path.{◌≡◌, refl, sym, ◌∙◌}
use Prim.Native.Nat.{◌+◌, ◌-◌, min}
use native.Mathlib.Omega.{arith}
use lib.ListN.{length, length-take, length-drop, length-replicate}
use Rattle.std.proofs.lemmas.List.{take-replicate}
use Rattle.wire.proofs.Laws.{puts_out, puts_mid}
use Rattle.wire.proofs.put_zeros.Goals as goal

pub returns-then-len-at : goal.returns-then-len-at
returns-then-len-at c = puts_out _ _ _ (omega arith)

pub returns : goal.returns
returns c =
    let m = c.min-m.result in
    let k : m ≡ min (c.args.at + m - c.args.at) (length c.args.out.now - c.args.at) = omega arith in
    let h = c.fill.ensures.after (λ y e. e) in
    puts_mid c.if-len-at.false (simp length-replicate c.min-m.ensures) refl (simp (length-take, length-drop, ← k) at h ∙ sym (take-replicate m c.args.n 0 (omega arith)))
