-- Nothing past the end; else the numbers that there is room for take the place of as many (`put_part`).
use mathlib.Core.Path.{◌≡◌, ap, ◌∙◌}
use Prim.Native.Nat.{ℕ, ◌+◌, ◌-◌}
use native.Mathlib.Omega.{arith}
use lib.ListN.{take}
use Rattle.wire.proofs.Laws.{puts_out}
use Rattle.numbers.proofs.Laws.{put_part}
use Rattle.numbers.proofs.put.Goals as goal

pub returns-then-out-at : goal.returns-then-out-at
returns-then-out-at c = puts_out _ _ _ (omega arith)

pub returns : goal.returns
returns c =
    let k : c.min-n.result ≡ c.args.at + c.min-n.result - c.args.at = omega arith in
    record {
      next = omega arith;
      bytes = put_part c.args.out.now c.args.part.now c.args.at _ c.if-out-at.false (omega arith) (c.copy_from_slice.ensures.after ∙ ap (λ (n : ℕ). take n c.args.part.now) k);
    }
