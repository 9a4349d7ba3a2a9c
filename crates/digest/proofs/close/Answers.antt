-- The length fits in the block, or takes one of its own. Assumes nothing.
use Rattle.std.proofs.Common.{◌≡◌, ◌%◌, ◌<◌, ◌≤◌, length, arith, rules, refl}
use Rattle.digest.proofs.Ends.{near, far}
use Rattle.digest.proofs.close.Goals as goal

pub returns : goal.returns
returns c =
    let a = c.args in
    let long : length a.b.now ≡ 64 = search rules in
    let n = λ (k : a.total % 64 < 56). near a.h.now a.b.now a.total long k refl refl in
    let f = λ (k : 56 ≤ a.total % 64). far a.h.now a.b.now a.total long k refl refl refl refl in
    grind (arith, n, f)
