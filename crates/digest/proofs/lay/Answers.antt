use Rattle.std.proofs.Common.{ℕ, ◌≤◌, List, length, ap, ◌∙◌, arith, refl}
use Rattle.std.proofs.lemmas.Slice.{take-put_mid}
use Rattle.digest.specs.State.{first_bytes}
use Rattle.digest.proofs.lay.Goals as goal

pub returns : goal.returns
returns c =
    let inside : c.args.n ≤ length c.args.b.now = omega arith in
    c.blank.ensures ∙ ap (λ (l : List ℕ). first_bytes l 64) (rw c.copy_from_slice.ensures.after (take-put_mid _ _ _ _ _ refl inside))
