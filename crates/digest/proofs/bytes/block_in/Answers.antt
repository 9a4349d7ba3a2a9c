-- The 64 bytes from 32 on are the first 64 of those from 32 on.
use Rattle.std.proofs.Common.{ℕ, ◌≤◌, List, length, drop, sym, ◌∙◌, arith, length-drop}
use Rattle.digest.specs.Parts.{first_take}
use Rattle.digest.proofs.bytes.block_in.Goals as goal

pub returns : goal.returns
returns c =
    let l : List ℕ = drop 32 c.args.bytes.now in
    let long : 64 ≤ length l = simp length-drop (omega arith) in
    c.copy_from_slice.ensures.after ∙ sym (first_take l 64 long)
