-- The slot's own numbers say where d is.
use mathlib.Core.Path.{◌≡◌, ◌∙◌}
use Prim.Native.Nat.{◌-◌}
use borrow.Author.Rules.{rules}
use lib.ListN.{length, get_or}
use Rattle.offers.proofs.Held.{last_is}
use Rattle.offers.proofs.d_last.Goals as goal

pub returns : goal.returns
returns c =
    let d = c.piece-d.result.now in
    let h : c.unwrap_or.result ≡ get_or d (length d - 1) 0 = search rules in
    h ∙ last_is _ c.le_at-n.ensures.is c.le_at-at.ensures.is c.le_at-len.ensures.is c.piece.ensures c.piece-d.ensures
