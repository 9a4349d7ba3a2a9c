-- Times by their two's complement, ids by their bytes.
use Rattle.offers.proofs.Verdicts.{newer_by}
use Rattle.offers.proofs.newer_than.Goals as goal

pub returns : goal.returns
returns c = newer_by _ _ _ _ (record { sfits = c.to_signed-a.type_inv }) (record { sfits = c.to_signed-b.type_inv }) c.newer.ensures
    c.to_signed-a.ensures c.le_at.ensures.is c.to_signed-b.ensures c.le_at-2.ensures.is
    c.piece.ensures c.piece-2.ensures
