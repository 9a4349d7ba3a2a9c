-- The least rank of the seven parts is the lowest row that one of them breaks (`filter_lowest`).
use mathlib.Core.Path.{◌∙◌}
use Rattle.message.proofs.Ranks.{filter_lowest}
use Rattle.message.proofs.filter_row.Goals as goal

pub returns : goal.returns
returns c = c.told.ensures
    ∙ filter_lowest _ _ c.least-3.ensures c.least-lists.ensures c.least-2.ensures c.least-times.ensures c.least.ensures c.least-rest.ensures
    c.list_rank-4.ensures c.list_rank-2.ensures c.list_rank-3.ensures c.bound_rank-2.ensures c.bound_rank-3.ensures
    c.bound_rank.ensures c.list_rank.ensures
