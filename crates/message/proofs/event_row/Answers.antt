-- The least rank of id, body and sig is the lowest row that one of them breaks (`event_lowest`).
use mathlib.Core.Path.{◌∙◌}
use Rattle.message.proofs.Ranks.{event_lowest}
use Rattle.message.proofs.event_row.Goals as goal

pub returns : goal.returns
returns c = c.told.ensures ∙ event_lowest _ _ c.least-2.ensures c.least.ensures c.hex_rank.ensures c.body_rank.ensures c.hex_rank-2.ensures
