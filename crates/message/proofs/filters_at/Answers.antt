-- The count and the filters of the first four elements, as the calls promise them, are `filters_at`'s (`filters_are`).
use Rattle.message.proofs.Taken.{filters_are}
use Rattle.message.proofs.filters_at.Goals as goal

pub returns : goal.returns
returns c = filters_are _ _ c.count_from-n.ensures c.next-x.ensures c.following-y.ensures c.following-z.ensures c.filter_in.ensures
    c.filter_in-2.ensures c.filter_in-3.ensures c.filter_in-4.ensures
