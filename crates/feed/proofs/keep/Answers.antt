-- One put of as much as there is room for.
use Rattle.feed.proofs.Lines.{keeps}
use Rattle.feed.proofs.keep.Goals as goal

pub returns : goal.returns
returns c = keeps _ _ _ c.requires c.so_far-many.ensures c.piece.ensures c.put.ensures
