-- The capacity is the header's first number.
use mathlib.Core.Path.{ap}
use lib.Dec.{leb}
use Rattle.table.specs.Layout.{capacity_of}
use Rattle.offers.proofs.is_full.Goals as goal

pub returns : goal.returns
unfolding capacity_of
returns c = ap (λ n. leb n c.args.c) c.le_at.ensures.is
