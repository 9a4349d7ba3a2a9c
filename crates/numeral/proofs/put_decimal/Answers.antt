-- A put of the minus and then of the digits, or of the digits alone.
use Rattle.numeral.proofs.Ways.{put_below, put_above}
use Rattle.numeral.proofs.put_decimal.Goals as goal

pub returns-then-x-lt0 : goal.returns-then-x-lt0
returns-then-x-lt0 c = put_below _ c.well_formed.1.1.0 _ c.unsigned_abs-n.ensures.value c.if-x-lt0.true c.put-o.ensures
    c.put_natural.ensures

pub returns : goal.returns
returns c = put_above _ c.well_formed.1.1.0 _ c.unsigned_abs-n.ensures.value c.if-x-lt0.false c.put_natural-2.ensures
