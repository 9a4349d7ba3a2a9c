-- By the two ranges of digits.
use Rattle.offers.proofs.Digits.{digit_is}
use Rattle.offers.proofs.made.digit.Goals as goal

pub returns : goal.returns
returns c = digit_is _ c.requires
