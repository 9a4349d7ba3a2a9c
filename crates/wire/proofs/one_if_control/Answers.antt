-- By the test.
use mathlib.Core.Bool.{Bool, true, false, cond}
use mathlib.Core.Path.{◌≡◌, refl}
use mir.Val.{bool_byte}
use Rattle.wire.specs.Escape.{control_count}
use Rattle.wire.proofs.one_if_control.Goals as goal

one_or_none : (t : Bool) → bool_byte t ≡ cond t 1 0
one_or_none true = refl
one_or_none false = refl

pub returns : goal.returns
unfolding control_count
returns c = rw (c.from.ensures, c.is_control.ensures) (one_or_none _)
