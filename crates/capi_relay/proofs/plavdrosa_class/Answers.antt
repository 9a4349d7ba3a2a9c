-- The number of the class that `class_of` promises.
use mathlib.Core.Path.{ap, ◌∙◌}
use Rattle.capi_relay.specs.Counts.{class_number}
use Rattle.capi_relay.proofs.plavdrosa_class.Goals as goal

pub returns : goal.returns
returns c = c.class_number.ensures ∙ ap class_number c.class_of.ensures
