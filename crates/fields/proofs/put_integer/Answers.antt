-- The gap, then the field.
use Rattle.wire.proofs.Laws.{puts_then}
use mir.Syntax.{w64}
use mir.ValLaws.{to_z-of_z}
use Rattle.fields.proofs.put_integer.Goals as goal

pub returns : goal.returns
returns c = puts_then c.put_gap-a.ensures (rw (to_z-of_z w64 c.args.z (record { sfits = c.well_formed.1.1.0 })) at c.put_decimal.ensures)
