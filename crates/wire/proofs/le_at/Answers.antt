-- The field is read up to the end of the slice.
use native.Mathlib.Omega.{arith}
use Rattle.wire.proofs.Fields.{field_past, field_cut}
use Rattle.wire.proofs.le_at.Goals as goal

pub returns-then-s-at : goal.returns-then-s-at
returns-then-s-at c = field_past _ _ _ c.if-s-at.true

pub returns : goal.returns
returns c = field_cut (omega arith) c.field.ensures
