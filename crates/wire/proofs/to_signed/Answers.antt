-- Both read the bits as two's complement.
use mir.Facts.{of_z-to_z}
use mir.Syntax.{w64}
use Rattle.wire.proofs.Fields.{signed_bits}
use Rattle.wire.proofs.to_signed.Goals as goal

pub returns : goal.returns
returns c = rw (c.cast_signed.ensures, of_z-to_z {w = w64} c.ranges.v) (signed_bits _)
