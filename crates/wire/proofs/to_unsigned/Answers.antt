-- Both give the bits of two's complement.
use mir.Facts.{to_z-of_z}
use Rattle.wire.proofs.Fields.{unsigned_bits}
use Rattle.wire.proofs.to_unsigned.Goals as goal

pub returns : goal.returns
returns c = rw (c.cast_unsigned.ensures, to_z-of_z c.ranges.x) (unsigned_bits _)
