-- A remainder.
use mathlib.Core.Path.{refl}
use native.Mathlib.Omega.{arith}
use Rattle.slots.specs.Marks.{bucket_of}
use Rattle.slots.proofs.twice.bucket.Goals as goal

pub returns : goal.returns
unfolding bucket_of
returns c = record { value = refl; upper_bound = omega arith }
