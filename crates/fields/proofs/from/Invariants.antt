-- The invariant: the fields that are left to pass give the whole.
use mathlib.Core.Path.{◌≡◌}
use Prim.Native.Nat.{◌-◌}
use Rattle.fields.specs.Line.{fields_from}
use Rattle.fields.proofs.from.Given as goal

abbrev pub invariant-loop-k : goal.invariant-loop-k
invariant-loop-k l = fields_from (l.k - l._k) l.rest ≡ fields_from l.k l.line
