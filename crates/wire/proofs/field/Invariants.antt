-- The invariant: x is what the last bytes of the field spell, and those before them are left.
use Rattle.std.specs.Slice.Iter.{iter_rest}
use Rattle.std.specs.Iterator.Adapters.{rev_source}
use Rattle.wire.proofs.Fields.{Reading}
use Rattle.wire.proofs.field.Given as goal

abbrev pub invariant-loop-b : goal.invariant-loop-b
invariant-loop-b l = Reading l.s l.at l.n (iter_rest (rev_source l.b-iterator)) l.x
