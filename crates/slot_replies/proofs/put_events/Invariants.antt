-- The invariant: the lines of the slots that are left give the whole.
use Prim.Native.Nat.{◌-◌}
use lib.ListN.{length, drop}
use Rattle.wire.proofs.Laws.{Rest}
use Rattle.spell.specs.Spell.{decode}
use Rattle.program.specs.Program.{events_of, written}
use Rattle.slot_replies.proofs.put_events.Given as goal

abbrev pub invariant-loop-k : goal.invariant-loop-k
invariant-loop-k l = Rest l.initial.out l.at (written (events_of l.table (decode l.sub) l.ks)) l.out l.o (written (events_of l.table (decode l.sub) (drop l.k-index l.ks)))
