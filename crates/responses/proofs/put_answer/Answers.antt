-- A law for each way out.
use native.Mathlib.Omega.{arith}
use Rattle.responses.proofs.Ways.{answer_put, eose_short, events_short}
use Rattle.responses.proofs.put_answer.Goals as goal

pub returns-then-has_room : goal.returns-then-has_room
returns-then-has_room c = let a = c.args in answer_put a.table.now a.m.now a.sub a.ks.now c.requires a.out.now c.piece-id.ensures c.events_left.ensures (omega arith) c.in-Some.is c.string_len.ensures c.has_room.ensures c.if-has_room.true c.put_events-a.ensures c.put_eose.ensures

pub returns : goal.returns
returns c = let a = c.args in eose_short a.table.now a.m.now a.sub a.ks.now c.requires a.out.now c.piece-id.ensures c.events_left.ensures (omega arith) c.in-Some.is c.string_len.ensures c.has_room.ensures c.if-has_room.false

pub returns-in_default : goal.returns-in_default
returns-in_default c = let a = c.args in events_short a.table.now a.m.now a.sub a.ks.now c.requires a.out.now c.piece-id.ensures c.events_left.ensures c.in_default.is
