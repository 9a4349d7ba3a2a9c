-- Five bytes more for each control character in a reply; in the text the length itself.
use Rattle.wire.specs.Escape.{escape}
use Rattle.spell.specs.Spell.{decode}
use Rattle.event.proofs.Lengths.{escape_count, number_count}
use Rattle.event.proofs.counting.string_len.Goals as goal

pub returns-then-json : goal.returns-then-json
returns-then-json c = rw c.if-json.true (escape_count _ c.escaped_len-n.ensures c.control_count.ensures c.saturating_mul.ensures c.saturating_add.ensures)

pub returns : goal.returns
returns c = rw c.if-json.false (number_count (escape (decode c.args.p.now)) c.escaped_len-n.ensures c.escaped_len-n.type_inv)
