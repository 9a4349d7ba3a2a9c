-- Five bytes more for each control character in a reply; in the text the length itself.
use Rattle.spell.specs.Spell.{decode}
use Rattle.event.proofs.Lengths.{json_count, number_count}
use Rattle.event.proofs.counting.decoded_len.Goals as goal

pub returns-then-json : goal.returns-then-json
returns-then-json c = rw c.if-json.true (json_count _ c.decoded_len-n.ensures c.control_count.ensures c.saturating_mul.ensures c.saturating_add.ensures)

pub returns : goal.returns
returns c = rw c.if-json.false (number_count (decode c.args.p.now) c.decoded_len-n.ensures c.decoded_len-n.type_inv)
