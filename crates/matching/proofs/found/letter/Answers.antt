-- A law for each way out.
use mathlib.Core.Path.{refl}
use Rattle.spell.specs.Spell.{decode}
use Rattle.matching.proofs.found.Ways.{not_two, not_hash, no_letter, the_letter}
use Rattle.matching.proofs.found.letter.Goals as goal
use Rattle.matching.proofs.found.letter.Goals.{else-two-eq35-via-then-two-eq35+else-is_letter, else-two-eq35-via-else-two-eq35}

pub returns-then-decoded_len-ne2 : goal.returns-then-decoded_len-ne2
returns-then-decoded_len-ne2 c = not_two (decode c.args.name.now) c.decoded_len.ensures c.if-decoded_len-ne2.true

pub returns-then-is_letter : goal.returns-then-is_letter
returns-then-is_letter c = the_letter (decode c.args.name.now) c.decoded_len.ensures c.if-decoded_len-ne2.false refl c.put_decoded.ensures c.if-two-eq35.true c.is_letter.ensures c.if-is_letter.true

pub returns-else-two-eq35 : goal.returns-else-two-eq35
returns-else-two-eq35 c = elim c.else-two-eq35.branch [
  | else-two-eq35-via-then-two-eq35+else-is_letter w ↦ no_letter (decode c.args.name.now) c.decoded_len.ensures c.if-decoded_len-ne2.false refl c.put_decoded.ensures w.if-two-eq35.true w.is_letter.ensures w.if-is_letter.false
  | else-two-eq35-via-else-two-eq35 w ↦ not_hash (decode c.args.name.now) c.decoded_len.ensures c.if-decoded_len-ne2.false refl c.put_decoded.ensures w.if-two-eq35.false
]
