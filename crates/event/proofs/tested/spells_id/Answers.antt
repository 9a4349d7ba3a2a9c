-- The hex of 32 bytes fills the buffer.
use borrow.Author.Rules.{rules}
use Rattle.event.proofs.Answers.{hex-whole, id-spelled}
use Rattle.event.proofs.tested.spells_id.Goals as goal

pub returns : goal.returns
returns c = id-spelled c.piece.ensures (hex-whole _ (search rules) (search rules) c.put_hex.ensures) c.spells.ensures
