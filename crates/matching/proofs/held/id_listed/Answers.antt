-- The hex of 32 bytes spells itself.
use borrow.Author.Rules.{rules}
use Rattle.matching.proofs.held.Ways.{id_long, id_given}
use Rattle.matching.proofs.held.id_listed.Goals as goal

pub put_hex-requires : goal.put_hex-requires
put_hex-requires c = (id_long c.args.s.now c.piece.ensures c.requires, search rules)

pub returns : goal.returns
returns c = id_given _ _ _ _ c.type_inv.s c.piece.ensures c.put_hex.ensures c.listed.ensures
