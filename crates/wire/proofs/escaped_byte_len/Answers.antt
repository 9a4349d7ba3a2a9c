-- One byte or two, by the letter that was found.
use mathlib.Core.Path.{sym, ap}
use lib.ListN.{length}
use Rattle.wire.proofs.Escapes.{plain, lettered}
use Rattle.wire.proofs.escaped_byte_len.Goals as goal

pub returns-then-letter-eq0 : goal.returns-then-letter-eq0
returns-then-letter-eq0 c = sym (ap length (plain _ _ c.letter.ensures c.if-letter-eq0.true))

pub returns : goal.returns
returns c = sym (ap length (lettered _ _ c.letter.ensures c.if-letter-eq0.false))
