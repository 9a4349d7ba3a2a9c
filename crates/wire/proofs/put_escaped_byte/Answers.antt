-- A put of the byte, or of the backslash and then the letter.
use Rattle.wire.proofs.Escapes.{put_plain, put_lettered}
use Rattle.wire.proofs.put_escaped_byte.Goals as goal

pub returns : goal.returns
returns c = put_lettered _ _ c.letter-k.ensures c.if-k-eq0.false c.put_byte-o.ensures
    c.put_byte-2.ensures

pub returns-then-k-eq0 : goal.returns-then-k-eq0
returns-then-k-eq0 c = put_plain _ _ c.letter-k.ensures c.if-k-eq0.true c.put_byte.ensures
