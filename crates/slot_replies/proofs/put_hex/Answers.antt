-- A quote, the string, a quote.
use Rattle.slot_replies.proofs.Pieces.{hex_quoted}
use Rattle.slot_replies.proofs.put_hex.Goals as goal

pub returns : goal.returns
returns c = hex_quoted _ c.put-a.ensures c.put_hex-c.ensures
    c.put.ensures
