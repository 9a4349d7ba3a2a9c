-- Four puts in a row; the parts lie where the text was read.
use native.Mathlib.Omega.{arith}
use Rattle.text.proofs.Places.{bounds}
use Rattle.slot_replies.proofs.Pieces.{strings_put}
use Rattle.slot_replies.proofs.put_strings.Goals as goal

pub returns : goal.returns
returns c = strings_put _ _ c.requires c.piece.ensures c.piece-2.ensures
    c.put-a.ensures c.put_json-b.ensures c.put-c.ensures c.put_json.ensures

pub overflow_sub-tags_len : goal.overflow_sub-tags_len
overflow_sub-tags_len c = omega (arith, (bounds _ _ c.requires.is).between)

pub overflow_sub-tags_len-2 : goal.overflow_sub-tags_len-2
overflow_sub-tags_len-2 c = omega (arith, (bounds _ _ c.requires.is).between)

pub overflow_sub-quote : goal.overflow_sub-quote
overflow_sub-quote c = omega (arith, (bounds _ _ c.requires.is).between)

pub overflow_add-quoted_len : goal.overflow_add-quoted_len
overflow_add-quoted_len c = omega (arith, (bounds _ _ c.requires.is).ends, (bounds _ _ c.requires.is).small)
