-- All of the line in the piece, of which `Kept-same` says that it is answered as what is kept of it, or all in the buffer.
use Rattle.feed.proofs.Lines.{grown_none, grown_whole}
use Rattle.feed.proofs.Turning.{answers_kept, answers_line}
use Rattle.feed.proofs.answer_line.Goals as goal

pub returns-then-n-eq0 : goal.returns-then-n-eq0
returns-then-n-eq0 c = answers_kept _ _ (grown_none _ _ _ c.if-n-eq0.true) (let e = c.respond.ensures in (e.value, (e.result_value, (e.out_after, e.table_after))))

pub returns : goal.returns
returns c = answers_line _ _ (grown_whole _ _ _ (c.requires.part_len c.if-n-eq0.false) c.so_far-many.ensures c.piece.ensures) (let e = c.respond-2.ensures in (e.value, (e.result_value, (e.out_after, e.table_after))))
