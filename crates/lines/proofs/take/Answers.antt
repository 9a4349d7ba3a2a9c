-- What is put has no 0A (`put_plain`).
use Rattle.lines.proofs.Ends.{taken}
use Rattle.lines.proofs.take.Goals as goal

pub returns : goal.returns
returns c = taken c.args.part.now _ c.requires.0 c.requires.1 c.line_end-end.ensures c.unwrap_or.ensures c.put-k.ensures
