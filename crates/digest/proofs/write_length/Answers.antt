use Rattle.std.proofs.Common.{◌∙◌, arith}
use Rattle.digest.proofs.Laws.{tail_laid, to_big_endian}
use Rattle.digest.proofs.write_length.Goals as goal

pub returns : goal.returns
returns c = tail_laid c.args.b.now _ 56 (omega arith) ∙ rw (c.copy_from_slice.ensures.after, c.to_be_bytes.ensures, to_big_endian)
