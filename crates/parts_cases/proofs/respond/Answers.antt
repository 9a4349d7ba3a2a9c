-- `put_unhex` promises an n within the buffer, so the slice of its first n bytes has n.
use mathlib.Core.Path.{sym}
use lib.Seq.{length-take-le}
use borrow.Author.Rules.{rules}
use Rattle.parts_cases.proofs.respond.Goals as goal

pub slice_bounds-put_answer-end-2 : goal.slice_bounds-put_answer-end-2
slice_bounds-put_answer-end-2 g c = sym (length-take-le _ _ (search rules))
