use mathlib.Core.Path.{sym, ◌∙◌}
use borrow.Author.Rules.{rules}
use native.Mathlib.Omega.{arith}
use Rattle.slots.proofs.Bytes.{same_lengths}
use Rattle.matching.proofs.matcher.Bytes.{first_differs, seen_more, seen_all}
use Rattle.matching.proofs.matcher.same_bytes.Goals as goal

pub returns-then-p-q : goal.returns-then-p-q
returns-then-p-q c = same_lengths _ _ c.if-p-q.true

pub returns-then-byte : goal.returns-then-byte
returns-then-byte c = first_differs _ _ c.byte.ensures c.byte-2.ensures c.if-byte.true

pub loop-i-preserved : goal.loop-i-preserved
loop-i-preserved c = let l = c.loop-i in (search rules, search rules, l.invariant.2 ∙ seen_more _ _ l.i l.same (omega arith) (omega arith))

pub returns : goal.returns
returns c = let l = c.loop-i in sym (l.invariant.2 ∙ seen_all _ _ l.i l.same (omega arith) (omega arith))
