-- The row of the parts, or what the text gives.
use mathlib.Core.Path.{◌∙◌}
use borrow.Author.Rules.{rules}
use Rattle.event.proofs.Answers.{prefix-length, id-refused, id_hashed}
use Rattle.event.proofs.Complete.{body_complete}
use Rattle.event.proofs.id_of.Goals as goal

pub returns-then-row-ne0 : goal.returns-then-row-ne0
returns-then-row-ne0 c = id-refused _ _ c.body_row-row.ensures c.if-row-ne0.true

pub slice_bounds-hashed-end : goal.slice_bounds-hashed-end
slice_bounds-hashed-end c = prefix-length (search rules) c.put_whole-n.ensures

pub returns : goal.returns
returns c = id_hashed _ _ c.body_row-row.ensures c.if-row-ne0.false (search rules) c.put_whole-n.ensures c.hashed.ensures

pub put_whole-n-requires : goal.put_whole-n-requires
put_whole-n-requires c = c.begun-known.ensures ∙ body_complete _ _ c.body_row-row.ensures c.if-row-ne0.false
