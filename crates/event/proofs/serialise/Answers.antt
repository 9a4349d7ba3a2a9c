-- A law for each way out. A text of at most 4,096 bytes stands whole in the buffer.
use mathlib.Core.Path.{◌∙◌}
use borrow.Author.Rules.{rules}
use Rattle.event.proofs.Answers.{prefix-length, body_refused, large-refused, text-given}
use Rattle.event.proofs.Complete.{body_complete}
use Rattle.event.proofs.serialise.Goals as goal

pub returns-then-row-ne0 : goal.returns-then-row-ne0
returns-then-row-ne0 c = let both = body_refused _ _ _ c.body_row-row.ensures c.if-row-ne0.true in record { value = both.0; result_value = both.1.0; out_after = both.1.1 }

pub returns-then-n-gt-MOST_TEXT : goal.returns-then-n-gt-MOST_TEXT
returns-then-n-gt-MOST_TEXT c = let both = large-refused _ _ _ c.body_row-row.ensures c.if-row-ne0.false (search rules) c.put_whole-n.ensures c.if-n-gt-MOST_TEXT.true in record { value = both.0; result_value = both.1.0; out_after = both.1.1 }

pub slice_bounds-give-end : goal.slice_bounds-give-end
slice_bounds-give-end c = prefix-length (search rules) c.put_whole-n.ensures

pub returns : goal.returns
returns c =
    let both = text-given _ _ _ c.body_row-row.ensures c.if-row-ne0.false (search rules) c.put_whole-n.ensures c.if-n-gt-MOST_TEXT.false
    c.give.ensures.value c.give.ensures.out_after in record { value = both.0; result_value = both.1.0; out_after = both.1.1 }

pub put_whole-n-requires : goal.put_whole-n-requires
put_whole-n-requires c = c.begun-known.ensures ∙ body_complete _ _ c.body_row-row.ensures c.if-row-ne0.false
