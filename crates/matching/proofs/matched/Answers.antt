-- A law for each way out.
use Rattle.message.proofs.Checked.{event_tags}
use Rattle.matching.proofs.several.Ways.{row_refuses, event_passed, filters_passed, large_refuses, answers}
use Rattle.matching.proofs.matched.Goals as goal

pub returns-then-row-ne0 : goal.returns-then-row-ne0
returns-then-row-ne0 c = let both = row_refuses _ _ _ _ _ c.lower_row-row.ensures c.event_row.ensures c.filters_row.ensures c.if-row-ne0.true in record { value = both.0; result_value = both.1 }

pub returns-then-text_len-gt-MOST_TEXT : goal.returns-then-text_len-gt-MOST_TEXT
returns-then-text_len-gt-MOST_TEXT c = let both = large_refuses _ _ _ _ _ c.lower_row-row.ensures c.event_row.ensures c.filters_row.ensures c.if-row-ne0.false c.text_len.ensures c.if-text_len-gt-MOST_TEXT.true in record { value = both.0; result_value = both.1 }

pub some_match-requires : goal.some_match-requires
some_match-requires c =
    record {
      tags_value = event_tags _ _ (event_passed _ _ _ _ _ c.lower_row-row.ensures c.event_row.ensures c.filters_row.ensures c.if-row-ne0.false);
      n_value = filters_passed _ _ _ _ _ c.lower_row-row.ensures c.event_row.ensures c.filters_row.ensures c.if-row-ne0.false;
    }

pub returns : goal.returns
returns c = let both = answers _ _ _ _ _ c.lower_row-row.ensures c.event_row.ensures c.filters_row.ensures c.if-row-ne0.false c.text_len.ensures c.if-text_len-gt-MOST_TEXT.false c.some_match.ensures in record { value = both.0; result_value = both.1 }
