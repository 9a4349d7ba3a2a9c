-- The fixed bytes and the parts.
use borrow.Author.Rules.{rules}
use Rattle.event.proofs.Lengths.{text_count}
use Rattle.event.proofs.counting.length_in.Goals as goal

pub returns : goal.returns
returns c = text_count c.args.json _ _ (search rules) (search rules) c.piece.ensures c.piece-2.ensures
    c.decoded_len-key.ensures c.saturating_add.ensures c.decimal_len.ensures c.saturating_add-2.ensures
    c.kind_of.ensures c.natural_len.ensures
    c.saturating_add-3.ensures c.tags_len.ensures c.saturating_add-4.ensures
    c.string_len-text.ensures c.saturating_add-5.ensures
