-- All fit, or not.
use Rattle.slot_replies.proofs.Lines.{all_fit, not_all_fit}
use Rattle.slot_replies.proofs.events_left.Goals as goal

pub returns-then-f-ks : goal.returns-then-f-ks
returns-then-f-ks c = not_all_fit _ _ _ _ c.well_formed.1.1.1.0.1 c.string_len-n.ensures c.fit_lines-f.ensures c.if-f-ks.true

pub returns : goal.returns
returns c = all_fit _ _ _ _ c.well_formed.1.1.1.0.1 c.string_len-n.ensures c.fit_lines-f.ensures c.if-f-ks.false
