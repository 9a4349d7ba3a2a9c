-- A law for each way out.
use Rattle.slot_replies.proofs.Batches.{no_slots, first_not_held, none_fit, later_not_held, all_held_lem}
use Rattle.slot_replies.proofs.fit_row.Goals as goal

pub returns-then-all-eq0 : goal.returns-then-all-eq0
returns-then-all-eq0 c = no_slots _ _ _ c.if-held-eq0.true c.if-all-eq0.true

pub returns-then-held-eq0 : goal.returns-then-held-eq0
returns-then-held-eq0 c = first_not_held _ _ _ c.if-held-eq0.true c.if-all-eq0.false

pub returns-then-lines-eq0 : goal.returns-then-lines-eq0
returns-then-lines-eq0 c = none_fit _ _ _ c.if-held-eq0.false c.if-lines-eq0.true

pub returns-then-held-all : goal.returns-then-held-all
returns-then-held-all c = later_not_held _ _ _ c.if-held-eq0.false c.if-lines-eq0.false c.if-held-all.true

pub returns : goal.returns
returns c = all_held_lem _ _ _ c.if-held-eq0.false c.if-lines-eq0.false c.if-held-all.false
