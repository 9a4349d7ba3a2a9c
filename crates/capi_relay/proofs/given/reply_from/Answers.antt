-- A law for each form: 1 to 4 by the test that held, and a NOTICE where none of the four held.
use mathlib.Core.Path.{ap, ◌∙◌}
use Rattle.numbers.specs.Parts.{event_from}
use Rattle.capi_relay.proofs.given.Parts.{is_ok, is_event_lem, is_eose, is_closed, is_notice}
use Rattle.capi_relay.proofs.given.reply_from.Goals as goal

pub returns-then-form-eq1 : goal.returns-then-form-eq1
returns-then-form-eq1 c = is_ok _ _ c.name_from-name.ensures c.if-form-eq1.true c.accepted_in-accepted.ensures c.reason_from.ensures

pub returns-then-form-eq2 : goal.returns-then-form-eq2
returns-then-form-eq2 c = is_event_lem _ _ c.name_from-name.ensures c.if-form-eq2.true (c.event_from.ensures ∙ ap event_from c.behind.ensures)

pub returns-then-form-eq3 : goal.returns-then-form-eq3
returns-then-form-eq3 c = is_eose _ _ c.name_from-name.ensures c.if-form-eq3.true

pub returns-then-form-eq4 : goal.returns-then-form-eq4
returns-then-form-eq4 c = is_closed _ _ c.name_from-name.ensures c.if-form-eq4.true c.reason_from-then-form-eq4.ensures

pub returns : goal.returns
returns c = is_notice _ _ c.name_from-name.ensures c.if-form-eq1.false c.if-form-eq2.false c.if-form-eq3.false c.if-form-eq4.false
