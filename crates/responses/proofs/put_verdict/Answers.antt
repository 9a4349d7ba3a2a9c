-- An arm for each answer.
use Rattle.wire.specs.Escape.{letter_of, esc_one, escape, json_one, json_of}
use Rattle.text.specs.Event.{quoted}
use Rattle.reply.specs.Replies.{string_json}
use Rattle.responses.proofs.Lines.{verdict_put, false_put}
use Rattle.responses.specs.Inner.{verdict_text}
use Rattle.responses.proofs.put_verdict.Goals as goal

pub returns-in-Err : goal.returns-in-Err
returns-in-Err c = false_put _ c.in-Err.is c.put-b.ensures c.put_reason.ensures

pub returns-in-Ok-Ephemeral : goal.returns-in-Ok-Ephemeral
unfolding verdict_text string_json quoted json_of json_one escape esc_one letter_of
returns-in-Ok-Ephemeral c = verdict_put _ c.in-Ok-Ephemeral.is (rw c.in-Ok-Ephemeral.is at c.in-Ok-Ephemeral.field-0-is) c.put.ensures

pub returns-in-Ok-Duplicate : goal.returns-in-Ok-Duplicate
unfolding verdict_text string_json quoted json_of json_one escape esc_one letter_of
returns-in-Ok-Duplicate c = verdict_put _ c.in-Ok-Duplicate.is (rw c.in-Ok-Duplicate.is at c.in-Ok-Duplicate.field-0-is) c.put-in-Ok-Duplicate.ensures

pub returns-in-Ok-Older : goal.returns-in-Ok-Older
unfolding verdict_text string_json quoted json_of json_one escape esc_one letter_of
returns-in-Ok-Older c = verdict_put _ c.in-Ok-Older.is (rw c.in-Ok-Older.is at c.in-Ok-Older.field-0-is) c.put-in-Ok-Older.ensures

pub returns-in-Ok-Stored : goal.returns-in-Ok-Stored
unfolding verdict_text string_json quoted json_of json_one escape esc_one letter_of
returns-in-Ok-Stored c = verdict_put _ c.in-Ok-Stored.is (rw c.in-Ok-Stored.is at c.in-Ok-Stored.field-0-is) c.put-in-Ok-Stored.ensures
