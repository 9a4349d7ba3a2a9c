-- The longest, or by the verdict.
use Rattle.responses.proofs.Ways.{longest_fits, verdict_fits}
use Rattle.responses.proofs.ok_fits.Goals as goal

pub returns-then-room-ge-LONGEST_OK : goal.returns-then-room-ge-LONGEST_OK
returns-then-room-ge-LONGEST_OK c = longest_fits _ _ _ c.requires _ c.if-room-ge-LONGEST_OK.true

pub returns : goal.returns
returns c = verdict_fits _ _ _ c.requires _ c.judge_message.ensures.value c.verdict_len.ensures
