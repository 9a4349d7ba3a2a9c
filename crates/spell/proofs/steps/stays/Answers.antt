-- One of the letters, or none.
use Rattle.spell.proofs.Runs.{stays_yes, stays_no}
use Rattle.spell.proofs.steps.stays.Goals as goal

pub returns-in-110 : goal.returns-in-110
returns-in-110 c = stays_yes _ c.in-110.is

pub returns-in_default : goal.returns-in_default
returns-in_default c = stays_no _
