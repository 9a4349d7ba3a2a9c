-- As in the text where no control character is counted.
use mathlib.Core.Path.{sym, ◌∙◌}
use Rattle.spell.proofs.Loops.{json_plain}
use Rattle.spell.proofs.put_json.Goals as goal

pub returns-then-control_count-eq0 : goal.returns-then-control_count-eq0
returns-then-control_count-eq0 c = rw (json_plain _ (sym c.control_count.ensures ∙ c.if-control_count-eq0.true)) c.put_escaped.ensures
