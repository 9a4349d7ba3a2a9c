-- The one or the other.
use Rattle.event.proofs.writing.put_in.Goals as goal

pub returns-then-json : goal.returns-then-json
returns-then-json c = rw c.if-json.true c.put_json.ensures

pub returns-else-json : goal.returns-else-json
returns-else-json c = rw c.if-json.false c.put_quoted.ensures
