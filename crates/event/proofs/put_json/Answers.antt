-- A quote, the string, a quote.
use Rattle.event.proofs.Strings.{json_put}
use Rattle.event.proofs.put_json.Goals as goal

pub returns : goal.returns
returns c = json_put _ c.put-a.ensures c.put_json-c.ensures c.put.ensures
