-- A quote, the string, a quote.
use Rattle.event.proofs.Strings.{quoted_put}
use Rattle.event.proofs.put_quoted.Goals as goal

pub returns : goal.returns
returns c = quoted_put _ c.put-a.ensures c.put_escaped-c.ensures c.put.ensures
