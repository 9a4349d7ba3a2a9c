-- What closes, else the first item: each way is the calls' answers.
use Rattle.json_tree.proofs.opened.Goals as goal

pub returns-in-Some : goal.returns-in-Some
returns-in-Some c = simp (← c.closing.ensures.0, ← c.token.ensures, c.in-Some.is)

pub returns-in-None : goal.returns-in-None
returns-in-None c = simp (← c.closing.ensures.0, ← c.token.ensures, c.in-None.is)
