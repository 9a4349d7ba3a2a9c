-- A comma, else what closes: each way is the calls' answers.
use Rattle.json_tree.proofs.after.Goals as goal

pub returns-in-Some : goal.returns-in-Some
returns-in-Some c = simp (← c.token.ensures, c.in-Some.is)

pub returns-in-Some-token : goal.returns-in-Some-token
returns-in-Some-token c = simp (← c.token.ensures, c.in-None.is, ← c.closing.ensures.0, ← c.token-in-None.ensures, c.in-Some-token.is)

pub returns-in-None-token : goal.returns-in-None-token
returns-in-None-token c = simp (← c.token.ensures, c.in-None.is, ← c.closing.ensures.0, ← c.token-in-None.ensures, c.in-None-token.is)
