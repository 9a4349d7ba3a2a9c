-- Up to row 5 nothing is asked; above it, what `names` promises, by whether the row is the message's own.
use Rattle.responses.proofs.Lines.{naming_early, naming_own, naming_other}
use Rattle.responses.proofs.naming_for.Goals as goal

pub returns-then-row-le5 : goal.returns-then-row-le5
returns-then-row-le5 c = naming_early _ _ c.plain_refusal-alone.ensures c.if-row-le5.true

pub returns-then-own-row : goal.returns-then-own-row
returns-then-own-row c = naming_own _ _ c.names-x.ensures.value c.if-row-le5.false c.if-own-row.true

pub returns : goal.returns
returns c = naming_other _ _ c.names-x.ensures.value c.if-row-le5.false c.plain_refusal-alone.ensures c.if-own-row.false
