-- A law for each way out.
use Rattle.responses.proofs.Ways.{line_none, line_put, line_short}
use Rattle.responses.specs.Inner.{naming_text}
use Rattle.responses.proofs.respond_refused.Goals as goal

pub returns-then-room-eq0 : goal.returns-then-room-eq0
returns-then-room-eq0 c = let a = c.args in line_none (naming_text a.m.now a.x) a.out.now c.if-room-eq0.true

pub returns-then-refusal_fits : goal.returns-then-refusal_fits
returns-then-refusal_fits c = let a = c.args in line_put (naming_text a.m.now a.x) a.out.now c.if-room-eq0.false c.refusal_fits.ensures c.if-refusal_fits.true c.put_refusal-a.ensures c.put.ensures

pub returns : goal.returns
returns c = let a = c.args in line_short (naming_text a.m.now a.x) a.out.now c.if-room-eq0.false c.refusal_fits.ensures c.if-refusal_fits.false
