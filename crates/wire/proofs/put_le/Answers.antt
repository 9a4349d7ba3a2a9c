use mathlib.Core.Path.{refl, ◌∙◌}
use native.Mathlib.Omega.{arith}
use Rattle.wire.proofs.Laws.{puts_out, puts_mid}
use Rattle.wire.proofs.Fields.{length_le_bytes, written_turn, written_end}
use Rattle.wire.proofs.put_le.Goals as goal

pub returns-then-len-at : goal.returns-then-len-at
returns-then-len-at c = puts_out _ _ _ (omega arith)

pub loop-b-preserved : goal.loop-b-preserved
loop-b-preserved c = written_turn _ _ _ _ (omega arith) ∙ c.loop-b.invariant

pub returns : goal.returns
returns c = puts_mid c.if-len-at.false (omega (arith, length_le_bytes c.args.n c.args.v)) refl (written_end _ _ _ _ _ _ (omega arith) (omega arith) (omega arith) c.loop-b.invariant)
