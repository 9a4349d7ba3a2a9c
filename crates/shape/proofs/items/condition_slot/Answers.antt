-- # and a letter, spelled plainly, decode to themselves (`condition_plain`); else `escaped_condition` is asked.
use mathlib.Core.Path.{refl, ◌∙◌}
use native.Mathlib.Omega.{arith}
use Rattle.shape.proofs.Names.{condition_plain}
use Rattle.shape.proofs.items.condition_slot.Goals as goal

pub returns-then-slot-ne-UNKNOWN : goal.returns-then-slot-ne-UNKNOWN
returns-then-slot-ne-UNKNOWN c =
    c.letter_slot-slot.ensures ∙ condition_plain c.args.p.now (omega arith) (omega arith) refl (λ e. c.if-slot-ne-UNKNOWN.true (c.letter_slot-slot.ensures ∙ e))
