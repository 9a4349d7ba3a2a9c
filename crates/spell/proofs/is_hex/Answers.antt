use mathlib.Core.Path.{sym, ◌∙◌}
use Rattle.spell.specs.Spell.{is_hex_of}
use Rattle.spell.proofs.Loops.{hex_end, hex_long, hex_bad, hex_good}
use Rattle.spell.proofs.is_hex.Goals as goal
use Rattle.spell.proofs.is_hex.Goals.{then-left-eq0-via-then-left-eq0, then-left-eq0-via-else-left-eq0+then-not-is_hex_digit}

pub returns-then-left-eq0 : goal.returns-then-left-eq0
returns-then-left-eq0 c = elim c.then-left-eq0.branch [
  | then-left-eq0-via-then-left-eq0 w ↦ sym (hex_long c.loop-b.left c.loop-b.invariant c.in-Some.ensures.steps w.if-left-eq0.true)
  | then-left-eq0-via-else-left-eq0+then-not-is_hex_digit w ↦ sym (hex_bad c.loop-b.left c.loop-b.invariant c.in-Some.ensures.steps (sym w.is_hex_digit.ensures ∙ w.if-not-is_hex_digit.true))
]

pub loop-b-preserved : goal.loop-b-preserved
loop-b-preserved c = hex_good c.loop-b.left c.loop-b.invariant c.in-Some.ensures.steps (sym c.is_hex_digit.ensures ∙ c.if-not-is_hex_digit.false) c.if-left-eq0.false

pub returns : goal.returns
returns c = sym (hex_end c.loop-b.left c.loop-b.invariant c.in-None.ensures.steps.0)

pub loop-b-init : goal.loop-b-init
unfolding is_hex_of
loop-b-init c = cc
