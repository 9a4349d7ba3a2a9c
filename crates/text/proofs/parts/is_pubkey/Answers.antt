use mathlib.Core.Path.{sym, ◌∙◌}
use borrow.Author.Tests.{eq-eqb, ne_eqb}
use Rattle.text.specs.Event.{is_pubkey}
use Rattle.text.proofs.Ways.{hex_over, hex_more}
use Rattle.text.proofs.parts.is_pubkey.Goals as goal

pub returns-then-p-ne-HEX_LENGTH : goal.returns-then-p-ne-HEX_LENGTH
unfolding is_pubkey
returns-then-p-ne-HEX_LENGTH c = rw (ne_eqb _ _ c.if-p-ne-HEX_LENGTH.true)

pub loop-b-init : goal.loop-b-init
unfolding is_pubkey
loop-b-init c = rw (eq-eqb _ _ c.if-p-ne-HEX_LENGTH.false)

pub loop-b-preserved : goal.loop-b-preserved
unfolding is_pubkey
loop-b-preserved c = c.loop-b.invariant ∙ hex_more c.args.p.now _ c.loop-b.hex _ c.loop-b-test.true c.is_hex_digit-hex.ensures

pub returns : goal.returns
unfolding is_pubkey
returns c = sym (c.loop-b.invariant ∙ hex_over c.args.p.now _ c.loop-b.hex c.loop-b-test.false)
