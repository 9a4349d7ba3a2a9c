-- After the quote the body decides.
use mathlib.Core.Path.{sym, ◌∙◌}
use Rattle.text.proofs.Ways.{string_other, string_is}
use Rattle.text.proofs.body.string_end.Goals as goal

pub returns-then-byte-ne34 : goal.returns-then-byte-ne34
returns-then-byte-ne34 c = string_other _ _ (λ e. c.if-byte-ne34.true (c.byte.ensures ∙ e))

pub returns : goal.returns
returns c = c.body_end.ensures ∙ string_is _ _ (sym c.byte.ensures ∙ c.if-byte-ne34.false) c.requires
