-- The place that `position` finds in what stands from `at` on.
use mathlib.Core.Path.{sym, ◌∙◌}
use Rattle.text.proofs.Ways.{suffix_of, comma_found, comma_none}
use Rattle.text.proofs.parts.next_comma.Goals as goal

pub returns : goal.returns
returns c = let h = suffix_of _ _ c.in_ok-get.field-0 c.in_ok-get.ensures.lookup in comma_found _ _ _ (rw h at (sym c.to_comma.ensures) ∙ c.in_ok-k.was)

pub returns-in_err-k : goal.returns-in_err-k
returns-in_err-k c = let h = suffix_of _ _ c.in_ok-get.field-0 c.in_ok-get.ensures.lookup in c.from_residual-in_err-k.ensures ∙ comma_none _ _ (rw h at (sym c.to_comma.ensures) ∙ c.in_err-k.was)
