-- What `numeral` says of the bytes before the comma.
use mathlib.Core.Path.{refl, sym, ◌∙◌}
use borrow.Author.Rules.{rules}
use Rattle.text.proofs.Fields.{comma_told, no_comma, time_past, time_no, time_is}
use Rattle.text.proofs.parts.time_at.Goals as goal

pub returns-in_err-n : goal.returns-in_err-n
returns-in_err-n c = c.from_residual.ensures ∙ time_past _ _ _ refl (no_comma _ _ (sym c.in_err-n.was ∙ c.next_comma.ensures))

pub returns-in_default : goal.returns-in_default
returns-in_default c =
    let (e, h) = comma_told _ _ _ (sym c.in_ok-n.was ∙ c.next_comma.ensures) in
    time_no _ _ _ e h _ c.read_whole.ensures c.in_default.not-Value

pub returns : goal.returns
returns c =
    let (e, h) = comma_told _ _ _ (sym c.in_ok-n.was ∙ c.next_comma.ensures) in
    time_is _ _ _ e h _ c.read_whole.ensures _ c.in-Value.is (search rules)
