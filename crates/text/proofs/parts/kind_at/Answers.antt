-- What `numeral` says of the bytes before the comma.
use mathlib.Core.Path.{refl, sym, ◌∙◌}
use mir.Syntax.{w64}
use mir.ValLaws.{to_z-of_z}
use borrow.Author.Rules.{rules}
use Rattle.text.proofs.Fields.{comma_told, no_comma, kind_past, kind_no, kind_over, kind_is}
use Rattle.text.proofs.parts.kind_at.Goals as goal

pub returns-in_err-n : goal.returns-in_err-n
returns-in_err-n c = c.from_residual.ensures ∙ kind_past _ _ _ refl (no_comma _ _ (sym c.in_err-n.was ∙ c.next_comma.ensures))

pub returns-in_default : goal.returns-in_default
returns-in_default c =
    let (e, h) = comma_told _ _ _ (sym c.in_ok-n.was ∙ c.next_comma.ensures) in
    kind_no _ _ _ e h _ c.read_whole.ensures c.in_default.not-Value

pub returns-in_err-kind : goal.returns-in_err-kind
returns-in_err-kind c =
    let (e, h) = comma_told _ _ _ (sym c.in_ok-n.was ∙ c.next_comma.ensures) in
    let z = to_z-of_z w64 c.in-Value.z (record { sfits = search rules }) in
    c.from_residual-in_err-kind.ensures
    ∙ kind_over _ _ _ e h _ c.read_whole.ensures _ c.in-Value.is _ (rw z at c.try_from.ensures) (sym c.ok.ensures.value ∙ c.in_err-kind.was)

pub returns : goal.returns
returns c =
    let (e, h) = comma_told _ _ _ (sym c.in_ok-n.was ∙ c.next_comma.ensures) in
    let z = to_z-of_z w64 c.in-Value.z (record { sfits = search rules }) in
    kind_is _ _ _ e h _ c.read_whole.ensures _ c.in-Value.is _ (rw z at c.try_from.ensures) _ (sym c.ok.ensures.value ∙ c.in_ok-kind.was)
