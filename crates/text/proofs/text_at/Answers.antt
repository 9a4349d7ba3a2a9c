-- The parts in their order, each by its contract.
use mathlib.Core.Path.{sym, ◌∙◌}
use mir.Syntax.{w64}
use mir.ValLaws.{to_z-of_z}
use borrow.Author.Rules.{rules}
use Rattle.text.proofs.Texts.{text_opening, text_time, text_kind, text_rest, text_read}
use Rattle.text.proofs.Whole.{text_not}
use Rattle.text.proofs.text_at.Goals as goal
use Rattle.text.proofs.text_at.Goals.{then-not-is_opened-via-then-not-is_opened, then-not-is_opened-via-else-not-is_opened+then-not-is_text}

pub returns-then-not-is_opened : goal.returns-then-not-is_opened
returns-then-not-is_opened c = elim c.then-not-is_opened.branch [
  | then-not-is_opened-via-then-not-is_opened w ↦ text_opening _ c.requires (sym c.is_opened.ensures ∙ w.if-not-is_opened.true)
  | then-not-is_opened-via-else-not-is_opened+then-not-is_text w ↦ text_not _ c.requires (sym w.is_text.ensures ∙ w.if-not-is_text.true)
]

pub returns-in_err-time : goal.returns-in_err-time
returns-in_err-time c = rw c.from_residual.ensures (text_time _ c.requires (sym c.is_opened.ensures ∙ c.if-not-is_opened.false) (sym c.in_err-time.was ∙ c.time_at.ensures))

pub returns-in_err-kind : goal.returns-in_err-kind
returns-in_err-kind c =
    rw c.from_residual-in_err-kind.ensures
    (text_kind _ c.requires (sym c.is_opened.ensures ∙ c.if-not-is_opened.false) _ _ (sym c.in_ok-time.was ∙ c.time_at.ensures)
    (sym c.in_err-kind.was ∙ c.kind_at.ensures))

pub returns-in_err-content : goal.returns-in_err-content
returns-in_err-content c =
    rw c.from_residual-in_err-content.ensures
    (text_rest _ c.requires (sym c.is_opened.ensures ∙ c.if-not-is_opened.false) _ _ (sym c.in_ok-time.was ∙ c.time_at.ensures) _ _
    (sym c.in_ok-kind.was ∙ c.kind_at.ensures) (sym c.in_err-content.was ∙ c.rest_at.ensures))

pub returns : goal.returns
returns c =
    let z = to_z-of_z w64 c.in_ok-time.time (record { sfits = search rules }) in
    rw z
    (text_read _ c.requires (sym c.is_opened.ensures ∙ c.if-not-is_opened.false) _ _ (sym c.in_ok-time.was ∙ c.time_at.ensures) _ _
    (sym c.in_ok-kind.was ∙ c.kind_at.ensures) _ _ (sym c.in_ok-content.was ∙ c.rest_at.ensures))
