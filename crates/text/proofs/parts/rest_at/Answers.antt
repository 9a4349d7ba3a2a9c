-- The pieces in their order; the content stands between its quotes, and the text ends after the bracket.
use mathlib.Core.Path.{sym, ◌∙◌}
use native.Mathlib.Omega.{arith}
use Rattle.text.proofs.Texts.{rest_tags, rest_comma, rest_string, rest_bracket, rest_long, rest_got, string_long}
use Rattle.text.proofs.parts.rest_at.Goals as goal
use Rattle.text.proofs.parts.rest_at.Goals.{then-byte-ne93-via-then-byte-ne93, then-byte-ne93-via-else-byte-ne93+then-n-t}

pub returns-in_err-m : goal.returns-in_err-m
returns-in_err-m c = c.from_residual.ensures ∙ rest_tags _ _ (sym c.in_err-m.was ∙ c.tags_end.ensures)

pub returns-then-byte-ne44 : goal.returns-then-byte-ne44
returns-then-byte-ne44 c = rest_comma _ _ _ _ (sym c.in_ok-m.was ∙ c.tags_end.ensures) _ c.byte.ensures c.if-byte-ne44.true

pub returns-in_err-n : goal.returns-in_err-n
returns-in_err-n c = c.from_residual-in_err-n.ensures ∙ rest_string _ _ _ _ (sym c.in_ok-m.was ∙ c.tags_end.ensures) _ c.byte.ensures c.if-byte-ne44.false (sym c.in_err-n.was ∙ c.string_end.ensures)

pub returns-then-byte-ne93 : goal.returns-then-byte-ne93
returns-then-byte-ne93 c = elim c.then-byte-ne93.branch [
  | then-byte-ne93-via-then-byte-ne93 w ↦ rest_bracket _ _ _ _ (sym c.in_ok-m.was ∙ c.tags_end.ensures) _ c.byte.ensures c.if-byte-ne44.false _ (sym c.in_ok-n.was ∙ c.string_end.ensures) _ c.byte-2.ensures w.if-byte-ne93.true
  | then-byte-ne93-via-else-byte-ne93+then-n-t w ↦ rest_long _ _ _ _ (sym c.in_ok-m.was ∙ c.tags_end.ensures) _ c.byte.ensures c.if-byte-ne44.false _ (sym c.in_ok-n.was ∙ c.string_end.ensures) _ c.byte-2.ensures w.if-byte-ne93.false w.if-n-t.true
]

pub returns : goal.returns
returns c = rest_got _ _ _ _ (sym c.in_ok-m.was ∙ c.tags_end.ensures) _ c.byte.ensures c.if-byte-ne44.false _ (sym c.in_ok-n.was ∙ c.string_end.ensures) _ c.byte-2.ensures c.if-byte-ne93.false c.if-n-t.false

pub overflow_sub-content-2 : goal.overflow_sub-content-2
overflow_sub-content-2 c = let h = string_long _ _ _ (sym c.in_ok-n.was ∙ c.string_end.ensures) in omega arith
