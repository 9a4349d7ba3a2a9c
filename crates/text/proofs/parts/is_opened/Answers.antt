-- The tests in the definition's order; in a text under 70 bytes the pubkey's closing quote and comma do not stand.
use mathlib.Core.Path.{sym, ◌∙◌}
use mathlib.Core.Bool.{false≢true}
use borrow.Author.Tests.{lt-leb}
use Rattle.text.proofs.Fields.{opens_short, opens_other, opens_no, opens_is}
use Rattle.text.proofs.parts.is_opened.Goals as goal
use Rattle.text.proofs.parts.is_opened.Goals.{then-t-ge70, else-t-ge70, then-stands, else-stands}

pub returns-then-is_pubkey : goal.returns-then-is_pubkey
returns-then-is_pubkey c = elim c.if-stands.branch [
  | then-stands w ↦ elim c.if-t-ge70.branch [
    | then-t-ge70 v ↦ c.stands-then-is_pubkey.ensures ∙ opens_is _ (sym v.stands.ensures ∙ sym v.value-is ∙ w.if-stands.true) (sym w.is_pubkey.ensures ∙ sym w.value-is ∙ c.if-is_pubkey.true)
    | else-t-ge70 v ↦ absurd (false≢true (sym (lt-leb 70 _ v.if-t-ge70.false) ∙ sym v.value-is ∙ w.if-stands.true))
  ]
  | else-stands w ↦ absurd (false≢true (sym w.if-stands.false ∙ sym w.value-is ∙ c.if-is_pubkey.true))
]

pub returns-else-is_pubkey : goal.returns-else-is_pubkey
returns-else-is_pubkey c = c.if-is_pubkey.false ∙ elim c.if-stands.branch [
  | then-stands w ↦ elim c.if-t-ge70.branch [
    | then-t-ge70 v ↦ opens_no _ (sym v.stands.ensures ∙ sym v.value-is ∙ w.if-stands.true) (sym w.is_pubkey.ensures ∙ sym w.value-is ∙ c.if-is_pubkey.false)
    | else-t-ge70 v ↦ absurd (false≢true (sym (lt-leb 70 _ v.if-t-ge70.false) ∙ sym v.value-is ∙ w.if-stands.true))
  ]
  | else-stands w ↦ elim c.if-t-ge70.branch [
    | then-t-ge70 v ↦ opens_other _ (sym v.stands.ensures ∙ sym v.value-is ∙ w.if-stands.false)
    | else-t-ge70 v ↦ opens_short _ v.if-t-ge70.false
  ]
]
