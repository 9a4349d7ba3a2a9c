-- A law for each way out.
use mathlib.Core.Bool.{false≢true}
use mathlib.Core.Logic.{◌⊎◌}
use mathlib.Core.Path.{sym, ◌∙◌}
use Prim.Native.Nat.{◌<◌, ◌≤◌}
use borrow.Author.Rules.{rules}
use borrow.Author.Tests.{eqb-true, eqb-false, lt-leb}
use Rattle.wire.specs.Limits.{most_slots}
use Rattle.slots.proofs.Whole.{no_header, outside, cut_off, too_full, other_size, first_decides}
use Rattle.slots.proofs.header.header_sound.Goals as goal
use Rattle.slots.proofs.header.header_sound.Goals.{then-not-contains-via-then-not-contains, then-not-contains-via-else-not-contains+then-table-n, then-le_at-n, else-le_at-n}

pub returns-then-table-lt-HEADER_SIZE : goal.returns-then-table-lt-HEADER_SIZE
returns-then-table-lt-HEADER_SIZE c = no_header _ c.if-table-lt-HEADER_SIZE.true

pub returns-then-not-contains : goal.returns-then-not-contains
returns-then-not-contains c =
    elim c.then-not-contains.branch [
      | then-not-contains-via-then-not-contains w ↦
          let g : (c.le_at.result < 1) ⊎ (most_slots < c.le_at.result) = search rules in
          outside _ c.if-table-lt-HEADER_SIZE.false c.le_at.ensures.is g
      | then-not-contains-via-else-not-contains+then-table-n w ↦
          let g : 1 ≤ c.le_at.result = search rules in
          let h : c.le_at.result ≤ most_slots = search rules in
          cut_off _ c.if-table-lt-HEADER_SIZE.false c.le_at.ensures.is g h w.if-table-n.true
    ]

pub returns-then-le_at-eq-SLOT_SIZE_FIELD : goal.returns-then-le_at-eq-SLOT_SIZE_FIELD
returns-then-le_at-eq-SLOT_SIZE_FIELD c =
    let g : 1 ≤ c.le_at.result = search rules in
    let h : c.le_at.result ≤ most_slots = search rules in
    elim c.if-le_at-n.branch [
      | then-le_at-n w ↦ first_decides _ c.if-table-lt-HEADER_SIZE.false c.le_at.ensures.is g h c.if-table-n.false c.le_at-2.ensures.is w.if-le_at-n.true
          w.le_at-then-le_at-n.ensures.is (eqb-true _ _ (sym w.value-is ∙ c.if-le_at-eq-SLOT_SIZE_FIELD.true)) c.le_at-then-le_at-eq-SLOT_SIZE_FIELD.ensures.is
      | else-le_at-n w ↦ absurd (false≢true (sym (w.value-is ∙ lt-leb _ _ w.if-le_at-n.false) ∙ c.if-le_at-eq-SLOT_SIZE_FIELD.true))
    ]

pub returns-else-le_at-eq-SLOT_SIZE_FIELD : goal.returns-else-le_at-eq-SLOT_SIZE_FIELD
returns-else-le_at-eq-SLOT_SIZE_FIELD c =
    let g : 1 ≤ c.le_at.result = search rules in
    let h : c.le_at.result ≤ most_slots = search rules in
    elim c.if-le_at-n.branch [
      | then-le_at-n w ↦ c.if-le_at-eq-SLOT_SIZE_FIELD.false ∙ other_size _ c.if-table-lt-HEADER_SIZE.false c.le_at.ensures.is g h c.if-table-n.false c.le_at-2.ensures.is
          w.if-le_at-n.true w.le_at-then-le_at-n.ensures.is (eqb-false _ _ (sym w.value-is ∙ c.if-le_at-eq-SLOT_SIZE_FIELD.false))
      | else-le_at-n w ↦ c.if-le_at-eq-SLOT_SIZE_FIELD.false ∙ too_full _ c.if-table-lt-HEADER_SIZE.false c.le_at.ensures.is g h c.if-table-n.false c.le_at-2.ensures.is w.if-le_at-n.false
    ]
