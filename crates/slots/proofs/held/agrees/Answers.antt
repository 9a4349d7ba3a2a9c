-- A law for each way out.
use mathlib.Core.Bool.{false≢true}
use mathlib.Core.Path.{◌≡◌, sym, ◌∙◌}
use native.Mathlib.Omega.{arith}
use borrow.Author.Tests.{ne_eqb, eqb-true, eqb-false}
use Rattle.wire.specs.Field.{unsigned}
use Rattle.wire.proofs.Fields.{bits_back}
use Rattle.slots.proofs.Fields.{other_time, other_kind, by_d}
use Rattle.slots.proofs.held.agrees.Goals as goal
use Rattle.slots.proofs.held.agrees.Goals.{then-le_at-to_unsigned, else-le_at-to_unsigned}

pub returns-then-le_at-t : goal.returns-then-le_at-t
returns-then-le_at-t c =
    let u : c.to_unsigned.result ≡ unsigned c.args.t.time = bits_back c.args.t.time (omega arith) c.to_unsigned.ensures in
    elim c.if-le_at-to_unsigned.branch [
      | then-le_at-to_unsigned w ↦ by_d _ _ c.le_at.ensures.is u w.if-le_at-to_unsigned.true w.le_at-then-le_at-to_unsigned.ensures.is
          (eqb-true _ _ (sym w.value-is ∙ c.if-le_at-t.true)) c.le_at-then-le_at-t.ensures.is c.le_at-then-le_at-t-2.ensures.is c.d_agrees.ensures
      | else-le_at-to_unsigned w ↦ absurd (false≢true (sym (w.value-is ∙ ne_eqb _ _ w.if-le_at-to_unsigned.false) ∙ c.if-le_at-t.true))
    ]

pub returns-else-le_at-t : goal.returns-else-le_at-t
returns-else-le_at-t c =
    let u : c.to_unsigned.result ≡ unsigned c.args.t.time = bits_back c.args.t.time (omega arith) c.to_unsigned.ensures in
    elim c.if-le_at-to_unsigned.branch [
      | then-le_at-to_unsigned w ↦ c.if-le_at-t.false ∙ other_kind _ _ c.le_at.ensures.is u w.if-le_at-to_unsigned.true w.le_at-then-le_at-to_unsigned.ensures.is
          (eqb-false _ _ (sym w.value-is ∙ c.if-le_at-t.false))
      | else-le_at-to_unsigned w ↦ c.if-le_at-t.false ∙ other_time _ _ c.le_at.ensures.is u w.if-le_at-to_unsigned.false
    ]
