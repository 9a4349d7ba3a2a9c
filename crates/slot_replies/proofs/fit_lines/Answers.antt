use mathlib.Core.Path.{◌≡◌, refl, sym, ◌∙◌}
use native.Mathlib.Omega.{arith}
use lib.ListN.{length}
use Rattle.slot_replies.proofs.Lines.{fitted_stop, fitted_turn, fitted_end}
use Rattle.slot_replies.proofs.fit_lines.Goals as goal

pub returns-in_default : goal.returns-in_default
returns-in_default c = fitted_stop _ _ _ _ _ c.loop-i-test.true refl
    c.slot-s.ensures (sym c.in_default.is ∙ c.line_left.ensures) ∙
    sym c.loop-i.invariant

pub loop-i-preserved : goal.loop-i-preserved
loop-i-preserved c = c.loop-i.invariant ∙ fitted_turn _ _ _ _ _ c.loop-i-test.true refl
    c.slot-s.ensures
    (sym c.in-Some.is ∙ c.line_left.ensures)

pub returns : goal.returns
returns c =
    let e : length c.args.ks.now ≡ c.loop-i.i = omega arith in
    rw e (fitted_end _ _ _ _ _ c.loop-i-test.false ∙ sym c.loop-i.invariant)
