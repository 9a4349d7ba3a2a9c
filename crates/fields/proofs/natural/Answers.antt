use mathlib.Core.Path.{sym, ap, ◌∙◌}
use Prim.Native.Nat.{◌+◌}
use lib.ListN.{drop}
use Rattle.fields.specs.Number.{natural_field}
use Rattle.fields.proofs.Numbers.{natural_turn, natural_end}
use Rattle.fields.proofs.natural.Goals as goal

pub loop-b-preserved : goal.loop-b-preserved
loop-b-preserved c =
    let p = c.args.p.now in
    ap (λ v. natural_field v (drop (c.loop-b.b-index + 1) p)) c.grown-v.ensures ∙ sym (natural_turn p c.loop-b.b-index c.loop-b.v c.loop-b-test.true)
    ∙ c.loop-b.invariant

pub returns : goal.returns
returns c = sym (natural_end _ _ _ c.loop-b-test.false) ∙ c.loop-b.invariant
