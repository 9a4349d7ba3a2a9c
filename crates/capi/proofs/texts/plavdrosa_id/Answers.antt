-- `id_of` got the body that the numbers give: its row is answered, or else what `put_digest` says of its id.
use mathlib.Core.Path.{sym, ap, ◌∙◌}
use Rattle.event.specs.Answer.{identified}
use Rattle.event.specs.declared.Identified.{Identified}
use Rattle.capi.proofs.Laws.{body_of_lem, lent_refused, lent_on}
use Rattle.capi.proofs.texts.plavdrosa_id.Goals as goal

pub returns-then-row-ne0 : goal.returns-then-row-ne0
returns-then-row-ne0 c =
    let e = c.id_of-x.ensures ∙ ap (identified _) (body_of_lem _ c.event_from-p.ensures) in
    let both = lent_refused _ _ _ _ (ap (λ (y : Identified). y.row) e) c.if-row-ne0.true in
    record { value = both.0; out_after = both.1 }

pub returns : goal.returns
returns c =
    let e = c.id_of-x.ensures ∙ ap (identified _) (body_of_lem _ c.event_from-p.ensures) in
    let p = c.put_digest.ensures in
    let both = lent_on _ _ _ _ _ (sym (ap (λ (y : Identified). y.row) e) ∙ c.if-row-ne0.false) (ap (λ (y : Identified). y.id) e) p.value p.out_after in
    record { value = both.0; out_after = both.1 }
