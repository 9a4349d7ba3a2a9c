-- Head and filters in a row of their own; what they take of it is lent on.
use mathlib.Core.Path.{refl, ap, ◌∙◌}
use mathlib.Core.List.{[], ◌∷◌, ◌++◌}
use lib.ListN.{take}
use Rattle.message.specs.declared.Filters.{Filters}
use Rattle.numbers.specs.Numbers.{parts_numbers}
use Rattle.capi.proofs.Laws.{four_parts, request_taken, request_length, lent_as}
use Rattle.capi.proofs.messages.put_request.Goals as goal

pub slice_bounds-put_row-end : goal.slice_bounds-put_row-end
slice_bounds-put_row-end c = request_length _ _ c.filters_at-fs.result.parts c.filters_at-fs.result.n refl refl (four_parts _ _ c.filters_at-fs.ensures) c.put-a.ensures c.put_filters-e.ensures

pub returns : goal.returns
returns c =
    let both = let a = c.args.p in
    lent_as _
    (request_taken _ _ c.filters_at-fs.result.parts c.filters_at-fs.result.n refl refl (four_parts _ _ c.filters_at-fs.ensures) c.put-a.ensures c.put_filters-e.ensures
    ∙ ap (λ (F : Filters). (2 ∷ a.subscription.start ∷ a.subscription.len ∷ F.n ∷ []) ++ parts_numbers (take F.n F.parts)) c.filters_at-fs.ensures)
    c.put_row.ensures.value c.put_row.ensures.out_after in record { value = both.0; out_after = both.1 }
