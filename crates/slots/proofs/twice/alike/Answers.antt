-- Unlike marks, or the ids and the keys compared.
use mathlib.Core.Path.{◌≡◌, sym, ap₂, ◌∙◌}
use native.Mathlib.Omega.{arith}
use borrow.Author.Tests.{ne_eqb}
use Rattle.table.specs.Layout.{slot_at}
use Rattle.slots.specs.Slots.{same_id_in, same_key_in}
use Rattle.slots.proofs.Marks.{ids_differ, keys_differ, clash_id, clash_other}
use Rattle.slots.proofs.twice.alike.Goals as goal
use Rattle.slots.proofs.twice.alike.Goals.{then-ids-i, else-ids-i}

pub returns-then-same_id : goal.returns-then-same_id
returns-then-same_id c =
    let t = c.args.table.now in
    let e : c.if-ids-i.value ≡ same_id_in (slot_at t c.args.i) (slot_at t c.args.j) = elim c.if-ids-i.branch [
      | then-ids-i w ↦ w.value-is ∙ w.same_id.ensures ∙ ap₂ same_id_in w.slot.ensures w.slot-then-ids-i.ensures
      | else-ids-i w ↦ w.value-is ∙ ne_eqb _ _ w.if-ids-i.false ∙ ids_differ c.requires.marked c.args.i c.args.j (omega arith) (omega arith) w.if-ids-i.false
    ] in
    c.if-same_id.true ∙ sym (clash_id _ _ (sym e ∙ c.if-same_id.true))

pub returns-then-keys-i : goal.returns-then-keys-i
returns-then-keys-i c =
    let t = c.args.table.now in
    let e : c.if-ids-i.value ≡ same_id_in (slot_at t c.args.i) (slot_at t c.args.j) = elim c.if-ids-i.branch [
      | then-ids-i w ↦ w.value-is ∙ w.same_id.ensures ∙ ap₂ same_id_in w.slot.ensures w.slot-then-ids-i.ensures
      | else-ids-i w ↦ w.value-is ∙ ne_eqb _ _ w.if-ids-i.false ∙ ids_differ c.requires.marked c.args.i c.args.j (omega arith) (omega arith) w.if-ids-i.false
    ] in
    c.same_key.ensures ∙ ap₂ same_key_in c.slot-then-keys-i.ensures c.slot-then-keys-i-2.ensures ∙ sym (clash_other _ _ (sym e ∙ c.if-same_id.false))

pub returns-else-keys-i : goal.returns-else-keys-i
returns-else-keys-i c =
    let t = c.args.table.now in
    let e : c.if-ids-i.value ≡ same_id_in (slot_at t c.args.i) (slot_at t c.args.j) = elim c.if-ids-i.branch [
      | then-ids-i w ↦ w.value-is ∙ w.same_id.ensures ∙ ap₂ same_id_in w.slot.ensures w.slot-then-ids-i.ensures
      | else-ids-i w ↦ w.value-is ∙ ne_eqb _ _ w.if-ids-i.false ∙ ids_differ c.requires.marked c.args.i c.args.j (omega arith) (omega arith) w.if-ids-i.false
    ] in
    ne_eqb _ _ c.if-keys-i.false ∙ keys_differ c.requires.marked c.args.i c.args.j (omega arith) (omega arith) c.if-keys-i.false
    ∙ sym (clash_other _ _ (sym e ∙ c.if-same_id.false))
