use mathlib.Core.Path.{refl, sym, ◌∙◌}
use native.Mathlib.Omega.{arith}
use Rattle.matching.proofs.found.Objects.{object_of_lem, passing_start, passing_none, passing_spent}
use Rattle.matching.proofs.found.Objects.{passing_other, passing_list, passing_more, letter_says}
use Rattle.matching.proofs.found.conditions_at.Goals as goal

pub loop-k-init : goal.loop-k-init
loop-k-init c = passing_start _ _ _ _ refl (object_of_lem _ _ c.requires.v_value c.requires.v_value_2) c.first_named-x.ensures

pub returns-in_default : goal.returns-in_default
returns-in_default c = passing_none c.loop-k.invariant c.in_default.is

pub loop-k-preserved-then-c-eq0 : goal.loop-k-preserved-then-c-eq0
loop-k-preserved-then-c-eq0 c = passing_other c.loop-k.invariant c.in-Some.is c.value_place-w.ensures c.next_named-x.ensures
    (sym (letter_says _ _ c.letter-c.ensures c.spelled.ensures) ∙ c.if-c-eq0.true)

pub strings_at-len-requires : goal.strings_at-len-requires
strings_at-len-requires c =
    let g = c.loop-k.invariant in
    let (h, a, b) = passing_list g c.in-Some.is c.value_place-w.ensures (sym (letter_says _ _ c.letter-c.ensures c.spelled.ensures)) c.if-c-eq0.false in
    record { v_value = a; v_value_2 = b; strings_room_in_bounds = omega (arith, h, g.long, c.requires.row_room_in_bounds) }

pub loop-k-preserved : goal.loop-k-preserved
loop-k-preserved c = passing_more c.loop-k.invariant c.in-Some.is c.value_place-w.ensures (sym (letter_says _ _ c.letter-c.ensures c.spelled.ensures)) c.if-c-eq0.false
    c.next_named-x.ensures c.strings_at-len.ensures

pub overflow_mul-from : goal.overflow_mul-from
overflow_mul-from c =
    let (h, a, b) = passing_list c.loop-k.invariant c.in-Some.is c.value_place-w.ensures (sym (letter_says _ _ c.letter-c.ensures c.spelled.ensures)) c.if-c-eq0.false in
    omega (arith, h)

pub overflow_add-from : goal.overflow_add-from
overflow_add-from c =
    let (h, a, b) = passing_list c.loop-k.invariant c.in-Some.is c.value_place-w.ensures (sym (letter_says _ _ c.letter-c.ensures c.spelled.ensures)) c.if-c-eq0.false in
    omega (arith, h)

pub offset_bounds-list-n : goal.offset_bounds-list-n
offset_bounds-list-n c =
    let (h, a, b) = passing_list c.loop-k.invariant c.in-Some.is c.value_place-w.ensures (sym (letter_says _ _ c.letter-c.ensures c.spelled.ensures)) c.if-c-eq0.false in
    omega (arith, h)

pub bounds-list-n : goal.bounds-list-n
bounds-list-n c =
    let g = c.loop-k.invariant in
    let (h, a, b) = passing_list g c.in-Some.is c.value_place-w.ensures (sym (letter_says _ _ c.letter-c.ensures c.spelled.ensures)) c.if-c-eq0.false in
    omega (arith, h, g.size)

pub overflow_add-n : goal.overflow_add-n
overflow_add-n c =
    let (h, a, b) = passing_list c.loop-k.invariant c.in-Some.is c.value_place-w.ensures (sym (letter_says _ _ c.letter-c.ensures c.spelled.ensures)) c.if-c-eq0.false in
    omega (arith, h)

pub returns : goal.returns
returns c = passing_spent c.loop-k.invariant c.loop-k-test.false
