-- Each list is found behind those found before it, which stay.
use mathlib.Core.Path.{refl}
use native.Mathlib.Omega.{arith}
use Rattle.matching.proofs.found.Ways.{ids_clean, authors_clean, kinds_clean, conditions_clean, found_all}
use Rattle.matching.proofs.found.find.Goals as goal

pub string_members-ids-requires : goal.string_members-ids-requires
string_members-ids-requires c = let (x, y) = ids_clean c.args.m.now c.args.p c.requires.p_value in record { l_value = x; l_value_2 = y; strings_room_in_bounds = omega (arith, c.requires.row_room_in_bounds) }

pub string_members-authors-requires : goal.string_members-authors-requires
string_members-authors-requires c =
    let (x, y) = authors_clean c.args.m.now c.args.p c.requires.p_value in
    record { l_value = x; l_value_2 = y; strings_room_in_bounds = omega (arith, c.requires.row_room_in_bounds, c.string_members-ids.ensures.long) }

pub number_members-kinds-requires : goal.number_members-kinds-requires
number_members-kinds-requires c =
    let (x, y, z) = kinds_clean c.args.m.now c.args.p c.requires.p_value in
    record {
      l_value = x;
      l_value_2 = y;
      l_value_3 = z;
      kinds_room_in_bounds = omega (arith, c.requires.row_room_in_bounds, c.string_members-ids.ensures.long, c.string_members-authors.ensures.long);
    }

pub condition_members-found-requires : goal.condition_members-found-requires
condition_members-found-requires c =
    let (x, y) = conditions_clean c.args.m.now c.args.p c.requires.p_value in
    record {
      l_value = x;
      l_value_2 = y;
      row_room_in_bounds = omega (arith, c.requires.row_room_in_bounds, c.string_members-ids.ensures.long, c.string_members-authors.ensures.long, c.number_members-kinds.ensures.long);
    }

pub returns : goal.returns
returns c = found_all c.args.m.now c.args.p _ c.string_members-ids.ensures c.string_members-authors.ensures c.number_members-kinds.ensures c.condition_members-found.ensures refl refl refl
