-- The bytes are those of the filter found, and that is the filter of the parts.
use native.Mathlib.Omega.{arith}
use borrow.Author.Rules.{rules}
use Rattle.matching.proofs.answers.Asked.{of_parts}
use Rattle.matching.proofs.answers.ask.Goals as goal

pub find-f-requires : goal.find-f-requires
find-f-requires c = record { p_value = c.requires.table_value.1; row_room_in_bounds = search rules }

pub fill-requires : goal.fill-requires
fill-requires c =
    let q = c.requires.c_value in
    record { table_value = c.requires.table_value.0; c_bound = (omega arith, q.1, q.2, q.3) }

pub returns : goal.returns
returns c = of_parts c.find-f.ensures c.fill.ensures
