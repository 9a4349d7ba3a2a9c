-- The table is fresh, and the buffers are long enough.
use native.Mathlib.Omega.{arith}
use Rattle.relay.proofs.Turns.{is_fresh_lem}
use Rattle.relay.proofs.main.Goals as goal

pub run-requires : goal.run-requires
run-requires c = record {
  table_value = is_fresh_lem c.format.ensures.table_after c.zeros-table.ensures;
  most_line_in_bounds = omega (arith, c.line_zeros-line.ensures);
  program_slots_in_bounds = omega (arith, c.output_zeros-out.ensures);
}
