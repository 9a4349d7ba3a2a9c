-- The program's table is one that offers lead to from a fresh one, so it is sound and demand 3 holds of it.
use mathlib.Core.Path.{ap, ◌∙◌}
use mathlib.Core.List.{map}
use lib.ListN.{replicate}
use Rattle.law.proofs.Machine.{good_run}
use Rattle.table.specs.Layout.{table_size}
use Rattle.table.specs.Events.{Signature, table_events}
use Rattle.table.specs.Sound.{sound}
use Rattle.table.specs.Offer.{as_message}
use Rattle.table.specs.Demand3.{Fresh, relay}
use Rattle.table.proofs.Formatted.{just_formatted}
use Rattle.table.proofs.Good.{Good}
use Rattle.table.proofs.Faithful.{faithful}
use Rattle.table.proofs.Demand3.{demand_3}
use Rattle.program.specs.Program.{program_slots, fresh_table}
use Rattle.program.specs.Claims.Program.{StaysSound, ProgramSettles}
use Rattle.program.proofs.Example.{row_0}
use Rattle.program.proofs.Which.{all_offered}

fresh : Fresh fresh_table
fresh = just_formatted program_slots (replicate (table_size program_slots) 0) row_0

pub stays_sound : StaysSound
stays_sound ms =
    ap sound (all_offered fresh_table ms)
    ∙ (good_run table_events Signature relay Good faithful fresh_table (map as_message ms) fresh).is_sound

pub program_settles : ProgramSettles
program_settles ms ids fit =
    rw (all_offered fresh_table ms) (demand_3.held_set fresh_table (map as_message ms) fresh ids fit)
