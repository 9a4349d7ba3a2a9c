-- Demand 3, at the table's bytes.
use Rattle.law.proofs.Machine.{demand_3_on, relays_fit_on}
use Rattle.law.specs.Demand3.{RelaysFitOn}
use Rattle.table.specs.Events.{Signature, table_events}
use Rattle.table.specs.Demand3.{relay, Demand3}
use Rattle.table.proofs.Good.{Good}
use Rattle.table.proofs.Distinct.{event_laws}
use Rattle.table.proofs.Faithful.{faithful}
use Rattle.table.proofs.Passes.{passes}

pub demand_3 : Demand3
demand_3 = demand_3_on table_events Signature relay Good faithful event_laws passes

-- neither of two relays lacks room exactly when the valid events of both histories fit both
pub relays_fit : RelaysFitOn table_events Signature relay
relays_fit = relays_fit_on table_events Signature relay Good faithful event_laws passes
