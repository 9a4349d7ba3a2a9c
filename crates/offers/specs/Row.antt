-- 01's number of what an offer o to the table b is answered: "offering one tests 1 to 12", "Where several hold, the
-- lowest number is given".
use Rattle.std.specs.Prelude.{Bool, cond, not, ◌&&◌, leb}
use Rattle.text.specs.Kinds.{is_ephemeral}
use Rattle.event.specs.Answer.{or_else}
use Rattle.law.specs.Lists.{any}
use Rattle.law.specs.Table.{has_id, has_key}
use Rattle.table.specs.Layout.{Held, capacity_of, count_of}
use Rattle.table.specs.Events.{signed_events, of_held, view}
use Rattle.table.specs.Sound.{sound}
use Rattle.table.specs.Offer.{Offering, offering_row, offered_of}
use Rattle.wire.specs.Bytes.{Bytes, Row}

-- "new slot needed": it is not ephemeral, and neither its id nor its key is held
unfoldable pub needs_slot : Bytes → Held → Bool
needs_slot b h =
    not (is_ephemeral h.event.kind)
    && (not (any (has_id signed_events (of_held h)) (view b)) && not (any (has_key signed_events (of_held h)) (view b)))

-- "all in use"
unfoldable pub all_in_use : Bytes → Bool
all_in_use b = leb (capacity_of b) (count_of b)

-- rows 1 to 10 of what is offered; then 11, "table not sound"; then 12
unfoldable pub offer_row : Bytes → Offering → Row
offer_row b o = or_else (offering_row o) (cond (sound b) (cond (needs_slot b (offered_of o) && all_in_use b) 12 0) 11)
