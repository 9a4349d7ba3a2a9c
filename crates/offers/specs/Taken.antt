-- A message m taken to the table b: it is read, and offered if it is an EVENT.
use Rattle.std.specs.Prelude.{◌≡◌, List, ℕ, Result, Ok, Err}
use Rattle.shape.specs.Offsets.{refusal_for}
use Rattle.shape.specs.declared.Refusal.{Refusal}
use Rattle.message.specs.Read.{read_of}
use Rattle.message.specs.declared.EventParts.{EventParts}
use Rattle.message.specs.declared.Message.{Message}
use Rattle.message.specs.declared.Message.TheVariants as message
use Rattle.table.specs.Layout.{slot_bytes}
use Rattle.table.specs.Offer.{as_message, message_offer_row, parts_of, held_of, answer, offer_number, next}
use Rattle.table.specs.declared.Offered.{Offered}
use Rattle.offers.specs.Row.{offer_row}
use Rattle.offers.specs.declared.Taken.{Taken}
use Rattle.offers.specs.declared.Taken.TheVariants.{Event, Req, Close}
use Rattle.wire.specs.Bytes.{Bytes, Row}

-- by what was read, where an EVENT's offer is answered a: the place of its id, and that answer
abbrev pub taken_as : Result Offered Refusal → Result Message Refusal → Result Taken Refusal
taken_as a (Ok (message.Event p)) = Ok (Event p.id a)
taken_as a (Ok (message.Req q)) = Ok (Req q)
taken_as a (Ok (message.Close s)) = Ok (Close s)
taken_as a (Err r) = Err r

unfoldable pub taken : Bytes → Bytes → Result Taken Refusal
taken b m = taken_as (answer b (as_message m)) (read_of m)

-- the number of 01: "Reading a message tests rows 1 to 8; offering one tests 1 to 12"
abbrev pub taken_number : Result Taken Refusal → ℕ
taken_number (Ok (Event i a)) = offer_number a
taken_number (Ok (Req q)) = 0
taken_number (Ok (Close s)) = 0
taken_number (Err r) = r.row

abbrev pub taken_row_as : ℕ → Result Message Refusal → ℕ
taken_row_as k (Ok (message.Event p)) = k
taken_row_as k (Ok (message.Req q)) = 0
taken_row_as k (Ok (message.Close s)) = 0
taken_row_as k (Err r) = r.row

unfoldable pub taken_row : Bytes → Bytes → Row
taken_row b m = taken_row_as (offer_row b (as_message m)) (read_of m)

-- the table afterwards, t where an EVENT was offered
abbrev pub table_as : (b t : Bytes) (x : Result Message Refusal) → Bytes
table_as b t (Ok (message.Event p)) = t
table_as b t (Ok (message.Req q)) = b
table_as b t (Ok (message.Close s)) = b
table_as b t (Err r) = b

unfoldable pub taken_table : Bytes → Bytes → Bytes
taken_table b m = table_as b (next b (as_message m)) (read_of m)

-- ---- what private functions hand on: the parts of the event of m, and o the bytes of its slot; or the row that
-- refuses its offer
abbrev pub Made : (m : Bytes) (x : Result (EventParts × ℕ) Refusal) (o : Bytes) → Type 0
Made m (Ok (p, n)) o =
    (read_of m ≡ Ok (message.Event p)) × ((0 ≡ message_offer_row m) × (o ≡ slot_bytes (held_of m (parts_of m))))
Made m (Err r) o = (r ≡ refusal_for m (message_offer_row m)) × (message_offer_row m ≡ 0 → ⊥)

pub record Makes (m : List ℕ) (s : Result (EventParts × ℕ) Refusal) (o : List ℕ) : Type 0 where
  pub is : Made m s o
