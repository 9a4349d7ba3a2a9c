-- What was read from an accepted message passes the test of lent parts: proved in proofs/Passes.antt.
use Rattle.std.specs.Prelude.{ℕ, ◌≤◌, ◌≡◌, length, take, Ok}
use mathlib.Core.List.{List, map, Memᴰ}
use Rattle.message.specs.declared.EventParts.{EventParts}
use Rattle.message.specs.declared.ReqParts.{ReqParts}
use Rattle.message.specs.declared.Element.TheVariants.{At}
use Rattle.message.specs.declared.Message.TheVariants.{Event, Req}
use Rattle.message.specs.Parts.{filter_at, filters_at}
use Rattle.message.specs.Lists.{elements_from}
use Rattle.message.specs.Read.{read_of}
use Rattle.message.specs.Lent.{event_row, filter_row}
use Rattle.wire.specs.Bytes.{Bytes}

abbrev pub EventPasses : Type 0
EventPasses = (s : List ℕ) (p : EventParts) → read_of s ≡ Ok (Event p) → event_row s p ≡ 0

-- the filters of a REQ, one after the other
abbrev pub request_filters : Bytes → ReqParts → List ℕ
request_filters s r = elements_from s (At r.filters)

abbrev pub FiltersPass : Type 0
FiltersPass =
    (s : List ℕ) (r : ReqParts) → read_of s ≡ Ok (Req r) → (v : ℕ) → Memᴰ v (request_filters s r) →
    filter_row s (filter_at s v) ≡ 0

abbrev pub FiltersCounted : Type 0
FiltersCounted =
    (s : List ℕ) (r : ReqParts) → read_of s ≡ Ok (Req r) → (1 ≤ length (request_filters s r)) ×
    (length (request_filters s r) ≤ 4)

-- as values they are all there
pub record Taken (s : List ℕ) (r : ReqParts) : Type 0 where
  pub some : 1 ≤ (filters_at s r.filters).n
  pub few : (filters_at s r.filters).n ≤ 4
  pub all : take (filters_at s r.filters).n (filters_at s r.filters).parts ≡ map (filter_at s) (request_filters s r)

abbrev pub FiltersTaken : Type 0
FiltersTaken = (s : List ℕ) (r : ReqParts) → read_of s ≡ Ok (Req r) → Taken s r
