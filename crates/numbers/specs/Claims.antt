-- What was read from a message and written as a row of numbers gives the same parts back, whatever stands behind it in
-- the row.
use Rattle.std.specs.Prelude.{◌≡◌, List, ◌++◌, ℕ, take, Ok}
use Rattle.message.specs.declared.EventParts.{EventParts}
use Rattle.message.specs.declared.ReqParts.{ReqParts}
use Rattle.message.specs.declared.Message.TheVariants.{Event, Req}
use Rattle.message.specs.Parts.{filters_at}
use Rattle.message.specs.Read.{read_of}
use Rattle.numbers.specs.Numbers.{event_numbers, request_numbers}
use Rattle.numbers.specs.Parts.{event_from, filters_from, filter_count}

abbrev pub EventBack : Type 0
EventBack = (s : List ℕ) (p : EventParts) → read_of s ≡ Ok (Event p) → (x : List ℕ) → event_from (event_numbers p ++ x) ≡ p

-- the filters that count; behind them others may stand
pub record SameFilters (s : List ℕ) (r : ReqParts) (l : List ℕ) : Type 0 where
  pub count : filter_count l ≡ (filters_at s r.filters).n
  pub parts : take (filter_count l) (filters_from l) ≡ take (filters_at s r.filters).n
      (filters_at s r.filters).parts

abbrev pub FiltersBack : Type 0
FiltersBack = (s : List ℕ) (r : ReqParts) → read_of s ≡ Ok (Req r) → (x : List ℕ) → SameFilters s r (request_numbers s r ++ x)
