-- Calls on filters for Rust and C: what matching and a REQ's answer tell, with the parts that rows of numbers give.
use Rattle.std.specs.Prelude.{ℕ, List, Result, Ok, Err, Bool, true, false}
use Rattle.numbers.specs.Parts.{event_from, filters_from, filter_count}
use Rattle.query.specs.Answer.{matched, listed_row}
use Rattle.query.specs.Answer as query

-- ---- whether an event matches some filter
abbrev pub match_of : (b e m l : List ℕ) → Result Bool ℕ
match_of b e m l = matched b (event_from e) m (filters_from l) (filter_count l)

-- the row that refuses the parts; 0 says that it matches, and a number that no row has that it does not
abbrev pub matched_number : Result Bool ℕ → ℕ
matched_number (Ok true) = 0
matched_number (Ok false) = 103
matched_number (Err r) = r

-- ---- a REQ's answer: the row, the slots in a lent row of numbers, and how many they are in a number of its own, which
-- stays on a refusal
abbrev pub list_of : (t m l row : List ℕ) → Result ℕ ℕ
list_of t m l row = query.listed t m (filters_from l) (filter_count l) row

abbrev pub list_out : (t m l row : List ℕ) → List ℕ
list_out t m l row = listed_row t m (filters_from l) (filter_count l) row

abbrev pub count_or : Result ℕ ℕ → ℕ → ℕ
count_or (Ok n) k = n
count_or (Err r) k = k
