-- An output that is never too short, and a table that keeps its slots.
use Rattle.std.specs.Prelude.{Result, Ok, Err}
use mathlib.Core.Path.{◌≡◌, refl, ap, ◌∙◌}
use mathlib.Core.Bool.{Bool, true, false, cond}
use mathlib.Core.List.{List, [], ◌∷◌}
use Prim.Native.Nat.{ℕ, ◌≤◌}
use native.Mathlib.Decide.{dec_le}
use native.Mathlib.Omega.{arith}
use borrow.Author.Tests.{le-ltb}
use lib.Dec.{eqb}
use lib.ListN.{length, take}
use Rattle.law.specs.Lists.{any}
use Rattle.message.specs.Read.{read_of}
use Rattle.shape.specs.declared.Refusal.{Refusal}
use Rattle.message.specs.declared.Message.{Message}
use Rattle.message.specs.declared.Message.TheVariants as message
use Rattle.table.specs.Layout.{capacity_of}
use Rattle.table.proofs.Faithful.{next_capacity}
use Rattle.program.specs.Program.{table_in, table_after}
use Rattle.program.specs.Respond.{response, respond_row}
use Rattle.program.specs.Feed.{is_end, kept, last_line, said_last, before, turn_row, turn_state, turn_table}
use Rattle.program.specs.Claims.Respond.{enough_for}
use Rattle.program.proofs.Respond.{fits_if}
use Rattle.program.proofs.Feed.{turn_means, turn_row_is}
use Rattle.program.proofs.Enough.{enough}
use Rattle.feed.specs.Finish.{finish_text, finish_row}
use Rattle.feed.specs.Claims.{TurnFits, FinishFits, SlotsStay}
use Rattle.feed.proofs.Lines.{within, whole, state_unended, state_ended}

-- ---- the output
module _ (b out : List ℕ) (h : enough_for (capacity_of b) ≤ length out) where
  response_fits : (m : List ℕ) → length (response b m) ≤ length out
  unfolding respond_row
  response_fits m = fits_if (response b m) out (enough b m out h)

  some_fits : (e : Bool) (m : List ℕ) → length (cond e (response b m) []) ≤ length out
  some_fits true m = response_fits m
  some_fits false m = omega arith

  last_fits : (m : List ℕ) → length (last_line b m) ≤ length out
  last_fits [] = omega arith
  last_fits (x ∷ m) = response_fits (x ∷ m)

pub turn_fits : TurnFits
turn_fits b line n piece out wide h =
    (turn_row_is b line n piece out).1 (wide, rw (turn_means b line n piece).says (some_fits b out h (any is_end piece) _))

pub finish_fits : FinishFits
unfolding finish_row finish_text said_last
finish_fits b line n out h = rw (le-ltb (length out) _ (last_fits b out h (take n (kept line))))

-- ---- the table
table_slots : (b m : List ℕ) → capacity_of (table_after b m) ≡ capacity_of b
unfolding table_after
table_slots b m = go (read_of m)
  where
    go : (x : Result Message Refusal) → capacity_of (table_in b m x) ≡ capacity_of b
    go (Ok (message.Event p)) = next_capacity b _
    go (Ok (message.Req r)) = refl
    go (Ok (message.Close p)) = refl
    go (Err r) = refl

state_slots : (b line : List ℕ) (n : ℕ) (piece : List ℕ) → capacity_of (turn_state b line n piece).table ≡ capacity_of b
state_slots b line n piece = go (dec_le (length piece) (length (before piece)))
  where
    go : Dec (length piece ≤ length (before piece)) → capacity_of (turn_state b line n piece).table ≡ capacity_of b
    go (yes h) = ap (λ s. capacity_of s.table) (state_unended b line n piece (whole piece h))
    go (no h) = ap (λ s. capacity_of s.table) (state_ended b line n piece (within piece (omega arith))) ∙ table_slots b _

pub slots_stay : SlotsStay
unfolding turn_table
slots_stay b line n piece out = go (eqb (turn_row b line n piece out) 0)
  where
    go : (t : Bool) → capacity_of (cond t (turn_state b line n piece).table b) ≡ capacity_of b
    go true = state_slots b line n piece
    go false = refl
