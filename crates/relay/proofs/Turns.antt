-- A turn leaves the buffers ready, and goes on in the chunk or writes what waits. With the whole output free it is
-- never refused.
use Rattle.std.specs.Prelude.{Result, Ok, Err}
use mathlib.Core.Path.{◌≡◌, refl, sym, ap, ◌∙◌}
use mathlib.Core.List.{List}
use Prim.Native.Nat.{ℕ, ◌+◌, ◌-◌, ◌≤◌, ◌<◌}
use native.Mathlib.Decide.{dec_le}
use native.Mathlib.Omega.{arith}
use borrow.Author.Tests.{eq-eqb}
use lib.ListN.{length, replicate, take, drop, length-drop}
use lib.Seq.{length-take-le}
use Rattle.event.specs.Answer.{written_number, written_length}
use Rattle.table.specs.Layout.{capacity_of, table_size}
use Rattle.table.specs.Format.{formatted}
use Rattle.table.proofs.Formatted.{formatted_capacity}
use Rattle.program.specs.Claims.Respond.{enough_for}
use Rattle.program.specs.Program.{program_slots, fresh_table}
use Rattle.program.specs.Feed.{most_line, used_of, turn_text, turn_state, turned, turn_row, turn_table, turn_line, turn_out}
use Rattle.program.specs.Feed.{turned_number, turned_used, turned_bytes}
use Rattle.program.specs.declared.Fed.{Fed}
use Rattle.program.proofs.Example.{row_0}
use Rattle.program.proofs.Respond.{fits_if}
use Rattle.program.proofs.Feed.{turn_means, turn_row_is, turned_means}
use Rattle.feed.specs.Finish.{finish_text, feed_finished, finish_row, finish_table, finish_out}
use Rattle.feed.proofs.Run.{finished_means}
use Rattle.feed.proofs.Room.{turn_fits, slots_stay}
use Rattle.feed.specs.Turn.{looked_at}
use Rattle.feed.proofs.Lines.{looked_few, looked_some}
use Rattle.relay.specs.Inner.{Ready, Stands, waiting_from}
use Rattle.relay.specs.declared.Place.{Place}

-- what is left of a list from n on
pub length_rest : (n : ℕ) (l : List ℕ) → n ≤ length l → length (take (length l - n) (drop n l)) ≡ length l - n
length_rest n l h = length-take-le (length l - n) (drop n l) (omega (arith, length-drop n l))

-- the piece is what is left of the chunk, of which the turn looks at a part, and the turn's output what is left of the
-- output
module _ (b line chunk out : List ℕ) (p : Place) (piece rest : List ℕ) where
  abbrev seen : List ℕ
  seen = looked_at p.n piece

  abbrev Gives : Result Fed ℕ → (b' line' rest' : List ℕ) → Type 0
  Gives r b' line' rest' =
      (r ≡ turned b line p.n seen rest)
      × ((turned_number r ≡ turn_row b line p.n seen rest)
      × ((b' ≡ turn_table b line p.n seen rest) × ((line' ≡ turn_line b line p.n seen rest) × (rest' ≡ turn_out b line p.n seen rest))))

  abbrev Left : Type 0
  Left = (length piece ≡ length chunk - p.at) × (length rest ≡ length out - p.w)

  stays_ready : {r : Result Fed ℕ} {b' line' rest' out' : List ℕ} → Ready b line out → Gives r b' line' rest' → length out' ≡ length out → Ready b' line' out'
  stays_ready a (x, (y, (t, (l, o)))) e = record {
    slots = ap capacity_of t ∙ slots_stay b line p.n seen rest ∙ a.slots;
    wide = omega (arith, a.wide, ap length l, (turned_means b line p.n seen rest).as_long.1);
    enough = omega (arith, a.enough);
  }

  module _ {r : Result Fed ℕ} {b' line' rest' : List ℕ} (a : Ready b line out) (s : Stands chunk out p) (h : p.at < length chunk) (l : Left) (t : Gives r b' line' rest') where
    module _ {g : Fed} (f : r ≡ Ok g) where
      passes : turn_row b line p.n seen rest ≡ 0
      passes = sym t.1.0 ∙ ap turned_number f

      used-is : g.used ≡ used_of seen
      used-is = sym (ap turned_used (sym t.0 ∙ f)) ∙ (turned_means b line p.n seen rest).used passes

      bytes_are : g.written ≡ length (turn_text b line p.n seen)
      bytes_are = sym (ap turned_bytes (sym t.0 ∙ f)) ∙ (turned_means b line p.n seen rest).bytes passes

      pub goes : (p.at + g.used ≤ length chunk) × (1 ≤ g.used) × (p.w + g.written ≤ length out)
      goes =
          let some : 1 ≤ used_of seen = (turn_means b line p.n seen).progress (λ e. let z = ap length e in omega (arith, looked_some piece p.n (omega (arith, l.0)), z)) in (
            omega (arith, used-is, (turn_means b line p.n seen).used, looked_few piece p.n, l.0),
            omega (arith, used-is),
            omega (arith, bytes_are, ((turn_row_is b line p.n seen rest).0 passes).1, l.1, s.waits),
          )

      pub step_fed : {out' : List ℕ} → length out' ≡ length out → let q : Place = record { at = p.at + g.used; n = g.kept; w = p.w + g.written } in
          Ready b' line' out' × (Stands chunk out' q × (waiting_from chunk q < waiting_from chunk p))
      step_fed e =
          let (i, j, m) = goes in
          (stays_ready a t e, (record { used = i; waits = omega arith }, omega arith))

    -- a refusal: something waits
    module _ {k : ℕ} (f : r ≡ Err k) where
      is_fed : turn_row b line p.n seen rest ≡ 0 → ⊥
      unfolding turned
      is_fed e =
          let z : turned b line p.n seen rest ≡ Ok (record { used = used_of seen; kept = length (turn_state b line p.n seen).line; written = length (turn_text b line p.n seen) }) =
          rw (eq-eqb (turn_row b line p.n seen rest) 0 e) refl in
          let x = t.0 in
          let y : ◌≡◌ {A = ℕ} 0 1 = cc in
          omega arith

      some_waits : 1 ≤ p.w
      some_waits = go (dec_le 1 p.w)
        where
          go : Dec (1 ≤ p.w) → 1 ≤ p.w
          go (yes i) = i
          go (no i) =
              let room : enough_for (capacity_of b) ≤ length rest = rw a.slots (omega (arith, a.enough, l.1)) in
              absurd (is_fed (turn_fits b line p.n seen rest a.wide room))

      pub step_refused : {out' : List ℕ} → length out' ≡ length out → let q : Place = record { at = p.at; n = p.n; w = 0 } in
          Ready b' line' out' × (Stands chunk out' q × (waiting_from chunk q < waiting_from chunk p))
      step_refused e = (stays_ready a t e, (record { used = s.used; waits = omega arith }, omega (arith, some_waits)))

-- ---- the end of the input
pub finish_room : (b line : List ℕ) (n : ℕ) (out : List ℕ) {w : ℕ} {r : Result ℕ ℕ} {b' o : List ℕ}
    → (r ≡ feed_finished b line n out) × ((written_number r ≡ finish_row b line n out) × ((b' ≡ finish_table b line n out) × (o ≡ finish_out b line n out)))
    → r ≡ Ok w → w ≤ length o
unfolding finish_row
finish_room b line n out (x, (y, (t, o))) f =
    let m = (finished_means b line n out).0 in
    let z = sym y ∙ ap written_number f in
    let e = sym (ap written_length (sym x ∙ f)) ∙ m.value z in
    omega (arith, e, fits_if (finish_text b line n) out z, m.as_long, ap length o)

-- ---- the start
pub is_fresh_lem : {t z : List ℕ} → t ≡ formatted program_slots z → z ≡ replicate (table_size program_slots) 0 → t ≡ fresh_table
is_fresh_lem e f = e ∙ ap (formatted program_slots) f

pub ready : {table line out : List ℕ} → table ≡ fresh_table → most_line ≤ length line → enough_for program_slots ≤ length out → Ready table line out
ready e w h =
    record { slots = ap capacity_of e ∙ formatted_capacity program_slots (replicate (table_size program_slots) 0) row_0; wide = w; enough = h }
