-- A run of calls keeps the program's state in the buffers, and writes what the state says.
use mathlib.Core.Path.{◌≡◌, refl, sym, ap, ap₂, ◌∙◌}
use mathlib.Core.List.{List, ◌++◌}
use Prim.Native.Nat.{ℕ, ◌≤◌}
use native.Mathlib.Omega.{arith}
use lib.ListN.{length, take}
use Rattle.event.specs.Answer.{written_number, written_length}
use Rattle.program.specs.Feed.{after_bytes, said_by, said_last, feed_state, used_of, turn_text, turn_state, turn_table}
use Rattle.program.specs.Feed.{turn_line, turn_out, turned_number, turned_used, turned_line, turned_bytes}
use Rattle.reply.proofs.Lent.{writes_or}
use Rattle.program.proofs.Respond.{short_if, fits_if}
use Rattle.program.proofs.Feed.{in_pieces, says_output, turn_means, turned_means}
use Rattle.feed.proofs.Lines.{looked_few, looked_some, looked_taken}
use Rattle.feed.specs.Turn.{looked_at}
use Rattle.feed.specs.Finish.{finish_text, finish_row, feed_finished, finish_table, finish_out}
use Rattle.feed.specs.Claims.{FinishRowIs, FinishedMeans, Turns, none, more, UsesSome, WritesOutput}
use borrow.Author.Tests.{eq-eqb, ne_eqb}

pub finish_row_is : FinishRowIs
unfolding finish_row
finish_row_is b line n out = (short_if (finish_text b line n) out, λ (e, h) z. omega arith)

pub finished_means : FinishedMeans
unfolding finish_row feed_finished finish_out finish_table
finished_means b line n out = let r = finish_row b line n out in
    (writes_or r (finish_text b line n) out (fits_if (finish_text b line n) out), λ e. rw (eq-eqb r 0 e), λ ne. rw (ne_eqb r 0 ne))

-- the state that a run of calls leaves in the buffers, and what it has written
turns_state : {b line : List ℕ} {n : ℕ} {input said b' line' : List ℕ} {n' : ℕ} → Turns b line n input said b' line' n'
    → (feed_state b' line' n' ≡ after_bytes (feed_state b line n) input) × (said ≡ said_by (feed_state b line n) input)
unfolding after_bytes said_by turn_text turn_state
turns_state none = (refl, refl)
turns_state {b} {line} {n} (more {input} {said} {b'} {line'} {n'} t piece out {u} {k} {w} e) =
    let (p, q) = turns_state t in
    let seen = looked_at n' piece in
    let table = turn_table b' line' n' seen out in
    let buffer = turn_line b' line' n' seen out in
    let o = turn_out b' line' n' seen out in
    let m = turned_means b' line' n' seen out in
    let z = sym m.number ∙ ap turned_number e in
    let used : used_of seen ≡ u = sym (m.used z) ∙ ap turned_used e in
    let bytes : length (turn_text b' line' n' seen) ≡ w = sym (m.bytes z) ∙ ap turned_bytes e in
    let few : u ≤ length seen = omega (arith, used, (turn_means b' line' n' seen).used) in
    let (x, y) = in_pieces (feed_state b line n) input (take u piece) in
    let state = ap (feed_state table buffer) (sym (ap turned_line e)) ∙ m.is_state z ∙ ap₂ (λ v i. after_bytes v (take i seen)) p used ∙ ap (after_bytes (after_bytes (feed_state b line n) input)) (looked_taken piece n' u few) in
    let says = ap (λ i. take i o) (sym bytes) ∙ m.begins z ∙ ap₂ (λ v i. said_by v (take i seen)) p used ∙ ap (said_by (after_bytes (feed_state b line n) input)) (looked_taken piece n' u few) in
    (state ∙ sym x, ap₂ ◌++◌ q says ∙ sym y)

pub uses_some : UsesSome
uses_some b line n piece out u k w h e =
    let seen = looked_at n piece in
    let m = turned_means b line n seen out in
    let z = sym m.number ∙ ap turned_number e in
    let used : used_of seen ≡ u = sym (m.used z) ∙ ap turned_used e in
    let some : 1 ≤ used_of seen = (turn_means b line n seen).progress (λ q. let y = ap length q in omega (arith, looked_some piece n h, y)) in
    (omega (arith, used, some), omega (arith, used, (turn_means b line n seen).used, looked_few piece n))

pub writes_output : WritesOutput
unfolding finish_text
writes_output line input said b line' n t out w e =
    let (p, q) = turns_state t in
    let m = (finished_means b line' n out).0 in
    let z = sym m.number ∙ ap written_number e in
    let bytes : length (finish_text b line' n) ≡ w = sym (m.value z) ∙ ap written_length e in
    ap₂ ◌++◌ q (ap (λ i. take i (finish_out b line' n out)) (sym bytes) ∙ m.begins z ∙ ap said_last p) ∙ says_output input
