-- The ways out of `answer_line`, `turn` and `finish`.
use Rattle.std.specs.Prelude.{Result, Ok, Err}
use mathlib.Core.Path.{◌≡◌, refl, sym, ap, ◌∙◌}
use mathlib.Core.Bool.{cond}
use mathlib.Core.Logic.{◌≢◌}
use mathlib.Core.List.{List, [], ◌∷◌, ◌++◌}
use Prim.Native.Nat.{ℕ, ◌+◌, ◌-◌, ◌≤◌, ◌<◌, min}
use native.Mathlib.Omega.{arith}
use borrow.Author.Tests.{eq-eqb, ne_eqb, lt-ltb, le-ltb}
use lib.ListN.{length, take, drop}
use Rattle.wire.specs.Bytes.{part}
use Rattle.wire.specs.Put.{put}
use Rattle.law.specs.Lists.{any}
use Rattle.event.specs.Answer.{written_number, written_length}
use Rattle.program.specs.Program.{table_after}
use Rattle.program.specs.Respond.{response, respond_row, responded, responded_out, responded_table}
use Rattle.program.specs.Feed.{State, most_line, kept, is_end, last_line, said_last, before, used_of, turn_text, turn_state}
use Rattle.program.specs.Feed.{turn_row, turned, turn_table, turn_line, turn_out, turned_number}
use Rattle.program.specs.declared.Fed.{Fed}
use Rattle.program.proofs.Respond.{fits_if, responded_means}
use Rattle.program.proofs.Feed.{kept_same, so_far, turn_means, turn_row_is}
use Rattle.feed.specs.Finish.{finish_text, finish_row, feed_finished, finish_table, finish_out, last_table}
use Rattle.feed.specs.Inner.{grown, Keeps, InOnePlace, Answers}
use Rattle.feed.proofs.Lines.{within, whole, state_unended, state_ended}

-- ---- one message answered
-- four promises in a row, as `respond` gives them
abbrev Responds : (b m out : List ℕ) → Result ℕ ℕ → (b' o : List ℕ) → Type 0
Responds b m out r b' o =
    (r ≡ responded b m out) × ((written_number r ≡ respond_row b m out) × ((o ≡ responded_out b m out) × (b' ≡ responded_table b m out)))

-- what is kept of a message is answered as the message is
pub answers_kept : (m l : List ℕ) {b out : List ℕ} {r : Result ℕ ℕ} {b' o : List ℕ} → l ≡ kept m → Responds b m out r b' o → Answers b l out r b' o
unfolding responded responded_out responded_table respond_row response
answers_kept m l {b} {out} e (p, (q, (s, t))) =
    let (x, y) = kept_same b m in
    record { answer = rw (e, x) p; table = rw (e, x, y) t; output = rw (e, x) s }

pub answers_line : (m l : List ℕ) {b out : List ℕ} {r : Result ℕ ℕ} {b' o : List ℕ} → m ≡ l → Responds b m out r b' o → Answers b l out r b' o
answers_line m l e (p, (q, (s, t))) = record { answer = rw e at p; table = rw e at t; output = rw e at s }

module _ (b m out : List ℕ) where
  number : written_number (responded b m out) ≡ respond_row b m out
  number = (responded_means b m out).0.number

  wrote_row : {w : ℕ} → Ok w ≡ responded b m out → (respond_row b m out ≡ 0) × (w ≡ length (response b m))
  wrote_row e = let z = sym number ∙ sym (ap written_number e) in (z, ap written_length e ∙ (responded_means b m out).0.value z)

  refused_row_lem : {k : ℕ} → Err k ≡ responded b m out → (respond_row b m out ≢ 0) × (k ≡ respond_row b m out)
  refused_row_lem {k} e = (λ z. let w = e ∙ (responded_means b m out).0.wrote z in let y : ◌≡◌ {A = ℕ} 0 1 = cc in omega arith, ap written_number e ∙ number)

  out_written : respond_row b m out ≡ 0 → responded_out b m out ≡ response b m ++ drop (length (response b m)) out
  unfolding responded_out
  out_written z = rw (eq-eqb (respond_row b m out) 0 z)

  has_room : respond_row b m out ≡ 0 → length (response b m) ≤ length out
  unfolding respond_row
  has_room z = fits_if (response b m) out z

-- ---- one turn
module _ (b line : List ℕ) (n : ℕ) (piece out : List ℕ) where
  abbrev Turning : Result Fed ℕ → (b' line' o : List ℕ) → Type 0
  Turning r b' line' o =
      (r ≡ turned b line n piece out)
      × ((turned_number r ≡ turn_row b line n piece out)
      × ((b' ≡ turn_table b line n piece out) × ((line' ≡ turn_line b line n piece out) × (o ≡ turn_out b line n piece out))))

  abbrev row : ℕ
  row = turn_row b line n piece out

  abbrev text : List ℕ
  text = turn_text b line n piece

  abbrev state : State
  state = turn_state b line n piece

  abbrev line_after : List ℕ → List ℕ
  line_after p = put line (min n most_line) (take (most_line - min n most_line) p)

  refusing : (k : ℕ) → row ≡ k → k ≢ 0 → Turning (Err k) b line out
  unfolding turned turn_table turn_line turn_out
  refusing k e ne =
      let z = ne_eqb row 0 (λ q. ne (sym e ∙ q)) in
      (rw z (ap Err (sym e)), (sym e, (rw z, (rw z, rw z))))

  feeding : row ≡ 0 → {u k w : ℕ} {b' line' o : List ℕ} → u ≡ used_of piece → k ≡ length state.line → w ≡ length text → b' ≡ state.table
      → line' ≡ line_after (before piece) → o ≡ text ++ drop (length text) out → Turning (Ok (record { used = u; kept = k; written = w })) b' line' o
  unfolding turned turn_table turn_line turn_out
  feeding e p q s t l o =
      let z = eq-eqb row 0 e in
      (rw (z, p, q, s), (sym e, (rw z t, (rw z l, rw z o))))

  pub narrow : length line < most_line → Turning (Err 13) b line out
  unfolding turn_row
  narrow h = refusing 13 (rw (lt-ltb (length line) most_line h)) (λ q. omega arith)

  says : turn_text b line n piece ≡ cond (any is_end piece) (response b (grown line n (before piece))) []
  unfolding grown
  says = (turn_means b line n piece).says

  module _ (wide : most_line ≤ length line) where
    -- the piece ends no line
    pub unended : {e k : ℕ} {line' : List ℕ} → e ≡ length (before piece) → length piece ≤ e → Keeps line n piece k line'
        → Turning (Ok (record { used = e; kept = k; written = 0 })) b line' out
    unended {e} q h s =
        let u = whole piece (omega arith) in
        let t : text ≡ [] = says ∙ rw u.ends in
        let w = state_unended b line n piece u in
        feeding ((turn_row_is b line n piece out).1 (wide, omega (arith, ap length t)))
        (q ∙ ap length u.is_before ∙ sym u.used) (s.many ∙ sym (ap (λ x. length x.line) w)) (sym (ap length t)) (sym (ap (λ x. x.table) w))
        (s.bytes ∙ sym (ap line_after u.is_before)) (rw t)

    -- the piece ends a line at e
    module _ {e : ℕ} (q : e ≡ length (before piece)) (h : e < length piece) where
      part_is : take e piece ≡ before piece
      part_is = ap (λ k. take k piece) q ∙ (within piece (omega arith)).is_before

      -- a line that the buffer has bytes of has no more of them here
      pub part_empty : InOnePlace n piece → (n ≡ 0 → ⊥) → length (take e piece) ≡ 0
      part_empty w ne = ap length part_is ∙ w ne (within piece (omega arith)).ends

      abbrev message : List ℕ
      message = grown line n (take e piece)

      text_is : text ≡ response b message
      text_is = says ∙ rw ((within piece (omega arith)).ends, part_is)

      pub ended : {r : Result ℕ ℕ} {w j : ℕ} {b' o line' : List ℕ} → Answers b message out r b' o → r ≡ Ok w → Keeps line n (take e piece) j line'
          → Turning (Ok (record { used = e + 1; kept = 0; written = w })) b' line' o
      ended a x s =
          let u = within piece (omega arith) in
          let (z, k) = wrote_row b message out (sym x ∙ a.answer) in
          let y = state_ended b line n piece u in
          feeding ((turn_row_is b line n piece out).1 (wide, omega (arith, has_room b message out z, ap length text_is)))
          (ap (◌+ 1) q ∙ sym u.used) (sym (ap (λ v. length v.line) y)) (k ∙ sym (ap length text_is))
          (a.table ∙ (responded_means b message out).1 z ∙ ap (λ v. table_after b (grown line n v)) part_is ∙ sym (ap (λ v. v.table) y))
          (s.bytes ∙ ap line_after part_is) (a.output ∙ out_written b message out z ∙ sym (ap (λ t. t ++ drop (length t) out) text_is))

      pub ended_refused : {r : Result ℕ ℕ} {k : ℕ} {b' o : List ℕ} → Answers b message out r b' o → r ≡ Err k → Turning (Err k) b' line o
      unfolding turn_row respond_row
      ended_refused {r} {k} a x =
          let (ne, i) = refused_row_lem b message out (sym x ∙ a.answer) in
          let t = a.table ∙ (responded_means b message out).2 ne in
          let o = a.output ∙ ((responded_means b message out).0.refused ne).2 in
          let v = refusing k (rw (le-ltb (length line) most_line wide, text_is) (sym i)) (λ z. ne (sym i ∙ z)) in
          rw (t, o) v

-- ---- the end of the input
module _ (b line : List ℕ) (n : ℕ) (out : List ℕ) where
  abbrev Finishes : Result ℕ ℕ → (b' o : List ℕ) → Type 0
  Finishes r b' o =
      (r ≡ feed_finished b line n out)
      × ((written_number r ≡ finish_row b line n out) × ((b' ≡ finish_table b line n out) × (o ≡ finish_out b line n out)))

  abbrev line_so_far : List ℕ
  line_so_far = take n (kept line)

  module _ {k : ℕ} {m : List ℕ} (e : k ≡ min n most_line) (i : m ≡ part line 0 k) where
    line_is : m ≡ line_so_far
    line_is = i ∙ ap (λ v. take v line) e ∙ sym (so_far n line)

    pub no_line_lem : length m ≡ 0 → Finishes (Ok 0) b out
    unfolding feed_finished finish_row finish_table finish_out finish_text said_last
    no_line_lem z =
        let y : line_so_far ≡ [] = sym line_is ∙ none m z in
        let r = le-ltb (length out) 0 (omega arith) in
        (rw (y, r), (rw (y, r), (rw (y, r), rw (y, r))))
      where
        none : (l : List ℕ) → length l ≡ 0 → l ≡ []
        none [] h = refl
        none (x ∷ l) h = absurd (omega arith)

    pub last_line_lem : {r : Result ℕ ℕ} {b' o : List ℕ} → (length m ≡ 0 → ⊥) → Responds b m out r b' o → Finishes r b' o
    unfolding feed_finished finish_row finish_table finish_out finish_text said_last responded respond_row responded_out responded_table
    last_line_lem ne (p, (q, (s, t))) =
        let (x, y) = some line_so_far (λ z. ne (ap length line_is ∙ z)) in
        (rw (line_is, ← x) at p, (rw (line_is, ← x) at q, (rw (line_is, ← x, ← y) at t, rw (line_is, ← x) at s)))
      where
        some : (l : List ℕ) → (length l ≡ 0 → ⊥) → (last_line b l ≡ response b l) × (last_table b l ≡ table_after b l)
        some [] h = absurd (h refl)
        some (x ∷ l) h = (refl, refl)
