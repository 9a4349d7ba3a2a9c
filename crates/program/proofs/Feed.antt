-- The program as a state that bytes are fed to: a cut line is answered as the whole one, the input may be cut anywhere,
-- what is said is the output, and a turn over lent buffers leaves the state in them.
use Rattle.std.specs.Prelude.{Ok, Err}
use mathlib.Core.Path.{◌≡◌, refl, sym, ap, ap₂, ◌∙◌}
use mathlib.Core.Bool.{Bool, true, false, cond, ◌||◌, false≢true}
use mathlib.Core.Logic.{◌⊎◌, inl, inr, ⊎_elim, ◌≢◌}
use mathlib.Core.List.{List, [], ◌∷◌, ◌++◌, append_assoc, append-nil}
use Prim.Native.Nat.{ℕ, suc, ◌+◌, ◌-◌, ◌≤◌, ◌<◌, min}
use native.Mathlib.Omega.{arith}
use borrow.Author.Tests.{eqb-true, eq-eqb, ne_eqb, ltb-true, ltb-false, le-ltb}
use lib.Dec.{ltb}
use lib.ListN.{length, take, drop, length-take, take-append-drop}
use lib.Seq.{take_all, take-append-le, take-append-add, take-take, sets-eq, take_at}
use Rattle.wire.specs.Limits.{most_message}
use Rattle.wire.specs.Put.{put}
use Rattle.wire.proofs.Laws.{length_put}
use Rattle.law.specs.Lists.{any}
use Rattle.reply.specs.Lent.{short_row}
use Rattle.program.specs.Program.{replies_to, table_after, lines, written, output_from, fresh_table, output}
use Rattle.reply.specs.Claims.{Plain}
use Rattle.program.specs.Respond.{response}
use Rattle.program.specs.Feed.{State, most_line, kept, is_end, after_byte, said_at, after_bytes, said_by, last_line}
use Rattle.program.specs.Feed.{said_last, feed_state, before, used_of, turn_text, turn_state, turn_row, turned}
use Rattle.program.specs.Feed.{turn_table, turn_line, turn_out, turned_number, turned_used, turned_line, turned_bytes}
use Rattle.program.specs.Claims.Respond.{KeptSame, InPieces, SaysOutput, TurnMeans, TurnRowIs, TurnedMeans}
use Rattle.program.proofs.Which.{overlong}
use Rattle.program.proofs.Lines.{line_ends, last_line_lem}
use Rattle.reply.proofs.Lent.{zero_or, writes_or}
use Rattle.program.proofs.Respond.{fits_if}

-- ---- what is kept of a line
at_most : (n k : ℕ) → (n ≤ k) ⊎ (k < n)
at_most n k = go (ltb k n) refl
  where
    go : (b : Bool) → ltb k n ≡ b → (n ≤ k) ⊎ (k < n)
    go true e = inr (ltb-true k n e)
    go false e = inl (ltb-false k n e)

pub kept_same : KeptSame
kept_same b m = ⊎_elim short long (at_most (length m) most_message)
  where
    short : length m ≤ most_message → (replies_to b (kept m) ≡ replies_to b m) × (table_after b (kept m) ≡ table_after b m)
    short h = let e : kept m ≡ m = take_all most_line m (omega arith) in (ap (replies_to b) e, ap (table_after b) e)

    long : most_message < length m → (replies_to b (kept m) ≡ replies_to b m) × (table_after b (kept m) ≡ table_after b m)
    long h =
        let k : most_message < length (kept m) = omega (arith, length-take most_line m) in
        let (p, q) = overlong b m h in
        let (r, s) = overlong b (kept m) k in
        (r ∙ sym p, s ∙ sym q)

-- with some bytes more
kept_more : (l k : List ℕ) → kept (kept l ++ k) ≡ kept (l ++ k)
kept_more l k = ⊎_elim short long (at_most (length l) most_line)
  where
    short : length l ≤ most_line → kept (kept l ++ k) ≡ kept (l ++ k)
    short h = ap (λ x. kept (x ++ k)) (take_all most_line l h)

    long : most_line < length l → kept (kept l ++ k) ≡ kept (l ++ k)
    long h =
        let n : length (kept l) ≡ most_line = omega (arith, length-take most_line l) in
        take-append-le most_line (kept l) k (omega arith) ∙ take-take most_line most_line l (omega arith) ∙ sym (take-append-le most_line l k (omega arith))

response_kept : (b l : List ℕ) → response b (kept l) ≡ response b l
unfolding response
response_kept b l = ap written (kept_same b l).0

-- ---- pieces
pub in_pieces : InPieces
unfolding after_bytes said_by
in_pieces s [] k = (refl, refl)
in_pieces s (x ∷ l) k =
    let (p, q) = in_pieces (after_byte s x) l k in
    (p, ap (said_at s x ++◌) q ∙ sym (append_assoc (said_at s x) (said_by (after_byte s x) l) _))

-- ---- lines
plain_more : (l : List ℕ) (x : ℕ) → Plain l → is_end x ≡ false → Plain (l ++ (x ∷ []))
plain_more [] x p e = rw e
plain_more (y ∷ l) x p e = go (is_end y) p (plain_more l x)
  where
    go : (b : Bool) → (b || any is_end l) ≡ false → (Plain l → is_end x ≡ false → Plain (l ++ (x ∷ []))) → (b || any is_end (l ++ (x ∷ []))) ≡ false
    go true h ih = absurd (false≢true (sym h))
    go false h ih = ih h e

last_kept : (b l : List ℕ) → Plain l → last_line b (kept l) ≡ output_from b (lines l)
unfolding output_from lines response
last_kept b [] p = refl
last_kept b (x ∷ l) p = response_kept b (x ∷ l) ∙ sym (append-nil (response b (x ∷ l))) ∙ sym (ap (output_from b) (last_line_lem x l p))

abbrev at : List ℕ → List ℕ → State
at b l = record { table = b; line = l }

-- what a state says of some input, and at its end
abbrev all : State → List ℕ → List ℕ
all s input = said_by s input ++ said_last (after_bytes s input)

ends : (s : State) (x : ℕ) (input : List ℕ) → is_end x ≡ true
    → all s (x ∷ input) ≡ response s.table s.line ++ all (at (table_after s.table s.line) []) input
unfolding said_by after_bytes said_at after_byte
ends s x input e = rw e (append_assoc (response s.table s.line) _ _)

goes : (s : State) (x : ℕ) (input : List ℕ) → is_end x ≡ false → all s (x ∷ input) ≡ all (at s.table (kept (s.line ++ (x ∷ [])))) input
unfolding said_by after_bytes said_at after_byte
goes s x input e = rw e refl

line_done : (b l : List ℕ) (x : ℕ) (input : List ℕ) → Plain l → is_end x ≡ true
    → output_from b (lines (l ++ (x ∷ input))) ≡ response b l ++ output_from (table_after b l) (lines input)
unfolding output_from response
line_done b l x input p e = ap (λ y. output_from b (lines (l ++ (y ∷ input)))) (eqb-true x 0x0a e) ∙ ap (output_from b) (line_ends l input p)

says : (b l input : List ℕ) → Plain l → all (at b (kept l)) input ≡ output_from b (lines (l ++ input))
unfolding said_by after_bytes said_last
says b l [] p = last_kept b l p ∙ sym (ap (λ k. output_from b (lines k)) (append-nil l))
says b l (x ∷ s) p = go (is_end x) refl (λ c k q. says c k s q)
  where
    go : (e : Bool) → is_end x ≡ e → ((c k : List ℕ) → Plain k → all (at c (kept k)) s ≡ output_from c (lines (k ++ s)))
        → all (at b (kept l)) (x ∷ s) ≡ output_from b (lines (l ++ (x ∷ s)))
    go true e ih =
        ends (at b (kept l)) x s e
        ∙ ap₂ (λ r c. r ++ all (at c []) s) (response_kept b l) (kept_same b l).1
        ∙ ap (response b l ++◌) (ih (table_after b l) [] refl)
        ∙ sym (line_done b l x s p e)
    go false e ih =
        goes (at b (kept l)) x s e
        ∙ ap (λ k. all (at b k) s) (kept_more l (x ∷ []))
        ∙ ih b (l ++ (x ∷ [])) (plain_more l x p e)
        ∙ ap (λ k. output_from b (lines k)) (append_assoc l (x ∷ []) s)

pub says_output : SaysOutput
unfolding output
says_output input = says fresh_table [] input refl

-- ---- one turn
used_few : (piece : List ℕ) → used_of piece ≤ length piece
unfolding used_of
used_few [] = omega arith
used_few (x ∷ l) = go (is_end x) (used_few l)
  where
    go : (e : Bool) → used_of l ≤ length l → cond e 1 (suc (used_of l)) ≤ suc (length l)
    go true h = omega arith
    go false h = omega arith

used_some : (piece : List ℕ) → piece ≢ [] → 1 ≤ used_of piece
unfolding used_of
used_some [] ne = absurd (ne refl)
used_some (x ∷ l) ne = go (is_end x)
  where
    go : (e : Bool) → 1 ≤ cond e 1 (suc (used_of l))
    go true = omega arith
    go false = omega arith

-- a line so far, and a byte that does not end it
kept_next : (l : List ℕ) (x : ℕ) (p : List ℕ) → kept (kept (l ++ (x ∷ [])) ++ p) ≡ kept (l ++ (x ∷ p))
kept_next l x p = kept_more (l ++ (x ∷ [])) p ∙ ap kept (append_assoc l (x ∷ []) p)

kept_twice : (l : List ℕ) → kept (kept l) ≡ kept l
kept_twice l = take-take most_line most_line l (omega arith)

kept_nil : (l : List ℕ) → kept (l ++ []) ≡ kept l
kept_nil l = ap kept (append-nil l)

turn_says : (b l piece : List ℕ) → said_by (at b l) (take (used_of piece) piece) ≡ cond (any is_end piece) (response b (kept (l ++ before piece))) []
unfolding said_by used_of before said_at after_byte
turn_says b l [] = refl
turn_says b l (x ∷ p) = go (is_end x) refl (turn_says b (kept (l ++ (x ∷ []))) p)
  where
    go : (e : Bool) → is_end x ≡ e
        → said_by (at b (kept (l ++ (x ∷ [])))) (take (used_of p) p) ≡ cond (any is_end p) (response b (kept (kept (l ++ (x ∷ [])) ++ before p))) []
        → said_by (at b l) (take (cond e 1 (suc (used_of p))) (x ∷ p)) ≡ cond (e || any is_end p) (response b (kept (l ++ cond e [] (x ∷ before p)))) []
    go true q ih = rw q (append-nil (response b l) ∙ sym (response_kept b l) ∙ sym (ap (response b) (kept_nil l)))
    go false q ih = rw q (ih ∙ ap (λ k. cond (any is_end p) (response b k) []) (kept_next l x (before p)))

-- the state after a turn, by the line that was read
abbrev left : List ℕ → List ℕ → Bool → State
left b l e = cond e (at (table_after b l) []) (at b l)

after_byte_lem : (b l : List ℕ) (x : ℕ) → is_end x ≡ false → after_byte (at b l) x ≡ at b (kept (l ++ (x ∷ [])))
unfolding after_byte
after_byte_lem b l x e = rw e

turn_after : (b l piece : List ℕ) → kept l ≡ l → after_bytes (at b l) (take (used_of piece) piece) ≡ left b (kept (l ++ before piece)) (any is_end piece)
unfolding after_bytes used_of before after_byte
turn_after b l [] k = ap (at b) (sym (kept_nil l ∙ k))
turn_after b l (x ∷ p) k = go (is_end x) refl (turn_after b (kept (l ++ (x ∷ []))) p (kept_twice (l ++ (x ∷ []))))
  where
    go : (e : Bool) → is_end x ≡ e
        → after_bytes (at b (kept (l ++ (x ∷ [])))) (take (used_of p) p) ≡ left b (kept (kept (l ++ (x ∷ [])) ++ before p)) (any is_end p)
        → after_bytes (at b l) (take (cond e 1 (suc (used_of p))) (x ∷ p)) ≡ left b (kept (l ++ cond e [] (x ∷ before p))) (e || any is_end p)
    go true q ih = rw q (ap (λ k. at (table_after b k) []) (sym (kept_nil l ∙ k)))
    go false q ih = ap (λ s. after_bytes s (take (used_of p) p)) (after_byte_lem b l x q) ∙ ih ∙ ap (λ k. left b k (any is_end p)) (kept_next l x (before p))

pub turn_means : TurnMeans
unfolding turn_text turn_state
turn_means b line n piece =
    let u = used_of piece in
    let (p, q) = in_pieces (feed_state b line n) (take u piece) (drop u piece) in
    let e = take-append-drop u piece in
    record {
      used = used_few piece;
      progress = used_some piece;
      says = turn_says b (take n (kept line)) piece;
      goes_on = sym (ap (said_by (feed_state b line n)) e) ∙ q;
      state = sym (ap (after_bytes (feed_state b line n)) e) ∙ p;
    }

pub turn_row_is : TurnRowIs
unfolding turn_row
turn_row_is b line n piece out = (to (ltb (length line) most_line) refl, from)
  where
    to : (x : Bool) → ltb (length line) most_line ≡ x → cond x 13 (short_row (turn_text b line n piece) out) ≡ 0
        → (most_line ≤ length line) × (length (turn_text b line n piece) ≤ length out)
    to true e z = absurd (omega arith)
    to false e z = (ltb-false (length line) most_line e, fits_if (turn_text b line n piece) out z)

    from : (most_line ≤ length line) × (length (turn_text b line n piece) ≤ length out) → turn_row b line n piece out ≡ 0
    from (l, t) = rw (le-ltb (length line) most_line l, le-ltb (length out) (length (turn_text b line n piece)) t)

-- ---- the buffers after a turn
-- what of a line buffer is the line so far
pub so_far : (n : ℕ) (line : List ℕ) → take n (kept line) ≡ take (min n most_line) line
so_far n line = ⊎_elim few many (at_most n most_line)
  where
    few : n ≤ most_line → take n (kept line) ≡ take (min n most_line) line
    few h = let z : n ≡ min n most_line = omega arith in take-take n most_line line h ∙ ap (λ k. take k line) z

    many : most_line < n → take n (kept line) ≡ take (min n most_line) line
    many h = let z : most_line ≡ min n most_line = omega arith in take_all n (kept line) (omega (arith, length-take most_line line)) ∙ ap (λ k. take k line) z

module _ (line : List ℕ) (n : ℕ) (p : List ℕ) (wide : most_line ≤ length line) where
  abbrev many : ℕ
  many = min n most_line

  abbrev more : List ℕ
  more = take (most_line - many) p

  length_so_far : length (take many line) ≡ many
  length_so_far = length-take many line ∙ omega arith

  kept_line : kept (take n (kept line) ++ p) ≡ take many line ++ more
  kept_line =
      let z : most_line ≡ length (take many line) + (most_line - many) = omega (arith, length_so_far) in
      ap (λ l. kept (l ++ p)) (so_far n line) ∙ ap (λ k. take k (take many line ++ p)) z ∙ take-append-add (take many line) p (most_line - many)

  put_line_lem : put line many more ≡ (take many line ++ more) ++ drop (many + length more) line
  unfolding put
  put_line_lem = sets-eq more line many (omega (arith, length-take (most_line - many) p))

  line_kept : take (length (kept (take n (kept line) ++ p))) (kept (put line many more)) ≡ kept (take n (kept line) ++ p)
  line_kept =
      let l = kept (take n (kept line) ++ p) in
      take-take (length l) most_line (put line many more) (omega (arith, length-take most_line (take n (kept line) ++ p)))
      ∙ ap (take (length l)) put_line_lem
      ∙ take_at (take many line ++ more) _ (length l) (ap length (sym kept_line))
      ∙ sym kept_line

module _ (b line : List ℕ) (n : ℕ) (piece out : List ℕ) where
  abbrev row : ℕ
  row = turn_row b line n piece out

  is_fed : row ≡ 0 → turned b line n piece out ≡ Ok (record { used = used_of piece; kept = length (turn_state b line n piece).line; written = length (turn_text b line n piece) })
  unfolding turned
  is_fed e = rw (eq-eqb row 0 e)

  is_refused_lem : row ≢ 0 → turned b line n piece out ≡ Err row
  unfolding turned
  is_refused_lem ne = rw (ne_eqb row 0 ne)

  abbrev line_after : List ℕ
  line_after = put line (min n most_line) (take (most_line - min n most_line) (before piece))

  -- the state is in the buffers, whether or not the piece ends the line
  in_buffers : most_line ≤ length line → (e : Bool) → let l = kept (take n (kept line) ++ before piece) in
      feed_state (left b l e).table line_after (length (left b l e).line) ≡ left b l e
  in_buffers w true = refl
  in_buffers w false = ap (at b) (line_kept line n (before piece) w)

  is_state : row ≡ 0 → feed_state (turn_table b line n piece out) (turn_line b line n piece out) (turned_line (turned b line n piece out)) ≡ turn_state b line n piece
  unfolding turn_table turn_line turn_state
  is_state e =
      let a = turn_after b (take n (kept line)) piece (take_all most_line (take n (kept line)) (omega (arith, length-take n (kept line), length-take most_line line))) in
      rw (is_fed e, eq-eqb row 0 e) (rw a (in_buffers ((turn_row_is b line n piece out).0 e).0 (any is_end piece)))

pub turned_means : TurnedMeans
unfolding turn_out turn_table turn_line
turned_means b line n piece out =
    let r = turn_row b line n piece out in
    let w = writes_or r (turn_text b line n piece) out (λ e. ((turn_row_is b line n piece out).0 e).1) in
    record {
      number = ⊎_elim (λ e. ap turned_number (is_fed b line n piece out e) ∙ sym e) (λ ne. ap turned_number (is_refused_lem b line n piece out ne)) (zero_or r);
      used = λ e. ap turned_used (is_fed b line n piece out e);
      bytes = λ e. ap turned_bytes (is_fed b line n piece out e);
      is_state = is_state b line n piece out;
      begins = w.begins;
      rest = w.rest;
      as_long = (w.as_long, ⊎_elim (λ e. rw (eq-eqb r 0 e) (length_put line _ _)) (λ ne. rw (ne_eqb r 0 ne)) (zero_or r));
      refused = λ ne. (rw (ne_eqb r 0 ne), rw (ne_eqb r 0 ne), (w.refused ne).2);
    }
