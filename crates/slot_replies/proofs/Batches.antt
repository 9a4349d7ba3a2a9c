-- As many lines as fit, of a sound table: how many slots are held, the row, the text, and what is answered.
use Rattle.std.specs.Prelude.{Result, Ok, Err}
use mathlib.Core.Path.{◌≡◌, refl, sym, ap, ap₂, ◌∙◌}
use mathlib.Core.Bool.{Bool, true, false, cond, ◌&&◌}
use mathlib.Core.List.{List, [], ◌∷◌, ◌++◌}
use Prim.Native.Nat.{ℕ, zero, suc, ◌+◌, ◌-◌, ◌^◌, ◌≤◌, ◌<◌}
use native.Mathlib.Numerals.{add-one}
use native.Mathlib.Omega.{arith}
use borrow.Author.Tests.{eq-eqb, ne_eqb, lt-ltb, le-ltb, ltb-true}
use lib.Dec.{eqb, ltb}
use lib.ListN.{length, get_or, take, drop, length-take, drop_of_length-le}
use lib.Seq.{drop-cons, take_all}
use Rattle.wire.specs.Put.{Puts}
use Rattle.wire.specs.Escape.{escape, json_of}
use Rattle.wire.specs.Field.{Field}
use Rattle.wire.proofs.Laws.{puts_whole}
use Rattle.rows.specs.Strings.{part}
use Rattle.spell.specs.Spell.{decode}
use Rattle.text.specs.Event.{all}
use Rattle.text.specs.Read.{read_text}
use Rattle.text.proofs.Pieces.{both}
use Rattle.message.specs.declared.Span.{Span}
use Rattle.message.specs.Lent.{subscription_row}
use Rattle.event.specs.Lent.{said, length_of}
use Rattle.table.specs.Layout.{count_of, slot_at, text_in}
use Rattle.table.specs.Sound.{sound}
use Rattle.reply.specs.Lent.{eose_row, output_after}
use Rattle.program.specs.Program.{event_replies, events_of, written}
use Rattle.program.specs.Respond.{slot_line, joined, fitting, slot_lines, fitting_text, none_fits, all_held, events_row}
use Rattle.program.specs.Respond.{sent_events, sent_events_out, sent_number}
use Rattle.program.proofs.Lines.{written_append}
use Rattle.program.proofs.Sizes.{line_length}
use Rattle.program.proofs.Streamed.{batches}
use Rattle.replies.proofs.Written.{eose_row_lem}
use Rattle.slot_replies.specs.Inner.{line_size, sizes, stopped, fitted_in, held_len, fit_row, lines_row, sent_by}
use Rattle.slot_replies.specs.Inner.{sent_lines, sent_lines_out}
use Rattle.slot_replies.specs.declared.Fitted.{Fitted}
use Rattle.slot_replies.proofs.Lines.{cut_fitted}

-- ---- held from the first on
module _ (b ks : List ℕ) (i : ℕ) (inv : held_len b ks ≡ i + held_len b (drop i ks)) where
  pub held_end : length ks ≤ i → i ≡ held_len b ks
  unfolding held_len
  held_end h = let z : held_len b (drop i ks) ≡ 0 = rw (drop_of_length-le ks {i = i} h) refl in omega arith

  module _ (h : i < length ks) {k c : ℕ} (ek : k ≡ get_or ks i 0) (f : Field b 4 4 c) where
    count_is : c ≡ count_of b
    unfolding count_of
    count_is = f.is

    next_is : held_len b (drop i ks) ≡ cond (ltb k (count_of b)) (suc (held_len b (drop (i + 1) ks))) 0
    unfolding held_len
    next_is = rw (drop-cons ks i 0 h, add-one i, ek) refl

    pub held_stop : c ≤ k → i ≡ held_len b ks
    held_stop q = let z : held_len b (drop i ks) ≡ 0 = next_is ∙ rw (le-ltb k (count_of b) (omega (arith, count_is))) refl in omega arith

    pub held_turn : k < c → held_len b ks ≡ i + 1 + held_len b (drop (i + 1) ks)
    held_turn q =
        let z : held_len b (drop i ks) ≡ suc (held_len b (drop (i + 1) ks)) = next_is ∙ rw (lt-ltb k (count_of b) (omega (arith, count_is))) refl in
        omega arith

held_full : (b ks : List ℕ) → all_held b ks ≡ true → held_len b ks ≡ length ks
unfolding all held_len
held_full b [] e = refl
held_full b (k ∷ ks) e =
    let (g, h) = both (ltb k (count_of b)) (all_held b ks) e in
    rw g (ap suc (held_full b ks h))

held_part : (b ks : List ℕ) → all_held b ks ≡ false → held_len b ks < length ks
unfolding all held_len
held_part b [] e = absurd (let y : ◌≡◌ {A = ℕ} 0 1 = cc in omega arith)
held_part b (k ∷ ks) e = go (ltb k (count_of b)) e (held_part b ks)
  where
    go : (t : Bool) → (t && all_held b ks) ≡ false → (all_held b ks ≡ false → held_len b ks < length ks) → cond t (suc (held_len b ks)) 0 < suc (length ks)
    go true q ih = let l = ih q in omega arith
    go false q ih = omega arith

held_row : (b ks : List ℕ) → ◌≡◌ {A = ℕ} (cond (ltb (held_len b ks) (length ks)) 14 0) (cond (all_held b ks) 0 14)
held_row b ks = go (all_held b ks) refl
  where
    go : (t : Bool) → all_held b ks ≡ t → ◌≡◌ {A = ℕ} (cond (ltb (held_len b ks) (length ks)) 14 0) (cond t 0 14)
    go true e = rw (le-ltb (held_len b ks) (length ks) (omega (arith, held_full b ks e))) refl
    go false e = rw (lt-ltb (held_len b ks) (length ks) (held_part b ks e)) refl

-- ---- the row by numbers
module _ (lines held all : ℕ) where
  pub no_slots : held ≡ 0 → all ≡ 0 → 0 ≡ fit_row lines held all
  unfolding fit_row
  no_slots h a = rw (le-ltb 0 held (omega arith), le-ltb held all (omega arith)) refl

  pub first_not_held : held ≡ 0 → (all ≡ 0 → ⊥) → 14 ≡ fit_row lines held all
  unfolding fit_row
  first_not_held h a = rw (le-ltb 0 held (omega arith), lt-ltb held all (omega arith)) refl

  module _ (h : held ≡ 0 → ⊥) where
    pub none_fit : lines ≡ 0 → 13 ≡ fit_row lines held all
    unfolding fit_row
    none_fit l = rw (lt-ltb 0 held (omega arith), eq-eqb lines 0 l) refl

    pub later_not_held : (lines ≡ 0 → ⊥) → held < all → 14 ≡ fit_row lines held all
    unfolding fit_row
    later_not_held l a = rw (lt-ltb 0 held (omega arith), ne_eqb lines 0 l, lt-ltb held all a) refl

    pub all_held_lem : (lines ≡ 0 → ⊥) → all ≤ held → 0 ≡ fit_row lines held all
    unfolding fit_row
    all_held_lem l a = rw (lt-ltb 0 held (omega arith), ne_eqb lines 0 l, le-ltb held all a) refl

-- ---- how many fit
fitted_from : (i room : ℕ) (xs : List ℕ) → i ≤ (fitted_in i room xs).lines
unfolding fitted_in
fitted_from i room [] = omega arith
fitted_from i room (x ∷ xs) = go (ltb room x) (fitted_from (i + 1) (room - x) xs)
  where
    go : (t : Bool) → i + 1 ≤ (fitted_in (i + 1) (room - x) xs).lines → i ≤ (cond t (stopped i room) (fitted_in (i + 1) (room - x) xs)).lines
    go true h = omega arith
    go false h = omega arith

fitted_few : (b : List ℕ) (n i room : ℕ) (ks : List ℕ) → (fitted_in i room (sizes b n ks)).lines ≤ i + length ks
unfolding fitted_in
fitted_few b n i room [] = omega arith
fitted_few b n i room (k ∷ ks) = go (ltb room (line_size b n k)) (fitted_few b n (i + 1) (room - line_size b n k) ks)
  where
    go : (t : Bool) → (fitted_in (i + 1) (room - line_size b n k) (sizes b n ks)).lines ≤ i + 1 + length ks
        → (cond t (stopped i room) (fitted_in (i + 1) (room - line_size b n k) (sizes b n ks))).lines ≤ i + suc (length ks)
    go true h = omega arith
    go false h = omega arith

module _ (b sub : List ℕ) (s : sound b ≡ true) where
  abbrev id_size_lem : ℕ
  id_size_lem = length (json_of (escape sub))

  not_held_line : (k : ℕ) → ltb k (count_of b) ≡ false → length (slot_line b sub k) ≡ 0
  unfolding slot_line written
  not_held_line k e = rw e refl

  -- the first line does not fit
  none_is : (room : ℕ) (ks : List ℕ) → (ltb 0 (held_len b ks) && eqb (fitted_in 0 room (sizes b id_size_lem (take (held_len b ks) ks))).lines 0) ≡ none_fits room (slot_lines b sub ks)
  unfolding held_len fitted_in
  none_is room [] = refl
  none_is room (k ∷ ks) = go (ltb k (count_of b)) refl
    where
      fits : (h : ℕ) (u : Bool) → (ltb 0 (suc h) && eqb (cond u (stopped 0 room) (fitted_in 1 (room - line_size b id_size_lem k) (sizes b id_size_lem (take h ks)))).lines 0) ≡ u
      fits h true = rw (lt-ltb 0 (suc h) (omega arith)) refl
      fits h false =
          let l = fitted_from 1 (room - line_size b id_size_lem k) (sizes b id_size_lem (take h ks)) in
          rw (lt-ltb 0 (suc h) (omega arith), ne_eqb (fitted_in 1 (room - line_size b id_size_lem k) (sizes b id_size_lem (take h ks))).lines 0 (λ z. omega arith)) refl

      go : (t : Bool) → ltb k (count_of b) ≡ t
          → (ltb 0 (cond t (suc (held_len b ks)) 0) && eqb (fitted_in 0 room (sizes b id_size_lem (take (cond t (suc (held_len b ks)) 0) (k ∷ ks)))).lines 0)
          ≡ ltb room (length (slot_line b sub k))
      go true e = fits (held_len b ks) (ltb room (line_size b id_size_lem k)) ∙ ap (ltb room) (sym (line_length b k s (ltb-true k (count_of b) e) sub))
      go false e = sym (ap (ltb room) (not_held_line k e) ∙ le-ltb room 0 (omega arith))

  row_is : (out ks : List ℕ) → fit_row (fitted_in 0 (length out) (sizes b id_size_lem (take (held_len b ks) ks))).lines (held_len b ks) (length ks) ≡ lines_row b sub ks out
  unfolding fit_row
  row_is out ks = ap₂ (λ x y. cond x 13 y) (none_is (length out) ks) (held_row b ks)

  -- where all are held
  fitted_lines : (i room : ℕ) (ks : List ℕ) → all_held b ks ≡ true → (fitted_in i room (sizes b id_size_lem ks)).lines ≡ i + fitting room (slot_lines b sub ks)
  unfolding all fitted_in fitting
  fitted_lines i room [] e = omega arith
  fitted_lines i room (k ∷ ks) e =
      let (g, h) = both (ltb k (count_of b)) (all_held b ks) e in
      rw (line_length b k s (ltb-true k (count_of b) g) sub) (go (ltb room (line_size b id_size_lem k)) (fitted_lines (i + 1) (room - line_size b id_size_lem k) ks h))
    where
      go : (t : Bool) → (fitted_in (i + 1) (room - line_size b id_size_lem k) (sizes b id_size_lem ks)).lines ≡ i + 1 + fitting (room - line_size b id_size_lem k) (slot_lines b sub ks)
          → (cond t (stopped i room) (fitted_in (i + 1) (room - line_size b id_size_lem k) (sizes b id_size_lem ks))).lines ≡ i + cond t 0 (suc (fitting (room - line_size b id_size_lem k) (slot_lines b sub ks)))
      go true ih = omega arith
      go false ih = omega arith

  lines_joined : (i : ℕ) (ks : List ℕ) → all_held b ks ≡ true → written (events_of b sub (take i ks)) ≡ joined (take i (slot_lines b sub ks))
  unfolding all events_of joined slot_line written
  lines_joined zero ks e = refl
  lines_joined (suc i) [] e = refl
  lines_joined (suc i) (k ∷ ks) e =
      let (g, h) = both (ltb k (count_of b)) (all_held b ks) e in
      written_append (event_replies sub (slot_at b k) (read_text (text_in (slot_at b k)))) (events_of b sub (take i ks))
      ∙ ap₂ ◌++◌ (sym (ap (λ x. written (cond x (event_replies sub (slot_at b k) (read_text (text_in (slot_at b k)))) [])) g)) (lines_joined i ks h)

-- ---- the parts of the row that are taken lie in it
pub held_few : (b ks : List ℕ) {held : ℕ} → held ≡ held_len b ks → held ≤ length ks
held_few b ks {held} eh = go (all_held b ks) refl
  where
    go : (t : Bool) → all_held b ks ≡ t → held ≤ length ks
    go true e = omega (arith, eh, held_full b ks e)
    go false e = omega (arith, eh, held_part b ks e)

pub lines_few : (b ks : List ℕ) (room held m : ℕ) {f : Fitted} → f ≡ fitted_in 0 room (sizes b m (take held ks)) → f.lines ≤ length ks
lines_few b ks room held m e = omega (arith, ap (λ v. v.lines) e, fitted_few b m 0 room (take held ks), length-take held ks)

-- ---- what is sent
pub sent_number_lem : (row n k : ℕ) → sent_number (sent_by row n k) ≡ row
sent_number_lem zero n k = refl
sent_number_lem (suc r) n k = rw (ne_eqb (suc r) 0 (λ q. omega arith))

none_refuses : (x y : Bool) → ◌≡◌ {A = ℕ} (cond x 13 (cond y 0 14)) 0 → y ≡ true
none_refuses true y e = absurd (omega arith)
none_refuses false true e = refl
none_refuses false false e = absurd (omega arith)

module _ (b sub ks out : List ℕ) (s : sound b ≡ true) {m held : ℕ} {f : Fitted} (room : length out < 2 ^ 64) (em : m ≡ length_of (json_of (escape sub))) (eh : held ≡ held_len b ks)
    (ef : f ≡ fitted_in 0 (length out) (sizes b m (take held ks))) {row : ℕ} (er : row ≡ fit_row f.lines held (length ks)) where
  fit_is : f ≡ fitted_in 0 (length out) (sizes b (length (json_of (escape sub))) (take (held_len b ks) ks))
  fit_is =
      ef ∙ ap (λ y. fitted_in 0 (length out) (sizes b m (take y ks))) eh
      ∙ cut_fitted b m (length (json_of (escape sub))) em 0 (length out) room (take (held_len b ks) ks)

  fit_row_lem : row ≡ lines_row b sub ks out
  fit_row_lem = er ∙ ap₂ (λ x y. fit_row x.lines y (length ks)) fit_is eh ∙ row_is b sub s out ks

  pub lines_refused : (row ≡ 0 → ⊥) → (Err row ≡ sent_lines b sub ks out) × (out ≡ sent_lines_out b sub ks out)
  unfolding sent_lines sent_lines_out
  lines_refused z =
      let h = ne_eqb (lines_row b sub ks out) 0 (λ q. z (fit_row_lem ∙ q)) in
      (rw h (ap Err fit_row_lem), rw h)

  module _ (z : row ≡ 0) where
    held_all : all_held b ks ≡ true
    held_all = none_refuses (none_fits (length out) (slot_lines b sub ks)) (all_held b ks) (sym fit_row_lem ∙ z)

    count_is_fitting : f.lines ≡ fitting (length out) (slot_lines b sub ks)
    count_is_fitting =
        let e : take (held_len b ks) ks ≡ ks = take_all (held_len b ks) ks (omega (arith, held_full b ks held_all)) in
        ap (λ v. v.lines) (fit_is ∙ ap (λ v. fitted_in 0 (length out) (sizes b (length (json_of (escape sub))) v)) e)
        ∙ fitted_lines b sub s 0 (length out) ks held_all ∙ omega arith

    text_is : written (events_of b sub (take f.lines ks)) ≡ fitting_text b sub ks out
    unfolding fitting_text
    text_is = ap (λ v. written (events_of b sub (take v ks))) count_is_fitting ∙ lines_joined b sub s (fitting (length out) (slot_lines b sub ks)) ks held_all

    text_fits : length (fitting_text b sub ks out) ≤ length out
    unfolding fitting_text
    text_fits = (batches (length out) (slot_lines b sub ks)).fits

    pub lines_sent : {r : ℕ} {o : List ℕ} → Puts out 0 (written (events_of b sub (take f.lines ks))) r o
        → (Ok (r, f.lines) ≡ sent_lines b sub ks out) × (o ≡ sent_lines_out b sub ks out)
    unfolding sent_lines sent_lines_out
    lines_sent p =
        let h = eq-eqb (lines_row b sub ks out) 0 (sym fit_row_lem ∙ z) in
        let (x, y) = puts_whole text_fits (rw text_is at p) in
        (rw h (ap₂ {C = Result (ℕ × ℕ) ℕ} (λ i j. Ok (i, j)) x count_is_fitting), rw h y)

-- ---- what is answered
abbrev pub AsEvents : (b ks m : List ℕ) → Span → List ℕ → Result (ℕ × ℕ) ℕ → List ℕ → Type 0
AsEvents b ks m s out w o = (w ≡ sent_events b ks m s out) × ((sent_number w ≡ events_row b ks m s out) × (o ≡ sent_events_out b ks m s out))

module _ (b ks m : List ℕ) (s : Span) (out : List ℕ) {x : ℕ} (e : x ≡ subscription_row m s) where
  as_sent : (row : ℕ) {w : Result (ℕ × ℕ) ℕ} {o : List ℕ} → events_row b ks m s out ≡ row
      → w ≡ sent_by row (length (fitting_text b (said m s) ks out)) (fitting (length out) (slot_lines b (said m s) ks))
      → o ≡ output_after row (fitting_text b (said m s) ks out) out → AsEvents b ks m s out w o
  unfolding sent_events sent_events_out
  as_sent row q f g = (rw q f, (ap sent_number f ∙ sent_number_lem row _ _ ∙ sym q, rw q g))

  pub name_refused : (x ≡ 0 → ⊥) → AsEvents b ks m s out (Err x) out
  unfolding events_row
  name_refused ne =
      let q = eose_row_lem m s e in
      as_sent x (rw (ne_eqb (eose_row m s) 0 (λ z. ne (q ∙ z))) (sym q)) (rw (ne_eqb x 0 ne) refl) (rw (ne_eqb x 0 ne) refl)

  module _ (z : x ≡ 0) {y : Bool} (f : y ≡ sound b) where
    later : events_row b ks m s out ≡ cond y (lines_row b (said m s) ks out) 11
    unfolding events_row
    later = rw (eq-eqb (eose_row m s) 0 (sym (eose_row_lem m s e) ∙ z), f) refl

    pub table_refused : y ≡ false → AsEvents b ks m s out (Err 11) out
    table_refused q = as_sent 11 (later ∙ ap (λ v. cond v (lines_row b (said m s) ks out) 11) q) refl refl

    pub events_sent : y ≡ true → {id : List ℕ} → id ≡ part m s.start s.len → {w : Result (ℕ × ℕ) ℕ} {o : List ℕ}
        → (w ≡ sent_lines b (decode id) ks out) × (o ≡ sent_lines_out b (decode id) ks out) → AsEvents b ks m s out w o
    unfolding sent_lines sent_lines_out
    events_sent q i (g, h) =
        as_sent (lines_row b (said m s) ks out) (later ∙ ap (λ v. cond v (lines_row b (said m s) ks out) 11) q) (rw i at g) (rw i at h)
