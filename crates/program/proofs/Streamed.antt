-- A REQ's answer a reply at a time: the claims of specs/Claims/Respond on single EVENTs and on as many as fit.
use Rattle.std.specs.Prelude.{Ok, Err}
use mathlib.Core.Path.{◌≡◌, refl, sym, ap, ap₂, ◌∙◌}
use mathlib.Core.Bool.{Bool, true, false, cond, ◌&&◌}
use mathlib.Core.Logic.{◌⊎◌, inl, inr, ⊎_elim, ◌≢◌}
use mathlib.Core.List.Memᴰ
use mathlib.Core.List.{List, [], ◌∷◌, ◌++◌, map, append_assoc, append-nil}
use Prim.Native.Nat.{ℕ, zero, suc, ◌-◌, ◌≤◌, ◌<◌}
use native.Mathlib.Omega.{arith}
use borrow.Author.Tests.{eq-eqb, ne_eqb, ltb-true, ltb-false, lt-ltb, le-ltb}
use lib.Dec.{ltb}
use lib.ListN.{length, take, drop, length-append}
use Rattle.text.specs.Event.{all}
use Rattle.text.specs.Read.{read_text}
use Rattle.text.proofs.Pieces.{both}
use Rattle.message.specs.declared.Span.{Span}
use Rattle.event.specs.Lent.{said}
use Rattle.event.specs.Answer.{or_else, answered}
use Rattle.law.specs.Lists.{◌∈◌}
use Rattle.table.specs.Layout.{count_of, slot_at, text_in}
use Rattle.table.specs.Sound.{sound}
use Rattle.table.specs.Format.{shown_row}
use Rattle.table.proofs.Valid as valid
use Rattle.query.specs.Answer.{answer_list, filters_meant}
use Rattle.wire.specs.Lowest.{Lowest}
use Rattle.wire.proofs.Cases.{clash}
use Rattle.wire.proofs.Lowest.{alike}
use Rattle.query.proofs.Listings.{or_else_lem}
use Rattle.reply.specs.Replies.{eose}
use Rattle.reply.specs.Lent.{eose_row, output_after}
use Rattle.program.specs.Program.{event_replies, events_of, request_replies, replies_to, reply_line, written}
use Rattle.reply.specs.Claims.{PartsHold, WritesOr}
use Rattle.reply.specs.declared.ReplyParts.TheVariants as parts
use Rattle.program.specs.Respond.{response, slot_text, slot_line, slot_event_row, slot_event, slot_event_out, joined}
use Rattle.program.specs.Respond.{fitting, slot_lines, fitting_text, none_fits, all_held, events_row, sent_events}
use Rattle.program.specs.Respond.{sent_events_out, sent_number, sent_bytes, sent_slots}
use Rattle.program.specs.Claims.Respond.{OneByOne, SlotTextIs, SlotEventHolds, of_subscription, not_sound}
use Rattle.program.specs.Claims.Respond.{too_short, not_held, SlotEventRowIs, SlotEventMeans, Batches, EventsHold}
use Rattle.program.specs.Claims.Respond.{of_label, bad_table, none_fits_lem, some_not_held, EventsRowIs, SentIs}
use Rattle.program.specs.Claims.Respond.{SentMeans}
use Rattle.reply.proofs.Lent.{parts_row_is, parts_hold, zero_or, writes_or}
use Rattle.program.proofs.Lines.{written_append}
use Rattle.program.proofs.Shown.{answers_held, slot_reads}
use Rattle.program.proofs.Respond.{fits_if}

-- ---- one row that holds and is the lowest; none
lowest_one : {P : ℕ → Type 0} (n : ℕ) → 1 ≤ n → P n → ((k : ℕ) → P k → n ≤ k) → Lowest P n
lowest_one n l p h = record { holds = λ ne. p; least = λ k q ne. (λ z. absurd (omega arith), h k q) }

lowest_none : {P : ℕ → Type 0} → ((k : ℕ) → P k → ⊥) → Lowest P 0
lowest_none h = record { holds = λ ne. absurd (ne refl); least = λ k q ne. absurd (h k q) }

-- ---- the EVENTs of an answer, line by line
lines_are : (b sub ks : List ℕ) → ((k : ℕ) → k ∈ ks → k < count_of b) → written (events_of b sub ks) ≡ joined (slot_lines b sub ks)
unfolding events_of joined slot_line written
lines_are b sub [] h = refl
lines_are b sub (k ∷ ks) h =
    written_append (event_replies sub (slot_at b k) (read_text (text_in (slot_at b k)))) (events_of b sub ks)
    ∙ ap₂ ◌++◌ (sym (ap (λ x. written (cond x (event_replies sub (slot_at b k) (read_text (text_in (slot_at b k)))) [])) (lt-ltb k (count_of b) (h k (Memᴰ.head refl)))))
    (lines_are b sub ks (λ j i. h j (Memᴰ.tail i)))

eose_line_lem : (sub : List ℕ) → written (eose sub ∷ []) ≡ reply_line (eose sub)
unfolding written
eose_line_lem sub = append-nil (reply_line (eose sub))

pub one_by_one : OneByOne
unfolding response replies_to request_replies
one_by_one b m r e s =
    let sub = said m r.subscription in
    let ks = answer_list b (filters_meant m r.filters) in
    rw (e, s)
    (written_append (events_of b sub ks) (eose sub ∷ []) ∙ ap₂ ◌++◌ (lines_are b sub ks (answers_held b (filters_meant m r.filters))) (eose_line_lem sub))

pub slot_text_is : SlotTextIs
unfolding slot_text slot_line written
slot_text_is b sub k s h =
    let (e, r) = slot_reads b k s h in
    let l = lt-ltb k (count_of b) h in
    (e, r, rw (l, r), rw (l, r) (append-nil _))

-- ---- the EVENT of one slot
module _ (b : List ℕ) (k : ℕ) (m : List ℕ) (s : Span) (out : List ℕ) where
  abbrev text : List ℕ
  text = slot_text b (said m s) k

  -- rows 11, 13 and 14
  data Later : ℕ → Type 0 where
    eleven : sound b ≡ false → Later 11
    thirteen : k < count_of b → length out < length text → Later 13
    fourteen : count_of b ≤ k → Later 14

  later_high : (r : ℕ) → Later r → 9 < r
  later_high _ (eleven h) = omega arith
  later_high _ (thirteen h l) = omega arith
  later_high _ (fourteen h) = omega arith

  later_row : (x y z : Bool) → sound b ≡ x → ltb k (count_of b) ≡ y → ltb (length out) (length text) ≡ z
      → Lowest Later (or_else (cond x (cond y 0 14) 11) (cond z 13 0))
  later_row false y z e f g = lowest_one 11 (omega arith) (eleven e) least
    where
      least : (r : ℕ) → Later r → 11 ≤ r
      least _ (eleven h) = omega arith
      least _ (thirteen h l) = omega arith
      least _ (fourteen h) = omega arith
  later_row true false z e f g = let n = ltb-false k (count_of b) f in lowest_one 14 (omega arith) (fourteen n) (least n)
    where
      least : count_of b ≤ k → (r : ℕ) → Later r → 14 ≤ r
      least n _ (eleven h) = absurd (clash e h)
      least n _ (thirteen h l) = absurd (omega arith)
      least n _ (fourteen h) = omega arith
  later_row true true true e f g = lowest_one 13 (omega arith) (thirteen (ltb-true k (count_of b) f) (ltb-true (length out) (length text) g)) least
    where
      least : (r : ℕ) → Later r → 13 ≤ r
      least _ (eleven h) = absurd (clash e h)
      least _ (thirteen h l) = omega arith
      least _ (fourteen h) = omega arith
  later_row true true false e f g = lowest_none none
    where
      none : (r : ℕ) → Later r → ⊥
      none _ (eleven h) = clash e h
      none _ (thirteen h l) = clash (lt-ltb (length out) (length text) l) g
      none _ (fourteen h) = let z = ltb-true k (count_of b) f in omega arith

  to_holds : (r : ℕ) → PartsHold m (parts.Eose s) r ⊎ Later r → SlotEventHolds b k m s out r
  to_holds r (inl h) = of_subscription h
  to_holds _ (inr (eleven h)) = not_sound h
  to_holds _ (inr (thirteen h l)) = too_short h l
  to_holds _ (inr (fourteen h)) = not_held h

  of_holds : (r : ℕ) → SlotEventHolds b k m s out r → PartsHold m (parts.Eose s) r ⊎ Later r
  of_holds r (of_subscription h) = inl h
  of_holds _ (not_sound h) = inr (eleven h)
  of_holds _ (too_short h l) = inr (thirteen h l)
  of_holds _ (not_held h) = inr (fourteen h)

pub slot_event_row_is : SlotEventRowIs
unfolding slot_event_row shown_row
slot_event_row_is b k m s out =
    alike (to_holds b k m s out) (of_holds b k m s out)
    (or_else_lem 9 (eose_row m s) _ (λ r h. (parts_hold m (parts.Eose s) r h).1) (later_high b k m s out) (parts_row_is m (parts.Eose s))
    (later_row b k m s out (sound b) (ltb k (count_of b)) (ltb (length out) (length (slot_text b (said m s) k))) refl refl refl))

-- a row, or else another, is none where neither is
pub slot_event_means : SlotEventMeans
unfolding slot_event slot_event_out slot_event_row
slot_event_means b k m s out =
    writes_or (slot_event_row b k m s out) (slot_text b (said m s) k) out
    (λ e. fits_if (slot_text b (said m s) k) out (valid.or_else_lem (shown_row b k) _ (valid.or_else_lem (eose_row m s) _ e).1).1)

-- ---- as many as fit
joined_parts : (n : ℕ) (ls : List (List ℕ)) → joined (take n ls) ++ joined (drop n ls) ≡ joined ls
unfolding joined
joined_parts zero ls = refl
joined_parts (suc n) [] = refl
joined_parts (suc n) (l ∷ ls) = append_assoc l (joined (take n ls)) (joined (drop n ls)) ∙ ap (l ++◌) (joined_parts n ls)

joined_fits : (room : ℕ) (ls : List (List ℕ)) → length (joined (take (fitting room ls) ls)) ≤ room
unfolding joined fitting
joined_fits room [] = omega arith
joined_fits room (l ∷ ls) = go (ltb room (length l)) refl (joined_fits (room - length l) ls)
  where
    go : (t : Bool) → ltb room (length l) ≡ t → length (joined (take (fitting (room - length l) ls) ls)) ≤ room - length l
        → length (joined (take (cond t 0 (suc (fitting (room - length l) ls))) (l ∷ ls))) ≤ room
    go true e ih = omega arith
    go false e ih = let h = ltb-false room (length l) e in omega (arith, length-append l (joined (take (fitting (room - length l) ls) ls)))

fitting_most : (room : ℕ) (ls : List (List ℕ)) (n : ℕ) → n ≤ length ls → length (joined (take n ls)) ≤ room → n ≤ fitting room ls
unfolding joined fitting
fitting_most room ls zero l h = omega arith
fitting_most room [] (suc n) l h = absurd (omega arith)
fitting_most room (x ∷ ls) (suc n) l h =
    let z = length-append x (joined (take n ls)) in
    let i = fitting_most (room - length x) ls n (omega arith) (omega arith) in
    rw (le-ltb room (length x) (omega arith)) (omega arith)

fitting_few : (room : ℕ) (ls : List (List ℕ)) → fitting room ls ≤ length ls
unfolding fitting
fitting_few room [] = omega arith
fitting_few room (l ∷ ls) = go (ltb room (length l)) (fitting_few (room - length l) ls)
  where
    go : (t : Bool) → fitting (room - length l) ls ≤ length ls → cond t 0 (suc (fitting (room - length l) ls)) ≤ suc (length ls)
    go true ih = omega arith
    go false ih = omega arith

pub batches : Batches
batches room ls = record { fits = joined_fits room ls; most = fitting_most room ls; few = fitting_few room ls; rest = joined_parts (fitting room ls) ls }

some_fits : (room : ℕ) (l : List ℕ) (ls : List (List ℕ)) → none_fits room (l ∷ ls) ≡ false → 1 ≤ fitting room (l ∷ ls)
unfolding fitting
some_fits room l ls e = rw e (omega arith)

-- ---- the EVENTs of some slots
all_or : (p : ℕ → Bool) (l : List ℕ) → all p l ≡ false → (k : ℕ) × (k ∈ l) × (p k ≡ false)
unfolding all
all_or p [] e = absurd (clash refl e)
all_or p (x ∷ l) e = go (p x) refl e (all_or p l)
  where
    go : (y : Bool) → p x ≡ y → (y && all p l) ≡ false → (all p l ≡ false → (k : ℕ) × (k ∈ l) × (p k ≡ false)) → (k : ℕ) × (k ∈ x ∷ l) × (p k ≡ false)
    go true q h ih = let (k, i, f) = ih h in (k, Memᴰ.tail i, f)
    go false q h ih = (x, Memᴰ.head refl, q)

all_each : (p : ℕ → Bool) (l : List ℕ) → all p l ≡ true → (k : ℕ) → k ∈ l → p k ≡ true
unfolding all
all_each p [] e k i = absurd (Memᴰ.not-nil i)
all_each p (x ∷ l) e k i = ⊎_elim (λ q. rw q (both (p x) (all p l) e).0) (λ j. all_each p l (both (p x) (all p l) e).1 k j) (Memᴰ.cases_cons i)

-- only a held slot has a line
has_line : (b sub : List ℕ) (k : ℕ) → 0 < length (slot_line b sub k) → k < count_of b
unfolding slot_line written
has_line b sub k = go (ltb k (count_of b)) refl
  where
    go : (x : Bool) → ltb k (count_of b) ≡ x → 0 < length (written (cond x (event_replies sub (slot_at b k) (read_text (text_in (slot_at b k)))) [])) → k < count_of b
    go true e l = ltb-true k (count_of b) e
    go false e l = absurd (omega arith)

module _ (b ks m : List ℕ) (s : Span) (out : List ℕ) where
  abbrev ls : List (List ℕ)
  ls = slot_lines b (said m s) ks

  data After : ℕ → Type 0 where
    eleven' : sound b ≡ false → After 11
    thirteen' : none_fits (length out) ls ≡ true → After 13
    fourteen' : all_held b ks ≡ false → After 14

  after_high : (r : ℕ) → After r → 9 < r
  after_high _ (eleven' h) = omega arith
  after_high _ (thirteen' h) = omega arith
  after_high _ (fourteen' h) = omega arith

  after_row : (x y z : Bool) → sound b ≡ x → none_fits (length out) ls ≡ y → all_held b ks ≡ z → Lowest After (cond x (cond y 13 (cond z 0 14)) 11)
  after_row false y z e f g = lowest_one 11 (omega arith) (eleven' e) least
    where
      least : (r : ℕ) → After r → 11 ≤ r
      least _ (eleven' h) = omega arith
      least _ (thirteen' h) = omega arith
      least _ (fourteen' h) = omega arith
  after_row true true z e f g = lowest_one 13 (omega arith) (thirteen' f) least
    where
      least : (r : ℕ) → After r → 13 ≤ r
      least _ (eleven' h) = absurd (clash e h)
      least _ (thirteen' h) = omega arith
      least _ (fourteen' h) = omega arith
  after_row true false false e f g = lowest_one 14 (omega arith) (fourteen' g) least
    where
      least : (r : ℕ) → After r → 14 ≤ r
      least _ (eleven' h) = absurd (clash e h)
      least _ (thirteen' h) = absurd (clash h f)
      least _ (fourteen' h) = omega arith
  after_row true false true e f g = lowest_none none
    where
      none : (r : ℕ) → After r → ⊥
      none _ (eleven' h) = clash e h
      none _ (thirteen' h) = clash h f
      none _ (fourteen' h) = clash g h

  to_events : (r : ℕ) → PartsHold m (parts.Eose s) r ⊎ After r → EventsHold b ks m s out r
  to_events r (inl h) = of_label h
  to_events _ (inr (eleven' h)) = bad_table h
  to_events _ (inr (thirteen' h)) = first ks refl h
    where
      first : (js : List ℕ) → ks ≡ js → none_fits (length out) (slot_lines b (said m s) js) ≡ true → EventsHold b ks m s out 13
      first [] e q = absurd (clash q refl)
      first (k ∷ js) e q =
          let l = ltb-true (length out) (length (slot_line b (said m s) k)) q in
          none_fits_lem e (has_line b (said m s) k (omega arith)) l
  to_events _ (inr (fourteen' h)) = let (k, i, e) = all_or (λ k. ltb k (count_of b)) ks h in some_not_held i (ltb-false k (count_of b) e)

  of_events : (r : ℕ) → EventsHold b ks m s out r → PartsHold m (parts.Eose s) r ⊎ After r
  of_events r (of_label h) = inl h
  of_events _ (bad_table h) = inr (eleven' h)
  of_events _ (none_fits_lem {k = k} e h l) = inr (thirteen' (rw e (lt-ltb (length out) (length (slot_line b (said m s) k)) l)))
  of_events _ (some_not_held {k = k} i l) = inr (fourteen' (not_all (all_held b ks) refl))
    where
      not_all : (x : Bool) → all_held b ks ≡ x → x ≡ false
      not_all true e = absurd (clash (all_each (λ j. ltb j (count_of b)) ks e k i) (le-ltb k (count_of b) l))
      not_all false e = refl

pub events_row_is : EventsRowIs
unfolding events_row
events_row_is b ks m s out =
    alike (to_events b ks m s out) (of_events b ks m s out)
    (or_else_lem 9 (eose_row m s) _ (λ r h. (parts_hold m (parts.Eose s) r h).1) (after_high b ks m s out) (parts_row_is m (parts.Eose s))
    (after_row b ks m s out (sound b) (none_fits (length out) (slot_lines b (said m s) ks)) (all_held b ks) refl refl refl))

take_map : (f : ℕ → List ℕ) (n : ℕ) (l : List ℕ) → take n (map f l) ≡ map f (take n l)
take_map f zero l = refl
take_map f (suc n) [] = refl
take_map f (suc n) (x ∷ l) = ap (f x ∷◌) (take_map f n l)

-- where nothing refuses, some line fits if there is one
row_fits : (b ks m : List ℕ) (s : Span) (out : List ℕ) → events_row b ks m s out ≡ 0 → ks ≢ [] → 1 ≤ fitting (length out) (slot_lines b (said m s) ks)
unfolding events_row
row_fits b [] m s out e ne = absurd (ne refl)
row_fits b (k ∷ ks) m s out e ne = some_fits (length out) (slot_line b (said m s) k) _ (fits (sound b) _ refl (valid.or_else_lem (eose_row m s) _ e).1)
  where
    fits : (x y : Bool) → none_fits (length out) (slot_lines b (said m s) (k ∷ ks)) ≡ y → ◌≡◌ {A = ℕ} (cond x (cond y 13 (cond (all_held b (k ∷ ks)) 0 14)) 11) 0
        → none_fits (length out) (slot_lines b (said m s) (k ∷ ks)) ≡ false
    fits false y q z = absurd (omega arith)
    fits true true q z = absurd (omega arith)
    fits true false q z = q

module _ (b ks m : List ℕ) (s : Span) (out : List ℕ) where
  abbrev row : ℕ
  row = events_row b ks m s out

  abbrev served : ℕ
  served = fitting (length out) (slot_lines b (said m s) ks)

  abbrev bytes : List ℕ
  bytes = joined (take served (slot_lines b (said m s) ks))

  is_sent : row ≡ 0 → sent_events b ks m s out ≡ Ok ((length bytes), served)
  unfolding sent_events fitting_text
  is_sent e = rw (eq-eqb row 0 e)

  is_refused_lem : row ≢ 0 → sent_events b ks m s out ≡ Err row
  unfolding sent_events
  is_refused_lem ne = rw (ne_eqb row 0 ne)

  writes : WritesOr row bytes out (answered row (length bytes)) (output_after row bytes out)
  writes = writes_or row bytes out (λ e. joined_fits (length out) (slot_lines b (said m s) ks))

  sent_is : SentIs b ks m s out
  unfolding sent_events_out fitting_text
  sent_is = record {
    number = ⊎_elim (λ e. ap sent_number (is_sent e) ∙ sym e) (λ ne. ap sent_number (is_refused_lem ne)) (zero_or row);
    bytes = λ e. ap sent_bytes (is_sent e);
    begins = λ e.
        ap (λ x. take (sent_bytes x) (output_after row bytes out)) (is_sent e) ∙ writes.begins e ∙ ap joined (take_map (slot_line b (said m s)) served ks)
        ∙ sym (ap (λ x. joined (slot_lines b (said m s) (take (sent_slots x) ks))) (is_sent e));
    rest = λ e. ap (λ x. drop (sent_bytes x) (output_after row bytes out)) (is_sent e) ∙ writes.rest e ∙ sym (ap (λ x. drop (sent_bytes x) out) (is_sent e));
    progress = λ e ne. let z = ap sent_slots (is_sent e) in let l = row_fits b ks m s out e ne in omega arith;
    as_long = writes.as_long;
    refused = λ ne. (ap sent_bytes (is_refused_lem ne), ap sent_slots (is_refused_lem ne), (writes.refused ne).2);
  }

pub sent_means : SentMeans
sent_means b ks m s out = sent_is b ks m s out
