-- A reply given as lent parts: its row, its answer and the output; and the number of other answers. The last claims of
-- specs/Claims/Replies.
use Rattle.std.specs.Prelude.{Ok, Err}
use mathlib.Core.Path.{◌≡◌, refl, sym, ap, ◌∙◌}
use mathlib.Core.Bool.{Bool, true, false, cond, ◌||◌, false≢true}
use mathlib.Core.Logic.{◌⊎◌, inl, inr, ⊎_elim, ◌≢◌}
use mathlib.Core.List.{List, ◌++◌}
use Prim.Native.Nat.{ℕ, ◌≤◌, ◌<◌}
use native.Mathlib.Omega.{arith}
use borrow.Author.Tests.{eqb-true, eqb-false, eq-eqb, ne_eqb, ltb-true, ltb-false, lt-ltb}
use lib.Dec.{eqb, ltb}
use lib.ListN.{length, take, drop, length-append, length-drop}
use lib.Seq.{take_at, drop_at}
use Rattle.wire.specs.Limits.{hex_length}
use Rattle.message.specs.declared.Span.{Span}
use Rattle.message.specs.declared.EventParts.{EventParts}
use Rattle.message.specs.Lent.{string2, string4, string5, string7, event2, event4, event5, event7, body6, body8}
use Rattle.message.specs.Inner.{lowest_by}
use Rattle.event.specs.Answer.{or_else, is_large, answered, serialised, serialised_row, written_number, written_length}
use Rattle.wire.specs.Lowest.{Lowest}
use Rattle.wire.proofs.Cases.{bool, clash, or_cases, or_right}
use Rattle.wire.proofs.Lowest.{alike}
use Rattle.reply.specs.declared.ReplyParts.{ReplyParts}
use Rattle.reply.specs.declared.ReplyParts.TheVariants as parts
use Rattle.reply.specs.Lent.{subscription8, parts_row, output_after, reply_row, replied, replied_out}
use Rattle.reply.specs.Claims.{lent_text, ok_id, ok_reason, event_subscription, eose_subscription}
use Rattle.reply.specs.Claims.{closed_subscription, closed_reason, notice_reason, of_event, of_eose, of_closed}
use Rattle.reply.specs.Claims.{EventHolds, event_utf8, event_string, event_shape, event_number_lem, event_hex_lem}
use Rattle.reply.specs.Claims.{event_count_lem, event_large, PartsHold, not_utf8, not_allowed, not_spelled, not_hex}
use Rattle.reply.specs.Claims.{miscounted, in_event, PartsRowIs, PartsPass, ReplyHolds, of_parts, too_short}
use Rattle.reply.specs.Claims.{ReplyRowIs, PartsFirst, ShortOutput, ReplyFits, WritesOr, RepliedMeans}
use Rattle.reply.specs.Claims.{SerialisedNumber}

pub zero_or : (r : ℕ) → (r ≡ 0) ⊎ (r ≢ 0)
zero_or r = ⊎_elim (λ e. inl (eqb-true r 0 e)) (λ e. inr (eqb-false r 0 e)) (bool (eqb r 0))

-- ---- a text is written that fits where no row refuses it
pub writes_or : (row : ℕ) (t out : List ℕ) → (row ≡ 0 → length t ≤ length out) → WritesOr row t out (answered row (length t)) (output_after row t out)
writes_or row t out fits = record {
  number = ⊎_elim (λ e. ap written_number (is_wrote e) ∙ sym e) (λ ne. ap written_number (is_refused_lem ne)) (zero_or row);
  wrote = is_wrote;
  value = λ e. ap written_length (is_wrote e);
  begins = λ e. ap (take (length t)) (taken e) ∙ take_at t (drop (length t) out) (length t) refl;
  rest = λ e. ap (drop (length t)) (taken e) ∙ drop_at t (drop (length t) out) (length t) refl;
  as_long = ⊎_elim (λ e. ap length (taken e) ∙ (let h = fits e in simp (length-append, length-drop) (omega arith))) (λ ne. ap length (left ne)) (zero_or row);
  refused = λ ne. (is_refused_lem ne, ap written_length (is_refused_lem ne), left ne);
}
  where
    taken : row ≡ 0 → output_after row t out ≡ t ++ drop (length t) out
    taken e = rw (eq-eqb row 0 e)

    left : row ≢ 0 → output_after row t out ≡ out
    left ne = rw (ne_eqb row 0 ne)

    is_wrote : row ≡ 0 → answered row (length t) ≡ Ok (length t)
    is_wrote e = rw (eq-eqb row 0 e)

    is_refused_lem : row ≢ 0 → answered row (length t) ≡ Err row
    is_refused_lem ne = rw (ne_eqb row 0 ne)

-- ---- the lowest_by of rows that are tested one after the other
-- the lowest_by of rows that are all above m
record Above (P : ℕ → Type 0) (m r : ℕ) : Type 0 where
  above : (k : ℕ) → P k → m < k
  is : Lowest P r

no_more : Above (λ k. ⊥) 9 0
no_more = record { above = λ k h. absurd h; is = record { holds = λ ne. absurd (ne refl); least = λ k h ne. absurd h } }

first : {P : ℕ → Type 0} (x : Bool) (m n r : ℕ) → m < n → Above P n r → Above (λ k. ((k ≡ n) × (x ≡ true)) ⊎ P k) m (cond x n r)
first {P} x m n r l p = record { above = higher; is = go x refl }
  where
    higher : (k : ℕ) → ((k ≡ n) × (x ≡ true)) ⊎ P k → m < k
    higher k (inl (e, h)) = omega arith
    higher k (inr h) = let z = p.above k h in omega arith

    no_lower : (k : ℕ) → ((k ≡ n) × (x ≡ true)) ⊎ P k → n ≤ k
    no_lower k (inl (e, h)) = omega arith
    no_lower k (inr h) = let z = p.above k h in omega arith

    go : (y : Bool) → x ≡ y → Lowest (λ k. ((k ≡ n) × (x ≡ true)) ⊎ P k) (cond y n r)
    go true e = record { holds = λ ne. inl (refl, e); least = λ k h ne. (λ z. absurd (omega arith), no_lower k h) }
    go false e = record { holds = λ ne. inr (p.is.holds ne); least = λ k h ne. ⊎_elim (λ q. absurd (clash q.1 e)) (λ i. p.is.least k i ne) h }

-- rows 2 and 4 to 9
abbrev lowest_of : Bool → Bool → Bool → Bool → Bool → Bool → Bool → ℕ
lowest_of a b c d e f g = cond a 2 (cond b 4 (cond c 5 (cond d 6 (cond e 7 (cond f 8 (cond g 9 0))))))

data Tested (a b c d e f g : Bool) : ℕ → Type 0 where
  row2 : a ≡ true → Tested a b c d e f g 2
  row4 : b ≡ true → Tested a b c d e f g 4
  row5 : c ≡ true → Tested a b c d e f g 5
  row6 : d ≡ true → Tested a b c d e f g 6
  row7 : e ≡ true → Tested a b c d e f g 7
  row8 : f ≡ true → Tested a b c d e f g 8
  row9 : g ≡ true → Tested a b c d e f g 9

module _ (a b c d e f g : Bool) where
  abbrev One : Bool → ℕ → (ℕ → Type 0) → ℕ → Type 0
  One x n P k = ((k ≡ n) × (x ≡ true)) ⊎ P k

  abbrev Some : ℕ → Type 0
  Some = One a 2 (One b 4 (One c 5 (One d 6 (One e 7 (One f 8 (One g 9 (λ k. ⊥)))))))

  to_tested : (k : ℕ) → Some k → Tested a b c d e f g k
  to_tested k (inl (q, h)) = rw q (row2 h)
  to_tested k (inr (inl (q, h))) = rw q (row4 h)
  to_tested k (inr (inr (inl (q, h)))) = rw q (row5 h)
  to_tested k (inr (inr (inr (inl (q, h))))) = rw q (row6 h)
  to_tested k (inr (inr (inr (inr (inl (q, h)))))) = rw q (row7 h)
  to_tested k (inr (inr (inr (inr (inr (inl (q, h))))))) = rw q (row8 h)
  to_tested k (inr (inr (inr (inr (inr (inr (inl (q, h)))))))) = rw q (row9 h)
  to_tested k (inr (inr (inr (inr (inr (inr (inr h))))))) = absurd h

  of_tested : (k : ℕ) → Tested a b c d e f g k → Some k
  of_tested _ (row2 h) = inl (refl, h)
  of_tested _ (row4 h) = inr (inl (refl, h))
  of_tested _ (row5 h) = inr (inr (inl (refl, h)))
  of_tested _ (row6 h) = inr (inr (inr (inl (refl, h))))
  of_tested _ (row7 h) = inr (inr (inr (inr (inl (refl, h)))))
  of_tested _ (row8 h) = inr (inr (inr (inr (inr (inl (refl, h))))))
  of_tested _ (row9 h) = inr (inr (inr (inr (inr (inr (inl (refl, h)))))))

  tested_lowest : Lowest (Tested a b c d e f g) (lowest_of a b c d e f g)
  tested_lowest =
      alike to_tested of_tested
      (first a 1 2 _ (omega arith) (first b 2 4 _ (omega arith) (first c 4 5 _ (omega arith) (first d 5 6 _ (omega arith)
      (first e 6 7 _ (omega arith) (first f 7 8 _ (omega arith) (first g 8 9 _ (omega arith) no_more))))))).is

  or_nine : or_else (lowest_by a b c d e f) (cond g 9 0) ≡ lowest_of a b c d e f g
  or_nine = go a b c d e f
    where
      go : (a b c d e f : Bool) → or_else (lowest_by a b c d e f) (cond g 9 0) ≡ lowest_of a b c d e f g
      go true b c d e f = refl
      go false true c d e f = refl
      go false false true d e f = refl
      go false false false true e f = refl
      go false false false false true f = refl
      go false false false false false true = refl
      go false false false false false false = refl

-- ---- the row of a reply's parts
or_left : (a b : Bool) → a ≡ true → a || b ≡ true
or_left true b e = refl
or_left false b e = absurd (false≢true e)

no : {A : Type 0} → false ≡ true → A
no e = absurd (false≢true e)

module _ (b : List ℕ) where
  ok_row_lem : (i r : Span) (a : Bool) → Lowest (PartsHold b (parts.Ok i a r)) (parts_row b (parts.Ok i a r))
  ok_row_lem i r a = alike to from (tested_lowest (string2 b i || string2 b r) (string4 b i || string4 b r) (string5 b i || string5 b r) false (string7 hex_length b i) false false)
    where
      Is : ℕ → Type 0
      Is = Tested (string2 b i || string2 b r) (string4 b i || string4 b r) (string5 b i || string5 b r) false (string7 hex_length b i) false false

      to : (k : ℕ) → Is k → PartsHold b (parts.Ok i a r) k
      to _ (row2 h) = ⊎_elim (not_utf8 ok_id) (not_utf8 ok_reason) (or_cases _ _ h)
      to _ (row4 h) = ⊎_elim (not_allowed ok_id) (not_allowed ok_reason) (or_cases _ _ h)
      to _ (row5 h) = ⊎_elim (not_spelled ok_id) (not_spelled ok_reason) (or_cases _ _ h)
      to _ (row6 h) = no h
      to _ (row7 h) = not_hex h
      to _ (row8 h) = no h
      to _ (row9 h) = no h

      from : (k : ℕ) → PartsHold b (parts.Ok i a r) k → Is k
      from _ (not_utf8 ok_id h) = row2 (or_left (string2 b i) (string2 b r) h)
      from _ (not_utf8 ok_reason h) = row2 (or_right (string2 b i) (string2 b r) h)
      from _ (not_allowed ok_id h) = row4 (or_left (string4 b i) (string4 b r) h)
      from _ (not_allowed ok_reason h) = row4 (or_right (string4 b i) (string4 b r) h)
      from _ (not_spelled ok_id h) = row5 (or_left (string5 b i) (string5 b r) h)
      from _ (not_spelled ok_reason h) = row5 (or_right (string5 b i) (string5 b r) h)
      from _ (not_hex h) = row7 h
      from _ (miscounted {s = s} x5 _) = elim x5 [ ]

  closed_row_lem : (s r : Span) → Lowest (PartsHold b (parts.Closed s r)) (parts_row b (parts.Closed s r))
  closed_row_lem s r = alike to from (tested_lowest (string2 b s || string2 b r) (string4 b s || string4 b r) (string5 b s || string5 b r) false false (subscription8 b s) false)
    where
      Is : ℕ → Type 0
      Is = Tested (string2 b s || string2 b r) (string4 b s || string4 b r) (string5 b s || string5 b r) false false (subscription8 b s) false

      to : (k : ℕ) → Is k → PartsHold b (parts.Closed s r) k
      to _ (row2 h) = ⊎_elim (not_utf8 closed_subscription) (not_utf8 closed_reason) (or_cases _ _ h)
      to _ (row4 h) = ⊎_elim (not_allowed closed_subscription) (not_allowed closed_reason) (or_cases _ _ h)
      to _ (row5 h) = ⊎_elim (not_spelled closed_subscription) (not_spelled closed_reason) (or_cases _ _ h)
      to _ (row6 h) = no h
      to _ (row7 h) = no h
      to _ (row8 h) = miscounted of_closed h
      to _ (row9 h) = no h

      from : (k : ℕ) → PartsHold b (parts.Closed s r) k → Is k
      from _ (not_utf8 closed_subscription h) = row2 (or_left (string2 b s) (string2 b r) h)
      from _ (not_utf8 closed_reason h) = row2 (or_right (string2 b s) (string2 b r) h)
      from _ (not_allowed closed_subscription h) = row4 (or_left (string4 b s) (string4 b r) h)
      from _ (not_allowed closed_reason h) = row4 (or_right (string4 b s) (string4 b r) h)
      from _ (not_spelled closed_subscription h) = row5 (or_left (string5 b s) (string5 b r) h)
      from _ (not_spelled closed_reason h) = row5 (or_right (string5 b s) (string5 b r) h)
      from _ (miscounted of_closed h) = row8 h

  eose_row_lem : (s : Span) → Lowest (PartsHold b (parts.Eose s)) (parts_row b (parts.Eose s))
  eose_row_lem s = alike to from (tested_lowest (string2 b s) (string4 b s) (string5 b s) false false (subscription8 b s) false)
    where
      Is : ℕ → Type 0
      Is = Tested (string2 b s) (string4 b s) (string5 b s) false false (subscription8 b s) false

      to : (k : ℕ) → Is k → PartsHold b (parts.Eose s) k
      to _ (row2 h) = not_utf8 eose_subscription h
      to _ (row4 h) = not_allowed eose_subscription h
      to _ (row5 h) = not_spelled eose_subscription h
      to _ (row6 h) = no h
      to _ (row7 h) = no h
      to _ (row8 h) = miscounted of_eose h
      to _ (row9 h) = no h

      from : (k : ℕ) → PartsHold b (parts.Eose s) k → Is k
      from _ (not_utf8 eose_subscription h) = row2 h
      from _ (not_allowed eose_subscription h) = row4 h
      from _ (not_spelled eose_subscription h) = row5 h
      from _ (miscounted of_eose h) = row8 h

  notice_row_lem : (r : Span) → Lowest (PartsHold b (parts.Notice r)) (parts_row b (parts.Notice r))
  notice_row_lem r = alike to from (tested_lowest (string2 b r) (string4 b r) (string5 b r) false false false false)
    where
      Is : ℕ → Type 0
      Is = Tested (string2 b r) (string4 b r) (string5 b r) false false false false

      to : (k : ℕ) → Is k → PartsHold b (parts.Notice r) k
      to _ (row2 h) = not_utf8 notice_reason h
      to _ (row4 h) = not_allowed notice_reason h
      to _ (row5 h) = not_spelled notice_reason h
      to _ (row6 h) = no h
      to _ (row7 h) = no h
      to _ (row8 h) = no h
      to _ (row9 h) = no h

      from : (k : ℕ) → PartsHold b (parts.Notice r) k → Is k
      from _ (not_utf8 notice_reason h) = row2 h
      from _ (not_allowed notice_reason h) = row4 h
      from _ (not_spelled notice_reason h) = row5 h
      from _ (miscounted {s = s} x5 _) = elim x5 [ ]

  event_row_lem : (s : Span) (p : EventParts) → Lowest (PartsHold b (parts.Event s p)) (parts_row b (parts.Event s p))
  event_row_lem s p =
      rw (or_nine (string2 b s || event2 b p) (string4 b s || event4 b p) (string5 b s || event5 b p) (body6 p.body) (event7 b p) (subscription8 b s || body8 b p.body) (is_large b p.body))
      (alike to from (tested_lowest (string2 b s || event2 b p) (string4 b s || event4 b p) (string5 b s || event5 b p) (body6 p.body) (event7 b p) (subscription8 b s || body8 b p.body) (is_large b p.body)))
    where
      Is : ℕ → Type 0
      Is = Tested (string2 b s || event2 b p) (string4 b s || event4 b p) (string5 b s || event5 b p) (body6 p.body) (event7 b p) (subscription8 b s || body8 b p.body) (is_large b p.body)

      to : (k : ℕ) → Is k → PartsHold b (parts.Event s p) k
      to _ (row2 h) = ⊎_elim (not_utf8 event_subscription) (λ e. in_event (event_utf8 e)) (or_cases _ _ h)
      to _ (row4 h) = ⊎_elim (not_allowed event_subscription) (λ e. in_event (event_string e)) (or_cases _ _ h)
      to _ (row5 h) = ⊎_elim (not_spelled event_subscription) (λ e. in_event (event_shape e)) (or_cases _ _ h)
      to _ (row6 h) = in_event (event_number_lem h)
      to _ (row7 h) = in_event (event_hex_lem h)
      to _ (row8 h) = ⊎_elim (miscounted of_event) (λ e. in_event (event_count_lem e)) (or_cases _ _ h)
      to _ (row9 h) = in_event (event_large h)

      from : (k : ℕ) → PartsHold b (parts.Event s p) k → Is k
      from _ (not_utf8 event_subscription h) = row2 (or_left (string2 b s) (event2 b p) h)
      from _ (not_allowed event_subscription h) = row4 (or_left (string4 b s) (event4 b p) h)
      from _ (not_spelled event_subscription h) = row5 (or_left (string5 b s) (event5 b p) h)
      from _ (miscounted of_event h) = row8 (or_left (subscription8 b s) (body8 b p.body) h)
      from _ (in_event (event_utf8 h)) = row2 (or_right (string2 b s) (event2 b p) h)
      from _ (in_event (event_string h)) = row4 (or_right (string4 b s) (event4 b p) h)
      from _ (in_event (event_shape h)) = row5 (or_right (string5 b s) (event5 b p) h)
      from _ (in_event (event_number_lem h)) = row6 h
      from _ (in_event (event_hex_lem h)) = row7 h
      from _ (in_event (event_count_lem h)) = row8 (or_right (subscription8 b s) (body8 b p.body) h)
      from _ (in_event (event_large h)) = row9 h

pub parts_row_is : PartsRowIs
parts_row_is b (parts.Ok i a r) = ok_row_lem b i r a
parts_row_is b (parts.Event s p) = event_row_lem b s p
parts_row_is b (parts.Eose s) = eose_row_lem b s
parts_row_is b (parts.Closed s r) = closed_row_lem b s r
parts_row_is b (parts.Notice r) = notice_row_lem b r

event_holds : (b : List ℕ) (p : EventParts) (k : ℕ) → EventHolds b p k → (2 ≤ k) × (k ≤ 9)
event_holds b p _ (event_utf8 h) = (omega arith, omega arith)
event_holds b p _ (event_string h) = (omega arith, omega arith)
event_holds b p _ (event_shape h) = (omega arith, omega arith)
event_holds b p _ (event_number_lem h) = (omega arith, omega arith)
event_holds b p _ (event_hex_lem h) = (omega arith, omega arith)
event_holds b p _ (event_count_lem h) = (omega arith, omega arith)
event_holds b p _ (event_large h) = (omega arith, omega arith)

pub parts_hold : (b : List ℕ) (q : ReplyParts) (k : ℕ) → PartsHold b q k → (2 ≤ k) × (k ≤ 9)
parts_hold b q _ (not_utf8 s h) = (omega arith, omega arith)
parts_hold b q _ (not_allowed s h) = (omega arith, omega arith)
parts_hold b q _ (not_spelled s h) = (omega arith, omega arith)
parts_hold b _ _ (not_hex h) = (omega arith, omega arith)
parts_hold b q _ (miscounted s h) = (omega arith, omega arith)
parts_hold b _ k (in_event {p = p} h) = event_holds b p k h

pub parts_pass : PartsPass
parts_pass b q = (to, from)
  where
    to : parts_row b q ≡ 0 → (k : ℕ) → PartsHold b q k → ⊥
    to e k h = let (l, u) = parts_hold b q k h in ((parts_row_is b q).least k h (λ z. absurd (omega arith))).0 e

    from : ((k : ℕ) → PartsHold b q k → ⊥) → parts_row b q ≡ 0
    from n = ⊎_elim (λ e. e) (λ ne. absurd (n (parts_row b q) ((parts_row_is b q).holds ne))) (zero_or (parts_row b q))

-- ---- the row of a reply
module _ (b : List ℕ) (q : ReplyParts) (out : List ℕ) where
  abbrev text : List ℕ
  text = lent_text b q

  -- the two rows apart
  row_of : (x : Bool) → ltb (length out) (length text) ≡ x → reply_row b q out ≡ or_else (parts_row b q) (cond x 13 0)
  unfolding reply_row
  row_of x e = rw e

  of_the_parts : parts_row b q ≢ 0 → reply_row b q out ≡ parts_row b q
  unfolding reply_row
  of_the_parts ne = rw (ne_eqb (parts_row b q) 0 ne)

  of_the_output : parts_row b q ≡ 0 → (x : Bool) → ltb (length out) (length text) ≡ x → reply_row b q out ≡ cond x 13 0
  of_the_output e x l = row_of x l ∙ (rw e)

  parts_small : parts_row b q ≤ 9
  parts_small = ⊎_elim (λ e. omega (arith, e)) (λ ne. (parts_hold b q (parts_row b q) ((parts_row_is b q).holds ne)).1) (zero_or (parts_row b q))

  long : ltb (length out) (length text) ≡ false → length text ≤ length out
  long e = let z = ltb-false (length out) (length text) e in omega (arith, z)

  short_row : parts_row b q ≡ 0 → length out < length text → reply_row b q out ≡ 13
  short_row e l = of_the_output e true (lt-ltb (length out) (length text) l)

  is_13 : reply_row b q out ≡ 13 → (parts_row b q ≡ 0) × (length out < length text)
  is_13 e = ⊎_elim zero (λ ne. absurd (let z = of_the_parts ne in let w = parts_small in omega arith)) (zero_or (parts_row b q))
    where
      zero : parts_row b q ≡ 0 → (parts_row b q ≡ 0) × (length out < length text)
      zero z =
          ⊎_elim (λ t. (z, ltb-true (length out) (length text) t)) (λ f. absurd (let w = of_the_output z false f in omega arith))
          (bool (ltb (length out) (length text)))

  is_0 : reply_row b q out ≡ 0 → (parts_row b q ≡ 0) × (length text ≤ length out)
  is_0 e = ⊎_elim zero (λ ne. absurd (ne (sym (of_the_parts ne) ∙ e))) (zero_or (parts_row b q))
    where
      zero : parts_row b q ≡ 0 → (parts_row b q ≡ 0) × (length text ≤ length out)
      zero z = ⊎_elim (λ t. absurd (let w = of_the_output z true t in omega arith)) (λ f. (z, long f)) (bool (ltb (length out) (length text)))

  fits_row : parts_row b q ≡ 0 → length text ≤ length out → reply_row b q out ≡ 0
  fits_row e l =
      ⊎_elim (λ t. absurd (let w = ltb-true (length out) (length text) t in omega arith)) (λ f. of_the_output e false f)
      (bool (ltb (length out) (length text)))

  reply_row_lem : Lowest (ReplyHolds b q out) (reply_row b q out)
  reply_row_lem = ⊎_elim free held (zero_or (parts_row b q))
    where
      -- a row of the parts
      held : parts_row b q ≢ 0 → Lowest (ReplyHolds b q out) (reply_row b q out)
      held ne = record { holds = λ z. rw (of_the_parts ne) (of_parts ((parts_row_is b q).holds ne)); least = least }
        where
          least : (k : ℕ) → ReplyHolds b q out k → k ≢ 0 → (reply_row b q out ≢ 0) × (reply_row b q out ≤ k)
          least k (of_parts h) nz = rw (of_the_parts ne) ((parts_row_is b q).least k h nz)
          least _ (too_short l) nz = rw (of_the_parts ne) (ne, let z = parts_small in omega arith)

      -- none of them
      free : parts_row b q ≡ 0 → Lowest (ReplyHolds b q out) (reply_row b q out)
      free e = record { holds = holds; least = least }
        where
          holds : reply_row b q out ≢ 0 → ReplyHolds b q out (reply_row b q out)
          holds ne =
              ⊎_elim (λ t. rw (of_the_output e true t) (too_short (ltb-true (length out) (length text) t))) (λ f. absurd (ne (of_the_output e false f)))
              (bool (ltb (length out) (length text)))

          least : (k : ℕ) → ReplyHolds b q out k → k ≢ 0 → (reply_row b q out ≢ 0) × (reply_row b q out ≤ k)
          least k (of_parts h) nz = absurd ((parts_pass b q).0 e k h)
          least _ (too_short l) nz = let w = short_row e l in (λ z. absurd (omega arith), omega arith)

pub reply_row_is : ReplyRowIs
reply_row_is b q out = reply_row_lem b q out

pub parts_first : PartsFirst
parts_first b q out ne = of_the_parts b q out ne

pub short_output : ShortOutput
short_output b q out = (is_13 b q out, λ (e, l). short_row b q out e l)

pub reply_fits : ReplyFits
reply_fits b q out = (is_0 b q out, λ (e, l). fits_row b q out e l)

pub replied_means : RepliedMeans
unfolding replied replied_out
replied_means b q out = writes_or (reply_row b q out) (lent_text b q) out (λ e. (is_0 b q out e).1)

-- ---- other answers
pub serialised_number : SerialisedNumber
unfolding serialised
serialised_number b p out = (
  ⊎_elim (λ e. rw (eq-eqb (serialised_row b p out) 0 e) (sym e)) (λ ne. rw (ne_eqb (serialised_row b p out) 0 ne)) (zero_or (serialised_row b p out)),
  λ e. rw (eq-eqb (serialised_row b p out) 0 e),
  λ ne. rw (ne_eqb (serialised_row b p out) 0 ne),
)
