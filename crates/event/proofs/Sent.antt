-- An event offered as a message, by what the reader answers.
use Rattle.std.specs.Prelude.{None, Result, Ok, Err}
use mathlib.Core.Path.{◌≡◌, refl, sym, ap, ◌∙◌}
use mathlib.Core.Bool.{Bool, true, false, cond, ◌||◌}
use mathlib.Core.List.{List}
use Prim.Native.Nat.{ℕ, zero, suc}
use native.Mathlib.Omega.{arith}
use borrow.Author.Tests.{eqb-true, eqb-false, eq-eqb, ne_eqb}
use lib.Dec.{eqb, leb}
use lib.ListN.{length}
use Rattle.json_tree.specs.Tree.{Json, Got, none, got, root}
use Rattle.shape.specs.Shape.{Word, event, req, close, other, opened}
use Rattle.shape.specs.Rows.{message_row}
use Rattle.shape.specs.Offsets.{plain_refusal, refusal_of, offset_for, refusal_for}
use Rattle.shape.specs.declared.Refusal.{Refusal}
use Rattle.shape.proofs.Offsets.{refusal_own, offset_other, offset_plain}
use Rattle.message.specs.Lent.{event_row}
use Rattle.message.specs.Read.{is_event, message_parts, in_root, read_of, read_number}
use Rattle.message.specs.declared.Span.{Span}
use Rattle.message.specs.declared.EventParts.{EventParts}
use Rattle.message.specs.declared.ReqParts.{ReqParts}
use Rattle.message.specs.declared.Message.{Message}
use Rattle.message.specs.declared.Message.TheVariants as message
use Rattle.message.proofs.Reading.{row_read}
use Rattle.message.proofs.Passes.{event_passes}
use Rattle.event.specs.Lent.{text_of}
use Rattle.event.specs.Answer.{offered_text_row, offered, offered_out}
use Rattle.event.specs.Sent.{unread_refusal, sent_row_of, sent_as, sent_text_of, sent_out_of, sent_row, sent_text, sent_out}
use Rattle.event.specs.Sent.{sent_text_number}
use Rattle.event.proofs.Answers.{AsOffered, wrote-is, refused_is}

-- what is promised where the reader answers x, and of the message m
abbrev pub AsRead : List ℕ → List ℕ → Result Message Refusal → Result (EventParts × ℕ) Refusal → List ℕ → Type 0
AsRead m out x s o = (s ≡ sent_text_of m out x) × ((sent_text_number s ≡ sent_row_of m out x) × (o ≡ sent_out_of m out x))

abbrev pub AsSent : List ℕ → List ℕ → Result (EventParts × ℕ) Refusal → List ℕ → Type 0
AsSent m out s o = (s ≡ sent_text m out) × ((sent_text_number s ≡ sent_row m out) × (o ≡ sent_out m out))

-- ---- an EVENT, whose text was asked for
module _ (m out : List ℕ) (p : EventParts) {w : Result ℕ ℕ} {o : List ℕ} (k : AsOffered m p out w o) where
  pub event_wrote : {n : ℕ} → w ≡ Ok n → AsRead m out (Ok (message.Event p)) (Ok (p, n)) o
  unfolding offered
  event_wrote e =
      let r = offered_text_row m p out in
      let (z, l) = wrote-is r (length (text_of m p.body)) (sym e ∙ k.0) in
      (rw (eq-eqb r 0 z, l), (sym z, k.1.1))

  pub event_refused : {x : ℕ} {z : Refusal} → w ≡ Err x → z ≡ plain_refusal x → AsRead m out (Ok (message.Event p)) (Err z) o
  unfolding offered
  event_refused e f =
      let r = offered_text_row m p out in
      let (y, n) = refused_is r (length (text_of m p.body)) (sym e ∙ k.0) in
      (simp (f, ne_eqb r 0 (λ q. n (y ∙ q)), y), (ap (λ z. z.row) f ∙ y, k.1.1))

-- ---- a message
-- the parts of one that was read pass rows 2 and 4 to 8
pub passes : (m : List ℕ) {x : Result Message Refusal} {p : EventParts} → x ≡ read_of m → x ≡ Ok (message.Event p) → event_row m p ≡ 0
passes m {p = p} a e = event_passes m p (sym a ∙ e)

module _ (m out : List ℕ) {x : Result Message Refusal} (a : x ≡ read_of m) where
  as_sent : {y : Result Message Refusal} {s : Result (EventParts × ℕ) Refusal} {o : List ℕ} → x ≡ y → AsRead m out y s o → AsSent m out s o
  unfolding sent_text sent_row sent_out
  as_sent {y} e k =
      let z : y ≡ read_of m = sym e ∙ a in
      (k.0 ∙ ap (sent_text_of m out) z, (k.1.0 ∙ ap (sent_row_of m out) z, k.1.1 ∙ ap (sent_out_of m out) z))

  pub from_event : {p : EventParts} {s : Result (EventParts × ℕ) Refusal} {o : List ℕ} → x ≡ Ok (message.Event p) → AsRead m out (Ok (message.Event p)) s o → AsSent m out s o
  from_event e k = as_sent e k

  pub from_req : {p : ReqParts} {z : Refusal} → x ≡ Ok (message.Req p) → z ≡ plain_refusal 5 → AsSent m out (Err z) out
  from_req e f = as_sent e (ap Err f, (ap (λ z. z.row) f, refl))

  pub from_close : {p : Span} {z : Refusal} → x ≡ Ok (message.Close p) → z ≡ plain_refusal 5 → AsSent m out (Err z) out
  from_close e f = as_sent e (ap Err f, (ap (λ z. z.row) f, refl))

  pub from_refused : {r z : Refusal} → x ≡ Err r → z ≡ unread_refusal m r → AsSent m out (Err z) out
  from_refused e f = as_sent e (ap Err f, (ap (λ z. z.row) f, refl))

-- ---- what an answer says of the message
module _ (q : EventParts) (l : ℕ) where
  as_wrote : (r : ℕ) {p : EventParts} {n : ℕ} → sent_as r q l ≡ Ok (p, n) → (r ≡ 0) × ((q ≡ p) × (l ≡ n))
  as_wrote zero {p} {n} e =
      let f : ◌≡◌ {A = EventParts × ℕ} (q, l) (p, n) = cc in
      (refl, (ap (λ (x : EventParts × ℕ). x.0) f, ap (λ (x : EventParts × ℕ). x.1) f))
  as_wrote (suc r) {p} {n} e =
      absurd (let f : Err (plain_refusal (suc r)) ≡ Ok (p, n) = sym (rw (ne_eqb (suc r) 0 (λ q. omega arith))) ∙ e in let z : ◌≡◌ {A = ℕ} 0 1 = cc in omega arith)

  as_refused : (r : ℕ) {x : Refusal} → sent_as r q l ≡ Err x → (plain_refusal r ≡ x) × (r ≡ 0 → ⊥)
  as_refused zero e = absurd (let y : ◌≡◌ {A = ℕ} 0 1 = cc in omega arith)
  as_refused (suc r) {x} e =
      let f : Err (plain_refusal (suc r)) ≡ Err x = sym (rw (ne_eqb (suc r) 0 (λ q. omega arith))) ∙ e in
      (cc, λ z. omega arith)

-- a refusal has a row, and the offset that goes with it
abbrev pub Refuses : List ℕ → Refusal → Type 0
Refuses m x = (x ≡ refusal_for m x.row) × (x.row ≡ 0 → ⊥)

module _ (m : List ℕ) where
  -- the reader refuses by some row
  pub some_row : {r : Refusal} → read_of m ≡ Err r → r.row ≡ 0 → ⊥
  unfolding read_of
  some_row {r} e z = go (eqb (message_row m) 0) refl e
    where
      tree : (g : Got Json) → in_root m g ≡ Err r → ⊥
      tree none f = let y : plain_refusal 3 ≡ r = cc in omega (arith, ap (λ x. x.row) y)
      tree (got t k) f = word (opened m t).first f
        where
          word : (w : Word) → message_parts m w (opened m t).rest ≡ Err r → ⊥
          word event f = let y : ◌≡◌ {A = ℕ} 0 1 = cc in omega arith
          word req f = let y : ◌≡◌ {A = ℕ} 0 1 = cc in omega arith
          word close f = let y : ◌≡◌ {A = ℕ} 0 1 = cc in omega arith
          word other f = let y : plain_refusal 5 ≡ r = cc in omega (arith, ap (λ x. x.row) y)

      go : (t : Bool) → eqb (message_row m) 0 ≡ t → cond t (in_root m (root m)) (Err (refusal_of m)) ≡ Err r → ⊥
      go true q f = tree (root m) f
      go false q f = let y : refusal_of m ≡ r = cc in eqb-false (message_row m) 0 q (ap (λ x. x.row) y ∙ z)

  -- and it is what refuses the message
  pub refused_own : {r : Refusal} → read_of m ≡ Err r → refusal_of m ≡ r
  unfolding read_of
  refused_own {r} e = go (eqb (message_row m) 0) refl e
    where
      go : (t : Bool) → eqb (message_row m) 0 ≡ t → cond t (in_root m (root m)) (Err (refusal_of m)) ≡ Err r → refusal_of m ≡ r
      go true q f = absurd (some_row e (sym (ap read_number e) ∙ row_read m ∙ eqb-true (message_row m) 0 q))
      go false q f = cc

  module _ (out : List ℕ) where
    -- an event is written: it was read, and its text was asked for
    pub sent_wrote : {p : EventParts} {n : ℕ} → sent_text m out ≡ Ok (p, n) → (read_of m ≡ Ok (message.Event p)) × AsOffered m p out (Ok n) (sent_out m out)
    unfolding sent_text sent_out offered
    sent_wrote {p} {n} = go (read_of m) refl
      where
        moved : {q : EventParts} {o : List ℕ} → q ≡ p → AsOffered m q out (Ok n) o → AsOffered m p out (Ok n) o
        moved h k = rw h at k

        go : (x : Result Message Refusal) → read_of m ≡ x → sent_text_of m out x ≡ Ok (p, n)
            → (x ≡ Ok (message.Event p)) × AsOffered m p out (Ok n) (sent_out_of m out x)
        go (Ok (message.Event q)) e f =
            let r = offered_text_row m q out in
            let (z, (h, l)) = as_wrote q (length (text_of m q.body)) r f in
            let k : AsOffered m q out (Ok n) (offered_out m q out) = (rw (eq-eqb r 0 z, l), (sym z, refl)) in
            (ap (λ x. Ok (message.Event x)) h, moved h k)
        go (Ok (message.Req q)) e f = absurd (let y : ◌≡◌ {A = ℕ} 0 1 = cc in omega arith)
        go (Ok (message.Close q)) e f = absurd (let y : ◌≡◌ {A = ℕ} 0 1 = cc in omega arith)
        go (Err r) e f = absurd (let y : ◌≡◌ {A = ℕ} 0 1 = cc in omega arith)

    pub sent_refused : {r : Refusal} → sent_text m out ≡ Err r → Refuses m r
    unfolding sent_text
    sent_refused {r} f = go (read_of m) refl f
      where
        moved : {x : Refusal} → Refuses m x → x ≡ r → Refuses m r
        moved k e = rw e at k

        without : (n : ℕ) → offset_for m n ≡ None → (n ≡ 0 → ⊥) → Refuses m (plain_refusal n)
        without n a z = (sym (ap (λ o. record { row = n; offset = o }) a), z)

        five : Refuses m (plain_refusal 5)
        five = without 5 (offset_plain m 5 (λ z. omega arith) (λ z. omega arith)) (λ z. omega arith)

        unread : {x : Refusal} → read_of m ≡ Err x → (t : Bool) → Refuses m (cond t x (plain_refusal 5))
        unread e true = (sym (refused_own e) ∙ sym (refusal_own m) ∙ ap (λ y. refusal_for m y.row) (refused_own e), some_row e)
        unread e false = five

        go : (x : Result Message Refusal) → read_of m ≡ x → sent_text_of m out x ≡ Err r → Refuses m r
        go (Ok (message.Event q)) e f =
            let n = offered_text_row m q out in
            let (y, z) = as_refused q (length (text_of m q.body)) n f in
            moved (without n (offset_other m n (λ w. z (w ∙ sym (row_read m) ∙ ap read_number e))) z) y
        go (Ok (message.Req q)) e f = moved five cc
        go (Ok (message.Close q)) e f = moved five cc
        go (Err x) e f = moved (unread e (leb x.row 4 || is_event m)) cc
