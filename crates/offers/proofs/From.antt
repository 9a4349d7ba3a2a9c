-- The slot made from a message, by what the reader answers of it.
use Rattle.std.specs.Prelude.{Result, Ok, Err}
use mathlib.Core.Path.{◌≡◌, refl, sym, ap, ap₂, ◌∙◌}
use mathlib.Core.Bool.{Bool, true, false, cond, ◌||◌}
use mathlib.Core.Logic.{inl, inr}
use mathlib.Core.List.{List}
use Prim.Native.Nat.{ℕ, ◌≤◌, ◌<◌}
use native.Mathlib.Omega.{arith}
use lib.Dec.{eqb}
use lib.ListN.{length, replicate}
use borrow.Author.Tests.{eqb-true, eqb-false, eq-eqb, le-leb, lt-leb}
use Rattle.wire.specs.Limits.{most_text, hex_length, sig_length}
use Rattle.wire.specs.Bytes.{part}
use Rattle.wire.specs.Put.{Puts}
use Rattle.text.specs.Event.{Event}
use Rattle.text.specs.Read.{read, read_text}
use Rattle.text.specs.Answer.{text_parts}
use Rattle.shape.specs.Shape.{Word, event, req, close, other, opened}
use Rattle.shape.specs.Rows.{message_row}
use Rattle.shape.specs.Offsets.{plain_refusal, refusal_of, refusal_for}
use Rattle.shape.specs.declared.Refusal.{Refusal}
use Rattle.rows.specs.Rows.{row1, row2, row3, row4, on_root, text_row}
use Rattle.json_tree.specs.Tree.{Json, Got, none, got, root}
use Rattle.message.specs.Read.{is_event_word, is_event, in_root, read_of}
use Rattle.message.specs.Read as reader
use Rattle.message.specs.declared.Message.{Message}
use Rattle.message.specs.declared.Message.TheVariants as message
use Rattle.message.specs.declared.EventParts.{EventParts}
use Rattle.message.proofs.Reading.{row_read}
use Rattle.message.proofs.Order.{Late, rows_first, rows_late, text_clean}
use Rattle.event.specs.Sent.{unread_refusal, sent_row_of, sent_row, sent_text, sent_out, sent_text_number}
use Rattle.event.proofs.Answers.{AsOffered, row-alone-most}
use Rattle.event.proofs.Sent.{some_row, sent_wrote, sent_refused}
use Rattle.table.specs.Layout.{slot_size, text_place, slot_bytes}
use Rattle.table.specs.Offer.{as_message, message_offer_row, parts_in, parts_of, held_of}
use Rattle.table.proofs.Faithful.{valid_plain}
use Rattle.table.proofs.Rows.{message_rows, event_rows}
use Rattle.offers.specs.Inner.{SpellsHex, head_of}
use Rattle.offers.specs.Taken.{Made, Makes}
use Rattle.offers.proofs.Makes.{lent_part, given, lent_most, ready, made}

module _ (m : List ℕ) where
  read_row_lem : {x : Result Message Refusal} → read_of m ≡ x → message_row m ≡ reader.read_number x
  read_row_lem e = sym (row_read m) ∙ ap reader.read_number e

  -- a message that was read and is no EVENT
  not_event : (x : Result Message Refusal) → ((p : EventParts) → x ≡ Ok (message.Event p) → ⊥) → read_of m ≡ x → message_row m ≡ 0 → is_event m ≡ false
  unfolding read_of is_event
  not_event x n e z = go (root m) (sym (ap (λ t. cond t (in_root m (root m)) (Err (refusal_of m))) (eq-eqb (message_row m) 0 z)) ∙ e)
    where
      go : (g : Got Json) → in_root m g ≡ x → on_root (λ t. is_event_word (opened m t).first) g ≡ false
      go none f = refl
      go (got t k) f = word (opened m t).first f
        where
          word : (w : Word) → reader.message_parts m w (opened m t).rest ≡ x → is_event_word w ≡ false
          word event f = absurd (n _ (sym f))
          word req f = refl
          word close f = refl
          word other f = refl

  five : is_event m ≡ false → message_row m ≡ 0 → 5 ≡ message_offer_row m
  five e z = sym ((message_rows m).no_event (text_clean m z) e)

  -- ---- a message that the reader refused
  text_most : text_row m ≤ 4
  unfolding text_row
  text_most = go (row1 m) (row2 m) (row3 m) (row4 m)
    where
      go : (a b c d : Bool) → cond a 1 (cond b 2 (cond c 3 (cond d 4 0))) ≤ 4
      go true b c d = omega arith
      go false true c d = omega arith
      go false false true d = omega arith
      go false false false true = omega arith
      go false false false false = omega arith

  unread : {x : Refusal} → read_of m ≡ Err x → (unread_refusal m x).row ≡ message_offer_row m
  unread {x} e = go (read_row_lem e) (some_row m e) (eqb (text_row m) 0) refl (is_event m) refl
    where
      late : message_row m ≡ x.row → (x.row ≡ 0 → ⊥) → Late (message_row m) → 4 < x.row
      late w o (inl z) = absurd (o (sym w ∙ z))
      late w o (inr z) = omega arith

      go : message_row m ≡ x.row → (x.row ≡ 0 → ⊥) → (t : Bool) → eqb (text_row m) 0 ≡ t → (v : Bool) → is_event m ≡ v → (unread_refusal m x).row ≡ message_offer_row m
      go w o false q v u =
          let k = eqb-false (text_row m) 0 q in
          let z : text_row m ≡ x.row = sym (rows_first m k) ∙ w in
          ap (λ t. (cond (t || is_event m) x (plain_refusal 5)).row) (le-leb x.row 4 (omega (arith, text_most))) ∙ sym z ∙ sym ((message_rows m).text k)
      go w o true q true u =
          let k = eqb-true (text_row m) 0 q in
          ap₂ (λ t v. (cond (t || v) x (plain_refusal 5)).row) (lt-leb x.row 4 (late w o (rows_late m k))) u ∙ sym w ∙ sym ((message_rows m).refused k u (λ z. o (sym w ∙ z)))
      go w o true q false u =
          let k = eqb-true (text_row m) 0 q in
          ap₂ (λ t v. (cond (t || v) x (plain_refusal 5)).row) (lt-leb x.row 4 (late w o (rows_late m k))) u ∙ sym ((message_rows m).no_event k u)

  -- ---- an output that has room for every text does not change the row
  sent_row_lem : (out : List ℕ) → most_text ≤ length out → sent_row m out ≡ message_offer_row m
  unfolding sent_row
  sent_row_lem out h = go (read_of m) refl
    where
      go : (x : Result Message Refusal) → read_of m ≡ x → sent_row_of m out x ≡ message_offer_row m
      go (Ok (message.Event p)) e = row-alone-most m p out h ∙ sym (event_rows m p e).as_parts_lem
      go (Ok (message.Req r)) e = five (not_event (Ok (message.Req r)) (λ p q. let y : ◌≡◌ {A = ℕ} 0 1 = cc in omega arith) e (read_row_lem e)) (read_row_lem e)
      go (Ok (message.Close s)) e = five (not_event (Ok (message.Close s)) (λ p q. let y : ◌≡◌ {A = ℕ} 0 1 = cc in omega arith) e (read_row_lem e)) (read_row_lem e)
      go (Err r) e = unread e

  -- ---- the slot made from a message, o at exit; d is what was lent, zeros
  module _ (d : List ℕ) (zs : d ≡ replicate slot_size 0) {s : Result (EventParts × ℕ) Refusal} (a : s ≡ sent_text m (lent_part d)) where
    pub from_refused : {r : Refusal} {o : List ℕ} → sent_text_number s ≡ sent_row m (lent_part d) → s ≡ Err r → Makes m (Err r) o
    from_refused {r} q e =
        let z : r.row ≡ message_offer_row m = sym (ap sent_text_number e) ∙ q ∙ sent_row_lem (lent_part d) (lent_most zs) in
        let (f, n) = sent_refused m (lent_part d) (sym a ∙ e) in
        record { is = (f ∙ ap (refusal_for m) z, λ w. n (z ∙ w)) }

    module _ {p : EventParts} {n : ℕ} (e : s ≡ Ok (p, n)) where
      told : (read_of m ≡ Ok (message.Event p)) × AsOffered m p (lent_part d) (Ok n) (sent_out m (lent_part d))
      told = sent_wrote m (lent_part d) (sym a ∙ e)

      pub from_ready : {y : List ℕ} → y ≡ sent_out m (lent_part d)
          → (SpellsHex m p.id hex_length × SpellsHex m p.sig sig_length) × (slot_size ≤ length (given d y))
      from_ready o = let (f, (w, (q, y))) = told in ready m p d zs w q refl (o ∙ y)

      pub from_event : {y : List ℕ} → y ≡ sent_out m (lent_part d) → {r : ℕ} {u : List ℕ}
          → ((v : Event) → read_text (part (given d y) text_place n) ≡ read v → Puts (given d y) 0 (head_of m p n (text_parts v)) r u)
          → Makes m (Ok (p, n)) u
      unfolding parts_of
      from_event o g =
          let (f, (w, (q, y))) = told in
          let (k, l) = made m p d zs w q refl (o ∙ y) g in
          record { is = (f, (k ∙ sym (event_rows m p f).as_parts_lem, l refl ∙ ap (λ x. slot_bytes (held_of m (parts_in x))) (sym f))) }

-- ---- what was made: what refuses it alone
module _ (m : List ℕ) {s : Result (EventParts × ℕ) Refusal} {o : List ℕ} (k : Makes m s o) where
  pub made_wrote : {p : EventParts} {n : ℕ} → s ≡ Ok (p, n)
      → (read_of m ≡ Ok (message.Event p)) × ((0 ≡ message_offer_row m) × (o ≡ slot_bytes (held_of m (parts_of m))))
  made_wrote {p} {n} e = let h : Made m (Ok (p, n)) o = rw e at k.is in h

  pub made_refused : {r : Refusal} → s ≡ Err r → (r ≡ refusal_for m (message_offer_row m)) × (message_offer_row m ≡ 0 → ⊥)
  made_refused {r} e = let h : Made m (Err r) o = rw e at k.is in h

  -- what make_from promises
  abbrev From : Refusal → Type 0
  From x = (x ≡ refusal_for m (message_offer_row m)) × (x.row ≡ 0 → o ≡ slot_bytes (held_of m (parts_of m)))

  pub row_none : {p : EventParts} {n : ℕ} → s ≡ Ok (p, n) → {x : Refusal} → x ≡ plain_refusal 0 → From x
  row_none e g = let (f, (z, q)) = made_wrote e in (g ∙ sym (valid_plain (as_message m) (sym z)), λ w. q)

  pub row_some : {r : Refusal} → s ≡ Err r → From r
  row_some e = let (f, n) = made_refused e in (f, λ z. absurd (n (sym (ap (λ x. x.row) f) ∙ z)))
