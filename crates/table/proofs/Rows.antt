-- The rows of an offer stand in their order: RowsInOrder of specs/Claims.
use Rattle.std.specs.Prelude.{Ok, Err}
use mathlib.Core.Path.{◌≡◌, refl, ap, ◌∙◌}
use mathlib.Core.Bool.{Bool, true, false, cond}
use mathlib.Core.Logic.{◌≢◌}
use mathlib.Core.List.{List}
use Prim.Native.Nat.{ℕ}
use native.Mathlib.Omega.{arith}
use borrow.Author.Tests.{eqb-true, eqb-false, eq-eqb, ne_eqb, lt-ltb, le-ltb}
use lib.Dec.{eqb}
use lib.ListN.{length}
use Rattle.wire.specs.Limits.{most_text}
use Rattle.wire.specs.Bytes.{same_bytes}
use Rattle.wire.proofs.Bytes.{same_equal, same_self}
use Rattle.json_tree.specs.Tree.{Json, Got, none, got, root}
use Rattle.rows.specs.Rows.{row1, row2, row3, on_root, text_row}
use Rattle.rows.specs.Rows as rows
use Rattle.rows.specs.Strings.{refused_in}
use Rattle.digest.specs.Digest.{digest}
use Rattle.shape.specs.Shape.{Word, event, req, close, other, opened}
use Rattle.shape.specs.Rows.{tree_row, root_row, message_row}
use Rattle.shape.specs.Offsets.{refusal_of}
use Rattle.message.specs.Lent.{event_row}
use Rattle.message.specs.Read.{message_parts, in_root, read_of}
use Rattle.message.specs.declared.EventParts.{EventParts}
use Rattle.message.specs.declared.Message.TheVariants as message
use Rattle.message.proofs.Passes.{event_passes}
use Rattle.event.specs.Lent.{said, text_of}
use Rattle.event.specs.Answer.{or_else, is_large, hex_of, has_id, offered_row}
use Rattle.table.specs.Offer.{Offering, as_message, as_parts, is_event_word, is_event, message_offer_row, offering_row}
use Rattle.table.specs.Offer.{judge}
use Rattle.table.specs.Offer as offer
use Rattle.table.specs.Claims.{OfferRows, MessageRows, EventRows, RowsInOrder}
use Rattle.table.proofs.Valid.{refused_row_lem}
use Rattle.table.proofs.Faithful.{valid_plain, answer_invalid, answer_unsound, answer_valid}

-- ---- a row, or else the next
or_first : (r s : ℕ) → r ≢ 0 → or_else r s ≡ r
or_first r s n = ap (λ t. cond t s r) (ne_eqb r 0 n)

or_next : (r s : ℕ) → r ≡ 0 → or_else r s ≡ s
or_next r s e = ap (λ t. cond t s r) (eq-eqb r 0 e)

-- ---- any offer
pub offer_rows : (b : List ℕ) (o : Offering) → OfferRows b o
offer_rows b o = record {
  early = λ e. let n : offering_row o ≢ 0 = eqb-false (offering_row o) 0 e in (omega arith, refused_row_lem o e, answer_invalid b o e);
  unsound = λ e s. answer_unsound b o e s;
  judged = λ e s. let z : offering_row o ≡ 0 = eqb-true (offering_row o) 0 e in rw (valid_plain o z) at (answer_valid b o e s);
}

-- ---- a message
pub message_rows : (m : List ℕ) → MessageRows m
unfolding message_offer_row
message_rows m = record {
  text = λ n. or_first (text_row m) _ n;
  no_event = λ e f. or_next (text_row m) _ e ∙ rw f;
  refused = λ e f n. or_next (text_row m) _ e ∙ (rw f (or_first (message_row m) _ n));
}

-- ---- an EVENT that rows 1 to 8 let pass: rows 1 to 4 of its text are among them, and its first word is EVENT
first_three : (a b c : Bool) (x y : ℕ) → (x ≡ 0 → y ≡ 0) → cond a 1 (cond b 2 (cond c 3 x)) ≡ 0 → cond a 1 (cond b 2 (cond c 3 y)) ≡ 0
first_three true b c x y f e = e
first_three false true c x y f e = e
first_three false false true x y f e = e
first_three false false false x y f e = f e

four : (b : Bool) (x : ℕ) → cond b 4 x ≡ 0 → ◌≡◌ {A = ℕ} (cond b 4 0) 0
four true x e = e
four false x e = refl

fourth : (m : List ℕ) (g : Got Json) → root_row m g ≡ 0 → ◌≡◌ {A = ℕ} (cond (on_root (refused_in m) g) 4 0) 0
unfolding tree_row
fourth m none e = refl
fourth m (got t n) e = four (refused_in m t) _ e

text_clean : (m : List ℕ) → message_row m ≡ 0 → text_row m ≡ 0
unfolding message_row text_row rows.row4
text_clean m e = first_three (row1 m) (row2 m) (row3 m) (root_row m (root m)) _ (fourth m (root m)) e

event_first : (m : List ℕ) (p : EventParts) (g : Got Json) → in_root m g ≡ Ok (message.Event p) → on_root (λ t. is_event_word (opened m t).first) g ≡ true
event_first m p none e = absurd (let z : ◌≡◌ {A = ℕ} 0 1 = cc in omega arith)
event_first m p (got t n) e = go (opened m t).first e
  where
    go : (w : Word) → message_parts m w (opened m t).rest ≡ Ok (message.Event p) → is_event_word w ≡ true
    go event e = refl
    go req e = absurd (let z : ◌≡◌ {A = ℕ} 0 1 = cc in omega arith)
    go close e = absurd (let z : ◌≡◌ {A = ℕ} 0 1 = cc in omega arith)
    go other e = absurd (let z : ◌≡◌ {A = ℕ} 0 1 = cc in omega arith)

module _ (m : List ℕ) (p : EventParts) (e : read_of m ≡ Ok (message.Event p)) where
  accepted : (message_row m ≡ 0) × (is_event m ≡ true)
  unfolding read_of is_event
  accepted = go (eqb (message_row m) 0) refl e
    where
      go : (t : Bool) → eqb (message_row m) 0 ≡ t → cond t (in_root m (root m)) (Err (refusal_of m)) ≡ Ok (message.Event p)
          → (message_row m ≡ 0) × (on_root (λ t. is_event_word (opened m t).first) (root m) ≡ true)
      go true q z = (eqb-true (message_row m) 0 q, event_first m p (root m) z)
      go false q z = absurd (let y : ◌≡◌ {A = ℕ} 0 1 = cc in omega arith)

  own_parts : offer.parts_of m ≡ p
  unfolding offer.parts_of
  own_parts = rw e

  as_parts_lem : message_offer_row m ≡ offered_row m p
  unfolding message_offer_row
  as_parts_lem =
      let (z, w) = accepted in
      or_next (text_row m) _ (text_clean m z) ∙ (rw w (or_next (message_row m) _ z ∙ ap (offered_row m) own_parts))

  -- rows 2 and 4 to 8 let its parts pass
  nine_ten : message_offer_row m ≡ cond (is_large m p.body) 9 (cond (has_id m p) 0 10)
  unfolding offered_row
  nine_ten = as_parts_lem ∙ or_next (event_row m p) _ (event_passes m p e)

  same_event : judge (as_message m) ≡ judge (as_parts m p)
  unfolding judge
  same_event = rw (as_parts_lem, own_parts)

  differ_same : (s t : List ℕ) → s ≢ t → same_bytes s t ≡ false
  differ_same s t n = go (same_bytes s t) refl
    where
      go : (b : Bool) → same_bytes s t ≡ b → b ≡ false
      go true q = absurd (n (same_equal s t q))
      go false q = refl

  pub event_rows : EventRows m p
  unfolding is_large has_id
  event_rows =
      let t = text_of m p.body in
      record {
        large = λ l. nine_ten ∙ (rw (lt-ltb most_text (length t) l));
        other_id = λ l n. nine_ten ∙ (rw (le-ltb most_text (length t) l, differ_same (said m p.id) (hex_of (digest t)) n));
        none = λ l q. nine_ten ∙ (rw (le-ltb most_text (length t) l, q, same_self (hex_of (digest t))));
        as_parts_lem = as_parts_lem;
        same_event = same_event;
      }

pub rows_in_order : RowsInOrder
rows_in_order = (offer_rows, message_rows, event_rows)
