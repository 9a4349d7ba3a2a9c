-- What holds of an offer that none of rows 1 to 10 refuses: its event fits a slot, its id is its text's hash, and its
-- text is read back. Each row's number is a chain of tests, and where it comes to 0 every test of it failed.
use mathlib.Core.Bool.{Bool, true, false, cond}
use mathlib.Core.Path.{◌≡◌, refl, ap, ◌∙◌}
use mathlib.Core.List.{List}
use Prim.Native.Nat.{ℕ, ◌≤◌}
use native.Mathlib.Omega.{arith}
use borrow.Author.Tests.{eqb-true, eqb-false, ltb-false, not-false}
use lib.Dec.{eqb, lit≤}
use lib.ListN.{length}
use Rattle.wire.specs.Limits.{most_text}
use Rattle.rows.specs.Rows.{row1, row2, row3, text_row}
use Rattle.rows.specs.Strings.{part}
use Rattle.json_tree.specs.Tree.{Json, Got, none, got, root}
use Rattle.digest.specs.Digest.{digest}
use Rattle.wire.proofs.Bytes.{same_equal}
use Rattle.spell.proofs.Laws.{hex_length_lem}
use Rattle.shape.specs.Rows.{tree_row, root_row, message_row}
use Rattle.text.specs.Event.{serialise}
use Rattle.text.specs.Read.{read, read_text}
use Rattle.text.proofs.RoundTrip.{read_back}
use Rattle.message.specs.declared.Span.{Span}
use Rattle.message.specs.declared.EventParts.{EventParts}
use Rattle.message.specs.Lent.{is_spelled, string5, string7, body2, body4, body5, body6, body7, body8, body_row, event2}
use Rattle.message.specs.Lent.{event4, event5, event7, event_row, string2, string4}
use Rattle.message.specs.Inner.{lowest_by}
use Rattle.event.specs.Lent.{said, event_of, text_of}
use Rattle.event.specs.Answer.{or_else, is_large, hex_of, has_id, offered_row}
use Rattle.event.proofs.Decoded.{or_neither}
use Rattle.event.proofs.Fit.{lent_fit, and_fails}
use Rattle.table.specs.Layout.{Fits}
use Rattle.table.specs.Offer.{Offering, as_message, as_parts, is_event, parts_of, message_offer_row, offering_row}
use Rattle.table.specs.Offer.{is_valid, held_of, offered_of}
use Rattle.table.proofs.Hex.{unhex_hex, unhex_length, unhex_bytes, digest_length, digest_bytes_lem}

-- ---- chains of tests
pub or_else_lem : (r s : ℕ) → or_else r s ≡ 0 → (r ≡ 0) × (s ≡ 0)
or_else_lem r s e = go (eqb r 0) refl e
  where
    go : (t : Bool) → eqb r 0 ≡ t → cond t s r ≡ 0 → (r ≡ 0) × (s ≡ 0)
    go true q z = (eqb-true r 0 q, z)
    go false q z = absurd (eqb-false r 0 q z)

or_else_most : (k r s : ℕ) → r ≤ k → s ≤ k → or_else r s ≤ k
or_else_most k r s p q = go (eqb r 0)
  where
    go : (t : Bool) → cond t s r ≤ k
    go true = q
    go false = p

cond_most : (k : ℕ) (t : Bool) (r s : ℕ) → r ≤ k → s ≤ k → cond t r s ≤ k
cond_most k true r s p q = p
cond_most k false r s p q = q

-- the lowest_by row is none
pub record None (r2 r4 r5 r6 r7 r8 : Bool) : Type 0 where
  pub not2 : r2 ≡ false
  pub not4 : r4 ≡ false
  pub not5 : r5 ≡ false
  pub not6 : r6 ≡ false
  pub not7 : r7 ≡ false
  pub not8 : r8 ≡ false

none_of : (r2 r4 r5 r6 r7 r8 : Bool) → lowest_by r2 r4 r5 r6 r7 r8 ≡ 0 → None r2 r4 r5 r6 r7 r8
none_of true r4 r5 r6 r7 r8 e = absurd (omega arith)
none_of false true r5 r6 r7 r8 e = absurd (omega arith)
none_of false false true r6 r7 r8 e = absurd (omega arith)
none_of false false false true r7 r8 e = absurd (omega arith)
none_of false false false false true r8 e = absurd (omega arith)
none_of false false false false false true e = absurd (omega arith)
none_of false false false false false false e = record { not2 = refl; not4 = refl; not5 = refl; not6 = refl; not7 = refl; not8 = refl }

lowest_most : (r2 r4 r5 r6 r7 r8 : Bool) → lowest_by r2 r4 r5 r6 r7 r8 ≤ 10
lowest_most r2 r4 r5 r6 r7 r8 = search (cond_most, lit≤, tt) depth 14

-- ---- parts that rows 2 and 4 to 10 let pass
pub hex_part : (k : ℕ) (b : List ℕ) (p : Span) → string5 b p ≡ false → string7 k b p ≡ false → length (said b p) ≡ k
unfolding string5 string7
hex_part k b p e f = hex_length_lem k (part b p.start p.len) (not-false _ (and_fails (is_spelled b p) _ (not-false (is_spelled b p) e) f))

module _ (b : List ℕ) (p : EventParts) (e : offered_row b p ≡ 0) where
  pub rows : (event_row b p ≡ 0) × (is_large b p.body ≡ false) × (has_id b p ≡ true)
  unfolding offered_row
  rows = let (x, y) = or_else_lem (event_row b p) _ e in go x (is_large b p.body) (has_id b p) refl refl y
    where
      go : event_row b p ≡ 0 → (l i : Bool) → is_large b p.body ≡ l → has_id b p ≡ i → ◌≡◌ {A = ℕ} (cond l 9 (cond i 0 10)) 0 → (event_row b p ≡ 0) × (is_large b p.body ≡ false) × (has_id b p ≡ true)
      go x true i q r z = absurd (omega arith)
      go x false true q r z = (x, q, r)
      go x false false q r z = absurd (omega arith)

  pub clean : None (event2 b p) (event4 b p) (event5 b p) (body6 p.body) (event7 b p) (body8 b p.body)
  unfolding event_row
  clean = none_of _ _ _ _ _ _ rows.0

  body_clean : body_row b p.body ≡ 0
  unfolding body_row event2 event4 event5 event7
  body_clean =
      let n = clean in
      let x2 = (or_neither (body2 b p.body) _ (or_neither (string2 b p.id) _ n.not2).1).0 in
      let x4 = (or_neither (body4 b p.body) _ (or_neither (string4 b p.id) _ n.not4).1).0 in
      let x5 = (or_neither (body5 b p.body) _ (or_neither (string5 b p.id) _ n.not5).1).0 in
      let x7 = (or_neither (body7 b p.body) _ (or_neither (string7 64 b p.id) _ n.not7).1).0 in
      simp (x2, x4, x5, n.not6, x7, n.not8)

  pub sig_length_lem : length (said b p.sig) ≡ 128
  unfolding event5 event7
  sig_length_lem =
      let n = clean in
      hex_part 128 b p.sig (or_neither (body5 b p.body) _ (or_neither (string5 b p.id) _ n.not5).1).1
      (or_neither (body7 b p.body) _ (or_neither (string7 64 b p.id) _ n.not7).1).1

  small : length (serialise (event_of b p.body)) ≤ most_text
  unfolding is_large text_of
  small = ltb-false most_text (length (serialise (event_of b p.body))) rows.1

  -- the id is the hash of the text
  pub id_hashed : (held_of b p).id ≡ digest (serialise (event_of b p.body))
  unfolding held_of has_id text_of
  id_hashed =
      let d = digest (serialise (event_of b p.body)) in
      let z = same_equal (said b p.id) (hex_of d) rows.2 in
      rw z (unhex_hex d (digest_bytes_lem (serialise (event_of b p.body))))

  parts_fit : Fits (held_of b p)
  unfolding held_of
  parts_fit =
      let t = serialise (event_of b p.body) in
      record {
        id = ap length id_hashed ∙ digest_length t;
        id_bytes = unhex_bytes (said b p.id);
        sig = unhex_length 64 (said b p.sig) sig_length_lem;
        sig_bytes = unhex_bytes (said b p.sig);
        event = lent_fit b p.body body_clean;
        text = small;
      }

-- ---- an offer
abbrev pub buffer_of : Offering → List ℕ
buffer_of (as_message m) = m
buffer_of (as_parts b p) = b

abbrev pub parts_in : Offering → EventParts
parts_in (as_message m) = parts_of m
parts_in (as_parts b p) = p

pub parts_pass : (o : Offering) → is_valid o ≡ true → offered_row (buffer_of o) (parts_in o) ≡ 0
unfolding message_offer_row
parts_pass (as_parts b p) e = eqb-true (offered_row b p) 0 e
parts_pass (as_message m) e = let (x, y) = or_else_lem (text_row m) _ (eqb-true _ 0 e) in go (is_event m) y
  where
    go : (t : Bool) → cond t (or_else (message_row m) (offered_row m (parts_of m))) 5 ≡ 0 → offered_row m (parts_of m) ≡ 0
    go true z = (or_else_lem (message_row m) _ z).1
    go false z = absurd (omega arith)

offered_is : (o : Offering) → offered_of o ≡ held_of (buffer_of o) (parts_in o)
offered_is (as_message m) = refl
offered_is (as_parts b p) = refl

pub valid_fits : (o : Offering) → is_valid o ≡ true → Fits (offered_of o)
valid_fits o e = rw (offered_is o) (parts_fit (buffer_of o) (parts_in o) (parts_pass o e))

pub valid_hashed : (o : Offering) → is_valid o ≡ true → (offered_of o).id ≡ digest (serialise (offered_of o).event)
unfolding held_of
valid_hashed o e = rw (offered_is o) (id_hashed (buffer_of o) (parts_in o) (parts_pass o e))

pub valid_read : (o : Offering) → is_valid o ≡ true → read_text (serialise (offered_of o).event) ≡ read (offered_of o).event
valid_read o e = let f = valid_fits o e in read_back (offered_of o).event f.event f.text

-- ---- the rows of a refusal
offered_most : (b : List ℕ) (p : EventParts) → offered_row b p ≤ 10
unfolding offered_row event_row
offered_most b p =
    or_else_most 10 _ _ (lowest_most (event2 b p) (event4 b p) (event5 b p) (body6 p.body) (event7 b p) (body8 b p.body))
    (cond_most 10 (is_large b p.body) 9 _ (omega arith) (cond_most 10 (has_id b p) 0 10 (omega arith) (omega arith)))

text_most : (s : List ℕ) → text_row s ≤ 10
unfolding text_row
text_most s = search (cond_most, lit≤, tt) depth 14

message_most : (s : List ℕ) → message_row s ≤ 10
unfolding message_row tree_row
message_most s = cond_most 10 (row1 s) 1 _ (omega arith) (cond_most 10 (row2 s) 2 _ (omega arith) (cond_most 10 (row3 s) 3 _ (omega arith) (go (root s))))
  where
    go : (g : Got Json) → root_row s g ≤ 10
    go none = omega arith
    go (got t n) = search (cond_most, lit≤, tt) depth 14

pub refused_row_lem : (o : Offering) → is_valid o ≡ false → offering_row o ≤ 10
unfolding message_offer_row
refused_row_lem (as_parts b p) e = offered_most b p
refused_row_lem (as_message m) e =
    or_else_most 10 _ _ (text_most m) (cond_most 10 (is_event m) _ 5 (or_else_most 10 _ _ (message_most m) (offered_most m (parts_of m))) (omega arith))
