-- What a table holds passes rows 2 to 10 when it is offered again as parts, and is judged the very event and signature
-- held. Its text is read back to an event within the limits, and the parts spell that event: so rows 2 and 5 hold of no
-- part, and rows 4 and 6 to 9 of nothing that it says; its id is its text's hash, so row 10 does not hold.
use Rattle.std.specs.Prelude.{Some}
use mathlib.Core.Bool.{true, false}
use mathlib.Core.Path.{◌≡◌, sym, ap, ◌∙◌}
use mathlib.Core.List.{List}
use Prim.Native.Nat.{ℕ, ◌≤◌}
use native.Mathlib.Omega.{arith}
use borrow.Author.Tests.{le-ltb, eq-eqb}
use lib.Dec.{eqb}
use lib.IntN.{ℤ, pos, neg_ℤ}
use lib.ListN.{length}
use Rattle.wire.specs.Limits.{most_text, widest}
use Rattle.wire.specs.Bytes.{is_hex, same_bytes}
use Rattle.numeral.specs.Whole.{is_within}
use Rattle.digest.specs.Digest.{digest}
use Rattle.spell.specs.Spell as spell
use Rattle.wire.proofs.Bytes.{equal_same}
use Rattle.text.specs.Event.{all, is_pubkey, is_time}
use Rattle.text.specs.Read.{IsTextOf}
use Rattle.text.proofs.Pieces.{both}
use Rattle.text.proofs.Limits.{Limits, limits_of}
use Rattle.text.proofs.Rows.{pubkey_length}
use Rattle.text.proofs.RoundTrip.{read_same}
use Rattle.message.specs.declared.EventParts.{EventParts}
use Rattle.message.specs.Lent.{wrong_number, body2, body4, body5, body6, body7, body8, event2, event4, event5, event7}
use Rattle.message.specs.Lent.{event_row}
use Rattle.event.specs.Lent.{said, event_of, text_of}
use Rattle.event.specs.Answer.{is_large, hex_of, has_id, offered_row}
use Rattle.event.proofs.Answers.{hex_length_lem}
use Rattle.event.proofs.Fit.{hex_same}
use Rattle.law.proofs.Machine.{Passes}
use Rattle.table.specs.Layout.{is_byte}
use Rattle.table.specs.Events.{SignedEvent, Signature, table_events, of_held}
use Rattle.table.specs.Offer.{as_message, as_parts, judge, held_of}
use Rattle.table.specs.Demand3.{Tells, relay}
use Rattle.table.proofs.Good.{Good}
use Rattle.table.proofs.Hex.{unhex_hex, hex_is, digest_length, digest_bytes_lem}
use Rattle.table.proofs.Again.{hex_string, again2, again4, again5, again7, tags_pass}

-- numbers within the limits
kind_again : (n : ℕ) → n ≤ 65535 → wrong_number (pos 0) (pos 65535) (pos n) ≡ false
unfolding wrong_number is_within
kind_again n h = rw (le-ltb n 0 (omega arith), le-ltb 65535 n h)

time_again : (z : ℤ) → is_time z ≡ true → wrong_number (neg_ℤ (pos widest)) (pos widest) z ≡ false
unfolding wrong_number is_time
time_again z e = rw e

pub pubkey_hex : (k : List ℕ) → is_pubkey k ≡ true → spell.all is_hex k ≡ true
unfolding is_pubkey
pubkey_hex k e = sym (hex_same k) ∙ (both (eqb (length k) 64) (all is_hex k) e).1

-- parts that tell what is held: an id that is the text's hash, and a signature of 64 bytes
module _ (b : List ℕ) (p : EventParts) (s : SignedEvent) (hashed : s.0.id ≡ digest s.0.text) (sig_length_lem : length s.1 ≡ 64) (sig_bytes : all is_byte s.1 ≡ true)
    (t : Tells b p s) where
  is_text_lem : IsTextOf s.0.text t.event
  is_text_lem = read_same s.0.text t.event t.text

  limits : Limits t.event
  limits = limits_of t.event is_text_lem.fit

  id_bytes : all is_byte s.0.id ≡ true
  id_bytes = rw hashed (digest_bytes_lem s.0.text)

  id_length : length (hex_of s.0.id) ≡ 64
  id_length = omega (arith, hex_length_lem s.0.id, ap length hashed ∙ digest_length s.0.text)

  told_event : event_of b p.body ≡ t.event
  unfolding event_of
  told_event = rw (t.pubkey.says, t.time, t.kind, t.tags.says, t.content.says)

  rows_again : event_row b p ≡ 0
  unfolding event_row event2 event4 event5 event7 body2 body4 body5 body6 body7 body8
  rows_again =
      let l = limits in
      let i = hex_is s.0.id id_bytes in
      let g = hex_is s.1 sig_bytes in
      let k = pubkey_hex t.event.pubkey l.pubkey in
      let (n4, n8) = tags_pass b p.body.tags t.tags.utf8 t.tags.array (rw t.tags.says l.tags) in
      let n6 : wrong_number (neg_ℤ (pos widest)) (pos widest) p.body.created_at ≡ false = rw t.time (time_again t.event.time l.time) in
      let m6 : wrong_number (pos 0) (pos 65535) p.body.kind ≡ false = rw t.kind (kind_again t.event.kind l.kind) in
      simp (
        again2 t.id,
        again2 t.pubkey,
        again2 t.content,
        again2 t.sig,
        t.tags.utf8,
        again4 t.id (hex_string _ i),
        again4 t.pubkey (hex_string _ k),
        again4 t.content l.content,
        again4 t.sig (hex_string _ g),
        n4,
        again5 t.id,
        again5 t.pubkey,
        again5 t.content,
        again5 t.sig,
        t.tags.array,
        n6,
        m6,
        again7 t.id 64 id_length i,
        again7 t.pubkey 64 (pubkey_length t.event.pubkey l.pubkey) k,
        again7 t.sig 128 (omega (arith, hex_length_lem s.1, sig_length_lem)) g,
        n8,
      )

  offered_again : offered_row b p ≡ 0
  unfolding offered_row is_large has_id text_of
  offered_again =
      let e = told_event in
      let x = is_text_lem.same in
      let i : same_bytes (said b p.id) (hex_of (digest s.0.text)) ≡ true = equal_same _ _ (t.id.says ∙ ap hex_of hashed) in
      rw (rows_again, e, x, le-ltb most_text (length s.0.text) is_text_lem.small, i)

  held_again : of_held (held_of b p) ≡ s
  unfolding held_of
  held_again = rw (t.id.says, t.sig.says, unhex_hex s.0.id id_bytes, unhex_hex s.1 sig_bytes, told_event, is_text_lem.same)

  pub judged_again : judge (as_parts b p) ≡ Some s
  unfolding judge
  judged_again = rw (eq-eqb (offered_row b p) 0 offered_again, held_again)

pub passes : Passes table_events Signature relay Good
passes b (as_message m) s g h t = absurd t
passes b (as_parts c p) s g h t = judged_again c p s (g.hashed s h) (g.sig_length_lem s h) (g.sig_bytes s h) t
