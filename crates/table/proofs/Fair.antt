-- That specs/Demand3's `Tells` is neither too narrow nor empty: parts that rows 2 to 10 let pass, and that have the id,
-- text and signature of s, tell s; and of what a list of offers leaves there are offers that tell all of it and nothing
-- else, so exchanges exist.
use Rattle.std.specs.Prelude.{None, Some}
use mathlib.Core.Bool.{Bool, true, false, cond}
use mathlib.Core.Path.{◌≡◌, refl, sym, ap, ◌∙◌}
use mathlib.Core.List.{List, [], ◌∷◌}
use Prim.Native.Nat.{ℕ, zero, suc, ◌+◌, ◌-◌, ◌*◌, ◌/◌, ◌%◌, ◌<◌}
use native.Mathlib.Omega.{arith}
use borrow.Author.Tests.{lt-ltb, le-ltb, le-leb, lt-leb, not-false}
use lib.IntN.{ℤ, pos, negsuc}
use lib.ListN.{length}
use Rattle.wire.specs.Bytes.{is_hex}
use Rattle.utf8.specs.Utf8.{is_utf8}
use Rattle.json_tree.specs.Grammar.{is_spelling}
use Rattle.numeral.specs.Whole.{is_within}
use Rattle.wire.proofs.Bytes.{same_equal}
use Rattle.digest.specs.Digest.{digest}
use Rattle.spell.specs.Spell.{hex_val}
use Rattle.spell.specs.Spell as spell
use Rattle.spell.proofs.Laws.{hex_length_lem, hex_all, HexDigit, digit, letter, hex_digit_lem}
use Rattle.text.specs.Event.{serialise}
use Rattle.text.proofs.Pieces.{both}
use Rattle.message.specs.declared.Span.{Span}
use Rattle.message.specs.declared.EventParts.{EventParts}
use Rattle.message.specs.Lent.{span_bytes, is_inside, is_spelled, is_tags_shape, string2, string5, string7, value2, value5}
use Rattle.message.specs.Lent.{wrong_number, time6, body2, body5, body6, body7, event2, event5, event7}
use Rattle.event.specs.Lent.{said, natural, event_of, text_of}
use Rattle.event.specs.Answer.{hex_of, has_id, offered_row}
use Rattle.wire.specs.Bytes.{hex_digit}
use Rattle.event.proofs.Decoded.{or_neither}
use Rattle.event.proofs.Fit.{and_fails}
use Rattle.law.specs.Demand3.{run_on}
use Rattle.law.proofs.Machine.{good_run, exchanges_on}
use Rattle.table.specs.Events.{SignedEvent, Signature, table_events, of_held}
use Rattle.table.specs.Offer.{as_parts, is_valid, judge, held_of, unhex}
use Rattle.table.specs.Demand3.{Spells, Tells, relay}
use Rattle.table.specs.Claims.{ToldExactly, Tellable, Exchanges}
use Rattle.table.proofs.Valid.{rows, clean, id_hashed, valid_read, parts_pass}
use Rattle.table.proofs.Passes.{passes}
use Rattle.table.proofs.Tellable as held
use Rattle.table.proofs.Good.{Good}
use Rattle.table.proofs.Faithful.{faithful}

-- ---- lower-case hex is the hex of the bytes that it stands for
digit_again : (x : ℕ) → HexDigit x → (hex_val x < 16) × (hex_digit (hex_val x) ≡ x)
unfolding hex_val
digit_again x (digit l h) =
    let z : hex_val x ≡ x - 0x30 = rw (le-ltb x 0x30 l, le-leb x 0x39 h) in
    (omega arith, rw (z, lt-ltb (x - 0x30) 10 (omega arith)) (omega arith))
digit_again x (letter l h) =
    let z : hex_val x ≡ x - 0x61 + 10 =
    rw (le-ltb x 0x30 (omega arith), lt-leb x 0x39 (omega arith), le-ltb x 0x41 (omega arith), lt-leb x 0x46 (omega arith), le-ltb x 0x61 l, le-leb x 0x66 h) in
    (omega arith, rw (z, le-ltb (x - 0x61 + 10) 10 (omega arith)) (omega arith))

hex_unhex : (n : ℕ) (l : List ℕ) → length l ≡ n + n → spell.all is_hex l ≡ true → hex_of (unhex l) ≡ l
unfolding unhex hex_of spell.all
hex_unhex zero [] e h = refl
hex_unhex zero (x ∷ l) e h = absurd (omega arith)
hex_unhex (suc n) [] e h = absurd (omega arith)
hex_unhex (suc n) (x ∷ []) e h = absurd (omega arith)
hex_unhex (suc n) (x ∷ y ∷ l) e h =
    let (p, q) = both (is_hex x) _ h in
    let (r, t) = both (is_hex y) _ q in
    let (a, b) = digit_again x (hex_digit_lem x p) in
    let (c, d) = digit_again y (hex_digit_lem y r) in
    let z : (hex_val x * 16 + hex_val y) / 16 ≡ hex_val x = omega arith in
    let w : (hex_val x * 16 + hex_val y) % 16 ≡ hex_val y = omega arith in
    rw (z, w, b, d) (ap (λ (k : List ℕ). x ∷ y ∷ k) (hex_unhex n l (omega arith) t))

-- ---- a part that rows 2 and 5 let pass spells what it says
spells_of : (b : List ℕ) (p : Span) (v : List ℕ) → string2 b p ≡ false → string5 b p ≡ false → said b p ≡ v → Spells b p v
unfolding string2 string5 is_spelled
spells_of b p v e f d =
    let (i, s) = both (is_inside b p) (is_spelling (span_bytes b p)) (not-false _ f) in
    record { inside = i; utf8 = not-false (is_utf8 (span_bytes b p)) (and_fails (is_inside b p) _ i e); spelling = s; says = d }

kind_natural : (z : ℤ) → wrong_number (pos 0) (pos 65535) z ≡ false → z ≡ pos (natural z)
unfolding wrong_number is_within
kind_natural (pos n) e = refl
kind_natural (negsuc n) e = absurd (let z : ◌≡◌ {A = ℕ} 0 1 = cc in omega arith)

module _ (b : List ℕ) (p : EventParts) (e : offered_row b p ≡ 0) where
  sig_again : hex_of (unhex (said b p.sig)) ≡ said b p.sig
  unfolding event5 event7 string5 string7
  sig_again =
      let n = clean b p e in
      let s = not-false (is_spelled b p.sig) (or_neither (body5 b p.body) _ (or_neither (string5 b p.id) _ n.not5).1).1 in
      let h = not-false _ (and_fails (is_spelled b p.sig) _ s (or_neither (body7 b p.body) _ (or_neither (string7 64 b p.id) _ n.not7).1).1) in
      hex_unhex 64 (said b p.sig) (hex_length_lem 128 (span_bytes b p.sig) h) (hex_all 128 (span_bytes b p.sig) h)

  tells_own : Tells b p (of_held (held_of b p))
  unfolding held_of event_of event2 event5 body2 body5 body6 has_id text_of
  tells_own =
      let n = clean b p e in
      let (i2, x2) = or_neither (string2 b p.id) _ n.not2 in
      let (y2, g2) = or_neither (body2 b p.body) _ x2 in
      let (k2, z2) = or_neither (string2 b p.body.pubkey) _ y2 in
      let (t2, c2) = or_neither (value2 b p.body.tags) _ z2 in
      let (i5, x5) = or_neither (string5 b p.id) _ n.not5 in
      let (y5, g5) = or_neither (body5 b p.body) _ x5 in
      let (k5, z5) = or_neither (string5 b p.body.pubkey) _ y5 in
      let (t5, c5) = or_neither (value5 is_tags_shape b p.body.tags) _ z5 in
      let (_, m6) = or_neither (time6 p.body.created_at) _ n.not6 in
      let d = same_equal (said b p.id) (hex_of (digest (serialise (event_of b p.body)))) (rows b p e).2 in
      record {
        event = event_of b p.body;
        text = valid_read (as_parts b p) (rw e);
        id = spells_of b p.id _ i2 i5 (d ∙ ap hex_of (sym (id_hashed b p e)));
        pubkey = spells_of b p.body.pubkey _ k2 k5 refl;
        time = refl;
        kind = kind_natural p.body.kind m6;
        tags = record { utf8 = t2; array = t5; says = refl };
        content = spells_of b p.body.content _ c2 c5 refl;
        sig = spells_of b p.sig _ g2 g5 (sym sig_again);
      }

-- parts that are judged s tell s: the converse of `passes`
pub judged_tells : (b : List ℕ) (p : EventParts) (s : SignedEvent) → judge (as_parts b p) ≡ Some s → Tells b p s
unfolding judge
judged_tells b p s e = go (is_valid (as_parts b p)) refl e
  where
    go : (t : Bool) → is_valid (as_parts b p) ≡ t → cond t (Some (of_held (held_of b p))) None ≡ Some s → Tells b p s
    go true v z = let y : of_held (held_of b p) ≡ s = cc in rw y at (tells_own b p (parts_pass (as_parts b p) v))
    go false v z = absurd (let y : ◌≡◌ {A = ℕ} 0 1 = cc in omega arith)

-- ---- what a list of offers leaves in a fresh table
pub told_exactly : ToldExactly
told_exactly b os s f m c p =
    let g = good_run table_events Signature relay Good faithful b os f in
    (λ t. passes (run_on table_events Signature relay b os) (as_parts c p) s g m t, judged_tells c p s)

pub tellable : Tellable
tellable b os s f m = held.tellable (run_on table_events Signature relay b os) s (good_run table_events Signature relay Good faithful b os f) m

pub exchanges : Exchanges
exchanges = exchanges_on table_events Signature relay Good faithful held.tellable
