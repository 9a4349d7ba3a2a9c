-- What a table holds can be told: parts of it exist. They lie in the text itself, with the hex of the id and of the
-- signature behind it; each is what a buffer p, q, r has at the length of p.
use mathlib.Core.Bool.{true}
use mathlib.Core.Path.{◌≡◌, refl, sym, ap, ◌∙◌}
use mathlib.Core.Logic.{⊎_elim}
use mathlib.Core.List.Memᴰ
use mathlib.Core.List.{List, [], ◌∷◌, ◌++◌, append_assoc, append-nil, map}
use Prim.Native.Nat.{ℕ, ◌+◌}
use native.Mathlib.Omega.{arith}
use borrow.Author.Tests.{le-leb}
use lib.IntN.{pos}
use lib.ListN.{length, drop, length-append}
use lib.Seq.{take_at, drop_at}
use Rattle.wire.specs.Bytes.{is_hex}
use Rattle.wire.specs.Escape.{escape}
use Rattle.utf8.specs.Utf8.{is_utf8}
use Rattle.json_tree.specs.Grammar.{is_spelling}
use Rattle.numeral.specs.Decimal.{digits, decimal}
use Rattle.rows.specs.Strings.{part}
use Rattle.digest.specs.Digest.{digest}
use Rattle.spell.specs.Spell.{decode}
use Rattle.spell.specs.Spell as spell
use Rattle.spell.proofs.Laws.{decode_escape, hex_itself, hex_escape}
use Rattle.text.specs.Event.{Event, opening, closing, comma, bracket, quoted, tags_text, serialise, all}
use Rattle.text.specs.Event.{is_string_bytes}
use Rattle.text.specs.Read.{read, read_text, IsTextOf}
use Rattle.text.specs.Answer.{tags_place, content_place}
use Rattle.text.proofs.Pieces.{spelt, left, right, byte_is, both}
use Rattle.text.proofs.Strings.{utf8_escape}
use Rattle.text.proofs.Limits.{Limits, limits_of}
use Rattle.text.proofs.Rows.{pubkey_length}
use Rattle.text.proofs.RoundTrip.{read_back, read_same}
use Rattle.message.specs.declared.Span.{Span}
use Rattle.message.specs.declared.EventParts.{EventParts}
use Rattle.message.specs.Lent.{is_inside}
use Rattle.event.specs.Answer.{hex_of}
use Rattle.event.proofs.Answers.{hex_length_lem}
use Rattle.law.specs.Lists.{◌∈◌}
use Rattle.law.proofs.Machine.{Tellable}
use Rattle.table.specs.Layout.{is_byte, held_slots}
use Rattle.table.specs.Events.{SignedEvent, Signature, table_events, in_slot, of_held, view}
use Rattle.table.specs.Sound.{slot_sound, slots_sound, sound}
use Rattle.table.specs.Offer.{as_parts}
use Rattle.table.specs.Demand3.{Spells, SpellsTags, Tells, relay}
use Rattle.table.specs.Claims.{Offerable}
use Rattle.table.proofs.Good.{Good}
use Rattle.table.proofs.Slots.{sound_event}
use Rattle.table.proofs.Bytes.{clauses}
use Rattle.table.proofs.Hex.{hex_is, digest_length, digest_bytes_lem}
use Rattle.table.proofs.Again.{hex_string}
use Rattle.table.proofs.Strings.{escape_spelling}
use Rattle.table.proofs.Arrays.{tags_spelled}
use Rattle.table.proofs.Passes.{pubkey_hex, judged_again}

-- ---- a held slot has the text of an event
held_slot : (xs : List (List ℕ)) (s : SignedEvent) → all slot_sound xs ≡ true → s ∈ map in_slot xs → (c : List ℕ) × (s ≡ in_slot c) × (slot_sound c ≡ true)
unfolding all
held_slot [] s e m = absurd (Memᴰ.not-nil m)
held_slot (x ∷ xs) s e m = let (p, q) = both (slot_sound x) _ e in ⊎_elim (λ z. (x, z, p)) (λ k. held_slot xs s q k) (Memᴰ.cases_cons m)

pub held_read : (b : List ℕ) (s : SignedEvent) → sound b ≡ true → s ∈ view b → (e : Event) × (read_text s.0.text ≡ read e)
unfolding view slots_sound
held_read b s g m =
    let (c, z, h) = held_slot (held_slots b) s (clauses b g).slots m in
    let (e, r) = sound_event c h in
    (e, ap (λ (x : SignedEvent). read_text x.0.text) z ∙ r)

-- ---- a part
module _ (p q r : List ℕ) (at k : ℕ) (l : length p ≡ at) (m : length q ≡ k) where
  part_is : part (p ++ (q ++ r)) at k ≡ q
  part_is = rw (drop_at p (q ++ r) at l) (take_at q r k m)

  spells : (v : List ℕ) → is_utf8 q ≡ true → is_spelling q ≡ true → decode q ≡ v → Spells (p ++ (q ++ r)) (record { start = at; len = k }) v
  unfolding is_inside
  spells v u s d = record {
    inside = le-leb (at + k) (length (p ++ (q ++ r))) (simp length-append (omega arith));
    utf8 = rw part_is u;
    spelling = rw part_is s;
    says = rw part_is d;
  }

-- hex spells itself; and what is escaped spells what it was
module _ (p q r : List ℕ) (at k : ℕ) (l : length p ≡ at) where
  spells_hex_lem : length q ≡ k → spell.all is_hex q ≡ true → Spells (p ++ (q ++ r)) (record { start = at; len = k }) q
  unfolding is_string_bytes
  spells_hex_lem m h =
      spells p q r at k l m q (hex_string q h) (rw (hex_escape q h) at (escape_spelling q)) (hex_itself q h)

  spells_string : length (escape q) ≡ k → is_string_bytes q ≡ true → Spells (p ++ (escape q ++ r)) (record { start = at; len = k }) q
  unfolding is_string_bytes
  spells_string m h =
      spells p (escape q) r at k l m q (utf8_escape q ∙ h) (escape_spelling q) (decode_escape q)

-- ---- the parts of an event in its text t, with any bytes r behind
-- [0,"PUBKEY",TIME,KIND,
abbrev back : Event → List ℕ
back e = closing ++ (decimal e.time ++ (comma ++ (digits e.kind ++ comma)))

abbrev front : Event → List ℕ
front e = opening ++ (e.pubkey ++ back e)

-- "CONTENT"] and what stands behind
abbrev after : Event → List ℕ → List ℕ
after e r = quoted e.content ++ (bracket ++ r)

abbrev pub pubkey_part : Span
pubkey_part = record { start = 4; len = 64 }

abbrev pub content_part : Event → Span
content_part e = record { start = content_place e; len = length (escape e.content) }

module _ (t : List ℕ) (e : Event) (a : IsTextOf t e) where
  limits : Limits e
  limits = limits_of e a.fit

  pubkey_size : length e.pubkey ≡ 64
  pubkey_size = pubkey_length e.pubkey limits.pubkey

  front_size : length (front e) ≡ tags_place e
  front_size = let h = pubkey_size in simp length-append (omega arith)

  module _ (r : List ℕ) where
    whole : {l : List ℕ} → l ≡ serialise e ++ r → l ≡ t ++ r
    whole z = z ∙ ap (λ (x : List ℕ). x ++ r) a.same

    told_pubkey : Spells (t ++ r) pubkey_part e.pubkey
    unfolding serialise
    told_pubkey =
        let z : opening ++ (e.pubkey ++ (back e ++ (tags_text e.tags ++ (comma ++ after e r)))) ≡ t ++ r = whole (simp append_assoc) in
        rw z at
        (spells_hex_lem opening e.pubkey (back e ++ (tags_text e.tags ++ (comma ++ after e r))) 4 64 refl pubkey_size
        (pubkey_hex e.pubkey limits.pubkey))

    told_content : Spells (t ++ r) (content_part e) e.content
    unfolding serialise quoted
    told_content =
        let p : List ℕ = front e ++ (tags_text e.tags ++ (44 ∷ 34 ∷ [])) in
        let z : p ++ (escape e.content ++ (34 ∷ (bracket ++ r))) ≡ t ++ r = whole (simp append_assoc) in
        let l : length p ≡ content_place e = simp length-append (omega (arith, pubkey_size)) in
        rw z at (spells_string p e.content (34 ∷ (bracket ++ r)) (content_place e) (length (escape e.content)) l refl limits.content)

    told_tags : SpellsTags (t ++ r) (tags_place e) e.tags
    unfolding serialise
    told_tags =
        let k = tags_text e.tags in
        let z : t ++ r ≡ front e ++ ((k ++ (44 ∷ [])) ++ after e r) = sym (whole (simp append_assoc)) in
        let d : drop (tags_place e) (t ++ r) ≡ (k ++ (44 ∷ [])) ++ after e r = rw z (drop_at (front e) ((k ++ (44 ∷ [])) ++ after e r) (tags_place e) front_size) in
        let b = spelt (t ++ r) (k ++ (44 ∷ [])) (after e r) (tags_place e) (tags_place e + length (k ++ (44 ∷ []))) d refl in
        tags_spelled (t ++ r) e.tags (tags_place e) (tags_place e + length k) limits.tags (left k (44 ∷ []) b) (byte_is (right k (44 ∷ []) b))

  -- the text alone
  pub pubkey_said : Spells t pubkey_part e.pubkey
  pubkey_said = rw (append-nil t) at (told_pubkey [])

  pub content_said : Spells t (content_part e) e.content
  content_said = rw (append-nil t) at (told_content [])

  pub tags_said : SpellsTags t (tags_place e) e.tags
  tags_said = rw (append-nil t) at (told_tags [])

-- ---- and with the hex of its id and signature behind
abbrev pub told_in : SignedEvent → List ℕ
told_in s = s.0.text ++ (hex_of s.0.id ++ hex_of s.1)

abbrev pub told_parts : SignedEvent → Event → EventParts
told_parts s e = record {
  id = record { start = length s.0.text; len = 64 };
  body = record { pubkey = pubkey_part; created_at = e.time; kind = pos e.kind; tags = tags_place e; content = content_part e };
  sig = record { start = length s.0.text + 64; len = 128 };
}

module _ (s : SignedEvent) (e : Event) (a : IsTextOf s.0.text e)
    (id_length : length (hex_of s.0.id) ≡ 64) (id_hex : spell.all is_hex (hex_of s.0.id) ≡ true)
    (sig_length_lem : length (hex_of s.1) ≡ 128) (sig_hex : spell.all is_hex (hex_of s.1) ≡ true) where
  told_id : Spells (told_in s) (told_parts s e).id (hex_of s.0.id)
  told_id = spells_hex_lem s.0.text (hex_of s.0.id) (hex_of s.1) (length s.0.text) 64 refl id_length id_hex

  told_sig : Spells (told_in s) (told_parts s e).sig (hex_of s.1)
  told_sig =
      let z : (s.0.text ++ hex_of s.0.id) ++ (hex_of s.1 ++ []) ≡ told_in s = simp (append_assoc, append-nil) in
      rw z at (spells_hex_lem (s.0.text ++ hex_of s.0.id) (hex_of s.1) [] (length s.0.text + 64) 128 (simp length-append (omega arith)) sig_length_lem sig_hex)

  told : read_text s.0.text ≡ read e → Tells (told_in s) (told_parts s e) s
  told r =
      let h : List ℕ = hex_of s.0.id ++ hex_of s.1 in
      record {
        event = e;
        text = r;
        id = told_id;
        pubkey = told_pubkey s.0.text e a h;
        time = refl;
        kind = refl;
        tags = told_tags s.0.text e a h;
        content = told_content s.0.text e a h;
        sig = told_sig;
      }

-- parts of an event whose id is its text's hash, with a signature of 64 bytes
tells_text : (s : SignedEvent) (e : Event) → read_text s.0.text ≡ read e → s.0.id ≡ digest s.0.text → length s.1 ≡ 64 → all is_byte s.1 ≡ true
    → Tells (told_in s) (told_parts s e) s
tells_text s e r h l k =
    let i = s.0.id in
    let n : length (hex_of i) ≡ 64 = omega (arith, hex_length_lem i, ap length h ∙ digest_length s.0.text) in
    let m : length (hex_of s.1) ≡ 128 = omega (arith, hex_length_lem s.1, l) in
    let x : all is_byte i ≡ true = rw h (digest_bytes_lem s.0.text) in
    told s e (read_same s.0.text e r) n (hex_is i x) m (hex_is s.1 k) r

pub tellable : Tellable table_events Signature relay Good
tellable b s g m =
    let (e, r) = held_read b s g.is_sound m in
    (as_parts (told_in s) (told_parts s e), tells_text s e r (g.hashed s m) (g.sig_length_lem s m) (g.sig_bytes s m))

pub offerable : Offerable
offerable e sig f l n k =
    let s : SignedEvent = of_held (record { id = digest (serialise e); sig = sig; event = e }) in
    (told_in s, told_parts s e, judged_again (told_in s) (told_parts s e) s refl n k (tells_text s e (read_back e f l) refl n k))
