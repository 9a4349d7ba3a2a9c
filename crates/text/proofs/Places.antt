-- The places that a text is answered with hold what they are named for: pubkey, tags, content and d. The strings stand
-- there escaped, so that a part of the text can be copied to where the event is written again.
use Rattle.std.specs.Prelude.{Ok}
use mathlib.Core.Path.{◌≡◌, refl, sym, ap, ◌∙◌}
use mathlib.Core.Bool.{Bool, true, false, cond, ◌&&◌, ◌||◌, false≢true}
use mathlib.Core.List.{List, [], ◌∷◌, ◌++◌, append_assoc}
use Prim.Native.Nat.{ℕ, zero, suc, ◌+◌, ◌-◌, ◌≤◌, min}
use native.Mathlib.Omega.{arith}
use lib.ListN.{length, take, drop, length-append, length-take, length-drop}
use lib.Seq.{drop-drop, take-append_seam}
use lib.Dec.{eqb, leb}
use borrow.Author.Tests.{ne_eqb, eqb-true, leb-true}
use Rattle.wire.specs.Bytes.{part, is_hex}
use Rattle.wire.specs.Escape.{letter_of, esc_one, escape}
use Rattle.numeral.specs.Decimal.{digits, decimal}
use Rattle.wire.specs.Limits.{most_text, hex_length}
use Rattle.text.specs.Event.{Tag, Event, quoted, members_text, tag_text, tags_text, opening, closing, comma, bracket}
use Rattle.text.specs.Event.{serialise, all, is_pubkey}
use Rattle.text.specs.Read.{Read, too_large, wrong_shape, read, read_text, IsTextOf}
use Rattle.text.specs.Kinds.{is_named_d, second, d_of}
use Rattle.text.specs.Answer.{Span, span_behind, d_span, tags_place, content_place, text_parts, text_answer_of}
use Rattle.text.specs.declared.Text.{Text}
use Rattle.wire.proofs.Escapes.{plain}
use Rattle.text.proofs.Pieces.{both, Spelt, left, right, tail, all_of}
use Rattle.text.proofs.Limits.{limits_of}
use Rattle.text.proofs.Rows.{pubkey_length}
use Rattle.text.proofs.RoundTrip.{read_same, fit_length}
use Rattle.text.proofs.Named.{after, members_begin}

-- ---- d among the tags
-- the bytes of a span
abbrev pub bytes_at : List ℕ → Span → List ℕ
bytes_at s p = take p.len (drop p.at s)

span_stands : (s : List ℕ) (i : ℕ) (l r : List ℕ) → drop i s ≡ l ++ r → bytes_at s (span_behind i l) ≡ l
span_stands s i [] r e = refl
span_stands s i (x ∷ l) r e = ap (take (length (x ∷ l))) e ∙ take-append_seam (x ∷ l) r

second_stands : (s : List ℕ) (i : ℕ) (t : Tag) (r : List ℕ) → is_named_d t ≡ true → drop i s ≡ tag_text t ++ r → bytes_at s (span_behind (i + 6) (escape (second t))) ≡ escape (second t)
unfolding tag_text escape esc_one letter_of
second_stands s i [] r d e = absurd (false≢true d)
second_stands s i ([] ∷ t) r d e = absurd (false≢true d)
second_stands s i ((x ∷ y ∷ v) ∷ t) r d e = absurd (false≢true d)
second_stands s i ((x ∷ []) ∷ []) r d e = refl
second_stands s i ((x ∷ []) ∷ w ∷ t) r d e =
    let l = (rw (eqb-true x 100 d) at e) ∙ ap (◌∷◌ 91) (members_begin (100 ∷ []) (w ∷ t) r ∙ ap (λ (k : List ℕ). 34 ∷ 100 ∷ 34 ∷ 44 ∷ k) (members_begin w t r)) in
    span_stands s (i + 6) (escape w) (34 ∷ (after t ++ r)) (sym (drop-drop 6 i s) ∙ ap (drop 6) l)

named_stands : (s : List ℕ) (i : ℕ) (ts : List Tag) (n : ℕ) → Spelt s i (members_text tag_text ts) n → bytes_at s (d_span i ts) ≡ escape (d_of ts)
unfolding d_span d_of members_text escape
named_stands s i [] n a = refl
named_stands s i (t ∷ []) n a = go (is_named_d t) refl
  where
    go : (b : Bool) → is_named_d t ≡ b → bytes_at s (cond b (span_behind (i + 6) (escape (second t))) (span_behind (i + length (tag_text t) + 1) [])) ≡ escape (cond b (second t) [])
    go true d = second_stands s i t (drop (i + length (tag_text t)) s) d (left (tag_text t) (93 ∷ []) a).is
    go false d = refl
named_stands s i (t ∷ u ∷ ts) n a = go (is_named_d t) refl (named_stands s (i + length (tag_text t) + 1) (u ∷ ts) n)
  where
    go : (b : Bool) → is_named_d t ≡ b
        → (Spelt s (i + length (tag_text t) + 1) (members_text tag_text (u ∷ ts)) n → bytes_at s (d_span (i + length (tag_text t) + 1) (u ∷ ts)) ≡ escape (d_of (u ∷ ts)))
        → bytes_at s (cond b (span_behind (i + 6) (escape (second t))) (d_span (i + length (tag_text t) + 1) (u ∷ ts))) ≡ escape (cond b (second t) (d_of (u ∷ ts)))
    go true d ih = second_stands s i t (drop (i + length (tag_text t)) s) d (left (tag_text t) (44 ∷ members_text tag_text (u ∷ ts)) a).is
    go false d ih = ih (tail (right (tag_text t) (44 ∷ members_text tag_text (u ∷ ts)) a))

span_len : (i : ℕ) (l : List ℕ) → (span_behind i l).len ≡ length l
span_len i [] = refl
span_len i (x ∷ l) = refl

pub d_length : (i : ℕ) (ts : List Tag) → (d_span i ts).len ≡ length (escape (d_of ts))
unfolding d_span d_of escape
d_length i [] = refl
d_length i (t ∷ ts) = go (is_named_d t) (d_length (i + length (tag_text t) + 1) ts)
  where
    go : (b : Bool) → (d_span (i + length (tag_text t) + 1) ts).len ≡ length (escape (d_of ts))
        → (cond b (span_behind (i + 6) (escape (second t))) (d_span (i + length (tag_text t) + 1) ts)).len ≡ length (escape (cond b (second t) (d_of ts)))
    go true ih = span_len (i + 6) (escape (second t))
    go false ih = ih

-- both 0 if it is empty
span_none : (i : ℕ) (l : List ℕ) → (span_behind i l).len ≡ 0 → (span_behind i l).at ≡ 0
span_none i [] e = refl
span_none i (x ∷ l) e = absurd (omega arith)

pub d_none : (i : ℕ) (ts : List Tag) → (d_span i ts).len ≡ 0 → (d_span i ts).at ≡ 0
unfolding d_span
d_none i [] e = refl
d_none i (t ∷ ts) e = go (is_named_d t) (d_none (i + length (tag_text t) + 1) ts) e
  where
    go : (b : Bool) → ((d_span (i + length (tag_text t) + 1) ts).len ≡ 0 → (d_span (i + length (tag_text t) + 1) ts).at ≡ 0)
        → (cond b (span_behind (i + 6) (escape (second t))) (d_span (i + length (tag_text t) + 1) ts)).len ≡ 0
        → (cond b (span_behind (i + 6) (escape (second t))) (d_span (i + length (tag_text t) + 1) ts)).at ≡ 0
    go true ih e = span_none (i + 6) (escape (second t)) e
    go false ih e = ih e

-- ---- the parts of a text
spelt_take : {s : List ℕ} {at : ℕ} {p : List ℕ} {n : ℕ} → Spelt s at p n → take (length p) (drop at s) ≡ p
spelt_take {s} {at} {p} {n} a = ap (take (length p)) a.is ∙ take-append_seam p (drop n s)

-- what stands after p in a text p, q, r
amid : (t p q r : List ℕ) (at : ℕ) → t ≡ p ++ (q ++ r) → length p ≡ at → Spelt t at q (at + length q)
amid t p q r at e l = let z : 0 + length p ≡ at = omega arith in rw z at (left q r (right p (q ++ r) (all_of t (p ++ (q ++ r)) e)))

pub part_amid : (t p q r : List ℕ) (i k : ℕ) → t ≡ p ++ (q ++ r) → length p ≡ i → length q ≡ k → part t i k ≡ q
part_amid t p q r i k e l m = rw (← m) (spelt_take (amid t p q r i e l))

-- ---- hex has no escapes
letter_none : (b : ℕ) → 0x30 ≤ b → (b ≡ 0x5c → ⊥) → letter_of b ≡ 0
unfolding letter_of
letter_none b h n =
    rw (
      ne_eqb b 0x0a (λ e. omega arith),
      ne_eqb b 0x22 (λ e. omega arith),
      ne_eqb b 0x5c n,
      ne_eqb b 0x0d (λ e. omega arith),
      ne_eqb b 0x09 (λ e. omega arith),
      ne_eqb b 0x08 (λ e. omega arith),
      ne_eqb b 0x0c (λ e. omega arith),
    )

pub escape_none : (b : ℕ) → 0x30 ≤ b → (b ≡ 0x5c → ⊥) → esc_one b ≡ b ∷ []
escape_none b h n = plain b 0 (sym (letter_none b h n)) refl

hex_byte : (b : ℕ) → is_hex b ≡ true → esc_one b ≡ b ∷ []
unfolding is_hex
hex_byte b e = go (leb 0x30 b && leb b 0x39) refl e
  where
    go : (d : Bool) → (leb 0x30 b && leb b 0x39) ≡ d → (d || (leb 0x61 b && leb b 0x66)) ≡ true → esc_one b ≡ b ∷ []
    go true q e =
        let (l, m) = both (leb 0x30 b) (leb b 0x39) q in
        let u = leb-true 0x30 b l in
        let v = leb-true b 0x39 m in
        escape_none b u (λ z. omega arith)
    go false q e = let u = leb-true 0x61 b (both (leb 0x61 b) (leb b 0x66) e).0 in escape_none b (omega arith) (λ z. omega arith)

pub escape_key : (l : List ℕ) → all is_hex l ≡ true → escape l ≡ l
unfolding escape all
escape_key [] h = refl
escape_key (x ∷ l) h = let (p, q) = both (is_hex x) (all is_hex l) h in rw (hex_byte x p, escape_key l q)

pub quoted_length : (v : List ℕ) → length (quoted v) ≡ length (escape v) + 2
unfolding quoted
quoted_length v = simp length-append (omega arith)

-- [0,"PUBKEY",TIME,KIND,
abbrev front : Event → List ℕ
front e = opening ++ (e.pubkey ++ (closing ++ (decimal e.time ++ (comma ++ (digits e.kind ++ comma)))))

module _ (t : List ℕ) (e : Event) (a : IsTextOf t e) where
  hex : length e.pubkey ≡ hex_length
  hex = pubkey_length e.pubkey (limits_of e a.fit).pubkey

  front_length : length (front e) ≡ tags_place e
  front_length = let h = hex in simp length-append (omega arith)

  tags_spelt : Spelt t (tags_place e) (tags_text e.tags) (tags_place e + length (tags_text e.tags))
  unfolding serialise
  tags_spelt =
      let q : List ℕ = comma ++ (quoted e.content ++ bracket) in
      let z : serialise e ≡ front e ++ (tags_text e.tags ++ q) = simp append_assoc in
      amid t (front e) (tags_text e.tags) q (tags_place e) (sym a.same ∙ z) front_length

  content_spelt : Spelt t (content_place e) (escape e.content) (content_place e + length (escape e.content))
  unfolding serialise quoted
  content_spelt =
      let p : List ℕ = front e ++ (tags_text e.tags ++ closed) in
      let z : serialise e ≡ p ++ (escape e.content ++ (34 ∷ bracket)) = simp append_assoc in
      amid t p (escape e.content) (34 ∷ bracket) (content_place e) (sym a.same ∙ z) (let h = hex in simp length-append (omega arith))
    where
      closed : List ℕ
      closed = 44 ∷ 34 ∷ []

  pub pubkey_stands : take hex_length (drop 4 t) ≡ e.pubkey
  unfolding serialise
  pubkey_stands = rw hex at (spelt_take (amid t opening e.pubkey _ 4 (sym a.same) refl))

  pub tags_stand : take (length (tags_text e.tags)) (drop (text_parts e).tags t) ≡ tags_text e.tags
  tags_stand = spelt_take tags_spelt

  pub content_stands : take (text_parts e).content_len (drop (text_parts e).content t) ≡ escape e.content
  content_stands = spelt_take content_spelt

  pub d_stands : take (text_parts e).d_len (drop (text_parts e).d t) ≡ escape (d_of e.tags)
  unfolding tags_text
  d_stands = named_stands t (tags_place e + 1) e.tags (tags_place e + length (tags_text e.tags)) (tail tags_spelt)

  -- with their quotes; the pubkey is its own spelling
  pub key_itself : escape e.pubkey ≡ e.pubkey
  unfolding is_pubkey
  key_itself = escape_key e.pubkey (both (eqb (length e.pubkey) hex_length) _ (limits_of e a.fit).pubkey).1

  pub key_part : part t 3 66 ≡ quoted e.pubkey
  unfolding serialise quoted
  key_part =
      let h = hex in
      let k : List ℕ = 34 ∷ (e.pubkey ++ (34 ∷ [])) in
      let r : List ℕ = 44 ∷ (decimal e.time ++ (comma ++ (digits e.kind ++ (comma ++ (tags_text e.tags ++ (comma ++ (quoted e.content ++ bracket))))))) in
      let z : serialise e ≡ (91 ∷ 48 ∷ 44 ∷ []) ++ (k ++ r) = simp append_assoc in
      part_amid t (91 ∷ 48 ∷ 44 ∷ []) k r 3 66 (sym a.same ∙ z) refl (simp length-append (omega arith)) ∙ ap (λ (v : List ℕ). 34 ∷ (v ++ (34 ∷ []))) (sym key_itself)

  pub tags_part : part t (text_parts e).tags ((text_parts e).content - 2 - (text_parts e).tags) ≡ tags_text e.tags
  tags_part = let z : (text_parts e).content - 2 - (text_parts e).tags ≡ length (tags_text e.tags) = omega arith in rw z tags_stand

  pub content_part_lem : part t ((text_parts e).content - 1) ((text_parts e).content_len + 2) ≡ quoted e.content
  unfolding serialise
  content_part_lem =
      let h = hex in
      let p : List ℕ = front e ++ (tags_text e.tags ++ comma) in
      let z : serialise e ≡ p ++ (quoted e.content ++ bracket) = simp append_assoc in
      part_amid t p (quoted e.content) bracket ((text_parts e).content - 1) ((text_parts e).content_len + 2) (sym a.same ∙ z) (simp length-append (omega arith)) (quoted_length e.content)

  -- d lies in the text
  pub d_inside : (text_parts e).d + (text_parts e).d_len ≤ length t
  d_inside =
      let p = d_span (tags_place e + 1) e.tags in
      let l : min p.len (length t - p.at) ≡ p.len =
      sym (length-take p.len (drop p.at t) ∙ ap (min p.len) (length-drop p.at t)) ∙ ap length d_stands ∙ sym (d_length (tags_place e + 1) e.tags) in
      inside p.at p.len (length t) l (d_none (tags_place e + 1) e.tags)
    where
      inside : (i k n : ℕ) → min k (n - i) ≡ k → (k ≡ 0 → i ≡ 0) → i + k ≤ n
      inside i zero n l z = let y = z refl in omega arith
      inside i (suc k) n l z = omega arith

-- ---- the answer to a text that was read, and that its parts can be taken
pub read_told : (r : Read) (x : Text) → Ok x ≡ text_answer_of r → (e : Event) × (r ≡ read e) × (x ≡ text_parts e)
read_told too_large x q = absurd (let z : ◌≡◌ {A = ℕ} 0 1 = cc in omega arith)
read_told wrong_shape x q = absurd (let z : ◌≡◌ {A = ℕ} 0 1 = cc in omega arith)
read_told (read e) x q = (e, refl, cc)

pub record Bounds (t : List ℕ) (x : Text) : Type 0 where
  pub between : x.tags + 2 ≤ x.content
  pub ends : x.content + x.content_len + 2 ≡ length t
  pub small : length t ≤ most_text

pub bounds : (t : List ℕ) (x : Text) → Ok x ≡ text_answer_of (read_text t) → Bounds t x
bounds t x w =
    let (e, r, q) = read_told (read_text t) x w in
    let a = read_same t e r in
    rw q (record { between = omega arith; ends = omega (arith, fit_length e a.fit, ap length a.same); small = a.small })
