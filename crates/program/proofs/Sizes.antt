-- How long replies are: an EVENT of a held slot, what a refusal names.
use mathlib.Core.Path.{◌≡◌, refl, ap, ◌∙◌}
use mathlib.Core.Bool.{Bool, true, false, cond, ◌&&◌}
use mathlib.Core.List.{List, [], ◌∷◌}
use Prim.Native.Nat.{ℕ, suc, ◌+◌, ◌*◌, ◌/◌, ◌%◌, ◌≤◌, ◌<◌}
use native.Mathlib.Omega.{arith}
use borrow.Author.Tests.{eqb-true, leb-true, le-leb, lt-leb}
use lib.Dec.{eqb, leb, ltb}
use lib.IntN.{ℤ, pos, negsuc}
use lib.ListN.{length, length-append}
use Rattle.wire.specs.Limits.{hex_length, most_text}
use Rattle.wire.specs.Bytes.{is_hex, is_control, has_control, hex_digit}
use Rattle.wire.specs.Escape.{esc_one, escape, json_of, control_count}
use Rattle.wire.proofs.Escapes.{esc_two, control_high}
use Rattle.wire.proofs.Json.{json_append, json_same, json_length, count_none, count_cons, count_append, count_one, count_most}
use Rattle.wire.proofs.Json.{count_esc_one, own_escape}
use Rattle.numeral.specs.Decimal.{decimal}
use Rattle.numeral.proofs.Digits.{some_digit}
use Rattle.utf8.specs.Utf8.{is_utf8}
use Rattle.utf8.specs.Abnf.{Octets, none, utf8_1, utf8_2, utf8_3_e0, utf8_3_e1, utf8_3_ed, utf8_3_ee, utf8_4_f0}
use Rattle.utf8.specs.Abnf.{utf8_4_f1, utf8_4_f4}
use Rattle.utf8.proofs.Abnf.{as_in_abnf}
use Rattle.json_tree.specs.Grammar.{is_spelling}
use Rattle.spell.specs.Spell.{decode, refuses, points, character_count, is_hex_of}
use Rattle.spell.specs.Spell as spell
use Rattle.spell.proofs.Laws.{hex_escape}
use Rattle.text.specs.Event.{Tag, Event, members_text, tag_text, tags_text, serialise, is_pubkey, is_string_bytes, is_fit}
use Rattle.text.proofs.Pieces.{both}
use Rattle.text.proofs.Limits.{limits_of}
use Rattle.text.proofs.Places.{escape_none}
use Rattle.text.proofs.Rows.{pubkey_length}
use Rattle.text.proofs.RoundTrip.{read_same, fit_length}
use Rattle.event.specs.Answer.{hex_of}
use Rattle.event.proofs.Answers.{hex_length_lem, escape-hex}
use Rattle.event.proofs.Decoded.{decoded_string, or_either}
use Rattle.event.proofs.Forms.{form_quoted, form_serialise, count_serialise}
use Rattle.table.specs.Layout.{count_of, slot_at, id_in, sig_in, text_in}
use Rattle.table.specs.Sound.{sound}
use Rattle.table.proofs.Slots.{part_length}
use Rattle.table.proofs.Shown.{slot_size_lem}
use Rattle.table.proofs.Passes.{pubkey_hex}
use Rattle.reply.specs.Replies.{event, string_json, tags_json, object_text, reply_text}
use Rattle.program.specs.Respond.{slot_text, slot_line}
use Rattle.program.proofs.Streamed.{slot_text_is}

-- ---- quotes, hex
pub string_length : (v : List ℕ) → length (string_json v) ≡ length (json_of (escape v)) + 2
unfolding string_json
string_length v = ap length (form_quoted true v) ∙ simp length-append (omega arith)

-- what has no control character is as long as in the text
pub plain_length : (v : List ℕ) → escape v ≡ v → has_control v ≡ false → length (string_json v) ≡ length v + 2
plain_length v e h = omega (arith, string_length v, ap length (ap json_of e ∙ json_same v h))

pub hex_none : (l : List ℕ) → spell.all is_hex l ≡ true → has_control l ≡ false
unfolding spell.all is_hex
hex_none [] e = refl
hex_none (x ∷ l) e =
    let (p, q) = both (is_hex x) _ e in
    let (a, b) = hex_bounds x p in
    rw (control_high x (omega arith)) (hex_none l q)
  where
    hex_bounds : (x : ℕ) → is_hex x ≡ true → (0x30 ≤ x) × (x ≤ 0x66)
    hex_bounds x e =
        or_either ((leb 0x30 x && leb x 0x39)) ((leb 0x61 x && leb x 0x66))
        (λ p. let (a, b) = both (leb 0x30 x) _ p in (leb-true 0x30 x a, omega (arith, leb-true x 0x39 b)))
        (λ p. let (a, b) = both (leb 0x61 x) _ p in (omega (arith, leb-true 0x61 x a), leb-true x 0x66 b)) e

digit_high : (d : ℕ) → is_control (hex_digit d) ≡ false
digit_high d = go (ltb d 10)
  where
    go : (t : Bool) → is_control (cond t (0x30 + d) (0x57 + d)) ≡ false
    go true = control_high (0x30 + d) (omega arith)
    go false = control_high (0x57 + d) (omega arith)

pub digits_none : (l : List ℕ) → has_control (hex_of l) ≡ false
unfolding hex_of
digits_none [] = refl
digits_none (x ∷ l) = rw (digit_high (x / 16), digit_high (x % 16)) (digits_none l)

hex_quoted : (l : List ℕ) (n : ℕ) → length l ≡ n → length (string_json (hex_of l)) ≡ n + n + 2
hex_quoted l n q = omega (arith, plain_length (hex_of l) (escape-hex l) (digits_none l), hex_length_lem l)

-- ---- an event's object is 253 bytes longer than its text, as that stands in a reply
pub object_length : (i s : List ℕ) (e : Event) → length (string_json i) ≡ 66 → length e.pubkey ≡ 64 → has_control e.pubkey ≡ false → length (string_json e.pubkey) ≡ 66
    → length (string_json s) ≡ 130 → length (object_text i e s) ≡ length (json_of (serialise e)) + 253
unfolding object_text tags_json
object_length i s e a b n c d =
    simp length-append
    (omega (arith, form_serialise true e, ap length (json_same e.pubkey n), string_length e.content))

-- an EVENT is 266 bytes longer than its text and the subscription id
pub event_length : (sub i s : List ℕ) (e : Event) → length (string_json i) ≡ 66 → length e.pubkey ≡ 64 → has_control e.pubkey ≡ false → length (string_json e.pubkey) ≡ 66
    → length (string_json s) ≡ 130 → length (reply_text (event sub i e s)) ≡ length (json_of (serialise e)) + length (string_json sub) + 264
unfolding reply_text
event_length sub i s e a b n c d = simp length-append (omega (arith, object_length i s e a b n c d))

-- of an event within the limits
pub fit_event_length : (sub i s : List ℕ) (e : Event) → is_pubkey e.pubkey ≡ true → length (string_json i) ≡ 66 → length (string_json s) ≡ 130
    → length (reply_text (event sub i e s)) ≡ length (json_of (serialise e)) + length (json_of (escape sub)) + 266
fit_event_length sub i s e k a d =
    let h = pubkey_hex e.pubkey k in
    let l = pubkey_length e.pubkey k in
    let n = hex_none e.pubkey h in
    omega (arith, event_length sub i s e a l n (omega (arith, plain_length e.pubkey (hex_escape e.pubkey h) n)) d, string_length sub)

-- ---- and of a text that may be 4,096 bytes long, at most 4,016 are control characters
members_count : {A : Type 0} (print : A → List ℕ) (xs : List A) → control_count (members_text print xs) + 1 ≤ length (members_text print xs)
unfolding members_text
members_count print [] = omega (arith, count_none (93 ∷ []) refl)
members_count print (x ∷ []) = omega (arith, count_append (print x) (93 ∷ []), count_none (93 ∷ []) refl, count_most (print x), length-append (print x) (93 ∷ []))
members_count print (x ∷ y ∷ ys) =
    omega (
      arith,
      count_append (print x) (44 ∷ members_text print (y ∷ ys)),
      count_cons 44 (members_text print (y ∷ ys)),
      count_none (44 ∷ []) refl,
      count_most (print x),
      length-append (print x) (44 ∷ members_text print (y ∷ ys)),
      members_count print (y ∷ ys),
    )

tags_count : (ts : List Tag) → control_count (tags_text ts) + 2 ≤ length (tags_text ts)
unfolding tags_text
tags_count ts = omega (arith, count_cons 91 (members_text tag_text ts), count_none (91 ∷ []) refl, members_count tag_text ts)

some_decimal : (z : ℤ) → 1 ≤ length (decimal z)
unfolding decimal
some_decimal (pos n) = some_digit n
some_decimal (negsuc n) = omega arith

pub text_json : (e : Event) → is_fit e ≡ true → length (serialise e) ≤ most_text → length (json_of (serialise e)) ≤ 24176
text_json e h l =
    let k = (limits_of e h).pubkey in
    omega (
      arith,
      json_length (serialise e),
      count_serialise e,
      count_none e.pubkey (hex_none e.pubkey (pubkey_hex e.pubkey k)),
      tags_count e.tags,
      count_most (escape e.content),
      fit_length e h,
      some_decimal e.time,
      some_digit e.kind,
    )

module _ (b : List ℕ) (k : ℕ) (s : sound b ≡ true) (h : k < count_of b) where
  pub slot_length : (sub : List ℕ) → length (slot_text b sub k) ≡ length (json_of (text_in (slot_at b k))) + length (json_of (escape sub)) + 266
  unfolding id_in sig_in
  slot_length sub =
      let (e, r, t, l) = slot_text_is b sub k s h in
      let a = read_same (text_in (slot_at b k)) e r in
      let z = slot_size_lem b s k h in
      let i = hex_quoted (id_in (slot_at b k)) 32 (part_length (slot_at b k) 0 32 (omega arith)) in
      let g = hex_quoted (sig_in (slot_at b k)) 64 (part_length (slot_at b k) 32 64 (omega arith)) in
      ap length t
      ∙ fit_event_length sub (hex_of (id_in (slot_at b k))) (hex_of (sig_in (slot_at b k))) e (limits_of e a.fit).pubkey i g
      ∙ omega (arith, ap (λ l. length (json_of l)) a.same)

  pub line_length : (sub : List ℕ) → length (slot_line b sub k) ≡ length (json_of (text_in (slot_at b k))) + length (json_of (escape sub)) + 267
  line_length sub =
      let (e, r, t, l) = slot_text_is b sub k s h in
      ap length l ∙ length-append (slot_text b sub k) (0x0a ∷ []) ∙ omega (arith, slot_length sub)

  pub held_json : length (json_of (text_in (slot_at b k))) ≤ 24176
  held_json =
      let (e, r, t, l) = slot_text_is b [] k s h in
      let a = read_same (text_in (slot_at b k)) e r in
      rw (← a.same) (text_json e a.fit (omega (arith, a.small, ap length a.same)))

-- ---- a string of at most 64 characters has at most 384 bytes in a reply
module _ (x : ℕ) (t : List ℕ) where
  byte_json : length (json_of (escape (x ∷ t))) ≡ length (esc_one x) + 5 * control_count (x ∷ []) + length (json_of (escape t))
  unfolding escape
  byte_json =
      omega (
        arith,
        ap length (json_append (esc_one x) (escape t)),
        length-append (json_of (esc_one x)) (json_of (escape t)),
        json_length (esc_one x),
        count_esc_one x,
      )

  high_byte : 0x80 ≤ x → length (json_of (escape (x ∷ t))) ≡ suc (length (json_of (escape t)))
  high_byte h = omega (arith, byte_json, ap length (escape_none x (omega arith) (λ e. omega arith)), count_none (x ∷ []) (rw (control_high x (omega arith))))

  low_byte : length (json_of (escape (x ∷ t))) ≤ 6 + length (json_of (escape t))
  low_byte = go (is_control x) refl
    where
      go : (c : Bool) → is_control x ≡ c → length (json_of (escape (x ∷ t))) ≤ 6 + length (json_of (escape t))
      go true e = omega (arith, byte_json, ap length (own_escape x e), count_one x)
      go false e = omega (arith, byte_json, esc_two x, count_none (x ∷ []) (rw e))

  low_point : x ≤ 0x7f → points (x ∷ t) ≡ suc (points t)
  unfolding points
  low_point h = rw (lt-leb 0x80 x (omega arith))

  lead_point : 0xc0 ≤ x → points (x ∷ t) ≡ suc (points t)
  unfolding points
  lead_point h = rw (le-leb 0x80 x (omega arith), lt-leb x 0xbf (omega arith))

  tail_point : 0x80 ≤ x → x ≤ 0xbf → points (x ∷ t) ≡ points t
  unfolding points
  tail_point h k = rw (le-leb 0x80 x h, le-leb x 0xbf k)

-- a lead, and what is added by the tails behind it
abbrev Short : List ℕ → Type 0
Short s = length (json_of (escape s)) ≤ 6 * points s

two : (a b : ℕ) (s : List ℕ) → 0xc0 ≤ a → 0x80 ≤ b → b ≤ 0xbf → Short s → Short (a ∷ b ∷ s)
two a b s h l m i = omega (arith, high_byte a (b ∷ s) (omega arith), high_byte b s l, lead_point a (b ∷ s) h, tail_point b s l m)

three : (a b c : ℕ) (s : List ℕ) → 0xc0 ≤ a → 0x80 ≤ b → b ≤ 0xbf → 0x80 ≤ c → c ≤ 0xbf → Short s → Short (a ∷ b ∷ c ∷ s)
three a b c s h l m n o i =
    omega (
      arith,
      high_byte a (b ∷ c ∷ s) (omega arith),
      high_byte b (c ∷ s) l,
      high_byte c s n,
      lead_point a (b ∷ c ∷ s) h,
      tail_point b (c ∷ s) l m,
      tail_point c s n o,
    )

four : (a b c d : ℕ) (s : List ℕ) → 0xc0 ≤ a → 0x80 ≤ b → b ≤ 0xbf → 0x80 ≤ c → c ≤ 0xbf → 0x80 ≤ d → d ≤ 0xbf → Short s → Short (a ∷ b ∷ c ∷ d ∷ s)
four a b c d s h l m n o p q i =
    omega (
      arith,
      high_byte a (b ∷ c ∷ d ∷ s) (omega arith),
      high_byte b (c ∷ d ∷ s) l,
      high_byte c (d ∷ s) n,
      high_byte d s p,
      lead_point a (b ∷ c ∷ d ∷ s) h,
      tail_point b (c ∷ d ∷ s) l m,
      tail_point c (d ∷ s) n o,
      tail_point d s p q,
    )

octets_short : {s : List ℕ} → Octets s → Short s
unfolding escape json_of points
octets_short none = omega arith
octets_short (utf8_1 {a = a} {s = s} r o) = omega (arith, low_byte a s, low_point a s r.high, octets_short o)
octets_short (utf8_2 {a = a} {b = b} {s = s} r p o) = let h = r.low in two a b s (omega arith) p.low p.high (octets_short o)
octets_short (utf8_3_e0 {b = b} {c = c} {s = s} r p o) =
    let h = r.low in
    three 0xe0 b c s (omega arith) (omega arith) r.high p.low p.high (octets_short o)
octets_short (utf8_3_e1 {a = a} {b = b} {c = c} {s = s} r p q o) =
    let h = r.low in
    three a b c s (omega arith) p.low p.high q.low q.high (octets_short o)
octets_short (utf8_3_ed {b = b} {c = c} {s = s} r p o) =
    let h = r.high in
    three 0xed b c s (omega arith) r.low (omega arith) p.low p.high (octets_short o)
octets_short (utf8_3_ee {a = a} {b = b} {c = c} {s = s} r p q o) =
    let h = r.low in
    three a b c s (omega arith) p.low p.high q.low q.high (octets_short o)
octets_short (utf8_4_f0 {b = b} {c = c} {d = d} {s = s} r p q o) =
    let h = r.low in
    four 0xf0 b c d s (omega arith) (omega arith) r.high p.low p.high q.low q.high (octets_short o)
octets_short (utf8_4_f1 {a = a} {b = b} {c = c} {d = d} {s = s} r p q t o) =
    let h = r.low in
    four a b c d s (omega arith) p.low p.high q.low q.high t.low t.high (octets_short o)
octets_short (utf8_4_f4 {b = b} {c = c} {d = d} {s = s} r p q o) =
    let h = r.high in
    four 0xf4 b c d s (omega arith) r.low (omega arith) p.low p.high q.low q.high (octets_short o)

pub spelled_short : (l : List ℕ) → is_utf8 l ≡ true → is_spelling l ≡ true → refuses l ≡ false → length (json_of (escape (decode l))) ≤ 6 * character_count l
unfolding is_string_bytes character_count
spelled_short l u s r = octets_short ((as_in_abnf (decode l)).0 (decoded_string l u s r))

-- 64 characters of hex
pub hex_short : (l : List ℕ) → is_hex_of hex_length l ≡ true → length (string_json (decode l)) ≡ 66
unfolding is_hex_of
hex_short l h =
    let (n, a) = both (eqb (length (decode l)) hex_length) _ h in
    omega (arith, plain_length (decode l) (hex_escape (decode l) a) (hex_none (decode l) a), eqb-true (length (decode l)) hex_length n)
