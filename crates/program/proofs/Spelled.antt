-- A string and the tags, as a reply spells them, are read as JSON and say what they are: each byte is one character, as
-- in the text or, a control character, as \u00 and its two digits.
use Rattle.std.specs.Prelude.{Some}
use mathlib.Core.Bool.{Bool, true, false, cond}
use mathlib.Core.Path.{◌≡◌, refl, sym, ap, ◌∙◌}
use mathlib.Core.List.{List, [], ◌∷◌, ◌++◌}
use Prim.Native.Nat.{ℕ, suc, ◌+◌, ◌-◌, ◌/◌, ◌%◌, ◌<◌}
use native.Mathlib.Omega.{arith}
use borrow.Author.Tests.{eq-eqb, ltb-true, ltb-false, lt-ltb, le-ltb, le-leb, lt-leb}
use lib.Dec.{eqb, ltb}
use lib.ListN.{length, get_or, drop, length-append}
use lib.Seq.{take-append_seam}
use Rattle.wire.specs.Ascii.{ascii}
use Rattle.wire.specs.Bytes.{is_control, hex_digit}
use Rattle.wire.specs.Escape.{letter_of, esc_one, escape, json_one, json_of}
use Rattle.wire.proofs.Json.{json_append, json_one_lem, json_kept, json_spelled, json_escaped, own_escape, control_low}
use Rattle.utf8.specs.Utf8.{utf8_from, is_utf8, next_want}
use Rattle.utf8.specs.declared.Want.{Want}
use Rattle.utf8.specs.declared.Want.TheVariants.{Lead}
use Rattle.utf8.proofs.States.{Reached, lead_reached, next_reached, low_lead, lead_low}
use Rattle.json_tree.specs.Grammar.{in_class, is_spelling, string_at}
use Rattle.json_tree.specs.Tree.{str, got, tree_at}
use Rattle.json_tree.specs.declared.Class.TheVariants.{Hex, Byte}
use Rattle.json_tree.proofs.Ends.{one_of, chars_past}
use Rattle.json_tree.proofs.Spelled.{Char, code, Chars, stop, more, chars_taken}
use Rattle.rows.specs.Strings.{part}
use Rattle.spell.specs.Spell.{hex_val, four, four_at, is_pair, short_of, chars_from, utf8_of, char_bytes, chars_bytes, decode}
use Rattle.spell.proofs.Laws.{decode_raw, decode_short}
use Rattle.shape.specs.Shape as shape
use Rattle.text.specs.Event.{Tag, quoted, members_text, tags_text, is_string_bytes, is_tags}
use Rattle.text.proofs.Pieces.{Spelt, left, right, tail, byte_is, spelt_inside, all_of}
use Rattle.text.proofs.Strings.{Seven, bs, tab, lf, ff, cr, quote, slash, other, seven, utf8_escape}
use Rattle.message.specs.Lent.{is_inside, value2, value5}
use Rattle.message.specs.Lent as lent
use Rattle.event.specs.Lent.{string_of, tags_in, lent_tags_at}
use Rattle.event.proofs.Decoded.{chars_one, decode_more}
use Rattle.event.proofs.Forms.{form_quoted}
use Rattle.event.proofs.Strings.{string_tree}
use Rattle.table.specs.Demand3.{Spells, SpellsTags}
use Rattle.table.proofs.Strings.{ws_none, escaped_char, chars_between}
use Rattle.table.proofs.Arrays.{Tight, Stands, Begins, tags_by, tags_json_lem, quoted_utf8, tags_utf8}
use Rattle.reply.specs.Replies.{string_json, tags_json}

-- ---- the digits of a control character
hex_class : (d : ℕ) → d < 16 → in_class Hex (hex_digit d) ≡ true
unfolding in_class
hex_class d h = go (ltb d 10) refl
  where
    go : (t : Bool) → ltb d 10 ≡ t → in_class Hex (cond t (0x30 + d) (0x57 + d)) ≡ true
    go true e = let k = ltb-true d 10 e in rw (le-leb 0x30 (0x30 + d) (omega arith), le-leb (0x30 + d) 0x39 (omega arith))
    go false e =
        let k = ltb-false d 10 e in
        rw (
          le-leb 0x30 (0x57 + d) (omega arith),
          lt-leb (0x57 + d) 0x39 (omega arith),
          le-leb 0x41 (0x57 + d) (omega arith),
          lt-leb (0x57 + d) 0x46 (omega arith),
          le-leb 0x61 (0x57 + d) (omega arith),
          le-leb (0x57 + d) 0x66 (omega arith),
        )

hex_low : (d : ℕ) → d < 16 → hex_digit d < 0x80
hex_low d h = go (ltb d 10)
  where
    go : (t : Bool) → cond t (0x30 + d) (0x57 + d) < 0x80
    go true = omega arith
    go false = omega arith

hex_val_lem : (d : ℕ) → d < 16 → hex_val (hex_digit d) ≡ d
unfolding hex_val
hex_val_lem d h = go (ltb d 10) refl
  where
    go : (t : Bool) → ltb d 10 ≡ t → hex_val (cond t (0x30 + d) (0x57 + d)) ≡ d
    go true e = let k = ltb-true d 10 e in rw (le-ltb (0x30 + d) 0x30 (omega arith), le-leb (0x30 + d) 0x39 (omega arith)) (omega arith)
    go false e =
        let k = ltb-false d 10 e in
        rw (
          le-ltb (0x57 + d) 0x30 (omega arith),
          lt-leb (0x57 + d) 0x39 (omega arith),
          le-ltb (0x57 + d) 0x41 (omega arith),
          lt-leb (0x57 + d) 0x46 (omega arith),
          le-ltb (0x57 + d) 0x61 (omega arith),
          le-leb (0x57 + d) 0x66 (omega arith),
        ) (omega arith)

-- ---- what is spelled decodes to what was said
module _ (l : List ℕ) where
  decode_letter : (b k : ℕ) → Seven b k → decode (cond (eqb k 0) (b ∷ []) (92 ∷ k ∷ []) ++ l) ≡ b ∷ decode l
  unfolding short_of
  decode_letter b k bs = decode_short 98 l (λ q. omega arith)
  decode_letter b k tab = decode_short 116 l (λ q. omega arith)
  decode_letter b k lf = decode_short 110 l (λ q. omega arith)
  decode_letter b k ff = decode_short 102 l (λ q. omega arith)
  decode_letter b k cr = decode_short 114 l (λ q. omega arith)
  decode_letter b k quote = decode_short 34 l (λ q. omega arith)
  decode_letter b k slash = decode_short 92 l (λ q. omega arith)
  decode_letter b k (other p q) = decode_raw b l q

  decode_escaped : (b : ℕ) → decode (esc_one b ++ l) ≡ b ∷ decode l
  unfolding esc_one
  decode_escaped b = decode_letter b (letter_of b) (seven b)

  -- a number below 20 is no surrogate
  decode_spelled : (b : ℕ) → b < 0x20 → decode (ascii "\\u00" ++ (hex_digit (b / 16) ∷ hex_digit (b % 16) ∷ l)) ≡ b ∷ decode l
  unfolding four is_pair char_bytes utf8_of
  decode_spelled b h =
      let x = hex_digit (b / 16) in
      let y = hex_digit (b % 16) in
      let z : hex_val 0x30 ≡ 0 = hex_val_lem 0 (omega arith) in
      let u : four 0x30 0x30 x y ≡ b = rw (z, hex_val_lem (b / 16) (omega arith), hex_val_lem (b % 16) (omega arith)) (omega arith) in
      let p : is_pair (four 0x30 0x30 x y) (get_or l 0 0) (get_or l 1 0) (four_at l 2) ≡ false = rw (u, lt-leb 0xd800 b (omega arith)) in
      decode_more _ l (chars_one 0x30 0x30 x y l p) ∙ rw (u, lt-ltb b 0x80 (omega arith))

  decode_one : (b : ℕ) → decode (json_of (esc_one b) ++ l) ≡ b ∷ decode l
  decode_one b = go (is_control b) refl
    where
      go : (t : Bool) → is_control b ≡ t → decode (json_of (esc_one b) ++ l) ≡ b ∷ decode l
      go true e = rw (own_escape b e, json_one_lem b, json_spelled b e) (decode_spelled b (control_low b e))
      go false e = rw (json_escaped b e) (decode_escaped b)

pub decode_json : (v : List ℕ) → decode (json_of (escape v)) ≡ v
unfolding escape json_of decode chars_bytes chars_from
decode_json [] = refl
decode_json (b ∷ v) = ap decode (json_append (esc_one b) (escape v)) ∙ decode_one (json_of (escape v)) b ∙ ap (λ (t : List ℕ). b ∷ t) (decode_json v)

-- ---- UTF-8 stays: a byte below 80 becomes bytes below 80
six_utf8 : (a b : ℕ) (l : List ℕ) → a < 0x80 → b < 0x80 → utf8_from Lead l ≡ true → utf8_from Lead (ascii "\\u00" ++ (a ∷ b ∷ l)) ≡ true
six_utf8 a b l p q e =
    lead_low 92 _ (omega arith) (lead_low 117 _ (omega arith) (lead_low 48 _ (omega arith) (lead_low 48 _ (omega arith) (lead_low a _ p (lead_low b l q e)))))

json_utf8 : (l : List ℕ) (w : Want) → Reached w → utf8_from w l ≡ true → utf8_from w (json_of l) ≡ true
unfolding json_of utf8_from
json_utf8 [] w r e = e
json_utf8 (x ∷ l) w r e = go (is_control x) refl (json_utf8 l Lead lead_reached) (λ f. json_utf8 l (next_want w x) (next_reached w x r) f)
  where
    go : (t : Bool) → is_control x ≡ t → (utf8_from Lead l ≡ true → utf8_from Lead (json_of l) ≡ true)
        → (utf8_from (next_want w x) l ≡ true → utf8_from (next_want w x) (json_of l) ≡ true) → utf8_from w (json_one x ++ json_of l) ≡ true
    go true q i j =
        let h = control_low x q in
        let (z, f) = low_lead w x l r (omega arith) e in
        rw (z, json_spelled x q)
        (six_utf8 (hex_digit (x / 16)) (hex_digit (x % 16)) (json_of l) (hex_low (x / 16) (omega arith)) (hex_low (x % 16) (omega arith)) (i f))
    go false q i j = rw (json_kept x q) (j e)

pub utf8_string : (v : List ℕ) → is_string_bytes v ≡ true → utf8_from Lead (string_json v) ≡ true
unfolding string_json
utf8_string v h = json_utf8 (quoted v) Lead lead_reached (quoted_utf8 v h)

pub utf8_tags : (ts : List Tag) → is_tags ts ≡ true → is_utf8 (tags_json ts) ≡ true
unfolding tags_json is_utf8
utf8_tags ts h = json_utf8 (tags_text ts) Lead lead_reached (tags_utf8 ts h)

-- ---- a string between its quotes
string_is : (v : List ℕ) → string_json v ≡ 34 ∷ (json_of (escape v) ++ (34 ∷ []))
unfolding string_json
string_is v = form_quoted true v

string_begins : (v : List ℕ) → Begins (string_json v)
unfolding in_class
string_begins v = record { first = 34; rest = json_of (escape v) ++ (34 ∷ []); is = string_is v; dark = refl; opens = refl }

module _ (s : List ℕ) where
  -- its characters
  spelled_char : (b i n : ℕ) → b < 0x20 → Spelt s i (ascii "\\u00" ++ (hex_digit (b / 16) ∷ hex_digit (b % 16) ∷ [])) n → Char s i n
  unfolding in_class
  spelled_char b i n h a =
      let u = tail a in
      let p = tail u in
      let q = tail p in
      let x = tail q in
      let y = tail x in
      let z : i + 1 + 1 + 1 + 1 + 1 + 1 ≡ n = omega (arith, y.end) in
      code (one_of s (Byte 0x5C) i (rw (byte_is a))) (one_of s (Byte 0x75) (i + 1) (rw (byte_is u)))
      (one_of s Hex (i + 1 + 1) (rw (byte_is p))) (one_of s Hex (i + 1 + 1 + 1) (rw (byte_is q)))
      (one_of s Hex (i + 1 + 1 + 1 + 1) (rw (byte_is x) (hex_class (b / 16) (omega arith))))
      (one_of s Hex (i + 1 + 1 + 1 + 1 + 1) (rw (byte_is y) (hex_class (b % 16) (omega arith))) ∙ ap Some z)

  json_char : (b i n : ℕ) → Spelt s i (json_of (esc_one b)) n → Char s i n
  json_char b i n a = go (is_control b) refl
    where
      go : (t : Bool) → is_control b ≡ t → Char s i n
      go true e = spelled_char b i n (control_low b e) (rw (own_escape b e, json_one_lem b, json_spelled b e) at a)
      go false e = escaped_char s b i n (rw (json_escaped b e) at a)

  pub json_chars : (v : List ℕ) (i n : ℕ) → Spelt s i (json_of (escape v)) n → Chars s i n
  unfolding escape json_of
  json_chars [] i n a = let z : i ≡ n = omega (arith, a.end) in rw (← z) stop
  json_chars (b ∷ v) i n a =
      let p = json_of (esc_one b) in
      let c : Spelt s i (p ++ json_of (escape v)) n = rw (json_append (esc_one b) (escape v)) at a in
      more (json_char b i (i + length p) (left p (json_of (escape v)) c)) (json_chars v (i + length p) n (right p (json_of (escape v)) c))

  between : (v : List ℕ) (at n : ℕ) → Spelt s at (string_json v) n → Spelt s at (34 ∷ (json_of (escape v) ++ (34 ∷ []))) n
  between v at n a = rw (string_is v) at a

  pub string_tight : (v : List ℕ) (at n : ℕ) → Spelt s at (string_json v) n → Tight s at
  unfolding in_class
  string_tight v at n a = rw (byte_is (between v at n a))

  pub string_here : (v : List ℕ) (at n : ℕ) → Spelt s at (string_json v) n → string_at s at ≡ Some n
  string_here v at n a = chars_between s (json_of (escape v)) at n (json_chars v) (between v at n a)

  -- its place in the tree, and what it says
  pub string_read : (d : ℕ) (v : List ℕ) (at n : ℕ) → Spelt s at (string_json v) n → Tight s n → tree_at s (suc d) at ≡ got (str (at + 1) (n - at - 2)) n
  string_read d v at n a w = string_tree s at d n (string_here v at n a) ∙ ap (got (str (at + 1) (n - at - 2))) (ws_none s n w)

  inner : (v : List ℕ) (at n : ℕ) → Spelt s at (string_json v) n → part s (at + 1) (n - at - 2) ≡ json_of (escape v)
  inner v at n a =
      let b = between v at n a in
      let c = left (json_of (escape v)) (34 ∷ []) (tail b) in
      let z : n - at - 2 ≡ length (json_of (escape v)) = omega (arith, b.end, length-append (json_of (escape v)) (34 ∷ [])) in
      rw (z, c.is, take-append_seam (json_of (escape v)))

  pub string_says : (v : List ℕ) (at n : ℕ) → Spelt s at (string_json v) n → decode (part s (at + 1) (n - at - 2)) ≡ v
  string_says v at n a = rw (inner v at n a) (decode_json v)

-- what stands between the quotes is a spelling
json_spelling : (v : List ℕ) → is_spelling (json_of (escape v)) ≡ true
json_spelling v =
    let l = json_of (escape v) in
    eq-eqb _ _ (sym (chars_taken l 0 (length l) (json_chars l v 0 (length l) (all_of l l refl))) ∙ chars_past l (length l) (omega arith))

-- as a part
pub string_told : (s v : List ℕ) (at n : ℕ) → is_string_bytes v ≡ true → Spelt s at (string_json v) n
    → Spells s (record { start = at + 1; len = n - at - 2 }) v
unfolding is_string_bytes is_utf8 is_inside
string_told s v at n h a =
    let b = between s v at n a in
    let y = inner s v at n a in
    let l = spelt_inside s at _ n b (omega arith) in
    record {
      inside = le-leb (at + 1 + (n - at - 2)) (length s) (omega (arith, b.end, length-append (json_of (escape v)) (34 ∷ [])));
      utf8 = rw y (json_utf8 (escape v) Lead lead_reached (utf8_escape v ∙ h));
      spelling = rw y (json_spelling v);
      says = string_says s v at n a;
    }

-- ---- the tags
module _ (s : List ℕ) where
  tags_are : (ts : List Tag) (at n : ℕ) → Spelt s at (tags_json ts) n → Spelt s at (91 ∷ members_text (λ t. 91 ∷ members_text string_json t) ts) n
  unfolding tags_json string_json
  tags_are ts at n a = rw (tags_json_lem ts) at a

  pub tags_tight : (ts : List Tag) (at n : ℕ) → Spelt s at (tags_json ts) n → Tight s at
  unfolding in_class
  tags_tight ts at n a = rw (byte_is (tags_are ts at n a))

  string_stands : (d : ℕ) (v : List ℕ) (at n : ℕ) → is_string_bytes v ≡ true → Spelt s at (string_json v) n → Tight s n
      → Stands (tree_at s (suc d)) (string_of s) shape.is_string at v n
  string_stands d v at n h a w = record { tree = _; there = string_read s d v at n a w; means = string_says s v at n a; fine = refl }

  pub tags_read : (d : ℕ) (ts : List Tag) (at n : ℕ) → is_tags ts ≡ true → Spelt s at (tags_json ts) n → Tight s n
      → Stands (tree_at s (suc (suc (suc d)))) (λ t. tags_in s (got t n)) lent.is_tags_shape at ts n
  tags_read d ts at n h a w = tags_by string_json string_begins s d (string_stands d) ts at n h (tags_are ts at n a) w

  -- and a comma after them
  pub tags_spelled : (ts : List Tag) (at n : ℕ) → is_tags ts ≡ true → Spelt s at (tags_json ts) n → get_or s n 0 ≡ 44 → SpellsTags s at ts
  unfolding value2 value5 lent_tags_at in_class
  tags_spelled ts at n h a c =
      let r = tags_read 5 ts at n h a (rw c) in
      let z : n - at ≡ length (tags_json ts) = omega (arith, a.end) in
      let y : part s at (n - at) ≡ tags_json ts = rw (z, a.is) (take-append_seam (tags_json ts) (drop n s)) in
      record { utf8 = rw (r.there, y, utf8_tags ts h); array = rw (r.there, r.fine); says = rw r.there r.means }
