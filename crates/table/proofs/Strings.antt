-- A string as the text spells it, between quotes, is a JSON string that decodes to itself: its escapes are characters
-- of RFC 8259, a byte at a time by the view `Seven`.
use Rattle.std.specs.Prelude.{Some}
use mathlib.Core.Bool.{Bool, true, false, cond, or-true}
use mathlib.Core.Path.{◌≡◌, refl, sym, ap, ◌∙◌}
use mathlib.Core.List.{List, [], ◌∷◌, ◌++◌}
use Prim.Native.Nat.{ℕ, suc, ◌+◌, ◌-◌, ◌≤◌, ◌<◌}
use native.Mathlib.Decide.{dec_lt}
use native.Mathlib.Omega.{arith}
use borrow.Author.Tests.{le-leb, lt-leb, eq-eqb, eqb-false}
use lib.Dec.{eqb}
use lib.ListN.{length, get_or, length-append}
use lib.Seq.{take-append_seam}
use Rattle.wire.specs.Bytes.{is_control}
use Rattle.wire.specs.Escape.{letter_of, esc_one, escape}
use Rattle.wire.proofs.Escapes.{allowed_escaped}
use Rattle.json_tree.specs.Grammar.{is_unescaped, in_class, one_at, chars_at, is_spelling, string_at, ws_at}
use Rattle.json_tree.specs.Tree.{str, got, tree_at}
use Rattle.json_tree.specs.declared.Class.TheVariants.{Plain, Short, Byte, Space}
use Rattle.json_tree.proofs.Bytes.{past_none}
use Rattle.json_tree.proofs.Ends.{one_of, char_quote, chars_none, chars_past}
use Rattle.json_tree.proofs.Spelled.{Char, plain, short, Chars, stop, more, chars_taken}
use Rattle.rows.specs.Strings.{part}
use Rattle.spell.specs.Spell.{decode}
use Rattle.spell.proofs.Laws.{decode_escape}
use Rattle.text.specs.Event.{quoted}
use Rattle.text.proofs.Pieces.{Spelt, left, right, tail, byte_is, spelt_inside, all_of}
use Rattle.text.proofs.Strings.{Seven, bs, tab, lf, ff, cr, quote, slash, other, seven}
use Rattle.event.proofs.Strings.{string_tree}

-- ---- a byte that stands as it is
high_class : (b : ℕ) → 0x20 ≤ b → (b ≡ 34 → ⊥) → (b ≡ 92 → ⊥) → in_class Plain b ≡ true
unfolding in_class
high_class b h p q = elim (dec_lt b 34) [
  | yes l ↦ rw (le-leb 0x20 b h, le-leb b 0x21 (omega arith))
  | no l ↦ elim (dec_lt b 92) [
    | yes k ↦ rw (le-leb 0x20 b h, lt-leb b 0x21 (omega arith), le-leb 0x23 b (omega arith), le-leb b 0x5B (omega arith))
    | no k ↦ rw (le-leb 0x20 b h, lt-leb b 0x21 (omega arith), le-leb 0x23 b (omega arith), lt-leb b 0x5B (omega arith), le-leb 0x5D b (omega arith))
  ]
]

control_class : (b : ℕ) → is_control b ≡ true → in_class Plain b ≡ true
unfolding in_class
control_class b e = rw e (or-true (is_unescaped b))

pub plain_class : (b : ℕ) → 0 ≡ letter_of b → (b ≡ 34 → ⊥) → (b ≡ 92 → ⊥) → in_class Plain b ≡ true
plain_class b z p q = elim (dec_lt b 0x20) [
  | yes h ↦ control (is_control b) refl h
  | no h ↦ high_class b (omega arith) p q
]
  where
    control : (t : Bool) → is_control b ≡ t → b < 0x20 → in_class Plain b ≡ true
    control true e h = control_class b e
    control false e h = absurd (eqb-false (letter_of b) 0 (allowed_escaped b h e) (sym z))

module _ (s : List ℕ) where
  -- ---- no white space stands at n
  pub ws_none : (n : ℕ) → in_class Space (get_or s n 0) ≡ false → ws_at s n ≡ n
  ws_none n e = past_none Space s n e

  -- ---- the characters of an escaped string
  lettered : (k i n : ℕ) → in_class Short k ≡ true → Spelt s i (92 ∷ k ∷ []) n → Char s i n
  unfolding in_class
  lettered k i n h a =
      let e = one_of s (Byte 0x5C) i (eq-eqb (get_or s i 0) 92 (byte_is a)) in
      let z : i + 1 + 1 ≡ n = omega (arith, a.end) in
      short e (one_of s Short (i + 1) (rw (byte_is (tail a)) h) ∙ ap Some z)

  one_char : (b k i n : ℕ) → Seven b k → k ≡ letter_of b → Spelt s i (cond (eqb k 0) (b ∷ []) (92 ∷ k ∷ [])) n → Char s i n
  unfolding in_class
  one_char b k i n bs z a = lettered 98 i n refl a
  one_char b k i n tab z a = lettered 116 i n refl a
  one_char b k i n lf z a = lettered 110 i n refl a
  one_char b k i n ff z a = lettered 102 i n refl a
  one_char b k i n cr z a = lettered 114 i n refl a
  one_char b k i n quote z a = lettered 34 i n refl a
  one_char b k i n slash z a = lettered 92 i n refl a
  one_char b k i n (other p q) z a =
      let y : i + 1 ≡ n = omega (arith, a.end) in
      let h : i < length s = omega (arith, spelt_inside s i (b ∷ []) n a (omega arith)) in
      plain h (one_of s Plain i (rw (byte_is a) (plain_class b z p q)) ∙ ap Some y)

  pub escaped_char : (b i n : ℕ) → Spelt s i (esc_one b) n → Char s i n
  unfolding esc_one
  escaped_char b i n a = one_char b (letter_of b) i n (seven b) refl a

  escape_chars : (v : List ℕ) (i n : ℕ) → Spelt s i (escape v) n → Chars s i n
  unfolding escape
  escape_chars [] i n a = let z : i ≡ n = omega (arith, a.end) in rw (← z) stop
  escape_chars (b ∷ v) i n a =
      more (escaped_char b i (i + length (esc_one b)) (left (esc_one b) (escape v) a)) (escape_chars v (i + length (esc_one b)) n (right (esc_one b) (escape v) a))

  -- ---- with its quotes
  pub chars_between : (w : List ℕ) (at n : ℕ) → ((i k : ℕ) → Spelt s i w k → Chars s i k) → Spelt s at (34 ∷ (w ++ (34 ∷ []))) n → string_at s at ≡ Some n
  unfolding string_at in_class one_at
  chars_between w at n f a =
      let m = at + 1 + length w in
      let c = left w (34 ∷ []) (tail a) in
      let d = right w (34 ∷ []) (tail a) in
      let q = byte_is d in
      let z : m + 1 ≡ n = omega (arith, d.end) in
      let e : chars_at s (at + 1) ≡ m = sym (chars_taken s (at + 1) m (f (at + 1) m c)) ∙ chars_none s m (char_quote s m q) in
      rw (byte_is a, e, q) (ap Some z)

  pub string_here : (v : List ℕ) (at n : ℕ) → Spelt s at (quoted v) n → string_at s at ≡ Some n
  unfolding quoted
  string_here v at n a = chars_between (escape v) at n (escape_chars v) a

  -- its place in the tree, and what it says
  pub string_read : (d : ℕ) (v : List ℕ) (at n : ℕ) → Spelt s at (quoted v) n → in_class Space (get_or s n 0) ≡ false
      → tree_at s (suc d) at ≡ got (str (at + 1) (n - at - 2)) n
  string_read d v at n a w = string_tree s at d n (string_here v at n a) ∙ ap (got (str (at + 1) (n - at - 2))) (ws_none n w)

  pub string_says : (v : List ℕ) (at n : ℕ) → Spelt s at (quoted v) n → decode (part s (at + 1) (n - at - 2)) ≡ v
  unfolding quoted
  string_says v at n a =
      let b = left (escape v) (34 ∷ []) (tail a) in
      let z : n - at - 2 ≡ length (escape v) = omega (arith, a.end, length-append (escape v) (34 ∷ [])) in
      rw (z, b.is, take-append_seam (escape v)) (decode_escape v)

-- what is escaped is a spelling
pub escape_spelling : (v : List ℕ) → is_spelling (escape v) ≡ true
escape_spelling v =
    let l = escape v in
    eq-eqb _ _ (sym (chars_taken l 0 (length l) (escape_chars l v 0 (length l) (all_of l l refl))) ∙ chars_past l (length l) (omega arith))
