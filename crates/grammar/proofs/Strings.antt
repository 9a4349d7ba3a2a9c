-- Strings: json_tree's characters are the rule's, one for one, where no control character stands.
use Rattle.std.specs.Prelude.{Some}
use mathlib.Core.Path.{◌≡◌, refl, sym, ap, ◌∙◌}
use mathlib.Core.Logic.{inl, inr}
use mathlib.Core.List.{List}
use mathlib.Core.Bool.{Bool, true, false, ◌||◌}
use Prim.Native.Nat.{ℕ, ◌+◌}
use native.Mathlib.Omega.{arith}
use lib.ListN.{length, get_or}
use Rattle.json_tree.specs.Grammar.{is_unescaped, in_class, one_at, chars_at, string_at}
use Rattle.json_tree.specs.declared.Class.TheVariants.{Plain, Hex, Short, Byte}
use Rattle.wire.specs.Bytes.{is_control}
use Rattle.json_tree.proofs.Ends.{one_is, one_of, byte_is, char_quote, chars_none}
use Rattle.json_tree.proofs.Spelled.{Char, plain, short, code, Chars, stop as last, more, chars_sound, chars_taken}
use Rattle.json_tree.proofs.Spelled.{string_parts}
use Rattle.grammar.specs.Rfc.{◌⨾◌, ◌∣◌, Star, stop, step, one, char, string}
use Rattle.grammar.proofs.Terms.{one_sound, one_taken}
use Rattle.grammar.proofs.Clean.{Clean}

-- a byte that stands for itself is unescaped, or a control character
plain_unescaped : (x : ℕ) → in_class Plain x ≡ true → is_control x ≡ false → is_unescaped x ≡ true
unfolding in_class
plain_unescaped x e z = go (is_unescaped x) (is_control x) e z
  where
    go : (a b : Bool) → (a || b) ≡ true → b ≡ false → a ≡ true
    go true b p q = refl
    go false b p q = sym q ∙ p

unescaped_plain : (x : ℕ) → is_unescaped x ≡ true → in_class Plain x ≡ true
unfolding in_class
unescaped_plain x e = rw e

module _ (s : List ℕ) (clean : Clean s 0 (length s)) where
  char_rule : (at n : ℕ) → Char s at n → char s at n
  unfolding in_class
  char_rule at n (plain h e) =
      let (p, q) = one_is s Plain at e in
      inl (h, plain_unescaped (get_or s at 0) p (clean at (omega arith) h), q)
  char_rule at n (short {a = a} e f) = inr (a, one_sound s (Byte 0x5C) at a refl e, inl (one_sound s Short a n refl f))
  char_rule at n (code {a = a} {b = b} {c = c} {d = d} {e = e} i j k l m o) =
      inr (
        a,
        one_sound s (Byte 0x5C) at a refl i,
        inr (
          b,
          one_sound s (Byte 0x75) a b refl j,
          (c, one_sound s Hex b c refl k, (d, one_sound s Hex c d refl l, (e, one_sound s Hex d e refl m, one_sound s Hex e n refl o))),
        ),
      )

  chars_rule : (at n : ℕ) → Chars s at n → Star (char s) at n
  chars_rule at n last = stop
  chars_rule at n (more {m = m} c r) = step (char_rule at m c) (chars_rule m n r)

  pub string_sound : (at n : ℕ) → string_at s at ≡ Some n → string s at n
  unfolding in_class
  string_sound at n e =
      let (p, l, q, h, k) = string_parts s at n e in
      let m = chars_at s (at + 1) in
      (at + 1, one_sound s (Byte 0x22) at (at + 1) refl p, (m, chars_rule (at + 1) m (chars_sound s (at + 1)), one_sound s (Byte 0x22) m n refl q))

module _ (s : List ℕ) where
  rule_char : (at n : ℕ) → char s at n → Char s at n
  rule_char at n (inl (h, o, e)) = plain h (one_of s Plain at (unescaped_plain (get_or s at 0) o) ∙ ap Some e)
  rule_char at n (inr e) = go (one_taken s (Byte 0x5C) at e.0 e.1) e.2
    where
      go : {a : ℕ} → one_at s (Byte 0x5C) at ≡ Some a → (one s Short ∣ one s (Byte 0x75) ⨾ one s Hex ⨾ one s Hex ⨾ one s Hex ⨾ one s Hex) a n → Char s at n
      go {a} p (inl o) = short p (one_taken s Short a n o)
      go {a} p (inr (b, u, (c, h, (d, i, (f, j, k))))) =
          code p (one_taken s (Byte 0x75) a b u) (one_taken s Hex b c h) (one_taken s Hex c d i) (one_taken s Hex d f j) (one_taken s Hex f n k)

  rule_chars : (at n : ℕ) → Star (char s) at n → Chars s at n
  rule_chars at n stop = last
  rule_chars at n (step {m = m} c r) = more (rule_char at m c) (rule_chars m n r)

  pub string_taken : (at n : ℕ) → string s at n → string_at s at ≡ Some n
  unfolding string_at
  string_taken at n e =
      let a = e.0 in
      let r = e.2 in
      let b = r.0 in
      let q = one_taken s (Byte 0x22) b n r.2 in
      let w : chars_at s a ≡ b = sym (chars_taken s a b (rule_chars a b r.1)) ∙ chars_none s b (char_quote s b (byte_is s 0x22 b q)) in
      rw (one_taken s (Byte 0x22) at a e.1, w) q
