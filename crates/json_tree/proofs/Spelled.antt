-- A character is known by its bytes, so what stands between quotation marks is a spelling wherever it stands.
use Rattle.std.specs.Prelude.{Option, Some, None}
use mathlib.Core.Path.{◌≡◌, refl, sym, ap, ◌∙◌}
use mathlib.Core.List.{List}
use mathlib.Core.Bool.{true}
use Prim.Native.Nat.{ℕ, zero, suc, ◌+◌, ◌-◌, ◌<◌, ◌≤◌}
use native.Mathlib.Decide.{dec_lt}
use native.Mathlib.Omega.{arith}
use lib.ListN.{length, get_or, take, drop, length-take, length-drop}
use lib.Seq.{get_or-take, get_or-drop}
use borrow.Author.Tests.{eq-eqb}
use Rattle.json_tree.specs.Grammar.{case, in_class, one_at, hex_at, escaped_at, char_at, chars_up_to, chars_at, is_spelling}
use Rattle.json_tree.specs.Grammar.{string_at}
use Rattle.json_tree.specs.declared.Class.{Class}
use Rattle.json_tree.specs.declared.Class.TheVariants.{Plain, Hex, Short, Byte}
use Rattle.json_tree.proofs.Ends.{ends_bad, then_end, one_is, one_of, byte_not, not_byte, one_ends, char_inside}
use Rattle.json_tree.proofs.Ends.{char_outside, char_ends, chars_more, chars_past}

-- ---- char and *char as RFC 8259 has them, with the bytes of `Plain` for unescaped
pub data Char (s : List ℕ) : ℕ → ℕ → Type 0 where
  plain : {at n : ℕ} → at < length s → one_at s Plain at ≡ Some n → Char s at n
  short : {at a n : ℕ} → one_at s (Byte 0x5C) at ≡ Some a → one_at s Short a ≡ Some n → Char s at n
  code : {at a b c d e n : ℕ} → one_at s (Byte 0x5C) at ≡ Some a → one_at s (Byte 0x75) a ≡ Some b
      → one_at s Hex b ≡ Some c → one_at s Hex c ≡ Some d → one_at s Hex d ≡ Some e → one_at s Hex e ≡ Some n → Char s at n

pub data Chars (s : List ℕ) : ℕ → ℕ → Type 0 where
  stop : {at : ℕ} → Chars s at at
  more : {at m n : ℕ} → Char s at m → Chars s m n → Chars s at n

module _ (s : List ℕ) where
  pub char_sound : (at n : ℕ) → char_at s at ≡ Some n → Char s at n
  unfolding escaped_at hex_at
  char_sound at n e = elim (dec_lt at (length s)) [
    | yes h ↦ unescaped h (one_at s Plain at) refl (sym (char_inside s at h) ∙ e)
    | no h ↦ ends_bad (sym (char_outside s at (omega arith)) ∙ e)
  ]
    where
      letter : (a : ℕ) (o : Option ℕ) → one_at s (Byte 0x5C) at ≡ Some a → one_at s (Byte 0x75) a ≡ o → case o (hex_at s) (one_at s Short a) ≡ Some n → Char s at n
      letter a (Some b) p q z =
          let (c, e₁, z₁) = then_end (one_at s Hex b) _ z in
          let (d, e₂, z₂) = then_end (one_at s Hex c) _ z₁ in
          let (f, e₃, e₄) = then_end (one_at s Hex d) _ z₂ in
          code p q e₁ e₂ e₃ e₄
      letter a None p q z = short p z

      unescaped : at < length s → (o : Option ℕ) → one_at s Plain at ≡ o → case o Some (escaped_at s at) ≡ Some n → Char s at n
      unescaped h (Some m) p z = plain h (p ∙ z)
      unescaped h None p z = let (a, q, y) = then_end (one_at s (Byte 0x5C) at) _ z in letter a (one_at s (Byte 0x75) a) q refl y

  pub char_taken : (at n : ℕ) → Char s at n → char_at s at ≡ Some n
  unfolding escaped_at hex_at in_class
  char_taken at n (plain h e) = rw (char_inside s at h, e)
  char_taken at n (short {a = a} e f) =
      let h = one_ends s (Byte 0x5C) at refl a e in
      simp (char_inside s at (omega arith), byte_not s 0x5C Plain at refl e, e, not_byte s 0x75 Short a refl f, f)
  char_taken at n (code {a = a} e f g h i j) =
      let k = one_ends s (Byte 0x5C) at refl a e in
      simp (char_inside s at (omega arith), byte_not s 0x5C Plain at refl e, e, f, g, h, i, j)

  reach : (f at : ℕ) → Chars s at (chars_up_to f s at)
  unfolding chars_up_to
  reach zero at = stop
  reach (suc f) at = go (char_at s at) refl (reach f)
    where
      go : (o : Option ℕ) → char_at s at ≡ o → ((m : ℕ) → Chars s m (chars_up_to f s m)) → Chars s at (case o (chars_up_to f s) at)
      go (Some m) e ih = more (char_sound at m e) (ih m)
      go None e ih = stop

  pub chars_sound : (at : ℕ) → Chars s at (chars_at s at)
  unfolding chars_at
  chars_sound at = reach (length s) at

  pub chars_taken : (at n : ℕ) → Chars s at n → chars_at s n ≡ chars_at s at
  chars_taken at n stop = refl
  chars_taken at n (more {m = m} c r) = chars_taken m n r ∙ chars_more s at m (char_taken at m c)

  pub chars_from_lem : (at n : ℕ) → Chars s at n → at ≤ n
  chars_from_lem at n stop = omega arith
  chars_from_lem at n (more {m = m} c r) = let p = char_ends s at m (char_taken at m c) in let q = chars_from_lem m n r in omega arith

-- ---- the bytes of s from lo to hi stand in t, each at its place by g
module _ (s t : List ℕ) (g : ℕ → ℕ) (lo hi : ℕ) (within : (x : ℕ) → lo ≤ x → x < hi → g x < length t)
    (same : (x : ℕ) → lo ≤ x → x < hi → get_or t (g x) 0 ≡ get_or s x 0) (step : (x : ℕ) → lo ≤ x → g x + 1 ≡ g (x + 1)) where
  one_moved : (class : Class) (x m : ℕ) → lo ≤ x → m ≤ hi → one_at s class x ≡ Some m → (one_at t class (g x) ≡ Some (g m)) × (lo ≤ m)
  one_moved class x m l h e =
      let (q, w) = one_is s class x e in
      let k : x < hi = omega arith in
      let p : in_class class (get_or t (g x) 0) ≡ true = rw (same x l k) q in
      (one_of t class (g x) p ∙ ap Some (step x l ∙ ap g w), omega arith)

  char_moved : (x m : ℕ) → lo ≤ x → m ≤ hi → Char s x m → Char t (g x) (g m)
  unfolding in_class
  char_moved x m l h (plain w e) = let q = (one_is s Plain x e).1 in plain (within x l (omega arith)) (one_moved Plain x m l h e).0
  char_moved x m l h (short {a = a} e f) =
      let q = one_ends s Short a refl m f in
      let (p, k) = one_moved (Byte 0x5C) x a l (omega arith) e in
      short p (one_moved Short a m k h f).0
  char_moved x m l h (code {a = a} {b = b} {c = c} {d = d} {e = e} i j k o q r) =
      let h₄ = one_ends s Hex e refl m r in
      let h₃ = one_ends s Hex d refl e q in
      let h₂ = one_ends s Hex c refl d o in
      let h₁ = one_ends s Hex b refl c k in
      let h₀ = one_ends s (Byte 0x75) a refl b j in
      let (e₀, l₀) = one_moved (Byte 0x5C) x a l (omega arith) i in
      let (e₁, l₁) = one_moved (Byte 0x75) a b l₀ (omega arith) j in
      let (e₂, l₂) = one_moved Hex b c l₁ (omega arith) k in
      let (e₃, l₃) = one_moved Hex c d l₂ (omega arith) o in
      let (e₄, l₄) = one_moved Hex d e l₃ (omega arith) q in
      code e₀ e₁ e₂ e₃ e₄ (one_moved Hex e m l₄ h r).0

  chars_moved : (x m : ℕ) → lo ≤ x → m ≤ hi → Chars s x m → Chars t (g x) (g m)
  chars_moved x m l h stop = stop
  chars_moved x m l h (more {m = k} c r) =
      let p = char_ends s x k (char_taken s x k c) in
      let q = chars_from_lem s k m r in
      more (char_moved x k l (omega arith) c) (chars_moved k m (omega arith) h r)

-- ---- strings
-- a string is a quotation mark, characters, and a quotation mark
pub string_parts : (s : List ℕ) (at n : ℕ) → string_at s at ≡ Some n
    → (one_at s (Byte 0x22) at ≡ Some (at + 1)) × (chars_at s (at + 1) + 1 ≡ n) × (one_at s (Byte 0x22) (chars_at s (at + 1)) ≡ Some n) × (at + 2 ≤ n) × (n ≤ length s)
unfolding string_at in_class
string_parts s at n e =
    let (m, p, q) = then_end (one_at s (Byte 0x22) at) _ e in
    let w = (one_is s (Byte 0x22) at p).1 in
    let q' : one_at s (Byte 0x22) (chars_at s (at + 1)) ≡ Some n = rw w q in
    let l = (one_is s (Byte 0x22) (chars_at s (at + 1)) q').1 in
    let k = chars_from_lem s (at + 1) (chars_at s (at + 1)) (chars_sound s (at + 1)) in
    let h = one_ends s (Byte 0x22) (chars_at s (at + 1)) refl n q' in
    (p ∙ ap Some (sym w), l, q', omega arith, h.1)

-- what stands between the quotation marks of a string is a spelling
pub string_spelled : (s : List ℕ) (at n : ℕ) → string_at s at ≡ Some n → is_spelling (take (n - at - 2) (drop (at + 1) s)) ≡ true
string_spelled s at n e = eq-eqb _ _ (ap (chars_at p) zeroth ∙ sym (chars_taken p (g (at + 1)) (g m) moved) ∙ chars_past p (g m) (omega (arith, size)) ∙ sym size)
  where
    m : ℕ
    m = chars_at s (at + 1)

    p : List ℕ
    p = take (n - at - 2) (drop (at + 1) s)

    g : ℕ → ℕ
    g x = x - (at + 1)

    zeroth : 0 ≡ g (at + 1)
    zeroth = omega arith

    ends : (m + 1 ≡ n) × (at + 2 ≤ n) × (n ≤ length s)
    ends = let q = string_parts s at n e in (q.1, q.3, q.4)

    same : (x : ℕ) → at + 1 ≤ x → x < m → get_or p (g x) 0 ≡ get_or s x 0
    same x l h =
        let q : at + 1 + (x - (at + 1)) ≡ x = omega arith in
        get_or-take (n - at - 2) (drop (at + 1) s) (g x) 0 (omega (arith, ends)) ∙ get_or-drop (at + 1) s (g x) 0 ∙ ap (λ (i : ℕ). get_or s i 0) q

    size : length p ≡ g m
    size = simp (length-take, length-drop) (omega (arith, ends))

    moved : Chars p (g (at + 1)) (g m)
    moved = chars_moved s p g (at + 1) m (λ x l h. omega (arith, size)) same (λ x l. omega arith) (at + 1) m (omega arith) (omega arith) (chars_sound s (at + 1))
