-- 01, "Counts": "subscription ids of 1 to 64 characters (code points)". On UTF-8, which row 2 asks for, spell's count
-- of the octets that are no tails is the number of UTF8-char of RFC 3629.
use mathlib.Core.Path.{◌≡◌, refl, ap, ◌∙◌}
use mathlib.Core.List.{List, ◌∷◌}
use Prim.Native.Nat.{ℕ, suc, ◌≤◌}
use native.Mathlib.Omega.{arith}
use borrow.Author.Tests.{le-leb, lt-leb}
use Rattle.spell.specs.Spell.{points}
use Rattle.utf8.specs.Abnf.{TailOctet, Octets, none, utf8_1, utf8_2, utf8_3_e0, utf8_3_e1, utf8_3_ed, utf8_3_ee}
use Rattle.utf8.specs.Abnf.{utf8_4_f0, utf8_4_f1, utf8_4_f4}

-- how many times UTF8-char is taken: one constructor is one character
abbrev pub characters : {s : List ℕ} → Octets s → ℕ
characters none = 0
characters (utf8_1 a o) = suc (characters o)
characters (utf8_2 a b o) = suc (characters o)
characters (utf8_3_e0 b c o) = suc (characters o)
characters (utf8_3_e1 a b c o) = suc (characters o)
characters (utf8_3_ed b c o) = suc (characters o)
characters (utf8_3_ee a b c o) = suc (characters o)
characters (utf8_4_f0 b c d o) = suc (characters o)
characters (utf8_4_f1 a b c d o) = suc (characters o)
characters (utf8_4_f4 b c d o) = suc (characters o)

-- an octet at the front: ASCII and a first octet count, a tail does not
module _ (x : ℕ) (t : List ℕ) where
  low : x ≤ 0x7f → points (x ∷ t) ≡ suc (points t)
  unfolding points
  low h = rw (lt-leb 0x80 x (omega arith))

  lead : 0xc0 ≤ x → points (x ∷ t) ≡ suc (points t)
  unfolding points
  lead h = rw (le-leb 0x80 x (omega arith), lt-leb x 0xbf (omega arith))

  tail : 0x80 ≤ x → x ≤ 0xbf → points (x ∷ t) ≡ points t
  unfolding points
  tail h k = rw (le-leb 0x80 x h, le-leb x 0xbf k)

-- a first octet and one, two or three tails
module _ (a : ℕ) (first : 0xc0 ≤ a) where
  two : (b : ℕ) (s : List ℕ) → 0x80 ≤ b → b ≤ 0xbf → points (a ∷ b ∷ s) ≡ suc (points s)
  two b s l h = lead a (b ∷ s) first ∙ ap suc (tail b s l h)

  three : (b c : ℕ) (s : List ℕ) → 0x80 ≤ b → b ≤ 0xbf → TailOctet c → points (a ∷ b ∷ c ∷ s) ≡ suc (points s)
  three b c s l h p = two b (c ∷ s) l h ∙ ap suc (tail c s p.low p.high)

  four : (b c d : ℕ) (s : List ℕ) → 0x80 ≤ b → b ≤ 0xbf → TailOctet c → TailOctet d → points (a ∷ b ∷ c ∷ d ∷ s) ≡ suc (points s)
  four b c d s l h p q = three b c (d ∷ s) l h p ∙ ap suc (tail d s q.low q.high)

pub counted : {s : List ℕ} (o : Octets s) → points s ≡ characters o
unfolding points
counted none = refl
counted (utf8_1 {a = a} {s = s} r o) = low a s r.high ∙ ap suc (counted o)
counted (utf8_2 {a = a} {b = b} {s = s} r p o) =
    let h = r.low in
    two a (omega arith) b s p.low p.high ∙ ap suc (counted o)
counted (utf8_3_e0 {b = b} {c = c} {s = s} r p o) =
    let h = r.low in
    three 0xe0 (omega arith) b c s (omega arith) r.high p ∙ ap suc (counted o)
counted (utf8_3_e1 {a = a} {b = b} {c = c} {s = s} r p q o) =
    let h = r.low in
    three a (omega arith) b c s p.low p.high q ∙ ap suc (counted o)
counted (utf8_3_ed {b = b} {c = c} {s = s} r p o) =
    let h = r.high in
    three 0xed (omega arith) b c s r.low (omega arith) p ∙ ap suc (counted o)
counted (utf8_3_ee {a = a} {b = b} {c = c} {s = s} r p q o) =
    let h = r.low in
    three a (omega arith) b c s p.low p.high q ∙ ap suc (counted o)
counted (utf8_4_f0 {b = b} {c = c} {d = d} {s = s} r p q o) =
    let h = r.low in
    four 0xf0 (omega arith) b c d s (omega arith) r.high p q ∙ ap suc (counted o)
counted (utf8_4_f1 {a = a} {b = b} {c = c} {d = d} {s = s} r p q t o) =
    let h = r.low in
    four a (omega arith) b c d s p.low p.high q t ∙ ap suc (counted o)
counted (utf8_4_f4 {b = b} {c = c} {d = d} {s = s} r p q o) =
    let h = r.high in
    four 0xf4 (omega arith) b c d s r.low (omega arith) p q ∙ ap suc (counted o)
