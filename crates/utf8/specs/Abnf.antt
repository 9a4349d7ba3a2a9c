-- The ABNF of RFC 3629 section 4 as it stands there, a constructor for each alternative, and what is proved of it.
use Rattle.std.specs.Prelude.{true, ◌↔◌, ◌≡◌, List, [], ◌∷◌, ℕ, ◌≤◌}
use Rattle.utf8.specs.Utf8.{is_utf8}

-- %xLO-HI
pub record Range (lo hi x : ℕ) : Type 0 where
  pub low : lo ≤ x
  pub high : x ≤ hi

-- UTF8-tail = %x80-BF
abbrev pub TailOctet : ℕ → Type 0
TailOctet x = Range 0x80 0xbf x

-- UTF8-octets = *( UTF8-char )
-- UTF8-char = UTF8-1 / UTF8-2 / UTF8-3 / UTF8-4
-- UTF8-1 = %x00-7F
-- UTF8-2 = %xC2-DF UTF8-tail
-- UTF8-3 = %xE0 %xA0-BF UTF8-tail / %xE1-EC 2( UTF8-tail ) / %xED %x80-9F UTF8-tail / %xEE-EF 2( UTF8-tail )
-- UTF8-4 = %xF0 %x90-BF 2( UTF8-tail ) / %xF1-F3 3( UTF8-tail ) / %xF4 %x80-8F 2( UTF8-tail )
pub data Octets : List ℕ → Type 0 where
  none : Octets []
  utf8_1 : {a : ℕ} {s : List ℕ} → Range 0x00 0x7f a → Octets s → Octets (a ∷ s)
  utf8_2 : {a b : ℕ} {s : List ℕ} → Range 0xc2 0xdf a → TailOctet b → Octets s → Octets (a ∷ b ∷ s)
  utf8_3_e0 : {b c : ℕ} {s : List ℕ} → Range 0xa0 0xbf b → TailOctet c → Octets s → Octets (0xe0 ∷ b ∷ c ∷ s)
  utf8_3_e1 : {a b c : ℕ} {s : List ℕ} → Range 0xe1 0xec a → TailOctet b → TailOctet c → Octets s →
      Octets (a ∷ b ∷ c ∷ s)
  utf8_3_ed : {b c : ℕ} {s : List ℕ} → Range 0x80 0x9f b → TailOctet c → Octets s → Octets (0xed ∷ b ∷ c ∷ s)
  utf8_3_ee : {a b c : ℕ} {s : List ℕ} → Range 0xee 0xef a → TailOctet b → TailOctet c → Octets s →
      Octets (a ∷ b ∷ c ∷ s)
  utf8_4_f0 : {b c d : ℕ} {s : List ℕ} → Range 0x90 0xbf b → TailOctet c → TailOctet d → Octets s →
      Octets (0xf0 ∷ b ∷ c ∷ d ∷ s)
  utf8_4_f1 : {a b c d : ℕ} {s : List ℕ} → Range 0xf1 0xf3 a → TailOctet b → TailOctet c → TailOctet d → Octets s →
      Octets (a ∷ b ∷ c ∷ d ∷ s)
  utf8_4_f4 : {b c d : ℕ} {s : List ℕ} → Range 0x80 0x8f b → TailOctet c → TailOctet d → Octets s →
      Octets (0xf4 ∷ b ∷ c ∷ d ∷ s)

-- the test of Utf8.antt says yes exactly of UTF8-octets: proved in proofs/Abnf.antt
abbrev pub AsInAbnf : Type 0
AsInAbnf = (s : List ℕ) → is_utf8 s ≡ true ↔ Octets s
