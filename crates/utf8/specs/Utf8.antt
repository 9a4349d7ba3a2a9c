-- RFC 3629 section 4, the syntax of UTF-8 byte sequences, by recursion on the bytes with a state: what the next byte
-- has to be.
use Rattle.std.specs.Prelude.{Bool, true, false, cond, [], ◌∷◌, ℕ, ◌-◌, ltb, leb, eqb}
use Rattle.utf8.specs.declared.Want.{Want}
use Rattle.utf8.specs.declared.Want.TheVariants.{Lead, Tail, Bad}
use Rattle.wire.specs.Bytes.{Bytes}

-- what follows the first octet of a character. `Tail lo hi n`: an octet from lo to hi, and after it n times UTF8-tail,
-- which is 80 to BF
unfoldable pub lead_of : ℕ → Want
lead_of x =
    cond (leb x 0x7f) Lead
    (cond (leb x 0xc1) Bad
    (cond (leb x 0xdf) (Tail 0x80 0xbf 0)
    (cond (leb x 0xe0) (Tail 0xa0 0xbf 1)
    (cond (leb x 0xec) (Tail 0x80 0xbf 1)
    (cond (leb x 0xed) (Tail 0x80 0x9f 1)
    (cond (leb x 0xef) (Tail 0x80 0xbf 1)
    (cond (leb x 0xf0) (Tail 0x90 0xbf 2)
    (cond (leb x 0xf3) (Tail 0x80 0xbf 2)
    (cond (leb x 0xf4) (Tail 0x80 0x8f 2) Bad)))))))))

-- what is wanted after the octet x, where w was wanted
abbrev pub next_want : Want → ℕ → Want
next_want Lead x = lead_of x
next_want (Tail lo hi n) x = cond (ltb x lo) Bad (cond (ltb hi x) Bad (cond (eqb n 0) Lead (Tail 0x80 0xbf (n - 1))))
next_want Bad x = Bad

-- a text ends where a character may begin
abbrev pub ends : Want → Bool
ends Lead = true
ends (Tail lo hi n) = false
ends Bad = false

unfoldable pub utf8_from : Want → Bytes → Bool
utf8_from w [] = ends w
utf8_from w (x ∷ s) = utf8_from (next_want w x) s

-- UTF8-octets
unfoldable pub is_utf8 : Bytes → Bool
is_utf8 s = utf8_from Lead s
