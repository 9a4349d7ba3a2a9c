-- Worked texts, kinds and keys. The table of 01's starred cases, program/specs/Starred, rests on some of them.
use mathlib.Core.Path.{◌≡◌, refl, sym, ap, ◌∙◌}
use mathlib.Core.Bool.{true}
use mathlib.Core.List.{List, [], ◌∷◌, ◌++◌}
use Prim.Native.Nat.{ℕ, zero, suc, ◌+◌}
use native.Mathlib.Omega.{arith}
use lib.Dec.{lit≤}
use lib.IntN.{pos, negsuc}
use lib.ListN.{length, replicate, length-replicate}
use Rattle.wire.specs.Bytes.{is_hex}
use Rattle.wire.specs.Escape.{letter_of, esc_one, escape}
use Rattle.numeral.specs.Decimal.{digits_in, digits, decimal}
use Rattle.numeral.specs.Whole.{is_within}
use Rattle.utf8.specs.Utf8.{is_utf8, utf8_from, lead_of}
use Rattle.text.specs.Event.{Tag, Event, quoted, members_text, tag_text, tags_text, serialise, all, is_pubkey, is_time}
use Rattle.text.specs.Event.{is_string_bytes, is_tag, is_tags, is_fit}
use Rattle.text.specs.Read.{too_large, read, read_text}
use Rattle.text.specs.Kinds.{class_of, d_of, addressable, key_of}
use Rattle.text.specs.declared.Class.TheVariants.{Regular, Replaceable, Ephemeral, Addressable}
use Rattle.text.proofs.RoundTrip.{read_back, too_large_lem, fit_length}

-- 64 times a
abbrev pub A : List ℕ
A = replicate 64 97

-- A, -7200, kind 1, [["d","t⏎1"]], content a"b
abbrev pub one : Event
one = record { pubkey = A; time = negsuc 7199; kind = 1; tags = ((100 ∷ []) ∷ (116 ∷ 10 ∷ 49 ∷ []) ∷ []) ∷ []; content = 97 ∷ 34 ∷ 98 ∷ [] }

-- [0,"A",-7200,1,[["d","t\n1"]],"a\"b"]
abbrev pub one_text : List ℕ
one_text =
    (91 ∷ 48 ∷ 44 ∷ 34 ∷ []) ++ A ++ (34 ∷ 44 ∷ 45 ∷ 55 ∷ 50 ∷ 48 ∷ 48 ∷ 44 ∷ 49 ∷ 44 ∷ [])
    ++ (91 ∷ 91 ∷ 34 ∷ 100 ∷ 34 ∷ 44 ∷ 34 ∷ 116 ∷ 92 ∷ 110 ∷ 49 ∷ 34 ∷ 93 ∷ 93 ∷ 44 ∷ 34 ∷ 97 ∷ 92 ∷ 34 ∷ 98 ∷ 34 ∷ 93 ∷ [])

-- A, 0, kind 0, no tags, and as content n times x
abbrev pub xs : ℕ → Event
xs n = record { pubkey = A; time = pos 0; kind = 0; tags = []; content = replicate n 120 }

pub one_text_lem : (serialise one ≡ one_text) × (length one_text ≡ 100) × (is_fit one ≡ true)
unfolding letter_of esc_one escape digits_in digits decimal quoted members_text tag_text tags_text serialise all is_hex is_pubkey is_time is_string_bytes is_tag is_tags is_fit is_within is_utf8 utf8_from lead_of
one_text_lem = (refl, refl, refl)

pub one_read : read_text one_text ≡ read one
one_read = ap read_text (sym one_text_lem.0) ∙ read_back one one_text_lem.2 (rw one_text_lem.0 (lit≤ tt))

-- ---- 80 bytes and the content
escape_xs : (n : ℕ) → escape (replicate n 120) ≡ replicate n 120
unfolding escape esc_one letter_of
escape_xs zero = refl
escape_xs (suc n) = ap (◌∷◌ 120) (escape_xs n)

utf8_xs : (n : ℕ) → is_utf8 (replicate n 120) ≡ true
unfolding is_utf8 utf8_from lead_of
utf8_xs zero = refl
utf8_xs (suc n) = utf8_xs n

fit_xs : (n : ℕ) → is_fit (xs n) ≡ true
unfolding is_fit is_hex is_pubkey is_time is_within is_tags is_string_bytes all
fit_xs n = utf8_xs n

pub xs_length : (n : ℕ) → length (serialise (xs n)) ≡ 80 + n
unfolding digits_in digits decimal tags_text members_text
xs_length n = fit_length (xs n) (fit_xs n) ∙ rw (escape_xs n, length-replicate {A = ℕ} n 120)

-- 80 bytes; 4,016 x are taken, 4,017 give 9
pub xs_cases : (length (serialise (xs 0)) ≡ 80) × (read_text (serialise (xs 4016)) ≡ read (xs 4016)) × (read_text (serialise (xs 4017)) ≡ too_large)
xs_cases =
    (xs_length 0, read_back (xs 4016) (fit_xs 4016) (omega (arith, xs_length 4016)), (too_large_lem (serialise (xs 4017))).1 (omega (arith, xs_length 4017)))

-- ---- kinds and keys
pub kinds : (class_of 44 ≡ Regular) × (class_of 45 ≡ Regular) × (class_of 9999 ≡ Regular) × (class_of 10000 ≡ Replaceable) × (class_of 19999 ≡ Replaceable)
    × (class_of 20000 ≡ Ephemeral) × (class_of 30000 ≡ Addressable) × (class_of 40000 ≡ Regular)
unfolding class_of
kinds = (refl, refl, refl, refl, refl, refl, refl, refl)

-- kind 30000 and tags
abbrev pub tagged : List Tag → Event
tagged ts = record { pubkey = A; time = pos 0; kind = 30000; tags = ts; content = [] }

-- ["d"], ["d",""] and no d tag give one key
pub one_key : (key_of (tagged (((100 ∷ []) ∷ []) ∷ [])) ≡ addressable 30000 A [])
    × (key_of (tagged (((100 ∷ []) ∷ [] ∷ []) ∷ [])) ≡ addressable 30000 A []) × (key_of (tagged []) ≡ addressable 30000 A [])
unfolding key_of class_of d_of
one_key = (refl, refl, refl)
