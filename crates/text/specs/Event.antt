-- 01, "The text that is hashed", and the limits of "Numbers", "Hex", "Counts" and of rows 2, 4 and 9.
use Rattle.std.specs.Prelude.{Bool, true, ◌&&◌, List, [], ◌∷◌, ◌++◌, ℕ, eqb, leb, ℤ, pos, neg_ℤ, length}
use Rattle.wire.specs.Ascii.{ascii}
use Rattle.wire.specs.Escape.{escape}
use Rattle.numeral.specs.Decimal.{digits, decimal}
use Rattle.wire.specs.Limits.{widest, most_small, hex_length, most_tags, most_strings}
use Rattle.wire.specs.Bytes.{Bytes, is_hex}
use Rattle.numeral.specs.Whole.{is_within}
use Rattle.numeral.specs.declared.Whole.TheVariants.{Value}
use Rattle.utf8.specs.Utf8.{is_utf8}

-- a tag is a list of strings
abbrev pub Tag : Type 0
Tag = List (List ℕ)

-- a string is decoded: the bytes of its UTF-8
pub record Event : Type 0 where
  pub pubkey : List ℕ
  pub time : ℤ
  pub kind : ℕ
  pub tags : List Tag
  pub content : List ℕ

-- ---- the text
unfoldable pub quoted : Bytes → Bytes
quoted v = 34 ∷ (escape v ++ (34 ∷ []))

-- the members of a list, a comma between two, and the closing bracket
unfoldable pub members_text : {A : Type 0} → (A → List ℕ) → List A → Bytes
members_text p [] = 93 ∷ []
members_text p (x ∷ []) = p x ++ (93 ∷ [])
members_text p (x ∷ y ∷ ys) = p x ++ (44 ∷ members_text p (y ∷ ys))

unfoldable pub tag_text : Tag → Bytes
tag_text t = 91 ∷ members_text quoted t

unfoldable pub tags_text : List Tag → Bytes
tags_text ts = 91 ∷ members_text tag_text ts

-- [0,"
abbrev pub opening : Bytes
opening = ascii "[0,\""

-- ",
abbrev pub closing : Bytes
closing = ascii "\","

abbrev pub comma : Bytes
comma = ascii ","

abbrev pub bracket : Bytes
bracket = ascii "]"

-- [0,pubkey,created_at,kind,tags,content] with no white space
unfoldable pub serialise : Event → Bytes
serialise e =
    opening ++ (e.pubkey ++ (closing ++
    (decimal e.time ++ (comma ++
    (digits e.kind ++ (comma ++ (tags_text e.tags ++ (comma ++ (quoted e.content ++ bracket)))))))))

-- ---- limits
unfoldable pub all : {A : Type 0} → (A → Bool) → List A → Bool
all p [] = true
all p (x ∷ xs) = p x && all p xs

unfoldable pub is_pubkey : Bytes → Bool
is_pubkey k = eqb (length k) hex_length && all is_hex k

unfoldable pub is_time : ℤ → Bool
is_time z = is_within (Value z) (neg_ℤ (pos widest)) (pos widest)

abbrev pub is_kind : ℕ → Bool
is_kind k = leb k most_small

-- any characters; row 4's surrogates have no UTF-8 (RFC 3629, section 3)
unfoldable pub is_string_bytes : Bytes → Bool
is_string_bytes v = is_utf8 v

unfoldable pub is_tag : Tag → Bool
is_tag t = leb 1 (length t) && (leb (length t) most_strings && all is_string_bytes t)

unfoldable pub is_tags : List Tag → Bool
is_tags ts = leb (length ts) most_tags && all is_tag ts

-- an event within the limits, but for its text's length
unfoldable pub is_fit : Event → Bool
is_fit e =
    is_pubkey e.pubkey && (is_time e.time && (is_kind e.kind && (is_tags e.tags && is_string_bytes e.content)))
