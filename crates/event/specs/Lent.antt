-- The event that lent parts spell: every string decoded. The client's own spelling never reaches the text.
use Rattle.std.specs.Prelude.{ℕ, min, length, List, [], ◌∷◌, ℤ, pos, negsuc}
use Rattle.json_tree.specs.Tree.{Json, Items, nil, item, Got, none, got, of_string, of_array}
use Rattle.rows.specs.Strings.{part}
use Rattle.spell.specs.Spell.{decode}
use Rattle.text.specs.Event.{Tag, Event, serialise}
use Rattle.message.specs.declared.Span.{Span}
use Rattle.message.specs.declared.Body.{Body}
use Rattle.message.specs.Lent.{value_at}
use Rattle.wire.specs.Bytes.{Bytes, Place}

-- what a string part decodes to
abbrev pub said : Bytes → Span → Bytes
said b p = decode (part b p.start p.len)

-- ---- the tags at a place; what is no string, no tag or no array of them counts as empty
abbrev pub string_of : Bytes → Json → Bytes
string_of b t = of_string [] (λ a n. decode (part b a n)) t

unfoldable pub strings_of : Bytes → Items → Tag
strings_of b nil = []
strings_of b (item p v t ts) = string_of b t ∷ strings_of b ts

abbrev pub tag_of : Bytes → Json → Tag
tag_of b t = of_array [] (strings_of b) t

unfoldable pub tags_of : Bytes → Items → List Tag
tags_of b nil = []
tags_of b (item p v t ts) = tag_of b t ∷ tags_of b ts

abbrev pub tags_in : Bytes → Got Json → List Tag
tags_in b none = []
tags_in b (got t n) = of_array [] (tags_of b) t

unfoldable pub lent_tags_at : Bytes → Place → List Tag
lent_tags_at b at = tags_in b (value_at b at)

-- a kind is not negative
abbrev pub natural : ℤ → ℕ
natural (pos n) = n
natural (negsuc n) = 0

unfoldable pub event_of : Bytes → Body → Event
event_of b p = record {
  pubkey = said b p.pubkey;
  time = p.created_at;
  kind = natural p.kind;
  tags = lent_tags_at b p.tags;
  content = said b p.content;
}

-- 01, "The text that is hashed"
unfoldable pub text_of : Bytes → Body → Bytes
text_of b p = serialise (event_of b p)

-- a length as a number of 64 bits: one that is too large for it stops at the largest
abbrev pub most_length : ℕ
most_length = 18446744073709551615

abbrev pub length_of : Bytes → ℕ
length_of s = min (length s) most_length
