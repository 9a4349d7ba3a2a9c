-- What the private functions promise each other as they walk over the tags, be it to write them or to count their
-- bytes.
use Rattle.std.specs.Prelude.{ℕ, ◌+◌, min, Bool, true, false, ◌≡◌, List, [], ◌∷◌, ◌++◌, length, take, Option, Some, None, Result}
use Rattle.json_tree.specs.Grammar.{case, start_at}
use Rattle.json_tree.specs.Tree.{Json, Items, nil, item, Got, got, end_of}
use Rattle.json_tree.specs.declared.Start.{Start}
use Rattle.json_tree.specs.declared.Start.TheVariants.{Leaf, Empty, Many}
use Rattle.wire.specs.Put.{Puts}
use Rattle.wire.specs.Escape.{json_of}
use Rattle.numeral.specs.Decimal.{digits, decimal}
use Rattle.text.specs.Event.{opening, closing, comma, bracket, quoted, members_text, tag_text, tags_text}
use Rattle.message.specs.declared.Body.{Body}
use Rattle.message.specs.declared.EventParts.{EventParts}
use Rattle.message.specs.Lent.{value_at}
use Rattle.event.specs.Lent.{said, natural, string_of, strings_of, tag_of, tags_of, lent_tags_at, text_of}
use Rattle.event.specs.Answer.{answered, offered_row}
use Rattle.wire.specs.Bytes.{Bytes, Place}
use Rattle.event.specs.Lent.{most_length}

-- the brackets and braces that may be open at once in a tag, and in what it holds
abbrev pub tag_depth : ℕ
tag_depth = 7

abbrev pub string_depth : ℕ
string_depth = 6

-- what is escaped, as it stands in a reply or in the text
abbrev pub in_form : (json : Bool) → Bytes → Bytes
in_form true s = json_of s
in_form false s = s

-- a writer's state: the buffer and the index in it
abbrev pub PutsOf : (json : Bool) (x : List ℕ × ℕ) (s : Bytes) (y : List ℕ × ℕ) → Type 0
PutsOf json x s y = Puts x.0 x.1 (in_form json s) y.1 y.0

pub record Counts (json : Bool) (n : ℕ) (s : List ℕ) (m : ℕ) : Type 0 where
  pub is : m ≡ min (n + length (in_form json s)) most_length

-- what is read at a place, if anything is, is done as p says, from one state to another, and the place after it is
-- found
pub record Does {A S : Type 0} (does : S → List ℕ → S → Type 0) (g : Got A) (p : A → List ℕ) (x y : S) (next : ℕ) : Type
    0 where
  pub done : (a : A) (n : ℕ) → g ≡ got a n → does x (p a) y
  pub ends : (a : A) (n : ℕ) → g ≡ got a n → next ≡ n

-- a printer of items made of one for each, commas between, and the closing bracket
pub record Printer (one : Json → Bytes) (all : Items → Bytes) : Type 0 where
  pub last_is : (p v : ℕ) (t : Json) → all (item p v t nil) ≡ one t ++ (93 ∷ [])
  pub more_is : (p v : ℕ) (t : Json) (q w : ℕ) (u : Json) (us : Items) → all (item p v t (item q w u us)) ≡ one t ++ (44 ∷ all (item q w u us))

-- a string of a tag, the strings to the closing bracket; a tag, the tags to the closing bracket
unfoldable pub string_text : Bytes → Json → Bytes
string_text b t = quoted (string_of b t)

unfoldable pub strings_text : Bytes → Items → Bytes
strings_text b ts = members_text quoted (strings_of b ts)

unfoldable pub one_tag_text : Bytes → Json → Bytes
one_tag_text b t = tag_text (tag_of b t)

unfoldable pub all_tags_text : Bytes → Items → Bytes
all_tags_text b ts = members_text tag_text (tags_of b ts)

-- the first item of the array at a place that holds some, if the whole of it stands there
abbrev pub first_out : Start → Option ℕ
first_out Leaf = None
first_out (Empty n named) = None
first_out (Many first true) = None
first_out (Many first false) = Some first

unfoldable pub first_tag : Bytes → Place → Option ℕ
first_tag b at = case (end_of (value_at b at)) (λ n. first_out (start_at b at)) None

-- the rows of an offer are tested: what that answers, and where none holds, the text at the start of a buffer
pub record Tested (b : List ℕ) (p : EventParts) (r : Result ℕ ℕ) (t : List ℕ) : Type 0 where
  pub says : r ≡ answered (offered_row b p) (length (text_of b p.body))
  pub there : offered_row b p ≡ 0 → take (length (text_of b p.body)) t ≡ text_of b p.body

-- the text up to the tags, and from them on
unfoldable pub front_text : Bytes → Body → Bytes
front_text b p =
    opening ++ (said b p.pubkey ++
    (closing ++ (decimal p.created_at ++ (comma ++ (digits (natural p.kind) ++ comma)))))

unfoldable pub back_text : Bytes → Body → Bytes
back_text b p = tags_text (lent_tags_at b p.tags) ++ (comma ++ (quoted (said b p.content) ++ bracket))
