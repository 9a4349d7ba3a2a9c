-- What the private functions promise each other: the first member of each name as places, found in one walk, and what
-- stands at a place.
use Rattle.std.specs.Prelude.{ℕ, ◌≡◌, Bool, false, cond, eqb, ℤ, pos, Option, None, Some, Result, Ok, Err}
use Rattle.json_tree.specs.Grammar.{ws_at, scalar_at, start_at}
use Rattle.json_tree.specs.Tree.{Json, Items, Got, none, got, fold_items, on_leaf}
use Rattle.json_tree.specs.declared.Kind.{Kind}
use Rattle.json_tree.specs.declared.Start.{Start}
use Rattle.json_tree.specs.declared.Start.TheVariants.{Leaf, Empty, Many}
use Rattle.wire.specs.Limits.{most_characters}
use Rattle.wire.specs.Bytes.{Bytes, Place, Row, same_bytes}
use Rattle.spell.specs.Spell.{decode, character_count}
use Rattle.rows.specs.Strings.{part, spelled_at}
use Rattle.shape.specs.Shape.{name_at, Word, event, req, close, other, word_of, event_word, id_name, pubkey_name}
use Rattle.shape.specs.Shape.{created_at_name, kind_name, tags_name, content_name, sig_name, ids_name, authors_name, kinds_name}
use Rattle.shape.specs.Shape.{since_name, until_name, limit_name}
use Rattle.message.specs.declared.Span.{Span}
use Rattle.message.specs.declared.Element.{Element}
use Rattle.message.specs.declared.Element.TheVariants as element
use Rattle.message.specs.declared.Body.{Body}
use Rattle.message.specs.declared.Members.{Members}
use Rattle.shape.specs.Rows.{outside}
use Rattle.shape.specs.Offsets.{plain_refusal}
use Rattle.shape.specs.declared.Refusal.{Refusal}
use Rattle.message.specs.declared.Message.{Message}
use Rattle.message.specs.declared.Message.TheVariants as message
use Rattle.message.specs.declared.Named.{Named}
use Rattle.message.specs.declared.Named.TheVariants as names
use Rattle.message.specs.declared.Opening.{Opening}
use Rattle.message.specs.declared.Opening.TheVariants as opening
use Rattle.message.specs.declared.FilterParts.{FilterParts}
use Rattle.message.specs.Parts.{nowhere, span_of, number_spelled, event_at, filter_at, no_filter}
use Rattle.message.specs.Lists.{start_element, next_of}
use Rattle.message.specs.Read.{id_named}
use Rattle.message.specs.Lent.{lowest, value_at, on_value, value2, value4, value5, in_list}
use Rattle.shape.specs.Values.{fits, sort6, sort7, sort8}
use Rattle.shape.specs.declared.Sort.{Sort}

-- a member whose name is spelled l and whose value stands at v is the first one named w, or what was found before it
-- stays
unfoldable pub kept_place : (l w : Bytes) (x : Option ℕ) (v : ℕ) → Option ℕ
kept_place l w (Some u) v = Some u
kept_place l w None v = cond (same_bytes (decode l) w) (Some v) None

-- a member of an event (b) or of a filter: the first of each name, or what was found before it stays
unfoldable pub step_of : (s : Bytes) (b : Bool) (a : Members) (p v : ℕ) → Members
step_of s b a p v = record {
  first = kept_place (spelled_at s p) (cond b id_name ids_name) a.first v;
  second = kept_place (spelled_at s p) (cond b pubkey_name authors_name) a.second v;
  third = kept_place (spelled_at s p) (cond b created_at_name kinds_name) a.third v;
  fourth = kept_place (spelled_at s p) (cond b kind_name since_name) a.fourth v;
  fifth = kept_place (spelled_at s p) (cond b tags_name until_name) a.fifth v;
  sixth = kept_place (spelled_at s p) (cond b content_name limit_name) a.sixth v;
  seventh = cond b (kept_place (spelled_at s p) sig_name a.seventh v) a.seventh;
}

abbrev pub no_members : Members
no_members = record {
  first = None;
  second = None;
  third = None;
  fourth = None;
  fifth = None;
  sixth = None;
  seventh = None;
}

abbrev pub found_in : (s : Bytes) (e : Bool) (ts : Items) → Members
found_in s e ts = fold_items (λ a p v t. step_of s e a p v) no_members ts

-- ---- what stands at a place, where a value may hold no value
abbrev pub on_start : Option Kind → Start → Option Kind
on_start k Leaf = k
on_start k (Empty n named) = None
on_start k (Many n named) = None

unfoldable pub leaf_at : Bytes → Place → Option Kind
leaf_at s at = on_start (scalar_at s at) (start_at s at)

-- f of the value there
abbrev pub got_or : {A : Type 0} (f : Json → A) (z : A) (g : Got Json) → A
got_or f z none = z
got_or f z (got t n) = f t

unfoldable pub span_at : Bytes → ℕ → Span
span_at s v = got_or span_of nowhere (on_leaf s v (leaf_at s v))

unfoldable pub number_leaf : Bytes → ℕ → ℤ
number_leaf s v = got_or (number_spelled s) (pos 0) (on_leaf s v (leaf_at s v))

abbrev pub span_found : Bytes → Option ℕ → Span
span_found s None = nowhere
span_found s (Some v) = span_at s v

abbrev pub number_found : Bytes → Option ℕ → ℤ
number_found s None = pos 0
number_found s (Some v) = number_leaf s v

abbrev pub bound_found : Bytes → Option ℕ → Option ℤ
bound_found s None = None
bound_found s (Some v) = Some (number_leaf s v)

-- a filter by its members, and the place of its # conditions
abbrev pub filter_found : (s : Bytes) (m : Members) (c : Option ℕ) → FilterParts
filter_found s m c = record {
  ids = m.first;
  authors = m.second;
  kinds = m.third;
  since = bound_found s m.fourth;
  until = bound_found s m.fifth;
  limit = bound_found s m.sixth;
  conditions = c;
}

abbrev pub place_found : Option ℕ → ℕ
place_found None = 0
place_found (Some v) = v

unfoldable pub body_found : Bytes → Members → Body
body_found s m = record {
  pubkey = span_found s m.second;
  created_at = number_found s m.third;
  kind = number_found s m.fourth;
  tags = place_found m.fifth;
  content = span_found s m.sixth;
}

-- ---- a message by places: its first element, which is a word, and its second at j
abbrev pub word_opening : Word → Opening
word_opening event = opening.Event
word_opening req = opening.Req
word_opening close = opening.Close
word_opening other = opening.Other

unfoldable pub opening_at : Bytes → ℕ → Opening
opening_at s i = word_opening (word_of (name_at s i))

abbrev pub element_place : Element → ℕ
element_place (element.At v) = v
element_place element.Ended = 0
element_place element.Broken = 0

unfoldable pub word_place : Bytes → ℕ
word_place s = element_place (start_element (start_at s (ws_at s 0)))

unfoldable pub string_after : Bytes → ℕ → ℕ
string_after s i = element_place (next_of s i)

-- whether an element is the string EVENT
unfoldable pub is_event_at : Bytes → Element → Bool
is_event_at s (element.At v) = same_bytes (decode (part s (span_at s v).start (span_at s v).len)) event_word
is_event_at s element.Ended = false
is_event_at s element.Broken = false

unfoldable pub parts_at : (s : Bytes) (x : Opening) (j : ℕ) → Result Message Refusal
parts_at s opening.Event j = Ok (message.Event (event_at s j))
parts_at s opening.Req j = Ok (message.Req (record { subscription = span_at s j; filters = string_after s j }))
parts_at s opening.Close j = Ok (message.Close (span_at s j))
parts_at s opening.Other j = Err (plain_refusal 5)

-- ---- the filters of a REQ, one element after the other
abbrev pub following_of : Bytes → Element → Element
following_of s (element.At v) = next_of s v
following_of s element.Ended = element.Ended
following_of s element.Broken = element.Broken

abbrev pub filter_after : Bytes → Element → FilterParts
filter_after s (element.At v) = filter_at s v
filter_after s element.Ended = no_filter
filter_after s element.Broken = no_filter

-- ---- what a refusal's reply names
unfoldable pub label_named : Bytes → Span → Named
label_named s p =
    cond (outside 1 most_characters (character_count (part s p.start p.len))) names.Nothing (names.Subscription p)

unfoldable pub named_at : (s : Bytes) (x : Opening) (j : ℕ) → Named
named_at s opening.Event j = id_named s (event_at s j).id
named_at s opening.Req j = label_named s (span_at s j)
named_at s opening.Close j = names.Nothing
named_at s opening.Other j = names.Nothing

-- ---- lent parts: the lowest row that holds, and no_row where none does
abbrev pub no_row : ℕ
no_row = 9

unfoldable pub rank : (row2 row4 row5 row6 row7 row8 : Bool) → ℕ
rank row2 row4 row5 row6 row7 row8 =
    cond row2 2 (cond row4 4 (cond row5 5 (cond row6 6 (cond row7 7 (cond row8 8 no_row)))))

abbrev pub row_told : Row → ℕ
row_told row = cond (eqb row no_row) 0 row

abbrev pub rank_of : Row → ℕ
rank_of row = cond (eqb row 0) no_row row

-- the lowest row by six tests, for laws that go through their cases
abbrev pub lowest_by : (row2 row4 row5 row6 row7 row8 : Bool) → Row
lowest_by a b c d e f = lowest (record { row2 = a; row4 = b; row5 = c; row6 = d; row7 = e; row8 = f })

-- x is the lowest of the rows that hold
pub record LowestRank (x : ℕ) (row2 row4 row5 row6 row7 row8 : Bool) : Type 0 where
  pub is : x ≡ rank row2 row4 row5 row6 row7 row8

-- the rows of the value at a place, where a sort must stand
abbrev pub ValueRank : (b : Bytes) (at : Place) (k : Sort) (x : ℕ) → Type 0
ValueRank b at k x =
    LowestRank x (value2 b at) (value4 b at) (value5 (fits b k) b at) (on_value (sort6 b k) (value_at b at))
    (on_value (sort7 b k) (value_at b at)) (on_value (sort8 b k) (value_at b at))

abbrev pub ListRank : (b : Bytes) (l : Option ℕ) (k : Sort) (x : ℕ) → Type 0
ListRank b l k x =
    LowestRank x (in_list (value2 b) l) (in_list (value4 b) l) (in_list (value5 (fits b k) b) l)
    (in_list (λ v. on_value (sort6 b k) (value_at b v)) l)
    (in_list (λ v. on_value (sort7 b k) (value_at b v)) l) (in_list (λ v. on_value (sort8 b k) (value_at b v)) l)
