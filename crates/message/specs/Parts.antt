-- 01, "Shape": the parts of an event and of a filter, as places in the text s, over the items of its object. On an
-- object of another shape what is not there is empty, 0 or absent.
use Rattle.std.specs.Prelude.{ℕ, List, [], ◌∷◌, map, cond, ℤ, pos, length, get_or, Option, Some, None}
use Rattle.json_tree.specs.Tree.{Json, Items, nil, item, Got, none, got, depth, tree_at, of_string, of_number, of_object}
use Rattle.rows.specs.Strings.{part}
use Rattle.numeral.specs.Whole.{whole_of, whole_answer}
use Rattle.numeral.specs.declared.Whole.{Whole}
use Rattle.numeral.specs.declared.Whole.TheVariants.{Value, Large, Malformed}
use Rattle.shape.specs.Shape.{named, id_name, pubkey_name, created_at_name, kind_name, tags_name, content_name, sig_name}
use Rattle.shape.specs.Shape.{ids_name, authors_name, kinds_name, since_name, until_name, limit_name}
use Rattle.message.specs.declared.Span.{Span}
use Rattle.message.specs.declared.Body.{Body}
use Rattle.message.specs.declared.EventParts.{EventParts}
use Rattle.message.specs.declared.FilterParts.{FilterParts}
use Rattle.message.specs.declared.Filters.{Filters}
use Rattle.message.specs.declared.Element.TheVariants.{At}
use Rattle.message.specs.Lists.{elements_from}
use Rattle.wire.specs.Bytes.{Bytes, Place}

-- the member of a name: the place of its value, and the value
pub data Member : Type 0 where
  missing : Member
  member : ℕ → Json → Member

unfoldable pub member_of : (s w : Bytes) (ts : Items) → Member
member_of s w nil = missing
member_of s w (item p v t ts) = cond (named s w p) (member v t) (member_of s w ts)

-- ---- what a member holds
abbrev pub nowhere : Span
nowhere = record { start = 0; len = 0 }

abbrev pub span_of : Json → Span
span_of = of_string nowhere (λ a n. record { start = a; len = n })

abbrev pub whole_value : Whole → ℤ
whole_value (Value z) = z
whole_value Large = pos 0
whole_value Malformed = pos 0

abbrev pub number_spelled : Bytes → Json → ℤ
number_spelled s = of_number (pos 0) (λ a n. whole_value (whole_answer (whole_of (part s a n))))

abbrev pub span_in : Member → Span
span_in missing = nowhere
span_in (member v t) = span_of t

abbrev pub number_in : Bytes → Member → ℤ
number_in s missing = pos 0
number_in s (member v t) = number_spelled s t

abbrev pub place_in : Member → ℕ
place_in missing = 0
place_in (member v t) = v

abbrev pub bound_in : Bytes → Member → Option ℤ
bound_in s missing = None
bound_in s (member v t) = Some (number_spelled s t)

abbrev pub listed_in : Member → Option ℕ
listed_in missing = None
listed_in (member v t) = Some v

-- ---- the parts
unfoldable pub body_of : Bytes → Items → Body
body_of s ts = record {
  pubkey = span_in (member_of s pubkey_name ts);
  created_at = number_in s (member_of s created_at_name ts);
  kind = number_in s (member_of s kind_name ts);
  tags = place_in (member_of s tags_name ts);
  content = span_in (member_of s content_name ts);
}

unfoldable pub event_parts_of : Bytes → Items → EventParts
event_parts_of s ts = record {
  id = span_in (member_of s id_name ts);
  body = body_of s ts;
  sig = span_in (member_of s sig_name ts);
}

-- the filter whose object stands at v
unfoldable pub filter_parts_of : (s : Bytes) (v : ℕ) (ts : Items) → FilterParts
filter_parts_of s v ts = record {
  ids = listed_in (member_of s ids_name ts);
  authors = listed_in (member_of s authors_name ts);
  kinds = listed_in (member_of s kinds_name ts);
  since = bound_in s (member_of s since_name ts);
  until = bound_in s (member_of s until_name ts);
  limit = bound_in s (member_of s limit_name ts);
  conditions = Some v;
}

-- the items of an object; none of any other value
abbrev pub members_of : Json → Items
members_of = of_object nil (λ ts. ts)

-- ---- the parts at a place. The value there may have as many brackets and braces open at once as a message: so what
-- stands inside a message is read there as it is in the message's own tree
abbrev pub members_got : Got Json → Items
members_got none = nil
members_got (got t n) = members_of t

-- the items of the object at a place; none where there is no object
unfoldable pub members_at : Bytes → Place → Items
members_at s at = members_got (tree_at s depth at)

unfoldable pub event_at : Bytes → Place → EventParts
event_at s at = event_parts_of s (members_at s at)

unfoldable pub filter_at : Bytes → Place → FilterParts
filter_at s at = filter_parts_of s at (members_at s at)

-- ---- 01: "REQ: a string, then objects"; "1 to 4 filters". The filters from a place on, as values
-- a filter that has nothing
abbrev pub no_filter : FilterParts
no_filter = record {
  ids = None;
  authors = None;
  kinds = None;
  since = None;
  until = None;
  limit = None;
  conditions = None;
}

-- the first four of some, and behind them filters that have nothing
abbrev pub first_four : List FilterParts → List FilterParts
first_four l = get_or l 0 no_filter ∷ get_or l 1 no_filter ∷ get_or l 2 no_filter ∷ get_or l 3 no_filter ∷ []

-- all of them are counted
unfoldable pub filters_at : Bytes → Place → Filters
filters_at s at =
    record { parts = first_four (map (filter_at s) (elements_from s (At at))); n = length (elements_from s (At at)) }
