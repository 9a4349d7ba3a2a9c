-- Parts lent by anybody, over the buffer b in which they lie. 01: "Parts of an event, filter or reply are tested by
-- rows 2 and 4 to 8 (5 also if a part lies outside its buffer or is no RFC 8259 spelling)". Each row by itself, and
-- then the lowest that holds, or 0.
use Rattle.std.specs.Prelude.{ℕ, ◌+◌, Bool, false, cond, not, ◌&&◌, ◌||◌, leb, ℤ, pos, neg_ℤ, length, Option, Some, None}
use Rattle.utf8.specs.Utf8.{is_utf8}
use Rattle.json_tree.specs.Grammar.{is_spelling}
use Rattle.json_tree.specs.Tree.{Json, Got, none, got, depth, tree_at, on_object}
use Rattle.spell.specs.Spell.{character_count, refuses, is_hex_of}
use Rattle.wire.specs.Limits.{widest, most_small, hex_length, sig_length, most_characters}
use Rattle.numeral.specs.Whole.{is_within}
use Rattle.numeral.specs.declared.Whole.TheVariants.{Value}
use Rattle.rows.specs.Strings.{part, refused_in}
use Rattle.shape.specs.Shape.{any_item, is_string, is_number, is_array_of, is_filter}
pub use Rattle.shape.specs.Values.{own_text}
pub use Rattle.shape.specs.Rows.{wrong_smalls, wrong_hexes}
use Rattle.shape.specs.Rows.{outside, wrong_tags, wrong_list, filter_number, filter_hex, filter_counts}
use Rattle.message.specs.declared.Span.{Span}
use Rattle.message.specs.declared.Body.{Body}
use Rattle.message.specs.declared.EventParts.{EventParts}
use Rattle.message.specs.declared.FilterParts.{FilterParts}
use Rattle.wire.specs.Bytes.{Bytes, Place, Row}

-- which of rows 2 and 4 to 8 hold
pub record RowsHeld : Type 0 where
  pub row2 : Bool
  pub row4 : Bool
  pub row5 : Bool
  pub row6 : Bool
  pub row7 : Bool
  pub row8 : Bool

-- "Where several hold, the lowest number is given"; 0 where none does
abbrev pub lowest : RowsHeld → Row
lowest r =
    cond r.row2 2 (cond r.row4 4 (cond r.row5 5 (cond r.row6 6 (cond r.row7 7 (cond r.row8 8 0)))))

-- ---- a string part. One that lies outside b adds row 5 only, and so does one that is no spelling, unless it is not
-- UTF-8
abbrev pub span_bytes : Bytes → Span → Bytes
span_bytes b p = part b p.start p.len

unfoldable pub is_inside : Bytes → Span → Bool
is_inside b p = leb (p.start + p.len) (length b)

unfoldable pub is_spelled : Bytes → Span → Bool
is_spelled b p = is_inside b p && is_spelling (span_bytes b p)

unfoldable pub string2 : Bytes → Span → Bool
string2 b p = is_inside b p && not (is_utf8 (span_bytes b p))

unfoldable pub string4 : Bytes → Span → Bool
string4 b p = is_spelled b p && refuses (span_bytes b p)

unfoldable pub string5 : Bytes → Span → Bool
string5 b p = not (is_spelled b p)

-- row 7: k characters of lower-case hex
unfoldable pub string7 : (k : ℕ) (b : Bytes) (p : Span) → Bool
string7 k b p = is_spelled b p && not (is_hex_of k (span_bytes b p))

-- row 8 of a subscription id: "1 to 64 characters (code points)"
unfoldable pub subscription8 : Bytes → Span → Bool
subscription8 b p = is_spelled b p && outside 1 most_characters (character_count (span_bytes b p))

-- a part by itself: any string, hex of k characters, a subscription id
unfoldable pub string_row : Bytes → Span → Row
string_row b p = lowest (record {
  row2 = string2 b p;
  row4 = string4 b p;
  row5 = string5 b p;
  row6 = false;
  row7 = false;
  row8 = false;
})

unfoldable pub hex_row : (k : ℕ) (b : Bytes) (p : Span) → Row
hex_row k b p = lowest (record {
  row2 = string2 b p;
  row4 = string4 b p;
  row5 = string5 b p;
  row6 = false;
  row7 = string7 k b p;
  row8 = false;
})

unfoldable pub subscription_row : Bytes → Span → Row
subscription_row b p = lowest (record {
  row2 = string2 b p;
  row4 = string4 b p;
  row5 = string5 b p;
  row6 = false;
  row7 = false;
  row8 = subscription8 b p;
})

-- ---- a number
unfoldable pub wrong_number : (low high z : ℤ) → Bool
wrong_number low high z = not (is_within (Value z) low high)

abbrev pub time6 : ℤ → Bool
time6 z = wrong_number (neg_ℤ (pos widest)) (pos widest) z

-- kind, limit
abbrev pub small6 : ℤ → Bool
small6 z = wrong_number (pos 0) (pos most_small) z

-- ---- the value at a place, an array or an object. Row 5 where none stands there
abbrev pub on_value : (Json → Bool) → Got Json → Bool
on_value f none = false
on_value f (got t n) = f t

abbrev pub value_at : Bytes → Place → Got Json
value_at b at = tree_at b depth at

-- its own text is not UTF-8
unfoldable pub value2 : Bytes → Place → Bool
value2 b at = own_text b at (value_at b at)

unfoldable pub value4 : Bytes → Place → Bool
value4 b at = on_value (refused_in b) (value_at b at)

unfoldable pub value5 : (f : Json → Bool) (b : Bytes) (at : Place) → Bool
value5 f b at = not (on_value f (value_at b at))

-- tags: an array of arrays of strings; at most 64, each of 1 to 16 strings
abbrev pub is_tags_shape : Json → Bool
is_tags_shape t = is_array_of (is_array_of is_string) t

-- ---- the fields of an event's text
unfoldable pub body2 : Bytes → Body → Bool
body2 b p = string2 b p.pubkey || (value2 b p.tags || string2 b p.content)

unfoldable pub body4 : Bytes → Body → Bool
body4 b p = string4 b p.pubkey || (value4 b p.tags || string4 b p.content)

unfoldable pub body5 : Bytes → Body → Bool
body5 b p = string5 b p.pubkey || (value5 is_tags_shape b p.tags || string5 b p.content)

unfoldable pub body6 : Body → Bool
body6 p = time6 p.created_at || small6 p.kind

unfoldable pub body7 : Bytes → Body → Bool
body7 b p = string7 hex_length b p.pubkey

unfoldable pub body8 : Bytes → Body → Bool
body8 b p = on_value wrong_tags (value_at b p.tags)

unfoldable pub body_row : Bytes → Body → Row
body_row b p = lowest (record {
  row2 = body2 b p;
  row4 = body4 b p;
  row5 = body5 b p;
  row6 = body6 p;
  row7 = body7 b p;
  row8 = body8 b p;
})

-- ---- the parts of an event
unfoldable pub event2 : Bytes → EventParts → Bool
event2 b p = string2 b p.id || (body2 b p.body || string2 b p.sig)

unfoldable pub event4 : Bytes → EventParts → Bool
event4 b p = string4 b p.id || (body4 b p.body || string4 b p.sig)

unfoldable pub event5 : Bytes → EventParts → Bool
event5 b p = string5 b p.id || (body5 b p.body || string5 b p.sig)

unfoldable pub event7 : Bytes → EventParts → Bool
event7 b p = string7 hex_length b p.id || (body7 b p.body || string7 sig_length b p.sig)

unfoldable pub event_row : Bytes → EventParts → Row
event_row b p = lowest (record {
  row2 = event2 b p;
  row4 = event4 b p;
  row5 = event5 b p;
  row6 = body6 p.body;
  row7 = event7 b p;
  row8 = body8 b p.body;
})

-- ---- the parts of a filter: each is absent or tested
abbrev pub in_list : (ℕ → Bool) → Option ℕ → Bool
in_list f None = false
in_list f (Some v) = f v

abbrev pub in_bound : (ℤ → Bool) → Option ℤ → Bool
in_bound f None = false
in_bound f (Some z) = f z

unfoldable pub filter2 : Bytes → FilterParts → Bool
filter2 b p =
    in_list (value2 b) p.ids || (in_list (value2 b) p.authors ||
    (in_list (value2 b) p.kinds || in_list (value2 b) p.conditions))

unfoldable pub filter4 : Bytes → FilterParts → Bool
filter4 b p =
    in_list (value4 b) p.ids || (in_list (value4 b) p.authors ||
    (in_list (value4 b) p.kinds || in_list (value4 b) p.conditions))

-- the object at `conditions` is a filter; of its members those with # are taken
unfoldable pub filter5 : Bytes → FilterParts → Bool
filter5 b p =
    in_list (value5 (is_array_of is_string) b) p.ids
    || (in_list (value5 (is_array_of is_string) b) p.authors
    || (in_list (value5 (is_array_of is_number) b) p.kinds || in_list (value5 (is_filter b) b) p.conditions))

unfoldable pub filter6 : Bytes → FilterParts → Bool
filter6 b p =
    in_list (λ v. on_value (wrong_smalls b) (value_at b v)) p.kinds
    || (in_bound time6 p.since
    || (in_bound time6 p.until
    || (in_bound small6 p.limit || in_list (λ v. on_value (on_object (any_item (filter_number b))) (value_at b v))
    p.conditions)))

unfoldable pub filter7 : Bytes → FilterParts → Bool
filter7 b p =
    in_list (λ v. on_value (wrong_hexes b) (value_at b v)) p.ids
    || (in_list (λ v. on_value (wrong_hexes b) (value_at b v)) p.authors || in_list
    (λ v. on_value (on_object (any_item (filter_hex b))) (value_at b v)) p.conditions)

unfoldable pub filter8 : Bytes → FilterParts → Bool
filter8 b p =
    in_list (λ v. on_value wrong_list (value_at b v)) p.ids
    || (in_list (λ v. on_value wrong_list (value_at b v)) p.authors
    || (in_list (λ v. on_value wrong_list (value_at b v)) p.kinds || in_list
    (λ v. on_value (on_object (filter_counts b)) (value_at b v)) p.conditions))

unfoldable pub filter_row : Bytes → FilterParts → Row
filter_row b p = lowest (record {
  row2 = filter2 b p;
  row4 = filter4 b p;
  row5 = filter5 b p;
  row6 = filter6 b p;
  row7 = filter7 b p;
  row8 = filter8 b p;
})
