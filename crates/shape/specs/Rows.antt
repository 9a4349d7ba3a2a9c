-- 01, "Numbers the relay answers with": rows 4 to 8 of a message, each by itself, over the tree t of the text s. Row r
-- holds where its sentence is broken anywhere in the message.
use Rattle.std.specs.Prelude.{ℕ, Bool, false, cond, not, ◌||◌, ltb, pos, neg_ℤ}
use Rattle.json_tree.specs.Tree.{Json, Items, nil, item, Got, none, got, root, on_string, on_number, on_array, on_object}
use Rattle.rows.specs.Strings.{part, refused_in}
use Rattle.rows.specs.Rows.{row1, row2, row3}
use Rattle.spell.specs.Spell.{character_count, is_hex_of}
use Rattle.wire.specs.Limits.{widest, most_small, hex_length, sig_length, most_tags, most_strings, most_filters, most_members}
use Rattle.wire.specs.Limits.{most_conditions, most_characters}
use Rattle.numeral.specs.Whole.{whole_of, whole_answer, is_within}
use Rattle.shape.specs.Shape.{any_item, count_items, count, name_at, named, id_name, pubkey_name, created_at_name}
use Rattle.shape.specs.Shape.{kind_name, tags_name, sig_name, ids_name, authors_name, kinds_name}
use Rattle.shape.specs.Shape.{since_name, until_name, limit_name, is_condition, e_condition_name, p_condition_name}
use Rattle.shape.specs.Shape.{Word, event, req, close, other, opened, has_shape}
use Rattle.wire.specs.Bytes.{Bytes, Row}

-- ---- row 4: "some string, names included, decodes to .."
abbrev pub row4 : Bytes → Json → Bool
row4 s t = refused_in s t

-- ---- row 5: "wrong shape"
abbrev pub row5 : Bytes → Json → Bool
row5 s t = not (has_shape s (opened s t).first (opened s t).rest)

-- what holds of an event, or of some filter of a REQ
abbrev pub in_message : (e f : Json → Bool) (word : Word) (ts : Items) → Bool
in_message e f event ts = any_item (λ p t. e t) ts
in_message e f req nil = false
in_message e f req (item p v t ts) = any_item (λ q u. f u) ts
in_message e f close ts = false
in_message e f other ts = false

-- ---- row 6: "An optional minus and digits, no needless leading zero, no fraction or exponent, not -0", and the ranges
unfoldable pub wrong_time : Bytes → Json → Bool
wrong_time s t = on_number (λ a n. not (is_within (whole_answer (whole_of (part s a n))) (neg_ℤ (pos widest)) (pos widest))) t

-- kind, kinds, limit: 0 to 65,535
unfoldable pub wrong_small : Bytes → Json → Bool
wrong_small s t = on_number (λ a n. not (is_within (whole_answer (whole_of (part s a n))) (pos 0) (pos most_small))) t

-- a list with a member that is wrong
abbrev pub wrong_smalls : Bytes → Json → Bool
wrong_smalls s t = on_array (any_item (λ q u. wrong_small s u)) t

unfoldable pub event_number : (s : Bytes) (p : ℕ) (t : Json) → Bool
event_number s p t = cond (named s created_at_name p) (wrong_time s t) (cond (named s kind_name p) (wrong_small s t) false)

unfoldable pub filter_number : (s : Bytes) (p : ℕ) (t : Json) → Bool
filter_number s p t =
    cond (named s kinds_name p) (wrong_smalls s t)
    (cond (named s since_name p) (wrong_time s t)
    (cond (named s until_name p) (wrong_time s t)
    (cond (named s limit_name p) (wrong_small s t) false)))

unfoldable pub row6 : Bytes → Json → Bool
row6 s t =
    in_message (on_object (any_item (event_number s))) (on_object (any_item (filter_number s))) (opened s t).first
    (opened s t).rest

-- ---- row 7: "Lower case: 64 characters for id, pubkey and members of ids and authors; 128 for sig". 02, Wish 1, adds
-- what NIP-01 says: "The ids, authors, #e and #p filter lists MUST contain exact 64-character lowercase hex values";
-- "#E, #P and other letters stay free strings"
unfoldable pub wrong_hex : (k : ℕ) (s : Bytes) (t : Json) → Bool
wrong_hex k s t = on_string (λ a n. not (is_hex_of k (part s a n))) t

-- a list with a member that is wrong: ids, authors, #e, #p
abbrev pub wrong_hexes : Bytes → Json → Bool
wrong_hexes s t = on_array (any_item (λ q u. wrong_hex hex_length s u)) t

unfoldable pub event_hex : (s : Bytes) (p : ℕ) (t : Json) → Bool
event_hex s p t =
    cond (named s id_name p) (wrong_hex hex_length s t)
    (cond (named s pubkey_name p) (wrong_hex hex_length s t) (cond (named s sig_name p) (wrong_hex sig_length s t) false))

unfoldable pub filter_hex : (s : Bytes) (p : ℕ) (t : Json) → Bool
filter_hex s p t =
    cond (named s ids_name p) (wrong_hexes s t)
    (cond (named s authors_name p) (wrong_hexes s t)
    (cond (named s e_condition_name p) (wrong_hexes s t)
    (cond (named s p_condition_name p) (wrong_hexes s t) false)))

unfoldable pub row7 : Bytes → Json → Bool
row7 s t =
    in_message (on_object (any_item (event_hex s))) (on_object (any_item (filter_hex s))) (opened s t).first
    (opened s t).rest

-- ---- row 8: "At most 64 tags, 1 to 16 strings in a tag; 1 to 4 filters; 1 to 16 members in a list; at most 4 #
-- conditions in a filter; subscription ids of 1 to 64 characters (code points)"
abbrev pub outside : (low high n : ℕ) → Bool
outside low high n = ltb n low || ltb high n

unfoldable pub wrong_tag : Json → Bool
wrong_tag t = on_array (λ ts. outside 1 most_strings (count ts)) t

abbrev pub wrong_tags : Json → Bool
wrong_tags t = on_array (λ ts. outside 0 most_tags (count ts) || any_item (λ q u. wrong_tag u) ts) t

unfoldable pub event_count : (s : Bytes) (p : ℕ) (t : Json) → Bool
event_count s p t = cond (named s tags_name p) (wrong_tags t) false

unfoldable pub wrong_list : Json → Bool
wrong_list t = on_array (λ ts. outside 1 most_members (count ts)) t

unfoldable pub wrong_filter : (s : Bytes) (p : ℕ) (t : Json) → Bool
wrong_filter s p t =
    cond (named s ids_name p) (wrong_list t)
    (cond (named s authors_name p) (wrong_list t)
    (cond (named s kinds_name p) (wrong_list t)
    (cond (is_condition (name_at s p)) (wrong_list t) false)))

unfoldable pub filter_counts : Bytes → Items → Bool
filter_counts s ts =
    any_item (wrong_filter s) ts || outside 0 most_conditions (count_items (λ p t. is_condition (name_at s p)) ts)

unfoldable pub wrong_subscription : Bytes → Json → Bool
wrong_subscription s t = on_string (λ a n. outside 1 most_characters (character_count (part s a n))) t

-- the subscription id and the number of filters
abbrev pub wrong_request : (s : Bytes) (word : Word) (ts : Items) → Bool
wrong_request s event ts = false
wrong_request s req nil = false
wrong_request s req (item p v t ts) = wrong_subscription s t || outside 1 most_filters (count ts)
wrong_request s close ts = any_item (λ p t. wrong_subscription s t) ts
wrong_request s other ts = false

unfoldable pub row8 : Bytes → Json → Bool
row8 s t =
    wrong_request s (opened s t).first (opened s t).rest
    || in_message (on_object (any_item (event_count s))) (on_object (filter_counts s)) (opened s t).first (opened s t).rest

-- ---- the lowest of rows 1 to 8 that holds of a message, or 0
unfoldable pub tree_row : Bytes → Json → Row
tree_row s t = cond (row4 s t) 4 (cond (row5 s t) 5 (cond (row6 s t) 6 (cond (row7 s t) 7 (cond (row8 s t) 8 0))))

abbrev pub root_row : Bytes → Got Json → Row
root_row s none = 3
root_row s (got t n) = tree_row s t

-- row 1, where the message is told to be too long, then the others
abbrev pub message_row_if : (isLong : Bool) (s : Bytes) → Row
message_row_if isLong s = cond isLong 1 (cond (row2 s) 2 (cond (row3 s) 3 (root_row s (root s))))

unfoldable pub message_row : Bytes → Row
message_row s = message_row_if (row1 s) s
