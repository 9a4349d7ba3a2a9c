-- 02, Wish 9: "Refusals by rows 6 and 7 also carry the byte offset, in the message, from 0, of the earliest number (row
-- 6) or string's opening quote (row 7) that breaks that row". A value's place in the tree is that of its first byte: of
-- a number its minus or its first digit, of a string its opening quote.
use Rattle.std.specs.Prelude.{ℕ, min, List, [], ◌∷◌, ◌++◌, Bool, cond, eqb, Option, Some, None}
use Rattle.json_tree.specs.Tree.{Json, Items, nil, item, Got, none, got, root, of_array, of_object}
use Rattle.wire.specs.Limits.{hex_length}
use Rattle.wire.specs.Bytes.{Bytes, Place, Row}
use Rattle.shape.specs.Shape.{Word, event, req, close, other, opened}
use Rattle.shape.specs.Rows.{wrong_small, wrong_hex, event_number, filter_number, event_hex, filter_hex, message_row}
use Rattle.shape.specs.declared.Refusal.{Refusal}

-- ---- the places of the values that break a row
-- of each item those that h gives, from the first item on
unfoldable pub collect : (h : (p v : Place) (t : Json) → List Place) (ts : Items) → List Place
collect h nil = []
collect h (item p v t ts) = h p v t ++ collect h ts

-- the place of the value itself; of a list those of its members of which g holds
abbrev pub value_places : (g : Json → Bool) (v : Place) (t : Json) → List Place
value_places g v t = of_array (v ∷ []) (collect (λ q w u. cond (g u) (w ∷ []) [])) t

-- of the members of an object of which f holds
abbrev pub member_places : (f : Place → Json → Bool) (g : Json → Bool) (ts : Items) → List Place
member_places f g ts = collect (λ p v t. cond (f p t) (value_places g v t) []) ts

-- of an event, or of the filters of a REQ
abbrev pub message_places : (e f : Items → List Place) (word : Word) (ts : Items) → List Place
message_places e f event ts = collect (λ p v t. of_object [] e t) ts
message_places e f req nil = []
message_places e f req (item p v t ts) = collect (λ q w u. of_object [] f u) ts
message_places e f close ts = []
message_places e f other ts = []

-- row 6: created_at and kind; since, until, limit and the members of kinds
unfoldable pub number_places : Bytes → Json → List Place
number_places s t =
    message_places (member_places (event_number s) (wrong_small s)) (member_places (filter_number s) (wrong_small s))
    (opened s t).first (opened s t).rest

-- row 7: id, pubkey and sig; the members of ids, authors, #e and #p
unfoldable pub hex_places : Bytes → Json → List Place
hex_places s t =
    message_places (member_places (event_hex s) (wrong_hex hex_length s)) (member_places (filter_hex s) (wrong_hex hex_length s))
    (opened s t).first (opened s t).rest

-- ---- the earliest
unfoldable pub least_of : ℕ → List ℕ → ℕ
least_of p [] = p
least_of p (q ∷ qs) = min p (least_of q qs)

abbrev pub earliest : List Place → Option ℕ
earliest [] = None
earliest (p ∷ ps) = Some (least_of p ps)

-- what a refusal by a row carries: "other rows carry none"
abbrev pub tree_offset : (row : Row) (s : Bytes) (t : Json) → Option ℕ
tree_offset row s t =
    cond (eqb row 6) (earliest (number_places s t)) (cond (eqb row 7) (earliest (hex_places s t)) None)

abbrev pub root_offset : (row : Row) (s : Bytes) (g : Got Json) → Option ℕ
root_offset row s none = None
root_offset row s (got t n) = tree_offset row s t

-- ---- refusals
-- of a message by its lowest row of 1 to 8
unfoldable pub offset_of : Bytes → Option ℕ
offset_of s = root_offset (message_row s) s (root s)

abbrev pub refusal_of : Bytes → Refusal
refusal_of s = record { row = message_row s; offset = offset_of s }

-- by any row: the offset goes with the message's own row
unfoldable pub offset_for : Bytes → Row → Option ℕ
offset_for s row = cond (eqb row (message_row s)) (offset_of s) None

abbrev pub refusal_for : Bytes → Row → Refusal
refusal_for s row = record { row = row; offset = offset_for s row }

-- "Calls lent parts and no message give no place"
abbrev pub plain_refusal : Row → Refusal
plain_refusal row = record { row = row; offset = None }
