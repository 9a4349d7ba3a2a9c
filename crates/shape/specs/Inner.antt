-- The walk behind the code: a form for each place of a message, a slot for each member, and the least fault of a part
-- where its form must stand, no_fault for none. Only private contracts speak of it; the proofs join it to Rows and
-- Offsets.
use Rattle.std.specs.Prelude.{ℕ, ◌+◌, ◌-◌, ◌/◌, ◌%◌, ◌^◌, min, List, Bool, true, false, cond, get_or, eqb, leb, ltb, ℤ, pos, neg_ℤ, Option, Some, None}
use Rattle.std.specs.Int.Bits.{bit_or}
use Rattle.json_tree.specs.Grammar.{is_between}
use Rattle.json_tree.specs.Tree.{Json, word, num, str, arr, obj, Items, nil, item, Got, none, got}
use Rattle.json_tree.specs.declared.Start.{Start}
use Rattle.json_tree.specs.declared.Start.TheVariants.{Leaf, Empty, Many}
use Rattle.rows.specs.Strings.{part, spelled_at}
use Rattle.wire.specs.Limits.{widest, most_small, hex_length, sig_length, most_tags, most_strings, most_filters, most_members}
use Rattle.wire.specs.Limits.{most_conditions, most_characters}
use Rattle.wire.specs.Bytes.{Bytes, Place, Row, same_bytes}
use Rattle.spell.specs.Spell.{decode, refuses, character_count, is_hex_of}
use Rattle.numeral.specs.Whole.{whole_of, whole_answer, is_within}
use Rattle.shape.specs.declared.Judged.{Judged}
use Rattle.shape.specs.declared.Item.{Item}
use Rattle.shape.specs.declared.Tally.{Tally}
use Rattle.shape.specs.Shape.{name_at, id_name, pubkey_name, created_at_name, kind_name, tags_name, content_name, sig_name}
use Rattle.shape.specs.Shape.{ids_name, authors_name, kinds_name, since_name, until_name, limit_name, is_condition, Word}
use Rattle.shape.specs.Shape.{event, req, close, other, word_of}

-- ---- faults: a row, and with rows 6 and 7 the place that breaks it, as one number with 2^48 places to a row. The least
-- of two faults has the lower row, and of one row the earlier place
abbrev pub Fault : Type 0
Fault = ℕ

abbrev pub places : ℕ
places = 281474976710656

abbrev pub last_place : Place
last_place = 281474976710655

abbrev pub STRING : Fault
STRING = 1125899906842624

abbrev pub SHAPE : Fault
SHAPE = 1407374883553280

abbrev pub NUMBER : Fault
NUMBER = 1688849860263936

abbrev pub HEX : Fault
HEX = 1970324836974592

abbrev pub COUNT : Fault
COUNT = 2251799813685248

-- above them all
abbrev pub no_fault : Fault
no_fault = 2533274790395904

abbrev pub placed : (row : Fault) (v : Place) → Fault
placed row v = row + min v last_place

-- a fault's row, 0 for none, and its offset
unfoldable pub fault_row : Fault → Row
fault_row x = cond (eqb x no_fault) 0 (x / places % 256)

unfoldable pub fault_offset : Fault → Option ℕ
fault_offset x = cond (ltb x NUMBER) None (cond (ltb x COUNT) (Some (x % places)) None)

-- ---- the forms. NEVER: nothing may stand there, nor in it
abbrev pub NEVER : ℕ
NEVER = 0

abbrev pub TEXT : ℕ
TEXT = 1

-- a subscription id
abbrev pub LABEL : ℕ
LABEL = 2

abbrev pub HEX64 : ℕ
HEX64 = 3

abbrev pub HEX128 : ℕ
HEX128 = 4

abbrev pub TIME : ℕ
TIME = 5

-- kind, limit
abbrev pub SMALL : ℕ
SMALL = 6

abbrev pub EVENT : ℕ
EVENT = 7

abbrev pub FILTER : ℕ
FILTER = 8

-- from here on arrays: the tags, one tag, the lists of a filter, and a whole message by its first word
abbrev pub TAGLIST : ℕ
TAGLIST = 9

abbrev pub TAG : ℕ
TAG = 10

abbrev pub TEXTS : ℕ
TEXTS = 11

abbrev pub HEXES : ℕ
HEXES = 12

abbrev pub SMALLS : ℕ
SMALLS = 13

abbrev pub OFFER : ℕ
OFFER = 14

abbrev pub REQUEST : ℕ
REQUEST = 15

abbrev pub CLOSING : ℕ
CLOSING = 16

-- ---- the slots of members, each with a number of its own: of an event, of a name that neither has, of a filter
abbrev pub ID : ℕ
ID = 0

abbrev pub PUBKEY : ℕ
PUBKEY = 1

abbrev pub CREATED : ℕ
CREATED = 2

abbrev pub KIND : ℕ
KIND = 3

abbrev pub TAGS : ℕ
TAGS = 4

abbrev pub CONTENT : ℕ
CONTENT = 5

abbrev pub SIG : ℕ
SIG = 6

abbrev pub UNKNOWN : ℕ
UNKNOWN = 7

abbrev pub IDS : ℕ
IDS = 8

abbrev pub AUTHORS : ℕ
AUTHORS = 9

abbrev pub KINDS : ℕ
KINDS = 10

abbrev pub SINCE : ℕ
SINCE = 11

abbrev pub UNTIL : ℕ
UNTIL = 12

abbrev pub LIMIT : ℕ
LIMIT = 13

-- # and a letter: from LOWER on a to z, from UPPER on A to Z
abbrev pub LOWER : ℕ
LOWER = 14

abbrev pub UPPER : ℕ
UPPER = 40

-- of these e, the fifth letter, and p, the sixteenth
abbrev pub LETTER_E : ℕ
LETTER_E = LOWER + 4

abbrev pub LETTER_P : ℕ
LETTER_P = LOWER + 15

-- ---- values that hold no value, at the place v
unfoldable pub bounds : (low high n : ℕ) → Fault
bounds low high n = cond (ltb n low) COUNT (cond (ltb high n) COUNT no_fault)

unfoldable pub hex_fault : (k : ℕ) (v : Place) (p : Bytes) → Fault
hex_fault k v p = cond (is_hex_of k p) no_fault (placed HEX v)

unfoldable pub string_form : (f : ℕ) (v : Place) (p : Bytes) → Fault
string_form f v p =
    cond (eqb f TEXT) no_fault
    (cond (eqb f LABEL) (bounds 1 most_characters (character_count p))
    (cond (eqb f HEX64) (hex_fault hex_length v p)
    (cond (eqb f HEX128) (hex_fault sig_length v p) SHAPE)))

unfoldable pub string_fault : (f : ℕ) (v : Place) (p : Bytes) → Fault
string_fault f v p = cond (refuses p) STRING (string_form f v p)

unfoldable pub range_fault : (low high : ℤ) (v : Place) (p : Bytes) → Fault
range_fault low high v p = cond (is_within (whole_answer (whole_of p)) low high) no_fault (placed NUMBER v)

unfoldable pub number_fault : (f : ℕ) (v : Place) (p : Bytes) → Fault
number_fault f v p =
    cond (eqb f TIME) (range_fault (neg_ℤ (pos widest)) (pos widest) v p)
    (cond (eqb f SMALL) (range_fault (pos 0) (pos most_small) v p) SHAPE)

-- ---- arrays and objects: the form inside
unfoldable pub group_form : ℕ → Bool → ℕ
group_form f named =
    cond named (cond (eqb f EVENT) EVENT (cond (eqb f FILTER) FILTER NEVER)) (cond (ltb f TAGLIST) NEVER f)

-- ---- elements: element k of an array has form k
-- a message: its word, the second element, and those after it
unfoldable pub message_form : (k second later : ℕ) → ℕ
message_form k second later = cond (eqb k 0) TEXT (cond (eqb k 1) second later)

unfoldable pub element_form : (f k : ℕ) → ℕ
element_form f k =
    cond (eqb f TAGLIST) TAG
    (cond (eqb f TAG) TEXT
    (cond (eqb f TEXTS) TEXT
    (cond (eqb f HEXES) HEX64
    (cond (eqb f SMALLS) SMALL
    (cond (eqb f OFFER) (message_form k EVENT NEVER)
    (cond (eqb f REQUEST) (message_form k LABEL FILTER)
    (cond (eqb f CLOSING) (message_form k LABEL NEVER) NEVER)))))))

-- and there are n
abbrev pub exactly : (n k : ℕ) → Fault
exactly n k = cond (eqb k n) no_fault SHAPE

-- ---- members
-- which of six names w is, of an event (b) or of a filter, from 0 on, or else k
abbrev pub among : (w : Bytes) (b : Bool) (k : ℕ) → ℕ
among w b k =
    cond (same_bytes w (cond b id_name ids_name)) 0
    (cond (same_bytes w (cond b pubkey_name authors_name)) 1
    (cond (same_bytes w (cond b created_at_name kinds_name)) 2
    (cond (same_bytes w (cond b kind_name since_name)) 3
    (cond (same_bytes w (cond b tags_name until_name)) 4
    (cond (same_bytes w (cond b content_name limit_name)) 5 k)))))

-- ID to CONTENT, SIG
unfoldable pub event_slot : Bytes → ℕ
event_slot w = among w true (cond (same_bytes w sig_name) SIG UNKNOWN)

unfoldable pub letter_slot : ℕ → ℕ
letter_slot b = cond (is_between 97 122 b) (b - 97 + LOWER) (cond (is_between 65 90 b) (b - 65 + UPPER) UNKNOWN)

unfoldable pub condition_slot : Bytes → ℕ
condition_slot w = cond (is_condition w) (letter_slot (get_or w 1 0)) UNKNOWN

-- IDS to LIMIT, # and a letter
unfoldable pub filter_slot : Bytes → ℕ
filter_slot w = cond (eqb (among w false 6) 6) (condition_slot w) (among w false 6 + IDS)

unfoldable pub name_slot : ℕ → Bytes → ℕ
name_slot f w = cond (eqb f EVENT) (event_slot w) (cond (eqb f FILTER) (filter_slot w) UNKNOWN)

unfoldable pub event_form : ℕ → ℕ
event_form slot =
    cond (eqb slot ID) HEX64 (cond (eqb slot PUBKEY) HEX64
    (cond (eqb slot CREATED) TIME (cond (eqb slot KIND) SMALL
    (cond (eqb slot TAGS) TAGLIST (cond (eqb slot CONTENT) TEXT
    (cond (eqb slot SIG) HEX128 NEVER))))))

unfoldable pub filter_form : ℕ → ℕ
filter_form slot =
    cond (eqb slot LETTER_E) HEXES (cond (eqb slot LETTER_P) HEXES (cond (leb LOWER slot) TEXTS
    (cond (eqb slot IDS) HEXES (cond (eqb slot AUTHORS) HEXES (cond (eqb slot KINDS) SMALLS
    (cond (eqb slot SINCE) TIME (cond (eqb slot UNTIL) TIME (cond (eqb slot LIMIT) SMALL NEVER))))))))

unfoldable pub member_form : (f slot : ℕ) → ℕ
member_form f slot = cond (eqb f EVENT) (event_form slot) (cond (eqb f FILTER) (filter_form slot) NEVER)

-- row 4 of a name
unfoldable pub name_fault : Bytes → Fault
name_fault p = cond (refuses p) STRING no_fault

-- ---- items
-- a member of an object of the form f, whose name is spelled p
unfoldable pub member_item : ℕ → Bytes → Item
member_item f p = record {
  slot = name_slot f (decode p);
  form = member_form f (name_slot f (decode p));
  fault = name_fault p;
}

-- item k, which begins at p
unfoldable pub item_of : (s : Bytes) (f : ℕ) (named : Bool) (k p : ℕ) → Item
item_of s f named k p =
    cond named (member_item f (spelled_at s p)) (record { slot = UNKNOWN; form = element_form f k; fault = no_fault })

-- ---- from item to item: the least fault so far, the slots taken, a bit each, and the # conditions, to one more than may
-- be. No two slots of an event, and no two of a filter, have one bit
abbrev pub bit_of : ℕ → ℕ
bit_of slot = slot % 64

unfoldable pub is_in : ℕ → ℕ → Bool
is_in bit seen = eqb (seen / 2 ^ bit % 2) 1

-- a member that is there already
unfoldable pub once_fault : (named : Bool) (slot seen : ℕ) → Fault
once_fault named slot seen = cond named (cond (is_in (bit_of slot) seen) SHAPE no_fault) no_fault

unfoldable pub marks_after : ℕ → ℕ → ℕ
marks_after slot marks = cond (ltb slot LOWER) marks (min (marks + 1) 5)

unfoldable pub fresh : Tally
fresh = record { fault = no_fault; seen = 0; marks = 0 }

unfoldable pub stepped : (named : Bool) (a : Tally) (it : Item) (x : Fault) → Tally
stepped named a it x = record {
  fault = min a.fault (min it.fault (min x (once_fault named it.slot a.seen)));
  seen = bit_or a.seen (2 ^ bit_of it.slot);
  marks = marks_after it.slot a.marks;
}

-- all seven members of an event: the lowest seven bits
unfoldable pub is_full : ℕ → Bool
is_full seen = eqb (seen % 128) 127

-- k items in all
unfoldable pub end_fault : (f k : ℕ) (a : Tally) → Fault
end_fault f k a =
    cond (eqb f EVENT) (cond (is_full a.seen) no_fault SHAPE)
    (cond (eqb f FILTER) (bounds 0 most_conditions a.marks)
    (cond (eqb f TAGLIST) (bounds 0 most_tags k)
    (cond (eqb f TAG) (bounds 1 most_strings k)
    (cond (eqb f NEVER) SHAPE
    (cond (ltb f OFFER) (bounds 1 most_members k)
    (cond (eqb f REQUEST) (cond (ltb k 2) SHAPE (bounds 3 (2 + most_filters) k)) (exactly 2 k)))))))

unfoldable pub closed : (f k : ℕ) (a : Tally) → Fault
closed f k a = min a.fault (end_fault f k a)

-- ---- the walk
unfoldable mutual
  -- a value at v, where the form f must stand
  pub fault_of : List ℕ → ℕ → ℕ → Json → ℕ
  fault_of s f v (word a n) = SHAPE
  fault_of s f v (num a n) = number_fault f v (part s a n)
  fault_of s f v (str a n) = string_fault f v (part s a n)
  fault_of s f v (arr ts) = fault_items s false (group_form f false) 0 fresh ts
  fault_of s f v (obj ts) = fault_items s true (group_form f true) 0 fresh ts

  -- the items from number k on
  pub fault_items : List ℕ → Bool → ℕ → ℕ → Tally → Items → ℕ
  fault_items s named f k a nil = closed f k a
  fault_items s named f k a (item p v t ts) =
      fault_items s named f (k + 1) (stepped named a (item_of s f named k p)
      (fault_of s (item_of s f named k p).form v t)) ts

-- where a value ends, and the least fault in it
abbrev pub ends : (n : Place) (fault : Fault) → Option Judged
ends n fault = Some (record { end = n; fault = fault })

unfoldable pub judged_of : (s : Bytes) (f : ℕ) (v : Place) (g : Got Json) → Option Judged
judged_of s f v none = None
judged_of s f v (got t n) = ends n (fault_of s f v t)

-- ---- the form of a whole message, by its first word
unfoldable pub word_form : Word → ℕ
word_form event = OFFER
word_form req = REQUEST
word_form close = CLOSING
word_form other = NEVER

abbrev pub opening_of : Bytes → Start → ℕ
opening_of s Leaf = NEVER
opening_of s (Empty n named) = NEVER
opening_of s (Many first named) = cond named NEVER (word_form (word_of (name_at s first)))
