-- 01, "Shape": what an EVENT, a REQ and a CLOSE are, over the tree of a text s. Names and the first word compare as
-- decoded. A name that begins at p is a member's; t is its value.
use Rattle.std.specs.Prelude.{ℕ, suc, Bool, true, false, cond, not, ◌&&◌, ◌||◌, eqb, leb, length, get_or}
use Rattle.json_tree.specs.Tree.{Json, word, num, str, arr, obj, Items, nil, item, on_string, on_number, on_array, on_object}
use Rattle.wire.specs.Ascii.{ascii}
use Rattle.wire.specs.Bytes.{Bytes, same_bytes}
use Rattle.spell.specs.Spell.{decode}
use Rattle.rows.specs.Strings.{part, spelled_at}

-- ---- the items of an array or an object
unfoldable pub any_item : (ℕ → Json → Bool) → Items → Bool
any_item f nil = false
any_item f (item p v t ts) = f p t || any_item f ts

unfoldable pub all_items : (ℕ → Json → Bool) → Items → Bool
all_items f nil = true
all_items f (item p v t ts) = f p t && all_items f ts

unfoldable pub count_items : (ℕ → Json → Bool) → Items → ℕ
count_items f nil = 0
count_items f (item p v t ts) = cond (f p t) (suc (count_items f ts)) (count_items f ts)

abbrev pub count : Items → ℕ
count ts = count_items (λ p t. true) ts

-- ---- names
-- what the name that begins at p decodes to
unfoldable pub name_at : Bytes → ℕ → Bytes
name_at s p = decode (spelled_at s p)

abbrev pub named : (s w : Bytes) (p : ℕ) → Bool
named s w p = same_bytes (name_at s p) w

-- ---- "Each value has its JSON type, list and tag members included"
abbrev pub is_string : Json → Bool
is_string = on_string (λ a n. true)

abbrev pub is_number : Json → Bool
is_number = on_number (λ a n. true)

abbrev pub is_array_of : (Json → Bool) → Json → Bool
is_array_of f = on_array (all_items (λ p t. f t))

-- ---- EVENT: "an object with id, pubkey, created_at, kind, tags, content, sig, each once, in any order, nothing else"
abbrev pub id_name : Bytes
id_name = ascii "id"

abbrev pub pubkey_name : Bytes
pubkey_name = ascii "pubkey"

abbrev pub created_at_name : Bytes
created_at_name = ascii "created_at"

abbrev pub kind_name : Bytes
kind_name = ascii "kind"

abbrev pub tags_name : Bytes
tags_name = ascii "tags"

abbrev pub content_name : Bytes
content_name = ascii "content"

abbrev pub sig_name : Bytes
sig_name = ascii "sig"

unfoldable pub event_member : (s : Bytes) (p : ℕ) (t : Json) → Bool
event_member s p t =
    cond (named s id_name p) (is_string t)
    (cond (named s pubkey_name p) (is_string t)
    (cond (named s created_at_name p) (is_number t)
    (cond (named s kind_name p) (is_number t)
    (cond (named s tags_name p) (is_array_of (is_array_of is_string) t)
    (cond (named s content_name p) (is_string t)
    (cond (named s sig_name p) (is_string t) false))))))

unfoldable pub once : (s w : Bytes) (ts : Items) → Bool
once s w ts = eqb (count_items (λ p t. named s w p) ts) 1

unfoldable pub is_event : Bytes → Json → Bool
is_event s t = on_object (λ ts. all_items (event_member s) ts &&
    (once s id_name ts && (once s pubkey_name ts &&
    (once s created_at_name ts && (once s kind_name ts &&
    (once s tags_name ts && (once s content_name ts && once s sig_name ts))))))) t

-- ---- "Filters may have ids, authors, kinds, since, until, limit and # with one letter a-z or A-Z, each at most once"
-- lists: ids, authors, kinds, and those whose name is # with a letter
abbrev pub ids_name : Bytes
ids_name = ascii "ids"

abbrev pub authors_name : Bytes
authors_name = ascii "authors"

abbrev pub kinds_name : Bytes
kinds_name = ascii "kinds"

abbrev pub is_letter : ℕ → Bool
is_letter b = (leb 97 b && leb b 122) || (leb 65 b && leb b 90)

unfoldable pub is_condition : Bytes → Bool
is_condition w = eqb (length w) 2 && (eqb (get_or w 0 0) 35 && is_letter (get_or w 1 0))

-- the two whose members row 7 tests (02, Wish 1)
abbrev pub e_condition_name : Bytes
e_condition_name = ascii "#e"

abbrev pub p_condition_name : Bytes
p_condition_name = ascii "#p"

-- numbers: since, until, limit
abbrev pub since_name : Bytes
since_name = ascii "since"

abbrev pub until_name : Bytes
until_name = ascii "until"

abbrev pub limit_name : Bytes
limit_name = ascii "limit"

unfoldable pub no_name_twice : Bytes → Items → Bool
no_name_twice s nil = true
no_name_twice s (item p v t ts) = not (any_item (λ q u. same_bytes (name_at s q) (name_at s p)) ts) && no_name_twice s ts

unfoldable pub filter_member : (s : Bytes) (p : ℕ) (t : Json) → Bool
filter_member s p t =
    cond (named s ids_name p) (is_array_of is_string t)
    (cond (named s authors_name p) (is_array_of is_string t)
    (cond (named s kinds_name p) (is_array_of is_number t)
    (cond (named s since_name p) (is_number t)
    (cond (named s until_name p) (is_number t)
    (cond (named s limit_name p) (is_number t)
    (cond (is_condition (name_at s p)) (is_array_of is_string t) false))))))

unfoldable pub is_filter : Bytes → Json → Bool
is_filter s t = on_object (λ ts. all_items (filter_member s) ts && no_name_twice s ts) t

-- ---- the message: its first word, and the elements after it
abbrev pub event_word : Bytes
event_word = ascii "EVENT"

abbrev pub req_word : Bytes
req_word = ascii "REQ"

abbrev pub close_word : Bytes
close_word = ascii "CLOSE"

pub data Word : Type 0 where
  event req close other : Word

unfoldable pub word_of : Bytes → Word
word_of w =
    cond (same_bytes w event_word) event (cond (same_bytes w req_word) req (cond (same_bytes w close_word) close other))

-- the first word of a message, and what follows it; `other` where no string comes first
pub record Opened : Type 0 where
  pub first : Word
  pub rest : Items

abbrev pub opened : Bytes → Json → Opened
opened s (word a n) = record { first = other; rest = nil }
opened s (num a n) = record { first = other; rest = nil }
opened s (str a n) = record { first = other; rest = nil }
opened s (obj ts) = record { first = other; rest = nil }
opened s (arr nil) = record { first = other; rest = nil }
opened s (arr (item p v (word a n) ts)) = record { first = other; rest = ts }
opened s (arr (item p v (num a n) ts)) = record { first = other; rest = ts }
opened s (arr (item p v (str a n) ts)) = record { first = word_of (decode (part s a n)); rest = ts }
opened s (arr (item p v (arr us) ts)) = record { first = other; rest = ts }
opened s (arr (item p v (obj us) ts)) = record { first = other; rest = ts }

-- one element, of which f holds; or one of which f holds, and then some of which g holds
abbrev pub is_one : (Json → Bool) → Items → Bool
is_one f nil = false
is_one f (item p v t nil) = f t
is_one f (item p v t (item q w u us)) = false

abbrev pub is_then : (f g : Json → Bool) (ts : Items) → Bool
is_then f g nil = false
is_then f g (item p v t ts) = f t && all_items (λ q u. g u) ts

abbrev pub has_shape : (s : Bytes) (word : Word) (ts : Items) → Bool
has_shape s event ts = is_one (is_event s) ts
has_shape s req ts = is_then is_string (is_filter s) ts
has_shape s close ts = is_one is_string ts
has_shape s other ts = false
