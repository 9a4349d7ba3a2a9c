-- 01, "A text read back alone". A reader `xAt` of the text s at a place: `got x n` if x stands there and the text goes
-- on at n. Past the end of a text stands 0, which is none of the fixed bytes that are looked for at a place; a string
-- is read from the bytes that there are. That these readers do what 01's sentence says is proved: proofs/RoundTrip,
-- `accepted`, `too_large_lem`, `wrong_shape_lem`.
use Rattle.std.specs.Prelude.{Bool, true, false, cond, ◌&&◌, List, [], ◌∷◌, ◌++◌, ◌≡◌, ℕ, zero, suc, ◌+◌, ◌≤◌, eqb, leb, ℤ, pos, negsuc, length, get_or, take, drop}
use Rattle.wire.specs.Escape.{letter_of}
use Rattle.numeral.specs.Whole.{whole_of}
use Rattle.numeral.specs.Whole as numeral
use Rattle.utf8.specs.Utf8.{is_utf8}
use Rattle.wire.specs.Limits.{most_text, hex_length, most_tags, most_strings}
use Rattle.text.specs.Event.{Tag, Event, opening, closing, comma, bracket, serialise, is_fit, is_pubkey, is_time}
use Rattle.text.specs.Event.{is_kind}
use Rattle.text.specs.declared.Move.{Move}
use Rattle.text.specs.declared.Move.TheVariants.{Go, Stop, Refuse}
use Rattle.wire.specs.Bytes.{Bytes, Place}

pub data Got (A : Type 0) : Type 0 where
  none : Got A
  got : A → ℕ → Got A

abbrev pub bind : {A B : Type 0} → Got A → (A → ℕ → Got B) → Got B
bind none f = none
bind (got x n) f = f x n

-- ---- fixed bytes, and things in a row
-- the bytes w stand at a place
unfoldable pub stands_at : (s w : Bytes) (at : Place) → Bool
stands_at s [] at = true
stands_at s (b ∷ w) at = eqb (get_or s at 0) b && stands_at s w (at + 1)

-- a thing with the bytes w after it
unfoldable pub closed_at : {A : Type 0} (s w : Bytes) (f : ℕ → Got A) (at : Place) → Got A
closed_at s w f at = bind (f at) λ x n. cond (stands_at s w n) (got x (n + length w)) none

unfoldable pub pair_at : {A B : Type 0} (f : ℕ → Got A) (g : ℕ → Got B) (at : Place) → Got (A × B)
pair_at f g at = bind (f at) λ x n. bind (g n) λ y m. got (x, y) m

-- ---- strings
-- the byte that a letter after a backslash stands for, and 0 for no such letter
unfoldable pub escaped_byte : ℕ → ℕ
escaped_byte c =
    cond (eqb c 110) 0x0a
    (cond (eqb c 34) 0x22 (cond (eqb c 92) 0x5c
    (cond (eqb c 114) 0x0d (cond (eqb c 116) 0x09 (cond (eqb c 98) 0x08 (cond (eqb c 102) 0x0c 0))))))

-- a byte that stands as it is: none of the seven escapes is for it
unfoldable pub is_raw : ℕ → Bool
is_raw x = eqb (letter_of x) 0

-- what the byte x does, after a backslash or not
abbrev pub move_of : Bool → ℕ → Move
move_of true x = cond (eqb (escaped_byte x) 0) Refuse (Go false)
move_of false x = cond (eqb x 34) Stop (cond (eqb x 92) (Go true) (cond (is_raw x) (Go false) Refuse))

-- what it adds to the string
abbrev pub said_of : Bool → ℕ → Bytes
said_of true x = escaped_byte x ∷ []
said_of false x = cond (eqb x 92) [] (x ∷ [])

abbrev pub push_bytes : Bytes → Got (List ℕ) → Got (List ℕ)
push_bytes p none = none
push_bytes p (got v n) = got (p ++ v) n

-- a string after its opening quote, with the closing one; the list stands at i
unfoldable pub body_from : (e : Bool) (i : ℕ) (l : Bytes) → Got (List ℕ)
body_from e i [] = none
body_from e i (x ∷ l) =
    elim (move_of e x) [ Go f ↦ push_bytes (said_of e x) (body_from f (i + 1) l) | Stop ↦ got [] (i + 1) | Refuse ↦ none ]

abbrev pub checked : Got (List ℕ) → Got (List ℕ)
checked none = none
checked (got v n) = cond (is_utf8 v) (got v n) none

unfoldable pub string_at : Bytes → Place → Got (List ℕ)
string_at s at = cond (eqb (get_or s at 0) 34) (checked (body_from false (at + 1) (drop (at + 1) s))) none

-- ---- lists of 1 to k members
abbrev pub cons : {A : Type 0} → A → Got (List A) → Got (List A)
cons x none = none
cons x (got xs n) = got (x ∷ xs) n

-- after a member a comma and more of them, or the closing bracket
abbrev pub follow : {A : Type 0} (x : A) (b n : ℕ) (more : Got (List A)) → Got (List A)
follow x b n more = cond (eqb b 44) (cons x more) (cond (eqb b 93) (got (x ∷ []) (n + 1)) none)

unfoldable pub text_members_at : {A : Type 0} (one : ℕ → Got A) (s : Bytes) (k : ℕ) (at : Place) → Got (List A)
text_members_at one s zero at = none
text_members_at one s (suc k) at = bind (one at) λ x n. follow x (get_or s n 0) n (text_members_at one s k (n + 1))

unfoldable pub tag_at : Bytes → Place → Got Tag
tag_at s at = cond (eqb (get_or s at 0) 91) (text_members_at (string_at s) s most_strings (at + 1)) none

-- or none at all
unfoldable pub tags_at : Bytes → Place → Got (List Tag)
tags_at s at =
    cond (eqb (get_or s at 0) 91) (cond (eqb (get_or s (at + 1) 0) 93) (got [] (at + 2))
    (text_members_at (tag_at s) s most_tags (at + 1))) none

-- ---- numbers
-- the bytes before the next comma
unfoldable pub run_of : Bytes → Bytes
run_of [] = []
run_of (x ∷ l) = cond (eqb x 44) [] (x ∷ run_of l)

abbrev pub time_of : numeral.Spelled → ℕ → Got ℤ
time_of numeral.malformed n = none
time_of (numeral.whole z) n = cond (is_time z) (got z n) none

abbrev pub kind_of : numeral.Spelled → ℕ → Got ℕ
kind_of numeral.malformed n = none
kind_of (numeral.whole (negsuc k)) n = none
kind_of (numeral.whole (pos k)) n = cond (is_kind k) (got k n) none

unfoldable pub time_at : Bytes → Place → Got ℤ
time_at s at = time_of (whole_of (run_of (drop at s))) (at + length (run_of (drop at s)))

unfoldable pub kind_at : Bytes → Place → Got ℕ
kind_at s at = kind_of (whole_of (run_of (drop at s))) (at + length (run_of (drop at s)))

-- ---- hex
abbrev pub pubkey_in : Bytes → ℕ → Got (List ℕ)
pubkey_in k n = cond (is_pubkey k) (got k n) none

unfoldable pub pubkey_at : Bytes → Place → Got (List ℕ)
pubkey_at s at = pubkey_in (take hex_length (drop at s)) (at + hex_length)

-- ---- the whole text
abbrev pub Fields : Type 0
Fields = List ℕ × (ℤ × (ℕ × (List Tag × List ℕ)))

-- PUBKEY",TIME,KIND,TAGS,"CONTENT"]
unfoldable pub fields_at : Bytes → ℕ → Got Fields
fields_at s =
    pair_at (closed_at s closing (pubkey_at s))
    (pair_at (closed_at s comma (time_at s))
    (pair_at (closed_at s comma (kind_at s)) (pair_at (closed_at s comma (tags_at s)) (closed_at s bracket (string_at s)))))

abbrev pub event_of_fields : Fields → Event
event_of_fields x =
    record { pubkey = x.0; time = x.1.0; kind = x.1.1.0; tags = x.1.1.1.0; content = x.1.1.1.1 }

-- refused by row 9 or row 5, or read
pub data Read : Type 0 where
  too_large wrong_shape : Read
  read : Event → Read

-- the text ends after its event
abbrev pub ending : Bytes → Got Fields → Read
ending t none = wrong_shape
ending t (got x n) = cond (eqb n (length t)) (read (event_of_fields x)) wrong_shape

unfoldable pub opened_text : Bytes → Got Fields
opened_text t = cond (stands_at t opening 0) (fields_at t (length opening)) none

-- refused by 9 if over 4,096 bytes, else by 5 if it isn't byte for byte the serialisation of an event within these
-- limits
unfoldable pub read_text : Bytes → Read
read_text t = cond (leb (length t) most_text) (ending t (opened_text t)) too_large

-- t is the serialisation of e, an event within these limits
pub record IsTextOf (t : List ℕ) (e : Event) : Type 0 where
  pub same : serialise e ≡ t
  pub fit : is_fit e ≡ true
  pub small : length t ≤ most_text
