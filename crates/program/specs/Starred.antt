-- 01, "Cases on either side (starred ones are proved)": "The starred cases go into a single table, proved by one
-- statement over the definitions". The statement is `AllCases starred`; proofs/Starred has it.
use Rattle.std.specs.Prelude.{◌≡◌, true, false, List, [], ◌∷◌, ◌++◌, ℕ, ℤ, pos, negsuc, length, replicate}
use Rattle.text.specs.Event.{Tag, Event, serialise}
use Rattle.text.specs.Read.{too_large, read, read_text}
use Rattle.text.specs.Kinds.{Key, addressable, class_of, key_of}
use Rattle.text.specs.declared.Class.{Class}
use Rattle.text.specs.declared.Class.TheVariants.{Regular, Replaceable, Ephemeral, Addressable}
use Rattle.message.specs.declared.Body.{Body}
use Rattle.message.specs.Parts.{filter_at}
use Rattle.event.specs.Lent.{event_of}
use Rattle.event.specs.Answer.{body_text_row}
use Rattle.event.specs.Order.{is_newer}
use Rattle.query.specs.Filter.{Filter, filter_of}
use Rattle.query.specs.Match.{matches}
use Rattle.query.specs.Answer.{answer_list}
use Rattle.wire.specs.Ascii.{ascii}
use Rattle.wire.specs.Bytes.{Bytes}

-- what a case says
pub data Case : Type 0 where
  -- the text of the event, and how many bytes it has
  serialises : Event → List ℕ → ℕ → Case
  bytes : Event → ℕ → Case
  -- the text is read back as the event; row 9 refuses it
  taken : Event → Case
  refused_by9 : Event → Case
  -- the first of two events, by time and id, is newer, and the second is not
  newer : (time : ℤ) (id : List ℕ) (time' : ℤ) (id' : List ℕ) → Case
  class : ℕ → Class → Case
  key : Event → Key → Case
  -- the lent parts spell the event, and its text is given this number
  lent : List ℕ → Body → Event → ℕ → Case
  -- the text of a filter: alone it is answered with no slot, whatever the table; it does not match the event
  answers_nothing : List ℕ → Case
  shuts_out : List ℕ → Event → Case

-- the filter whose text begins the buffer
abbrev pub filter_of_text : Bytes → Filter
filter_of_text t = filter_of t (filter_at t 0)

abbrev pub CaseHolds : Case → Type 0
CaseHolds (serialises e t n) = (serialise e ≡ t) × (length (serialise e) ≡ n)
CaseHolds (bytes e n) = length (serialise e) ≡ n
CaseHolds (taken e) = read_text (serialise e) ≡ read e
CaseHolds (refused_by9 e) = read_text (serialise e) ≡ too_large
CaseHolds (newer s i t j) = (is_newer s i t j ≡ true) × (is_newer t j s i ≡ false)
CaseHolds (class k c) = class_of k ≡ c
CaseHolds (key e k) = key_of e ≡ k
CaseHolds (lent b p e r) = (event_of b p ≡ e) × (body_text_row b p ≡ r)
CaseHolds (answers_nothing t) = (b : List ℕ) → answer_list b (filter_of_text t ∷ []) ≡ []
CaseHolds (shuts_out t e) = (id : List ℕ) → matches (filter_of_text t) id e ≡ false

abbrev pub AllCases : List Case → Type 0
AllCases [] = Unit {0}
AllCases (c ∷ cs) = CaseHolds c × AllCases cs

-- ---- "Let A be 64 times `a`."
abbrev pub A : Bytes
A = replicate 64 97

abbrev pub dated : (time : ℤ) (kind : ℕ) (tags : List Tag) (content : Bytes) → Event
dated time kind tags content = record { pubkey = A; time = time; kind = kind; tags = tags; content = content }

-- 00..01 and the like: 32 bytes
abbrev pub last_byte : ℕ → Bytes
last_byte x = replicate 31 0 ++ (x ∷ [])

-- a buffer that begins with A and an empty array of tags, with n times `x` behind, and the parts in it
abbrev pub lent_in : ℕ → Bytes
lent_in n = A ++ (ascii "[]," ++ replicate n 120)

abbrev pub lent_parts : ℕ → Body
lent_parts n = record {
  pubkey = record { start = 0; len = 64 };
  created_at = pos 0;
  kind = pos 0;
  tags = 64;
  content = record { start = 67; len = n };
}

abbrev pub starred : List Case
starred =
    serialises
    (dated (negsuc 7199) 1 ((ascii "d" ∷ ascii "t\n1" ∷ []) ∷ []) (ascii "a\"b"))
    (ascii "[0,\"" ++ (A ++ ascii "\",-7200,1,[[\"d\",\"t\\n1\"]],\"a\\\"b\"]"))
    100
    ∷ bytes (dated (pos 0) 0 [] []) 80
    ∷ taken (dated (pos 0) 0 [] (replicate 4016 120))
    ∷ refused_by9 (dated (pos 0) 0 [] (replicate 4017 120))
    ∷ lent (lent_in 4016) (lent_parts 4016) (dated (pos 0) 0 [] (replicate 4016 120)) 0
    ∷ lent (lent_in 4017) (lent_parts 4017) (dated (pos 0) 0 [] (replicate 4017 120)) 9
    ∷ newer (pos 0) (last_byte 2) (negsuc 0) (last_byte 1)
    ∷ newer (pos 7) (last_byte 1) (pos 7) (last_byte 2)
    ∷ class 44 Regular
    ∷ class 45 Regular
    ∷ class 9999 Regular
    ∷ class 10000 Replaceable
    ∷ class 19999 Replaceable
    ∷ class 20000 Ephemeral
    ∷ class 30000 Addressable
    ∷ class 40000 Regular
    ∷ key (dated (pos 0) 30000 ((ascii "d" ∷ []) ∷ []) []) (addressable 30000 A [])
    ∷ key (dated (pos 0) 30000 ((ascii "d" ∷ [] ∷ []) ∷ []) []) (addressable 30000 A [])
    ∷ key (dated (pos 0) 30000 [] []) (addressable 30000 A [])
    ∷ answers_nothing (ascii "{\"limit\":0}")
    ∷ shuts_out (ascii "{\"since\":0}") (dated (negsuc 0) 1 [] [])
    ∷ []
