-- Parts as rows of 64-bit numbers, for callers that can lend nothing else: what is written. Signed numbers are their 64
-- bits, in two's complement.
use Rattle.text.specs.declared.Unread.{Unread}
use Rattle.std.specs.Prelude.{ℕ, List, [], ◌∷◌, ◌++◌, take, Option, ℤ, Some, None, Result, Ok, Err}
use Rattle.wire.specs.Field.{unsigned}
use Rattle.message.specs.Parts.{filters_at}
use Rattle.message.specs.declared.EventParts.{EventParts}
use Rattle.message.specs.declared.FilterParts.{FilterParts}
use Rattle.message.specs.declared.ReqParts.{ReqParts}
use Rattle.shape.specs.declared.Refusal.{Refusal}
use Rattle.message.specs.declared.Message.{Message}
use Rattle.message.specs.declared.Message.TheVariants as message
use Rattle.text.specs.declared.Unread.TheVariants.{TooLarge, WrongShape}
use Rattle.text.specs.declared.Text.{Text}

-- a place, and 0 where there is none: no list of a message stands at 0
abbrev pub place_of : Option ℕ → ℕ
place_of None = 0
place_of (Some v) = v

-- whether there is a number, and its 64 bits
abbrev pub flag_of : Option ℤ → ℕ
flag_of None = 0
flag_of (Some z) = 1

abbrev pub bits_of : Option ℤ → ℕ
bits_of None = 0
bits_of (Some z) = unsigned z

abbrev pub event_numbers : EventParts → List ℕ
event_numbers p =
    1 ∷ p.id.start ∷ p.id.len ∷ p.body.pubkey.start ∷ p.body.pubkey.len ∷ unsigned p.body.created_at ∷
    unsigned p.body.kind ∷ p.body.tags
    ∷ p.body.content.start ∷ p.body.content.len ∷ p.sig.start ∷ p.sig.len ∷ []

abbrev pub filter_numbers : FilterParts → List ℕ
filter_numbers p =
    place_of p.ids ∷ place_of p.authors ∷ place_of p.kinds ∷ flag_of p.since ∷ bits_of p.since ∷ flag_of
    p.until ∷ bits_of p.until
    ∷ flag_of p.limit ∷ bits_of p.limit ∷ place_of p.conditions ∷ []

abbrev pub parts_numbers : List FilterParts → List ℕ
parts_numbers [] = []
parts_numbers (p ∷ ps) = filter_numbers p ++ parts_numbers ps

-- how many filters there are stands before them
abbrev pub request_numbers : List ℕ → ReqParts → List ℕ
request_numbers s p =
    (2 ∷ p.subscription.start ∷ p.subscription.len ∷ (filters_at s p.filters).n ∷ [])
    ++ parts_numbers (take (filters_at s p.filters).n (filters_at s p.filters).parts)

-- the first number says what was read: 1 an EVENT, 2 a REQ, 3 a CLOSE
abbrev pub message_numbers : List ℕ → Result Message Refusal → List ℕ
message_numbers s (Ok (message.Event p)) = event_numbers p
message_numbers s (Ok (message.Req p)) = request_numbers s p
message_numbers s (Ok (message.Close p)) = 3 ∷ p.start ∷ p.len ∷ []
message_numbers s (Err r) = []

abbrev pub text_numbers : Text → List ℕ
text_numbers x = unsigned x.time ∷ x.kind ∷ x.tags ∷ x.content ∷ x.content_len ∷ x.d ∷ x.d_len ∷ []

abbrev pub answer_numbers : Result Text Unread → List ℕ
answer_numbers (Ok x) = text_numbers x
answer_numbers (Err TooLarge) = []
answer_numbers (Err WrongShape) = []
