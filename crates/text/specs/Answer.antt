-- What reading a text back answers: the places of an event's parts in its text, as functions of the event.
use Rattle.text.specs.declared.Unread.{Unread}
use Rattle.std.specs.Prelude.{cond, List, [], ◌∷◌, ℕ, ◌+◌, length, Result, Ok, Err}
use Rattle.wire.specs.Escape.{escape}
use Rattle.numeral.specs.Decimal.{digits, decimal}
use Rattle.text.specs.declared.Unread.TheVariants.{TooLarge, WrongShape}
use Rattle.text.specs.Event.{Tag, Event, tag_text, tags_text}
use Rattle.text.specs.Read.{Read, too_large, wrong_shape, read}
use Rattle.text.specs.Kinds.{is_named_d, second}
use Rattle.text.specs.declared.Text.{Text}
use Rattle.wire.specs.Bytes.{Bytes}

-- bytes of a text: where they begin, and how many
pub record Span : Type 0 where
  pub at : ℕ
  pub len : ℕ

-- both 0 for no bytes
abbrev pub span_behind : ℕ → Bytes → Span
span_behind i [] = record { at = 0; len = 0 }
span_behind i (x ∷ l) = record { at = i; len = length (x ∷ l) }

-- d's escaped bytes, where the first of the tags stands at i: six bytes after its tag's bracket
unfoldable pub d_span : ℕ → List Tag → Span
d_span i [] = span_behind i []
d_span i (t ∷ ts) = cond (is_named_d t) (span_behind (i + 6) (escape (second t))) (d_span (i + length (tag_text t) + 1) ts)

-- after [0,"PUBKEY",TIME,KIND,
abbrev pub tags_place : Event → ℕ
tags_place e = 72 + length (decimal e.time) + length (digits e.kind)

-- after the tags, a comma and a quote
abbrev pub content_place : Event → ℕ
content_place e = tags_place e + length (tags_text e.tags) + 2

abbrev pub text_parts : Event → Text
text_parts e = record {
  time = e.time;
  kind = e.kind;
  tags = tags_place e;
  content = content_place e;
  content_len = length (escape e.content);
  d = (d_span (tags_place e + 1) e.tags).at;
  d_len = (d_span (tags_place e + 1) e.tags).len;
}

abbrev pub text_answer_of : Read → Result Text Unread
text_answer_of too_large = Err TooLarge
text_answer_of wrong_shape = Err WrongShape
text_answer_of (read e) = Ok (text_parts e)

-- the number of 01
abbrev pub text_number : Result Text Unread → ℕ
text_number (Ok x) = 0
text_number (Err TooLarge) = 9
text_number (Err WrongShape) = 5

-- and of what reading gives: "refused by 9 if over 4,096 bytes, else by 5"
abbrev pub text_read_row : Read → ℕ
text_read_row too_large = 9
text_read_row wrong_shape = 5
text_read_row (read e) = 0
