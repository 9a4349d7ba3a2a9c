-- Calls for Rust and C: the answer is 01's number, and the output is written from its start, or stays as it was.
use Rattle.std.specs.Prelude.{ℕ, List, cond, eqb, leb, length, Option, Some, None, Result, Ok, Err}
use Rattle.wire.specs.Put.{put}
use Rattle.message.specs.Read.{read_of, read_number}
use Rattle.text.specs.Read.{read_text}
use Rattle.text.specs.Answer.{text_answer_of, text_number}
use Rattle.event.specs.Answer.{identified, serialised, serialised_out}
use Rattle.event.specs.Answer as written
use Rattle.shape.specs.declared.Refusal.{Refusal}
use Rattle.numbers.specs.Numbers.{message_numbers, answer_numbers}
use Rattle.numbers.specs.Parts.{event_from}
use Rattle.wire.specs.Bytes.{Row}

-- ---- an answer of row r, or else the list l into an output that has room for k numbers
unfoldable pub lent_row : (r k : ℕ) (out : List ℕ) → Row
lent_row r k out = cond (eqb r 0) (cond (leb k (length out)) 0 13) r

unfoldable pub lent_out : (r k : ℕ) (l out : List ℕ) → List ℕ
lent_out r k l out = cond (eqb r 0) (cond (leb k (length out)) (put out 0 l) out) out

-- ---- the offset that a refusal carries, to a lent number, which stays where there is none
abbrev pub offset_in : Option ℕ → ℕ → ℕ
offset_in None k = k
offset_in (Some p) k = p

abbrev pub offset_or : Refusal → ℕ → ℕ
offset_or r k = offset_in r.offset k

-- ---- a message read: rows 1 to 8, then its parts, which need no more room than they take
abbrev pub read_row : List ℕ → List ℕ → Row
read_row s out = lent_row (read_number (read_of s)) (length (message_numbers s (read_of s))) out

abbrev pub read_out : List ℕ → List ℕ → List ℕ
read_out s out = lent_out (read_number (read_of s)) (length (message_numbers s (read_of s))) (message_numbers s (read_of s)) out

-- ---- a text read back: rows 9 and 5, then its parts
abbrev pub read_text_row : List ℕ → List ℕ → Row
read_text_row t out = lent_row (text_number (text_answer_of (read_text t))) 7 out

abbrev pub read_text_out : List ℕ → List ℕ → List ℕ
read_text_out t out = lent_out (text_number (text_answer_of (read_text t))) 7 (answer_numbers (text_answer_of (read_text t))) out

-- ---- an event's text, of the parts that a row of numbers e gives: rows 2 and 4 to 9, then 13. Its length goes to a
-- number of its own, which stays on a refusal
abbrev pub serialise_row : (b e out : List ℕ) → Row
serialise_row b e out = written.written_number (serialised b (event_from e).body out)

abbrev pub serialise_out : (b e out : List ℕ) → List ℕ
serialise_out b e out = serialised_out b (event_from e).body out

abbrev pub length_or : Result ℕ ℕ → ℕ → ℕ
length_or (Ok n) m = n
length_or (Err r) m = m

abbrev pub serialise_length : (b e out : List ℕ) (m : ℕ) → ℕ
serialise_length b e out m = length_or (serialised b (event_from e).body out) m

-- ---- its id
abbrev pub id_row : (b e out : List ℕ) → Row
id_row b e out = lent_row (identified b (event_from e).body).row 32 out

abbrev pub id_out : (b e out : List ℕ) → List ℕ
id_out b e out = lent_out (identified b (event_from e).body).row 32 (identified b (event_from e).body).id out
