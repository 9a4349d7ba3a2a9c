-- What private functions hand on: the EVENT of a slot's bytes in pieces. Id and signature in hex, the rest as the
-- slot's text spells it, but for the control characters that stand raw there.
use Rattle.std.specs.Prelude.{◌≡◌, cond, ◌&&◌, List, [], ◌∷◌, ◌++◌, map, ℕ, suc, ◌+◌, ◌-◌, eqb, ltb, length, Result, Ok, Err}
use Rattle.wire.specs.Escape.{json_of}
use Rattle.numeral.specs.Decimal.{digits, decimal}
use Rattle.text.specs.Event.{Event}
use Rattle.reply.specs.Replies.{string_json, tags_json}
use Rattle.text.specs.Read.{Read, too_large, wrong_shape, read, read_text}
use Rattle.text.specs.Answer.{text_answer_of}
use Rattle.text.specs.declared.Text.{Text}
use Rattle.table.specs.Layout.{count_of, slot_at, text_in}
use Rattle.wire.specs.Ascii.{ascii}
use Rattle.program.specs.Program.{event_replies, written}
use Rattle.reply.specs.Lent.{output_after}
use Rattle.program.specs.Respond.{first_text, fitting, slot_lines, fitting_text, none_fits, all_held}
use Rattle.slot_replies.specs.declared.Fitted.{Fitted}
use Rattle.wire.specs.Bytes.{Bytes, Row}

unfoldable pub front_text : (sub i : Bytes) → Bytes
front_text sub i = ascii "[\"EVENT\"," ++ (string_json sub ++ (ascii ",{\"id\":" ++ string_json i))

abbrev pub numbers_text : Event → Bytes
numbers_text e =
    ascii ",\"pubkey\":" ++ (string_json e.pubkey ++
    (ascii ",\"created_at\":" ++ (decimal e.time ++ (ascii ",\"kind\":" ++ digits e.kind))))

abbrev pub held_strings : Event → Bytes
held_strings e = ascii ",\"tags\":" ++ (tags_json e.tags ++ (ascii ",\"content\":" ++ string_json e.content))

unfoldable pub back_text : (s : Bytes) → Bytes
back_text s = ascii ",\"sig\":" ++ (string_json s ++ ascii "}]")

-- of a text that reads
abbrev pub of_read : (Event → List ℕ) → Read → Bytes
of_read f too_large = []
of_read f wrong_shape = []
of_read f (read e) = f e

unfoldable pub number_bytes : Bytes → Bytes
number_bytes t = of_read numbers_text (read_text t)

unfoldable pub string_bytes : Bytes → Bytes
string_bytes t = of_read held_strings (read_text t)

-- the text t was read, and x is what was answered
pub record ReadAs (t : List ℕ) (x : Text) : Type 0 where
  pub is : Ok x ≡ text_answer_of (read_text t)

-- the EVENT of the slot s; nothing where its text does not read
unfoldable pub held_text : (sub s : Bytes) → Bytes
held_text sub s = first_text (event_replies sub s (read_text (text_in s)))

-- as a line, which 0A ends
unfoldable pub held_line : (sub s : Bytes) → Bytes
held_line sub s = written (event_replies sub s (read_text (text_in s)))

-- how long each of these lines is, for a subscription id that takes n bytes in a reply
abbrev pub line_size : (b : Bytes) (n k : ℕ) → ℕ
line_size b n k = length (json_of (text_in (slot_at b k))) + n + 267

abbrev pub sizes : (b : Bytes) (n : ℕ) (ks : List ℕ) → List ℕ
sizes b n ks = map (line_size b n) ks

-- how many of these sizes a room has, from the first on, with the i before them, and what they leave of it
abbrev pub stopped : (i room : ℕ) → Fitted
stopped i room = record { lines = i; left = room }

unfoldable pub fitted_in : (i room : ℕ) (xs : List ℕ) → Fitted
fitted_in i room [] = stopped i room
fitted_in i room (x ∷ xs) = cond (ltb room x) (stopped i room) (fitted_in (i + 1) (room - x) xs)

-- ---- as many as fit, of a sound table
-- how many of the slots ks are held, from the first on
unfoldable pub held_len : (b : Bytes) → List ℕ → ℕ
held_len b [] = 0
held_len b (k ∷ ks) = cond (ltb k (count_of b)) (suc (held_len b ks)) 0

-- of `all` slots `held` are held, from the first on, and the lines of so many of these fit: row 13, then 14
unfoldable pub fit_row : (lines held all : ℕ) → Row
fit_row lines held all = cond (ltb 0 held && eqb lines 0) 13 (cond (ltb held all) 14 0)

-- the rows of `events_row` behind 11, what is answered where no row before them holds, and the output then
abbrev pub lines_row : (b sub ks out : Bytes) → Row
lines_row b sub ks out = cond (none_fits (length out) (slot_lines b sub ks)) 13 (cond (all_held b ks) 0 14)

abbrev pub sent_by : (row n k : Row) → Result (ℕ × ℕ) ℕ
sent_by row n k = cond (eqb row 0) (Ok (n, k)) (Err row)

unfoldable pub sent_lines : (b sub ks out : Bytes) → Result (ℕ × ℕ) ℕ
sent_lines b sub ks out =
    sent_by (lines_row b sub ks out) (length (fitting_text b sub ks out)) (fitting (length out) (slot_lines b sub ks))

unfoldable pub sent_lines_out : (b sub ks out : Bytes) → Bytes
sent_lines_out b sub ks out = output_after (lines_row b sub ks out) (fitting_text b sub ks out) out
