-- What private functions hand on: the replies by what the code has of them, and what is answered where a text is to be
-- written.
use Rattle.std.specs.Prelude.{◌≡◌, true, cond, List, [], ◌∷◌, ◌++◌, ℕ, ◌<◌, leb, length, Option, Result}
use Rattle.message.specs.Read.{named_of}
use Rattle.message.specs.declared.Named.{Named}
use Rattle.message.specs.declared.Naming.{Naming}
use Rattle.message.specs.declared.Named.TheVariants.{Nothing}
use Rattle.event.specs.Answer.{answered}
use Rattle.law.specs.Lists.{◌∈◌}
use Rattle.table.specs.Layout.{count_of}
use Rattle.table.specs.Sound.{sound}
use Rattle.table.specs.declared.Offered.{Offered}
use Rattle.wire.specs.Ascii.{ascii}
use Rattle.shape.specs.declared.Refusal.{Refusal}
use Rattle.shape.specs.Offsets.{refusal_for}
use Rattle.reply.specs.Replies.{ok, eose, closed, notice, string_json, reply_text, truth, reason_of, offset_text}
use Rattle.reply.specs.Replies.{refusal_reason}
use Rattle.program.specs.Program.{is_accepted, verdict_reason}
use Rattle.reply.specs.Lent.{short_row, output_after}
use Rattle.program.specs.Program.{refusal_naming, events_of, written}
use Rattle.wire.specs.Bytes.{Bytes, Row}

-- ---- the reply text of a refusal in two pieces: that of its row behind a quote, then the offset and a quote
abbrev pub open_text : Row → Bytes
open_text row = 34 ∷ reason_of row

abbrev pub end_text : Option ℕ → Bytes
end_text x = offset_text x ++ (34 ∷ [])

-- ---- the replies
-- ACCEPTED,REASON of an offer that was answered a
unfoldable pub verdict_text : Result Offered Refusal → Bytes
verdict_text a = truth (is_accepted a) ++ (ascii "," ++ string_json (verdict_reason a))

unfoldable pub ok_text : (id : Bytes) (a : Result Offered Refusal) → Bytes
ok_text i a = reply_text (ok i (is_accepted a) (verdict_reason a))

unfoldable pub closed_text : (sub : Bytes) (x : Refusal) → Bytes
closed_text s x = reply_text (closed s (refusal_reason x))

unfoldable pub notice_text : (x : Refusal) → Bytes
notice_text x = reply_text (notice (refusal_reason x))

-- what the reply to a refusal by a row may name
unfoldable pub named_for : (m : Bytes) (row : Row) → Named
named_for m row = cond (leb row 5) Nothing (named_of m)

-- what it says: the offset goes with the message's own row
abbrev pub naming_for : (m : Bytes) (row : Row) → Naming
naming_for m row = record { refusal = refusal_for m row; named = named_for m row }

-- the reply to a refusal, by what it says
unfoldable pub naming_text : (m : Bytes) (x : Naming) → Bytes
naming_text m x = reply_text (refusal_naming m x.named (refusal_reason x.refusal))

-- "The program ends each reply with 0A."
abbrev pub ended : Bytes → Bytes
ended t = t ++ (0x0a ∷ [])

-- the EVENTs of the slots ks, then EOSE
unfoldable pub eose_line : (sub : Bytes) → Bytes
eose_line sub = ended (reply_text (eose sub))

unfoldable pub answer_text : (b sub ks : Bytes) → Bytes
answer_text b sub ks = written (events_of b sub ks) ++ eose_line sub

-- the table is sound, and it holds the slots ks
pub record AllHeld (b ks : List ℕ) : Type 0 where
  pub is_sound : sound b ≡ true
  pub held : (k : ℕ) → k ∈ ks → k < count_of b

-- ---- the text t that is to be written to an output: the answer, and the output at exit
pub record Said (t out : List ℕ) (r : Result ℕ ℕ) (o : List ℕ) : Type 0 where
  pub answer : r ≡ answered (short_row t out) (length t)
  pub bytes : o ≡ output_after (short_row t out) t out
