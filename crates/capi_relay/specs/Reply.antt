-- A reply as a row of numbers. The first says which it is: 1 OK, 2 EVENT, 3 EOSE, 4 CLOSED, 5 NOTICE. The next two are
-- the place and length of its id, of its subscription id, or of the reason of a NOTICE. Then come those of the reason,
-- and for an OK a number that is 0 for false; or the twelve numbers of an EVENT (numbers/specs/Numbers,
-- `event_numbers`). A number past the end of the row is 0.
use Rattle.std.specs.Prelude.{ℕ, Bool, true, false, cond, List, eqb, leb, Result, Err}
use Rattle.message.specs.declared.Span.{Span}
use Rattle.reply.specs.Lent.{replied, replied_out}
use Rattle.reply.specs.declared.ReplyParts.{ReplyParts}
use Rattle.reply.specs.declared.ReplyParts.TheVariants as parts
use Rattle.numbers.specs.Parts.{number_from, row_from, span_from, event_from}

-- a string part lent as two numbers
abbrev pub span_of_numbers : ℕ → ℕ → Span
span_of_numbers a n = record { start = a; len = n }

abbrev pub name_from : List ℕ → Span
name_from l = span_from (row_from l 1) 0

abbrev pub reason_from : List ℕ → Span
reason_from l = span_from (row_from l 3) 0

abbrev pub accepted_in : List ℕ → Bool
accepted_in l = cond (eqb (number_from l 5) 0) false true

abbrev pub reply_form : List ℕ → ℕ
reply_form l = number_from l 0

abbrev pub is_form : ℕ → Bool
is_form f = cond (eqb f 0) false (leb f 5)

-- the parts of a row whose first number is f
unfoldable pub reply_from : ℕ → List ℕ → ReplyParts
reply_from f l =
    cond (eqb f 1) (parts.Ok (name_from l) (accepted_in l) (reason_from l))
    (cond (eqb f 2) (parts.Event (name_from l) (event_from (row_from l 3)))
    (cond (eqb f 3) (parts.Eose (name_from l))
    (cond (eqb f 4) (parts.Closed (name_from l) (reason_from l)) (parts.Notice (name_from l)))))

-- the reply written; a row of no form is refused by 5, "wrong shape", before all else
unfoldable pub written_reply : (b l out : List ℕ) → Result ℕ ℕ
written_reply b l out = cond (is_form (reply_form l)) (replied b (reply_from (reply_form l) l) out) (Err 5)

unfoldable pub written_reply_out : (b l out : List ℕ) → List ℕ
written_reply_out b l out = cond (is_form (reply_form l)) (replied_out b (reply_from (reply_form l) l) out) out
