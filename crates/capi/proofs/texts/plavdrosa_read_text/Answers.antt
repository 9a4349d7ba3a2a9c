-- 9 and 5 refuse and leave all; of a text that was read 13 is answered, or its seven numbers are put.
use Rattle.std.specs.Prelude.{Err}
use mathlib.Core.Path.{sym, ap, ◌∙◌}
use native.Mathlib.Omega.{arith}
use Rattle.text.specs.Answer.{text_number}
use Rattle.numbers.specs.Numbers.{answer_numbers}
use Rattle.capi.proofs.Laws.{lent_refused, lent_short, lent_wrote}
use Rattle.capi.proofs.texts.plavdrosa_read_text.Goals as goal

pub returns-then-out-lt-TEXT_NUMBERS : goal.returns-then-out-lt-TEXT_NUMBERS
returns-then-out-lt-TEXT_NUMBERS c = let both = lent_short _ _ _ _ (ap text_number (sym c.read_text.ensures.value ∙ c.in-Ok.is)) c.if-out-lt-TEXT_NUMBERS.true in record { value = both.0; out_after = both.1 }

pub returns-in-Err-TooLarge : goal.returns-in-Err-TooLarge
returns-in-Err-TooLarge c = let both = lent_refused _ _ _ _ (ap text_number (ap Err (sym c.in-Err-TooLarge.field-0-is) ∙ sym c.in-Err-TooLarge.is ∙ c.read_text.ensures.value)) (λ q. omega (arith, q)) in record { value = both.0; out_after = both.1 }

pub returns-in-Err-WrongShape : goal.returns-in-Err-WrongShape
returns-in-Err-WrongShape c = let both = lent_refused _ _ _ _ (ap text_number (ap Err (sym c.in-Err-WrongShape.field-0-is) ∙ sym c.in-Err-WrongShape.is ∙ c.read_text.ensures.value)) (λ q. omega (arith, q)) in record { value = both.0; out_after = both.1 }

pub returns-else-out-lt-TEXT_NUMBERS : goal.returns-else-out-lt-TEXT_NUMBERS
returns-else-out-lt-TEXT_NUMBERS c =
    let both = let e = sym c.in-Ok.is ∙ c.read_text.ensures.value in
    lent_wrote _ _ _ _ (sym (ap text_number e)) c.if-out-lt-TEXT_NUMBERS.false (c.text_numbers-l.ensures ∙ ap answer_numbers e) c.put.ensures in record { value = both.0; out_after = both.1 }
