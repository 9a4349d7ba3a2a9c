-- Worked replies, by computation: the bytes of each kind of reply, and what some refused messages are answered.
use Rattle.std.specs.Prelude.{Option, Some}
use mathlib.Core.Path.{◌≡◌, refl, ◌∙◌}
use mathlib.Core.Bool.{true, false, not, ◌||◌}
use mathlib.Core.List.{List, [], ◌∷◌, ◌++◌}
use Prim.Native.Nat.{ℕ, ◌/◌, ◌%◌, ◌≤◌}
use native.Mathlib.Omega.{arith}
use lib.Dec.{eqb}
use lib.ListN.{replicate}
use Rattle.wire.specs.Bytes.{same_bytes, is_hex, hex_digit, those}
use Rattle.numeral.specs.Decimal.{digits_in, digits}
use Rattle.numeral.specs.Whole.{whole_of, whole_answer, is_within, is_natural, all_digits, is_digit, value_from, natural_of}
use Rattle.numeral.specs.Whole.{negative_of}
use Rattle.utf8.specs.Utf8.{is_utf8, utf8_from, lead_of}
use Rattle.json_tree.specs.Grammar.{in_class, run, past, one_at, token_at, word_at, literal_at, digits_at, int_at, frac_at, exp_at}
use Rattle.json_tree.specs.Grammar.{number_at, hex_at, escaped_at, char_at, chars_up_to, chars_at, string_at, scalar_at}
use Rattle.json_tree.specs.Tree.{items_at, tree_at}
use Rattle.spell.specs.Spell as spell
use Rattle.spell.specs.Spell.{char_of, chars_from, char_bytes, chars_bytes, decode, is_refused, refuses, points}
use Rattle.spell.specs.Spell.{character_count, is_hex_of}
use Rattle.rows.specs.Strings.{spelled_at, refused_in}
use Rattle.shape.specs.Shape as word
use Rattle.shape.specs.Shape.{any_item, all_items, count_items, name_at, no_name_twice, filter_member, is_filter, is_condition}
use Rattle.shape.specs.Shape.{word_of, is_event, event_member, once}
use Rattle.shape.specs.Rows.{row6, row7, row8, wrong_filter, filter_number, filter_hex, filter_counts, wrong_list, wrong_hex}
use Rattle.shape.specs.Rows.{wrong_subscription, tree_row, message_row, event_number, wrong_time, wrong_small}
use Rattle.shape.specs.Offsets.{collect, number_places, hex_places, least_of, offset_of, offset_for}
use Rattle.message.specs.Parts.{member_of}
use Rattle.message.specs.declared.Span.{Span}
use Rattle.message.specs.Lent.{span_bytes as bytes}
use Rattle.message.specs.Read.{read_of, named_of}
use Rattle.event.specs.Lent.{said}
use Rattle.wire.specs.Ascii.{ascii}
use Rattle.reply.specs.Replies.{ok, closed, notice}
use Rattle.reply.specs.Replies.{reason_of, refusal_reason}
use Rattle.query.specs.Answer.{keep}
use Rattle.program.specs.Program.{refusal, replies_to, lines}
use Rattle.program.specs.Claims.Program.{word_in, id_field}
use Rattle.program.proofs.Which.{late_event}

-- ---- refused messages, whatever the table holds; ids and subscription ids come back spelled anew
pub without_filter :
    ((b : List ℕ) → replies_to b (ascii "[\"REQ\",\"a\\/\\u0062\"]") ≡ closed (ascii "a/b") (reason_of 8) ∷ [])
    × ((b : List ℕ) → replies_to b (ascii "[\"REQ\",\"\"]") ≡ notice (reason_of 8) ∷ [])
    × ((b : List ℕ) → replies_to b (ascii "[\"CLOSE\",\"\"]") ≡ notice (reason_of 8) ∷ [])
unfolding in_class run past one_at token_at word_at literal_at digits_at int_at frac_at exp_at number_at hex_at escaped_at char_at chars_up_to chars_at string_at scalar_at items_at tree_at is_utf8 utf8_from lead_of char_of chars_from char_bytes chars_bytes decode is_refused spell.any refuses same_bytes points character_count spelled_at refused_in any_item count_items name_at no_name_twice is_filter word_of all_items row6 row7 row8 filter_counts wrong_subscription tree_row message_row read_of named_of replies_to refusal spell.short_of spell.unicode_of spell.is_pair spell.four_at spell.four spell.hex_val spell.utf8_of offset_for offset_of reason_of
without_filter = ((λ b. refl), (λ b. refl), (λ b. refl))

-- the lowest row over the whole message, also past a bound; a second member; hex of the wrong length; names and shapes;
-- what is no JSON text
pub more_refused :
    ((b : List ℕ) → replies_to b (ascii "[\"REQ\",\"s\",{\"limit\":-0}]") ≡ closed (ascii "s") (ascii "invalid: number at 20") ∷ [])
    × ((b : List ℕ) → replies_to b (ascii "[\"REQ\",\"\",{\"limit\":-0}]") ≡ notice (ascii "invalid: number at 19") ∷ [])
    × ((b : List ℕ) → replies_to b (ascii "[\"REQ\",\"s\",{},{},{},{},{\"limit\":-0}]") ≡ closed (ascii "s") (ascii "invalid: number at 32") ∷ [])
    × ((b : List ℕ) → replies_to b (ascii "[\"REQ\",\"s\",{\"kinds\":[]}]") ≡ closed (ascii "s") (reason_of 8) ∷ [])
    × ((b : List ℕ) → replies_to b (ascii "[\"REQ\",\"s\",{\"kinds\":[1,65536]}]") ≡ closed (ascii "s") (ascii "invalid: number at 23") ∷ [])
    × ((b : List ℕ) → replies_to b (ascii "[\"REQ\",\"s\",{\"ids\":[\"\"]}]") ≡ closed (ascii "s") (ascii "invalid: hex at 19") ∷ [])
    × ((b : List ℕ) → replies_to b (ascii "[\"REQ\",\"s\",{\"authors\":[\"x\"]}]") ≡ closed (ascii "s") (ascii "invalid: hex at 23") ∷ [])
    × ((b : List ℕ) → replies_to b (ascii "[\"REQ\",\"s\",{\"#ee\":[\"x\"]}]") ≡ notice (reason_of 5) ∷ [])
    × ((b : List ℕ) → replies_to b (ascii "[\"CLOSE\",\"s\",\"t\"]") ≡ notice (reason_of 5) ∷ [])
    × ((b : List ℕ) → replies_to b (ascii "[\"REQ\",{}]") ≡ notice (reason_of 5) ∷ [])
    × ((b : List ℕ) → replies_to b (0xef ∷ 0xbb ∷ 0xbf ∷ ascii "[]") ≡ notice (reason_of 3) ∷ [])
    × ((b : List ℕ) → replies_to b (ascii "\r") ≡ notice (reason_of 3) ∷ [])
unfolding in_class run past one_at token_at word_at literal_at digits_at int_at frac_at exp_at number_at hex_at escaped_at char_at chars_up_to chars_at string_at scalar_at items_at tree_at is_utf8 utf8_from lead_of char_of chars_from char_bytes chars_bytes decode is_refused spell.any refuses same_bytes points character_count spelled_at refused_in any_item count_items name_at no_name_twice is_filter word_of all_items row6 row7 row8 filter_counts wrong_subscription tree_row message_row read_of named_of replies_to refusal spell.short_of spell.unicode_of spell.is_pair spell.four_at spell.four spell.hex_val spell.utf8_of filter_member is_condition wrong_filter filter_number filter_hex wrong_list wrong_hex wrong_time wrong_small whole_of whole_answer is_within is_natural all_digits is_digit value_from natural_of negative_of is_hex_of is_hex spell.all offset_for offset_of reason_of number_places hex_places collect least_of digits_in digits
more_refused = ((λ b. refl), (λ b. refl), (λ b. refl), (λ b. refl), (λ b. refl), (λ b. refl), (λ b. refl), (λ b. refl), (λ b. refl), (λ b. refl), (λ b. refl), (λ b. refl))

-- ---- 02, Wish 9: the earliest by place, and not in the order of Shape; the row that is given, and not the one that stands first; bytes and not
-- characters, white space too; a minus; a member before another
pub offsets :
    ((b : List ℕ) → replies_to b (ascii "[\"REQ\",\"s\",{\"until\":1.0,\"since\":1e3}]") ≡ closed (ascii "s") (ascii "invalid: number at 20") ∷ [])
    × ((b : List ℕ) → replies_to b (ascii "[\"REQ\",\"s\",{\"ids\":[\"x\"],\"limit\":-0}]") ≡ closed (ascii "s") (ascii "invalid: number at 32") ∷ [])
    × ((b : List ℕ) → replies_to b (ascii " [\"REQ\",\"" ++ (0xc3 ∷ 0xa9 ∷ ascii "\",{\"limit\": -1}]")) ≡ closed (0xc3 ∷ 0xa9 ∷ []) (ascii "invalid: number at 23") ∷ [])
    × ((b : List ℕ) → replies_to b (ascii "[\"REQ\",\"s\",{\"#p\":[\"\",\"x\"]},{\"ids\":[\"y\"]}]") ≡ closed (ascii "s") (ascii "invalid: hex at 18") ∷ [])
unfolding in_class run past one_at token_at word_at literal_at digits_at int_at frac_at exp_at number_at hex_at escaped_at char_at chars_up_to chars_at string_at scalar_at items_at tree_at is_utf8 utf8_from lead_of char_of chars_from char_bytes chars_bytes decode is_refused spell.any refuses same_bytes points character_count spelled_at refused_in any_item count_items name_at no_name_twice is_filter word_of all_items row6 row7 row8 filter_counts wrong_subscription tree_row message_row read_of named_of replies_to refusal spell.short_of spell.unicode_of spell.is_pair spell.four_at spell.four spell.hex_val spell.utf8_of filter_member is_condition wrong_filter filter_number filter_hex wrong_list wrong_hex wrong_time wrong_small whole_of whole_answer is_within is_natural all_digits is_digit value_from natural_of negative_of is_hex_of is_hex spell.all offset_for offset_of reason_of number_places hex_places collect least_of digits_in digits
offsets = ((λ b. refl), (λ b. refl), (λ b. refl), (λ b. refl))

-- ---- 02, Wish 1: members of #e and #p are 64 characters of lower-case hex
-- the row of a REQ that asks # and the letter b for one member, as spelled
abbrev asked_row : ℕ → List ℕ → ℕ
asked_row b member = message_row (ascii "[\"REQ\",\"s\",{\"#" ++ (b ∷ ascii "\":[\"" ++ (member ++ ascii "\"]}]")))

abbrev letters : List ℕ
letters = ascii "abcdefghijklmnopqrstuvwxyzABCDEFGHIJKLMNOPQRSTUVWXYZ"

-- the string x is refused with e and p, by row 7, and taken with every other letter
pub hex_letters :
    (keep (λ b. eqb (asked_row b (ascii "x")) 7) letters ≡ ascii "ep")
    × (keep (λ b. eqb (asked_row b (ascii "x")) 0) letters ≡ ascii "abcdfghijklmnoqrstuvwxyzABCDEFGHIJKLMNOPQRSTUVWXYZ")
unfolding in_class run past one_at token_at word_at literal_at digits_at int_at frac_at exp_at number_at hex_at escaped_at char_at chars_up_to chars_at string_at scalar_at items_at tree_at is_utf8 utf8_from lead_of char_of chars_from char_bytes chars_bytes decode is_refused spell.any refuses same_bytes points character_count spelled_at refused_in any_item count_items name_at no_name_twice is_filter word_of all_items row6 row7 row8 filter_counts wrong_subscription tree_row message_row spell.short_of spell.unicode_of spell.is_pair spell.four_at spell.four spell.hex_val spell.utf8_of filter_member is_condition wrong_filter filter_number filter_hex wrong_list wrong_hex wrong_time wrong_small whole_of whole_answer is_within is_natural all_digits is_digit value_from natural_of negative_of is_hex_of is_hex spell.all keep
hex_letters = (refl, refl)

-- 63, 64 and 65 characters; upper case; hex spelled with an escape; none
pub hex_members :
    (asked_row 101 (replicate 63 97) ≡ 7)
    × (asked_row 101 (replicate 64 97) ≡ 0)
    × (asked_row 101 (replicate 65 97) ≡ 7)
    × (asked_row 112 (replicate 64 65) ≡ 7)
    × (asked_row 112 (ascii "\\u0061" ++ replicate 63 97) ≡ 0)
    × (asked_row 112 [] ≡ 7)
unfolding in_class run past one_at token_at word_at literal_at digits_at int_at frac_at exp_at number_at hex_at escaped_at char_at chars_up_to chars_at string_at scalar_at items_at tree_at is_utf8 utf8_from lead_of char_of chars_from char_bytes chars_bytes decode is_refused spell.any refuses same_bytes points character_count spelled_at refused_in any_item count_items name_at no_name_twice is_filter word_of all_items row6 row7 row8 filter_counts wrong_subscription tree_row message_row spell.short_of spell.unicode_of spell.is_pair spell.four_at spell.four spell.hex_val spell.utf8_of filter_member is_condition wrong_filter filter_number filter_hex wrong_list wrong_hex wrong_time wrong_small whole_of whole_answer is_within is_natural all_digits is_digit value_from natural_of negative_of is_hex_of is_hex spell.all
hex_members = (refl, refl, refl, refl, refl, refl)

-- either letter spelled with an escape; a member after a good one; a fifth filter; beside rows 6 and 8; no subscription id
pub hex_refused :
    ((b : List ℕ) → replies_to b (ascii "[\"REQ\",\"s\",{\"#\\u0065\":[\"x\"]}]") ≡ closed (ascii "s") (ascii "invalid: hex at 23") ∷ [])
    × ((b : List ℕ) → replies_to b (ascii "[\"REQ\",\"s\",{\"#\\u0070\":[\"x\"]}]") ≡ closed (ascii "s") (ascii "invalid: hex at 23") ∷ [])
    × ((b : List ℕ) → replies_to b (ascii "[\"REQ\",\"s\",{\"#e\":[\"" ++ (replicate 64 97 ++ ascii "\",\"x\"]}]")) ≡ closed (ascii "s") (ascii "invalid: hex at 85") ∷ [])
    × ((b : List ℕ) → replies_to b (ascii "[\"REQ\",\"s\",{},{},{},{},{\"#e\":[\"x\"]}]") ≡ closed (ascii "s") (ascii "invalid: hex at 30") ∷ [])
    × ((b : List ℕ) → replies_to b (ascii "[\"REQ\",\"s\",{\"#e\":[\"x\"],\"limit\":65536}]") ≡ closed (ascii "s") (ascii "invalid: number at 31") ∷ [])
    × ((b : List ℕ) → replies_to b (ascii "[\"REQ\",\"s\",{\"#e\":[\"x\"]},{\"#p\":[]}]") ≡ closed (ascii "s") (ascii "invalid: hex at 18") ∷ [])
    × ((b : List ℕ) → replies_to b (ascii "[\"REQ\",\"s\",{\"#e\":[]}]") ≡ closed (ascii "s") (reason_of 8) ∷ [])
    × ((b : List ℕ) → replies_to b (ascii "[\"REQ\",\"\",{\"#e\":[\"x\"]}]") ≡ notice (ascii "invalid: hex at 17") ∷ [])
unfolding in_class run past one_at token_at word_at literal_at digits_at int_at frac_at exp_at number_at hex_at escaped_at char_at chars_up_to chars_at string_at scalar_at items_at tree_at is_utf8 utf8_from lead_of char_of chars_from char_bytes chars_bytes decode is_refused spell.any refuses same_bytes points character_count spelled_at refused_in any_item count_items name_at no_name_twice is_filter word_of all_items row6 row7 row8 filter_counts wrong_subscription tree_row message_row read_of named_of replies_to refusal spell.short_of spell.unicode_of spell.is_pair spell.four_at spell.four spell.hex_val spell.utf8_of filter_member is_condition wrong_filter filter_number filter_hex wrong_list wrong_hex wrong_time wrong_small whole_of whole_answer is_within is_natural all_digits is_digit value_from natural_of negative_of is_hex_of is_hex spell.all offset_for offset_of reason_of number_places hex_places collect least_of digits_in digits
hex_refused = ((λ b. refl), (λ b. refl), (λ b. refl), (λ b. refl), (λ b. refl), (λ b. refl), (λ b. refl), (λ b. refl))

-- ---- 02, Wish 3: control characters
-- the row of a REQ whose subscription id is spelled so
abbrev id_row : List ℕ → ℕ
id_row id = message_row (ascii "[\"REQ\",\"" ++ (id ++ ascii "\",{}]"))

-- one raw byte below 80 in it: those below 20, the quote and the backslash give row 3, and no byte gives another row
pub raw_ids :
    (those (λ b. eqb (id_row (b ∷ [])) 3) 128
    ≡ 0x00 ∷ 0x01 ∷ 0x02 ∷ 0x03 ∷ 0x04 ∷ 0x05 ∷ 0x06 ∷ 0x07 ∷ 0x08 ∷ 0x09 ∷ 0x0a ∷ 0x0b ∷ 0x0c ∷ 0x0d ∷ 0x0e ∷ 0x0f ∷ 0x10 ∷ 0x11 ∷ 0x12 ∷ 0x13 ∷ 0x14 ∷ 0x15 ∷ 0x16 ∷
    0x17 ∷ 0x18 ∷ 0x19 ∷ 0x1a ∷ 0x1b ∷ 0x1c ∷ 0x1d ∷ 0x1e ∷ 0x1f ∷ 0x22 ∷ 0x5c ∷ [])
    × (those (λ b. not (eqb (id_row (b ∷ [])) 3 || eqb (id_row (b ∷ [])) 0)) 128 ≡ [])
unfolding in_class run past one_at token_at word_at literal_at digits_at int_at frac_at exp_at number_at hex_at escaped_at char_at chars_up_to chars_at string_at scalar_at items_at tree_at is_utf8 utf8_from lead_of char_of chars_from char_bytes chars_bytes decode is_refused spell.any refuses same_bytes points character_count spelled_at refused_in any_item count_items name_at no_name_twice is_filter word_of all_items row6 row7 row8 filter_counts wrong_subscription tree_row message_row spell.short_of spell.unicode_of spell.is_pair spell.four_at spell.four spell.hex_val spell.utf8_of filter_member is_condition wrong_filter filter_number filter_hex wrong_list wrong_hex wrong_time wrong_small whole_of whole_answer is_within is_natural all_digits is_digit value_from natural_of negative_of is_hex_of is_hex spell.all
raw_ids = (refl, refl)

-- \u00 and two digits of any character below U+0020 give none
pub spelled_ids : those (λ b. not (eqb (id_row (ascii "\\u00" ++ (hex_digit (b / 16) ∷ hex_digit (b % 16) ∷ []))) 0)) 32 ≡ []
unfolding in_class run past one_at token_at word_at literal_at digits_at int_at frac_at exp_at number_at hex_at escaped_at char_at chars_up_to chars_at string_at scalar_at items_at tree_at is_utf8 utf8_from lead_of char_of chars_from char_bytes chars_bytes decode is_refused spell.any refuses same_bytes points character_count spelled_at refused_in any_item count_items name_at no_name_twice is_filter word_of all_items row6 row7 row8 filter_counts wrong_subscription tree_row message_row spell.short_of spell.unicode_of spell.is_pair spell.four_at spell.four spell.hex_val spell.utf8_of filter_member is_condition wrong_filter filter_number filter_hex wrong_list wrong_hex wrong_time wrong_small whole_of whole_answer is_within is_natural all_digits is_digit value_from natural_of negative_of is_hex_of is_hex spell.all
spelled_ids = refl

-- ids come back as characters; a digit in upper case; a control character in a name, and beside an unpaired surrogate
pub control_replies :
    ((b : List ℕ) → replies_to b (ascii "[\"REQ\",\"\\u0000\\u001F\\u000a\\u007f\"]") ≡ closed (0x00 ∷ 0x1f ∷ 0x0a ∷ 0x7f ∷ []) (reason_of 8) ∷ [])
    × ((b : List ℕ) → replies_to b (ascii "{\"\\u0001\":1}") ≡ notice (reason_of 5) ∷ [])
    × ((b : List ℕ) → replies_to b (ascii "[\"REQ\",\"\\u0001\\ud800\",{}]") ≡ notice (reason_of 4) ∷ [])
    × ((b : List ℕ) → replies_to b (0x01 ∷ ascii "[\"REQ\",\"s\",{}]") ≡ notice (reason_of 3) ∷ [])
unfolding in_class run past one_at token_at word_at literal_at digits_at int_at frac_at exp_at number_at hex_at escaped_at char_at chars_up_to chars_at string_at scalar_at items_at tree_at is_utf8 utf8_from lead_of char_of chars_from char_bytes chars_bytes decode is_refused spell.any refuses same_bytes points character_count spelled_at refused_in any_item count_items name_at no_name_twice is_filter word_of all_items row6 row7 row8 filter_counts wrong_subscription tree_row message_row read_of named_of replies_to refusal spell.short_of spell.unicode_of spell.is_pair spell.four_at spell.four spell.hex_val spell.utf8_of filter_member is_condition wrong_filter filter_number filter_hex wrong_list wrong_hex wrong_time wrong_small whole_of whole_answer is_within is_natural all_digits is_digit value_from natural_of negative_of is_hex_of is_hex spell.all offset_for offset_of reason_of
control_replies = ((λ b. refl), (λ b. refl), (λ b. refl), (λ b. refl))

-- 0D stays in the line; empty lines are messages
pub lines_cut : (lines (ascii "a\r\nb") ≡ ascii "a\r" ∷ ascii "b" ∷ []) × (lines (ascii "\n\n") ≡ [] ∷ [] ∷ [])
unfolding lines
lines_cut = (refl, refl)

abbrev wrong_kind : List ℕ → List ℕ
wrong_kind id = ascii "[\"EVENT\",{\"id\":\"" ++ (id ++ ascii "\",\"kind\":1e3,\"pubkey\":\"\",\"created_at\":0,\"tags\":[],\"content\":\"\",\"sig\":\"\"}]")

abbrev message : List ℕ
message = wrong_kind (ascii "\\u0061" ++ replicate 63 97)

row : message_row message ≡ 6
unfolding in_class run past one_at token_at word_at literal_at digits_at int_at frac_at exp_at number_at hex_at escaped_at char_at chars_up_to chars_at string_at scalar_at items_at tree_at is_utf8 utf8_from lead_of char_of chars_from char_bytes chars_bytes decode is_refused spell.any refuses same_bytes points character_count spelled_at refused_in any_item count_items name_at no_name_twice is_filter word_of all_items row6 row7 row8 filter_counts wrong_subscription tree_row message_row spell.short_of spell.unicode_of spell.is_pair spell.four_at spell.four spell.hex_val spell.utf8_of is_event event_member once event_number wrong_time wrong_small whole_of whole_answer is_within is_natural all_digits is_digit value_from natural_of negative_of
row = refl

-- the place of the number
offset : offset_of message ≡ Some 94
unfolding in_class run past one_at token_at word_at literal_at digits_at int_at frac_at exp_at number_at hex_at escaped_at char_at chars_up_to chars_at string_at scalar_at items_at tree_at is_utf8 utf8_from lead_of char_of chars_from char_bytes chars_bytes decode is_refused spell.any refuses same_bytes points character_count spelled_at refused_in any_item count_items name_at no_name_twice is_filter word_of all_items row6 row7 row8 filter_counts wrong_subscription tree_row message_row spell.short_of spell.unicode_of spell.is_pair spell.four_at spell.four spell.hex_val spell.utf8_of is_event event_member once event_number wrong_time wrong_small whole_of whole_answer is_within is_natural all_digits is_digit value_from natural_of negative_of offset_of number_places hex_places collect least_of
offset = refl

abbrev place : Span
place = record { start = 16; len = 69 }

found : (word_in message ≡ word.event) × (id_field message ≡ place)
unfolding in_class run past one_at token_at word_at literal_at digits_at int_at frac_at exp_at number_at hex_at escaped_at char_at chars_up_to chars_at string_at scalar_at items_at tree_at char_of chars_from char_bytes chars_bytes decode same_bytes spelled_at name_at word_of member_of
found = (refl, refl)

spelled : (is_hex_of 64 (bytes message place) ≡ true) × (said message place ≡ replicate 64 97)
unfolding char_of chars_from char_bytes chars_bytes decode spell.short_of spell.unicode_of spell.is_pair spell.four_at spell.four spell.hex_val spell.utf8_of is_hex_of spell.all is_hex
spelled = (refl, refl)

-- from the law, so that the checker reads the message a few times only
named : (b m i : List ℕ) (p : Span) (r : ℕ) (x : Option ℕ) → message_row m ≡ r → offset_of m ≡ x → 6 ≤ r → word_in m ≡ word.event → id_field m ≡ p → is_hex_of 64 (bytes m p) ≡ true
    → said m p ≡ i → replies_to b m ≡ ok i false (refusal_reason (record { row = r; offset = x })) ∷ []
named b m i p r x e o h w f t s = (late_event b m (omega arith) w).0 ∙ rw (f, t, s, e, o)

pub wrong_kind_lem : (b : List ℕ) → replies_to b message ≡ ok (replicate 64 97) false (refusal_reason (record { row = 6; offset = Some 94 })) ∷ []
wrong_kind_lem b = named b message (replicate 64 97) place 6 (Some 94) row offset (omega arith) found.0 found.1 spelled.0 spelled.1
