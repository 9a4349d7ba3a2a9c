-- 01's program input of four lines, by computation: what is read from each line, and so what the program writes.
use Rattle.std.specs.Prelude.{Ok}
use mathlib.Core.Path.{◌≡◌, refl, sym, ap, ap₂, ◌∙◌}
use mathlib.Core.Bool.{true, cond}
use lib.Dec.{ltb}
use mathlib.Core.List.{List, [], ◌∷◌, ◌++◌}
use Prim.Native.Nat.{ℕ}
use native.Mathlib.Omega.{arith}
use Rattle.wire.specs.Bytes.{same_bytes}
use Rattle.wire.specs.Escape.{letter_of, esc_one, escape, json_one, json_of}
use Rattle.utf8.specs.Utf8.{is_utf8, utf8_from, lead_of}
use Rattle.json_tree.specs.Grammar.{in_class, run, past, one_at, token_at, word_at, literal_at, digits_at, int_at, frac_at, exp_at}
use Rattle.json_tree.specs.Grammar.{number_at, hex_at, escaped_at, char_at, chars_up_to, chars_at, string_at, scalar_at}
use Rattle.json_tree.specs.Tree.{items_at, tree_at}
use Rattle.spell.specs.Spell as spell
use Rattle.spell.specs.Spell.{char_of, chars_from, char_bytes, chars_bytes, decode, is_refused, refuses, points}
use Rattle.spell.specs.Spell.{character_count}
use Rattle.rows.specs.Strings.{spelled_at, refused_in}
use Rattle.shape.specs.Shape.{any_item, all_items, count_items, name_at, no_name_twice, is_filter, word_of}
use Rattle.shape.specs.Rows.{row6, row7, row8, filter_counts, wrong_subscription, tree_row, message_row}
use Rattle.message.specs.Read.{read_of}
use Rattle.message.specs.declared.Message.TheVariants as message
use Rattle.text.specs.Event.{quoted}
use lib.ListN.{replicate, length, length-map, length-replicate}
use Rattle.table.proofs.Cells.{length_cells}
use Rattle.table.specs.Layout.{slot_size, table_size, count_of, held_slots}
use Rattle.table.specs.Events.{in_slot, view}
use Rattle.table.specs.Sound.{sound}
use Rattle.table.specs.Format.{format_row}
use Rattle.table.proofs.Formatted.{formatted_view, formatted_sound}
use Rattle.query.specs.Answer.{keep, numbers_from, newest_first, union, answer_list, filters_meant}
use Rattle.wire.specs.Ascii.{ascii}
use Rattle.reply.specs.Replies.{Reply, eose, notice, string_json, reply_text, reason_of}
use Rattle.program.specs.Program.{events_of, request_replies, replies_to, table_after, lines, written}
use Rattle.program.specs.Program.{output_from, program_slots, fresh_table, output}
use Rattle.program.proofs.Which.{early_at}

braces : message_row (ascii "{}") ≡ 5
unfolding in_class run past one_at token_at word_at literal_at digits_at int_at frac_at exp_at number_at hex_at escaped_at char_at chars_up_to chars_at string_at scalar_at items_at tree_at is_utf8 utf8_from lead_of char_of chars_from char_bytes chars_bytes decode is_refused spell.any refuses same_bytes points character_count spelled_at refused_in any_item count_items name_at no_name_twice is_filter word_of all_items row6 row7 row8 filter_counts wrong_subscription tree_row message_row
braces = refl

pub request : read_of (ascii "[\"REQ\",\"s\",{}]") ≡ Ok (message.Req (record { subscription = record { start = 8; len = 1 }; filters = 11 }))
unfolding in_class run past one_at token_at word_at literal_at digits_at int_at frac_at exp_at number_at hex_at escaped_at char_at chars_up_to chars_at string_at scalar_at items_at tree_at is_utf8 utf8_from lead_of char_of chars_from char_bytes chars_bytes decode is_refused spell.any refuses same_bytes points character_count spelled_at refused_in any_item count_items name_at no_name_twice is_filter word_of all_items row6 row7 row8 filter_counts wrong_subscription tree_row message_row read_of
request = refl

close : read_of (ascii "[\"CLOSE\",\"s\"]") ≡ Ok (message.Close (record { start = 10; len = 1 }))
unfolding in_class run past one_at token_at word_at literal_at digits_at int_at frac_at exp_at number_at hex_at escaped_at char_at chars_up_to chars_at string_at scalar_at items_at tree_at is_utf8 utf8_from lead_of char_of chars_from char_bytes chars_bytes decode is_refused spell.any refuses same_bytes points character_count spelled_at refused_in any_item count_items name_at no_name_twice is_filter word_of all_items row6 row7 row8 filter_counts wrong_subscription tree_row message_row read_of
close = refl

empty : message_row [] ≡ 3
unfolding in_class run past one_at token_at word_at literal_at digits_at int_at frac_at exp_at number_at hex_at escaped_at char_at chars_up_to chars_at string_at scalar_at items_at tree_at is_utf8 utf8_from lead_of char_of chars_from char_bytes chars_bytes decode is_refused spell.any refuses same_bytes points character_count spelled_at refused_in any_item count_items name_at no_name_twice is_filter word_of all_items row6 row7 row8 filter_counts wrong_subscription tree_row message_row
empty = refl

-- ---- the fresh table
pub row_0 : format_row program_slots (replicate (table_size program_slots) 0) ≡ 0
unfolding format_row
row_0 = ap (λ n. cond (ltb n (table_size program_slots)) 13 0) (length-replicate {A = ℕ} (table_size program_slots) 0)

pub fresh_sound : sound fresh_table ≡ true
fresh_sound = formatted_sound program_slots (replicate (table_size program_slots) 0) row_0

-- it holds nothing
fresh_count : count_of fresh_table ≡ 0
unfolding view
fresh_count =
    sym (length-map (held_slots fresh_table) in_slot ∙ length_cells slot_size (count_of fresh_table) _)
    ∙ ap length (formatted_view program_slots (replicate (table_size program_slots) 0) row_0)

fresh_answer : answer_list fresh_table (filters_meant (ascii "[\"REQ\",\"s\",{}]") 11) ≡ []
unfolding answer_list union numbers_from keep newest_first
fresh_answer = rw fresh_count

-- ---- the replies to each line, and the table
first : (replies_to fresh_table (ascii "{}") ≡ notice (reason_of 5) ∷ []) × (table_after fresh_table (ascii "{}") ≡ fresh_table)
first = early_at fresh_table (ascii "{}") 5 braces (omega arith) (omega arith)

second : (replies_to fresh_table (ascii "[\"REQ\",\"s\",{}]") ≡ eose (ascii "s") ∷ []) × (table_after fresh_table (ascii "[\"REQ\",\"s\",{}]") ≡ fresh_table)
unfolding replies_to table_after request_replies events_of char_of chars_from char_bytes chars_bytes decode
second = (rw (request, fresh_sound, fresh_answer), rw request)

third : (replies_to fresh_table (ascii "[\"CLOSE\",\"s\"]") ≡ []) × (table_after fresh_table (ascii "[\"CLOSE\",\"s\"]") ≡ fresh_table)
unfolding replies_to table_after
third = (rw close, rw close)

fourth : replies_to fresh_table [] ≡ notice (reason_of 3) ∷ []
fourth = (early_at fresh_table [] 3 empty (omega arith) (omega arith)).0

-- ---- the whole input
abbrev input : List ℕ
input = ascii "{}\n[\"REQ\",\"s\",{}]\n[\"CLOSE\",\"s\"]\n\n"

split : lines input ≡ ascii "{}" ∷ ascii "[\"REQ\",\"s\",{}]" ∷ ascii "[\"CLOSE\",\"s\"]" ∷ [] ∷ []
unfolding lines
split = refl

-- a message that leaves the table as it is
turn : (b m : List ℕ) (ms : List (List ℕ)) (rs : List Reply) → replies_to b m ≡ rs → table_after b m ≡ b → output_from b (m ∷ ms) ≡ written rs ++ output_from b ms
unfolding output_from
turn b m ms rs p q = ap₂ (λ r c. written r ++ output_from c ms) p q

last : (b m : List ℕ) (rs : List Reply) → replies_to b m ≡ rs → output_from b (m ∷ []) ≡ written rs ++ []
unfolding output_from
last b m rs p = ap (λ r. written r ++ []) p

texts : written (notice (reason_of 5) ∷ []) ++ (written (eose (ascii "s") ∷ []) ++ (written [] ++ (written (notice (reason_of 3) ∷ []) ++ [])))
    ≡ ascii "[\"NOTICE\",\"invalid: wrong shape\"]\n[\"EOSE\",\"s\"]\n[\"NOTICE\",\"invalid: not JSON\"]\n"
unfolding written string_json json_of json_one reply_text reason_of quoted letter_of esc_one escape
texts = refl

-- "Program input of four lines .. prints exactly"
pub four_lines : output input ≡ ascii "[\"NOTICE\",\"invalid: wrong shape\"]\n[\"EOSE\",\"s\"]\n[\"NOTICE\",\"invalid: not JSON\"]\n"
unfolding output
four_lines =
    ap (output_from fresh_table) split
    ∙ turn fresh_table _ _ _ first.0 first.1
    ∙ ap (written (notice (reason_of 5) ∷ []) ++◌)
    (turn fresh_table _ _ _ second.0 second.1
    ∙ ap (written (eose (ascii "s") ∷ []) ++◌) (turn fresh_table _ _ _ third.0 third.1 ∙ ap (written [] ++◌) (last fresh_table [] _ fourth)))
    ∙ texts
