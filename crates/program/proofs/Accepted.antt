-- An EVENT message that is accepted, by computation: it is read, its text is hashed to its id, and a fresh table stores
-- it.
use Rattle.std.specs.Prelude.{None, Some, Ok}
use mathlib.Core.Path.{◌≡◌, refl, sym, ap, ap₂, ◌∙◌}
use mathlib.Core.Bool.{true}
use mathlib.Core.List.{List, [], ◌∷◌, ◌++◌}
use Prim.Native.Nat.{ℕ}
use lib.Dec.{lit≤, lit<}
use lib.IntN.{pos}
use lib.ListN.{length, get_or, replicate}
use Rattle.wire.specs.Bytes.{same_bytes, is_hex}
use Rattle.utf8.specs.Utf8.{is_utf8, utf8_from, lead_of}
use Rattle.json_tree.specs.Grammar.{in_class, run, past, one_at, token_at, word_at, literal_at, digits_at, int_at, frac_at, exp_at}
use Rattle.json_tree.specs.Grammar.{number_at, hex_at, escaped_at, char_at, chars_up_to, chars_at, string_at, scalar_at}
use Rattle.json_tree.specs.Tree.{items_at, tree_at}
use Rattle.numeral.specs.Whole.{is_digit, all_digits, value_from, is_natural, natural_of, negative_of, whole_of, is_within}
use Rattle.numeral.specs.Whole.{whole_answer}
use Rattle.spell.specs.Spell as spell
use Rattle.spell.specs.Spell.{hex_val, char_of, chars_from, char_bytes, chars_bytes, decode, is_refused, refuses, is_hex_of}
use Rattle.spell.specs.Spell.{points, character_count}
use Rattle.rows.specs.Strings.{spelled_at, refused_in}
use Rattle.shape.specs.Shape.{any_item, all_items, count_items, name_at, no_name_twice, once, event_member, is_event, is_filter}
use Rattle.shape.specs.Shape.{word_of}
use Rattle.shape.specs.Rows.{row6, row7, row8, event_number, event_hex, event_count, wrong_time, wrong_small, wrong_hex}
use Rattle.shape.specs.Offsets.{plain_refusal}
use Rattle.shape.specs.Rows.{wrong_tag, filter_counts, wrong_subscription, tree_row, message_row}
use Rattle.message.specs.Parts.{member_of, body_of, event_parts_of, members_at, filter_at}
use Rattle.message.specs.Read.{read_of}
use Rattle.message.specs.declared.EventParts.{EventParts}
use Rattle.message.specs.declared.Message.TheVariants as message
use Rattle.wire.specs.Escape.{letter_of, esc_one, escape, json_one, json_of}
use Rattle.numeral.specs.Decimal.{digits_in, digits, decimal}
use Rattle.text.specs.Event.{quoted, members_text, tag_text, tags_text, serialise}
use Rattle.event.specs.Lent.{tags_of, lent_tags_at, text_of, said}
use Rattle.event.specs.Lent as lent
use Rattle.event.specs.Answer.{hex_of}
use Rattle.text.specs.Event.{Event, is_pubkey, is_time}
use Rattle.text.specs.Event as texts
use Rattle.text.specs.Read as reading
use Rattle.text.specs.Read.{read, read_text, opened_text, stands_at, fields_at, pair_at, closed_at, pubkey_at, time_at, run_of}
use Rattle.text.specs.Read.{kind_at, body_from}
use Rattle.text.specs.Kinds as kinds
use Rattle.law.specs.Table.{regular, stored, verdict, after}
use Rattle.table.specs.Events.{SignedEvent, signed_events, in_slot, of_held, class_of_event, class_of_text, view}
use Rattle.table.specs.Offer.{as_message, unhex, held_of, parts_of, offered_of, judge, message_offer_row, answer, next}
use Rattle.table.specs.Offer as offer
use Rattle.table.specs.Layout.{table_size, capacity_of, count_of, slot_at, id_in, sig_in, text_in}
use Rattle.table.specs.Sound.{sound}
use Rattle.table.specs.Demand3.{Fresh}
use Rattle.table.specs.declared.Offered.TheVariants.{Stored}
use Rattle.table.proofs.Rows.{rows_in_order}
use Rattle.table.proofs.Formatted.{just_formatted, formatted_capacity}
use Rattle.table.proofs.Good.{fresh_good, fresh_view}
use Rattle.table.proofs.Faithful.{faithful}
use Rattle.table.proofs.Stored.{length_view}
use Rattle.table.proofs.Shown.{view_at}
use Rattle.query.specs.Filter.{Filter, filter_of}
use Rattle.query.specs.Match.{matches}
use Rattle.query.specs.Answer.{keep, among, numbers_from, newest_first, insert, picked, union, answer_list, filters_meant}
use Rattle.query.specs.Answer.{matches_slot}
use Rattle.message.specs.Lists.{elements_from, up_to, next_of}
use Rattle.message.specs.Parts as msg
use Rattle.reply.specs.Replies.{ok, event, eose, string_json, tags_json, reply_text, object_text}
use Rattle.program.specs.Program.{is_accepted, verdict_reason}
use Rattle.program.specs.Program.{events_of, request_replies, replies_to, table_after, lines, written, output_from}
use Rattle.program.specs.Program.{program_slots, fresh_table, output}
use Rattle.program.proofs.Example.{row_0, request}
use Rattle.program.proofs.Which.{read_event}
use Rattle.digest.specs.Block.{K, H0, words, schedule, round, rounds, chained, compress}
use Rattle.digest.specs.Digest.{padding, padded, hash_after, digest_bytes, digest}
use Rattle.digest.specs.Digest as digests
use Rattle.wire.specs.Ascii.{ascii}

abbrev sent : List ℕ
sent = ascii "[\"EVENT\",{\"id\":\"3d4067efc37f3f54be41331244aaadf439dddfd47b27315e8ca570dffc7c927b\",\"pubkey\":\"aaaaaaaaaaaaaaaaaaaaaaaaaaaaaaaaaaaaaaaaaaaaaaaaaaaaaaaaaaaaaaaa\",\"created_at\":0,\"kind\":1,\"tags\":[],\"content\":\"\",\"sig\":\"bbbbbbbbbbbbbbbbbbbbbbbbbbbbbbbbbbbbbbbbbbbbbbbbbbbbbbbbbbbbbbbbbbbbbbbbbbbbbbbbbbbbbbbbbbbbbbbbbbbbbbbbbbbbbbbbbbbbbbbbbbbbbbbb\"}]"

abbrev parts : EventParts
parts = record {
  id = record { start = 16; len = 64 };
  body = record {
    pubkey = record { start = 92; len = 64 };
    created_at = pos 0;
    kind = pos 1;
    tags = 189;
    content = record { start = 203; len = 0 };
  };
  sig = record { start = 212; len = 128 };
}

abbrev text : List ℕ
text = ascii "[0,\"aaaaaaaaaaaaaaaaaaaaaaaaaaaaaaaaaaaaaaaaaaaaaaaaaaaaaaaaaaaaaaaa\",0,1,[],\"\"]"

abbrev id : List ℕ
id = 0x3d ∷ 0x40 ∷ 0x67 ∷ 0xef ∷ 0xc3 ∷ 0x7f ∷ 0x3f ∷ 0x54 ∷ 0xbe ∷ 0x41 ∷ 0x33 ∷ 0x12 ∷ 0x44 ∷ 0xaa ∷ 0xad ∷ 0xf4 ∷ 0x39 ∷ 0xdd ∷ 0xdf ∷ 0xd4 ∷ 0x7b ∷ 0x27 ∷ 0x31 ∷ 0x5e ∷ 0x8c ∷ 0xa5 ∷ 0x70 ∷ 0xdf ∷ 0xfc ∷ 0x7c ∷ 0x92 ∷ 0x7b ∷ []

hash : digest text ≡ id
unfolding digest digest_bytes hash_after padded padding digests.big_endian compress chained rounds round schedule words H0 K
hash = refl

reads : read_of sent ≡ Ok (message.Event parts)
unfolding in_class run past one_at token_at word_at literal_at digits_at int_at frac_at exp_at number_at hex_at escaped_at char_at chars_up_to chars_at string_at scalar_at items_at tree_at is_utf8 utf8_from lead_of char_of chars_from char_bytes chars_bytes decode is_refused spell.any refuses same_bytes is_hex spell.all is_hex_of points character_count spelled_at refused_in any_item all_items count_items name_at no_name_twice is_filter is_event event_member once word_of row6 row7 row8 event_number event_hex event_count wrong_time wrong_small wrong_hex wrong_tag filter_counts wrong_subscription tree_row message_row read_of event_parts_of body_of member_of is_digit all_digits value_from is_natural natural_of negative_of whole_of is_within whole_answer
reads = refl

writes : text_of sent parts.body ≡ text
unfolding in_class run past one_at token_at word_at literal_at digits_at int_at frac_at exp_at number_at hex_at escaped_at char_at chars_up_to chars_at string_at scalar_at items_at tree_at char_of chars_from char_bytes chars_bytes decode tags_of lent_tags_at lent.event_of text_of letter_of esc_one escape digits_in digits decimal quoted members_text tag_text tags_text serialise
writes = refl

-- none of rows 1 to 10 refuses it
valid : message_offer_row sent ≡ 0
unfolding char_of chars_from char_bytes chars_bytes decode hex_of
valid = (rows_in_order.2 sent parts reads).none (rw writes (lit≤ tt)) (rw (writes, hash) refl)

-- ---- a fresh table stores it, and a REQ gives it back
abbrev note : SignedEvent
note = (record { id = id; text = text }, replicate 64 0xbb)

held_is : of_held (held_of sent parts) ≡ note
unfolding held_of unhex hex_val in_class run past one_at token_at word_at literal_at digits_at int_at frac_at exp_at number_at hex_at escaped_at char_at chars_up_to chars_at string_at scalar_at items_at tree_at char_of chars_from char_bytes chars_bytes decode tags_of lent_tags_at lent.event_of letter_of esc_one escape digits_in digits decimal quoted members_text tag_text tags_text serialise
held_is = refl

judged : judge (as_message sent) ≡ Some note
unfolding judge parts_of
judged = rw (valid, reads) (ap Some held_is)

abbrev content : Event
content = record { pubkey = replicate 64 97; time = pos 0; kind = 1; tags = []; content = [] }

text_read : read_text text ≡ read content
unfolding read_text opened_text stands_at fields_at pair_at closed_at pubkey_at is_pubkey is_hex texts.all time_at run_of whole_of natural_of is_natural all_digits is_digit value_from negative_of is_time is_within kind_at reading.tags_at reading.text_members_at reading.string_at body_from is_utf8 utf8_from
text_read = refl

regular_note : class_of_text text ≡ regular
unfolding class_of_text class_of_event kinds.class_of
regular_note = rw text_read

first_verdict_lem : verdict signed_events 8 [] (Some note) ≡ stored
unfolding verdict
first_verdict_lem = rw regular_note

first_view : after signed_events 8 [] (Some note) ≡ note ∷ []
unfolding after
first_view = rw first_verdict_lem

fresh : Fresh fresh_table
fresh = just_formatted program_slots (replicate (table_size program_slots) 0) row_0

capacity : capacity_of fresh_table ≡ 8
capacity = formatted_capacity program_slots (replicate (table_size program_slots) 0) row_0

abbrev table : List ℕ
table = next fresh_table (as_message sent)

table_view : view table ≡ note ∷ []
table_view =
    faithful.does fresh_table (as_message sent) (fresh_good fresh_table fresh)
    ∙ ap (λ (t : List SignedEvent). after signed_events (capacity_of fresh_table) t (judge (as_message sent))) (fresh_view fresh_table fresh)
    ∙ ap₂ (λ N j. after signed_events N [] j) capacity judged
    ∙ first_view

table_sound : sound table ≡ true
table_sound = (faithful.good fresh_table (as_message sent) (fresh_good fresh_table fresh)).is_sound

table_count : count_of table ≡ 1
table_count = sym (length_view table) ∙ ap length table_view

says_stored : answer fresh_table (as_message sent) ≡ Ok Stored
unfolding parts_of
says_stored =
    (rows_in_order.0 fresh_table (as_message sent)).judged (rw valid) (fresh_good fresh_table fresh).is_sound
    ∙ ap (λ (t : List SignedEvent). offer.offered_by (plain_refusal 0) (verdict signed_events (capacity_of fresh_table) t (Some (of_held (offered_of (as_message sent)))))) (fresh_view fresh_table fresh)
    ∙ ap (λ N. offer.offered_by (plain_refusal 0) (verdict signed_events N [] (Some (of_held (offered_of (as_message sent)))))) capacity
    ∙ ap (λ x. offer.offered_by (plain_refusal 0) (verdict signed_events 8 [] (Some x))) (rw reads held_is)
    ∙ ap (offer.offered_by (plain_refusal 0)) first_verdict_lem

-- slot 0 holds it
slot_0 : in_slot (slot_at table 0) ≡ note
slot_0 = sym (view_at table 0 (rw table_count (lit< tt))) ∙ ap (λ (t : List SignedEvent). get_or t 0 (in_slot [])) table_view

abbrev asked : List ℕ
asked = ascii "[\"REQ\",\"s\",{}]"

abbrev all_events : Filter
all_events = record { ids = None; authors = None; kinds = None; since = None; until = None; limit = None; conditions = [] }

matched : matches_slot table all_events 0 ≡ true
unfolding matches_slot matches texts.all
matched = rw (ap (λ (x : SignedEvent). read_text x.0.text) slot_0 ∙ text_read)

the_filter : filters_meant asked 11 ≡ all_events ∷ []
unfolding in_class run past one_at token_at word_at literal_at digits_at int_at frac_at exp_at number_at hex_at escaped_at char_at chars_up_to chars_at string_at scalar_at items_at tree_at filters_meant filter_of filter_at members_at msg.filter_parts_of member_of elements_from up_to next_of
the_filter = refl

answered : answer_list table (filters_meant asked 11) ≡ 0 ∷ []
unfolding answer_list union picked keep among numbers_from newest_first insert
answered = rw (the_filter, table_count, matched)

-- ---- what the program writes
hex_id : said sent parts.id ≡ hex_of id
unfolding char_of chars_from char_bytes chars_bytes decode hex_of
hex_id = refl

event_reply : (replies_to fresh_table sent ≡ ok (hex_of id) true [] ∷ []) × (table_after fresh_table sent ≡ table)
event_reply =
    let (r, t) = read_event fresh_table sent parts reads in
    (r ∙ ap₂ (λ i a. ok i (is_accepted a) (verdict_reason a) ∷ []) hex_id says_stored, t)

slot_shown : events_of table (ascii "s") (0 ∷ []) ≡ event (ascii "s") (hex_of id) content (hex_of (replicate 64 0xbb)) ∷ []
unfolding events_of
slot_shown =
    let t : read_text (text_in (slot_at table 0)) ≡ read content = ap (λ (x : SignedEvent). read_text x.0.text) slot_0 ∙ text_read in
    let i : id_in (slot_at table 0) ≡ id = ap (λ (x : SignedEvent). x.0.id) slot_0 in
    let g : sig_in (slot_at table 0) ≡ replicate 64 0xbb = ap (λ (x : SignedEvent). x.1) slot_0 in
    rw (t, i, g)

request_reply : replies_to table asked ≡ event (ascii "s") (hex_of id) content (hex_of (replicate 64 0xbb)) ∷ eose (ascii "s") ∷ []
unfolding replies_to request_replies char_of chars_from char_bytes chars_bytes decode
request_reply = rw (request, table_sound, answered, slot_shown)

texts_are : written (ok (hex_of id) true [] ∷ []) ++ (written (event (ascii "s") (hex_of id) content (hex_of (replicate 64 0xbb)) ∷ eose (ascii "s") ∷ []) ++ [])
    ≡ ascii "[\"OK\",\"3d4067efc37f3f54be41331244aaadf439dddfd47b27315e8ca570dffc7c927b\",true,\"\"]\n[\"EVENT\",\"s\",{\"id\":\"3d4067efc37f3f54be41331244aaadf439dddfd47b27315e8ca570dffc7c927b\",\"pubkey\":\"aaaaaaaaaaaaaaaaaaaaaaaaaaaaaaaaaaaaaaaaaaaaaaaaaaaaaaaaaaaaaaaa\",\"created_at\":0,\"kind\":1,\"tags\":[],\"content\":\"\",\"sig\":\"bbbbbbbbbbbbbbbbbbbbbbbbbbbbbbbbbbbbbbbbbbbbbbbbbbbbbbbbbbbbbbbbbbbbbbbbbbbbbbbbbbbbbbbbbbbbbbbbbbbbbbbbbbbbbbbbbbbbbbbbbbbbbbbb\"}]\n[\"EOSE\",\"s\"]\n"
unfolding written string_json tags_json json_of json_one reply_text object_text hex_of letter_of esc_one escape digits_in digits decimal quoted members_text tags_text
texts_are = refl

split : lines (sent ++ (0x0a ∷ asked)) ≡ sent ∷ asked ∷ []
unfolding lines
split = refl

-- an EVENT and then a REQ, the last line without 0A: an OK, the event, and EOSE
pub stored_and_shown : output (sent ++ (0x0a ∷ asked)) ≡ ascii "[\"OK\",\"3d4067efc37f3f54be41331244aaadf439dddfd47b27315e8ca570dffc7c927b\",true,\"\"]\n[\"EVENT\",\"s\",{\"id\":\"3d4067efc37f3f54be41331244aaadf439dddfd47b27315e8ca570dffc7c927b\",\"pubkey\":\"aaaaaaaaaaaaaaaaaaaaaaaaaaaaaaaaaaaaaaaaaaaaaaaaaaaaaaaaaaaaaaaa\",\"created_at\":0,\"kind\":1,\"tags\":[],\"content\":\"\",\"sig\":\"bbbbbbbbbbbbbbbbbbbbbbbbbbbbbbbbbbbbbbbbbbbbbbbbbbbbbbbbbbbbbbbbbbbbbbbbbbbbbbbbbbbbbbbbbbbbbbbbbbbbbbbbbbbbbbbbbbbbbbbbbbbbbbbb\"}]\n[\"EOSE\",\"s\"]\n"
unfolding output output_from
stored_and_shown =
    ap (output_from fresh_table) split
    ∙ ap₂ (λ r b. written r ++ (written (replies_to b asked) ++ [])) event_reply.0 event_reply.1
    ∙ ap (λ r. written (ok (hex_of id) true [] ∷ []) ++ (written r ++ [])) request_reply
    ∙ texts_are
