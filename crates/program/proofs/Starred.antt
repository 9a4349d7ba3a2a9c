-- The starred cases of 01 hold: one statement.
use Rattle.std.specs.Prelude.{Some, None}
use mathlib.Core.Path.{◌≡◌, refl, sym, ap, ◌∙◌}
use mathlib.Core.Bool.{Bool, true, false, cond}
use mathlib.Core.List.{List, [], ◌∷◌, ◌++◌}
use Prim.Native.Nat.{ℕ, zero, suc, ◌+◌}
use native.Mathlib.Omega.{arith}
use borrow.Author.Tests.{le-leb, not-false}
use lib.Dec.{ltb}
use lib.IntN.{pos, negsuc}
use lib.ListN.{length, replicate, length-append, length-replicate}
use lib.Seq.{take_all}
use Rattle.wire.specs.Bytes.{same_bytes, is_hex}
use Rattle.wire.specs.Escape.{letter_of, esc_one, escape}
use Rattle.utf8.specs.Utf8.{is_utf8, utf8_from, lead_of}
use Rattle.json_tree.specs.Grammar as json
use Rattle.json_tree.specs.Grammar.{run, past, one_at, token_at, word_at, literal_at, digits_at, int_at, frac_at, exp_at, number_at}
use Rattle.json_tree.specs.Grammar.{hex_at, escaped_at, char_at, chars_up_to, chars_at, string_at, scalar_at}
use Rattle.json_tree.specs.Tree.{arr, nil, got, items_at, tree_at}
use Rattle.numeral.specs.Decimal.{digits_in, digits, decimal}
use Rattle.numeral.specs.Whole.{is_digit, all_digits, value_from, is_natural, natural_of, negative_of, whole_of, whole_answer}
use Rattle.numeral.specs.Whole.{is_within}
use Rattle.spell.specs.Spell as spell
use Rattle.spell.specs.Spell.{char_of, chars_from, char_bytes as bytesOfChar, chars_bytes, decode, is_hex_of}
use Rattle.spell.proofs.Laws.{decode_escape}
use Rattle.rows.specs.Strings.{spelled_at, refused_in}
use Rattle.shape.specs.Shape.{any_item, all_items, count_items, name_at, is_condition}
use Rattle.text.specs.Event.{quoted, members_text, tag_text, tags_text, serialise, all, is_string_bytes}
use Rattle.text.specs.Kinds.{class_of, d_of, key_of}
use Rattle.text.proofs.Cases.{xs_length, xs_cases}
use Rattle.text.proofs.Strings.{utf8_escape}
use Rattle.message.specs.declared.Span.{Span}
use Rattle.message.specs.declared.Body.{Body}
use Rattle.message.specs.Parts as parts
use Rattle.message.specs.Parts.{members_at, filter_at}
use Rattle.message.specs.Lent.{span_bytes, is_inside, is_spelled, string2, string4, string5, string7, wrong_number, value2}
use Rattle.message.specs.Lent.{value4, value5, body2, body4, body5, body6, body7, body8, body_row}
use Rattle.event.specs.Lent.{said, strings_of, tags_of, lent_tags_at, event_of, text_of}
use Rattle.event.specs.Answer.{is_large, body_text_row}
use Rattle.event.specs.Order.{is_lower, is_newer}
use Rattle.table.proofs.Strings.{escape_spelling}
use Rattle.table.proofs.Refused.{not_refused}
use Rattle.query.specs.Filter.{Filter, filter_of}
use Rattle.query.specs.Match.{matches}
use Rattle.query.specs.Answer.{keep, among, newest_first, picked, union, answer_list}
use Rattle.wire.specs.Ascii.{ascii}
use Rattle.program.specs.Starred.{AllCases, A, dated, lent_in, lent_parts, filter_of_text, starred}

-- a test that nothing passes keeps nothing
keep_none : (p : ℕ → Bool) → ((s : ℕ) → p s ≡ false) → (l : List ℕ) → keep p l ≡ []
unfolding keep
keep_none p n [] = refl
keep_none p n (x ∷ l) = rw (n x) (keep_none p n l)

-- a filter with limit 0 picks no slot, so alone it is answered with none
nothing : (f : Filter) → f.limit ≡ Some (pos 0) → (b : List ℕ) → answer_list b (f ∷ []) ≡ []
unfolding answer_list union picked newest_first among
nothing f e b = rw (e, keep_none (λ s. false) (λ s. refl))

-- ---- filters read from their texts
limit_read : (filter_of_text (ascii "{\"limit\":0}")).limit ≡ Some (pos 0)
unfolding json.in_class run past one_at token_at word_at literal_at digits_at int_at frac_at exp_at number_at hex_at escaped_at char_at chars_up_to chars_at string_at scalar_at items_at tree_at is_digit all_digits value_from is_natural natural_of negative_of whole_of whole_answer char_of chars_from bytesOfChar chars_bytes decode spell.any same_bytes spelled_at name_at parts.filter_parts_of members_at filter_at strings_of filter_of parts.member_of is_within is_condition
limit_read = refl

since_read : filter_of_text (ascii "{\"since\":0}")
    ≡ record { ids = None; authors = None; kinds = None; since = Some (pos 0); until = None; limit = None; conditions = [] }
unfolding json.in_class run past one_at token_at word_at literal_at digits_at int_at frac_at exp_at number_at hex_at escaped_at char_at chars_up_to chars_at string_at scalar_at items_at tree_at is_digit all_digits value_from is_natural natural_of negative_of whole_of whole_answer char_of chars_from bytesOfChar chars_bytes decode spell.any same_bytes spelled_at name_at parts.filter_parts_of members_at filter_at strings_of filter_of parts.member_of is_within is_condition
since_read = refl

shut_out : (i : List ℕ) → matches (filter_of_text (ascii "{\"since\":0}")) i (dated (negsuc 0) 1 [] []) ≡ false
unfolding matches
shut_out i = rw since_read

-- ---- a lent part that spells a string
clean : (b : List ℕ) (s : Span) (v : List ℕ) → span_bytes b s ≡ escape v → is_inside b s ≡ true → is_string_bytes v ≡ true
    → (string2 b s ≡ false) × (string4 b s ≡ false) × (string5 b s ≡ false) × (said b s ≡ v)
unfolding string2 string4 string5 is_spelled is_string_bytes
clean b s v q i h =
    let u' : is_utf8 (escape v) ≡ true = utf8_escape v ∙ h in
    let z = escape_spelling v in
    let r = not_refused (escape v) u' z (rw (decode_escape v) h) in
    (rw (i, q, u'), rw (i, q, z, r), rw (i, q, z), rw q (decode_escape v))

escape_xs : (n : ℕ) → escape (replicate n 120) ≡ replicate n 120
unfolding escape esc_one letter_of
escape_xs zero = refl
escape_xs (suc n) = ap (120 ∷◌) (escape_xs n)

string_xs : (n : ℕ) → is_string_bytes (replicate n 120) ≡ true
unfolding is_string_bytes all is_utf8 utf8_from lead_of
string_xs zero = refl
string_xs (suc n) = string_xs n

-- ---- parts with n times `x` as content
module _ (n : ℕ) where
  abbrev b : List ℕ
  b = lent_in n

  abbrev p : Body
  p = lent_parts n

  size : length b ≡ 67 + n
  size = length-append A (ascii "[]," ++ replicate n 120) ∙ omega (arith, length-replicate {A = ℕ} n 120)

  pubkey_clean : (string2 b p.pubkey ≡ false) × (string4 b p.pubkey ≡ false) × (string5 b p.pubkey ≡ false) × (said b p.pubkey ≡ A)
  unfolding is_inside is_string_bytes all is_utf8 utf8_from lead_of escape esc_one letter_of
  pubkey_clean = clean b p.pubkey A refl (le-leb 64 (length b) (omega (arith, size))) refl

  content_clean : (string2 b p.content ≡ false) × (string4 b p.content ≡ false) × (string5 b p.content ≡ false) × (said b p.content ≡ replicate n 120)
  unfolding is_inside
  content_clean =
      clean b p.content (replicate n 120) (take_all n (replicate n 120) (omega (arith, length-replicate {A = ℕ} n 120)) ∙ sym (escape_xs n))
      (le-leb (67 + n) (length b) (omega (arith, size))) (string_xs n)

  tags_tree : tree_at b 8 64 ≡ got (arr nil) 66
  unfolding json.in_class run past one_at token_at tree_at
  tags_tree = refl

  event_is : event_of b p ≡ dated (pos 0) 0 [] (replicate n 120)
  unfolding event_of lent_tags_at tags_of
  event_is = rw (pubkey_clean.3, content_clean.3, tags_tree)

  hex : body7 b p ≡ false
  unfolding body7 string7 string5 is_hex_of is_hex spell.all
  hex = rw (not-false (is_spelled b p.pubkey) pubkey_clean.2, pubkey_clean.3)

  rows : body_row b p ≡ 0
  unfolding body_row body2 body4 body5 body6 body8 value2 value4 value5 is_utf8 utf8_from lead_of refused_in all_items count_items any_item wrong_number is_within
  rows = rw (pubkey_clean.0, pubkey_clean.1, pubkey_clean.2, content_clean.0, content_clean.1, content_clean.2, hex, tags_tree) refl

  lent_row_lem : body_text_row b p ≡ cond (ltb 4096 (80 + n)) 9 0
  unfolding body_text_row is_large text_of
  lent_row_lem = rw (rows, event_is, xs_length n)

pub starred_hold : AllCases starred
unfolding letter_of esc_one escape digits_in digits decimal quoted members_text tag_text tags_text serialise class_of d_of key_of is_lower is_newer matches
starred_hold = (
  (refl, refl),
  (
    xs_length 0,
    (
      xs_cases.1,
      (
        xs_cases.2,
        (
          (event_is 4016, lent_row_lem 4016),
          (
            (event_is 4017, lent_row_lem 4017),
            ((refl, refl), ((refl, refl), (refl, (refl, (refl, (refl, (refl, (refl, (refl, (refl, (refl, (refl, (refl, (nothing _ limit_read, (shut_out, tt))))))))))))))),
          ),
        ),
      ),
    ),
  ),
)
