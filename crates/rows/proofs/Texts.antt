-- What text_row means: the lowest row that holds, and worked texts.
use mathlib.Core.Path.{◌≡◌, refl}
use mathlib.Core.Logic.{◌↔◌}
use mathlib.Core.List.{List, [], ◌∷◌}
use mathlib.Core.Bool.{Bool, true, false, cond}
use Prim.Native.Nat.{ℕ}
use native.Mathlib.Omega.{arith}
use Rattle.utf8.specs.Utf8.{lead_of, utf8_from, is_utf8}
use Rattle.json_tree.specs.Grammar.{in_class, run, past, one_at, token_at, word_at, literal_at, digits_at, int_at, frac_at, exp_at}
use Rattle.json_tree.specs.Grammar.{number_at, hex_at, escaped_at, char_at, chars_up_to, chars_at, string_at, scalar_at}
use Rattle.json_tree.specs.Tree.{items_at, tree_at}
use Rattle.spell.specs.Spell.{hex_val, four, four_at, short_of, is_pair, pair_of, unicode_of, char_of, chars_from, is_refused}
use Rattle.spell.specs.Spell.{any, refuses}
use Rattle.rows.specs.Strings.{spelled_at, refused_in}
use Rattle.rows.specs.Rows.{row1, row2, row3, row4, text_row}

-- ---- the lowest row that holds, of four
abbrev lowest : Bool → Bool → Bool → Bool → ℕ
lowest a b c d = cond a 1 (cond b 2 (cond c 3 (cond d 4 0)))

-- by the number, which rows hold
says : (a b c d : Bool) → (lowest a b c d ≡ 1 → a ≡ true) × (lowest a b c d ≡ 2 → (a ≡ false) × (b ≡ true))
    × (lowest a b c d ≡ 3 → (a ≡ false) × (b ≡ false) × (c ≡ true))
    × (lowest a b c d ≡ 4 → (a ≡ false) × (b ≡ false) × (c ≡ false) × (d ≡ true))
    × (lowest a b c d ≡ 0 → (a ≡ false) × (b ≡ false) × (c ≡ false) × (d ≡ false))
says true b c d = (λ e. refl, λ e. absurd (omega arith), λ e. absurd (omega arith), λ e. absurd (omega arith), λ e. absurd (omega arith))
says false true c d = (λ e. absurd (omega arith), λ e. (refl, refl), λ e. absurd (omega arith), λ e. absurd (omega arith), λ e. absurd (omega arith))
says false false true d = (λ e. absurd (omega arith), λ e. absurd (omega arith), λ e. (refl, refl, refl), λ e. absurd (omega arith), λ e. absurd (omega arith))
says false false false true = (λ e. absurd (omega arith), λ e. absurd (omega arith), λ e. absurd (omega arith), λ e. (refl, refl, refl, refl), λ e. absurd (omega arith))
says false false false false = (λ e. absurd (omega arith), λ e. absurd (omega arith), λ e. absurd (omega arith), λ e. absurd (omega arith), λ e. (refl, refl, refl, refl))

-- row r is answered exactly where it holds and no lower one does, and 0 exactly where none holds
module _ (s : List ℕ) where
  pub row_1 : (text_row s ≡ 1) ↔ (row1 s ≡ true)
  unfolding text_row
  row_1 = ((says (row1 s) (row2 s) (row3 s) (row4 s)).0, λ h. rw h)

  pub row_2 : (text_row s ≡ 2) ↔ ((row1 s ≡ false) × (row2 s ≡ true))
  unfolding text_row
  row_2 = ((says (row1 s) (row2 s) (row3 s) (row4 s)).1, λ h. rw (h.0, h.1))

  pub row_3 : (text_row s ≡ 3) ↔ ((row1 s ≡ false) × (row2 s ≡ false) × (row3 s ≡ true))
  unfolding text_row
  row_3 = ((says (row1 s) (row2 s) (row3 s) (row4 s)).2, λ h. rw (h.0, h.1, h.2))

  pub row_4 : (text_row s ≡ 4) ↔ ((row1 s ≡ false) × (row2 s ≡ false) × (row3 s ≡ false) × (row4 s ≡ true))
  unfolding text_row
  row_4 = ((says (row1 s) (row2 s) (row3 s) (row4 s)).3, λ h. rw (h.0, h.1, h.2, h.3))

  pub row_0 : (text_row s ≡ 0) ↔ ((row1 s ≡ false) × (row2 s ≡ false) × (row3 s ≡ false) × (row4 s ≡ false))
  unfolding text_row
  row_0 = ((says (row1 s) (row2 s) (row3 s) (row4 s)).4, λ h. rw (h.0, h.1, h.2, h.3))

-- ---- worked texts
module _ where
  -- {"\u0001":0}: a control character in a name, spelled out (02, Wish 3)
  pub control_in_name : text_row (0x7b ∷ 0x22 ∷ 0x5c ∷ 0x75 ∷ 0x30 ∷ 0x30 ∷ 0x30 ∷ 0x31 ∷ 0x22 ∷ 0x3a ∷ 0x30 ∷ 0x7d ∷ []) ≡ 0
  unfolding text_row row4 spelled_at refused_in is_utf8 utf8_from lead_of tree_at items_at scalar_at string_at chars_at chars_up_to char_at escaped_at hex_at number_at exp_at frac_at int_at digits_at literal_at word_at token_at one_at past run in_class refuses any is_refused chars_from char_of unicode_of pair_of is_pair short_of four_at four hex_val
  control_in_name = refl

  -- {"\ud800":0}: an unpaired surrogate in a name
  pub surrogate_in_name : text_row (0x7b ∷ 0x22 ∷ 0x5c ∷ 0x75 ∷ 0x64 ∷ 0x38 ∷ 0x30 ∷ 0x30 ∷ 0x22 ∷ 0x3a ∷ 0x30 ∷ 0x7d ∷ []) ≡ 4
  unfolding text_row row4 spelled_at refused_in is_utf8 utf8_from lead_of tree_at items_at scalar_at string_at chars_at chars_up_to char_at escaped_at hex_at number_at exp_at frac_at int_at digits_at literal_at word_at token_at one_at past run in_class refuses any is_refused chars_from char_of unicode_of pair_of is_pair short_of four_at four hex_val
  surrogate_in_name = refl

  -- ["..."] with a raw 01, and with a raw 00, in the string
  pub raw_control : (text_row (0x5b ∷ 0x22 ∷ 0x01 ∷ 0x22 ∷ 0x5d ∷ []) ≡ 3) × (text_row (0x5b ∷ 0x22 ∷ 0x00 ∷ 0x22 ∷ 0x5d ∷ []) ≡ 3)
  unfolding text_row row4 spelled_at refused_in is_utf8 utf8_from lead_of tree_at items_at scalar_at string_at chars_at chars_up_to char_at escaped_at hex_at number_at exp_at frac_at int_at digits_at literal_at word_at token_at one_at past run in_class refuses any is_refused chars_from char_of unicode_of pair_of is_pair short_of four_at four hex_val
  raw_control = (refl, refl)

  -- ["\u0009"]: one of the five controls that a string may have
  pub control_allowed : text_row (0x5b ∷ 0x22 ∷ 0x5c ∷ 0x75 ∷ 0x30 ∷ 0x30 ∷ 0x30 ∷ 0x39 ∷ 0x22 ∷ 0x5d ∷ []) ≡ 0
  unfolding text_row row4 spelled_at refused_in is_utf8 utf8_from lead_of tree_at items_at scalar_at string_at chars_at chars_up_to char_at escaped_at hex_at number_at exp_at frac_at int_at digits_at literal_at word_at token_at one_at past run in_class refuses any is_refused chars_from char_of unicode_of pair_of is_pair short_of four_at four hex_val
  control_allowed = refl

  -- [["\ud800"]]: an unpaired surrogate, two brackets deep
  pub nested_surrogate : text_row (0x5b ∷ 0x5b ∷ 0x22 ∷ 0x5c ∷ 0x75 ∷ 0x64 ∷ 0x38 ∷ 0x30 ∷ 0x30 ∷ 0x22 ∷ 0x5d ∷ 0x5d ∷ []) ≡ 4
  unfolding text_row row4 spelled_at refused_in is_utf8 utf8_from lead_of tree_at items_at scalar_at string_at chars_at chars_up_to char_at escaped_at hex_at number_at exp_at frac_at int_at digits_at literal_at word_at token_at one_at past run in_class refuses any is_refused chars_from char_of unicode_of pair_of is_pair short_of four_at four hex_val
  nested_surrogate = refl

  -- ["\ud83d\ude00"]: a pair
  pub pair : text_row (0x5b ∷ 0x22 ∷ 0x5c ∷ 0x75 ∷ 0x64 ∷ 0x38 ∷ 0x33 ∷ 0x64 ∷ 0x5c ∷ 0x75 ∷ 0x64 ∷ 0x65 ∷ 0x30 ∷ 0x30 ∷ 0x22 ∷ 0x5d ∷ []) ≡ 0
  unfolding text_row row4 spelled_at refused_in is_utf8 utf8_from lead_of tree_at items_at scalar_at string_at chars_at chars_up_to char_at escaped_at hex_at number_at exp_at frac_at int_at digits_at literal_at word_at token_at one_at past run in_class refuses any is_refused chars_from char_of unicode_of pair_of is_pair short_of four_at four hex_val
  pair = refl

  -- ["\ud800": the text breaks after what row 4 refuses
  pub broken_after : text_row (0x5b ∷ 0x22 ∷ 0x5c ∷ 0x75 ∷ 0x64 ∷ 0x38 ∷ 0x30 ∷ 0x30 ∷ 0x22 ∷ []) ≡ 3
  unfolding text_row row4 spelled_at refused_in is_utf8 utf8_from lead_of tree_at items_at scalar_at string_at chars_at chars_up_to char_at escaped_at hex_at number_at exp_at frac_at int_at digits_at literal_at word_at token_at one_at past run in_class refuses any is_refused chars_from char_of unicode_of pair_of is_pair short_of four_at four hex_val
  broken_after = refl
