-- Worked cases of the order, of hex, of the borders of rows 9 and 13, and of lent tags.
use Rattle.std.specs.Prelude.{ℕ, true, false, ◌≡◌, refl, List, [], ◌∷◌, pos, negsuc, length, Ok, Err}
use Rattle.json_tree.specs.Grammar.{in_class, run, past, one_at, token_at, word_at, literal_at, digits_at, int_at, frac_at, exp_at}
use Rattle.json_tree.specs.Grammar.{number_at, hex_at}
use Rattle.json_tree.specs.Grammar.{escaped_at, char_at, chars_up_to, chars_at, string_at, scalar_at}
use Rattle.json_tree.specs.Tree.{items_at, tree_at}
use Rattle.spell.specs.Spell.{hex_val, four, four_at, short_of, is_pair, pair_of, unicode_of, char_of, chars_from, utf8_of}
use Rattle.spell.specs.Spell.{char_bytes, chars_bytes, decode}
use Rattle.message.specs.declared.Body.{Body}
use Rattle.message.specs.declared.EventParts.{EventParts}
use Rattle.message.specs.Lent.{event_row}
use Rattle.event.specs.Lent.{strings_of, tags_of, lent_tags_at, text_of}
use Rattle.event.specs.Order.{is_lower, is_newer}
use Rattle.event.specs.Answer.{hex_of, or_else, is_large, offered_row, answered, hashed_of}

-- time -1 is older than 0; equal times, id 00..01 beats 00..02; an event is not newer than itself
order :
    (is_newer (pos 0) (2 ∷ []) (negsuc 0) (1 ∷ []) ≡ true)
    × (is_newer (negsuc 0) (1 ∷ []) (pos 0) (2 ∷ []) ≡ false)
    × (is_newer (pos 7) (0 ∷ 1 ∷ []) (pos 7) (0 ∷ 2 ∷ []) ≡ true)
    × (is_newer (pos 7) (0 ∷ 2 ∷ []) (pos 7) (0 ∷ 1 ∷ []) ≡ false)
    × (is_newer (pos 7) (0 ∷ 1 ∷ []) (pos 7) (0 ∷ 1 ∷ []) ≡ false)
unfolding is_newer is_lower
order = (refl, refl, refl, refl, refl)

-- 01 23 45 67 89 ab cd ef
hex : hex_of (0x01 ∷ 0x23 ∷ 0x45 ∷ 0x67 ∷ 0x89 ∷ 0xab ∷ 0xcd ∷ 0xef ∷ [])
    ≡ 48 ∷ 49 ∷ 50 ∷ 51 ∷ 52 ∷ 53 ∷ 54 ∷ 55 ∷ 56 ∷ 57 ∷ 97 ∷ 98 ∷ 99 ∷ 100 ∷ 101 ∷ 102 ∷ []
unfolding hex_of
hex = refl

-- "serialised text over 4,096 bytes": 4,096 are taken, 4,097 are not; by the text's length, and where it is hashed
large : (b : List ℕ) (p : Body) → (length (text_of b p) ≡ 4096 → is_large b p ≡ false) ×
    (length (text_of b p) ≡ 4097 → is_large b p ≡ true)
unfolding is_large
large b p = (λ e. rw e, λ e. rw e)

large_hashed : (t : List ℕ) → (length t ≡ 4096 → (hashed_of t).row ≡ 0) × (length t ≡ 4097 → (hashed_of t).row ≡ 9)
unfolding hashed_of
large_hashed t = (λ e. rw e, λ e. rw e)

-- "Where several hold, the lowest number is given": 9 before 10 and before 13
nine_first : (b : List ℕ) (p : EventParts) → event_row b p ≡ 0 → is_large b p.body ≡ true → offered_row b p ≡ 9
unfolding offered_row
nine_first b p e l = rw (e, l)

lowest : (or_else 9 13 ≡ 9) × (or_else 0 13 ≡ 13)
lowest = (refl, refl)

answers : (answered 0 2 ≡ Ok 2) × (answered 9 2 ≡ Err 9)
answers = (refl, refl)

-- [ ["\u0064","\/"],[]]: what the strings say, not how they are spelled. [1,[7]]: what is no tag, and no string of a
-- tag, is empty
tags :
    (lent_tags_at (91 ∷ 32 ∷ 91 ∷ 34 ∷ 92 ∷ 117 ∷ 48 ∷ 48 ∷ 54 ∷ 52 ∷ 34 ∷ 44 ∷ 34 ∷ 92 ∷ 47 ∷ 34 ∷ 93 ∷ 44 ∷ 91 ∷ 93 ∷ 93
    ∷ []) 0
    ≡ ((100 ∷ []) ∷ (47 ∷ []) ∷ []) ∷ [] ∷ [])
    × (lent_tags_at (91 ∷ 49 ∷ 44 ∷ 91 ∷ 55 ∷ 93 ∷ 93 ∷ []) 0 ≡ [] ∷ ([] ∷ []) ∷ [])
unfolding lent_tags_at tags_of strings_of in_class run past one_at token_at word_at literal_at digits_at int_at frac_at exp_at
    number_at hex_at escaped_at char_at chars_up_to chars_at string_at scalar_at items_at tree_at hex_val four four_at short_of is_pair
    pair_of unicode_of char_of chars_from utf8_of char_bytes chars_bytes decode
tags = (refl, refl)
