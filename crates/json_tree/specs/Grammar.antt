-- RFC 8259, sections 2 to 7, but for the values that hold values (Tree.antt): for each rule a function from a place in
-- the text to the place after what stands there. Past the end stands 0, which no rule takes but *char, and that tests
-- the end.
use Rattle.std.specs.Prelude.{◌≡◌, ℕ, zero, suc, ◌+◌, ◌≤◌, List, [], ◌∷◌, Bool, true, false, cond, ◌&&◌, ◌||◌, length, get_or, drop, eqb, leb, ltb, Option, Some, None}
use Rattle.json_tree.specs.declared.Class.{Class}
use Rattle.json_tree.specs.declared.Class.TheVariants.{Space, Digit, Plain, Hex, Short, Exponent, Sign, Byte}
use Rattle.json_tree.specs.declared.Kind.{Kind}
use Rattle.json_tree.specs.declared.Kind.TheVariants.{Str, Num, Word}
use Rattle.json_tree.specs.declared.Start.{Start}
use Rattle.json_tree.specs.declared.Start.TheVariants.{Leaf, Empty, Many}
use Rattle.json_tree.specs.declared.Next.{Next}
use Rattle.json_tree.specs.declared.Next.TheVariants.{More, Done, Wrong}
use Rattle.wire.specs.Bytes.{Bytes, Place, is_control}

-- f of the end, or z where there is none
abbrev pub case : {A : Type 0} (x : Option ℕ) (f : ℕ → A) (z : A) → A
case (Some n) f z = f n
case None f z = z

-- ---- bytes
-- %xlow-high
abbrev pub is_between : (low high b : ℕ) → Bool
is_between low high b = leb low b && leb b high

-- unescaped = %x20-21 / %x23-5B / %x5D-10FFFF, of which from %x80 on each byte of the UTF-8 is taken
abbrev pub is_unescaped : ℕ → Bool
is_unescaped b = is_between 0x20 0x21 b || (is_between 0x23 0x5B b || leb 0x5D b)

unfoldable pub in_class : Class → ℕ → Bool
-- ws: %x20 / %x09 / %x0A / %x0D
in_class Space b = eqb b 0x20 || (eqb b 0x09 || (eqb b 0x0A || eqb b 0x0D))
-- DIGIT = %x30-39
in_class Digit b = is_between 0x30 0x39 b
-- unescaped, or a control character that may stand raw in a string which is held or lent (02, Wish 3). A JSON text has
-- none of these: `is_text` of specs/Tree
in_class Plain b = is_unescaped b || is_control b
-- HEXDIG = DIGIT / "A" / "B" / "C" / "D" / "E" / "F", in either case
in_class Hex b = is_between 0x30 0x39 b || (is_between 0x41 0x46 b || is_between 0x61 0x66 b)
-- after escape: %x22 / %x5C / %x2F / %x62 / %x66 / %x6E / %x72 / %x74
in_class Short b =
    eqb b 0x22 || (eqb b 0x5C || (eqb b 0x2F ||
    (eqb b 0x62 || (eqb b 0x66 || (eqb b 0x6E || (eqb b 0x72 || eqb b 0x74))))))
-- e = %x65 / %x45
in_class Exponent b = eqb b 0x65 || eqb b 0x45
-- minus / plus
in_class Sign b = eqb b 0x2D || eqb b 0x2B
in_class (Byte c) b = eqb b c

-- *class: how many bytes of the class the list begins with
unfoldable pub run : Class → Bytes → ℕ
run class [] = 0
run class (b ∷ l) = cond (in_class class b) (suc (run class l)) 0

-- *class: the place after the bytes of the class
unfoldable pub past : (class : Class) (s : Bytes) (at : Place) → ℕ
past class s at = at + run class (drop at s)

-- class
unfoldable pub one_at : (s : Bytes) (class : Class) (at : Place) → Option ℕ
one_at s class at = cond (in_class class (get_or s at 0)) (Some (at + 1)) None

-- [ class ]
abbrev pub opt_at : (s : Bytes) (class : Class) (at : Place) → ℕ
opt_at s class at = case (one_at s class at) (λ n. n) at

-- ---- section 2: ws and the six structural characters
-- ws
abbrev pub ws_at : Bytes → Place → ℕ
ws_at s at = past Space s at

-- a structural character, with the ws after it (the ws before it belongs to what stands before)
unfoldable pub token_at : (s : Bytes) (b : ℕ) (at : Place) → Option ℕ
token_at s b at = case (one_at s (Byte b) at) (λ n. Some (ws_at s n)) None

-- ---- section 3: the literal names
-- the bytes of w
unfoldable pub word_at : (s w : Bytes) (at : Place) → Option ℕ
word_at s [] at = Some at
word_at s (b ∷ w) at = case (one_at s (Byte b) at) (word_at s w) None

-- false = %x66.61.6c.73.65
abbrev pub false_name : Bytes
false_name = 0x66 ∷ 0x61 ∷ 0x6C ∷ 0x73 ∷ 0x65 ∷ []

-- null = %x6e.75.6c.6c
abbrev pub null_name : Bytes
null_name = 0x6E ∷ 0x75 ∷ 0x6C ∷ 0x6C ∷ []

-- true = %x74.72.75.65
abbrev pub true_name : Bytes
true_name = 0x74 ∷ 0x72 ∷ 0x75 ∷ 0x65 ∷ []

-- false / null / true
unfoldable pub literal_at : Bytes → Place → Option ℕ
literal_at s at = case (word_at s false_name at) Some (case (word_at s null_name at) Some (word_at s true_name at))

-- ---- section 6: number = [ minus ] int [ frac ] [ exp ]
-- 1*DIGIT
unfoldable pub digits_at : Bytes → Place → Option ℕ
digits_at s at = case (one_at s Digit at) (λ n. Some (past Digit s n)) None

-- int = zero / ( digit1-9 *DIGIT )
unfoldable pub int_at : Bytes → Place → Option ℕ
int_at s at = case (one_at s (Byte 0x30) at) Some (digits_at s at)

-- [ frac ], frac = decimal-point 1*DIGIT
unfoldable pub frac_at : Bytes → Place → Option ℕ
frac_at s at = case (one_at s (Byte 0x2E) at) (digits_at s) (Some at)

-- [ exp ], exp = e [ minus / plus ] 1*DIGIT
unfoldable pub exp_at : Bytes → Place → Option ℕ
exp_at s at = case (one_at s Exponent at) (λ n. digits_at s (opt_at s Sign n)) (Some at)

unfoldable pub number_at : Bytes → Place → Option ℕ
number_at s at = case (int_at s (opt_at s (Byte 0x2D) at)) (λ n. case (frac_at s n) (exp_at s) None) None

-- ---- section 7: string = quotation-mark *char quotation-mark
-- 4HEXDIG
unfoldable pub hex_at : Bytes → Place → Option ℕ
hex_at s at = case (one_at s Hex at) (λ a. case (one_at s Hex a) (λ b. case (one_at s Hex b) (one_at s Hex) None) None) None

-- escape ( one of eight / %x75 4HEXDIG )
unfoldable pub escaped_at : Bytes → Place → Option ℕ
escaped_at s at = case (one_at s (Byte 0x5C) at) (λ n. case (one_at s (Byte 0x75) n) (hex_at s) (one_at s Short n)) None

-- char = unescaped / escape ( .. ), and unescaped as `Plain` has it. The end of a text is no character: the 0 past it
-- would be U+0000
unfoldable pub char_at : Bytes → Place → Option ℕ
char_at s at = cond (ltb at (length s)) (case (one_at s Plain at) Some (escaped_at s at)) None

-- *char, of at most f characters
unfoldable pub chars_up_to : (f : ℕ) (s : Bytes) (at : Place) → ℕ
chars_up_to zero s at = at
chars_up_to (suc f) s at = case (char_at s at) (chars_up_to f s) at

-- *char: a text has no more characters than bytes
unfoldable pub chars_at : Bytes → Place → ℕ
chars_at s at = chars_up_to (length s) s at

unfoldable pub string_at : Bytes → Place → Option ℕ
string_at s at = case (one_at s (Byte 0x22) at) (λ n. one_at s (Byte 0x22) (chars_at s n)) None

-- what may stand between quotation marks: *char and no more
abbrev pub is_spelling : Bytes → Bool
is_spelling p = eqb (chars_at p 0) (length p)

-- ---- section 3: values that hold no value
-- false / null / true / number / string, its kind and the place after it
unfoldable pub scalar_at : Bytes → Place → Option Kind
scalar_at s at = case (string_at s at) (λ n. Some (Str n)) (case (number_at s at) (λ n. Some (Num n)) (case (literal_at s at) (λ n. Some (Word n)) None))

-- ---- sections 4 and 5: objects and arrays, whose items are members with their names, and values
-- end-object, end-array
abbrev pub close_of : Bool → ℕ
close_of true = 0x7D
close_of false = 0x5D

-- after begin-object or begin-array: what closes it, or the first item
abbrev pub opened_at : (s : Bytes) (at : Place) (named : Bool) → Start
opened_at s at named = case (token_at s (close_of named) at) (λ n. Empty n named) (Many at named)

-- begin-array, begin-object, or what begins with neither
abbrev pub start_at : Bytes → Place → Start
start_at s at =
    case (token_at s 0x5B at) (λ n. opened_at s n false) (case (token_at s 0x7B at) (λ n. opened_at s n true) Leaf)

-- member = string name-separator value: the place of the value
abbrev pub head_at : (s : Bytes) (at : Place) (q : Bool) → Option ℕ
head_at s at true = case (string_at s at) (λ n. token_at s 0x3A (ws_at s n)) None
head_at s at false = Some at

-- after an item: value-separator and the next item's place, or what closes
abbrev pub next_at : (s : Bytes) (at : Place) (named : Bool) → Next
next_at s at named = case (token_at s 0x2C at) More (case (token_at s (close_of named) at) Done Wrong)

-- ---- for the code alone: no byte of w is 0
abbrev pub no_zero : Bytes → Bool
no_zero [] = true
no_zero (b ∷ w) = ltb 0 b && no_zero w

-- and: the characters from r on end where those from i on end
pub record Skips (s : List ℕ) (i r : ℕ) : Type 0 where
  pub same : chars_at s r ≡ chars_at s i
  pub on : i ≤ r

-- and: r tells that four characters from i on are bytes which stand for themselves
pub record Owned (s : List ℕ) (i : ℕ) (r : Bool) : Type 0 where
  pub same : r ≡ true → chars_at s (i + 4) ≡ chars_at s i
