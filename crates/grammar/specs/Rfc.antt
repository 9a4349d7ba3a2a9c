-- RFC 8259's ABNF, sections 2 to 7, rule by rule, with 01's limit of brackets and braces open at once. A rule holds of
-- two places in a text: what stands from the first up to the second matches it. Which bytes a terminal takes is
-- json_tree's in_class, and is_unescaped for unescaped, functions both, and so is the byte at a place; all else here is
-- a rule, with no order of trial and no fuel.
use Rattle.std.specs.Prelude.{ℕ, suc, ◌+◌, ◌<◌, ◌≡◌, ◌⊎◌, List, [], ◌∷◌, Bool, true, false, length, get_or}
use Rattle.json_tree.specs.Grammar.{is_between, is_unescaped, in_class, false_name, null_name, true_name, close_of}
use Rattle.json_tree.specs.Tree.{depth}
use Rattle.json_tree.specs.declared.Class.{Class}
use Rattle.json_tree.specs.declared.Class.TheVariants.{Space, Digit, Hex, Short, Exponent, Sign, Byte}

-- ---- ABNF (RFC 5234)
abbrev pub Rule : Type 1
Rule = ℕ → ℕ → Type 0

infixr 60 ◌⨾◌
infixr 50 ◌∣◌
-- concatenation, alternatives, an optional rule, repetition
abbrev pub ◌⨾◌ : Rule → Rule → Rule
◌⨾◌ R Q at n = (m : ℕ) × R at m × Q m n

abbrev pub ◌∣◌ : Rule → Rule → Rule
◌∣◌ R Q at n = R at n ⊎ Q at n

abbrev pub opt : Rule → Rule
opt R at n = (at ≡ n) ⊎ R at n

pub data Star (R : ℕ → ℕ → Type 0) : ℕ → ℕ → Type 0 where
  stop : {at : ℕ} → Star R at at
  step : {at m n : ℕ} → R at m → Star R m n → Star R at n

module _ (s : List ℕ) where
  -- one byte for which p holds
  abbrev pub byte : (ℕ → Bool) → Rule
  byte p at n = (at < length s) × (p (get_or s at 0) ≡ true) × (at + 1 ≡ n)

  abbrev pub one : Class → Rule
  one class = byte (in_class class)

  -- ---- section 2: ws, and the six structural characters
  abbrev pub ws : Rule
  ws = Star (one Space)

  abbrev pub token : ℕ → Rule
  token b = ws ⨾ one (Byte b) ⨾ ws

  -- ---- section 3: the literal names, byte by byte
  abbrev pub name : List ℕ → Rule
  name [] at n = at ≡ n
  name (b ∷ w) at n = (one (Byte b) ⨾ name w) at n

  abbrev pub literal : Rule
  literal = name false_name ∣ name null_name ∣ name true_name

  -- ---- section 6: numbers
  -- 1*DIGIT
  abbrev pub digits : Rule
  digits = one Digit ⨾ Star (one Digit)

  -- int = zero / ( digit1-9 *DIGIT )
  abbrev pub int : Rule
  int = one (Byte 0x30) ∣ byte (is_between 0x31 0x39) ⨾ Star (one Digit)

  -- frac = decimal-point 1*DIGIT
  abbrev pub frac : Rule
  frac = one (Byte 0x2E) ⨾ digits

  -- exp = e [ minus / plus ] 1*DIGIT
  abbrev pub exp : Rule
  exp = one Exponent ⨾ opt (one Sign) ⨾ digits

  -- number = [ minus ] int [ frac ] [ exp ]
  abbrev pub number : Rule
  number = opt (one (Byte 0x2D)) ⨾ int ⨾ opt frac ⨾ opt exp

  -- ---- section 7: strings
  -- char = unescaped / escape ( one of eight / %x75 4HEXDIG )
  abbrev pub char : Rule
  char = byte is_unescaped ∣ one (Byte 0x5C) ⨾ (one Short ∣ one (Byte 0x75) ⨾ one Hex ⨾ one Hex ⨾ one Hex ⨾ one Hex)

  -- string = quotation-mark *char quotation-mark
  abbrev pub string : Rule
  string = one (Byte 0x22) ⨾ Star char ⨾ one (Byte 0x22)

-- begin-object, begin-array
abbrev pub open_of : Bool → ℕ
open_of true = 0x7B
open_of false = 0x5B

-- ---- sections 3 to 5: a value with at most d brackets and braces open at once; the items of an array, and of an
-- object (true)
mutual
  -- value = false / null / true / object / array / number / string
  pub data Value (s : List ℕ) : ℕ → ℕ → ℕ → Type 0 where
    plain : {d at n : ℕ} → (literal s ∣ number s ∣ string s) at n → Value s d at n
    -- object = begin-object [ member *( value-separator member ) ] end-object, and array with value for member
    empty : {d at a n : ℕ} (named : Bool) → token s (open_of named) at a → token s (close_of named) a n →
        Value s (suc d) at n
    group : {d at a b n : ℕ} (named : Bool) → token s (open_of named) at a → Items s d named a b →
        token s (close_of named) b n → Value s (suc d) at n

  -- item *( value-separator item )
  pub data Items (s : List ℕ) : ℕ → Bool → ℕ → ℕ → Type 0 where
    last : {d at n : ℕ} {named : Bool} → Item s d named at n → Items s d named at n
    more : {d at a b n : ℕ} {named : Bool} → Item s d named at a → token s 0x2C a b → Items s d named b n →
        Items s d named at n

  -- an array's item is a value; an object's is member = string name-separator value
  pub data Item (s : List ℕ) : ℕ → Bool → ℕ → ℕ → Type 0 where
    value : {d at n : ℕ} → Value s d at n → Item s d false at n
    member : {d at a b n : ℕ} → string s at a → token s 0x3A a b → Value s d b n → Item s d true at n

-- JSON-text = ws value ws
abbrev pub Text : List ℕ → Type 0
Text s = (ws s ⨾ Value s depth ⨾ ws s) 0 (length s)
