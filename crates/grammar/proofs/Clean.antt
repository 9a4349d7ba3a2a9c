-- In what the rules take no control character stands: no terminal has one, and a rule joins what terminals take.
use mathlib.Core.Path.{◌≡◌, refl, sym, ◌∙◌}
use mathlib.Core.Logic.{inl, inr}
use mathlib.Core.List.{List, [], ◌∷◌}
use mathlib.Core.Bool.{Bool, true, false, false≢true}
use Prim.Native.Nat.{ℕ, zero, suc, ◌<◌, ◌≤◌}
use native.Mathlib.Decide.{dec_lt}
use native.Mathlib.Omega.{arith}
use lib.ListN.{length, get_or}
use borrow.Author.Tests.{lt-leb, ne_eqb, eqb-true}
use Rattle.json_tree.specs.Grammar.{is_between, is_unescaped, in_class, false_name, null_name, true_name, close_of}
use Rattle.json_tree.specs.Tree.{depth}
use Rattle.json_tree.specs.declared.Class.TheVariants.{Space, Digit, Hex, Short, Exponent, Sign, Byte}
use Rattle.wire.specs.Bytes.{is_control, has_control}
use Rattle.wire.proofs.Cases.{no_left, no_right}
use Rattle.wire.proofs.Escapes.{control_high}
use Rattle.grammar.specs.Rfc.{Rule, ◌⨾◌, ◌∣◌, opt, Star, stop, step, byte, one, ws, token, name, literal, digits}
use Rattle.grammar.specs.Rfc.{int, number, char, string, open_of, Value, plain, empty, group, Items, last, more}
use Rattle.grammar.specs.Rfc.{Item, value, member, Text}
use Rattle.grammar.proofs.Terms.{space_is}

-- none from a place up to another
abbrev pub Clean : List ℕ → ℕ → ℕ → Type 0
Clean s at n = (k : ℕ) → at ≤ k → k < n → is_control (get_or s k 0) ≡ false

-- ---- of a whole text
pub none_clean : (s : List ℕ) → has_control s ≡ false → Clean s 0 (length s)
none_clean [] e k l h = absurd (omega arith)
none_clean (b ∷ s) e zero l h = no_left (is_control b) (has_control s) e
none_clean (b ∷ s) e (suc k) l h = none_clean s (no_right (is_control b) (has_control s) e) k (omega arith) (omega arith)

clean_none : (s : List ℕ) → Clean s 0 (length s) → has_control s ≡ false
clean_none [] c = refl
clean_none (b ∷ s) c = rw (c 0 (omega arith) (omega arith)) (clean_none s (λ k l h. c (suc k) (omega arith) (omega arith)))

-- ---- terminals: a test that holds of no control character; of no byte below 20, but for white space
abbrev Free : (ℕ → Bool) → Type 0
Free p = (x : ℕ) → p x ≡ true → is_control x ≡ false

high_free : (p : ℕ → Bool) → ((x : ℕ) → x < 0x20 → p x ≡ false) → Free p
high_free p f x e = elim (dec_lt x 0x20) [
  | yes h ↦ absurd (false≢true (sym (f x h) ∙ e))
  | no h ↦ control_high x (omega arith)
]

space_free : Free (in_class Space)
space_free = space_is (λ x. is_control x ≡ false) refl refl refl refl

byte_free : (b : ℕ) → is_control b ≡ false → Free (in_class (Byte b))
unfolding in_class
byte_free b z x e = rw (eqb-true x b e) z

digit_free : Free (in_class Digit)
unfolding in_class
digit_free = high_free (in_class Digit) (λ x h. rw (lt-leb 0x30 x (omega arith)))

nonzero_free : Free (is_between 0x31 0x39)
nonzero_free = high_free (is_between 0x31 0x39) (λ x h. rw (lt-leb 0x31 x (omega arith)))

hex_free : Free (in_class Hex)
unfolding in_class
hex_free = high_free (in_class Hex) (λ x h. rw (lt-leb 0x30 x (omega arith), lt-leb 0x41 x (omega arith), lt-leb 0x61 x (omega arith)))

unescaped_free : Free is_unescaped
unescaped_free = high_free is_unescaped (λ x h. rw (lt-leb 0x20 x h, lt-leb 0x23 x (omega arith), lt-leb 0x5D x (omega arith)))

exponent_free : Free (in_class Exponent)
unfolding in_class
exponent_free = high_free (in_class Exponent) (λ x h. rw (ne_eqb x 0x65 (λ e. omega arith), ne_eqb x 0x45 (λ e. omega arith)))

sign_free : Free (in_class Sign)
unfolding in_class
sign_free = high_free (in_class Sign) (λ x h. rw (ne_eqb x 0x2D (λ e. omega arith), ne_eqb x 0x2B (λ e. omega arith)))

short_free : Free (in_class Short)
unfolding in_class
short_free =
    high_free (in_class Short) (λ x h.
    rw (
      ne_eqb x 0x22 (λ e. omega arith),
      ne_eqb x 0x5C (λ e. omega arith),
      ne_eqb x 0x2F (λ e. omega arith),
      ne_eqb x 0x62 (λ e. omega arith),
      ne_eqb x 0x66 (λ e. omega arith),
      ne_eqb x 0x6E (λ e. omega arith),
      ne_eqb x 0x72 (λ e. omega arith),
      ne_eqb x 0x74 (λ e. omega arith),
    ))

module _ (s : List ℕ) where
  -- ---- ABNF
  abbrev Cleans : Rule → Type 0
  Cleans R = (at n : ℕ) → R at n → Clean s at n

  byte_clean : (p : ℕ → Bool) → Free p → Cleans (byte s p)
  byte_clean p f at n o k l h = let e = o.2 in let z : k ≡ at = omega arith in rw z (f (get_or s at 0) o.1)

  joined : {at m n : ℕ} → Clean s at m → Clean s m n → Clean s at n
  joined {at} {m} {n} a b k l h = elim (dec_lt k m) [
    | yes q ↦ a k l q
    | no q ↦ b k (omega arith) h
  ]

  nothing : (at n : ℕ) → at ≡ n → Clean s at n
  nothing at n e k l h = absurd (omega arith)

  then_clean : (R Q : Rule) → Cleans R → Cleans Q → Cleans (R ⨾ Q)
  then_clean R Q f g at n (m, r, q) = joined (f at m r) (g m n q)

  or_clean : (R Q : Rule) → Cleans R → Cleans Q → Cleans (R ∣ Q)
  or_clean R Q f g at n (inl r) = f at n r
  or_clean R Q f g at n (inr q) = g at n q

  opt_clean : (R : Rule) → Cleans R → Cleans (opt R)
  opt_clean R f at n (inl e) = nothing at n e
  opt_clean R f at n (inr r) = f at n r

  star_clean : (R : Rule) → Cleans R → Cleans (Star R)
  star_clean R f at n stop = nothing at at refl
  star_clean R f at n (step {m = m} r q) = joined (f at m r) (star_clean R f m n q)

  -- ---- the rules
  ws_clean : Cleans (ws s)
  ws_clean = star_clean _ (byte_clean (in_class Space) space_free)

  this_clean : (b : ℕ) → is_control b ≡ false → Cleans (one s (Byte b))
  this_clean b z = byte_clean (in_class (Byte b)) (byte_free b z)

  token_clean : (b : ℕ) → is_control b ≡ false → Cleans (token s b)
  token_clean b z = then_clean _ _ ws_clean (then_clean _ _ (this_clean b z) ws_clean)

  name_clean : (w : List ℕ) → has_control w ≡ false → Cleans (name s w)
  name_clean [] z at n e = nothing at n e
  name_clean (b ∷ w) z at n (m, o, r) =
      joined (this_clean b (no_left (is_control b) (has_control w) z) at m o) (name_clean w (no_right (is_control b) (has_control w) z) m n r)

  digits_clean : Cleans (digits s)
  digits_clean = then_clean _ _ (byte_clean _ digit_free) (star_clean _ (byte_clean _ digit_free))

  int_clean : Cleans (int s)
  int_clean = or_clean _ _ (this_clean 0x30 refl) (then_clean _ _ (byte_clean _ nonzero_free) (star_clean _ (byte_clean _ digit_free)))

  number_clean : Cleans (number s)
  number_clean =
      then_clean _ _ (opt_clean _ (this_clean 0x2D refl)) (then_clean _ _ int_clean (then_clean _ _ (opt_clean _ (then_clean _ _ (this_clean 0x2E refl) digits_clean))
      (opt_clean _ (then_clean _ _ (byte_clean _ exponent_free) (then_clean _ _ (opt_clean _ (byte_clean _ sign_free)) digits_clean)))))

  char_clean : Cleans (char s)
  char_clean =
      or_clean _ _ (byte_clean _ unescaped_free) (then_clean _ _ (this_clean 0x5C refl) (or_clean _ _ (byte_clean _ short_free)
      (then_clean _ _ (this_clean 0x75 refl) (then_clean _ _ hex (then_clean _ _ hex (then_clean _ _ hex hex))))))
    where
      hex : Cleans (one s Hex)
      hex = byte_clean _ hex_free

  string_clean : Cleans (string s)
  string_clean = then_clean _ _ (this_clean 0x22 refl) (then_clean _ _ (star_clean _ char_clean) (this_clean 0x22 refl))

  plain_clean : Cleans (literal s ∣ number s ∣ string s)
  plain_clean =
      or_clean _ _ (or_clean _ _ (name_clean false_name refl) (or_clean _ _ (name_clean null_name refl) (name_clean true_name refl)))
      (or_clean _ _ number_clean string_clean)

  open_clean : (named : Bool) → Cleans (token s (open_of named))
  open_clean true = token_clean 0x7B refl
  open_clean false = token_clean 0x5B refl

  close_clean : (named : Bool) → Cleans (token s (close_of named))
  close_clean true = token_clean 0x7D refl
  close_clean false = token_clean 0x5D refl

mutual
  value_clean : (s : List ℕ) (d at n : ℕ) → Value s d at n → Clean s at n
  value_clean s d at n (plain e) = plain_clean s at n e
  value_clean s d at n (empty {a = a} named o c) = joined s (open_clean s named at a o) (close_clean s named a n c)
  value_clean s d at n (group {d = k} {a = a} {b = b} named o is c) =
      joined s (open_clean s named at a o) (joined s (items_clean s k named a b is) (close_clean s named b n c))

  items_clean : (s : List ℕ) (d : ℕ) (named : Bool) (at n : ℕ) → Items s d named at n → Clean s at n
  items_clean s d named at n (last i) = item_clean s d named at n i
  items_clean s d named at n (more {a = a} {b = b} i t is) =
      joined s (item_clean s d named at a i) (joined s (token_clean s 0x2C refl a b t) (items_clean s d named b n is))

  item_clean : (s : List ℕ) (d : ℕ) (named : Bool) (at n : ℕ) → Item s d named at n → Clean s at n
  item_clean s d named at n (value v) = value_clean s d at n v
  item_clean s d named at n (member {a = a} {b = b} e t v) =
      joined s (string_clean s at a e) (joined s (token_clean s 0x3A refl a b t) (value_clean s d b n v))

pub text_clean : (s : List ℕ) → Text s → has_control s ≡ false
text_clean s t = clean_none s (then_clean s _ _ (ws_clean s) (then_clean s _ _ (value_clean s depth) (ws_clean s)) 0 (length s) t)
