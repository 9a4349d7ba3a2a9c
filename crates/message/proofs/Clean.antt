-- A string, a number, an array or an object of a text that is UTF-8, read there, breaks as a lent part only the rows
-- that it breaks in the text.
use mathlib.Core.Path.{◌≡◌, refl, sym, ap, ◌∙◌}
use mathlib.Core.List.{List}
use mathlib.Core.Bool.{Bool, true, false, not, ◌&&◌, false≢true}
use Prim.Native.Nat.{ℕ, ◌+◌, ◌-◌}
use native.Mathlib.Omega.{arith}
use borrow.Author.Tests.{le-leb}
use lib.IntN.{ℤ, pos, neg_ℤ}
use lib.ListN.{length}
use Rattle.utf8.specs.Utf8.{is_utf8}
use Rattle.json_tree.specs.Grammar.{is_spelling}
use Rattle.json_tree.specs.Tree.{Json, word, num, str, arr, obj, Items, got, depth, tree_at}
use Rattle.json_tree.proofs.Spelled.{string_parts, string_spelled}
use Rattle.wire.specs.Limits.{widest}
use Rattle.numeral.specs.Whole.{whole_of, whole_answer, is_within}
use Rattle.numeral.specs.declared.Whole.{Whole}
use Rattle.numeral.specs.declared.Whole.TheVariants.{Value, Large, Malformed}
use Rattle.rows.specs.Strings.{part, refused_in}
use Rattle.shape.specs.Shape.{is_string, is_number, is_array_of}
use Rattle.shape.specs.Rows.{wrong_time, wrong_small, wrong_hex}
use Rattle.message.specs.declared.Span.{Span}
use Rattle.message.specs.Lists.{open_within}
use Rattle.message.specs.Parts.{span_of, whole_value, number_spelled}
use Rattle.message.specs.Lent.{is_inside, is_spelled, string2, string4, string5, string7, wrong_number, time6}
use Rattle.message.specs.Lent.{small6, on_value, value_at, value2, value4, value5}
use Rattle.message.proofs.Walks.{deeper}
use Rattle.message.proofs.Elements.{group_of}
use Rattle.message.proofs.Edges.{group_utf8, string_utf8}
use Rattle.message.proofs.Reading.{string_tree}

-- ---- strings
pub record StringClean (s : List ℕ) (p : Span) : Type 0 where
  pub c2 : string2 s p ≡ false
  pub c4 : string4 s p ≡ false
  pub c5 : string5 s p ≡ false

pub string_clean : (s : List ℕ) → is_utf8 s ≡ true → (v : ℕ) (t : Json) (n : ℕ) → tree_at s open_within v ≡ got t n → is_string t ≡ true → refused_in s t ≡ false → StringClean s (span_of t)
unfolding string2 string4 string5 is_spelled is_inside refused_in
string_clean s u v (word a m) n e h r = absurd (false≢true h)
string_clean s u v (num a m) n e h r = absurd (false≢true h)
string_clean s u v (arr ts) n e h r = absurd (false≢true h)
string_clean s u v (obj ts) n e h r = absurd (false≢true h)
string_clean s u v (str a m) n e h r =
    let (k, q, x, y) = string_tree s 6 v a m n e in
    let (p, l, o, i, j) = string_parts s v k q in
    let b : is_utf8 (part s a m) ≡ true = rw (x, y) at (string_utf8 s u v k q) in
    let c : is_spelling (part s a m) ≡ true = rw (x, y) at (string_spelled s v k q) in
    let d = le-leb (a + m) (length s) (omega arith) in
    record { c2 = simp (d, b); c4 = simp (d, c, r); c5 = simp (d, c) }

and_false : (b : Bool) → (b && false) ≡ false
and_false true = refl
and_false false = refl

pub hex_clean : (k : ℕ) (s : List ℕ) (t : Json) → is_string t ≡ true → wrong_hex k s t ≡ false → string7 k s (span_of t) ≡ false
unfolding string7 wrong_hex
hex_clean k s (word a m) h e = absurd (false≢true h)
hex_clean k s (num a m) h e = absurd (false≢true h)
hex_clean k s (arr ts) h e = absurd (false≢true h)
hex_clean k s (obj ts) h e = absurd (false≢true h)
hex_clean k s (str a m) h e = ap (λ b. is_spelled s (record { start = a; len = m }) && b) e ∙ and_false (is_spelled s (record { start = a; len = m }))

-- ---- numbers
within_value : (w : Whole) (low high : ℤ) → not (is_within w low high) ≡ false → wrong_number low high (whole_value w) ≡ false
unfolding wrong_number is_within
within_value (Value z) low high e = e
within_value Large low high e = absurd (false≢true (sym e))
within_value Malformed low high e = absurd (false≢true (sym e))

pub time_clean : (s : List ℕ) (t : Json) → is_number t ≡ true → wrong_time s t ≡ false → time6 (number_spelled s t) ≡ false
unfolding wrong_time
time_clean s (word a m) h e = absurd (false≢true h)
time_clean s (num a m) h e = within_value (whole_answer (whole_of (part s a m))) (neg_ℤ (pos widest)) (pos widest) e
time_clean s (str a m) h e = absurd (false≢true h)
time_clean s (arr ts) h e = absurd (false≢true h)
time_clean s (obj ts) h e = absurd (false≢true h)

pub small_clean : (s : List ℕ) (t : Json) → is_number t ≡ true → wrong_small s t ≡ false → small6 (number_spelled s t) ≡ false
unfolding wrong_small
small_clean s (word a m) h e = absurd (false≢true h)
small_clean s (num a m) h e = within_value (whole_answer (whole_of (part s a m))) (pos 0) (pos 65535) e
small_clean s (str a m) h e = absurd (false≢true h)
small_clean s (arr ts) h e = absurd (false≢true h)
small_clean s (obj ts) h e = absurd (false≢true h)

-- ---- arrays and objects
pub data Grouped : Json → Type 0 where
  array : {ts : Items} → Grouped (arr ts)
  object : {ts : Items} → Grouped (obj ts)

pub array_grouped : (f : Json → Bool) (t : Json) → is_array_of f t ≡ true → Grouped t
array_grouped f (word a m) e = absurd (false≢true e)
array_grouped f (num a m) e = absurd (false≢true e)
array_grouped f (str a m) e = absurd (false≢true e)
array_grouped f (arr ts) e = array
array_grouped f (obj ts) e = absurd (false≢true e)

-- f of the value at v is false
pub value_false : (s : List ℕ) (v : ℕ) {t : Json} {n : ℕ} (f : Json → Bool) → tree_at s open_within v ≡ got t n → f t ≡ false → on_value f (value_at s v) ≡ false
value_false s v {t} {n} f e h = ap (on_value f) (deeper s open_within v t n e) ∙ h

pub record ValueClean (f : Json → Bool) (s : List ℕ) (v : ℕ) : Type 0 where
  pub v2 : value2 s v ≡ false
  pub v4 : value4 s v ≡ false
  pub v5 : value5 f s v ≡ false

pub value_clean : (f : Json → Bool) (s : List ℕ) → is_utf8 s ≡ true → (v : ℕ) {t : Json} {n : ℕ} → tree_at s open_within v ≡ got t n → Grouped t → f t ≡ true → refused_in s t ≡ false → ValueClean f s v
unfolding value2 value4 value5
value_clean f s u v {t} {n} e g h r =
    let d = deeper s open_within v t n e in
    record { v2 = rw d (ap not (own g d)); v4 = rw d r; v5 = rw d (ap not h) }
  where
    own : {t : Json} {n : ℕ} → Grouped t → tree_at s depth v ≡ got t n → is_utf8 (part s v (n - v)) ≡ true
    own {n = n} (array {ts = ts}) d = group_utf8 s u (group_of s v false ts n d)
    own {n = n} (object {ts = ts}) d = group_utf8 s u (group_of s v true ts n d)
