-- The text of an event within the limits is UTF-8, since its strings are and all else in it is ASCII. So a text that is
-- not is none.
use Rattle.std.specs.Prelude.{Err}
use mathlib.Core.Path.{◌≡◌, refl, sym, ap, ◌∙◌}
use mathlib.Core.Bool.{Bool, true, false, ◌&&◌, ◌||◌, false≢true}
use mathlib.Core.List.{List, [], ◌∷◌, ◌++◌, append_assoc, append-nil}
use Prim.Native.Nat.{ℕ, suc, ◌+◌, ◌/◌, ◌%◌, ◌<◌, ◌≤◌}
use native.Mathlib.Omega.{arith}
use lib.Dec.{eqb, leb}
use lib.IntN.{ℤ, pos, negsuc}
use lib.ListN.{length}
use borrow.Author.Tests.{le-leb, leb-true}
use Rattle.utf8.specs.Utf8.{lead_of, next_want, utf8_from, is_utf8}
use Rattle.utf8.specs.declared.Want.{Want}
use Rattle.utf8.specs.declared.Want.TheVariants.{Lead, Tail, Bad}
use Rattle.wire.specs.Escape.{escape}
use Rattle.wire.specs.Bytes.{is_hex}
use Rattle.wire.specs.Limits.{most_text, hex_length, most_tags, most_strings}
use Rattle.numeral.specs.Decimal.{digits, decimal}
use Rattle.numeral.proofs.Digits.{digits_one, digits_split, by_digits}
use Rattle.text.specs.declared.Unread.TheVariants.{WrongShape}
use Rattle.text.specs.Event.{Tag, Event, quoted, members_text, tag_text, tags_text, opening, closing, comma, bracket}
use Rattle.text.specs.Event.{serialise, all, is_pubkey, is_string_bytes, is_tag, is_tags, is_fit}
use Rattle.text.specs.Read.{wrong_shape, read_text}
use Rattle.text.specs.Answer.{text_answer_of}
use Rattle.text.proofs.Pieces.{both}
use Rattle.text.proofs.Strings.{utf8_escape}
use Rattle.text.proofs.Limits.{limits_of}
use Rattle.text.proofs.RoundTrip.{wrong_shape_lem}

-- whole characters
record Whole (p : List ℕ) : Type 0 where
  on : (r : List ℕ) → utf8_from Lead (p ++ r) ≡ utf8_from Lead r

nothing : Whole []
nothing = record { on = λ r. refl }

low : (x : ℕ) (p : List ℕ) → x < 128 → Whole p → Whole (x ∷ p)
unfolding utf8_from lead_of
low x p h w = record { on = λ r. rw (utf8_from, le-leb x 0x7f (omega arith)) (w.on r) }

one : (x : ℕ) → x < 128 → Whole (x ∷ [])
one x h = low x [] h nothing

two : (p q : List ℕ) → Whole p → Whole q → Whole (p ++ q)
two p q a b = record { on = λ r. ap (utf8_from Lead) (append_assoc p q r) ∙ a.on (q ++ r) ∙ b.on r }

from : (v : List ℕ) (w : Want) (r : List ℕ) → utf8_from w v ≡ true → utf8_from w (v ++ r) ≡ utf8_from Lead r
unfolding utf8_from
from [] Lead r e = refl
from [] (Tail lo hi n) r e = absurd (false≢true e)
from [] Bad r e = absurd (false≢true e)
from (x ∷ v) w r e = from v (next_want w x) r e

string : (v : List ℕ) → is_string_bytes v ≡ true → Whole (quoted v)
unfolding quoted is_string_bytes is_utf8
string v h =
    low 34 (escape v ++ (34 ∷ [])) (omega arith)
    (two (escape v) (34 ∷ []) (record { on = λ r. from (escape v) Lead r (utf8_escape v ∙ h) }) (one 34 (omega arith)))

members : {A : Type 0} (print : A → List ℕ) (ok : A → Bool) → ((x : A) → ok x ≡ true → Whole (print x)) → (xs : List A) → all ok xs ≡ true → Whole (members_text print xs)
unfolding members_text all
members print ok f [] h = one 93 (omega arith)
members print ok f (x ∷ []) h = two (print x) (93 ∷ []) (f x (both (ok x) true h).0) (one 93 (omega arith))
members print ok f (x ∷ y ∷ ys) h =
    let k = both (ok x) (all ok (y ∷ ys)) h in
    two (print x) (44 ∷ members_text print (y ∷ ys)) (f x k.0) (low 44 (members_text print (y ∷ ys)) (omega arith) (members print ok f (y ∷ ys) k.1))

tag : (t : Tag) → is_tag t ≡ true → Whole (tag_text t)
unfolding tag_text is_tag
tag t h =
    let k = both (leb (length t) most_strings) (all is_string_bytes t) (both (leb 1 (length t)) (leb (length t) most_strings && all is_string_bytes t) h).1 in
    low 91 (members_text quoted t) (omega arith) (members quoted is_string_bytes string t k.1)

tags : (ts : List Tag) → is_tags ts ≡ true → Whole (tags_text ts)
unfolding tags_text is_tags
tags ts h = low 91 (members_text tag_text ts) (omega arith) (members tag_text is_tag tag ts (both (leb (length ts) most_tags) (all is_tag ts) h).1)

number : (n : ℕ) → Whole (digits n)
number = by_digits (λ n. Whole (digits n)) first more
  where
    first : (n : ℕ) → n < 10 → Whole (digits n)
    first n h = rw (digits_one n h) (one (48 + n) (omega arith))

    more : (n : ℕ) → 10 ≤ n → Whole (digits (n / 10)) → Whole (digits n)
    more n h w = rw (digits_split n h) (two (digits (n / 10)) ((48 + n % 10) ∷ []) w (one (48 + n % 10) (omega arith)))

time : (z : ℤ) → Whole (decimal z)
unfolding decimal
time (pos n) = number n
time (negsuc n) = low 45 (digits (suc n)) (omega arith) (number (suc n))

hex_low : (x : ℕ) → is_hex x ≡ true → x < 128
unfolding is_hex
hex_low x e = go (leb x 0x39) (leb x 0x66) refl refl e
  where
    neither : (a c : Bool) → ((a && false) || (c && false)) ≡ true → ⊥
    neither true true q = false≢true q
    neither true false q = false≢true q
    neither false true q = false≢true q
    neither false false q = false≢true q

    go : (b d : Bool) → leb x 0x39 ≡ b → leb x 0x66 ≡ d → ((leb 0x30 x && b) || (leb 0x61 x && d)) ≡ true → x < 128
    go true d p q r = omega (arith, leb-true x 0x39 p)
    go false true p q r = omega (arith, leb-true x 0x66 q)
    go false false p q r = absurd (neither (leb 0x30 x) (leb 0x61 x) r)

hex : (k : List ℕ) → all is_hex k ≡ true → Whole k
unfolding all
hex [] h = nothing
hex (x ∷ k) h = let a = both (is_hex x) (all is_hex k) h in low x k (hex_low x a.0) (hex k a.1)

text : (e : Event) → is_fit e ≡ true → Whole (serialise e)
unfolding serialise is_pubkey
text e h =
    let l = limits_of e h in
    two opening _ (low 91 _ (omega arith) (low 48 _ (omega arith) (low 44 _ (omega arith) (one 34 (omega arith)))))
    (two e.pubkey _ (hex e.pubkey (both (eqb (length e.pubkey) hex_length) (all is_hex e.pubkey) l.pubkey).1)
    (two closing _ (low 34 _ (omega arith) (one 44 (omega arith)))
    (two (decimal e.time) _ (time e.time)
    (two comma _ (one 44 (omega arith))
    (two (digits e.kind) _ (number e.kind)
    (two comma _ (one 44 (omega arith)) (two (tags_text e.tags) _ (tags e.tags l.tags) (two comma _ (one 44 (omega arith)) (two (quoted e.content) bracket (string e.content l.content) (one 93 (omega arith)))))))))))

pub serialise_utf8 : (e : Event) → is_fit e ≡ true → is_utf8 (serialise e) ≡ true
unfolding is_utf8 utf8_from
serialise_utf8 e h = ap (utf8_from Lead) (sym (append-nil (serialise e))) ∙ (text e h).on []

pub text_not : (t : List ℕ) → length t ≤ most_text → is_utf8 t ≡ false → Err WrongShape ≡ text_answer_of (read_text t)
text_not t h u =
    let w : read_text t ≡ wrong_shape = (wrong_shape_lem t).1 (h, λ e f s. false≢true (sym u ∙ ap is_utf8 (sym s) ∙ serialise_utf8 e f)) in
    ap text_answer_of (sym w)
