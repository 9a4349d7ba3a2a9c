-- No reply has a byte below 20, and so none has a 0A: escaping leaves only control characters there, which are spelled.
use mathlib.Core.Path.{◌≡◌, refl}
use mathlib.Core.Bool.{Bool, true, false, cond, ◌||◌}
use mathlib.Core.List.{List, [], ◌∷◌, ◌++◌}
use Prim.Native.Nat.{ℕ, suc, ◌+◌, ◌/◌, ◌%◌, ◌≤◌, ◌<◌}
use native.Mathlib.Omega.{arith}
use borrow.Author.Tests.{eqb-true, ltb-true, le-ltb}
use lib.Dec.{eqb, ltb}
use lib.IntN.{ℤ, pos, negsuc}
use Rattle.wire.specs.Bytes.{is_control, hex_digit}
use Rattle.wire.specs.Escape.{letter_of, esc_one, escape, json_one, json_of}
use Rattle.wire.proofs.Cases.{clash, no_left, no_right}
use Rattle.wire.proofs.Escapes.{allowed_escaped}
use Rattle.wire.proofs.Json.{json_append, json_one_lem, json_escaped, json_spelled, own_escape}
use Rattle.numeral.specs.Decimal.{digits, decimal}
use Rattle.numeral.proofs.Digits.{digits_one, digits_split, by_digits}
use Rattle.text.specs.Event.{Tag, Event, quoted, members_text, tag_text, tags_text}
use Rattle.law.specs.Lists.{any}
use Rattle.reply.specs.Replies.{ok, event, eose, closed, notice, truth, string_json, tags_json, object_text, reply_text}
use Rattle.reply.specs.Claims.{is_newline, Plain, ReplyPlain, is_low, ReplyRaw}

-- ---- pieces in a row
none_append : (f : ℕ → Bool) (k l : List ℕ) → any f k ≡ false → any f l ≡ false → any f (k ++ l) ≡ false
none_append f [] l p q = q
none_append f (x ∷ k) l p q = go (f x) p (λ h. none_append f k l h q)
  where
    go : (b : Bool) → (b || any f k) ≡ false → (any f k ≡ false → any f (k ++ l) ≡ false) → (b || any f (k ++ l)) ≡ false
    go true h ih = h
    go false h ih = ih h

pub plain_append : (k l : List ℕ) → Plain k → Plain l → Plain (k ++ l)
plain_append k l p q = none_append is_newline k l p q

abbrev pub Raw : List ℕ → Type 0
Raw l = any is_low l ≡ false

module _ (k l : List ℕ) where
  raw_append : Raw k → Raw l → Raw (k ++ l)
  raw_append p q = none_append is_low k l p q

  json_raw : Raw (json_of k) → Raw (json_of l) → Raw (json_of (k ++ l))
  json_raw p q = rw (json_append k l) (none_append is_low (json_of k) (json_of l) p q)

-- ---- strings
raw_letter : (x : ℕ) → eqb (letter_of x) 0 ≡ false → is_low (letter_of x) ≡ false
unfolding letter_of
raw_letter x =
    pick (eqb x 0x0a) 110 _ refl (pick (eqb x 0x22) 34 _ refl (pick (eqb x 0x5c) 92 _ refl (pick (eqb x 0x0d) 114 _ refl
    (pick (eqb x 0x09) 116 _ refl (pick (eqb x 0x08) 98 _ refl (pick (eqb x 0x0c) 102 _ refl (λ e. e)))))))
  where
    pick : (t : Bool) (k n : ℕ) → is_low k ≡ false → (eqb n 0 ≡ false → is_low n ≡ false) → eqb (cond t k n) 0 ≡ false → is_low (cond t k n) ≡ false
    pick true k n h f e = h
    pick false k n h f e = f e

raw_hex : (d : ℕ) → is_low (hex_digit d) ≡ false
raw_hex d = go (ltb d 10)
  where
    go : (t : Bool) → is_low (cond t (0x30 + d) (0x57 + d)) ≡ false
    go true = le-ltb (0x30 + d) 0x20 (omega arith)
    go false = le-ltb (0x57 + d) 0x20 (omega arith)

-- a byte that has no escape is a control character, or at least 20
raw_kept : (x : ℕ) → is_control x ≡ false → Raw (esc_one x)
unfolding esc_one
raw_kept x n = go (eqb (letter_of x) 0) (is_low x) refl refl
  where
    go : (t u : Bool) → eqb (letter_of x) 0 ≡ t → is_low x ≡ u → Raw (cond t (x ∷ []) (92 ∷ letter_of x ∷ []))
    go true true e h = absurd (clash e (allowed_escaped x (ltb-true x 0x20 h) n))
    go true false e h = rw h
    go false u e h = rw (raw_letter x e)

raw_one : (x : ℕ) → Raw (json_of (esc_one x))
raw_one x = go (is_control x) refl
  where
    go : (t : Bool) → is_control x ≡ t → Raw (json_of (esc_one x))
    go true e = rw (own_escape x e, json_one_lem x, json_spelled x e, raw_hex (x / 16), raw_hex (x % 16))
    go false e = rw (json_escaped x e) (raw_kept x e)

raw_escape : (s : List ℕ) → Raw (json_of (escape s))
unfolding escape json_of
raw_escape [] = refl
raw_escape (x ∷ s) = json_raw (esc_one x) _ (raw_one x) (raw_escape s)

raw_string : (s : List ℕ) → Raw (json_of (quoted s))
unfolding quoted json_of json_one
raw_string s = json_raw (escape s) _ (raw_escape s) refl

-- ---- numbers
raw_digits : (n : ℕ) → Raw (digits n)
raw_digits = by_digits (λ n. Raw (digits n)) one more
  where
    one : (n : ℕ) → n < 10 → Raw (digits n)
    one n h = rw (digits_one n h, le-ltb (48 + n) 0x20 (omega arith))

    more : (n : ℕ) → 10 ≤ n → Raw (digits (n / 10)) → Raw (digits n)
    more n h p = rw (digits_split n h) (raw_append (digits (n / 10)) _ p (rw (le-ltb (48 + n % 10) 0x20 (omega arith))))

raw_decimal : (z : ℤ) → Raw (decimal z)
unfolding decimal
raw_decimal (pos n) = raw_digits n
raw_decimal (negsuc n) = raw_digits (suc n)

-- ---- lists
raw_members : {A : Type 0} (p : A → List ℕ) → ((x : A) → Raw (json_of (p x))) → (l : List A) → Raw (json_of (members_text p l))
unfolding members_text json_of json_one
raw_members p h [] = refl
raw_members p h (x ∷ []) = json_raw (p x) _ (h x) refl
raw_members p h (x ∷ y ∷ l) = json_raw (p x) _ (h x) (raw_members p h (y ∷ l))

raw_tags : (ts : List Tag) → Raw (json_of (tags_text ts))
unfolding tags_text tag_text json_of json_one
raw_tags ts = raw_members tag_text (λ t. raw_members quoted raw_string t) ts

raw_truth : (b : Bool) → Raw (truth b)
raw_truth true = refl
raw_truth false = refl

-- ---- replies
string : (s l : List ℕ) → Raw l → Raw (string_json s ++ l)
unfolding string_json
string s l q = raw_append (json_of (quoted s)) l (raw_string s) q

pub raw_object : (i : List ℕ) (e : Event) (s : List ℕ) → Raw (object_text i e s)
unfolding object_text tags_json
raw_object i e s =
    string i _ (string e.pubkey _
    (raw_append (decimal e.time) _ (raw_decimal e.time)
    (raw_append (digits e.kind) _ (raw_digits e.kind)
    (raw_append (tags_json e.tags) _ (raw_tags e.tags) (string e.content _ (string s _ refl))))))

pub reply_raw : ReplyRaw
unfolding reply_text
reply_raw (ok i a r) = string i _ (raw_append (truth a) _ (raw_truth a) (string r _ refl))
reply_raw (event s i e g) = string s _ (raw_append (object_text i e g) _ (raw_object i e g) refl)
reply_raw (eose s) = string s _ refl
reply_raw (closed s r) = string s _ (string r _ refl)
reply_raw (notice r) = string r _ refl

-- 0A is below 20
raw_plain : (l : List ℕ) → Raw l → Plain l
raw_plain [] p = refl
raw_plain (x ∷ l) p = go (is_newline x) refl (raw_plain l (no_right (is_low x) (any is_low l) p))
  where
    go : (b : Bool) → is_newline x ≡ b → Plain l → (b || any is_newline l) ≡ false
    go true e q = absurd (clash (rw (eqb-true x 0x0a e)) (no_left (is_low x) (any is_low l) p))
    go false e q = q

pub reply_plain : ReplyPlain
reply_plain r = raw_plain (reply_text r) (reply_raw r)
