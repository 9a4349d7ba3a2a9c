-- What the private functions hand on.
use Rattle.text.specs.declared.Unread.{Unread}
use Rattle.text.specs.declared.Unread.TheVariants.{WrongShape}
use Rattle.std.specs.Prelude.{Bool, true, false, cond, not, ◌&&◌, List, [], ◌∷◌, ◌≡◌, ℕ, ◌+◌, ◌<◌, ◌≤◌, eqb, ltb, ℤ, length, get_or, drop, Option, Some, None, Result, Ok, Err}
use Rattle.wire.specs.Escape.{escape}
use Rattle.text.specs.Event.{Tag, closing, comma, bracket, opening, tags_text}
use Rattle.text.specs.Read.{Got, none, got, escaped_byte, is_raw, body_from, stands_at, closed_at, pair_at, pubkey_at, run_of}
use Rattle.text.specs.Read.{tags_at, string_at}
use Rattle.text.specs.Kinds.{is_named_d, second}
use Rattle.text.specs.Answer.{Span, span_behind, d_span}
use Rattle.text.specs.declared.Found.{Found}
use Rattle.text.specs.declared.Text.{Text}
use Rattle.wire.specs.Bytes.{Bytes, Place}

abbrev pub got_end : {A : Type 0} → Got A → Option ℕ
got_end none = None
got_end (got x n) = Some n

-- a letter that stands for a byte after a backslash
abbrev pub is_letter : ℕ → Bool
is_letter c = not (eqb (escaped_byte c) 0)

-- ---- bytes of a string that stand as they are
-- the string goes on from i as it does from r
pub record Passes (s : List ℕ) (i r : ℕ) : Type 0 where
  pub from : i ≤ r
  pub same : got_end (body_from false i (drop i s)) ≡ got_end (body_from false r (drop r s))

-- n bytes of the 32 from i on, each of which stands as it is
pub record Raws (s : List ℕ) (i n : ℕ) : Type 0 where
  pub few : n ≤ 32
  pub all : (j : ℕ) → j < n → is_raw (get_or s (i + j) 0) ≡ true

-- ---- the place of the next comma, if there is one
abbrev pub comma_after : Bytes → Place → Option ℕ
comma_after s at =
    cond (ltb (at + length (run_of (drop at s))) (length s)) (Some (at + length (run_of (drop at s)))) None

abbrev pub time_got : Got ℤ → Option (ℤ × ℕ)
time_got none = None
time_got (got z n) = Some (z, n)

abbrev pub kind_got : Got ℕ → Option (ℕ × ℕ)
kind_got none = None
kind_got (got k n) = Some (k, n)

abbrev pub is_got : {A : Type 0} → Got A → Bool
is_got none = false
is_got (got x n) = true

-- [0,"PUBKEY",
unfoldable pub opens : Bytes → Bool
opens t = stands_at t opening 0 && is_got (closed_at t closing (pubkey_at t) 4)

abbrev pub no_zero_byte : Bytes → Bool
no_zero_byte [] = true
no_zero_byte (b ∷ w) = ltb 0 b && no_zero_byte w

-- ---- d: what is known once the tags before it are passed
abbrev pub found : Span → Found
found p = record { at = p.at; len = p.len }

-- the tag t stands at i
abbrev pub look_of : (i : ℕ) (x : Option Found) (t : Tag) → Option Found
look_of i (Some d) t = Some d
look_of i None t = cond (is_named_d t) (Some (found (span_behind (i + 6) (escape (second t))))) None

-- the tags ts stand at i
abbrev pub found_after : (x : Option Found) (i : ℕ) (ts : List Tag) → Found
found_after (Some d) i ts = d
found_after None i ts = found (d_span i ts)

abbrev pub tagged_of : (d : Option Found) (i : ℕ) (g : Got (List Tag)) → Option (ℕ × Found)
tagged_of d i none = None
tagged_of d i (got ts n) = Some (n, found_after d i ts)

-- ---- TAGS,"CONTENT"] from a place to the end
unfoldable pub rest_at : Bytes → ℕ → Got (List Tag × List ℕ)
rest_at s = pair_at (closed_at s comma (tags_at s)) (closed_at s bracket (string_at s))

abbrev pub rest_of : (l : ℕ) (at : Place) (g : Got (List Tag × List ℕ)) → Option (Found × Found)
rest_of l at none = None
rest_of l at (got x n) =
    cond (eqb n l) (Some (record { at = at + length (tags_text x.0) + 2; len = length (escape x.1) }, found (d_span (at + 1) x.0))) None

-- ---- the whole text, if it isn't too large
abbrev pub answer_of : Option Text → Result Text Unread
answer_of None = Err WrongShape
answer_of (Some x) = Ok x
