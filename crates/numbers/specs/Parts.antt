-- The parts that a row of numbers gives, as Numbers writes them. A number past the end of a row is 0.
use Rattle.std.specs.Prelude.{ℕ, ◌+◌, cond, List, [], ◌∷◌, eqb, drop, get_or, Option, ℤ, Some, None}
use Rattle.wire.specs.Field.{signed}
use Rattle.message.specs.declared.Span.{Span}
use Rattle.message.specs.declared.EventParts.{EventParts}
use Rattle.message.specs.declared.FilterParts.{FilterParts}

-- number k, and the row from k on
abbrev pub number_from : List ℕ → ℕ → ℕ
number_from l k = get_or l k 0

abbrev pub row_from : List ℕ → ℕ → List ℕ
row_from l k = drop k l

-- a string part: its place and its length, from k on
abbrev pub span_from : List ℕ → ℕ → Span
span_from l k = record { start = number_from l k; len = number_from l (k + 1) }

-- an EVENT, whose first number says that it is one
unfoldable pub event_from : List ℕ → EventParts
event_from l = record {
  id = span_from l 1;
  body = record {
    pubkey = span_from l 3;
    created_at = signed (number_from l 5);
    kind = signed (number_from l 6);
    tags = number_from l 7;
    content = span_from l 8;
  };
  sig = span_from l 10;
}

-- ---- a filter
abbrev pub listed_from : ℕ → Option ℕ
listed_from v = cond (eqb v 0) None (Some v)

abbrev pub bound_from : ℕ → ℕ → Option ℤ
bound_from f v = cond (eqb f 0) None (Some (signed v))

-- the ten numbers of a filter, from k on
unfoldable pub filter_from : List ℕ → ℕ → FilterParts
filter_from l k = record {
  ids = listed_from (number_from l k);
  authors = listed_from (number_from l (k + 1));
  kinds = listed_from (number_from l (k + 2));
  since = bound_from (number_from l (k + 3)) (number_from l (k + 4));
  until = bound_from (number_from l (k + 5)) (number_from l (k + 6));
  limit = bound_from (number_from l (k + 7)) (number_from l (k + 8));
  conditions = listed_from (number_from l (k + 9));
}

-- those of a REQ: how many there are stands before them
unfoldable pub filters_from : List ℕ → List FilterParts
filters_from l = filter_from l 4 ∷ filter_from l 14 ∷ filter_from l 24 ∷ filter_from l 34 ∷ []

abbrev pub filter_count : List ℕ → ℕ
filter_count l = number_from l 3
