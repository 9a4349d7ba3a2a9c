-- The parts of an event and of a filter, as the fields of a line from the first on give them.
use Rattle.std.specs.Prelude.{cond, List, ℕ, Option, ℤ, Some, None}
use Rattle.message.specs.declared.Span.{Span}
use Rattle.message.specs.declared.Body.{Body}
use Rattle.message.specs.declared.EventParts.{EventParts}
use Rattle.message.specs.declared.FilterParts.{FilterParts}
use Rattle.fields.specs.Line.{fields_from, field_of}
use Rattle.fields.specs.Number.{natural_field, integer_of, is_absent, count_field}

unfoldable pub span_fields : List ℕ → Span
span_fields l = record { start = count_field l 0; len = count_field l 1 }

-- pubkey pubkey_len created_at kind tags content content_len
unfoldable pub body_fields : List ℕ → Body
body_fields l = record {
  pubkey = span_fields l;
  created_at = integer_of (field_of l 2);
  kind = integer_of (field_of l 3);
  tags = count_field l 4;
  content = span_fields (fields_from 5 l);
}

-- id id_len (the seven of a body) sig sig_len
unfoldable pub event_fields : List ℕ → EventParts
event_fields l = record { id = span_fields l; body = body_fields (fields_from 2 l); sig = span_fields (fields_from 9 l) }

unfoldable pub listed_of : List ℕ → Option ℕ
listed_of p = cond (is_absent p) None (Some (natural_field 0 p))

unfoldable pub bound_of : List ℕ → Option ℤ
bound_of p = cond (is_absent p) None (Some (integer_of p))

-- ids authors kinds since until limit conditions
unfoldable pub filter_fields : List ℕ → FilterParts
filter_fields l = record {
  ids = listed_of (field_of l 0);
  authors = listed_of (field_of l 1);
  kinds = listed_of (field_of l 2);
  since = bound_of (field_of l 3);
  until = bound_of (field_of l 4);
  limit = bound_of (field_of l 5);
  conditions = listed_of (field_of l 6);
}
