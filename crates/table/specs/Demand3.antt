-- Demand 3 at the table's bytes. Law/Demand3 has its claims for a relay in any form; here the relay is a table in a
-- buffer, with the answers and the bytes of specs/Offer. Quotes are from 01.
use Rattle.std.specs.Prelude.{◌≡◌, true, false, cond, List, ℕ, eqb, pos, Result, Ok, Err}
use Rattle.utf8.specs.Utf8.{is_utf8}
use Rattle.json_tree.specs.Grammar.{is_spelling}
use Rattle.text.specs.Event.{Tag, Event}
use Rattle.text.specs.Read.{read, read_text}
use Rattle.message.specs.declared.Span.{Span}
use Rattle.message.specs.declared.EventParts.{EventParts}
use Rattle.message.specs.Lent.{span_bytes, is_inside, is_tags_shape, value2, value5}
use Rattle.event.specs.Lent.{said, lent_tags_at}
use Rattle.event.specs.Answer.{hex_of}
use Rattle.law.specs.Table.{Verdict, refused, was_ephemeral, duplicate, older, stored, no_room}
use Rattle.law.specs.Demand3.{Machine, Demand3On}
use Rattle.table.specs.Layout.{capacity_of}
use Rattle.table.specs.Events.{SignedEvent, Signature, table_events, view}
use Rattle.table.specs.Offer.{Offering, as_message, as_parts, judge, answer, next}
use Rattle.table.specs.Format.{format_row, formatted}
use Rattle.shape.specs.declared.Refusal.{Refusal}
use Rattle.table.specs.declared.Offered.{Offered}
use Rattle.table.specs.declared.Offered.TheVariants.{Ephemeral, Duplicate, Older, Stored}

-- ---- an offer, as parts, of what is held
-- the part p of b spells the string v: "A string part is a place holding what stands between its quotes, as spelled"
pub record Spells (b : List ℕ) (p : Span) (v : List ℕ) : Type 0 where
  pub inside : is_inside b p ≡ true
  pub utf8 : is_utf8 (span_bytes b p) ≡ true
  pub spelling : is_spelling (span_bytes b p) ≡ true
  pub says : said b p ≡ v

-- the tags ts stand in b, spelled as JSON
pub record SpellsTags (b : List ℕ) (at : ℕ) (ts : List Tag) : Type 0 where
  pub utf8 : value2 b at ≡ false
  pub array : value5 is_tags_shape b at ≡ false
  pub says : lent_tags_at b at ≡ ts

-- parts "with the id, text and signature held there"
pub record Tells (b : List ℕ) (p : EventParts) (s : SignedEvent) : Type 0 where
  pub event : Event
  pub text : read_text s.0.text ≡ read event
  pub id : Spells b p.id (hex_of s.0.id)
  pub pubkey : Spells b p.body.pubkey event.pubkey
  pub time : p.body.created_at ≡ event.time
  pub kind : p.body.kind ≡ pos event.kind
  pub tags : SpellsTags b p.body.tags event.tags
  pub content : Spells b p.body.content event.content
  pub sig : Spells b p.sig (hex_of s.1)

abbrev pub AsParts : Offering → SignedEvent → Type 0
AsParts (as_message m) s = ⊥
AsParts (as_parts b p) s = Tells b p s

-- ---- the relay
-- "A fresh table is one just formatted, with any capacity and buffer that rows 13 and 14 let pass"
pub record Fresh (b : List ℕ) : Type 0 where
  pub capacity : ℕ
  pub buffer : List ℕ
  pub passes : format_row capacity buffer ≡ 0
  pub is : b ≡ formatted capacity buffer

-- "An offer lacks room when its answer is 12."
abbrev pub verdict_of : Result Offered Refusal → Verdict
verdict_of (Ok Ephemeral) = was_ephemeral
verdict_of (Ok Duplicate) = duplicate
verdict_of (Ok Older) = older
verdict_of (Ok Stored) = stored
verdict_of (Err r) = cond (eqb r.row 12) no_room refused

-- a relay over such tables and offers, by what it answers and the table that an offer leaves
abbrev pub relay_with : (List ℕ → Offering → Result Offered Refusal) → (List ℕ → Offering → List ℕ) →
    Machine table_events Signature
relay_with answers leaves = record {
  State = List ℕ;
  Offering = Offering;
  Answer = Result Offered Refusal;
  Fresh = Fresh;
  answer = answers;
  next = leaves;
  verdict_of = verdict_of;
  capacity = capacity_of;
  slots = view;
  judge = judge;
  AsParts = AsParts;
}

abbrev pub relay : Machine table_events Signature
relay = relay_with answer next

-- demand 3, whole: proofs/Demand3
abbrev pub Demand3 : Type 0
Demand3 = Demand3On table_events Signature relay
