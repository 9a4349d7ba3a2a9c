-- An EVENT whose object has its seven members in the order listed under Shape, each as it should be: rows 4 to 8 do not
-- hold, and its parts are the members' places. Over any text s: only what its names and values are is used.
use Rattle.std.specs.Prelude.{Ok}
use mathlib.Core.Bool.{true, false}
use mathlib.Core.Path.{◌≡◌, refl}
use mathlib.Core.List.{List}
use Prim.Native.Nat.{ℕ}
use lib.IntN.{ℤ, pos, neg_ℤ}
use Rattle.wire.specs.Bytes.{same_bytes}
use Rattle.wire.specs.Escape.{letter_of, esc_one, escape}
use Rattle.wire.specs.Limits.{widest}
use Rattle.json_tree.specs.Tree.{Json, num, str, arr, obj, Items, nil, item}
use Rattle.numeral.specs.Whole.{whole_of, whole_answer, is_within}
use Rattle.numeral.specs.declared.Whole.TheVariants.{Value}
use Rattle.rows.specs.Strings.{part, spelled_at, refused_in}
use Rattle.spell.specs.Spell as spell
use Rattle.spell.specs.Spell.{char_of, chars_from, char_bytes, chars_bytes, decode, is_refused, refuses, is_hex_of}
use Rattle.shape.specs.Shape.{any_item, all_items, count_items, name_at, id_name, pubkey_name, created_at_name, kind_name}
use Rattle.shape.specs.Shape.{tags_name, content_name, sig_name, event_word, event_member, once, is_event, event, word_of}
use Rattle.shape.specs.Shape.{opened}
use Rattle.shape.specs.Rows.{row5, row6, row7, row8, event_number, event_hex, event_count, wrong_time, wrong_small, wrong_hex}
use Rattle.shape.specs.Rows.{tree_row, wrong_tags}
use Rattle.message.specs.Lent.{is_tags_shape}
use Rattle.message.specs.Parts.{member_of, body_of, event_parts_of}
use Rattle.message.specs.Read.{message_parts}
use Rattle.message.specs.declared.EventParts.{EventParts}
use Rattle.message.specs.declared.Message.TheVariants as message

-- ---- the names, and the word EVENT, stand for themselves and are not refused
pub record Verbatim (w : List ℕ) : Type 0 where
  pub spelled : escape w ≡ w
  pub decoded : decode w ≡ w
  pub fine : refuses w ≡ false

pub verbatim_names : Verbatim id_name × Verbatim pubkey_name × Verbatim created_at_name × Verbatim kind_name × Verbatim tags_name × Verbatim content_name × Verbatim sig_name × Verbatim event_word
unfolding escape esc_one letter_of char_of chars_from char_bytes chars_bytes decode is_refused spell.any refuses
verbatim_names = (
  record { spelled = refl; decoded = refl; fine = refl },
  record { spelled = refl; decoded = refl; fine = refl },
  record { spelled = refl; decoded = refl; fine = refl },
  record { spelled = refl; decoded = refl; fine = refl },
  record { spelled = refl; decoded = refl; fine = refl },
  record { spelled = refl; decoded = refl; fine = refl },
  record { spelled = refl; decoded = refl; fine = refl },
  record { spelled = refl; decoded = refl; fine = refl },
)

says : (s : List ℕ) (p : ℕ) {w : List ℕ} → Verbatim w → spelled_at s p ≡ w → name_at s p ≡ w
unfolding name_at
says s p d e = rw e d.decoded

clean : (s : List ℕ) (p : ℕ) {w : List ℕ} → Verbatim w → spelled_at s p ≡ w → refuses (spelled_at s p) ≡ false
clean s p d e = rw e d.fine

-- ---- a member begins at `at` and its value at `value`; what the value holds stands from `start` on
pub record Entry : Type 0 where
  pub at : ℕ
  pub value : ℕ
  pub start : ℕ
  pub size : ℕ

abbrev pub held : List ℕ → Entry → List ℕ
held s m = part s m.start m.size

abbrev pub item_of : Entry → Json → Items → Items
item_of m t ts = item m.at m.value t ts

abbrev pub string : Entry → Json
string m = str m.start m.size

abbrev pub number : Entry → Json
number m = num m.start m.size

abbrev pub object_of : (id pubkey time kind tags content sig : Entry) → Json → Items
object_of i k t n g c z array =
    item_of i (string i) (item_of k (string k) (item_of t (number t) (item_of n (number n) (item_of g array (item_of c (string c) (item_of z (string z) nil))))))

-- the word EVENT and the object
abbrev pub message_of : Items → Json
message_of ts = arr (item 1 1 (str 2 5) (item 9 9 (obj ts) nil))

pub record Fine (s : List ℕ) (i k t n g c z : Entry) (array : Json) (time : ℤ) (kind : ℕ) : Type 0 where
  pub word : part s 2 5 ≡ event_word
  pub id_name_lem : spelled_at s i.at ≡ id_name
  pub pubkey_name_lem : spelled_at s k.at ≡ pubkey_name
  pub time_name : spelled_at s t.at ≡ created_at_name
  pub kind_name_lem : spelled_at s n.at ≡ kind_name
  pub tags_name_lem : spelled_at s g.at ≡ tags_name
  pub content_name_lem : spelled_at s c.at ≡ content_name
  pub sig_name_lem : spelled_at s z.at ≡ sig_name
  pub id_clean : refuses (held s i) ≡ false
  pub pubkey_clean : refuses (held s k) ≡ false
  pub tags_clean : refused_in s array ≡ false
  pub content_clean : refuses (held s c) ≡ false
  pub sig_clean : refuses (held s z) ≡ false
  pub id_hex : is_hex_of 64 (held s i) ≡ true
  pub pubkey_hex : is_hex_of 64 (held s k) ≡ true
  pub sig_hex : is_hex_of 128 (held s z) ≡ true
  pub time_is : whole_answer (whole_of (held s t)) ≡ Value time
  pub time_within : is_within (Value time) (neg_ℤ (pos widest)) (pos widest) ≡ true
  pub kind_is : whole_answer (whole_of (held s n)) ≡ Value (pos kind)
  pub kind_within : is_within (Value (pos kind)) (pos 0) (pos 65535) ≡ true
  pub tags_array : is_tags_shape array ≡ true
  pub tags_few : wrong_tags array ≡ false

abbrev pub parts_at : (id pubkey tags content sig : Entry) → ℤ → ℕ → EventParts
parts_at i k g c z time kind = record {
  id = record { start = i.start; len = i.size };
  body = record {
    pubkey = record { start = k.start; len = k.size };
    created_at = time;
    kind = pos kind;
    tags = g.value;
    content = record { start = c.start; len = c.size };
  };
  sig = record { start = z.start; len = z.size };
}

module _ (s : List ℕ) (i k t n g c z : Entry) (array : Json) (time : ℤ) (kind : ℕ) (f : Fine s i k t n g c z array time kind) where
  abbrev whole : Json
  whole = message_of (object_of i k t n g c z array)

  first : word_of (decode (part s 2 5)) ≡ event
  unfolding word_of same_bytes
  first = rw (f.word, verbatim_names.7.decoded)

  word_clean : refuses (part s 2 5) ≡ false
  word_clean = rw f.word verbatim_names.7.fine

  id_says : name_at s i.at ≡ id_name
  id_says = says s i.at verbatim_names.0 f.id_name_lem

  pubkey_says : name_at s k.at ≡ pubkey_name
  pubkey_says = says s k.at verbatim_names.1 f.pubkey_name_lem

  time_says : name_at s t.at ≡ created_at_name
  time_says = says s t.at verbatim_names.2 f.time_name

  kind_says : name_at s n.at ≡ kind_name
  kind_says = says s n.at verbatim_names.3 f.kind_name_lem

  tags_say : name_at s g.at ≡ tags_name
  tags_say = says s g.at verbatim_names.4 f.tags_name_lem

  content_says : name_at s c.at ≡ content_name
  content_says = says s c.at verbatim_names.5 f.content_name_lem

  sig_says : name_at s z.at ≡ sig_name
  sig_says = says s z.at verbatim_names.6 f.sig_name_lem

  no_4 : refused_in s whole ≡ false
  unfolding refused_in
  no_4 =
      let (a, b, d, e, h, l, m, o) = verbatim_names in
      rw (
        word_clean,
        clean s i.at a f.id_name_lem,
        clean s k.at b f.pubkey_name_lem,
        clean s t.at d f.time_name,
        clean s n.at e f.kind_name_lem,
        clean s g.at h f.tags_name_lem,
        clean s c.at l f.content_name_lem,
        clean s z.at m f.sig_name_lem,
        f.id_clean,
        f.pubkey_clean,
        f.tags_clean,
        f.content_clean,
        f.sig_clean,
      )

  no_5 : row5 s whole ≡ false
  unfolding is_event event_member once all_items count_items same_bytes
  no_5 = rw (first, id_says, pubkey_says, time_says, kind_says, tags_say, content_says, sig_says, f.tags_array)

  no_6 : row6 s whole ≡ false
  unfolding row6 event_number any_item same_bytes wrong_time wrong_small
  no_6 = rw (first, id_says, pubkey_says, time_says, kind_says, tags_say, content_says, sig_says, f.time_is, f.kind_is, f.time_within, f.kind_within)

  no_7 : row7 s whole ≡ false
  unfolding row7 event_hex any_item same_bytes wrong_hex
  no_7 = rw (first, id_says, pubkey_says, time_says, kind_says, tags_say, content_says, sig_says, f.id_hex, f.pubkey_hex, f.sig_hex)

  no_8 : row8 s whole ≡ false
  unfolding row8 event_count any_item same_bytes
  no_8 = rw (first, id_says, pubkey_says, time_says, kind_says, tags_say, content_says, sig_says, f.tags_few)

  pub rows_none : tree_row s whole ≡ 0
  unfolding tree_row
  rows_none = rw (no_4, no_5, no_6, no_7, no_8)

  pub parts_are : message_parts s (opened s whole).first (opened s whole).rest ≡ Ok (message.Event (parts_at i k g c z time kind))
  unfolding event_parts_of body_of member_of same_bytes
  parts_are = rw (first, id_says, pubkey_says, time_says, kind_says, tags_say, content_says, sig_says, f.time_is, f.kind_is)
