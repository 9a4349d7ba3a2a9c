-- Each event within the limits has a valid message: the one that spells it as replies do, where row 1 lets that pass.
-- Its bytes are taken apart member by member, so its tree is known; rows 2 to 8 do not hold of that tree, and its parts
-- tell the event, so rows 9 and 10 do not hold either.
use Rattle.std.specs.Prelude.{Some, Ok}
use mathlib.Core.Bool.{true, false}
use mathlib.Core.Path.{◌≡◌, refl, ap, ◌∙◌}
use mathlib.Core.List.{List, [], ◌∷◌, ◌++◌}
use Prim.Native.Nat.{ℕ, ◌+◌, ◌-◌, ◌≤◌, ◌<◌}
use native.Mathlib.Nat.{sub-zero}
use native.Mathlib.Omega.{arith}
use borrow.Author.Tests.{le-ltb, eq-eqb}
use lib.IntN.{ℤ, pos, neg_ℤ}
use lib.ListN.{length, get_or, get_or-eq_default}
use lib.Seq.{take-append_seam}
use Rattle.wire.specs.Bytes.{is_hex, has_control}
use Rattle.wire.specs.Escape.{letter_of, esc_one, escape, json_one, json_of}
use Rattle.wire.specs.Limits.{most_message, widest}
use Rattle.wire.proofs.Cases.{no_left, no_right}
use Rattle.utf8.specs.Utf8.{is_utf8, utf8_from, lead_of}
use Rattle.utf8.specs.declared.Want.TheVariants.{Lead}
use Rattle.utf8.proofs.States.{utf8_append}
use Rattle.json_tree.specs.Grammar.{in_class}
use Rattle.json_tree.specs.Tree.{Json, num, str, obj, Items, nil, item, got, root, items_at, tree_at}
use Rattle.json_tree.proofs.Deeper.{deeper}
use Rattle.digest.specs.Digest.{digest}
use Rattle.numeral.specs.Decimal.{digits, decimal}
use Rattle.numeral.specs.Whole.{whole_of, whole_answer, is_within}
use Rattle.numeral.specs.declared.Whole.TheVariants.{Value}
use Rattle.numeral.proofs.Wholes.{decimal_value}
use Rattle.rows.specs.Strings.{part, refused_in}
use Rattle.spell.specs.Spell.{refuses, is_hex_of}
use Rattle.spell.specs.Spell as spell
use Rattle.shape.specs.Shape.{id_name, pubkey_name, created_at_name, kind_name, tags_name, content_name, sig_name, event_word}
use Rattle.shape.specs.Rows.{message_row, wrong_tags}
use Rattle.text.specs.Event.{Event, quoted, serialise, all, is_string_bytes, is_time}
use Rattle.text.specs.Read.{read, read_text}
use Rattle.text.proofs.Pieces.{Spelt, all_of, left, right, tail, byte_is, spelt_inside}
use Rattle.text.proofs.Limits.{Limits, limits_of}
use Rattle.text.proofs.Rows.{pubkey_length}
use Rattle.text.proofs.RoundTrip.{read_back}
use Rattle.message.specs.Lent.{value4}
use Rattle.message.specs.Lent as lent
use Rattle.message.specs.Read.{read_of}
use Rattle.message.specs.declared.Span.{Span}
use Rattle.message.specs.declared.EventParts.{EventParts}
use Rattle.message.specs.declared.Message.TheVariants as message
use Rattle.event.specs.Lent.{tags_in}
use Rattle.event.specs.Answer.{hex_of}
use Rattle.event.proofs.Answers.{hex_length_lem}
use Rattle.table.specs.Layout.{is_byte}
use Rattle.table.specs.Events.{SignedEvent, of_held}
use Rattle.table.specs.Offer.{as_message, judge}
use Rattle.table.specs.Demand3.{Spells, SpellsTags, Tells}
use Rattle.table.proofs.Hex.{hex_is, digest_length, digest_bytes_lem}
use Rattle.table.proofs.Refused.{not_refused}
use Rattle.table.proofs.Again.{hex_string, tags_pass}
use Rattle.table.proofs.Strings.{ws_none}
use Rattle.table.proofs.Arrays.{Tight, Stands, next_more, next_done, array_many}
use Rattle.table.proofs.Passes.{pubkey_hex, judged_again}
use Rattle.table.proofs.Rows.{rows_in_order}
use Rattle.wire.specs.Ascii.{ascii}
use Rattle.law.specs.Lists.{any}
use Rattle.reply.specs.Replies.{string_json, tags_json, object_text}
use Rattle.reply.specs.Claims.{is_low}
use Rattle.reply.proofs.Plain.{raw_object}
use Rattle.program.specs.Claims.Program.{event_message, Sendable}
use Rattle.program.proofs.Spelled.{utf8_string, utf8_tags, string_tight, string_read, string_told, tags_tight}
use Rattle.program.proofs.Spelled.{tags_read, tags_spelled}
use Rattle.program.proofs.Members.{decimal_utf8, number_tight, number_read, Member, member}
use Rattle.program.proofs.Members.{item_more, item_last, next_closed, object_read}
use Rattle.program.proofs.Ordered.{verbatim_names, Entry, item_of, string, number, object_of, message_of, Fine}
use Rattle.program.proofs.Ordered.{parts_at, rows_none, parts_are}

-- ---- the bytes of a member w with the value x, the byte c after it, and then r
abbrev spelled : (w x : List ℕ) (c : ℕ) (r : List ℕ) → List ℕ
spelled w x c r = 34 ∷ (w ++ (34 ∷ 58 ∷ (x ++ (c ∷ r))))

-- where its value begins
abbrev after : (w : List ℕ) (at : ℕ) → ℕ
after w at = at + 1 + length w + 1 + 1

-- a string's member that begins at p; a member whose value x is no string
abbrev quoted_at : (w v : List ℕ) (p : ℕ) → Entry
quoted_at w v p = record { at = p; value = after w p; start = after w p + 1; size = after w p + length (string_json v) - after w p - 2 }

abbrev plain_at : (w x : List ℕ) (p : ℕ) → Entry
plain_at w x p = record { at = p; value = after w p; start = after w p; size = after w p + length x - after w p }

-- ---- what stands from each member on
module _ (i : List ℕ) (e : Event) (g : List ℕ) where
  abbrev sig_text : List ℕ
  sig_text = spelled sig_name (string_json g) 125 []

  abbrev content_text : List ℕ
  content_text = spelled content_name (string_json e.content) 44 sig_text

  abbrev tags_member : List ℕ
  tags_member = spelled tags_name (tags_json e.tags) 44 content_text

  abbrev kind_text : List ℕ
  kind_text = spelled kind_name (digits e.kind) 44 tags_member

  abbrev time_text : List ℕ
  time_text = spelled created_at_name (decimal e.time) 44 kind_text

  abbrev pubkey_text : List ℕ
  pubkey_text = spelled pubkey_name (string_json e.pubkey) 44 time_text

  abbrev id_text : List ℕ
  id_text = spelled id_name (string_json i) 44 pubkey_text

  object_is : object_text i e g ≡ 123 ∷ id_text
  unfolding object_text
  object_is = refl

  message_is : event_message i e g ≡ ascii "[\"EVENT\"," ++ ((123 ∷ id_text) ++ (93 ∷ []))
  message_is = ap (λ l. ascii "[\"EVENT\"," ++ (l ++ (93 ∷ []))) object_is

-- ---- bytes none of which is below 20, and then r
none_then : (l r : List ℕ) → any is_low l ≡ false → has_control r ≡ false → has_control (l ++ r) ≡ false
none_then [] r p q = q
none_then (x ∷ l) r p q = rw (no_left (is_low x) (any is_low l) p) (none_then l r (no_right (is_low x) (any is_low l) p) q)

-- ---- s is the message
module _ (i : List ℕ) (e : Event) (g s : List ℕ) (is : s ≡ event_message i e g) (limits : Limits e) (id_length : length i ≡ 64) (id_hex : spell.all is_hex i ≡ true)
    (sig_length_lem : length g ≡ 128) (sig_hex : spell.all is_hex g ≡ true) where
  abbrev close : ℕ
  close = 9 + length (123 ∷ id_text i e g)

  whole : Spelt s 0 (ascii "[\"EVENT\"," ++ ((123 ∷ id_text i e g) ++ (93 ∷ []))) (length s)
  whole = all_of s _ (is ∙ message_is i e g)

  begin : Spelt s 0 (ascii "[\"EVENT\",") 9
  begin = left (ascii "[\"EVENT\",") ((123 ∷ id_text i e g) ++ (93 ∷ [])) whole

  behind : Spelt s 9 ((123 ∷ id_text i e g) ++ (93 ∷ [])) (length s)
  behind = right (ascii "[\"EVENT\",") ((123 ∷ id_text i e g) ++ (93 ∷ [])) whole

  object : Spelt s 9 (123 ∷ id_text i e g) close
  object = left (123 ∷ id_text i e g) (93 ∷ []) behind

  bracket : Spelt s close (93 ∷ []) (length s)
  bracket = right (123 ∷ id_text i e g) (93 ∷ []) behind

  -- ---- the members: where each stands and ends
  abbrev id : Entry
  id = quoted_at id_name i 10

  abbrev id_end : ℕ
  id_end = id.value + length (string_json i)

  abbrev pubkey : Entry
  pubkey = quoted_at pubkey_name e.pubkey (id_end + 1)

  abbrev pubkey_end : ℕ
  pubkey_end = pubkey.value + length (string_json e.pubkey)

  abbrev time : Entry
  time = plain_at created_at_name (decimal e.time) (pubkey_end + 1)

  abbrev time_end : ℕ
  time_end = time.value + length (decimal e.time)

  abbrev kind : Entry
  kind = plain_at kind_name (digits e.kind) (time_end + 1)

  abbrev kind_end : ℕ
  kind_end = kind.value + length (digits e.kind)

  abbrev tags : Entry
  tags = plain_at tags_name (tags_json e.tags) (kind_end + 1)

  abbrev tags_end_lem : ℕ
  tags_end_lem = tags.value + length (tags_json e.tags)

  abbrev content : Entry
  content = quoted_at content_name e.content (tags_end_lem + 1)

  abbrev content_end : ℕ
  content_end = content.value + length (string_json e.content)

  abbrev sig : Entry
  sig = quoted_at sig_name g (content_end + 1)

  abbrev sig_end : ℕ
  sig_end = sig.value + length (string_json g)

  -- each is there, and what stands behind it
  id_read : Member s id_name (string_json i) (pubkey_text i e g) 44 id.at id.value id_end close
  id_read = member s id_name (string_json i) (pubkey_text i e g) 44 id.at close verbatim_names.0.spelled (tail object)

  pubkey_read : Member s pubkey_name (string_json e.pubkey) (time_text i e g) 44 pubkey.at pubkey.value pubkey_end close
  pubkey_read = member s pubkey_name (string_json e.pubkey) (time_text i e g) 44 pubkey.at close verbatim_names.1.spelled id_read.rest

  time_read : Member s created_at_name (decimal e.time) (kind_text i e g) 44 time.at time.value time_end close
  time_read = member s created_at_name (decimal e.time) (kind_text i e g) 44 time.at close verbatim_names.2.spelled pubkey_read.rest

  kind_read : Member s kind_name (digits e.kind) (tags_member i e g) 44 kind.at kind.value kind_end close
  kind_read = member s kind_name (digits e.kind) (tags_member i e g) 44 kind.at close verbatim_names.3.spelled time_read.rest

  tags_here : Member s tags_name (tags_json e.tags) (content_text i e g) 44 tags.at tags.value tags_end_lem close
  tags_here = member s tags_name (tags_json e.tags) (content_text i e g) 44 tags.at close verbatim_names.4.spelled kind_read.rest

  content_read : Member s content_name (string_json e.content) (sig_text i e g) 44 content.at content.value content_end close
  content_read = member s content_name (string_json e.content) (sig_text i e g) 44 content.at close verbatim_names.5.spelled tags_here.rest

  sig_read : Member s sig_name (string_json g) [] 125 sig.at sig.value sig_end close
  sig_read = member s sig_name (string_json g) [] 125 sig.at close verbatim_names.6.spelled content_read.rest

  -- ---- their values
  id_string : is_string_bytes i ≡ true
  id_string = hex_string i id_hex

  pubkey_is : spell.all is_hex e.pubkey ≡ true
  pubkey_is = pubkey_hex e.pubkey limits.pubkey

  pubkey_string : is_string_bytes e.pubkey ≡ true
  pubkey_string = hex_string e.pubkey pubkey_is

  sig_string : is_string_bytes g ≡ true
  sig_string = hex_string g sig_hex

  tags_stand : Stands (tree_at s 6) (λ t. tags_in s (got t tags_end_lem)) lent.is_tags_shape tags.value e.tags tags_end_lem
  unfolding in_class
  tags_stand = tags_read s 3 e.tags tags.value tags_end_lem limits.tags tags_here.value (rw tags_here.next)

  abbrev array : Json
  array = tags_stand.tree

  -- ---- the items, from the last on; all end where the object does
  abbrev end : ℕ
  end = sig_end + 1

  long : 9 ≤ length s
  long = spelt_inside s 0 (ascii "[\"EVENT\",") 9 begin (omega arith)

  ends : close ≡ end
  ends = omega (arith, sig_read.rest.end)

  closed : get_or s end 0 ≡ 93
  closed = rw (← ends) (byte_is bracket)

  -- a member, and a comma and a quote after it
  member_more : {w x r : List ℕ} {at v n : ℕ} (k : ℕ) (t : Json) (us : Items) → k < 9 → Member s w x (34 ∷ r) 44 at v n close → Tight s v → tree_at s 6 v ≡ got t n
      → items_at (tree_at s 6) s true (length s - (k + 1)) (n + 1) ≡ got us end → items_at (tree_at s 6) s true (length s - k) at ≡ got (item at v t us) end
  unfolding in_class
  member_more {at = at} {v = v} {n = n} k t us h m w y i =
      item_more s 6 true k at v n (n + 1) end t us (omega (arith, long)) (m.head w) y (next_more s true n m.next (rw (byte_is m.rest))) i

  string_more : {w r : List ℕ} {at p n : ℕ} (k : ℕ) (v : List ℕ) (us : Items) → k < 9 → Member s w (string_json v) (34 ∷ r) 44 at p n close
      → items_at (tree_at s 6) s true (length s - (k + 1)) (n + 1) ≡ got us end
      → items_at (tree_at s 6) s true (length s - k) at ≡ got (item at p (str (p + 1) (n - p - 2)) us) end
  unfolding in_class
  string_more {p = p} {n = n} k v us h m i =
      member_more k (str (p + 1) (n - p - 2)) us h m (string_tight s v p n m.value) (string_read s 5 v p n m.value (rw m.next)) i

  number_more : {w r : List ℕ} {at p n : ℕ} (k : ℕ) (z : ℤ) (us : Items) → k < 9 → Member s w (decimal z) (34 ∷ r) 44 at p n close
      → items_at (tree_at s 6) s true (length s - (k + 1)) (n + 1) ≡ got us end
      → items_at (tree_at s 6) s true (length s - k) at ≡ got (item at p (num p (n - p)) us) end
  number_more {p = p} {n = n} k z us h m i = member_more k (num p (n - p)) us h m (number_tight s z p n m.value) (number_read s 5 z p n m.value m.next) i

  abbrev from_sig : Items
  from_sig = item_of sig (string sig) nil

  sig_item : items_at (tree_at s 6) s true (length s - 6) sig.at ≡ got from_sig end
  unfolding in_class
  sig_item =
      item_last s 6 true 6 sig.at sig.value sig_end end (string sig) (omega (arith, long))
      (sig_read.head (string_tight s g sig.value sig_end sig_read.value))
      (string_read s 5 g sig.value sig_end sig_read.value (rw sig_read.next))
      (next_closed s sig_end sig_read.next (rw closed))

  abbrev from_content : Items
  from_content = item_of content (string content) from_sig

  content_item : items_at (tree_at s 6) s true (length s - 5) content.at ≡ got from_content end
  content_item = string_more 5 e.content from_sig (omega arith) content_read sig_item

  abbrev from_tags : Items
  from_tags = item_of tags array from_content

  tags_item : items_at (tree_at s 6) s true (length s - 4) tags.at ≡ got from_tags end
  tags_item = member_more 4 array from_content (omega arith) tags_here (tags_tight s e.tags tags.value tags_end_lem tags_here.value) tags_stand.there content_item

  abbrev from_kind : Items
  from_kind = item_of kind (number kind) from_tags

  kind_item : items_at (tree_at s 6) s true (length s - 3) kind.at ≡ got from_kind end
  unfolding decimal
  kind_item = number_more 3 (pos e.kind) from_tags (omega arith) kind_read tags_item

  abbrev from_time : Items
  from_time = item_of time (number time) from_kind

  time_item : items_at (tree_at s 6) s true (length s - 2) time.at ≡ got from_time end
  time_item = number_more 2 e.time from_kind (omega arith) time_read kind_item

  abbrev from_pubkey : Items
  from_pubkey = item_of pubkey (string pubkey) from_time

  pubkey_item : items_at (tree_at s 6) s true (length s - 1) pubkey.at ≡ got from_pubkey end
  pubkey_item = string_more 1 e.pubkey from_time (omega arith) pubkey_read time_item

  abbrev members : Items
  members = object_of id pubkey time kind tags content sig array

  id_item : items_at (tree_at s 6) s true (length s - 0) id.at ≡ got members end
  id_item = string_more 0 i from_pubkey (omega arith) id_read pubkey_item

  -- ---- the tree
  object_tree : tree_at s 7 9 ≡ got (obj members) end
  object_tree = object_read s 6 9 end members (byte_is object) (byte_is (tail object)) id_item

  size : end + 1 ≡ length s
  size = omega (arith, ends, bracket.end)

  object_item : items_at (tree_at s 7) s false (length s - 1) 9 ≡ got (item 9 9 (obj members) nil) (end + 1)
  unfolding in_class
  object_item =
      let z : get_or s (end + 1) 0 ≡ 0 = get_or-eq_default s 0 (omega (arith, size)) in
      item_last s 7 false 1 9 9 end (end + 1) (obj members) (omega (arith, long)) refl object_tree (next_done s end closed (rw z))

  word_comma : Spelt s 1 (string_json event_word ++ (44 ∷ [])) 9
  unfolding string_json quoted escape esc_one letter_of json_of json_one
  word_comma = tail begin

  word_spelt : Spelt s 1 (string_json event_word) 8
  unfolding string_json quoted escape esc_one letter_of json_of json_one
  word_spelt = left (string_json event_word) (44 ∷ []) word_comma

  word_next : get_or s 8 0 ≡ 44
  unfolding string_json quoted escape esc_one letter_of json_of json_one
  word_next = byte_is (right (string_json event_word) (44 ∷ []) word_comma)

  word_item : items_at (tree_at s 7) s false (length s - 0) 1 ≡ got (item 1 1 (str 2 5) (item 9 9 (obj members) nil)) (end + 1)
  unfolding in_class
  word_item =
      item_more s 7 false 0 1 1 8 9 (end + 1) (str 2 5) _ (omega (arith, long)) refl
      (string_read s 6 event_word 1 8 word_spelt (rw word_next)) (next_more s false 8 word_next (rw (byte_is object))) object_item

  tree : tree_at s 8 0 ≡ got (message_of members) (end + 1)
  unfolding in_class
  tree = array_many s 7 0 (end + 1) _ (byte_is begin) (rw (byte_is (tail begin))) (rw (byte_is (tail begin))) (rw sub-zero at word_item)

  -- ---- what the parts say
  id_told : Spells s (record { start = id.start; len = id.size }) i
  id_told = string_told s i id.value id_end id_string id_read.value

  pubkey_told : Spells s (record { start = pubkey.start; len = pubkey.size }) e.pubkey
  pubkey_told = string_told s e.pubkey pubkey.value pubkey_end pubkey_string pubkey_read.value

  tags_told : SpellsTags s tags.value e.tags
  tags_told = tags_spelled s e.tags tags.value tags_end_lem limits.tags tags_here.value tags_here.next

  content_told : Spells s (record { start = content.start; len = content.size }) e.content
  content_told = string_told s e.content content.value content_end limits.content content_read.value

  sig_told : Spells s (record { start = sig.start; len = sig.size }) g
  sig_told = string_told s g sig.value sig_end sig_string sig_read.value

  -- ---- rows 4 to 8
  allowed : {p : Span} {v : List ℕ} → Spells s p v → is_string_bytes v ≡ true → refuses (part s p.start p.len) ≡ false
  allowed t h = not_refused _ t.utf8 t.spelling (rw t.says h)

  hex_of_lem : (k : ℕ) {p : Span} {v : List ℕ} → Spells s p v → length v ≡ k → spell.all is_hex v ≡ true → is_hex_of k (part s p.start p.len) ≡ true
  unfolding is_hex_of
  hex_of_lem k {p} {v} t l h = rw (t.says, eq-eqb (length v) k l, h)

  -- the bytes of a value, and what they say
  taken : (x : List ℕ) (at n : ℕ) → Spelt s at x n → part s at (n - at) ≡ x
  taken x at n a = let z : n - at ≡ length x = omega (arith, a.end) in rw (z, a.is, take-append_seam x)

  time_within : is_within (Value e.time) (neg_ℤ (pos widest)) (pos widest) ≡ true
  unfolding is_time
  time_within = limits.time

  kind_wide : is_within (Value (pos e.kind)) (neg_ℤ (pos widest)) (pos widest) ≡ true
  unfolding is_within
  kind_wide = rw (le-ltb widest e.kind (omega (arith, limits.kind)))

  kind_within : is_within (Value (pos e.kind)) (pos 0) (pos 65535) ≡ true
  unfolding is_within
  kind_within = rw (le-ltb e.kind 0 (omega arith), le-ltb 65535 e.kind limits.kind)

  time_is : whole_answer (whole_of (part s time.start time.size)) ≡ Value e.time
  time_is = rw (taken (decimal e.time) time.value time_end time_read.value) (decimal_value e.time time_within)

  kind_is : whole_answer (whole_of (part s kind.start kind.size)) ≡ Value (pos e.kind)
  unfolding decimal
  kind_is = rw (taken (digits e.kind) kind.value kind_end kind_read.value) (decimal_value (pos e.kind) kind_wide)

  -- the tags by themselves may be as deep as a message
  tags_tree : tree_at s 8 tags.value ≡ got array tags_end_lem
  tags_tree = deeper s 2 6 tags.value array tags_end_lem tags_stand.there

  tags_pass_here : (refused_in s array ≡ false) × (wrong_tags array ≡ false)
  unfolding value4
  tags_pass_here =
      let (p, q) = tags_pass s tags.value tags_told.utf8 tags_told.array (rw tags_told.says limits.tags) in
      (rw tags_tree at p, rw tags_tree at q)

  word_is : part s 2 5 ≡ event_word
  word_is = taken event_word 2 7 (left event_word (34 ∷ 44 ∷ []) (tail (tail begin)))

  fine : Fine s id pubkey time kind tags content sig array e.time e.kind
  fine = record {
    word = word_is;
    id_name_lem = id_read.name;
    pubkey_name_lem = pubkey_read.name;
    time_name = time_read.name;
    kind_name_lem = kind_read.name;
    tags_name_lem = tags_here.name;
    content_name_lem = content_read.name;
    sig_name_lem = sig_read.name;
    id_clean = allowed id_told id_string;
    pubkey_clean = allowed pubkey_told pubkey_string;
    tags_clean = tags_pass_here.0;
    content_clean = allowed content_told limits.content;
    sig_clean = allowed sig_told sig_string;
    id_hex = hex_of_lem 64 id_told id_length id_hex;
    pubkey_hex = hex_of_lem 64 pubkey_told (pubkey_length e.pubkey limits.pubkey) pubkey_is;
    sig_hex = hex_of_lem 128 sig_told sig_length_lem sig_hex;
    time_is = time_is;
    time_within = time_within;
    kind_is = kind_is;
    kind_within = kind_within;
    tags_array = tags_stand.fine;
    tags_few = tags_pass_here.1;
  }

  -- ---- rows 1 to 3
  -- fixed bytes w, a piece x, and what follows
  pieces : (w x q : List ℕ) → utf8_from Lead w ≡ true → utf8_from Lead x ≡ true → utf8_from Lead q ≡ true → utf8_from Lead (w ++ (x ++ q)) ≡ true
  pieces w x q a b c = utf8_append w (x ++ q) Lead a (utf8_append x q Lead b c)

  object_utf8 : utf8_from Lead (object_text i e g) ≡ true
  unfolding object_text is_utf8 utf8_from lead_of decimal
  object_utf8 =
      pieces (ascii "{\"id\":") (string_json i) _ refl (utf8_string i id_string)
      (pieces (ascii ",\"pubkey\":") (string_json e.pubkey) _ refl (utf8_string e.pubkey pubkey_string)
      (pieces (ascii ",\"created_at\":") (decimal e.time) _ refl (decimal_utf8 e.time)
      (pieces (ascii ",\"kind\":") (digits e.kind) _ refl (decimal_utf8 (pos e.kind))
      (pieces (ascii ",\"tags\":") (tags_json e.tags) _ refl (utf8_tags e.tags limits.tags)
      (pieces (ascii ",\"content\":") (string_json e.content) _ refl (utf8_string e.content limits.content)
      (pieces (ascii ",\"sig\":") (string_json g) (ascii "}") refl (utf8_string g sig_string) refl))))))

  utf8 : is_utf8 s ≡ true
  unfolding is_utf8 utf8_from lead_of
  utf8 = rw is (pieces (ascii "[\"EVENT\",") (object_text i e g) (ascii "]") refl object_utf8 refl)

  -- no byte is below 20
  none_raw : has_control s ≡ false
  none_raw = rw is (none_then (object_text i e g) (ascii "]") (raw_object i e g) refl)

  root_is : root s ≡ got (message_of members) (end + 1)
  unfolding in_class
  root_is = rw (ws_none s 0 (rw (byte_is begin))) tree

  -- ---- it is read, and judged to be the event
  abbrev parts : EventParts
  parts = parts_at id pubkey tags content sig e.time e.kind

  row_0 : length s ≤ most_message → message_row s ≡ 0
  unfolding message_row
  row_0 h =
      rw (le-ltb most_message (length s) h, utf8, none_raw, root_is, eq-eqb (end + 1) (length s) size)
      (rows_none s id pubkey time kind tags content sig array e.time e.kind fine)

  reads : length s ≤ most_message → read_of s ≡ Ok (message.Event parts)
  unfolding read_of
  reads h = rw (row_0 h, root_is) (parts_are s id pubkey time kind tags content sig array e.time e.kind fine)

  module _ (h : SignedEvent) (said : read_text h.0.text ≡ read e) (with-id : i ≡ hex_of h.0.id) (with-sig : g ≡ hex_of h.1) where
    told : Tells s parts h
    told = record {
      event = e;
      text = said;
      id = rw (← with-id) id_told;
      pubkey = pubkey_told;
      time = refl;
      kind = refl;
      tags = tags_told;
      content = content_told;
      sig = rw (← with-sig) sig_told;
    }

    judged : h.0.id ≡ digest h.0.text → length h.1 ≡ 64 → all is_byte h.1 ≡ true → length s ≤ most_message → judge (as_message s) ≡ Some h
    judged hashed n k l = (rows_in_order.2 s parts (reads l)).same_event ∙ judged_again s parts h hashed n k told

pub sendable : Sendable
sendable e sig f l n k m =
    let t = serialise e in
    let d = digest t in
    let a : length (hex_of d) ≡ 64 = omega (arith, hex_length_lem d, digest_length t) in
    let b : length (hex_of sig) ≡ 128 = omega (arith, hex_length_lem sig, n) in
    judged (hex_of d) e (hex_of sig) (event_message (hex_of d) e (hex_of sig)) refl (limits_of e f) a (hex_is d (digest_bytes_lem t)) b (hex_is sig k)
    (of_held (record { id = d; sig = sig; event = e })) (read_back e f l) refl refl refl n k m
