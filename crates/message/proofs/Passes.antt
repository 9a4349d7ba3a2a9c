-- What was read from an accepted message passes the test of lent parts: a message that no row refuses breaks none in
-- any of its parts.
use Rattle.std.specs.Prelude.{Result, Ok, Err}
use mathlib.Core.Path.{◌≡◌, refl, sym, ap, ◌∙◌}
use mathlib.Core.List.Memᴰ
use mathlib.Core.List.{List, Memᴰ}
use mathlib.Core.Bool.{Bool, true, false, cond, ◌||◌, false≢true}
use mathlib.Core.Logic.{⊎_elim}
use Prim.Native.Nat.{ℕ, suc, ◌≤◌, ◌<◌}
use native.Mathlib.Omega.{arith}
use borrow.Author.Tests.{eqb-true, ltb-false, not-false}
use lib.Dec.{eqb, ltb}
use lib.ListN.{length}
use Rattle.utf8.specs.Utf8.{is_utf8}
use Rattle.json_tree.specs.Tree.{Json, word, num, str, arr, obj, Items, nil, item, Got, none, got, tree_at, root, on_object}
use Rattle.wire.specs.Bytes.{same_bytes}
use Rattle.spell.specs.Spell.{decode, refuses}
use Rattle.json_tree.specs.Grammar.{ws_at}
use Rattle.rows.specs.Strings.{part, refused_in, refused_items}
use Rattle.rows.specs.Rows.{row1, row2, row3}
use Rattle.shape.specs.Shape.{any_item, all_items, count_items, count, name_at, id_name, pubkey_name, created_at_name, kind_name}
use Rattle.shape.specs.Shape.{tags_name, content_name, sig_name, ids_name, authors_name, kinds_name, since_name, until_name}
use Rattle.shape.specs.Shape.{limit_name, is_string, is_number, is_array_of, event_member, once, is_event, filter_member}
use Rattle.shape.specs.Shape.{is_filter, Word, event, req, close, other, word_of, opened, has_shape}
use Rattle.shape.specs.Rows.{row4, row5, row6, row7, row8, tree_row, root_row, message_row, in_message, wrong_time}
use Rattle.shape.specs.Rows.{wrong_small, wrong_hex, event_number, event_hex, event_count, wrong_list, filter_number}
use Rattle.shape.specs.Rows.{filter_hex, wrong_filter, filter_counts, wrong_request, wrong_subscription, outside, wrong_tags}
use Rattle.shape.specs.Offsets.{refusal_of}
use Rattle.shape.specs.declared.Refusal.{Refusal}
use Rattle.message.specs.declared.EventParts.{EventParts}
use Rattle.message.specs.declared.ReqParts.{ReqParts}
use Rattle.message.specs.declared.Message.{Message}
use Rattle.message.specs.declared.Message.TheVariants as message
use Rattle.message.specs.Parts.{Member, missing, member, member_of, span_in, number_in, bound_in, place_in, listed_in}
use Rattle.message.specs.Parts.{body_of, event_parts_of, filter_parts_of, members_of, members_got, members_at, filter_at}
use Rattle.message.specs.Lists.{open_within, elements_from, places_of}
use Rattle.message.specs.Read.{message_parts, in_root, read_of}
use Rattle.message.specs.Lent.{string7, time6, small6, on_value, value_at, value2, value4, value5, is_tags_shape}
use Rattle.message.specs.Lent.{body2, body4, body5, body6, body7, body8, event2, event4, event5, event7, event_row}
use Rattle.message.specs.Lent.{in_list, in_bound, wrong_hexes, wrong_smalls, filter2, filter4, filter5, filter6, filter7}
use Rattle.message.specs.Lent.{filter8, filter_row}
use Rattle.message.specs.Claims.{EventPasses, request_filters, FiltersPass, FiltersCounted}
use Rattle.message.proofs.Walks.{Walk, more, deeper}
use Rattle.message.proofs.Elements.{Group, filled, group_of, walk_places, walk_first}
use Rattle.message.proofs.Found.{Reads, walk_reads, members_read}
use Rattle.message.proofs.Reading.{Begun, begun, begun_of}
use Rattle.message.proofs.Facts.{and_true, or_not, In, here, later, all_in, any_in, refused_in_lem, reads_in, Holds}
use Rattle.message.proofs.Facts.{absent, present, member_holds, once_there}
use Rattle.message.proofs.Clean.{StringClean, string_clean, hex_clean, time_clean, small_clean, object}
use Rattle.message.proofs.Clean.{array_grouped, value_false, ValueClean, value_clean}

-- ---- an event's members
module _ (s : List ℕ) (u : is_utf8 s ≡ true) (ts : Items) (reads : Reads (tree_at s open_within) ts) (a4 : refused_items s true ts ≡ false)
    (all : all_items (event_member s) ts ≡ true) (a6 : any_item (event_number s) ts ≡ false) (a7 : any_item (event_hex s) ts ≡ false) (a8 : any_item (event_count s) ts ≡ false) where
  -- the member of a name that is there once
  data Field (w : List ℕ) : Member → Type 0 where
    field : {p v n : ℕ} {t : Json} → In p v t ts → name_at s p ≡ w → tree_at s open_within v ≡ got t n → Field w (member v t)

  field_of : (w : List ℕ) → once s w ts ≡ true → Field w (member_of s w ts)
  field_of w o = go (member_of s w ts) refl (member_holds s w ts)
    where
      go : (m : Member) → member_of s w ts ≡ m → Holds s w ts m → Field w m
      go missing e h = absurd (once_there s w ts o e)
      go (member v t) e (present i q) = field i q (reads_in reads i).1

  module _ (w : List ℕ) (o : once s w ts ≡ true) where
    string_field : ((p : ℕ) (t : Json) → name_at s p ≡ w → event_member s p t ≡ true → is_string t ≡ true) → StringClean s (span_in (member_of s w ts))
    string_field k = go (field_of w o)
      where
        go : {m : Member} → Field w m → StringClean s (span_in m)
        go (field {p = p} {v = v} {t = t} i q e) = string_clean s u v t _ e (k p t q (all_in (event_member s) all i)) (refused_in_lem s true a4 i)

    hex_field : (n : ℕ) → ((p : ℕ) (t : Json) → name_at s p ≡ w → event_member s p t ≡ true → is_string t ≡ true)
        → ((p : ℕ) (t : Json) → name_at s p ≡ w → event_hex s p t ≡ false → wrong_hex n s t ≡ false) → string7 n s (span_in (member_of s w ts)) ≡ false
    hex_field n k j = go (field_of w o)
      where
        go : {m : Member} → Field w m → string7 n s (span_in m) ≡ false
        go (field {p = p} {t = t} i q e) = hex_clean n s t (k p t q (all_in (event_member s) all i)) (j p t q (any_in (event_hex s) a7 i))

    time_field : ((p : ℕ) (t : Json) → name_at s p ≡ w → event_member s p t ≡ true → is_number t ≡ true)
        → ((p : ℕ) (t : Json) → name_at s p ≡ w → event_number s p t ≡ false → wrong_time s t ≡ false) → time6 (number_in s (member_of s w ts)) ≡ false
    time_field k j = go (field_of w o)
      where
        go : {m : Member} → Field w m → time6 (number_in s m) ≡ false
        go (field {p = p} {t = t} i q e) = time_clean s t (k p t q (all_in (event_member s) all i)) (j p t q (any_in (event_number s) a6 i))

    small_field : ((p : ℕ) (t : Json) → name_at s p ≡ w → event_member s p t ≡ true → is_number t ≡ true)
        → ((p : ℕ) (t : Json) → name_at s p ≡ w → event_number s p t ≡ false → wrong_small s t ≡ false) → small6 (number_in s (member_of s w ts)) ≡ false
    small_field k j = go (field_of w o)
      where
        go : {m : Member} → Field w m → small6 (number_in s m) ≡ false
        go (field {p = p} {t = t} i q e) = small_clean s t (k p t q (all_in (event_member s) all i)) (j p t q (any_in (event_number s) a6 i))

  tags_field : once s tags_name ts ≡ true → ValueClean is_tags_shape s (place_in (member_of s tags_name ts)) × (on_value wrong_tags (value_at s (place_in (member_of s tags_name ts))) ≡ false)
  unfolding event_member event_count same_bytes
  tags_field o = go (field_of tags_name o)
    where
      go : {m : Member} → Field tags_name m → ValueClean is_tags_shape s (place_in m) × (on_value wrong_tags (value_at s (place_in m)) ≡ false)
      go (field {p = p} {v = v} {t = t} i q e) =
          let h : is_tags_shape t ≡ true = rw q at (all_in (event_member s) all i) in
          let c : wrong_tags t ≡ false = rw q at (any_in (event_count s) a8 i) in
          (value_clean is_tags_shape s u v e (array_grouped (is_array_of is_string) t h) h (refused_in_lem s true a4 i), value_false s v wrong_tags e c)

  -- id, pubkey, created_at, kind, tags, content, sig
  event_clean : once s id_name ts ≡ true → once s pubkey_name ts ≡ true → once s created_at_name ts ≡ true → once s kind_name ts ≡ true → once s tags_name ts ≡ true
      → once s content_name ts ≡ true → once s sig_name ts ≡ true → event_row s (event_parts_of s ts) ≡ 0
  unfolding event_member event_number event_hex same_bytes event_row event2 event4 event5 event7 body2 body4 body5 body6 body7 body8 event_parts_of body_of
  event_clean o₁ o₂ o₃ o₄ o₅ o₆ o₇ =
      let i = string_field id_name o₁ (λ p t q e. rw q at e) in
      let k = string_field pubkey_name o₂ (λ p t q e. rw q at e) in
      let c = string_field content_name o₆ (λ p t q e. rw q at e) in
      let g = string_field sig_name o₇ (λ p t q e. rw q at e) in
      let (t, n) = tags_field o₅ in
      simp (
        i.c2,
        i.c4,
        i.c5,
        k.c2,
        k.c4,
        k.c5,
        c.c2,
        c.c4,
        c.c5,
        g.c2,
        g.c4,
        g.c5,
        t.v2,
        t.v4,
        t.v5,
        n,
        hex_field id_name o₁ 64 (λ p t q e. rw q at e) (λ p t q e. rw q at e),
        hex_field pubkey_name o₂ 64 (λ p t q e. rw q at e) (λ p t q e. rw q at e),
        hex_field sig_name o₇ 128 (λ p t q e. rw q at e) (λ p t q e. rw q at e),
        time_field created_at_name o₃ (λ p t q e. rw q at e) (λ p t q e. rw q at e),
        small_field kind_name o₄ (λ p t q e. rw q at e) (λ p t q e. rw q at e),
      )

-- ---- a filter's members, of which its object stands at x
module _ (s : List ℕ) (u : is_utf8 s ≡ true) (ts : Items) (reads : Reads (tree_at s open_within) ts) (a4 : refused_items s true ts ≡ false)
    (all : all_items (filter_member s) ts ≡ true) (a6 : any_item (filter_number s) ts ≡ false) (a7 : any_item (filter_hex s) ts ≡ false) (a8 : any_item (wrong_filter s) ts ≡ false) where
  -- a list that is absent or clean
  record ListClean (f g₆ g₇ g₈ : Json → Bool) (w : List ℕ) : Type 0 where
    l2 : in_list (value2 s) (listed_in (member_of s w ts)) ≡ false
    l4 : in_list (value4 s) (listed_in (member_of s w ts)) ≡ false
    l5 : in_list (value5 f s) (listed_in (member_of s w ts)) ≡ false
    l6 : in_list (λ v. on_value g₆ (value_at s v)) (listed_in (member_of s w ts)) ≡ false
    l7 : in_list (λ v. on_value g₇ (value_at s v)) (listed_in (member_of s w ts)) ≡ false
    l8 : in_list (λ v. on_value g₈ (value_at s v)) (listed_in (member_of s w ts)) ≡ false

  list_field : (f g₆ g₇ g₈ : Json → Bool) (w : List ℕ)
      → ((p : ℕ) (t : Json) → name_at s p ≡ w → filter_member s p t ≡ true → is_array_of f t ≡ true) → ((p : ℕ) (t : Json) → name_at s p ≡ w → filter_number s p t ≡ false → g₆ t ≡ false)
      → ((p : ℕ) (t : Json) → name_at s p ≡ w → filter_hex s p t ≡ false → g₇ t ≡ false) → ((p : ℕ) (t : Json) → name_at s p ≡ w → wrong_filter s p t ≡ false → g₈ t ≡ false)
      → ListClean (is_array_of f) g₆ g₇ g₈ w
  list_field f g₆ g₇ g₈ w k₅ k₆ k₇ k₈ = record {
    l2 = go₂ (member_holds s w ts);
    l4 = go₄ (member_holds s w ts);
    l5 = go₅ (member_holds s w ts);
    l6 = some g₆ (λ p t v i q. k₆ p t q (any_in (filter_number s) a6 i)) (member_holds s w ts);
    l7 = some g₇ (λ p t v i q. k₇ p t q (any_in (filter_hex s) a7 i)) (member_holds s w ts);
    l8 = some g₈ (λ p t v i q. k₈ p t q (any_in (wrong_filter s) a8 i)) (member_holds s w ts);
  }
    where
      there : {p v : ℕ} {t : Json} → In p v t ts → name_at s p ≡ w → ValueClean (is_array_of f) s v
      there {p} {v} {t} i q =
          let h = k₅ p t q (all_in (filter_member s) all i) in
          value_clean (is_array_of f) s u v (reads_in reads i).1 (array_grouped f t h) h (refused_in_lem s true a4 i)

      go₂ : {m : Member} → Holds s w ts m → in_list (value2 s) (listed_in m) ≡ false
      go₂ absent = refl
      go₂ (present i q) = (there i q).v2

      go₄ : {m : Member} → Holds s w ts m → in_list (value4 s) (listed_in m) ≡ false
      go₄ absent = refl
      go₄ (present i q) = (there i q).v4

      go₅ : {m : Member} → Holds s w ts m → in_list (value5 (is_array_of f) s) (listed_in m) ≡ false
      go₅ absent = refl
      go₅ (present i q) = (there i q).v5

      some : {m : Member} (g : Json → Bool) → ((p : ℕ) (t : Json) (v : ℕ) → In p v t ts → name_at s p ≡ w → g t ≡ false) → Holds s w ts m → in_list (λ v. on_value g (value_at s v)) (listed_in m) ≡ false
      some g k absent = refl
      some g k (present {p = p} {v = v} {t = t} i q) = value_false s v g (reads_in reads i).1 (k p t v i q)

  time_bound : (w : List ℕ) → ((p : ℕ) (t : Json) → name_at s p ≡ w → filter_member s p t ≡ true → is_number t ≡ true)
      → ((p : ℕ) (t : Json) → name_at s p ≡ w → filter_number s p t ≡ false → wrong_time s t ≡ false) → in_bound time6 (bound_in s (member_of s w ts)) ≡ false
  time_bound w k j = go (member_holds s w ts)
    where
      go : {m : Member} → Holds s w ts m → in_bound time6 (bound_in s m) ≡ false
      go absent = refl
      go (present {p = p} {t = t} i q) = time_clean s t (k p t q (all_in (filter_member s) all i)) (j p t q (any_in (filter_number s) a6 i))

  limit_bound : in_bound small6 (bound_in s (member_of s limit_name ts)) ≡ false
  unfolding filter_member filter_number same_bytes
  limit_bound = go (member_holds s limit_name ts)
    where
      go : {m : Member} → Holds s limit_name ts m → in_bound small6 (bound_in s m) ≡ false
      go absent = refl
      go (present {p = p} {t = t} i q) = small_clean s t (rw q at (all_in (filter_member s) all i)) (rw q at (any_in (filter_number s) a6 i))

  filter_clean : (x n : ℕ) → tree_at s open_within x ≡ got (obj ts) n → is_filter s (obj ts) ≡ true → filter_counts s ts ≡ false → filter_row s (filter_parts_of s x ts) ≡ 0
  unfolding filter_member filter_number filter_hex wrong_filter same_bytes filter_row filter2 filter4 filter5 filter6 filter7 filter8 filter_parts_of refused_in
  filter_clean x n e h c =
      let i = list_field is_string (λ t. false) (wrong_hexes s) wrong_list ids_name (λ p t q e. rw q at e) (λ p t q e. refl) (λ p t q e. rw q at e) (λ p t q e. rw q at e) in
      let a = list_field is_string (λ t. false) (wrong_hexes s) wrong_list authors_name (λ p t q e. rw q at e) (λ p t q e. refl) (λ p t q e. rw q at e) (λ p t q e. rw q at e) in
      let k = list_field is_number (wrong_smalls s) (λ t. false) wrong_list kinds_name (λ p t q e. rw q at e) (λ p t q e. rw q at e) (λ p t q e. refl) (λ p t q e. rw q at e) in
      let o = value_clean (is_filter s) s u x e object h a4 in
      let b₆ = value_false s x (on_object (any_item (filter_number s))) e a6 in
      let b₇ = value_false s x (on_object (any_item (filter_hex s))) e a7 in
      let b₈ = value_false s x (on_object (filter_counts s)) e c in
      let since = time_bound since_name (λ p t q e. rw q at e) (λ p t q e. rw q at e) in
      let until = time_bound until_name (λ p t q e. rw q at e) (λ p t q e. rw q at e) in
      simp (i.l2, i.l4, i.l5, i.l7, i.l8, a.l2, a.l4, a.l5, a.l7, a.l8, k.l2, k.l4, k.l5, k.l6, k.l8, o.v2, o.v4, o.v5, since, until, limit_bound, b₆, b₇, b₈)

-- ---- a message that no row refuses
zero : (b : Bool) (k x : ℕ) → 0 < k → cond b k x ≡ 0 → (b ≡ false) × (x ≡ 0)
zero true k x h e = absurd (omega arith)
zero false k x h e = (refl, e)

record Accepted (s : List ℕ) (t : Json) (n : ℕ) : Type 0 where
  tree : root s ≡ got t n
  bytes : is_utf8 s ≡ true
  a4 : row4 s t ≡ false
  a5 : has_shape s (opened s t).first (opened s t).rest ≡ true
  a6 : row6 s t ≡ false
  a7 : row7 s t ≡ false
  a8 : row8 s t ≡ false

accepted_of : (s : List ℕ) → message_row s ≡ 0 → (t : Json) × (n : ℕ) × Accepted s t n
unfolding message_row tree_row
accepted_of s e =
    let (z₁, e₁) = zero (row1 s) 1 _ (omega arith) e in
    let (z₂, e₂) = zero (row2 s) 2 _ (omega arith) e₁ in
    let (z₃, e₃) = zero (row3 s) 3 _ (omega arith) e₂ in
    on (root s) refl (not-false _ z₂) e₃
  where
    on : (g : Got Json) → root s ≡ g → is_utf8 s ≡ true → root_row s g ≡ 0 → (t : Json) × (n : ℕ) × Accepted s t n
    on none r u q = absurd (omega arith)
    on (got t n) r u q =
        let (z₄, q₄) = zero (row4 s t) 4 _ (omega arith) q in
        let (z₅, q₅) = zero (row5 s t) 5 _ (omega arith) q₄ in
        let (z₆, q₆) = zero (row6 s t) 6 _ (omega arith) q₅ in
        let (z₇, q₇) = zero (row7 s t) 7 _ (omega arith) q₆ in
        let (z₈, q₈) = zero (row8 s t) 8 _ (omega arith) q₇ in
        (t, n, record { tree = r; bytes = u; a4 = z₄; a5 = not-false _ z₅; a6 = z₆; a7 = z₇; a8 = z₈ })

-- what is read of it
module _ (s : List ℕ) {m : Result Message Refusal} (read : (x : Refusal) → Err x ≡ m → ⊥) where
  read_accepted : read_of s ≡ m → (message_row s ≡ 0) × (in_root s (root s) ≡ m)
  unfolding read_of
  read_accepted e = go (eqb (message_row s) 0) refl e
    where
      go : (b : Bool) → eqb (message_row s) 0 ≡ b → cond b (in_root s (root s)) (Err (refusal_of s)) ≡ m → (message_row s ≡ 0) × (in_root s (root s) ≡ m)
      go true q e = (eqb-true (message_row s) 0 q, e)
      go false q e = absurd (read (refusal_of s) e)

rest_walk : {value : ℕ → Got Json} {s : List ℕ} {f i p v q w n : ℕ} {t u : Json} {us : Items} → Walk value s false f i (item p v t (item q w u us)) n
    → (g : ℕ) × (j : ℕ) × (g ≤ f) × Walk value s false g j (item q w u us) n
rest_walk (more {f = f} h y z r) = (f, _, omega arith, r)

tail_walk : {s : List ℕ} {at p v q w n : ℕ} {t u : Json} {us : Items} → Group s at false (item p v t (item q w u us)) n
    → (f : ℕ) × (j : ℕ) × (f ≤ length s) × Walk (tree_at s open_within) s false f j (item q w u us) n
tail_walk (filled x w) = rest_walk w

-- the members of an object that was read are those at its place
members_of_lem : (s : List ℕ) (w n : ℕ) (ts : Items) → tree_at s open_within w ≡ got (obj ts) n → members_at s w ≡ ts
unfolding members_at
members_of_lem s w n ts e = ap members_got (deeper s open_within w (obj ts) n e)

members_reads : (s : List ℕ) (w n : ℕ) (ts : Items) → tree_at s open_within w ≡ got (obj ts) n → Reads (tree_at s open_within) ts
members_reads s w n ts e = rw (members_of_lem s w n ts e) at (members_read s w)

-- ---- EVENT
module _ (s : List ℕ) (u : is_utf8 s ≡ true) (p : EventParts) where
  event_tree : (w n : ℕ) (t : Json) → tree_at s open_within w ≡ got t n → is_event s t ≡ true → refused_in s t ≡ false → on_object (any_item (event_number s)) t ≡ false
      → on_object (any_item (event_hex s)) t ≡ false → on_object (any_item (event_count s)) t ≡ false → event_parts_of s (members_of t) ≡ p → event_row s p ≡ 0
  unfolding is_event refused_in
  event_tree w n (word a m) e h a4 a6 a7 a8 q = absurd (false≢true h)
  event_tree w n (num a m) e h a4 a6 a7 a8 q = absurd (false≢true h)
  event_tree w n (str a m) e h a4 a6 a7 a8 q = absurd (false≢true h)
  event_tree w n (arr ts) e h a4 a6 a7 a8 q = absurd (false≢true h)
  event_tree w n (obj ts) e h a4 a6 a7 a8 q =
      let (all, h₁) = and_true (all_items (event_member s) ts) _ h in
      let (o₁, h₂) = and_true (once s id_name ts) _ h₁ in
      let (o₂, h₃) = and_true (once s pubkey_name ts) _ h₂ in
      let (o₃, h₄) = and_true (once s created_at_name ts) _ h₃ in
      let (o₄, h₅) = and_true (once s kind_name ts) _ h₄ in
      let (o₅, h₆) = and_true (once s tags_name ts) _ h₅ in
      let (o₆, o₇) = and_true (once s content_name ts) _ h₆ in
      rw q at (event_clean s u ts (members_reads s w n ts e) a4 all a6 a7 a8 o₁ o₂ o₃ o₄ o₅ o₆ o₇)

  event_word_lem : (x : Word) (rest : Items) → Reads (tree_at s open_within) rest → refused_items s false rest ≡ false → message_parts s x rest ≡ Ok (message.Event p) → has_shape s x rest ≡ true
      → in_message (on_object (any_item (event_number s))) (on_object (any_item (filter_number s))) x rest ≡ false
      → in_message (on_object (any_item (event_hex s))) (on_object (any_item (filter_hex s))) x rest ≡ false
      → in_message (on_object (any_item (event_count s))) (on_object (filter_counts s)) x rest ≡ false → event_row s p ≡ 0
  event_word_lem event nil r a4 q h a6 a7 a8 = absurd (false≢true h)
  event_word_lem event (item i w t nil) r a4 q h a6 a7 a8 =
      let (n, e) = reads_in r here in
      let z : event_parts_of s (members_of t) ≡ p = cc in
      event_tree w n t e h (refused_in_lem s false a4 here) (any_in (λ j v. on_object (any_item (event_number s)) v) a6 here) (any_in (λ j v. on_object (any_item (event_hex s)) v) a7 here)
      (any_in (λ j v. on_object (any_item (event_count s)) v) a8 here) z
  event_word_lem event (item i w t (item j v y ys)) r a4 q h a6 a7 a8 = absurd (false≢true h)
  event_word_lem req rest r a4 q h a6 a7 a8 = absurd (let z : ◌≡◌ {A = ℕ} 0 1 = cc in omega arith)
  event_word_lem close rest r a4 q h a6 a7 a8 = absurd (let z : ◌≡◌ {A = ℕ} 0 1 = cc in omega arith)
  event_word_lem other rest r a4 q h a6 a7 a8 = absurd (false≢true h)

pub event_passes : EventPasses
unfolding row6 row7 row8 refused_in
event_passes s p e =
    let (z, r) = read_accepted s (λ k q. (let y : ◌≡◌ {A = ℕ} 0 1 = cc in omega arith)) e in
    let (t, n, a) = accepted_of s z in
    on a (begun_of s t a.a5) (rw a.tree at r)
  where
    on : {t : Json} {n : ℕ} → Accepted s t n → Begun t → in_root s (got t n) ≡ Ok (message.Event p) → event_row s p ≡ 0
    on {n = n} a (begun {p = i} {v = v} {a = b} {n = k} {q = j} {w = w} {u = t} {us = us}) q =
        let rest = item j w t us in
        let x = word_of (decode (part s b k)) in
        let (f, o, l, y) = tail_walk (group_of s (ws_at s 0) false (item i v (str b k) rest) n a.tree) in
        event_word_lem s a.bytes p x rest (walk_reads y) (or_not (refuses (part s b k)) (refused_items s false rest) a.a4).1 q a.a5 a.a6 a.a7
        (or_not (wrong_request s x rest) _ a.a8).1

-- ---- REQ
filter_tree : (s : List ℕ) → is_utf8 s ≡ true → (w n : ℕ) (t : Json) → tree_at s open_within w ≡ got t n → is_filter s t ≡ true → refused_in s t ≡ false
    → on_object (any_item (filter_number s)) t ≡ false → on_object (any_item (filter_hex s)) t ≡ false → on_object (filter_counts s) t ≡ false → filter_row s (filter_at s w) ≡ 0
unfolding is_filter refused_in filter_counts filter_at
filter_tree s u w n (word a m) e h a4 a6 a7 a8 = absurd (false≢true h)
filter_tree s u w n (num a m) e h a4 a6 a7 a8 = absurd (false≢true h)
filter_tree s u w n (str a m) e h a4 a6 a7 a8 = absurd (false≢true h)
filter_tree s u w n (arr ts) e h a4 a6 a7 a8 = absurd (false≢true h)
filter_tree s u w n (obj ts) e h a4 a6 a7 a8 =
    rw (members_of_lem s w n ts e)
    (filter_clean s u ts (members_reads s w n ts e) a4 (and_true (all_items (filter_member s) ts) _ h).0 a6 a7 (or_not (any_item (wrong_filter s) ts) _ a8).0 w n e h a8)

place_in_lem : {v : ℕ} (ts : Items) → Memᴰ v (places_of ts) → (p : ℕ) × (t : Json) × In p v t ts
place_in_lem nil m = absurd (Memᴰ.not-nil m)
place_in_lem {v} (item p w t ts) m = ⊎_elim (λ e. (p, t, rw e here)) (λ k. let (q, u, i) = place_in_lem ts k in (q, u, later i)) (Memᴰ.cases_cons m)

length_places : (ts : Items) → length (places_of ts) ≡ count ts
unfolding count_items
length_places nil = refl
length_places (item p v t ts) = ap suc (length_places ts)

-- a REQ's filters are its elements from the third on
pub data Request (s : List ℕ) (r : ReqParts) : Type 0 where
  request : (us : Items) → request_filters s r ≡ places_of us → is_utf8 s ≡ true → Reads (tree_at s open_within) us → refused_items s false us ≡ false → all_items (λ q t. is_filter s t) us ≡ true
      → any_item (λ q t. on_object (any_item (filter_number s)) t) us ≡ false → any_item (λ q t. on_object (any_item (filter_hex s)) t) us ≡ false
      → any_item (λ q t. on_object (filter_counts s) t) us ≡ false → outside 1 4 (count us) ≡ false → Request s r

module _ (s : List ℕ) (u : is_utf8 s ≡ true) (r : ReqParts) where
  request_word : (x : Word) (rest : Items) {f i n : ℕ} → f ≤ length s → Walk (tree_at s open_within) s false f i rest n → refused_items s false rest ≡ false → message_parts s x rest ≡ Ok (message.Req r)
      → has_shape s x rest ≡ true → in_message (on_object (any_item (event_number s))) (on_object (any_item (filter_number s))) x rest ≡ false
      → in_message (on_object (any_item (event_hex s))) (on_object (any_item (filter_hex s))) x rest ≡ false
      → (wrong_request s x rest || in_message (on_object (any_item (event_count s))) (on_object (filter_counts s)) x rest) ≡ false → Request s r
  unfolding elements_from count_items refused_in
  request_word req (item j w t nil) l y a4 q h a6 a7 a8 = absurd (false≢true (sym (or_not (wrong_subscription s t) true (or_not (wrong_subscription s t || true) _ a8).0).1))
  request_word req (item j w t (item k v t' us)) l y a4 q h a6 a7 a8 =
      let (g, o, m, y') = rest_walk y in
      let (b, c) = or_not _ _ a8 in
      let z : r.filters ≡ v = cc in
      let x = walk_places (length s) (omega arith) y' in
      let d = walk_first y' in
      request (item k v t' us) (rw z (rw d at x)) u (walk_reads y') (or_not (refused_in s t) _ a4).1 (and_true (is_string t) _ h).1 a6 a7 c (or_not (wrong_subscription s t) _ b).1
  request_word req nil l y a4 q h a6 a7 a8 = absurd (false≢true h)
  request_word event rest l y a4 q h a6 a7 a8 = absurd (let z : ◌≡◌ {A = ℕ} 0 1 = cc in omega arith)
  request_word close rest l y a4 q h a6 a7 a8 = absurd (let z : ◌≡◌ {A = ℕ} 0 1 = cc in omega arith)
  request_word other rest l y a4 q h a6 a7 a8 = absurd (false≢true h)

request_of : (s : List ℕ) (r : ReqParts) → read_of s ≡ Ok (message.Req r) → Request s r
unfolding row6 row7 row8 refused_in
request_of s r e =
    let (z, q) = read_accepted s (λ k q. (let y : ◌≡◌ {A = ℕ} 0 1 = cc in omega arith)) e in
    let (t, n, a) = accepted_of s z in
    on a (begun_of s t a.a5) (rw a.tree at q)
  where
    on : {t : Json} {n : ℕ} → Accepted s t n → Begun t → in_root s (got t n) ≡ Ok (message.Req r) → Request s r
    on {n = n} a (begun {p = i} {v = v} {a = b} {n = k} {q = j} {w = w} {u = t} {us = us}) q =
        let rest = item j w t us in
        let (f, o, l, y) = tail_walk (group_of s (ws_at s 0) false (item i v (str b k) rest) n a.tree) in
        request_word s a.bytes r (word_of (decode (part s b k))) rest l y (or_not (refuses (part s b k)) (refused_items s false rest) a.a4).1 q a.a5 a.a6 a.a7 a.a8

pub filters_pass : FiltersPass
filters_pass s r e v m = go (request_of s r e)
  where
    go : Request s r → filter_row s (filter_at s v) ≡ 0
    go (request us q u d a4 h a6 a7 a8 c) =
        let (p, t, i) = place_in_lem us (rw q at m) in
        let (n, x) = reads_in d i in
        filter_tree s u v n t x (all_in (λ q t. is_filter s t) h i) (refused_in_lem s false a4 i) (any_in (λ q t. on_object (any_item (filter_number s)) t) a6 i)
        (any_in (λ q t. on_object (any_item (filter_hex s)) t) a7 i) (any_in (λ q t. on_object (filter_counts s) t) a8 i)

pub filters_counted : FiltersCounted
filters_counted s r e = go (request_of s r e)
  where
    go : Request s r → (1 ≤ length (request_filters s r)) × (length (request_filters s r) ≤ 4)
    go (request us q u d a4 h a6 a7 a8 c) =
        let (x, y) = or_not (ltb (count us) 1) (ltb 4 (count us)) c in
        let n = ap length q ∙ length_places us in
        let l = ltb-false (count us) 1 x in
        let m = ltb-false 4 (count us) y in
        (omega (arith, n, l), omega (arith, n, m))
