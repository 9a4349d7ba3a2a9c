-- Which reply a message gets.
use Rattle.std.specs.Prelude.{None, Some, Result, Ok, Err}
use mathlib.Core.Path.{◌≡◌, refl, sym, ap, subst, ◌∙◌}
use mathlib.Core.Bool.{Bool, true, false, cond, not, ◌&&◌, ◌||◌, false≢true}
use mathlib.Core.Logic.{◌⊎◌, inl, inr, ◌≢◌}
use mathlib.Core.List.{List, [], ◌∷◌, ◌++◌, map, append-nil}
use Prim.Native.Nat.{ℕ, zero, suc, ◌≤◌, ◌<◌}
use native.Mathlib.Omega.{arith}
use borrow.Author.Tests.{eqb-false, ne_eqb, le-leb, lt-leb, lt-ltb, not-false}
use lib.ListN.{length}
use Rattle.wire.specs.Limits.{most_message}
use Rattle.json_tree.specs.Tree.{Json, Items, nil, item, Got, none, got, root}
use Rattle.spell.specs.Spell.{is_hex_of}
use Rattle.rows.specs.Strings.{part}
use Rattle.rows.specs.Rows.{row1, row2, row3, text_row}
use Rattle.rows.specs.Rows as text
use Rattle.shape.specs.Shape.{Word, event, req, close, other, opened, has_shape}
use Rattle.shape.specs.Rows.{row4, row5, row6, row7, row8, tree_row, root_row, message_row, wrong_request}
use Rattle.shape.specs.Rows.{wrong_subscription}
use Rattle.shape.specs.declared.Refusal.{Refusal}
use Rattle.shape.specs.Offsets.{plain_refusal, refusal_of}
use Rattle.shape.proofs.Offsets.{refusal_own, offset_plain}
use Rattle.message.specs.declared.EventParts.{EventParts}
use Rattle.message.specs.declared.ReqParts.{ReqParts}
use Rattle.message.specs.declared.Message.{Message}
use Rattle.message.specs.declared.Message.TheVariants as message
use Rattle.message.specs.declared.Named.TheVariants as names
use Rattle.message.specs.Parts.{span_of, event_parts_of, members_of}
use Rattle.message.specs.Read.{first_item, message_parts, read_of, read_number, id_named, named_in, named_root, is_early}
use Rattle.message.specs.Read.{named_of}
use Rattle.message.specs.Lent.{span_bytes, is_spelled, string5, string7, event5, event7, body6, event_row, event2, event4}
use Rattle.message.proofs.Reading.{Shaped, shaped, late_shaped, row_read}
use Rattle.message.proofs.Passes.{event_passes}
use Rattle.event.specs.Lent.{said}
use Rattle.event.specs.Answer.{is_large, has_id, offered_row}
use Rattle.law.specs.Lists.{any}
use Rattle.law.specs.Table as law
use Rattle.law.specs.Table.{verdict, first_verdict, is_ephemeral, has_key_newer, lacks_slot}
use Rattle.table.specs.Layout.{capacity_of}
use Rattle.law.specs.Demand3.{run_on}
use Rattle.table.specs.Events.{Signature, SignedEvent, table_events, signed_events, of_held, view}
use Rattle.table.specs.Demand3.{relay}
use Rattle.table.specs.Sound.{sound}
use Rattle.table.specs.Offer as offers
use Rattle.table.specs.Offer.{as_message, is_event, is_event_word, message_offer_row, is_valid, judge, offered_by, verdict_on}
use Rattle.table.specs.Offer.{answer, is_stored, next}
use Rattle.table.specs.declared.Offered.{Offered}
use Rattle.table.specs.declared.Offered.TheVariants as offered
use Rattle.table.proofs.Valid.{or_else_lem}
use Rattle.reply.specs.Replies.{Reply, ok, closed, notice, reason_of, offset_text, refusal_reason}
use Rattle.program.specs.Program.{is_accepted, verdict_reason, reason_for}
use Rattle.program.specs.Program.{refusal_naming, refusal, offer_reply, request_replies, replies_to, table_in}
use Rattle.program.specs.Program.{table_after}
use Rattle.program.specs.Claims.Program.{opened_in, word_in, rest_items, id_field, subscription_field, Covered}
use Rattle.program.specs.Claims.Program.{EarlyRow, LateWord, LateEvent, LateRequest, LateClose, NamesId}
use Rattle.program.specs.Claims.Program.{NamesSubscription, LastRows, ReadEvent, ReadClose, BadTable, OnlyStored}
use Rattle.program.specs.Claims.Program.{Overlong, AllOffered}

-- ---- refused when read
read_refused : (m : List ℕ) → 1 ≤ message_row m → read_of m ≡ Err (refusal_of m)
unfolding read_of
read_refused m h = rw (ne_eqb (message_row m) 0 (λ e. omega arith))

-- one reply, and the table stays
one_reply : (b m : List ℕ) (r : Reply) → 1 ≤ message_row m → refusal m (message_row m) ≡ r → (replies_to b m ≡ r ∷ []) × (table_after b m ≡ b)
unfolding replies_to table_after
one_reply b m r h e = (rw (read_refused m h, e), rw (read_refused m h))

-- rows other than 6 and 7 give their text alone
pub plain_reason : (m : List ℕ) (r : ℕ) → (r ≡ 6 → ⊥) → (r ≡ 7 → ⊥) → reason_for m r ≡ reason_of r
plain_reason m r a b = ap (λ x. reason_of r ++ offset_text x) (offset_plain m r a b) ∙ append-nil (reason_of r)

pub early_row : EarlyRow
unfolding refusal
early_row b m h k =
    one_reply b m (notice (reason_of (message_row m))) h
    (rw (le-leb (message_row m) 5 k) (ap notice (plain_reason m (message_row m) (λ e. omega arith) (λ e. omega arith))))

-- of a row that is known
pub early_at : (b m : List ℕ) (r : ℕ) → message_row m ≡ r → 1 ≤ r → r ≤ 5 → (replies_to b m ≡ notice (reason_of r) ∷ []) × (table_after b m ≡ b)
early_at b m r e h k =
    let (p, q) = early_row b m (omega arith) (omega arith) in
    (p ∙ ap (λ x. notice (reason_of x) ∷ []) e, q)

-- what is named stands after the first word
named_root_lem : (m : List ℕ) (g : Got Json) → named_root m g ≡ named_in m (opened_in m g).first (opened_in m g).rest
named_root_lem m none = refl
named_root_lem m (got t n) = refl

not_early : (r : ℕ) → 6 ≤ r → is_early r ≡ false
not_early r h = rw (le-leb 1 r (omega arith), lt-leb r 5 (omega arith))

late_refusal : (m : List ℕ) (r : ℕ) → is_early (message_row m) ≡ false → 6 ≤ r → refusal m r ≡ refusal_naming m (named_in m (word_in m) (rest_items m)) (reason_for m r)
unfolding refusal named_of
late_refusal m r e h = rw (lt-leb r 5 (omega arith), e, named_root_lem m (root m))

-- a message's own reason
abbrev own : List ℕ → List ℕ
own m = refusal_reason (refusal_of m)

module _ (b m : List ℕ) (h : 6 ≤ message_row m) where
  late : (w : Word) → word_in m ≡ w → (r : Reply) → refusal_naming m (named_in m w (rest_items m)) (own m) ≡ r → (replies_to b m ≡ r ∷ []) × (table_after b m ≡ b)
  late w e r q =
      one_reply b m r (omega arith)
      (late_refusal m (message_row m) (not_early (message_row m) h) h
      ∙ ap (λ x. refusal_naming m (named_in m (word_in m) (rest_items m)) (refusal_reason x)) (refusal_own m)
      ∙ ap (λ v. refusal_naming m (named_in m v (rest_items m)) (own m)) e
      ∙ q)

pub late_event : LateEvent
late_event b m h e = late b m h event e _ (go (is_hex_of 64 (part m (id_field m).start (id_field m).len)))
  where
    go : (x : Bool) → refusal_naming m (cond x (names.Id (id_field m)) names.Nothing) (own m) ≡ cond x (ok (said m (id_field m)) false (own m)) (notice (own m))
    go true = refl
    go false = refl

pub late_request : LateRequest
late_request b m h e = late b m h req e _ (go (wrong_subscription m (first_item (rest_items m))))
  where
    go : (x : Bool) → refusal_naming m (cond x names.Nothing (names.Subscription (subscription_field m))) (own m) ≡ cond x (notice (own m)) (closed (said m (subscription_field m)) (own m))
    go true = refl
    go false = refl

pub late_close : LateClose
late_close b m h e = late b m h close e _ refl

pub late_word : LateWord
late_word m h e = go (late_shaped m (not_early (message_row m) h)) e
  where
    go : Shaped m → word_in m ≡ other → ⊥
    go (shaped {t = t} r s) e = false≢true (rw (let z : (opened m t).first ≡ other = ap (λ g. (opened_in m g).first) (sym r) ∙ e in z) at s)

pub overlong : Overlong
unfolding message_row reason_of
overlong b m h = early_at b m 1 (rw (lt-ltb most_message (length m) h)) (omega arith) (omega arith)

-- ---- read
row_of : (m : List ℕ) (x : Result Message Refusal) → read_of m ≡ x → message_row m ≡ read_number x
row_of m x e = sym (row_read m) ∙ ap read_number e

off : (b : Bool) (k x : ℕ) → 0 < k → cond b k x ≡ 0 → (b ≡ false) × (x ≡ 0)
off true k x h e = absurd (omega arith)
off false k x h e = (refl, e)

-- a message that no row refuses
record Clean (m : List ℕ) (t : Json) (n : ℕ) : Type 0 where
  tree : root m ≡ got t n
  text : text_row m ≡ 0
  shape : has_shape m (opened m t).first (opened m t).rest ≡ true
  a8 : row8 m t ≡ false

clean_of : (m : List ℕ) → message_row m ≡ 0 → (t : Json) × (n : ℕ) × Clean m t n
unfolding message_row tree_row text_row text.row4
clean_of m e =
    let (z₁, e₁) = off (row1 m) 1 _ (omega arith) e in
    let (z₂, e₂) = off (row2 m) 2 _ (omega arith) e₁ in
    let (z₃, e₃) = off (row3 m) 3 _ (omega arith) e₂ in
    on (root m) refl z₁ z₂ z₃ e₃
  where
    on : (g : Got Json) → root m ≡ g → row1 m ≡ false → row2 m ≡ false → row3 m ≡ false → root_row m g ≡ 0 → (t : Json) × (n : ℕ) × Clean m t n
    on none r z₁ z₂ z₃ q = absurd (omega arith)
    on (got t n) r z₁ z₂ z₃ q =
        let (z₄, q₄) = off (row4 m t) 4 _ (omega arith) q in
        let (z₅, q₅) = off (row5 m t) 5 _ (omega arith) q₄ in
        let (z₆, q₆) = off (row6 m t) 6 _ (omega arith) q₅ in
        let (z₇, q₇) = off (row7 m t) 7 _ (omega arith) q₆ in
        let (z₈, q₈) = off (row8 m t) 8 _ (omega arith) q₇ in
        (t, n, record { tree = r; text = rw (z₁, z₂, z₃, r, z₄); shape = not-false _ z₅; a8 = z₈ })

-- what is read of it, over its tree
read_tree : (m : List ℕ) (t : Json) (n : ℕ) → message_row m ≡ 0 → root m ≡ got t n → read_of m ≡ message_parts m (opened m t).first (opened m t).rest
unfolding read_of
read_tree m t n z r = rw (z, r)

named_tree : (m : List ℕ) (t : Json) (n : ℕ) → message_row m ≡ 0 → root m ≡ got t n → named_of m ≡ named_in m (opened m t).first (opened m t).rest
unfolding named_of
named_tree m t n z r = rw (z, r)

pub covered : Covered
unfolding message_row tree_row
covered m = go (message_row m) refl (below m)
  where
    most : (b : Bool) (k x : ℕ) → k ≤ 8 → x ≤ 8 → cond b k x ≤ 8
    most true k x p q = p
    most false k x p q = q

    tree : (m : List ℕ) (g : Got Json) → root_row m g ≤ 8
    tree m none = omega arith
    tree m (got t n) = most (row4 m t) 4 _ (omega arith) (most (row5 m t) 5 _ (omega arith) (most (row6 m t) 6 _ (omega arith) (most (row7 m t) 7 _ (omega arith) (most (row8 m t) 8 0 (omega arith) (omega arith)))))

    below : (m : List ℕ) → message_row m ≤ 8
    below m = most (row1 m) 1 _ (omega arith) (most (row2 m) 2 _ (omega arith) (most (row3 m) 3 _ (omega arith) (tree m (root m))))

    word : (w : Word) (ts : Items) (r : Refusal) → has_shape m w ts ≡ true → message_parts m w ts ≢ Err r
    word event ts r h e = let z : ◌≡◌ {A = ℕ} 0 1 = cc in omega arith
    word req ts r h e = let z : ◌≡◌ {A = ℕ} 0 1 = cc in omega arith
    word close ts r h e = let z : ◌≡◌ {A = ℕ} 0 1 = cc in omega arith
    word other ts r h e = false≢true h

    go : (k : ℕ) → message_row m ≡ k → message_row m ≤ 8 → ((1 ≤ message_row m) × (message_row m ≤ 8)) ⊎ ((r : Refusal) → read_of m ≢ Err r)
    go zero z l = let (t, n, c) = clean_of m z in inr (λ r e. word (opened m t).first (opened m t).rest r c.shape (sym (read_tree m t n z c.tree) ∙ e))
    go (suc k) z l = inl (omega arith, l)

-- ---- EVENT
-- an id that the rows let pass is 64 lower-case hex
spelled_hex : (a h : Bool) → not a ≡ false → (a && not h) ≡ false → h ≡ true
spelled_hex true h p q = not-false h q
spelled_hex false h p q = absurd (false≢true (sym p))

or_left : (a b : Bool) → (a || b) ≡ false → a ≡ false
or_left true b e = absurd (false≢true (sym e))
or_left false b e = refl

id_hex : (m : List ℕ) (p : EventParts) → event_row m p ≡ 0 → is_hex_of 64 (span_bytes m p.id) ≡ true
unfolding event_row event5 event7 string5 string7
id_hex m p e =
    let (z₂, e₂) = off (event2 m p) 2 _ (omega arith) e in
    let (z₄, e₄) = off (event4 m p) 4 _ (omega arith) e₂ in
    let (z₅, e₅) = off (event5 m p) 5 _ (omega arith) e₄ in
    let (z₆, e₆) = off (body6 p.body) 6 _ (omega arith) e₅ in
    let (z₇, e₇) = off (event7 m p) 7 _ (omega arith) e₆ in
    spelled_hex (is_spelled m p.id) (is_hex_of 64 (span_bytes m p.id)) (or_left _ _ z₅) (or_left _ _ z₇)

-- the word, by what was read
data Opens (m : List ℕ) (p : EventParts) : Word → Items → Type 0 where
  opens : {ts : Items} → event_parts_of m (members_of (first_item ts)) ≡ p → Opens m p event ts

opens_of : (m : List ℕ) (p : EventParts) (w : Word) (ts : Items) → message_parts m w ts ≡ Ok (message.Event p) → Opens m p w ts
opens_of m p event ts e = opens {ts = ts} cc
opens_of m p req ts e = absurd (let z : ◌≡◌ {A = ℕ} 0 1 = cc in omega arith)
opens_of m p close ts e = absurd (let z : ◌≡◌ {A = ℕ} 0 1 = cc in omega arith)
opens_of m p other ts e = absurd (let z : ◌≡◌ {A = ℕ} 0 1 = cc in omega arith)

module _ (m : List ℕ) (p : EventParts) (e : read_of m ≡ Ok (message.Event p)) where
  row_0 : message_row m ≡ 0
  row_0 = row_of m (Ok (message.Event p)) e

  event_tree : (t : Json) × (n : ℕ) × Clean m t n × Opens m p (opened m t).first (opened m t).rest
  event_tree =
      let (t, n, c) = clean_of m row_0 in
      (t, n, c, opens_of m p (opened m t).first (opened m t).rest (sym (read_tree m t n row_0 c.tree) ∙ e))

  word_named : (w : Word) (ts : Items) → Opens m p w ts → named_in m w ts ≡ names.Id p.id
  unfolding event_parts_of
  word_named w ts (opens q) =
      let i = ap (λ x. x.id) q in
      ap (id_named m) i ∙ rw (id_hex m p (event_passes m p e))

  event_word_lem : (w : Word) (ts : Items) → Opens m p w ts → is_event_word w ≡ true
  event_word_lem w ts (opens q) = refl

  -- rows 9 and 10
  offer_row_lem : offers.offering_row (as_message m) ≡ cond (is_large m p.body) 9 (cond (has_id m p) 0 10)
  unfolding message_offer_row is_event offers.parts_of offered_row
  offer_row_lem =
      let (t, n, c, o) = event_tree in
      rw (c.text, c.tree, event_word_lem (opened m t).first (opened m t).rest o, row_0, e, event_passes m p e)

pub names_id : NamesId
names_id m p e =
    let (t, n, c, o) = event_tree m p e in
    named_tree m t n (row_0 m p e) c.tree ∙ word_named m p e (opened m t).first (opened m t).rest o

-- ---- what an offer of it is answered
large_rows : (a h : Bool) (r : ℕ) → r ≡ cond a 9 (cond h 0 10) → (r ≡ 0 → ⊥) → (9 ≤ r) × (r ≤ 12)
large_rows true h r e z = (omega arith, omega arith)
large_rows false true r e z = absurd (z e)
large_rows false false r e z = (omega arith, omega arith)

-- rows 9 to 12, and no offset
abbrev pub Last : Refusal → Type 0
Last r = (9 ≤ r.row) × (r.row ≤ 12) × (r.offset ≡ None)

last_is : {x r : Refusal} → ◌≡◌ {A = Result Offered Refusal} (Err x) (Err r) → Last x → Last r
last_is {x} {r} e h = let z : x ≡ r = cc in subst Last z h

first_rows : (r x : Refusal) (a i n l : Bool) → offered_by x (first_verdict a i n l) ≡ Err r → Last r
first_rows r x true i n l e = absurd (false≢true (sym (ap is_accepted e)))
first_rows r x false true n l e = absurd (false≢true (sym (ap is_accepted e)))
first_rows r x false false true l e = absurd (false≢true (sym (ap is_accepted e)))
first_rows r x false false false true e = last_is e (omega arith, omega arith, refl)
first_rows r x false false false false e = absurd (false≢true (sym (ap is_accepted e)))

pub verdict_rows : (r x : Refusal) (N : ℕ) (t : List SignedEvent) (e : SignedEvent) → offered_by x (verdict signed_events N t (Some e)) ≡ Err r → Last r
unfolding verdict
verdict_rows r x N t e q =
    first_rows r x (is_ephemeral (signed_events.class_of e)) (any (law.has_id signed_events e) t) (any (has_key_newer signed_events e) t) (lacks_slot signed_events N t e) q

pub last_rows : LastRows
unfolding answer verdict_on judge verdict
last_rows b m p r e a = go (is_valid (as_message m)) refl (sound b) a
  where
    go : (v : Bool) → is_valid (as_message m) ≡ v → (s : Bool) → cond (v && not s) (Err (plain_refusal 11)) (offered_by (offers.offering_refusal (as_message m)) (verdict_on b (as_message m))) ≡ Err r → Last r
    go true v false q = last_is q (omega arith, omega arith, refl)
    go true v true q = verdict_rows r (offers.offering_refusal (as_message m)) (capacity_of b) (view b) (of_held (offers.offered_of (as_message m))) (rw v at q)
    go false v s q =
        let k = offers.offering_row (as_message m) in
        let (l, h) = large_rows (is_large m p.body) (has_id m p) k (offer_row_lem m p e) (eqb-false k 0 v) in
        last_is (rw v at q) (l, h, offset_plain m k (λ z. omega arith) (λ z. omega arith))

pub read_event : ReadEvent
unfolding replies_to table_after refusal
read_event b m p e = (rw e (ap (◌∷ []) (go (answer b (as_message m)) refl)), rw e)
  where
    late : (r : Refusal) → answer b (as_message m) ≡ Err r → refusal m r.row ≡ ok (said m p.id) false (refusal_reason r)
    late r a =
        let (l, h, n) = last_rows b m p r e a in
        let z = offset_plain m r.row (λ q. omega arith) (λ q. omega arith) ∙ sym n in
        rw (lt-leb r.row 5 (omega arith), names_id m p e) (ap (λ x. ok (said m p.id) false (reason_of r.row ++ offset_text x)) z)

    go : (a : Result Offered Refusal) → answer b (as_message m) ≡ a → offer_reply m (said m p.id) a ≡ ok (said m p.id) (is_accepted a) (verdict_reason a)
    go (Ok offered.Ephemeral) a = refl
    go (Ok offered.Duplicate) a = refl
    go (Ok offered.Older) a = refl
    go (Ok offered.Stored) a = refl
    go (Err r) a = late r a

-- ---- CLOSE and REQ
pub read_close : ReadClose
unfolding replies_to table_after
read_close b m p e = (rw e, rw e)

subscription_named_lem : (m : List ℕ) (r : ReqParts) (w : Word) (ts : Items) → message_parts m w ts ≡ Ok (message.Req r) → has_shape m w ts ≡ true → wrong_request m w ts ≡ false
    → named_in m w ts ≡ names.Subscription r.subscription
subscription_named_lem m r event ts e h x = absurd (let z : ◌≡◌ {A = ℕ} 0 1 = cc in omega arith)
subscription_named_lem m r req nil e h x = absurd (false≢true h)
subscription_named_lem m r req (item p v t ts) e h x = let z : span_of t ≡ r.subscription = cc in rw (or_left (wrong_subscription m t) _ x, z)
subscription_named_lem m r close ts e h x = absurd (let z : ◌≡◌ {A = ℕ} 0 1 = cc in omega arith)
subscription_named_lem m r other ts e h x = absurd (false≢true h)

pub names_subscription : NamesSubscription
unfolding row8
names_subscription m r e =
    let z = row_of m (Ok (message.Req r)) e in
    let (t, n, c) = clean_of m z in
    named_tree m t n z c.tree
    ∙ subscription_named_lem m r (opened m t).first (opened m t).rest (sym (read_tree m t n z c.tree) ∙ e) c.shape (or_left _ _ c.a8)

pub bad_table : BadTable
unfolding replies_to table_after request_replies refusal
bad_table b m r e s = (
  rw (e, s, names_subscription m r e) (ap (λ x. closed (said m r.subscription) x ∷ []) (plain_reason m 11 (λ q. omega arith) (λ q. omega arith))),
  rw e,
)

-- ---- the table
pub only_stored : OnlyStored
unfolding table_after next
only_stored b m = go (read_of m) refl
  where
    stored : (p : EventParts) → read_of m ≡ Ok (message.Event p) → (a : Result Offered Refusal) → answer b (as_message m) ≡ a
        → (cond (is_stored a) (offers.stored_in b (offers.offered_of (as_message m))) b ≡ b) ⊎ ((p : EventParts) × (read_of m ≡ Ok (message.Event p)) × (answer b (as_message m) ≡ Ok offered.Stored))
    stored p e (Ok offered.Ephemeral) a = inl refl
    stored p e (Ok offered.Duplicate) a = inl refl
    stored p e (Ok offered.Older) a = inl refl
    stored p e (Ok offered.Stored) a = inr (p, e, a)
    stored p e (Err r) a = inl refl

    go : (x : Result Message Refusal) → read_of m ≡ x → (table_in b m x ≡ b) ⊎ ((p : EventParts) × (read_of m ≡ Ok (message.Event p)) × (answer b (as_message m) ≡ Ok offered.Stored))
    go (Ok (message.Event p)) e = stored p e (answer b (as_message m)) refl
    go (Ok (message.Req r)) e = inl refl
    go (Ok (message.Close p)) e = inl refl
    go (Err r) e = inl refl

-- ---- every line is offered: an offer of what is no EVENT that was read is refused, and changes nothing
valid_read : (m : List ℕ) → offers.offering_row (as_message m) ≡ 0 → (p : EventParts) × (read_of m ≡ Ok (message.Event p))
unfolding message_offer_row is_event
valid_read m e =
    let (x, e₁) = or_else_lem (text_row m) _ e in
    let (v, e₂) = is_event_lem (is_event m) _ e₁ in
    let (z, e₃) = or_else_lem (message_row m) _ e₂ in
    let (t, n, c) = clean_of m z in
    let (p, q) = word (opened m t).first (opened m t).rest (rw c.tree at v) in
    (p, read_tree m t n z c.tree ∙ q)
  where
    is_event_lem : (b : Bool) (r : ℕ) → cond b r 5 ≡ 0 → (b ≡ true) × (r ≡ 0)
    is_event_lem true r e = (refl, e)
    is_event_lem false r e = absurd (omega arith)

    word : (w : Word) (ts : Items) → is_event_word w ≡ true → (p : EventParts) × (message_parts m w ts ≡ Ok (message.Event p))
    word event ts h = (_, refl)
    word req ts h = absurd (false≢true h)
    word close ts h = absurd (false≢true h)
    word other ts h = absurd (false≢true h)

no_offer : (b m : List ℕ) → ((p : EventParts) → read_of m ≢ Ok (message.Event p)) → b ≡ next b (as_message m)
unfolding next answer verdict_on judge verdict
no_offer b m n =
    let v : is_valid (as_message m) ≡ false = ne_eqb (offers.offering_row (as_message m)) 0 (λ e. let (p, q) = valid_read m e in n p q) in
    rw v

one_offered : (b m : List ℕ) → table_after b m ≡ next b (as_message m)
unfolding table_after
one_offered b m = go (read_of m) refl
  where
    go : (x : Result Message Refusal) → read_of m ≡ x → table_in b m x ≡ next b (as_message m)
    go (Ok (message.Event p)) e = refl
    go (Ok (message.Req r)) e = no_offer b m (λ p q. let z : ◌≡◌ {A = ℕ} 0 1 = cc in omega arith)
    go (Ok (message.Close r)) e = no_offer b m (λ p q. let z : ◌≡◌ {A = ℕ} 0 1 = cc in omega arith)
    go (Err r) e = no_offer b m (λ p q. let z : ◌≡◌ {A = ℕ} 0 1 = cc in omega arith)

pub all_offered : AllOffered
unfolding run_on
all_offered b [] = refl
all_offered b (m ∷ ms) = all_offered (table_after b m) ms ∙ ap (λ c. run_on table_events Signature relay c (map as_message ms)) (one_offered b m)
