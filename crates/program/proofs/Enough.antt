-- No answer is longer than an EVENT for each slot and one short reply: `Enough` of specs/Claims/Respond.
use Rattle.std.specs.Prelude.{Result, Ok, Err}
use mathlib.Core.Path.{◌≡◌, refl, sym, ap, ◌∙◌}
use mathlib.Core.Bool.{Bool, true, false, cond, not, ◌||◌, false≢true}
use mathlib.Core.List.Memᴰ
use mathlib.Core.List.{List, [], ◌∷◌, append-nil}
use Prim.Native.Nat.{ℕ, ◌+◌, ◌-◌, ◌*◌, ◌≤◌, ◌<◌}
use native.Mathlib.Omega.{arith}
use borrow.Author.Tests.{le-ltb, ltb-false}
use lib.Dec.{leb, ltb}
use lib.ListN.{length, length-append}
use lib.Seq.{take_all}
use Rattle.wire.specs.Limits.{hex_length}
use Rattle.wire.specs.Escape.{letter_of, esc_one, escape, json_one, json_of}
use Rattle.utf8.specs.Utf8.{is_utf8}
use Rattle.json_tree.specs.Grammar.{ws_at, is_spelling}
use Rattle.json_tree.proofs.Spelled.{string_parts, string_spelled}
use Rattle.json_tree.specs.Tree.{Json, word, num, str, arr, obj, Items, item, got, tree_at, root}
use Rattle.spell.specs.Spell.{decode, refuses, character_count, is_hex_of}
use Rattle.rows.specs.Strings.{part, refused_in}
use Rattle.rows.specs.Rows.{row1, row2, row3}
use Rattle.shape.specs.Shape.{Word, event, req, close, other, word_of, has_shape, opened, is_string, id_name}
use Rattle.shape.specs.Rows.{row5, row6, row7, row8, tree_row, root_row, message_row, wrong_subscription}
use Rattle.text.specs.Event.{quoted}
use Rattle.text.proofs.Pieces.{both}
use Rattle.message.specs.declared.Span.{Span}
use Rattle.message.specs.declared.ReqParts.{ReqParts}
use Rattle.shape.specs.declared.Refusal.{Refusal}
use Rattle.message.specs.declared.Message.{Message}
use Rattle.message.specs.declared.Message.TheVariants as message
use Rattle.message.specs.declared.Named.{Named}
use Rattle.message.specs.declared.Named.TheVariants as names
use Rattle.message.specs.Lists.{open_within}
use Rattle.message.specs.Parts.{member_of, members_of, span_in, span_of}
use Rattle.message.specs.Read.{read_of, id_named, named_in, named_root, is_early, named_of}
use Rattle.message.proofs.Elements.{group_of, Listing, one, array_listing}
use Rattle.message.proofs.Reading.{Shaped, shaped, late_shaped, begun, Begun, begun_of, string_tree}
use Rattle.event.specs.Lent.{said}
use Rattle.event.proofs.Fit.{inner}
use Rattle.law.specs.Lists.{◌∈◌}
use Rattle.table.specs.Layout.{capacity_of, count_of}
use Rattle.table.specs.Sound.{sound}
use Rattle.table.specs.Offer.{as_message, answer}
use Rattle.table.specs.declared.Offered.{Offered}
use Rattle.table.specs.declared.Offered.TheVariants as offered
use Rattle.table.proofs.Bytes.{clauses}
use Rattle.query.specs.Answer.{answer_list, filters_meant}
use Rattle.wire.proofs.Cases.{no_left, no_right}
use Rattle.query.proofs.Tables.{answer_means}
use Rattle.reply.specs.Replies.{Reply, ok, eose, closed, notice, truth, string_json, reply_text}
use Rattle.reply.proofs.Reasons.{reason_short}
use Rattle.program.specs.Program.{verdict_reason, reason_for}
use Rattle.program.specs.Program.{refusal_naming, refusal, offer_reply, request_replies, replies_to, reply_line}
use Rattle.program.specs.Program.{written}
use Rattle.program.specs.Respond.{response, respond_row, slot_line, joined, slot_lines}
use Rattle.program.specs.Claims.Respond.{enough_for, Enough}
use Rattle.program.proofs.Which.{names_id, names_subscription}
use Rattle.program.proofs.Shown.{answers_held}
use Rattle.program.proofs.Streamed.{one_by_one}
use Rattle.program.proofs.Sizes.{string_length, line_length, held_json, spelled_short, hex_short}

-- ---- what a message that rows 1 to 5 let pass is: UTF-8, and no string of it is refused
late_utf8 : (s : List ℕ) → is_early (message_row s) ≡ false → is_utf8 s ≡ true
unfolding message_row
late_utf8 s e = go (row1 s) (is_utf8 s) e
  where
    go : (x y : Bool) → is_early (cond x 1 (cond (not y) 2 (cond (row3 s) 3 (root_row s (root s))))) ≡ false → y ≡ true
    go true y q = absurd (false≢true (sym q))
    go false false q = absurd (false≢true (sym q))
    go false true q = refl

late_allowed : (s : List ℕ) (t : Json) (n : ℕ) → root s ≡ got t n → is_early (message_row s) ≡ false → refused_in s t ≡ false
unfolding message_row tree_row
late_allowed s t n r e = go (row1 s) (row2 s) (row3 s) (ap (λ g. is_early (cond (row1 s) 1 (cond (row2 s) 2 (cond (row3 s) 3 (root_row s g))))) (sym r) ∙ e)
  where
    string : (x : Bool) → is_early (cond x 4 (cond (row5 s t) 5 (cond (row6 s t) 6 (cond (row7 s t) 7 (cond (row8 s t) 8 0))))) ≡ false → x ≡ false
    string true q = absurd (false≢true (sym q))
    string false q = refl

    go : (x y z : Bool) → is_early (cond x 1 (cond y 2 (cond z 3 (root_row s (got t n))))) ≡ false → refused_in s t ≡ false
    go true y z q = absurd (false≢true (sym q))
    go false true z q = absurd (false≢true (sym q))
    go false false true q = absurd (false≢true (sym q))
    go false false false q = string (refused_in s t) q

-- ---- what a refusal names is short
abbrev NamedShort : List ℕ → Named → Type 0
NamedShort m (names.Id p) = length (string_json (said m p)) ≡ 66
NamedShort m (names.Subscription p) = length (string_json (said m p)) ≤ 386
NamedShort m names.Nothing = Unit {0}

id_short : (m : List ℕ) (p : Span) → NamedShort m (id_named m p)
id_short m p = go (is_hex_of hex_length (part m p.start p.len)) refl
  where
    go : (x : Bool) → is_hex_of hex_length (part m p.start p.len) ≡ x → NamedShort m (cond x (names.Id p) names.Nothing)
    go true e = hex_short (part m p.start p.len) e
    go false e = tt

subscription_short : (m : List ℕ) (w k : ℕ) (u : Json) → is_utf8 m ≡ true → tree_at m open_within w ≡ got u k → is_string u ≡ true → refused_in m u ≡ false
    → NamedShort m (cond (wrong_subscription m u) names.Nothing (names.Subscription (span_of u)))
unfolding wrong_subscription refused_in
subscription_short m w k (word a n) f e h r = absurd (false≢true h)
subscription_short m w k (num a n) f e h r = absurd (false≢true h)
subscription_short m w k (arr ts) f e h r = absurd (false≢true h)
subscription_short m w k (obj ts) f e h r = absurd (false≢true h)
subscription_short m w k (str a n) f e h r = go (ltb (character_count (part m a n)) 1) (ltb 64 (character_count (part m a n))) refl
  where
    go : (x y : Bool) → ltb 64 (character_count (part m a n)) ≡ y
        → NamedShort m (cond (x || y) names.Nothing (names.Subscription (span_of (str a n))))
    go true y q = tt
    go false true q = tt
    go false false q =
        let (i, z, x, y) = string_tree m 6 w a n k e in
        let all : is_utf8 (part m 0 (length m - 0)) ≡ true = rw (take_all (length m - 0) m (omega arith)) f in
        let u : is_utf8 (part m a n) ≡ true = rw (x, y) at (inner m 0 (length m) w i all (omega arith) (string_parts m w i z).4 z) in
        let c : is_spelling (part m a n) ≡ true = rw (x, y) at (string_spelled m w i z) in
        omega (arith, string_length (decode (part m a n)), spelled_short (part m a n) u c r, ltb-false 64 (character_count (part m a n)) q)

named_short : (m : List ℕ) → NamedShort m (named_of m)
unfolding named_of refused_in
named_short m = early (is_early (message_row m)) refl
  where
    by : (x : Word) (q w k : ℕ) (u : Json) (us : Items) → is_utf8 m ≡ true → tree_at m open_within w ≡ got u k → refused_in m u ≡ false
        → has_shape m x (item q w u us) ≡ true → NamedShort m (named_in m x (item q w u us))
    by event q w k u us f e r h = id_short m (span_in (member_of m id_name (members_of u)))
    by req q w k u us f e r h = subscription_short m w k u f e (both (is_string u) _ h).0 r
    by close q w k u us f e r h = tt
    by other q w k u us f e r h = tt

    second : {p v q w : ℕ} {t u : Json} {us : Items} → Listing m (item p v t (item q w u us)) → (k : ℕ) × (tree_at m open_within w ≡ got u k)
    second (one e f (one g h l)) = (_, g)

    late : is_early (message_row m) ≡ false → {t : Json} {n : ℕ} → root m ≡ got t n → has_shape m (opened m t).first (opened m t).rest ≡ true → Begun t
        → NamedShort m (named_root m (root m))
    late e {n = n} r h (begun {p = p} {v = v} {a = a} {n = i} {q = q} {w = w} {u = u} {us = us}) =
        let (k, g) = second (array_listing (group_of m (ws_at m 0) false (item p v (str a i) (item q w u us)) n r)).1 in
        let c = no_right (refuses (part m a i)) _ (late_allowed m _ n r e) in
        rw r (by (word_of (decode (part m a i))) q w k u us (late_utf8 m e) g (no_left (refused_in m u) _ c) h)

    early : (x : Bool) → is_early (message_row m) ≡ x → NamedShort m (cond x names.Nothing (named_root m (root m)))
    early true e = tt
    early false e = go (late_shaped m e)
      where
        go : Shaped m → NamedShort m (named_root m (root m))
        go (shaped {t = t} r h) = late e r h (begun_of m t h)

-- ---- each line
line_of : (r : Reply) → length (reply_line r) ≡ length (reply_text r) + 1
line_of r = length-append (reply_text r) (0x0a ∷ [])

notice_line : (reason : List ℕ) → length (reply_line (notice reason)) ≡ length (string_json reason) + 12
unfolding reply_text
notice_line reason = line_of (notice reason) ∙ simp length-append (omega arith)

eose_line_lem : (sub : List ℕ) → length (reply_line (eose sub)) ≡ length (string_json sub) + 10
unfolding reply_text
eose_line_lem sub = line_of (eose sub) ∙ simp length-append (omega arith)

closed_line : (sub reason : List ℕ) → length (reply_line (closed sub reason)) ≡ length (string_json sub) + length (string_json reason) + 13
unfolding reply_text
closed_line sub reason = line_of (closed sub reason) ∙ simp length-append (omega arith)

truth_short : (a : Bool) → length (truth a) ≤ 5
truth_short true = omega arith
truth_short false = omega arith

ok_line : (i : List ℕ) (a : Bool) (reason : List ℕ) → length (reply_line (ok i a reason)) ≤ length (string_json i) + length (string_json reason) + 15
unfolding reply_text
ok_line i a reason = let t = truth_short a in let l = line_of (ok i a reason) in simp length-append (omega arith)

refusal_short : (m : List ℕ) (r : ℕ) → length (reply_line (refusal m r)) ≤ 428
unfolding refusal
refusal_short m r = go (leb r 5) (named_of m) (named_short m)
  where
    go : (x : Bool) (n : Named) → NamedShort m n → length (reply_line (cond x (notice (reason_for m r)) (refusal_naming m n (reason_for m r)))) ≤ 428
    go true n h = omega (arith, notice_line (reason_for m r), reason_short m r)
    go false (names.Id p) h = omega (arith, ok_line (said m p) false (reason_for m r), reason_short m r, h)
    go false (names.Subscription p) h = omega (arith, closed_line (said m p) (reason_for m r), reason_short m r, h)
    go false names.Nothing h = omega (arith, notice_line (reason_for m r), reason_short m r)

-- a verdict's reason has at most 34 bytes
verdicts_short : (length (string_json (verdict_reason (Ok offered.Ephemeral))) ≡ 2) × (length (string_json (verdict_reason (Ok offered.Duplicate))) ≡ 36)
    × (length (string_json (verdict_reason (Ok offered.Older))) ≡ 33) × (length (string_json (verdict_reason (Ok offered.Stored))) ≡ 2)
unfolding string_json quoted json_of json_one escape esc_one letter_of
verdicts_short = (refl, refl, refl, refl)

offer_short : (m i : List ℕ) (a : Result Offered Refusal) → length (string_json i) ≡ 66 → length (reply_line (offer_reply m i a)) ≤ 428
offer_short m i (Ok offered.Ephemeral) h = omega (arith, ok_line i true (verdict_reason (Ok offered.Ephemeral)), verdicts_short.0, h)
offer_short m i (Ok offered.Duplicate) h = omega (arith, ok_line i true (verdict_reason (Ok offered.Duplicate)), verdicts_short.1, h)
offer_short m i (Ok offered.Older) h = omega (arith, ok_line i true (verdict_reason (Ok offered.Older)), verdicts_short.2, h)
offer_short m i (Ok offered.Stored) h = omega (arith, ok_line i true (verdict_reason (Ok offered.Stored)), verdicts_short.3, h)
offer_short m i (Err r) h = refusal_short m r.row

-- ---- the whole
slots_short : (b sub : List ℕ) → sound b ≡ true → length (string_json sub) ≤ 386 → (ks : List ℕ) → ((k : ℕ) → k ∈ ks → k < count_of b)
    → length (joined (slot_lines b sub ks)) ≤ length ks * 24827
unfolding joined
slots_short b sub s l [] h = omega arith
slots_short b sub s l (k ∷ ks) h =
    let i = h k (Memᴰ.head refl) in
    omega (
      arith,
      length-append (slot_line b sub k) (joined (slot_lines b sub ks)),
      line_length b k s i sub,
      held_json b k s i,
      string_length sub,
      l,
      slots_short b sub s l ks (λ j m. h j (Memᴰ.tail m)),
    )

one_written : (r : Reply) → length (written (r ∷ [])) ≡ length (reply_line r)
unfolding written
one_written r = ap length (append-nil (reply_line r))

module _ (b m : List ℕ) where
  -- one short reply is enough for any table
  one_short : (r : Reply) → replies_to b m ≡ r ∷ [] → length (reply_line r) ≤ 428 → length (response b m) ≤ enough_for (capacity_of b)
  unfolding response
  one_short r e h = omega (arith, ap (λ l. length (written l)) e, one_written r)

  request_short : (r : ReqParts) → read_of m ≡ Ok (message.Req r) → length (response b m) ≤ enough_for (capacity_of b)
  unfolding replies_to request_replies
  request_short r e = go (sound b) refl
    where
      sub_short : length (string_json (said m r.subscription)) ≤ 386
      sub_short = rw (names_subscription m r e) at (named_short m)

      go : (x : Bool) → sound b ≡ x → length (response b m) ≤ enough_for (capacity_of b)
      go true s =
          let fs = filters_meant m r.filters in
          let ks = answer_list b fs in
          let sub = said m r.subscription in
          omega (
            arith,
            ap length (one_by_one b m r e s),
            length-append (joined (slot_lines b sub ks)) (reply_line (eose sub)),
            slots_short b sub s sub_short ks (answers_held b fs),
            eose_line_lem sub,
            sub_short,
            (answer_means b fs).short,
            (clauses b s).count,
          )
      go false s = one_short (refusal m 11) (rw (e, s)) (refusal_short m 11)

  close_short : (p : Span) → read_of m ≡ Ok (message.Close p) → length (response b m) ≤ enough_for (capacity_of b)
  unfolding response replies_to written
  close_short p e = rw e (omega arith)

  response_short : length (response b m) ≤ enough_for (capacity_of b)
  unfolding replies_to
  response_short = go (read_of m) refl
    where
      go : (x : Result Message Refusal) → read_of m ≡ x → length (response b m) ≤ enough_for (capacity_of b)
      go (Ok (message.Event p)) e =
          let a = answer b (as_message m) in
          one_short (offer_reply m (said m p.id) a) (rw e) (offer_short m (said m p.id) a (rw (names_id m p e) at (named_short m)))
      go (Ok (message.Req r)) e = request_short r e
      go (Ok (message.Close p)) e = close_short p e
      go (Err r) e = one_short (refusal m r.row) (rw e) (refusal_short m r.row)

pub enough : Enough
unfolding respond_row
enough b m out l = rw (le-ltb (length out) (length (response b m)) (omega (arith, response_short b m)))
