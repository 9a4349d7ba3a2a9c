-- A law for each way out.
use Rattle.std.specs.Prelude.{Option, None, Some, Result, Ok, Err}
use mathlib.Core.Path.{◌≡◌, refl, sym, ap, ◌∙◌}
use mathlib.Core.Bool.{Bool, true, false, cond, false≢true}
use mathlib.Core.List.{List, [], ◌∷◌, ◌++◌, append-nil}
use Prim.Native.Nat.{ℕ, ◌+◌, ◌-◌, ◌≤◌, ◌<◌, ◌^◌}
use native.Mathlib.Omega.{arith}
use borrow.Author.Tests.{eqb-true, eqb-false, lt-ltb, le-ltb, ltb-true, ltb-false, leb-true, leb-false}
use lib.Dec.{eqb, leb, ltb}
use lib.ListN.{length, take, drop, length-append}
use lib.Seq.{take-append_seam}
use Rattle.wire.specs.Limits.{hex_length, most_slots}
use Rattle.wire.specs.Put.{Puts}
use Rattle.wire.specs.Escape.{letter_of, esc_one, escape, json_one, json_of}
use Rattle.wire.proofs.Laws.{puts_none, puts_then, puts_whole}
use Rattle.json_tree.specs.Tree.{Json, Items, Got, none, got, root}
use Rattle.shape.specs.Shape.{Word, event, req, close, other, opened, id_name}
use Rattle.shape.specs.Rows.{message_row, wrong_subscription}
use Rattle.shape.specs.declared.Refusal.{Refusal}
use Rattle.shape.specs.Offsets.{plain_refusal, offset_for}
use Rattle.shape.proofs.Offsets.{offset_other, offset_plain}
use Rattle.rows.specs.Strings.{part}
use Rattle.spell.specs.Spell.{decode, is_hex_of}
use Rattle.text.specs.Event.{quoted}
use Rattle.message.specs.Parts as parts
use Rattle.message.specs.Parts.{span_of, member_of, members_of, span_in}
use Rattle.message.specs.Read.{first_item, read_of, read_number, named_in, named_root, is_early, named_of}
use Rattle.message.specs.declared.EventParts.{EventParts}
use Rattle.message.specs.declared.Filters.{Filters}
use Rattle.message.specs.declared.ReqParts.{ReqParts}
use Rattle.message.specs.declared.Span.{Span}
use Rattle.message.specs.declared.Message.{Message}
use Rattle.message.specs.declared.Message.TheVariants as message
use Rattle.message.specs.declared.Named.TheVariants as names
use Rattle.message.specs.declared.Naming.{Naming}
use Rattle.message.proofs.Reading.{row_read}
use Rattle.message.proofs.Taken.{filters_taken}
use Rattle.event.specs.Lent.{said, length_of}
use Rattle.event.specs.Answer.{written_number, offered_row}
use Rattle.event.proofs.Answers.{number_is}
use Rattle.table.specs.Sound.{sound}
use Rattle.table.specs.Offer.{as_message, as_parts, parts_of, answer, next, verdict_on}
use Rattle.table.specs.declared.Offered.{Offered}
use Rattle.table.specs.declared.Offered.TheVariants as offered
use Rattle.table.proofs.Bytes.{clauses}
use Rattle.table.proofs.Rows.{event_rows}
use Rattle.offers.specs.Taken as taking
use Rattle.offers.specs.declared.Taken.{Taken}
use Rattle.offers.specs.declared.Taken.TheVariants as takes
use Rattle.offers.proofs.Takes.{took_event, took_req, took_close, took_refused, table_event, table_req, table_close}
use Rattle.offers.proofs.Takes.{table_refused}
use Rattle.query.specs.Answer.{answer_list, filters_meant, answer_to, listing_row, listed, listed_row}
use Rattle.query.proofs.Tables.{answer_means}
use Rattle.query.proofs.ReadFilters.{read_listing}
use Rattle.reply.specs.Replies.{Reply, eose, closed, reply_text, reason_of, offset_text, refusal_reason, string_json}
use Rattle.reply.proofs.Reasons.{row_short, reason_length}
use Rattle.reply.specs.Lent.{short_row}
use Rattle.program.specs.Program.{refusal, events_of, request_replies, replies_to, table_after, written}
use Rattle.program.specs.Respond.{response, respond_row, responded, responded_out, responded_table}
use Rattle.program.proofs.Lines.{written_append}
use Rattle.program.proofs.Shown.{answers_held}
use Rattle.program.proofs.Sizes.{hex_short}
use Rattle.program.proofs.Which.{names_id, last_rows, read_event, read_close, bad_table}
use Rattle.replies.specs.Inner.{Room}
use Rattle.slot_replies.specs.Left.{lines_size, left_in}
use Rattle.slot_replies.proofs.Lines.{lines_size_lem}
use Rattle.responses.specs.Inner.{verdict_text, ok_text, naming_for, naming_text, ended, eose_line, answer_text, AllHeld}
use Rattle.responses.specs.Inner.{Said}
use Rattle.responses.specs.Refused.{refused_text, refused_row, refused_reply, refused_out}
use Rattle.responses.proofs.Lines.{refused_length, ok_length, eose_length, naming_is, cut_room}

-- ---- what is answered
said_short : (t out : List ℕ) → length out < length t → Said t out (Err 13) out
said_short t out h = let q = lt-ltb (length out) (length t) h in record { answer = rw q refl; bytes = rw q refl }

said_put : (t out : List ℕ) {r : ℕ} {o : List ℕ} → length t ≤ length out → Puts out 0 t r o → Said t out (Ok r) o
said_put t out h p =
    let q = le-ltb (length out) (length t) h in
    let (e, f) = puts_whole h p in
    record { answer = rw q (ap Ok e); bytes = rw q f }

said_as : {t u out o : List ℕ} {r : Result ℕ ℕ} → t ≡ u → Said t out r o → Said u out r o
said_as e s = rw e at s

ended_length : (t : List ℕ) → length (ended t) ≡ length t + 1
ended_length t = length-append t (0x0a ∷ [])

-- ---- a refused message, alone
module _ (m : List ℕ) (row : ℕ) (out : List ℕ) {x : Naming} (e : x ≡ naming_for m row) {f : Bool} (room : Room (length (naming_text m x)) (length out) f) where
  abbrev AsRefused : Result ℕ ℕ → List ℕ → Type 0
  AsRefused r o = (r ≡ refused_reply m row out) × ((written_number r ≡ refused_row m row out) × (o ≡ refused_out m row out))

  text_is : naming_text m x ≡ refused_text m row
  text_is = ap (naming_text m) e ∙ naming_is m row

  as_refused : {r : Result ℕ ℕ} {o : List ℕ} → Said (refused_text m row) out r o → AsRefused r o
  unfolding refused_reply refused_row refused_out
  as_refused s = (s.answer, (ap written_number s.answer ∙ number_is (short_row (refused_text m row) out) (length (refused_text m row)), s.bytes))

  pub refused_short : f ≡ false → AsRefused (Err 13) out
  refused_short q = as_refused (said_short (refused_text m row) out (omega (arith, room.no q, ap length text_is)))

  pub refused_put : f ≡ true → {r : ℕ} {o : List ℕ} → Puts out 0 (naming_text m x) r o → AsRefused (Ok r) o
  refused_put q p = as_refused (said_put (refused_text m row) out (omega (arith, room.yes q, ap length text_is)) (rw text_is at p))

-- ---- with 0A
pub line_none : (t out : List ℕ) → length out ≡ 0 → Said (ended t) out (Err 13) out
line_none t out e = said_short (ended t) out (omega (arith, ended_length t))

module _ (t out : List ℕ) (n : length out ≡ 0 → ⊥) {f : Bool} (room : Room (length t) (length out - 1) f) where
  pub line_short : f ≡ false → Said (ended t) out (Err 13) out
  line_short q = said_short (ended t) out (omega (arith, ended_length t, room.no q))

  pub line_put : f ≡ true → {o₁ o₂ : List ℕ} {a r : ℕ} → Puts out 0 t a o₁ → Puts o₁ a (0x0a ∷ []) r o₂ → Said (ended t) out (Ok r) o₂
  line_put q x y = said_put (ended t) out (omega (arith, ended_length t, room.yes q, n)) (puts_then x y)

-- ---- an EVENT
-- the id that a refusal names is 64 lower-case hex
named_hex : (m : List ℕ) (p : Span) → named_of m ≡ names.Id p → is_hex_of hex_length (part m p.start p.len) ≡ true
unfolding named_of
named_hex m p = early (is_early (message_row m))
  where
    clash : {A : Type 0} → ◌≡◌ {A = ℕ} 0 1 → A
    clash z = absurd (omega arith)

    hex : (s : Span) (x : Bool) → is_hex_of hex_length (part m s.start s.len) ≡ x → cond x (names.Id s) names.Nothing ≡ names.Id p → is_hex_of hex_length (part m p.start p.len) ≡ true
    hex s true q e = let z : s ≡ p = cc in rw (← z) q
    hex s false q e = clash cc

    sub : (s : Span) (x : Bool) → cond x names.Nothing (names.Subscription s) ≡ names.Id p → is_hex_of hex_length (part m p.start p.len) ≡ true
    sub s true e = clash cc
    sub s false e = clash cc

    word : (w : Word) (ts : Items) → named_in m w ts ≡ names.Id p → is_hex_of hex_length (part m p.start p.len) ≡ true
    word event ts e = let s = span_in (member_of m id_name (members_of (first_item ts))) in hex s (is_hex_of hex_length (part m s.start s.len)) refl e
    word req ts e = sub (span_of (first_item ts)) (wrong_subscription m (first_item ts)) e
    word close ts e = clash cc
    word other ts e = clash cc

    tree : (g : Got Json) → named_root m g ≡ names.Id p → is_hex_of hex_length (part m p.start p.len) ≡ true
    tree none e = clash cc
    tree (got t n) e = word (opened m t).first (opened m t).rest e

    early : (x : Bool) → cond x names.Nothing (named_root m (root m)) ≡ names.Id p → is_hex_of hex_length (part m p.start p.len) ≡ true
    early true e = clash cc
    early false e = tree (root m) e

-- what a verdict and a refusal without an offset say
verdict_most : (a : Result Offered Refusal) → ((x : Refusal) → a ≡ Err x → x.offset ≡ None) → length (verdict_text a) ≤ 41
unfolding verdict_text string_json quoted json_of json_one escape esc_one letter_of
verdict_most (Ok offered.Ephemeral) n = omega arith
verdict_most (Ok offered.Duplicate) n = omega arith
verdict_most (Ok offered.Older) n = omega arith
verdict_most (Ok offered.Stored) n = omega arith
verdict_most (Err x) n =
    omega (arith, refused_length x, reason_length x, ap (λ y. length (offset_text y)) (n x refl), row_short x.row)

one_written : (r : Reply) → written (r ∷ []) ≡ ended (reply_text r)
unfolding written
one_written r = append-nil (ended (reply_text r))

module _ (b m : List ℕ) (p : EventParts) (e : read_of m ≡ Ok (message.Event p)) where
  -- no row refuses what was read, and so no row has an offset
  no_offset : (row : ℕ) → offset_for m row ≡ None
  no_offset row = go (eqb row 0) refl
    where
      none : message_row m ≡ 0
      none = sym (row_read m) ∙ ap read_number e

      go : (t : Bool) → eqb row 0 ≡ t → offset_for m row ≡ None
      go true q = let z = eqb-true row 0 q in offset_plain m row (λ y. omega arith) (λ y. omega arith)
      go false q = offset_other m row (λ y. eqb-false row 0 q (y ∙ none))

  -- what was read is answered as the message is
  parts_answer : answer b (as_parts m p) ≡ answer b (as_message m)
  unfolding answer verdict_on
  parts_answer = let r = event_rows m p e in rw (r.as_parts_lem, r.same_event, no_offset (offered_row m p))

  parts_next : next b (as_parts m p) ≡ next b (as_message m)
  unfolding next parts_of
  parts_next = rw (parts_answer, e)

  ok_line : response b m ≡ ended (ok_text (said m p.id) (answer b (as_message m)))
  unfolding response ok_text
  ok_line = ap written (read_event b m p e).0 ∙ one_written _

  ok_line_length : length (response b m) ≡ 75 + length (verdict_text (answer b (as_message m)))
  ok_line_length =
      let i = said m p.id in
      let a = answer b (as_message m) in
      let h = hex_short (part m p.id.start p.id.len) (named_hex m p.id (names_id m p e)) in
      ap length ok_line ∙ omega (arith, ended_length (ok_text i a), ok_length i a, h)

  pub longest_fits : (room : ℕ) → 116 ≤ room → Room (length (response b m)) room true
  longest_fits room h = record { yes = λ q. omega (arith, ok_line_length, verdict_most (answer b (as_message m)) (λ x a. (last_rows b m p x e a).2)); no = λ q. absurd (false≢true (sym q)) }

  pub verdict_fits : (room : ℕ) {a : Result Offered Refusal} {n : ℕ} → a ≡ answer b (as_message m) → (n ≡ length (verdict_text a)) × (n ≤ 59) → Room (length (response b m)) room (leb (75 + n) room)
  verdict_fits room {a} {n} ea (f, h) =
      let g = ap (λ x. length (verdict_text x)) ea in
      record {
        yes = λ q. let z = leb-true (75 + n) room q in omega (arith, ok_line_length, f, g);
        no = λ q. let z = leb-false (75 + n) room q in omega (arith, ok_line_length, f, g);
      }

  module _ (out : List ℕ) {f : Bool} (room : Room (length (response b m)) (length out) f) where
    pub event_short : f ≡ false → Said (response b m) out (Err 13) out × (b ≡ responded_table b m out)
    unfolding responded_table respond_row
    event_short q = (said_short (response b m) out (room.no q), rw (lt-ltb (length out) (length (response b m)) (room.no q)) refl)

    pub event_said : f ≡ true → {a : Result Offered Refusal} {t o₁ o₂ : List ℕ} {n r : ℕ} → a ≡ answer b (as_message m) → t ≡ next b (as_message m) → Puts out 0 (ok_text (said m p.id) a) n o₁
        → Puts o₁ n (0x0a ∷ []) r o₂ → Said (response b m) out (Ok r) o₂ × (t ≡ responded_table b m out)
    unfolding responded_table respond_row
    event_said q {a} ea et x y =
        let h = room.yes q in
        let z : ended (ok_text (said m p.id) a) ≡ response b m = ap (λ v. ended (ok_text (said m p.id) v)) ea ∙ sym ok_line in (
          said_put (response b m) out h (rw z at (puts_then x y)),
          rw (le-ltb (length out) (length (response b m)) h) (et ∙ sym (read_event b m p e).1),
        )

    pub event_put : f ≡ true → {a : Result Offered Refusal} {t o₁ o₂ : List ℕ} {n r : ℕ} → a ≡ answer b (as_parts m p) → t ≡ next b (as_parts m p) → Puts out 0 (ok_text (said m p.id) a) n o₁
        → Puts o₁ n (0x0a ∷ []) r o₂ → Said (response b m) out (Ok r) o₂ × (t ≡ responded_table b m out)
    event_put q ea et x y = event_said q (ea ∙ parts_answer) (et ∙ parts_next) x y

-- ---- EVENTs and EOSE
-- what is left of a room, by what was answered
module _ (room n : ℕ) {x : Option ℕ} (a : x ≡ left_in room n) where
  left_room : {l : ℕ} → x ≡ Some l → (n ≤ room) × (l ≡ room - n)
  unfolding left_in
  left_room {l} e = go (ltb room n) refl (sym e ∙ a)
    where
      go : (t : Bool) → ltb room n ≡ t → Some l ≡ cond t None (Some (room - n)) → (n ≤ room) × (l ≡ room - n)
      go true q z = absurd (let y : ◌≡◌ {A = ℕ} 0 1 = cc in omega arith)
      go false q z = (ltb-false room n q, cc)

  left_short : x ≡ None → room < n
  unfolding left_in
  left_short e = go (ltb room n) refl (sym e ∙ a)
    where
      go : (t : Bool) → ltb room n ≡ t → None ≡ cond t None (Some (room - n)) → room < n
      go true q z = ltb-true room n q
      go false q z = absurd (let y : ◌≡◌ {A = ℕ} 0 1 = cc in omega arith)

module _ (b m : List ℕ) (s : Span) (ks : List ℕ) (held : AllHeld b ks) (out : List ℕ) {id : List ℕ} (ei : id ≡ part m s.start s.len) {x : Option ℕ}
    (a : x ≡ left_in (length out) (lines_size b (decode id) ks)) where
  abbrev text : List ℕ
  text = answer_text b (said m s) ks

  abbrev events : List ℕ
  events = written (events_of b (said m s) ks)

  size : lines_size b (decode id) ks ≡ length events
  size = ap (λ w. lines_size b (decode w) ks) ei ∙ sym (lines_size_lem b (said m s) ks held.is_sound held.held)

  text_length : length text ≡ length events + length (eose_line (said m s))
  unfolding answer_text
  text_length = length-append events (eose_line (said m s))

  pub events_short : x ≡ None → Said text out (Err 13) out
  events_short e = said_short text out (omega (arith, text_length, size, left_short (length out) (lines_size b (decode id) ks) a e))

  module _ {l n : ℕ} {f : Bool} (few : l < 2 ^ 64) (e : x ≡ Some l) (en : n ≡ length_of (json_of (escape (decode id)))) (cut : Room (12 + n) l f) where
    room : Room (12 + length (json_of (escape (decode id)))) l f
    room = cut_room 12 (length (json_of (escape (decode id)))) n l (omega arith) few en cut

    eose_is : 12 + length (json_of (escape (decode id))) ≡ length (eose_line (said m s))
    eose_is = omega (arith, ap (λ w. length (json_of (escape (decode w)))) ei, eose_length (said m s))

    pub eose_short : f ≡ false → Said text out (Err 13) out
    eose_short q =
        let (h, z) = left_room (length out) (lines_size b (decode id) ks) a e in
        said_short text out (omega (arith, text_length, size, eose_is, room.no q))

    pub answer_put : f ≡ true → {o₁ o₂ : List ℕ} {k r : ℕ} → Puts out 0 (written (events_of b (decode id) ks)) k o₁ → Puts o₁ k (eose_line (said m s)) r o₂ → Said text out (Ok r) o₂
    unfolding answer_text
    answer_put q y w =
        let (h, z) = left_room (length out) (lines_size b (decode id) ks) a e in
        said_put text out (omega (arith, text_length, size, eose_is, room.yes q)) (puts_then (rw ei at y) w)

-- ---- a REQ
-- its filters, as values, are tested and lent; x is what is answered of them
module _ (b m : List ℕ) (q : ReqParts) (e : read_of m ≡ Ok (message.Req q)) {fs : Filters} (ef : fs ≡ parts.filters_at m q.filters) (row : List ℕ) (wide : length row ≡ most_slots)
    {x : Result ℕ ℕ} (a : x ≡ listed b m fs.parts fs.n row) where
  abbrev sub : List ℕ
  sub = said m q.subscription

  abbrev ks : List ℕ
  ks = answer_list b (filters_meant m q.filters)

  few : sound b ≡ true → length ks ≤ most_slots
  few s = omega (arith, (answer_means b (filters_meant m q.filters)).short, (clauses b s).count, (clauses b s).high)

  lent : (answer_to b m fs.parts fs.n ≡ ks) × (listing_row b m fs.parts fs.n row ≡ cond (sound b) (cond (ltb (length row) (length ks)) 13 0) 11)
  unfolding parts.filters_at
  lent =
      let t = filters_taken m q e in
      rw ef (read_listing b m q e (parts.filters_at m q.filters).parts (parts.filters_at m q.filters).n t.few t.all row)

  sound_row_lem : sound b ≡ true → listing_row b m fs.parts fs.n row ≡ 0
  sound_row_lem s = lent.1 ∙ rw (s, le-ltb (length row) (length ks) (omega (arith, few s)))

  sound_told : sound b ≡ true → x ≡ Ok (length ks)
  unfolding listed
  sound_told s = a ∙ rw (sound_row_lem s, lent.0)

  unsound_told : sound b ≡ false → x ≡ Err 11
  unfolding listed
  unsound_told s = a ∙ rw (lent.1, s)

  module _ {k : ℕ} (z : x ≡ Ok k) where
    told : (sound b ≡ true) × (k ≡ length ks)
    told = go (sound b) refl
      where
        go : (t : Bool) → sound b ≡ t → (sound b ≡ true) × (k ≡ length ks)
        go true s = (s, let y = sound_told s in cc)
        go false s = absurd (let y = unsound_told s in let w : ◌≡◌ {A = ℕ} 0 1 = cc in omega arith)

    pub row_room_lem : k ≤ most_slots
    row_room_lem = let (s, n) = told in omega (arith, few s)

    module _ {row' : List ℕ} (y : row' ≡ listed_row b m fs.parts fs.n row) where
      taken : take k row' ≡ ks
      unfolding listed_row
      taken = let (s, n) = told in rw (y, sound_row_lem s, lent.0, n) (take-append_seam ks (drop (length ks) row))

      pub all_held_lem : AllHeld b (take k row')
      all_held_lem = rw taken (record { is_sound = told.0; held = answers_held b (filters_meant m q.filters) })

      answer_line_lem : response b m ≡ answer_text b sub ks
      unfolding response answer_text replies_to request_replies eose_line
      answer_line_lem = rw (e, told.0) (written_append (events_of b sub ks) (eose sub ∷ []) ∙ ap (written (events_of b sub ks) ++◌) (one_written (eose sub)))

      pub request_said : {out o : List ℕ} {r : Result ℕ ℕ} → Said (answer_text b sub (take k row')) out r o → Said (response b m) out r o
      request_said s = said_as (ap (answer_text b sub) taken ∙ sym answer_line_lem) s

  -- only row 11 refuses: CLOSED
  pub request_refused : {k : ℕ} → x ≡ Err k → {y : Refusal} → y ≡ plain_refusal k → {out o : List ℕ} {r : Result ℕ ℕ}
      → Said (ended (naming_text m (record { refusal = y; named = names.Subscription q.subscription }))) out r o → Said (response b m) out r o
  unfolding response naming_text
  request_refused {k} z {y} f {out} {o} {r} s = go (sound b) refl
    where
      go : (t : Bool) → sound b ≡ t → Said (response b m) out r o
      go true t = absurd (let y = sound_told t in let w : ◌≡◌ {A = ℕ} 0 1 = cc in omega arith)
      go false t =
          let n : k ≡ 11 = let y = unsound_told t in cc in
          let v : refusal_reason y ≡ reason_of 11 = ap refusal_reason (f ∙ ap plain_refusal n) ∙ append-nil (reason_of 11) in
          let w : response b m ≡ ended (reply_text (closed sub (reason_of 11))) = ap written (bad_table b m q e t).0 ∙ one_written _ in
          said_as (ap (λ l. ended (reply_text (closed sub l))) v ∙ sym w) s

-- ---- one message
abbrev pub Responds : (b m out : List ℕ) (r : Result ℕ ℕ) (o t : List ℕ) → Type 0
Responds b m out r o t = (r ≡ responded b m out) × ((written_number r ≡ respond_row b m out) × ((o ≡ responded_out b m out) × (t ≡ responded_table b m out)))

table_stays : (b m out : List ℕ) → table_after b m ≡ b → b ≡ responded_table b m out
unfolding responded_table
table_stays b m out e = go (eqb (respond_row b m out) 0)
  where
    go : (t : Bool) → b ≡ cond t (table_after b m) b
    go true = sym e
    go false = refl

-- x is what the reader answers
module _ (b m out : List ℕ) {r : Result ℕ ℕ} {o : List ℕ} where
  pub responds : {t : List ℕ} → Said (response b m) out r o → t ≡ responded_table b m out → Responds b m out r o t
  unfolding responded responded_out respond_row
  responds s e = (s.answer, (ap written_number s.answer ∙ number_is (short_row (response b m) out) (length (response b m)), (s.bytes, e)))

  module _ {x : Result Message Refusal} (a : x ≡ read_of m) where
    pub responds_request : {q : ReqParts} → x ≡ Ok (message.Req q) → Said (response b m) out r o → Responds b m out r o b
    unfolding table_after
    responds_request e s = responds s (table_stays b m out (rw (sym a ∙ e)))

    pub responds_refused : {k : Refusal} {n : Naming} → x ≡ Err k → n ≡ naming_for m k.row → Said (ended (naming_text m n)) out r o → Responds b m out r o b
    unfolding table_after response replies_to refused_text
    responds_refused {k} {n} e en s =
        let f = sym a ∙ e in
        let z : ended (naming_text m n) ≡ response b m = ap ended (ap (naming_text m) en ∙ naming_is m k.row) ∙ sym (rw f (one_written (refusal m k.row))) in
        responds (said_as z s) (table_stays b m out (rw f))

pub responds_close : (b m out : List ℕ) {x : Result Message Refusal} {p : Span} → x ≡ read_of m → x ≡ Ok (message.Close p) → Responds b m out (Ok 0) out b
unfolding response written
responds_close b m out {x} {p} a e =
    let (y, t) = read_close b m p (sym a ∙ e) in
    let z : response b m ≡ [] = ap written y in
    responds b m out (said_as (sym z) (said_put [] out (omega arith) (puts_none out 0 (omega arith)))) (table_stays b m out t)

-- ---- a message that was taken; t is the table at exit
module _ (b m out : List ℕ) {x : Result Taken Refusal} (a : x ≡ taking.taken b m) {t : List ℕ} (et : t ≡ taking.taken_table b m) where
  with_table : {r : Result ℕ ℕ} {o : List ℕ} → t ≡ b → Responds b m out r o b → Responds b m out r o t
  with_table z k = (k.0, (k.1.0, (k.1.1.0, z ∙ k.1.1.1)))

  pub taken_event : 116 ≤ length out → {i : Span} {v : Result Offered Refusal} → x ≡ Ok (takes.Event i v) → {o₁ o₂ : List ℕ} {n r : ℕ} → Puts out 0 (ok_text (said m i) v) n o₁
      → Puts o₁ n (0x0a ∷ []) r o₂ → Responds b m out (Ok r) o₂ t
  taken_event h {i} {v} e {o₁} {o₂} {n} {r} y z =
      let k = took_event b m a e in
      let w : Puts out 0 (ok_text (said m k.parts.id) v) n o₁ = rw k.id at y in
      let (f, g) = event_said b m k.parts k.is out (longest_fits b m k.parts k.is (length out) h) refl k.says (et ∙ table_event b m k.is) w z in
      responds b m out f g

  pub taken_req : {q : ReqParts} → x ≡ Ok (takes.Req q) → read_of m ≡ Ok (message.Req q)
  taken_req e = took_req b m a e

  pub taken_request : {q : ReqParts} → x ≡ Ok (takes.Req q) → {r : Result ℕ ℕ} {o : List ℕ} → Said (response t m) out r o → Responds b m out r o t
  taken_request {q} e {r} {o} s =
      let f = took_req b m a e in
      let z : t ≡ b = et ∙ table_req b m f in
      let y : Said (response b m) out r o = rw z at s in
      with_table z (responds_request b m out refl f y)

  pub taken_close : {p : Span} → x ≡ Ok (takes.Close p) → Responds b m out (Ok 0) out t
  taken_close e = let f = took_close b m a e in with_table (et ∙ table_close b m f) (responds_close b m out refl f)

  pub taken_refused : {k : Refusal} {n : Naming} → x ≡ Err k → n ≡ naming_for m k.row → {r : Result ℕ ℕ} {o : List ℕ} → Said (ended (naming_text m n)) out r o → Responds b m out r o t
  taken_refused e en s = let f = took_refused b m a e in with_table (et ∙ table_refused b m f) (responds_refused b m out refl f en s)
