-- The pieces of a reply in a row, how long it is, its rows, and what is answered.
use Rattle.std.specs.Prelude.{Result, Ok, Err}
use mathlib.Core.Path.{◌≡◌, refl, sym, ap, ◌∙◌}
use mathlib.Core.Bool.{Bool, true, false, ◌||◌, or-false}
use mathlib.Core.List.{List, ◌++◌, append_assoc}
use Prim.Native.Nat.{ℕ, ◌+◌, ◌^◌, ◌≤◌, ◌<◌, min}
use native.Mathlib.Omega.{arith}
use borrow.Author.Tests.{not-false, lt-ltb, le-ltb, eq-eqb, ne_eqb, eqb-true}
use lib.Dec.{eqb}
use lib.ListN.{length, length-append}
use lib.Signed.{mag}
use mir.Syntax.{w64}
use mir.Val.{to_z, of_z}
use Rattle.wire.specs.Limits.{hex_length}
use Rattle.wire.specs.Bytes.{has_control}
use Rattle.wire.specs.Put.{Puts}
use Rattle.wire.specs.Escape.{escape, json_of}
use Rattle.wire.proofs.Laws.{puts_then}
use Rattle.numeral.specs.Decimal.{digits, decimal}
use Rattle.numeral.proofs.Ways.{back}
use Rattle.spell.specs.Spell.{decode, is_hex_of}
use Rattle.spell.proofs.Laws.{hex_escape}
use Rattle.text.specs.Event.{Event, quoted, tags_text}
use Rattle.text.proofs.Pieces.{both}
use Rattle.message.specs.declared.Span.{Span}
use Rattle.message.specs.declared.Body.{Body}
use Rattle.message.specs.declared.EventParts.{EventParts}
use Rattle.message.specs.Lent.{span_bytes, is_spelled, string2, string4, string5, string7, subscription8, string_row}
use Rattle.message.specs.Lent.{hex_row, subscription_row, event2, event4, event5, event7, body5, body6, body7, body8}
use Rattle.message.specs.Lent.{event_row}
use Rattle.wire.specs.Lowest.{lower_row}
use Rattle.message.specs.Inner.{lowest_by}
use Rattle.message.proofs.Facts.{or_not}
use Rattle.message.proofs.Ranks.{lowest_lower}
use Rattle.event.specs.Lent.{said, natural, lent_tags_at, event_of, text_of}
use Rattle.event.specs.Answer.{is_large, written_number}
use Rattle.event.specs.Lent.{most_length, length_of}
use Rattle.event.proofs.Answers.{refused, passed, too_short, room_for}
use Rattle.wire.specs.Ascii.{ascii}
use Rattle.reply.specs.Replies.{event, truth, string_json, tags_json, object_text, reply_text}
use Rattle.reply.specs.Lent.{reply_of, ok_row, event_reply_row, eose_row, closed_row, notice_row, parts_row, short_row, reply_row}
use Rattle.reply.specs.Lent.{replied, replied_out}
use Rattle.reply.specs.declared.ReplyParts.{ReplyParts}
use Rattle.table.proofs.Valid.{or_else_lem}
use Rattle.program.proofs.Sizes.{string_length, plain_length, hex_none, event_length}
use Rattle.replies.specs.Inner.{front_text, middle_text, back_text, ok_parts, event_parts, eose_parts, closed_parts}
use Rattle.replies.specs.Inner.{notice_parts, Room}

-- ---- true or false
pub truth_put : {a : Bool} (b : Bool) {d o : List ℕ} {i r : ℕ} → a ≡ b → Puts d i (truth b) r o → Puts d i (truth a) r o
truth_put b e p = rw e p

-- ---- the pieces in a row
module _ (b : List ℕ) {d o₁ o₂ o₃ : List ℕ} {i a₁ a₂ r : ℕ} where
  pub eose_put : (s : Span) → Puts d i (ascii "[\"EOSE\",") a₁ o₁ → Puts o₁ a₁ (json_of (quoted (said b s))) a₂ o₂ → Puts o₂ a₂ (ascii "]") r o₃ → Puts d i (reply_text (reply_of b (eose_parts s))) r o₃
  unfolding reply_text string_json
  eose_put s x₁ x₂ x₃ = puts_then x₁ (puts_then x₂ x₃)

  pub notice_put : (s : Span) → Puts d i (ascii "[\"NOTICE\",") a₁ o₁ → Puts o₁ a₁ (json_of (quoted (said b s))) a₂ o₂ → Puts o₂ a₂ (ascii "]") r o₃ → Puts d i (reply_text (reply_of b (notice_parts s))) r o₃
  unfolding reply_text string_json
  notice_put s x₁ x₂ x₃ = puts_then x₁ (puts_then x₂ x₃)

module _ (b : List ℕ) (s t : Span) {d o₁ o₂ o₃ o₄ o₅ : List ℕ} {i a₁ a₂ a₃ a₄ r : ℕ} where
  pub closed_put : Puts d i (ascii "[\"CLOSED\",") a₁ o₁ → Puts o₁ a₁ (json_of (quoted (said b s))) a₂ o₂ → Puts o₂ a₂ (ascii ",") a₃ o₃ → Puts o₃ a₃ (json_of (quoted (said b t))) a₄ o₄ → Puts o₄ a₄ (ascii "]") r o₅
      → Puts d i (reply_text (reply_of b (closed_parts s t))) r o₅
  unfolding reply_text string_json
  closed_put x₁ x₂ x₃ x₄ x₅ = puts_then x₁ (puts_then x₂ (puts_then x₃ (puts_then x₄ x₅)))

module _ (b : List ℕ) (s : Span) (a : Bool) (t : Span) {d o₁ o₂ o₃ o₄ o₅ o₆ o₇ : List ℕ} {i a₁ a₂ a₃ a₄ a₅ a₆ r : ℕ} where
  pub ok_put : Puts d i (ascii "[\"OK\",") a₁ o₁ → Puts o₁ a₁ (json_of (quoted (said b s))) a₂ o₂ → Puts o₂ a₂ (ascii ",") a₃ o₃ → Puts o₃ a₃ (truth a) a₄ o₄ → Puts o₄ a₄ (ascii ",") a₅ o₅
      → Puts o₅ a₅ (json_of (quoted (said b t))) a₆ o₆ → Puts o₆ a₆ (ascii "]") r o₇ → Puts d i (reply_text (reply_of b (ok_parts s a t))) r o₇
  unfolding reply_text string_json
  ok_put x₁ x₂ x₃ x₄ x₅ x₆ x₇ = puts_then x₁ (puts_then x₂ (puts_then x₃ (puts_then x₄ (puts_then x₅ (puts_then x₆ x₇)))))

-- ---- an EVENT
module _ (b : List ℕ) (s i : Span) (p : Body) {d o₁ o₂ o₃ o₄ o₅ o₆ : List ℕ} {j a₁ a₂ a₃ a₄ a₅ r : ℕ} where
  pub front_put : Puts d j (ascii "[\"EVENT\",") a₁ o₁ → Puts o₁ a₁ (json_of (quoted (said b s))) a₂ o₂ → Puts o₂ a₂ (ascii ",{\"id\":") a₃ o₃ → Puts o₃ a₃ (json_of (quoted (said b i))) a₄ o₄
      → Puts o₄ a₄ (ascii ",\"pubkey\":") a₅ o₅ → Puts o₅ a₅ (json_of (quoted (said b p.pubkey))) r o₆ → Puts d j (front_text (said b s) (said b i) (event_of b p)) r o₆
  unfolding front_text event_of string_json
  front_put x₁ x₂ x₃ x₄ x₅ x₆ = puts_then x₁ (puts_then x₂ (puts_then x₃ (puts_then x₄ (puts_then x₅ x₆))))

module _ (b : List ℕ) (p : Body) {d o₁ o₂ o₃ o₄ o₅ o₆ : List ℕ} {j a₁ a₂ a₃ a₄ a₅ r : ℕ} where
  pub middle_put : {k : ℕ} → mag p.created_at < 2 ^ 63 → mag p.kind < 2 ^ 63 → k ≡ natural (to_z w64 (of_z w64 p.kind))
      → Puts d j (ascii ",\"created_at\":") a₁ o₁ → Puts o₁ a₁ (decimal (to_z w64 (of_z w64 p.created_at))) a₂ o₂ → Puts o₂ a₂ (ascii ",\"kind\":") a₃ o₃ → Puts o₃ a₃ (digits k) a₄ o₄
      → Puts o₄ a₄ (ascii ",\"tags\":") a₅ o₅ → Puts o₅ a₅ (json_of (tags_text (lent_tags_at b p.tags))) r o₆ → Puts d j (middle_text (event_of b p)) r o₆
  unfolding middle_text event_of tags_json
  middle_put {k} ft fk f x₁ x₂ x₃ x₄ x₅ x₆ =
      let n : k ≡ natural p.kind = f ∙ ap natural (back p.kind fk) in
      puts_then x₁ (puts_then (rw (back p.created_at ft) at x₂) (puts_then x₃ (puts_then (rw n at x₄) (puts_then x₅ x₆))))

module _ (b : List ℕ) (p : Body) (s : Span) {d o₁ o₂ o₃ o₄ o₅ : List ℕ} {j a₁ a₂ a₃ a₄ r : ℕ} where
  pub back_put : Puts d j (ascii ",\"content\":") a₁ o₁ → Puts o₁ a₁ (json_of (quoted (said b p.content))) a₂ o₂ → Puts o₂ a₂ (ascii ",\"sig\":") a₃ o₃ → Puts o₃ a₃ (json_of (quoted (said b s))) a₄ o₄
      → Puts o₄ a₄ (ascii "}]") r o₅ → Puts d j (back_text (event_of b p) (said b s)) r o₅
  unfolding back_text event_of string_json
  back_put x₁ x₂ x₃ x₄ x₅ = puts_then x₁ (puts_then x₂ (puts_then x₃ (puts_then x₄ x₅)))

-- the pieces as the definition groups them and as the code writes them
regroup : (a b c d e f g h j k l m n o p q r s : List ℕ)
    → a ++ (b ++ ((c ++ (d ++ (e ++ (f ++ (g ++ (h ++ (j ++ (k ++ (l ++ (m ++ (n ++ (o ++ (p ++ (q ++ r)))))))))))))) ++ s))
    ≡ ((a ++ (b ++ (c ++ (d ++ (e ++ f))))) ++ (g ++ (h ++ (j ++ (k ++ (l ++ m)))))) ++ (n ++ (o ++ (p ++ (q ++ (r ++ s)))))
regroup a b c d e f g h j k l m n o p q r s = simp append_assoc

pub event_pieces : (sub i s : List ℕ) (e : Event) → reply_text (event sub i e s) ≡ (front_text sub i e ++ middle_text e) ++ back_text e s
unfolding reply_text object_text front_text middle_text back_text
event_pieces sub i s e =
    regroup (ascii "[\"EVENT\",") (string_json sub) (ascii ",{\"id\":") (string_json i) (ascii ",\"pubkey\":") (string_json e.pubkey) (ascii ",\"created_at\":") (decimal e.time)
    (ascii ",\"kind\":") (digits e.kind) (ascii ",\"tags\":") (tags_json e.tags) (ascii ",\"content\":") (string_json e.content) (ascii ",\"sig\":") (string_json s) (ascii "}") (ascii "]")

pub event_put : (b : List ℕ) (s : Span) (p : EventParts) {d o₁ o₂ o₃ : List ℕ} {i a₁ a₂ r : ℕ} → Puts d i (front_text (said b s) (said b p.id) (event_of b p.body)) a₁ o₁
    → Puts o₁ a₁ (middle_text (event_of b p.body)) a₂ o₂ → Puts o₂ a₂ (back_text (event_of b p.body) (said b p.sig)) r o₃ → Puts d i (reply_text (reply_of b (event_parts s p))) r o₃
event_put b s p x y z = rw (event_pieces (said b s) (said b p.id) (said b p.sig) (event_of b p.body)) (puts_then (puts_then x y) z)

-- what holds of the parts that were matched holds of the parts
pub same_put : (b : List ℕ) {p : ReplyParts} (q : ReplyParts) {d o : List ℕ} {i r : ℕ} → p ≡ q → Puts d i (reply_text (reply_of b q)) r o → Puts d i (reply_text (reply_of b p)) r o
same_put b q e x = rw e x

pub same_room : (b : List ℕ) {p : ReplyParts} (q : ReplyParts) {room : ℕ} {r : Bool} → p ≡ q → Room (length (reply_text (reply_of b q))) room r → Room (length (reply_text (reply_of b p))) room r
same_room b q e x = rw e x

pub same_row : (b : List ℕ) {p : ReplyParts} (q : ReplyParts) {r : ℕ} → p ≡ q → r ≡ parts_row b q → r ≡ parts_row b p
same_row b q e x = rw e x

-- ---- rows 2 and 4 to 9
module _ (b : List ℕ) (s t : Span) {x y r : ℕ} (q : r ≡ lower_row x y) where
  pub ok_row_lem : x ≡ hex_row 64 b s → y ≡ string_row b t → r ≡ ok_row b s t
  unfolding hex_row string_row
  ok_row_lem e f =
      q ∙ rw (e, f)
      (sym (ap (λ v. lowest_by (string2 b s || string2 b t) (string4 b s || string4 b t) (string5 b s || string5 b t) false v false) (sym (or-false (string7 64 b s)))
      ∙ lowest_lower (string2 b s) (string4 b s) (string5 b s) false (string7 64 b s) false (string2 b t) (string4 b t) (string5 b t) false false false))

  pub closed_row_lem : x ≡ subscription_row b s → y ≡ string_row b t → r ≡ closed_row b s t
  unfolding subscription_row string_row
  closed_row_lem e f =
      q ∙ rw (e, f)
      (sym (ap (λ v. lowest_by (string2 b s || string2 b t) (string4 b s || string4 b t) (string5 b s || string5 b t) false false v) (sym (or-false (subscription8 b s)))
      ∙ lowest_lower (string2 b s) (string4 b s) (string5 b s) false false (subscription8 b s) (string2 b t) (string4 b t) (string5 b t) false false false))

module _ (b : List ℕ) (s : Span) {r : ℕ} where
  pub eose_row_lem : r ≡ subscription_row b s → r ≡ eose_row b s
  unfolding subscription_row
  eose_row_lem e = e

  pub notice_row_lem : r ≡ string_row b s → r ≡ notice_row b s
  unfolding string_row
  notice_row_lem e = e

module _ (b : List ℕ) (s : Span) (p : EventParts) {x y r : ℕ} (q : r ≡ lower_row x y) (e : x ≡ subscription_row b s) (f : y ≡ event_row b p) where
  event_lower : r ≡ event_reply_row b s p
  unfolding subscription_row event_row
  event_lower =
      q ∙ rw (e, f)
      (sym (lowest_lower (string2 b s) (string4 b s) (string5 b s) false false (subscription8 b s) (event2 b p) (event4 b p) (event5 b p) (body6 p.body) (event7 b p) (body8 b p.body)))

  pub event_refused : (r ≡ 0 → ⊥) → r ≡ parts_row b (event_parts s p)
  event_refused n = event_lower ∙ sym (rw (ne_eqb (event_reply_row b s p) 0 (λ z. n (event_lower ∙ z))))

  module _ (z : r ≡ 0) {k : ℕ} (l : k ≡ length_of (text_of b p.body)) where
    pub event_large : 4096 < k → 9 ≡ parts_row b (event_parts s p)
    unfolding is_large
    event_large h = sym (rw (eq-eqb (event_reply_row b s p) 0 (sym event_lower ∙ z), lt-ltb 4096 (length (text_of b p.body)) (omega arith)))

    pub event_passes : k ≤ 4096 → 0 ≡ parts_row b (event_parts s p)
    unfolding is_large
    event_passes h = sym (rw (eq-eqb (event_reply_row b s p) 0 (sym event_lower ∙ z), le-ltb 4096 (length (text_of b p.body)) (omega arith)))

-- ---- how long a reply is
room_as : {x y room : ℕ} {r : Bool} → x ≡ y → Room x room r → Room y room r
room_as e m = rw e at m

-- lengths that are cut off where a number ends have no room anyway
cut_room : (f x y n k room : ℕ) {r : Bool} → 0 < f → room < 2 ^ 64 → n ≡ min x most_length → k ≡ min y most_length → Room (f + n + k) room r → Room (f + x + y) room r
cut_room f x y n k room h l e g m = record { yes = λ q. omega (arith, m.yes q); no = λ q. omega (arith, m.no q) }

none_cut : 0 ≡ min 0 most_length
none_cut = refl

-- what a string takes between its quotes
abbrev size : List ℕ → Span → ℕ
size b s = length (json_of (escape (said b s)))

module _ (b : List ℕ) {p : ReplyParts} {room : ℕ} (l : room < 2 ^ 64) {r : Bool} where
  pub eose_room : (s : Span) → p ≡ eose_parts s → {n : ℕ} → n ≡ length_of (json_of (escape (said b s))) → Room (11 + n + 0) room r → Room (length (reply_text (reply_of b p))) room r
  unfolding reply_text
  eose_room s q {n} e m = rw q (room_as is (cut_room 11 (size b s) 0 n 0 room (omega arith) l e none_cut m))
    where
      is : 11 + size b s + 0 ≡ length (reply_text (reply_of b (eose_parts s)))
      is = simp length-append (omega (arith, string_length (said b s)))

  pub notice_room : (s : Span) → p ≡ notice_parts s → {n : ℕ} → n ≡ length_of (json_of (escape (said b s))) → Room (13 + n + 0) room r → Room (length (reply_text (reply_of b p))) room r
  unfolding reply_text
  notice_room s q {n} e m = rw q (room_as is (cut_room 13 (size b s) 0 n 0 room (omega arith) l e none_cut m))
    where
      is : 13 + size b s + 0 ≡ length (reply_text (reply_of b (notice_parts s)))
      is = simp length-append (omega (arith, string_length (said b s)))

  module _ (s t : Span) {n k : ℕ} where
    pub closed_room : p ≡ closed_parts s t → n ≡ length_of (json_of (escape (said b s))) → k ≡ length_of (json_of (escape (said b t))) → Room (16 + n + k) room r
        → Room (length (reply_text (reply_of b p))) room r
    unfolding reply_text
    closed_room q e f m = rw q (room_as is (cut_room 16 (size b s) (size b t) n k room (omega arith) l e f m))
      where
        is : 16 + size b s + size b t ≡ length (reply_text (reply_of b (closed_parts s t)))
        is = simp length-append (omega (arith, string_length (said b s), string_length (said b t)))

    pub ok_room : (a : Bool) → p ≡ ok_parts s a t → n ≡ length_of (json_of (escape (said b s))) → k ≡ length_of (json_of (escape (said b t))) → {h : ℕ} → h ≡ length (truth a)
        → Room (13 + h + n + k) room r → Room (length (reply_text (reply_of b p))) room r
    unfolding reply_text
    ok_room a q e f {h} g m = rw q (room_as is (cut_room (13 + h) (size b s) (size b t) n k room (omega arith) l e f m))
      where
        is : 13 + h + size b s + size b t ≡ length (reply_text (reply_of b (ok_parts s a t)))
        is = simp length-append (omega (arith, g, string_length (said b s), string_length (said b t)))

-- ---- an EVENT of tested parts: id, pubkey and signature are hex
none_holds : (a b c d e f : Bool) → lowest_by a b c d e f ≡ 0 → (c ≡ false) × (e ≡ false)
none_holds true b c d e f z = absurd (omega arith)
none_holds false true c d e f z = absurd (omega arith)
none_holds false false true d e f z = absurd (omega arith)
none_holds false false false true e f z = absurd (omega arith)
none_holds false false false false true f z = absurd (omega arith)
none_holds false false false false false f z = (refl, refl)

hex_of_lem : (k : ℕ) (b : List ℕ) (s : Span) → string5 b s ≡ false → string7 k b s ≡ false → is_hex_of k (span_bytes b s) ≡ true
unfolding string5 string7
hex_of_lem k b s e f = not-false (is_hex_of k (span_bytes b s)) (rw (not-false (is_spelled b s) e) at f)

hex_length_lem : (k : ℕ) (l : List ℕ) → is_hex_of k l ≡ true → (length (decode l) ≡ k) × (has_control (decode l) ≡ false) × (length (string_json (decode l)) ≡ k + 2)
unfolding is_hex_of
hex_length_lem k l h =
    let (n, a) = both (eqb (length (decode l)) k) _ h in
    let m = eqb-true (length (decode l)) k n in
    let c = hex_none (decode l) a in
    (m, c, omega (arith, plain_length (decode l) (hex_escape (decode l) a) c))

module _ (b : List ℕ) (s : Span) (p : EventParts) (z : parts_row b (event_parts s p) ≡ 0) where
  tested_length : length (reply_text (reply_of b (event_parts s p))) ≡ length (json_of (text_of b p.body)) + length (json_of (escape (said b s))) + 266
  unfolding event5 event7 body5 body7 text_of event_of
  tested_length =
      let (y, l) = or_else_lem (event_reply_row b s p) _ z in
      let (f, g) = none_holds (string2 b s || event2 b p) (string4 b s || event4 b p) (string5 b s || event5 b p) (body6 p.body) (event7 b p) (subscription8 b s || body8 b p.body) y in
      let (f₁, f₂) = or_not (string5 b p.id) _ (or_not (string5 b s) _ f).1 in
      let (f₃, f₄) = or_not (body5 b p.body) _ f₂ in
      let (g₁, g₂) = or_not (string7 hex_length b p.id) _ g in
      let (g₃, g₄) = or_not (body7 b p.body) _ g₂ in
      let (i, x, i') = hex_length_lem 64 (span_bytes b p.id) (hex_of_lem 64 b p.id f₁ g₁) in
      let (k, n, k') = hex_length_lem 64 (span_bytes b p.body.pubkey) (hex_of_lem 64 b p.body.pubkey (or_not (string5 b p.body.pubkey) _ f₃).0 g₃) in
      let (j, w, j') = hex_length_lem 128 (span_bytes b p.sig) (hex_of_lem 128 b p.sig f₄ g₄) in
      event_length (said b s) (said b p.id) (said b p.sig) (event_of b p.body) i' k n k' j' ∙ omega (arith, string_length (said b s))

  pub event_room : {n m room : ℕ} {r : Bool} → room < 2 ^ 64 → n ≡ length_of (json_of (text_of b p.body)) → m ≡ length_of (json_of (escape (said b s))) → Room (266 + n + m) room r
      → Room (length (reply_text (reply_of b (event_parts s p)))) room r
  event_room {n} {m} {room} l e f x =
      room_as (let q = tested_length in omega (arith, q))
      (cut_room 266 (length (json_of (text_of b p.body))) (length (json_of (escape (said b s)))) n m room (omega arith) l e f x)

-- ---- what is answered
abbrev pub AsReplied : List ℕ → ReplyParts → List ℕ → Result ℕ ℕ → List ℕ → Type 0
AsReplied b p out w o = (w ≡ replied b p out) × ((written_number w ≡ reply_row b p out) × (o ≡ replied_out b p out))

module _ (b : List ℕ) (p : ReplyParts) (out : List ℕ) {x : ℕ} (e : x ≡ parts_row b p) where
  pub reply_refused : (x ≡ 0 → ⊥) → AsReplied b p out (Err x) out
  unfolding replied replied_out reply_row
  reply_refused n = refused (reply_text (reply_of b p)) out (parts_row b p) (short_row (reply_text (reply_of b p)) out) e n

  module _ (z : x ≡ 0) {f : Bool} (m : Room (length (reply_text (reply_of b p))) (length out) f) where
    pub reply_short : f ≡ false → AsReplied b p out (Err 13) out
    unfolding replied replied_out reply_row
    reply_short q =
        let (g, h) = too_short (reply_text (reply_of b p)) out (m.no q) in
        passed (reply_text (reply_of b p)) out (parts_row b p) (short_row (reply_text (reply_of b p)) out) (sym e ∙ z) g h

    pub reply_put : f ≡ true → {r : ℕ} {o : List ℕ} → Puts out 0 (reply_text (reply_of b p)) r o → AsReplied b p out (Ok r) o
    unfolding replied replied_out reply_row
    reply_put q y =
        let (g, h) = room_for (reply_text (reply_of b p)) out (m.yes q) y in
        passed (reply_text (reply_of b p)) out (parts_row b p) (short_row (reply_text (reply_of b p)) out) (sym e ∙ z) g h
