-- The pieces of a short reply in a row, and how long it is.
use Rattle.std.specs.Prelude.{Option, Some, None, Result, Ok, Err}
use mathlib.Core.Path.{◌≡◌, refl, sym, ap, ap₂, ◌∙◌}
use mathlib.Core.Bool.{Bool, true, false, cond}
use mathlib.Core.List.{List, [], ◌∷◌, ◌++◌, map, append_assoc}
use Prim.Native.Nat.{ℕ, zero, suc, ◌+◌, ◌^◌, ◌≤◌, ◌<◌, min}
use native.Mathlib.Omega.{arith}
use borrow.Author.Tests.{le-leb, lt-leb}
use lib.Dec.{leb, lit≤}
use lib.ListN.{length, get_or, length-append}
use Rattle.wire.specs.Put.{Puts}
use Rattle.wire.specs.Escape.{escape, json_of}
use Rattle.wire.proofs.Laws.{puts_then}
use Rattle.text.specs.Event.{quoted}
use Rattle.numeral.specs.Decimal.{digits}
use Rattle.numeral.proofs.Digits.{digits_20}
use Rattle.shape.specs.Rows.{message_row}
use Rattle.shape.specs.declared.Refusal.{Refusal}
use Rattle.shape.specs.Offsets.{plain_refusal, refusal_for}
use Rattle.shape.proofs.Offsets.{refusal_own, offset_other, offset_plain}
use Rattle.message.specs.Read.{named_of, naming_of}
use Rattle.message.specs.declared.Span.{Span}
use Rattle.message.specs.declared.Named.{Named}
use Rattle.message.specs.declared.Naming.{Naming}
use Rattle.message.specs.declared.Named.TheVariants.{Id, Subscription, Nothing}
use Rattle.event.specs.Lent.{said, most_length, length_of}
use Rattle.table.specs.declared.Offered.{Offered}
use Rattle.wire.specs.Ascii.{ascii}
use Rattle.reply.specs.Replies.{notice, string_json, reply_text, truth, reasons, reason_of, offset_text, refusal_reason}
use Rattle.reply.proofs.Reasons.{row_short, reason_json, reason_length}
use Rattle.program.specs.Program.{is_accepted, verdict_reason}
use Rattle.program.specs.Program.{refusal_naming, reason_for, refusal}
use Rattle.program.proofs.Sizes.{string_length}
use Rattle.replies.specs.Inner.{Room}
use Rattle.responses.specs.Inner.{open_text, end_text, verdict_text, ok_text, closed_text, notice_text, named_for}
use Rattle.responses.specs.Inner.{naming_for, naming_text, eose_line}
use Rattle.responses.specs.Refused.{refused_text}

-- ---- reasons
-- a row that has none
pub reason_none : (r : ℕ) → (r ≡ 1 → ⊥) → (r ≡ 2 → ⊥) → (r ≡ 3 → ⊥) → (r ≡ 4 → ⊥) → (r ≡ 5 → ⊥) → (r ≡ 6 → ⊥) → (r ≡ 7 → ⊥) → (r ≡ 8 → ⊥) → (r ≡ 9 → ⊥) → (r ≡ 10 → ⊥)
    → (r ≡ 11 → ⊥) → (r ≡ 12 → ⊥) → reason_of r ≡ []
unfolding reason_of
reason_none zero n1 n2 n3 n4 n5 n6 n7 n8 n9 n10 n11 n12 = refl
reason_none (suc zero) n1 n2 n3 n4 n5 n6 n7 n8 n9 n10 n11 n12 = absurd (n1 refl)
reason_none (suc (suc zero)) n1 n2 n3 n4 n5 n6 n7 n8 n9 n10 n11 n12 = absurd (n2 refl)
reason_none (suc (suc (suc zero))) n1 n2 n3 n4 n5 n6 n7 n8 n9 n10 n11 n12 = absurd (n3 refl)
reason_none (suc (suc (suc (suc zero)))) n1 n2 n3 n4 n5 n6 n7 n8 n9 n10 n11 n12 = absurd (n4 refl)
reason_none (suc (suc (suc (suc (suc zero))))) n1 n2 n3 n4 n5 n6 n7 n8 n9 n10 n11 n12 = absurd (n5 refl)
reason_none (suc (suc (suc (suc (suc (suc zero)))))) n1 n2 n3 n4 n5 n6 n7 n8 n9 n10 n11 n12 = absurd (n6 refl)
reason_none (suc (suc (suc (suc (suc (suc (suc zero))))))) n1 n2 n3 n4 n5 n6 n7 n8 n9 n10 n11 n12 = absurd (n7 refl)
reason_none (suc (suc (suc (suc (suc (suc (suc (suc zero)))))))) n1 n2 n3 n4 n5 n6 n7 n8 n9 n10 n11 n12 = absurd (n8 refl)
reason_none (suc (suc (suc (suc (suc (suc (suc (suc (suc zero))))))))) n1 n2 n3 n4 n5 n6 n7 n8 n9 n10 n11 n12 = absurd (n9 refl)
reason_none (suc (suc (suc (suc (suc (suc (suc (suc (suc (suc zero)))))))))) n1 n2 n3 n4 n5 n6 n7 n8 n9 n10 n11 n12 = absurd (n10 refl)
reason_none (suc (suc (suc (suc (suc (suc (suc (suc (suc (suc (suc zero))))))))))) n1 n2 n3 n4 n5 n6 n7 n8 n9 n10 n11 n12 = absurd (n11 refl)
reason_none (suc (suc (suc (suc (suc (suc (suc (suc (suc (suc (suc (suc zero)))))))))))) n1 n2 n3 n4 n5 n6 n7 n8 n9 n10 n11 n12 = absurd (n12 refl)
reason_none (suc (suc (suc (suc (suc (suc (suc (suc (suc (suc (suc (suc (suc r))))))))))))) n1 n2 n3 n4 n5 n6 n7 n8 n9 n10 n11 n12 = refl

pub row_put : (k : ℕ) {row : ℕ} {d o : List ℕ} {i r : ℕ} → row ≡ k → Puts d i (open_text k) r o → Puts d i (open_text row) r o
row_put k e p = rw e p

pub rest_put : (row : ℕ) {d o : List ℕ} {i r : ℕ} → reason_of row ≡ [] → Puts d i (34 ∷ []) r o → Puts d i (open_text row) r o
rest_put row e p = rw e p

-- how long they are between quotes, from row 0 on
abbrev lengths : List ℕ
lengths = 2 ∷ 27 ∷ 20 ∷ 19 ∷ 29 ∷ 22 ∷ 17 ∷ 14 ∷ 26 ∷ 26 ∷ 28 ∷ 18 ∷ 16 ∷ []

each_length : map (λ l. length l + 2) reasons ≡ lengths
each_length = refl

entry : (f : List ℕ → ℕ) (l : List (List ℕ)) (i : ℕ) → i < length l → get_or (map f l) i 0 ≡ f (get_or l i [])
entry f [] i h = absurd (omega arith)
entry f (x ∷ l) zero h = refl
entry f (x ∷ l) (suc i) h = entry f l i (omega arith)

no_entry : (l : List (List ℕ)) (i : ℕ) → length l ≤ i → get_or l i [] ≡ []
no_entry [] i h = refl
no_entry (x ∷ l) zero h = absurd (omega arith)
no_entry (x ∷ l) (suc i) h = no_entry l i (omega arith)

pub row_length : (row : ℕ) → row < 13 → (get_or lengths row 0 ≡ length (reason_of row) + 2) × (get_or lengths row 0 ≤ 29)
unfolding reason_of
row_length row h =
    let e : get_or lengths row 0 ≡ length (reason_of row) + 2 = ap (λ l. get_or l row 0) (sym each_length) ∙ entry (λ l. length l + 2) reasons row h in
    (e, omega (arith, e, row_short row))

pub rest_length : (row : ℕ) → 13 ≤ row → (2 ≡ length (reason_of row) + 2) × (2 ≤ 29)
unfolding reason_of
rest_length row h = (rw (no_entry reasons row h), lit≤ tt)

-- the offset and the quote behind it
pub absent_put : {x : Option ℕ} {d o : List ℕ} {i r : ℕ} → x ≡ None → Puts d i (34 ∷ []) r o → Puts d i (end_text x) r o
absent_put e p = rw e p

pub offset_put : {x : Option ℕ} (p : ℕ) {d o₁ o₂ o₃ : List ℕ} {i a b r : ℕ} → x ≡ Some p → Puts d i (ascii " at ") a o₁ → Puts o₁ a (digits p) b o₂ → Puts o₂ b (34 ∷ []) r o₃
    → Puts d i (end_text x) r o₃
offset_put p e y₁ y₂ y₃ = rw (e, append_assoc (ascii " at ") (digits p) (34 ∷ [])) (puts_then y₁ (puts_then y₂ y₃))

pub offset_length : {x : Option ℕ} (p : ℕ) {n : ℕ} → x ≡ Some p → p < 2 ^ 64 → n ≡ length (digits p) → (4 + n ≡ length (offset_text x)) × (4 + n ≤ 24)
offset_length p e h f = (rw e (omega (arith, f, length-append (ascii " at ") (digits p))), omega (arith, f, digits_20 p h))

-- ---- a reason
module _ (x : Refusal) where
  pub reason_put : {d o₁ o₂ : List ℕ} {i a r : ℕ} → Puts d i (open_text x.row) a o₁ → Puts o₁ a (end_text x.offset) r o₂ → Puts d i (string_json (refusal_reason x)) r o₂
  reason_put y₁ y₂ = rw (reason_json x) (puts_then y₁ y₂)

  pub reason_sum : {k n : ℕ} → (k ≡ length (reason_of x.row) + 2) × (k ≤ 29) → (n ≡ length (offset_text x.offset)) × (n ≤ 24)
      → (k + n ≡ length (string_json (refusal_reason x))) × (k + n ≤ 53)
  reason_sum (e, h) (f, l) = (omega (arith, e, f, reason_length x), omega arith)

-- ---- verdicts
pub verdict_put : {a : Result Offered Refusal} {v : Offered} (w : Offered) {d o : List ℕ} {i r : ℕ} → a ≡ Ok v → v ≡ w → Puts d i (verdict_text (Ok w)) r o
    → Puts d i (verdict_text a) r o
verdict_put w e f p = rw (e, f) p

pub false_put : {a : Result Offered Refusal} (x : Refusal) {d o₁ o₂ : List ℕ} {i k r : ℕ} → a ≡ Err x → Puts d i (ascii "false,") k o₁ → Puts o₁ k (string_json (refusal_reason x)) r o₂
    → Puts d i (verdict_text a) r o₂
unfolding verdict_text
false_put x e y z = rw e (puts_then y z)

pub refused_length : (x : Refusal) → length (verdict_text (Err x)) ≡ 6 + length (string_json (refusal_reason x))
unfolding verdict_text
refused_length x = simp length-append (omega arith)

pub verdict_length : {a : Result Offered Refusal} {v : Offered} (w : Offered) (n : ℕ) → a ≡ Ok v → v ≡ w → n ≡ length (verdict_text (Ok w)) → n ≤ 59
    → (n ≡ length (verdict_text a)) × (n ≤ 59)
verdict_length w n e f q h = (rw (e, f) q, h)

pub false_length : {a : Result Offered Refusal} (x : Refusal) {n : ℕ} → a ≡ Err x → (n ≡ length (string_json (refusal_reason x))) × (n ≤ 53) → (6 + n ≡ length (verdict_text a)) × (6 + n ≤ 59)
false_length x e (f, h) = (rw e (omega (arith, f, refused_length x)), omega arith)

-- ---- the short replies
pub ok_put : (i : List ℕ) (a : Result Offered Refusal) {d o₁ o₂ o₃ o₄ o₅ : List ℕ} {j a₁ a₂ a₃ a₄ r : ℕ} → Puts d j (ascii "[\"OK\",") a₁ o₁ → Puts o₁ a₁ (json_of (quoted i)) a₂ o₂ → Puts o₂ a₂ (ascii ",") a₃ o₃
    → Puts o₃ a₃ (verdict_text a) a₄ o₄ → Puts o₄ a₄ (ascii "]") r o₅ → Puts d j (ok_text i a) r o₅
unfolding ok_text reply_text verdict_text string_json
ok_put i a x₁ x₂ x₃ x₄ x₅ =
    rw (← regroup (ascii "[\"OK\",") (string_json i) (ascii ",") (truth (is_accepted a)) (ascii ",") (string_json (verdict_reason a)) (ascii "]"))
    (puts_then x₁ (puts_then x₂ (puts_then x₃ (puts_then x₄ x₅))))
  where
    regroup : (a b c d e f g : List ℕ) → a ++ (b ++ (c ++ ((d ++ (e ++ f)) ++ g))) ≡ a ++ (b ++ (c ++ (d ++ (e ++ (f ++ g)))))
    regroup a b c d e f g = simp append_assoc

pub closed_put : (s : List ℕ) (x : Refusal) {d o₁ o₂ o₃ o₄ o₅ : List ℕ} {j a₁ a₂ a₃ a₄ r : ℕ} → Puts d j (ascii "[\"CLOSED\",") a₁ o₁ → Puts o₁ a₁ (json_of (quoted s)) a₂ o₂ → Puts o₂ a₂ (ascii ",") a₃ o₃
    → Puts o₃ a₃ (string_json (refusal_reason x)) a₄ o₄ → Puts o₄ a₄ (ascii "]") r o₅ → Puts d j (closed_text s x) r o₅
unfolding closed_text reply_text string_json
closed_put s x x₁ x₂ x₃ x₄ x₅ = puts_then x₁ (puts_then x₂ (puts_then x₃ (puts_then x₄ x₅)))

pub notice_put : (x : Refusal) {d o₁ o₂ o₃ : List ℕ} {j a₁ a₂ r : ℕ} → Puts d j (ascii "[\"NOTICE\",") a₁ o₁ → Puts o₁ a₁ (string_json (refusal_reason x)) a₂ o₂ → Puts o₂ a₂ (ascii "]") r o₃
    → Puts d j (notice_text x) r o₃
unfolding notice_text reply_text
notice_put x x₁ x₂ x₃ = puts_then x₁ (puts_then x₂ x₃)

pub eose_put : (s : List ℕ) {d o₁ o₂ o₃ : List ℕ} {j a₁ a₂ r : ℕ} → Puts d j (ascii "[\"EOSE\",") a₁ o₁ → Puts o₁ a₁ (json_of (quoted s)) a₂ o₂ → Puts o₂ a₂ (93 ∷ 0x0a ∷ []) r o₃ → Puts d j (eose_line s) r o₃
unfolding eose_line reply_text string_json
eose_put s x₁ x₂ x₃ = rw (append_assoc (string_json s) (ascii "]") (0x0a ∷ [])) (puts_then x₁ (puts_then x₂ x₃))

-- ---- how long they are
pub ok_length : (i : List ℕ) (a : Result Offered Refusal) → length (ok_text i a) ≡ 8 + length (string_json i) + length (verdict_text a)
unfolding ok_text reply_text verdict_text
ok_length i a = simp length-append (omega arith)

closed_length : (s : List ℕ) (x : Refusal) → length (closed_text s x) ≡ 12 + length (string_json s) + length (string_json (refusal_reason x))
unfolding closed_text reply_text
closed_length s x = simp length-append (omega arith)

notice_length : (x : Refusal) → length (notice_text x) ≡ 11 + length (string_json (refusal_reason x))
unfolding notice_text reply_text
notice_length x = simp length-append (omega arith)

pub eose_length : (s : List ℕ) → length (eose_line s) ≡ 12 + length (json_of (escape s))
unfolding eose_line reply_text
eose_length s = simp length-append (omega (arith, string_length s))

room_as : {x y room : ℕ} {r : Bool} → x ≡ y → Room x room r → Room y room r
room_as e w = rw e at w

-- a length that is cut off where a number ends has no room anyway
pub cut_room : (f x n room : ℕ) {r : Bool} → 0 < f → room < 2 ^ 64 → n ≡ min x most_length → Room (f + n) room r → Room (f + x) room r
cut_room f x n room h l e m = record { yes = λ q. omega (arith, m.yes q); no = λ q. omega (arith, m.no q) }

-- ---- the reply to a refusal, by what it names
module _ (m : List ℕ) (x : Naming) where
  abbrev why : Refusal
  why = x.refusal

  module _ {d o : List ℕ} {r : ℕ} where
    pub id_put : (p : Span) → x.named ≡ Id p → Puts d 0 (ok_text (said m p) (Err why)) r o → Puts d 0 (naming_text m x) r o
    unfolding naming_text ok_text
    id_put p e y = rw e y

    pub sub_put : (p : Span) → x.named ≡ Subscription p → Puts d 0 (closed_text (said m p) why) r o → Puts d 0 (naming_text m x) r o
    unfolding naming_text closed_text
    sub_put p e y = rw e y

    pub none_put : x.named ≡ Nothing → Puts d 0 (notice_text why) r o → Puts d 0 (naming_text m x) r o
    unfolding naming_text notice_text
    none_put e y = rw e y

  naming_length : (n : Named) → x.named ≡ n → length (reply_text (refusal_naming m n (refusal_reason why))) ≡ length (naming_text m x)
  unfolding naming_text
  naming_length n e = ap (λ y. length (reply_text (refusal_naming m y (refusal_reason why)))) (sym e)

  module _ {k : ℕ} (l : (k ≡ length (string_json (refusal_reason why))) × (k ≤ 53)) {room : ℕ} (few : room < 2 ^ 64) {r : Bool} where
    pub id_room : (p : Span) → x.named ≡ Id p → {h : ℕ} → h ≡ length_of (json_of (escape (said m p))) → Room (16 + k + h) room r → Room (length (naming_text m x)) room r
    unfolding ok_text
    id_room p e {h} f w = room_as (is ∙ naming_length (Id p) e) (cut_room (16 + k) (length (json_of (escape (said m p)))) h room (omega arith) few f w)
      where
        is : 16 + k + length (json_of (escape (said m p))) ≡ length (ok_text (said m p) (Err why))
        is = omega (arith, l.0, ok_length (said m p) (Err why), refused_length why, string_length (said m p))

    pub sub_room : (p : Span) → x.named ≡ Subscription p → {h : ℕ} → h ≡ length_of (json_of (escape (said m p))) → Room (14 + k + h) room r → Room (length (naming_text m x)) room r
    unfolding closed_text
    sub_room p e {h} f w = room_as (is ∙ naming_length (Subscription p) e) (cut_room (14 + k) (length (json_of (escape (said m p)))) h room (omega arith) few f w)
      where
        is : 14 + k + length (json_of (escape (said m p))) ≡ length (closed_text (said m p) why)
        is = omega (arith, l.0, closed_length (said m p) why, string_length (said m p))

    pub none_room : x.named ≡ Nothing → Room (11 + k + 0) room r → Room (length (naming_text m x)) room r
    unfolding notice_text
    none_room e w = room_as (is ∙ naming_length Nothing e) w
      where
        is : 11 + k + 0 ≡ length (notice_text why)
        is = omega (arith, l.0, notice_length why)

-- ---- what the reply to a refusal by a row says
abbrev says : Refusal → Named → Naming
says r n = record { refusal = r; named = n }

module _ (m : List ℕ) (row : ℕ) where
  pub naming_early : {r : Refusal} → r ≡ plain_refusal row → row ≤ 5 → says r Nothing ≡ naming_for m row
  unfolding named_for
  naming_early e h = rw (e, offset_plain m row (λ q. omega arith) (λ q. omega arith), le-leb row 5 h)

  module _ {x : Naming} (e : x ≡ naming_of m) (h : 5 < row) where
    late : named_of m ≡ named_for m row
    unfolding named_for
    late = rw (lt-leb row 5 h)

    own : x.refusal.row ≡ message_row m
    own = ap (λ y. y.refusal.row) e

    pub naming_own : x.refusal.row ≡ row → x ≡ naming_for m row
    naming_own q = e ∙ ap₂ says (sym (ap (refusal_for m) (sym q ∙ own) ∙ refusal_own m)) late

    pub naming_other : {r : Refusal} → r ≡ plain_refusal row → (x.refusal.row ≡ row → ⊥) → says r x.named ≡ naming_for m row
    naming_other f n =
        ap₂ says (f ∙ ap (λ y. record { row = row; offset = y }) (sym (offset_other m row (λ q. n (own ∙ sym q))))) (ap (λ y. y.named) e ∙ late)

  pub naming_is : naming_text m (naming_for m row) ≡ refused_text m row
  unfolding naming_text named_for refused_text refusal
  naming_is = go (leb row 5)
    where
      go : (t : Bool) → reply_text (refusal_naming m (cond t Nothing (named_of m)) (reason_for m row)) ≡ reply_text (cond t (notice (reason_for m row)) (refusal_naming m (named_of m) (reason_for m row)))
      go true = refl
      go false = refl
