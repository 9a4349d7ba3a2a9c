-- The EVENTs of slots in a row, each a line: how they are written, how long they are, and how many of them a room has.
use Rattle.std.specs.Prelude.{Some, None}
use mathlib.Core.Path.{◌≡◌, refl, sym, ap, ap₂, ◌∙◌}
use mathlib.Core.Bool.{Bool, true, false, cond}
use mathlib.Core.List.Memᴰ
use mathlib.Core.List.{List, [], ◌∷◌, ◌++◌, append-nil}
use Prim.Native.Nat.{ℕ, suc, ◌+◌, ◌-◌, ◌^◌, ◌≤◌, ◌<◌, min}
use native.Mathlib.Numerals.{add-one}
use native.Mathlib.Omega.{arith}
use borrow.Author.Tests.{lt-ltb, le-ltb, ltb-true, ltb-false}
use lib.Dec.{ltb}
use lib.ListN.{length, get_or, drop, length-append, drop_of_length-le}
use lib.Seq.{drop-cons}
use Rattle.wire.specs.Put.{Puts}
use Rattle.wire.specs.Escape.{escape, json_of}
use Rattle.wire.proofs.Laws.{put_out, length_put, puts_then, puts_out}
use Rattle.text.specs.Read.{Read, too_large, wrong_shape, read, read_text}
use Rattle.law.specs.Lists.{◌∈◌}
use Rattle.event.specs.Lent.{most_length, length_of}
use Rattle.table.specs.Layout.{count_of, slot_at, text_in}
use Rattle.table.specs.Sound.{sound}
use Rattle.reply.specs.Replies.{reply_text}
use Rattle.program.specs.Program.{event_replies, events_of, written}
use Rattle.program.specs.Respond.{first_text, slot_line}
use Rattle.program.proofs.Lines.{written_append}
use Rattle.program.proofs.Sizes.{line_length}
use Rattle.slot_replies.specs.Inner.{held_text, held_line, line_size, sizes, stopped, fitted_in}
use Rattle.slot_replies.specs.Left.{lines_size, left_in}
use Rattle.slot_replies.specs.declared.Fitted.{Fitted}

-- ---- one line
-- a text and 0A, or nothing
data Line (l t : List ℕ) : Type 0 where
  nothing : l ≡ [] → t ≡ [] → Line l t
  ended : l ≡ t ++ (0x0a ∷ []) → 0 < length t → Line l t

line_is : (sub s : List ℕ) → Line (held_line sub s) (held_text sub s)
unfolding held_line held_text written reply_text
line_is sub s = go (read_text (text_in s))
  where
    go : (r : Read) → Line (written (event_replies sub s r)) (first_text (event_replies sub s r))
    go too_large = nothing refl refl
    go wrong_shape = nothing refl refl
    go (read e) = ended (append-nil _) (omega arith)

-- where writing the text did not move on there is none, or no room for it
stays : {l t d o : List ℕ} {i n : ℕ} → Line l t → Puts d i t n o → n ≡ i → Puts d i l n o
stays (nothing e f) p q = rw e (rw f at p)
stays {t = t} {d} {o} {i} {n} (ended e h) p q =
    let l : length o ≡ length d = ap length p.bytes ∙ length_put d i t in
    let full : length o ≡ n = omega (arith, p.next) in
    rw e (puts_then p (rw full at (puts_out o n (0x0a ∷ []) (omega arith))))

goes_on : {l t d o o' : List ℕ} {i n r : ℕ} → Line l t → Puts d i t n o → (n ≡ i → ⊥) → Puts o n (0x0a ∷ []) r o' → Puts d i l r o'
goes_on {l} {t} {d} {o} {i = i} {n = n} (nothing e f) p q x =
    let a : Puts d i [] n o = rw f at p in
    let m : length o ≡ length d = ap length a.bytes ∙ length_put d i [] in
    let out : length o ≤ n = omega (arith, a.next) in
    rw e (record { next = omega (arith, a.next, x.next); bytes = x.bytes ∙ put_out o n (0x0a ∷ []) out ∙ a.bytes })
goes_on (ended e h) p q x = rw e (puts_then p x)

module _ (sub s : List ℕ) {d o : List ℕ} {i n : ℕ} (p : Puts d i (held_text sub s) n o) where
  pub line_stays : n ≡ i → Puts d i (held_line sub s) n o
  line_stays q = stays (line_is sub s) p q

  pub line_ended : {r : ℕ} {o' : List ℕ} → (n ≡ i → ⊥) → Puts o n (0x0a ∷ []) r o' → Puts d i (held_line sub s) r o'
  line_ended q x = goes_on (line_is sub s) p q x

-- ---- lines in a row
pub lines_turn : (b sub ks : List ℕ) (i : ℕ) → i < length ks
    → written (events_of b sub (drop i ks)) ≡ held_line sub (slot_at b (get_or ks i 0)) ++ written (events_of b sub (drop (i + 1) ks))
unfolding held_line events_of
lines_turn b sub ks i h = rw (drop-cons ks i 0 h, add-one i) (written_append _ _)

pub lines_none : (b sub ks : List ℕ) (i : ℕ) → length ks ≤ i → written (events_of b sub (drop i ks)) ≡ []
unfolding events_of written
lines_none b sub ks i h = rw (drop_of_length-le ks {i = i} h) refl

pub line_at : (b sub : List ℕ) {s d o : List ℕ} {k n i r : ℕ} → k ≡ n → s ≡ slot_at b k → Puts d i (held_line sub s) r o → Puts d i (held_line sub (slot_at b n)) r o
line_at b sub q e p = rw (ap (held_line sub) (e ∙ ap (slot_at b) q)) at p

-- how long the lines of held slots of a sound table are
one_size : (b sub : List ℕ) (k : ℕ) → sound b ≡ true → k < count_of b → length (held_line sub (slot_at b k)) ≡ length (json_of (text_in (slot_at b k))) + length (json_of (escape sub)) + 267
unfolding held_line slot_line
one_size b sub k s h = rw (lt-ltb k (count_of b) h) at (line_length b k s h sub)

pub lines_size_lem : (b sub ks : List ℕ) → sound b ≡ true → ((k : ℕ) → k ∈ ks → k < count_of b) → length (written (events_of b sub ks)) ≡ lines_size b sub ks
unfolding held_line events_of written lines_size
lines_size_lem b sub [] s h = refl
lines_size_lem b sub (k ∷ ks) s h =
    ap length (written_append (event_replies sub (slot_at b k) (read_text (text_in (slot_at b k)))) (events_of b sub ks))
    ∙ length-append (held_line sub (slot_at b k)) (written (events_of b sub ks))
    ∙ ap₂ ◌+◌ (one_size b sub k s (h k (Memᴰ.head refl))) (lines_size_lem b sub ks s (λ j i. h j (Memᴰ.tail i)))

-- ---- what is left of a room
left_none : (l : ℕ) → Some l ≡ left_in l 0
unfolding left_in
left_none l = let z : l ≡ l - 0 = omega arith in rw (le-ltb l 0 (omega arith)) (ap Some z)

left_turn : (l m n : ℕ) → m ≤ l → left_in l (m + n) ≡ left_in (l - m) n
unfolding left_in
left_turn l m n h = go (ltb l (m + n)) refl
  where
    go : (t : Bool) → ltb l (m + n) ≡ t → cond t None (Some (l - (m + n))) ≡ cond (ltb (l - m) n) None (Some (l - m - n))
    go true e = let k = ltb-true l (m + n) e in rw (lt-ltb (l - m) n (omega arith)) refl
    go false e = let k = ltb-false l (m + n) e in let z : l - (m + n) ≡ l - m - n = omega arith in rw (le-ltb (l - m) n (omega arith), z) refl

left_short : (l m : ℕ) → l < m → None ≡ left_in l m
unfolding left_in
left_short l m h = rw (lt-ltb l m h) refl

left_room : (l m x : ℕ) → m ≤ l → x ≡ l - m → Some x ≡ left_in l m
unfolding left_in
left_room l m x h e = rw (le-ltb l m h, e) refl

-- what an answer says of the sizes
pub short_is : (l m : ℕ) → None ≡ left_in l m → l < m
unfolding left_in
short_is l m = go (ltb l m) refl
  where
    go : (t : Bool) → ltb l m ≡ t → None ≡ cond t None (Some (l - m)) → l < m
    go true e q = ltb-true l m e
    go false e q = absurd (let y : ◌≡◌ {A = ℕ} 0 1 = cc in omega arith)

pub room_is : (l m x : ℕ) → Some x ≡ left_in l m → (m ≤ l) × (x ≡ l - m)
unfolding left_in
room_is l m x = go (ltb l m) refl
  where
    go : (t : Bool) → ltb l m ≡ t → Some x ≡ cond t None (Some (l - m)) → (m ≤ l) × (x ≡ l - m)
    go true e q = absurd (let y : ◌≡◌ {A = ℕ} 0 1 = cc in omega arith)
    go false e q = (ltb-false l m e, cc)

-- one line, by what its text takes
module _ (s : List ℕ) (n room : ℕ) {t : ℕ} (f : t ≡ length (json_of (text_in s))) where
  pub no_head : room < t + 267 → None ≡ left_in room (length (json_of (text_in s)) + n + 267)
  no_head h = left_short room _ (omega (arith, f))

  pub no_name : t + 267 ≤ room → room - (t + 267) < n → None ≡ left_in room (length (json_of (text_in s)) + n + 267)
  no_name g h = left_short room _ (omega (arith, f))

  pub rest_left : t + 267 ≤ room → n ≤ room - (t + 267) → Some (room - (t + 267) - n) ≡ left_in room (length (json_of (text_in s)) + n + 267)
  rest_left g h = left_room room _ _ (omega (arith, f)) (omega (arith, f))

-- ---- how many fit
module _ (b ks : List ℕ) (n i l : ℕ) where
  pub fitted_end : length ks ≤ i → stopped i l ≡ fitted_in i l (sizes b n (drop i ks))
  unfolding fitted_in
  fitted_end h = rw (drop_of_length-le ks {i = i} h) refl

  module _ (h : i < length ks) {k : ℕ} {s : List ℕ} (ek : k ≡ get_or ks i 0) (es : s ≡ slot_at b k) where
    size : length (json_of (text_in s)) + n + 267 ≡ length (json_of (text_in (slot_at b (get_or ks i 0)))) + n + 267
    size = ap (λ v. length (json_of (text_in v)) + n + 267) (es ∙ ap (slot_at b) ek)

    pub fitted_stop : None ≡ left_in l (length (json_of (text_in s)) + n + 267) → stopped i l ≡ fitted_in i l (sizes b n (drop i ks))
    unfolding fitted_in
    fitted_stop q = rw (drop-cons ks i 0 h, lt-ltb l (length (json_of (text_in (slot_at b (get_or ks i 0)))) + n + 267) (omega (arith, size, short_is l _ q))) refl

    pub fitted_turn : {x : ℕ} → Some x ≡ left_in l (length (json_of (text_in s)) + n + 267) → fitted_in i l (sizes b n (drop i ks)) ≡ fitted_in (i + 1) x (sizes b n (drop (i + 1) ks))
    unfolding fitted_in
    fitted_turn {x} q =
        let (g, e) = room_is l _ x q in
        let z : x ≡ l - (length (json_of (text_in (slot_at b (get_or ks i 0)))) + n + 267) = e ∙ ap (l -◌) size in
        rw (drop-cons ks i 0 h, le-ltb l (length (json_of (text_in (slot_at b (get_or ks i 0)))) + n + 267) (omega (arith, size)), z, add-one i) refl

-- a size that is cut off where a number ends has no room anyway
pub cut_fitted : (b : List ℕ) (n m : ℕ) → n ≡ min m most_length → (i room : ℕ) → room < 2 ^ 64 → (ks : List ℕ) → fitted_in i room (sizes b n ks) ≡ fitted_in i room (sizes b m ks)
unfolding fitted_in
cut_fitted b n m e i room h [] = refl
cut_fitted b n m e i room h (k ∷ ks) = go (ltb room (line_size b m k)) refl (λ l. cut_fitted b n m e (i + 1) (room - line_size b m k) (omega arith) ks)
  where
    go : (t : Bool) → ltb room (line_size b m k) ≡ t → (Unit {0} → fitted_in (i + 1) (room - line_size b m k) (sizes b n ks) ≡ fitted_in (i + 1) (room - line_size b m k) (sizes b m ks))
        → cond (ltb room (line_size b n k)) (stopped i room) (fitted_in (i + 1) (room - line_size b n k) (sizes b n ks))
        ≡ cond t (stopped i room) (fitted_in (i + 1) (room - line_size b m k) (sizes b m ks))
    go true q ih = rw (lt-ltb room (line_size b n k) (omega (arith, e, ltb-true room (line_size b m k) q)))
    go false q ih =
        let l = ltb-false room (line_size b m k) q in
        let z : n ≡ m = omega (arith, e) in
        rw (z, q) (rw z at (ih tt))

-- what all leave
module _ (b sub : List ℕ) where
  abbrev size_of : ℕ → ℕ
  size_of k = line_size b (length (json_of (escape sub))) k

  abbrev each : List ℕ → List ℕ
  each ks = sizes b (length (json_of (escape sub))) ks

  all_left : (i room : ℕ) (ks : List ℕ) → i + length ks ≤ (fitted_in i room (each ks)).lines → Some (fitted_in i room (each ks)).left ≡ left_in room (lines_size b sub ks)
  unfolding fitted_in lines_size
  all_left i room [] h = left_none room
  all_left i room (k ∷ ks) h = go (ltb room (size_of k)) refl (all_left (i + 1) (room - size_of k) ks) h
    where
      go : (t : Bool) → ltb room (size_of k) ≡ t
          → (i + 1 + length ks ≤ (fitted_in (i + 1) (room - size_of k) (each ks)).lines → Some (fitted_in (i + 1) (room - size_of k) (each ks)).left ≡ left_in (room - size_of k) (lines_size b sub ks))
          → i + suc (length ks) ≤ (cond t (stopped i room) (fitted_in (i + 1) (room - size_of k) (each ks))).lines
          → Some (cond t (stopped i room) (fitted_in (i + 1) (room - size_of k) (each ks))).left ≡ left_in room (size_of k + lines_size b sub ks)
      go true e ih q = absurd (omega arith)
      go false e ih q = ih (omega arith) ∙ sym (left_turn room (size_of k) (lines_size b sub ks) (ltb-false room (size_of k) e))

  too_many : (i room : ℕ) (ks : List ℕ) → (fitted_in i room (each ks)).lines < i + length ks → None ≡ left_in room (lines_size b sub ks)
  unfolding fitted_in lines_size
  too_many i room [] h = absurd (omega arith)
  too_many i room (k ∷ ks) h = go (ltb room (size_of k)) refl (too_many (i + 1) (room - size_of k) ks) h
    where
      go : (t : Bool) → ltb room (size_of k) ≡ t
          → ((fitted_in (i + 1) (room - size_of k) (each ks)).lines < i + 1 + length ks → None ≡ left_in (room - size_of k) (lines_size b sub ks))
          → (cond t (stopped i room) (fitted_in (i + 1) (room - size_of k) (each ks))).lines < i + suc (length ks)
          → None ≡ left_in room (size_of k + lines_size b sub ks)
      go true e ih q = left_short room (size_of k + lines_size b sub ks) (omega (arith, ltb-true room (size_of k) e))
      go false e ih q = ih (omega arith) ∙ sym (left_turn room (size_of k) (lines_size b sub ks) (ltb-false room (size_of k) e))

  module _ (ks : List ℕ) (room : ℕ) (h : room < 2 ^ 64) {n : ℕ} {f : Fitted} (en : n ≡ length_of (json_of (escape sub))) (ef : f ≡ fitted_in 0 room (sizes b n ks)) where
    fitted_is : f ≡ fitted_in 0 room (each ks)
    fitted_is = ef ∙ cut_fitted b n (length (json_of (escape sub))) en 0 room h ks

    pub all_fit : length ks ≤ f.lines → Some f.left ≡ left_in room (lines_size b sub ks)
    all_fit g = ap (λ v. Some v.left) fitted_is ∙ all_left 0 room ks (omega (arith, ap (λ v. v.lines) fitted_is))

    pub not_all_fit : f.lines < length ks → None ≡ left_in room (lines_size b sub ks)
    not_all_fit g = too_many 0 room ks (omega (arith, ap (λ v. v.lines) fitted_is))
