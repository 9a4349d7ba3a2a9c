-- A character of UTF-8 ends before and after each byte below 80. So what stands between two such edges of a text is
-- UTF-8: a string between its quotes, an array or an object with the white space after it.
use Rattle.std.specs.Prelude.{Option, Some, None}
use mathlib.Core.Path.{◌≡◌, refl, sym, ap, ◌∙◌}
use mathlib.Core.List.{List, [], ◌∷◌, ◌++◌}
use mathlib.Core.Bool.{Bool, true, false, cond, ◌||◌, false≢true}
use mathlib.Core.Logic.{⊎_elim}
use Prim.Native.Nat.{ℕ, suc, ◌+◌, ◌-◌, ◌<◌, ◌≤◌}
use native.Mathlib.Nat.{zero-add}
use native.Mathlib.Numerals.{add-one}
use native.Mathlib.Decide.{dec_le, dec_lt}
use native.Mathlib.Omega.{arith}
use borrow.Author.Tests.{eqb-true}
use lib.Dec.{eqb}
use lib.ListN.{length, get_or, take, drop, take-append-drop, get_or-eq_default}
use lib.Seq.{take-suc, take-nil, drop-cons, take-add}
use Rattle.utf8.specs.declared.Want.{Want}
use Rattle.utf8.specs.declared.Want.TheVariants.{Lead, Bad}
use Rattle.utf8.specs.Utf8.{next_want, ends, utf8_from, is_utf8}
use Rattle.utf8.proofs.States.{Reached, lead_reached, next_reached, low_next, low_turn}
use Rattle.json_tree.specs.Grammar.{case, in_class, run, past, ws_at, token_at, close_of, opened_at, start_at, chars_at, string_at}
use Rattle.json_tree.specs.Tree.{Json, Items, Got}
use Rattle.json_tree.specs.declared.Start.TheVariants.{Leaf, Empty, Many}
use Rattle.json_tree.specs.declared.Next.TheVariants.{More, Done, Wrong}
use Rattle.json_tree.proofs.Ends.{then_end, one_is, byte_is}
use Rattle.json_tree.proofs.Spelled.{string_parts}
use Rattle.rows.specs.Strings.{part}
use Rattle.message.proofs.Walks.{Walk, last, more}
use Rattle.message.proofs.Elements.{Group, hollow, filled}

-- ---- the state after some bytes
abbrev state : Want → List ℕ → Want
state w [] = w
state w (x ∷ s) = state (next_want w x) s

from_state : (w : Want) (s : List ℕ) → utf8_from w s ≡ ends (state w s)
unfolding utf8_from
from_state w [] = refl
from_state w (x ∷ s) = from_state (next_want w x) s

state_append : (w : Want) (s t : List ℕ) → state w (s ++ t) ≡ state (state w s) t
state_append w [] t = refl
state_append w (x ∷ s) t = state_append (next_want w x) s t

state_bad : (s : List ℕ) → state Bad s ≡ Bad
state_bad [] = refl
state_bad (x ∷ s) = state_bad s

state_reached : (w : Want) (s : List ℕ) → Reached w → Reached (state w s)
state_reached w [] r = r
state_reached w (x ∷ s) r = state_reached (next_want w x) s (next_reached w x r)

-- ---- edges
abbrev pub Edge : List ℕ → ℕ → Type 0
Edge s x = state Lead (take x s) ≡ Lead

module _ (s : List ℕ) (u : is_utf8 s ≡ true) where
  pub low_edges : (x : ℕ) → x < length s → get_or s x 0 < 0x80 → Edge s x × Edge s (x + 1)
  unfolding is_utf8
  low_edges x h l = ⊎_elim here (λ q. absurd (false≢true (sym (stuck q) ∙ u))) (low_turn (get_or s x 0) l (state_reached Lead (take x s) lead_reached))
    where
      after : state Lead (take (x + 1) s) ≡ next_want (state Lead (take x s)) (get_or s x 0)
      after = rw (add-one, take-suc s x 0 h) (state_append Lead (take x s) (get_or s x 0 ∷ []))

      here : (state Lead (take x s) ≡ Lead) × (next_want (state Lead (take x s)) (get_or s x 0) ≡ Lead) → (state Lead (take x s) ≡ Lead) × (state Lead (take (x + 1) s) ≡ Lead)
      here (p, q) = (p, after ∙ q)

      stuck : next_want (state Lead (take x s)) (get_or s x 0) ≡ Bad → utf8_from Lead s ≡ false
      stuck q =
          from_state Lead s
          ∙ ap ends (ap (state Lead) (sym (take-append-drop x s)) ∙ state_append Lead (take x s) (drop x s) ∙ ap (state (state Lead (take x s))) (drop-cons s x 0 h)
          ∙ ap (λ w. state w (drop (suc x) s)) q ∙ state_bad (drop (suc x) s))

pub between : (s : List ℕ) (a e : ℕ) → Edge s a → Edge s e → is_utf8 (part s a (e - a)) ≡ true
unfolding is_utf8 utf8_from
between s a e p q = elim (dec_le a e) [
  | yes h ↦
      let z : a + (e - a) ≡ e = omega arith in
      let w : state Lead (part s a (e - a)) ≡ Lead =
      sym (ap (λ w. state w (part s a (e - a))) p) ∙ sym (state_append Lead (take a s) (part s a (e - a))) ∙ sym (ap (state Lead) (take-add a (e - a) s)) ∙ ap (λ (n : ℕ). state Lead (take n s)) z ∙ q in
      from_state Lead (part s a (e - a)) ∙ ap ends w
  | no h ↦ let z : e - a ≡ 0 = omega arith in rw z
]

-- ---- white space
abbrev is_space : ℕ → Bool
is_space b = eqb b 0x20 || (eqb b 0x09 || (eqb b 0x0A || eqb b 0x0D))

space_low : (b : ℕ) → is_space b ≡ true → b < 0x80
space_low b e = go (eqb b 0x20) (eqb b 0x09) (eqb b 0x0A) (eqb b 0x0D) refl refl refl refl e
  where
    is : (n : ℕ) → n < 0x80 → eqb b n ≡ true → b < 0x80
    is n h q = let z = eqb-true b n q in omega arith

    go : (w x y z : Bool) → eqb b 0x20 ≡ w → eqb b 0x09 ≡ x → eqb b 0x0A ≡ y → eqb b 0x0D ≡ z → (w || (x || (y || z))) ≡ true → b < 0x80
    go true x y z p q r t e = is 0x20 (omega arith) p
    go false true y z p q r t e = is 0x09 (omega arith) q
    go false false true z p q r t e = is 0x0A (omega arith) r
    go false false false true p q r t e = is 0x0D (omega arith) t
    go false false false false p q r t e = absurd (false≢true e)

one_more : (c : Bool) (r : ℕ) → 0 + cond c (suc r) 0 ≡ cond c (suc (0 + r)) 0
one_more true r = omega arith
one_more false r = refl

ws_cons : (b : ℕ) (l : List ℕ) → ws_at (b ∷ l) 0 ≡ cond (is_space b) (suc (ws_at l 0)) 0
unfolding past run in_class
ws_cons b l = one_more (is_space b) _

spaces : (l : List ℕ) → state Lead (take (ws_at l 0) l) ≡ Lead
spaces [] = ap (state Lead) (take-nil (ws_at [] 0))
spaces (b ∷ l) = rw (ws_cons b l) (go (is_space b) refl (spaces l))
  where
    go : (c : Bool) → is_space b ≡ c → state Lead (take (ws_at l 0) l) ≡ Lead → state Lead (take (cond c (suc (ws_at l 0)) 0) (b ∷ l)) ≡ Lead
    go true e h = ap (λ w. state w (take (ws_at l 0) l)) (low_next b (space_low b e)) ∙ h
    go false e h = refl

ws_split : (s : List ℕ) (x : ℕ) → ws_at s x ≡ x + ws_at (drop x s) 0
unfolding past
ws_split s x = ap (λ (n : ℕ). x + n) (sym (zero-add _))

ws_edge : (s : List ℕ) (x : ℕ) → Edge s x → Edge s (ws_at s x)
ws_edge s x e =
    let n = ws_at (drop x s) 0 in
    rw (ws_split s x)
    (ap (state Lead) (take-add x n s) ∙ state_append Lead (take x s) (take n (drop x s)) ∙ ap (λ w. state w (take n (drop x s))) e ∙ spaces (drop x s))

-- ---- brackets, braces, quotes
held : (s : List ℕ) (x b : ℕ) → 0 < b → get_or s x 0 ≡ b → x < length s
held s x b h e = elim (dec_lt x (length s)) [
  | yes l ↦ l
  | no l ↦ let k : length s ≤ x = omega arith in let z = get_or-eq_default s 0 k in absurd (omega arith)
]

module _ (s : List ℕ) (u : is_utf8 s ≡ true) where
  byte_edges : (b x : ℕ) → 0 < b → b < 0x80 → get_or s x 0 ≡ b → Edge s x × Edge s (x + 1)
  byte_edges b x h l e = low_edges s u x (held s x b h e) (omega arith)

  token_edges : (b x n : ℕ) → 0 < b → b < 0x80 → token_at s b x ≡ Some n → Edge s x × Edge s n
  unfolding token_at
  token_edges b x n h l e =
      let (k, p, r) = then_end _ _ e in
      let (i, j) = byte_edges b x h l (byte_is s b x p) in
      let z : x + 1 ≡ k = (one_is s _ x p).1 in
      let y : ws_at s k ≡ n = cc in
      (i, rw (← y, ← z) (ws_edge s (x + 1) j))

  close_edge : (named : Bool) (x n : ℕ) → token_at s (close_of named) x ≡ Some n → Edge s n
  close_edge true x n e = (token_edges 0x7D x n (omega arith) (omega arith) e).1
  close_edge false x n e = (token_edges 0x5D x n (omega arith) (omega arith) e).1

  walk_edge : {value : ℕ → Got Json} {named : Bool} {f i : ℕ} {ts : Items} {n : ℕ} → Walk value s named f i ts n → Edge s n
  walk_edge {named = named} {n = n} (last {m = m} h w q) = comma (token_at s 0x2C m) q
    where
      close : (o : Option ℕ) → token_at s (close_of named) m ≡ o → case o Done Wrong ≡ Done n → Edge s n
      close (Some k) p e = let z : k ≡ n = cc in close_edge named m n (rw z at p)
      close None p e = absurd (let z : ◌≡◌ {A = ℕ} 0 1 = cc in omega arith)

      comma : (o : Option ℕ) → case o More (case (token_at s (close_of named) m) Done Wrong) ≡ Done n → Edge s n
      comma (Some k) e = absurd (let z : ◌≡◌ {A = ℕ} 0 1 = cc in omega arith)
      comma None e = close (token_at s (close_of named) m) refl e
  walk_edge (more h w q r) = walk_edge r

  opened_edge : (named : Bool) {named' : Bool} (x n : ℕ) → opened_at s x named ≡ Empty n named' → Edge s n
  opened_edge named {named'} x n e = on (token_at s (close_of named) x) refl e
    where
      on : (o : Option ℕ) → token_at s (close_of named) x ≡ o → case o (λ k. Empty k named) (Many x named) ≡ Empty n named' → Edge s n
      on (Some k) p q = let z : k ≡ n = cc in close_edge named x n (rw z at p)
      on None p q = absurd (let z : ◌≡◌ {A = ℕ} 0 1 = cc in omega arith)

  -- brackets or braces around nothing, and around items
  start_edges : (x : ℕ) {n : ℕ} {named : Bool} → start_at s x ≡ Empty n named → Edge s x × Edge s n
  start_edges x {n} {named} e = square (token_at s 0x5B x) refl e
    where
      curly : (o : Option ℕ) → token_at s 0x7B x ≡ o → case o (λ k. opened_at s k true) Leaf ≡ Empty n named → Edge s x × Edge s n
      curly (Some k) p q = ((token_edges 0x7B x k (omega arith) (omega arith) p).0, opened_edge true k n q)
      curly None p q = absurd (let z : ◌≡◌ {A = ℕ} 0 1 = cc in omega arith)

      square : (o : Option ℕ) → token_at s 0x5B x ≡ o → case o (λ k. opened_at s k false) (case (token_at s 0x7B x) (λ k. opened_at s k true) Leaf) ≡ Empty n named → Edge s x × Edge s n
      square (Some k) p q = ((token_edges 0x5B x k (omega arith) (omega arith) p).0, opened_edge false k n q)
      square None p q = curly (token_at s 0x7B x) refl q

  many_edge : (x : ℕ) {i : ℕ} {named : Bool} → start_at s x ≡ Many i named → Edge s x
  many_edge x {i} {named} e = square (token_at s 0x5B x) refl e
    where
      curly : (o : Option ℕ) → token_at s 0x7B x ≡ o → case o (λ k. opened_at s k true) Leaf ≡ Many i named → Edge s x
      curly (Some k) p q = (token_edges 0x7B x k (omega arith) (omega arith) p).0
      curly None p q = absurd (let z : ◌≡◌ {A = ℕ} 0 1 = cc in omega arith)

      square : (o : Option ℕ) → token_at s 0x5B x ≡ o → case o (λ k. opened_at s k false) (case (token_at s 0x7B x) (λ k. opened_at s k true) Leaf) ≡ Many i named → Edge s x
      square (Some k) p q = (token_edges 0x5B x k (omega arith) (omega arith) p).0
      square None p q = curly (token_at s 0x7B x) refl q

  -- ---- so parts of the text are UTF-8
  pub group_utf8 : {x n : ℕ} {named : Bool} {ts : Items} → Group s x named ts n → is_utf8 (part s x (n - x)) ≡ true
  group_utf8 {x} {n} (hollow p) = let (i, j) = start_edges x p in between s x n i j
  group_utf8 {x} {n} (filled p w) = between s x n (many_edge x p) (walk_edge w)

  pub string_utf8 : (x k : ℕ) → string_at s x ≡ Some k → is_utf8 (part s (x + 1) (k - x - 2)) ≡ true
  string_utf8 x k e =
      let (p, l, q, h, m) = string_parts s x k e in
      let c = chars_at s (x + 1) in
      let z : c - (x + 1) ≡ k - x - 2 = omega (arith, l) in
      let i = (byte_edges 0x22 x (omega arith) (omega arith) (byte_is s 0x22 x p)).1 in
      let j = (byte_edges 0x22 c (omega arith) (omega arith) (byte_is s 0x22 c q)).0 in
      rw z at (between s (x + 1) c i j)
