-- What a text without white space spells is read as JSON: a number of decimal digits, a member with its name, items one
-- after the other.
use Rattle.std.specs.Prelude.{Some}
use mathlib.Core.Bool.{Bool, true, false, cond}
use mathlib.Core.Path.{◌≡◌, refl, sym, ap, ◌∙◌}
use mathlib.Core.List.{List, [], ◌∷◌, ◌++◌, append_assoc}
use Prim.Native.Nat.{ℕ, suc, ◌+◌, ◌-◌, ◌≤◌, ◌<◌}
use native.Mathlib.Nat.{sub-zero}
use native.Mathlib.Omega.{arith}
use borrow.Author.Tests.{leb-true, eqb-true, ne_eqb}
use lib.Dec.{leb, eqb}
use lib.IntN.{ℤ, pos, negsuc}
use lib.ListN.{length, get_or, drop, length-append}
use lib.Seq.{take-append_seam}
use Rattle.wire.specs.Escape.{escape}
use Rattle.utf8.specs.Utf8.{utf8_from}
use Rattle.utf8.specs.declared.Want.TheVariants.{Lead}
use Rattle.json_tree.specs.Grammar.{in_class, run, past, one_at, digits_at, int_at, frac_at, exp_at, number_at, string_at, scalar_at}
use Rattle.json_tree.specs.Grammar.{head_at, next_at, start_at}
use Rattle.json_tree.specs.Tree.{Json, num, obj, Items, nil, item, got, items_at, tree_at}
use Rattle.json_tree.specs.declared.Class.TheVariants.{Digit, Byte}
use Rattle.json_tree.specs.declared.Start.TheVariants.{Leaf, Many}
use Rattle.json_tree.specs.declared.Next.TheVariants.{More, Done}
use Rattle.json_tree.proofs.Ends.{one_of, one_not}
use Rattle.json_tree.proofs.Trees.{tree_open, items_are}
use Rattle.numeral.specs.Decimal.{digits, decimal}
use Rattle.numeral.specs.Whole.{is_digit, all_digits, is_empty, is_natural}
use Rattle.numeral.proofs.Digits.{digits_all}
use Rattle.numeral.proofs.Wholes.{natural_digits}
use Rattle.rows.specs.Strings.{spelled_at}
use Rattle.text.specs.Event.{quoted}
use Rattle.text.proofs.Pieces.{Spelt, first_of, left, right, tail, byte_is, both}
use Rattle.utf8.proofs.States.{lead_low}
use Rattle.table.proofs.Strings.{ws_none, string_here}
use Rattle.table.proofs.Arrays.{Tight, token_is, token_not}

-- ---- digits
digit_bounds : (x : ℕ) → is_digit x ≡ true → (48 ≤ x) × (x ≤ 57)
unfolding is_digit
digit_bounds x e = let (p, q) = both (leb 48 x) _ e in (leb-true 48 x p, leb-true x 57 q)

digits_run : (l r : List ℕ) → all_digits l ≡ true → in_class Digit (get_or r 0 0) ≡ false → run Digit (l ++ r) ≡ length l
unfolding all_digits is_digit run in_class
digits_run [] [] e f = refl
digits_run [] (x ∷ r) e f = rw f
digits_run (x ∷ l) r e f = let (p, q) = both (is_digit x) _ e in rw (p, digits_run l r q f)

digits_utf8 : (l : List ℕ) → all_digits l ≡ true → utf8_from Lead l ≡ true
unfolding all_digits utf8_from
digits_utf8 [] e = refl
digits_utf8 (x ∷ l) e = let (p, q) = both (is_digit x) _ e in let (a, b) = digit_bounds x p in lead_low x l (omega arith) (digits_utf8 l q)

pub decimal_utf8 : (z : ℤ) → utf8_from Lead (decimal z) ≡ true
unfolding decimal utf8_from
decimal_utf8 (pos n) = digits_utf8 (digits n) (digits_all n)
decimal_utf8 (negsuc n) = lead_low 45 (digits (suc n)) (omega arith) (digits_utf8 (digits (suc n)) (digits_all (suc n)))

natural_bounds : (x : ℕ) (l : List ℕ) → is_natural (x ∷ l) ≡ true → (48 ≤ x) × (x ≤ 57)
unfolding is_natural all_digits
natural_bounds x l e = go (eqb x 48) refl e
  where
    go : (t : Bool) → eqb x 48 ≡ t → cond t (is_empty l) (all_digits (x ∷ l)) ≡ true → (48 ≤ x) × (x ≤ 57)
    go true q f = let z = eqb-true x 48 q in (omega arith, omega arith)
    go false q f = digit_bounds x (both (is_digit x) _ f).0

-- ---- a number, and a comma after it
module _ (s : List ℕ) where
  natural_here : (l : List ℕ) (at n : ℕ) → is_natural l ≡ true → Spelt s at l n → get_or s n 0 ≡ 44 → int_at s at ≡ Some n
  unfolding int_at one_at in_class digits_at is_natural all_digits is_digit past
  natural_here [] at n e a c = absurd (let z : ◌≡◌ {A = ℕ} 0 1 = cc in omega arith)
  natural_here (x ∷ l) at n e a c = go (eqb x 48) refl e
    where
      alone : (l : List ℕ) → is_empty l ≡ true → Spelt s at (x ∷ l) n → at + 1 ≡ n
      alone [] f b = omega (arith, b.end)
      alone (y ∷ l) f b = absurd (let z : ◌≡◌ {A = ℕ} 0 1 = cc in omega arith)

      go : (t : Bool) → eqb x 48 ≡ t → cond t (is_empty l) (all_digits (x ∷ l)) ≡ true → int_at s at ≡ Some n
      go true q f = rw (byte_is a, q) (ap Some (alone l f a))
      go false q f =
          let (p, r) = both (is_digit x) _ f in
          let b = tail a in
          let k : run Digit (l ++ drop n s) ≡ length l = digits_run l (drop n s) r (rw (sym (first_of s n (drop n s) refl), c)) in
          let z : at + 1 + length l ≡ n = omega (arith, b.end) in
          rw (byte_is a, q, p, b.is, k) (ap Some z)

  -- what stands at n ends a number
  number_ends : (n : ℕ) → get_or s n 0 ≡ 44 → (frac_at s n ≡ Some n) × (exp_at s n ≡ Some n)
  unfolding frac_at exp_at one_at in_class
  number_ends n c = (rw c, rw c)

  number_here : (z : ℤ) (at n : ℕ) → Spelt s at (decimal z) n → get_or s n 0 ≡ 44 → number_at s at ≡ Some n
  unfolding decimal number_at in_class is_natural
  number_here (pos k) at n a c = go (digits k) (natural_digits k) a
    where
      go : (l : List ℕ) → is_natural l ≡ true → Spelt s at l n → number_at s at ≡ Some n
      go [] e a = absurd (let z : ◌≡◌ {A = ℕ} 0 1 = cc in omega arith)
      go (x ∷ l) e a =
          let (p, q) = natural_bounds x l e in
          let (f, g) = number_ends n c in
          rw (one_not s (Byte 0x2D) at (rw (byte_is a, ne_eqb x 45 (λ z. omega arith))), natural_here (x ∷ l) at n e a c, f, g)
  number_here (negsuc k) at n a c =
      let (f, g) = number_ends n c in
      rw (one_of s (Byte 0x2D) at (rw (byte_is a)), natural_here (digits (suc k)) (at + 1) n (natural_digits (suc k)) (tail a) c, f, g)

  -- it begins with a minus or a digit
  number_first : (z : ℤ) (at n : ℕ) → Spelt s at (decimal z) n → (45 ≤ get_or s at 0) × (get_or s at 0 ≤ 57)
  unfolding decimal is_natural
  number_first (pos k) at n a = go (digits k) (natural_digits k) a
    where
      go : (l : List ℕ) → is_natural l ≡ true → Spelt s at l n → (45 ≤ get_or s at 0) × (get_or s at 0 ≤ 57)
      go [] e a = absurd (let z : ◌≡◌ {A = ℕ} 0 1 = cc in omega arith)
      go (x ∷ l) e a = let (p, q) = natural_bounds x l e in let z = byte_is a in (omega arith, omega arith)
  number_first (negsuc k) at n a = let z = byte_is a in (omega arith, omega arith)

  pub number_tight : (z : ℤ) (at n : ℕ) → Spelt s at (decimal z) n → Tight s at
  unfolding in_class
  number_tight z at n a =
      let (p, q) = number_first z at n a in
      let b = get_or s at 0 in
      rw (ne_eqb b 0x20 (λ z. omega arith), ne_eqb b 0x09 (λ z. omega arith), ne_eqb b 0x0A (λ z. omega arith), ne_eqb b 0x0D (λ z. omega arith))

  pub number_read : (d : ℕ) (z : ℤ) (at n : ℕ) → Spelt s at (decimal z) n → get_or s n 0 ≡ 44 → tree_at s (suc d) at ≡ got (num at (n - at)) n
  unfolding scalar_at string_at one_at in_class
  number_read d z at n a c =
      let (p, q) = number_first z at n a in
      let b = get_or s at 0 in
      let o : start_at s at ≡ Leaf = rw (token_not s 0x5B at (ne_eqb b 0x5B (λ z. omega arith)), token_not s 0x7B at (ne_eqb b 0x7B (λ z. omega arith))) in
      tree_open s d at Leaf (sym o) ∙ rw (ne_eqb b 0x22 (λ z. omega arith), number_here z at n a c) (ap (got (num at (n - at))) (ws_none s n (rw c)))

  -- ---- a member: its name w, its value's text x, and the byte c after it
  pub record Member (w x r : List ℕ) (c at v n e : ℕ) : Type 0 where
    pub head : Tight s v → head_at s at true ≡ Some v
    pub name : spelled_at s at ≡ w
    pub value : Spelt s v x n
    pub next : get_or s n 0 ≡ c
    pub rest : Spelt s (n + 1) r e

  pub member : (w x r : List ℕ) (c at e : ℕ) → escape w ≡ w → Spelt s at (34 ∷ (w ++ (34 ∷ 58 ∷ (x ++ (c ∷ r))))) e
      → Member w x r c at (at + 1 + length w + 1 + 1) (at + 1 + length w + 1 + 1 + length x) e
  unfolding quoted spelled_at in_class
  member w x r c at e z a =
      let y : List ℕ = 58 ∷ (x ++ (c ∷ r)) in
      let q : 34 ∷ (w ++ (34 ∷ y)) ≡ (34 ∷ (w ++ (34 ∷ []))) ++ y = sym (ap (λ l. 34 ∷ l) (append_assoc w (34 ∷ []) y)) in
      let b : Spelt s at (34 ∷ (w ++ (34 ∷ []))) (at + length (34 ∷ (w ++ (34 ∷ [])))) = left (34 ∷ (w ++ (34 ∷ []))) y (rw q at a) in
      let m : at + length (34 ∷ (w ++ (34 ∷ []))) ≡ at + 1 + length w + 1 = simp length-append (omega arith) in
      let k : Spelt s at (quoted w) (at + 1 + length w + 1) = rw z (rw m at b) in
      let g = string_here s w at (at + 1 + length w + 1) k in
      let t = tail a in
      let o = right w (34 ∷ y) t in
      let colon = tail o in
      let d = tail colon in
      let f = right x (c ∷ r) d in
      let j : at + 1 + length w + 1 - at - 2 ≡ length w = omega arith in
      record {
        head = λ i. rw (g, ws_none s (at + 1 + length w + 1) (rw (byte_is colon)), token_is s 0x3A (at + 1 + length w + 1) (byte_is colon) i);
        name = rw (g, j, t.is, append_assoc, take-append_seam w);
        value = left x (c ∷ r) d;
        next = byte_is f;
        rest = tail f;
      }

  -- ---- items
  pub item_more : (d : ℕ) (named : Bool) (k at v n j m : ℕ) (t : Json) (us : Items) → k < length s → head_at s at named ≡ Some v → tree_at s d v ≡ got t n
      → next_at s n named ≡ More j → items_at (tree_at s d) s named (length s - (k + 1)) j ≡ got us m
      → items_at (tree_at s d) s named (length s - k) at ≡ got (item at v t us) m
  item_more d named k at v n j m t us l h e y i = items_are (tree_at s d) s named k at v n t (More j) l h e y ∙ rw i

  pub item_last : (d : ℕ) (named : Bool) (k at v n m : ℕ) (t : Json) → k < length s → head_at s at named ≡ Some v → tree_at s d v ≡ got t n
      → next_at s n named ≡ Done m → items_at (tree_at s d) s named (length s - k) at ≡ got (item at v t nil) m
  item_last d named k at v n m t l h e y = items_are (tree_at s d) s named k at v n t (Done m) l h e y

  -- a brace closes
  pub next_closed : (n : ℕ) → get_or s n 0 ≡ 125 → Tight s (n + 1) → next_at s n true ≡ Done (n + 1)
  next_closed n e w = rw (token_not s 0x2C n (rw e), token_is s 0x7D n e w)

  pub object_read : (d at n : ℕ) (us : Items) → get_or s at 0 ≡ 123 → get_or s (at + 1) 0 ≡ 34 → items_at (tree_at s d) s true (length s - 0) (at + 1) ≡ got us n
      → tree_at s (suc d) at ≡ got (obj us) n
  unfolding in_class
  object_read d at n us e f i =
      let z : start_at s at ≡ Many (at + 1) true = rw (token_not s 0x5B at (rw e), token_is s 0x7B at e (rw f), token_not s 0x7D (at + 1) (rw f)) in
      tree_open s d at (Many (at + 1) true) (sym z) ∙ rw (rw sub-zero at i)
