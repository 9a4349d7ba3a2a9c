-- What is a value by the rules is taken by json_tree's definition, from and up to the white space at its two ends.
use Rattle.std.specs.Prelude.{Option, Some, None}
use mathlib.Core.Path.{◌≡◌, refl, sym, ap, ◌∙◌}
use mathlib.Core.Logic.{inr}
use mathlib.Core.List.{List}
use mathlib.Core.Bool.{Bool, true, false}
use Prim.Native.Nat.{ℕ, zero, suc, ◌+◌, ◌-◌, ◌≤◌}
use native.Mathlib.Nat.{sub-zero}
use native.Mathlib.Omega.{arith}
use lib.ListN.{length, get_or, get_or-eq_default}
use borrow.Author.Tests.{eq-eqb}
use Rattle.json_tree.specs.Grammar.{in_class, ws_at, one_at, token_at, close_of, opened_at, start_at, head_at, next_at}
use Rattle.json_tree.specs.Tree.{depth, end_of, node, items_at, tree_at, is_text}
use Rattle.json_tree.specs.declared.Class.TheVariants.{Space, Byte}
use Rattle.json_tree.specs.declared.Start.TheVariants.{Leaf, Empty, Many}
use Rattle.json_tree.specs.declared.Next.TheVariants.{More, Done}
use Rattle.json_tree.proofs.Bytes.{past_none}
use Rattle.json_tree.proofs.Ends.{then_end, byte_is}
use Rattle.json_tree.proofs.Trees.{tree_open, end_items, end_items_lem, fold_next}
use Rattle.grammar.specs.Rfc.{◌∣◌, token, literal, number, string, open_of, Value, plain, empty, group, Items}
use Rattle.grammar.specs.Rfc.{last, more, Item, value, member, Text}
use Rattle.grammar.proofs.Terms.{star_past, token_byte, token_taken}
use Rattle.grammar.proofs.Clean.{text_clean}
use Rattle.grammar.proofs.Strings.{string_taken}
use Rattle.grammar.proofs.Numbers.{Stops}
use Rattle.grammar.proofs.Firsts.{Quiet, ws_quiet, lead, plain_place, plain_taken, string_from, plain_from}
use Rattle.grammar.proofs.Firsts.{token_from}

-- ---- structural characters are no white space, and no number goes on with one
open_solid : (named : Bool) → in_class Space (open_of named) ≡ false
unfolding in_class
open_solid true = refl
open_solid false = refl

close_solid : (named : Bool) → in_class Space (close_of named) ≡ false
unfolding in_class
close_solid true = refl
close_solid false = refl

close_quiet : (named : Bool) → Quiet (close_of named)
unfolding in_class
close_quiet true = (refl, refl, refl)
close_quiet false = (refl, refl, refl)

module _ (s : List ℕ) where
  token_stops : (b at n : ℕ) → Quiet b → token s b at n → Stops s at
  token_stops b at n q t = ws_quiet s at t.0 t.1 (rw (token_byte s b at n t) q)

  token_is : (b at n : ℕ) → token_at s b at ≡ Some n → get_or s at 0 ≡ b
  unfolding token_at
  token_is b at n e = byte_is s b at (then_end (one_at s (Byte b) at) _ e).1

  token_bad : (b at : ℕ) → (get_or s at 0 ≡ b → ⊥) → token_at s b at ≡ None
  token_bad b at h = go (token_at s b at) refl
    where
      go : (o : Option ℕ) → token_at s b at ≡ o → o ≡ None
      go (Some n) e = absurd (h (token_is b at n e))
      go None e = refl

  -- ---- what begins at a place
  start_open : (named : Bool) (at a : ℕ) → token_at s (open_of named) at ≡ Some a → start_at s at ≡ opened_at s a named
  start_open false at a e = rw e
  start_open true at a e = let r = token_is 0x7B at a e in rw (token_bad 0x5B at (λ q. omega arith), e)

  start_leaf : (at n : ℕ) → (literal s ∣ number s ∣ string s) at n → start_at s at ≡ Leaf
  unfolding in_class
  start_leaf at n e =
      let p = token_bad 0x5B at (λ q. lead s at n e (rw q (refl, refl, refl, refl, refl, refl, refl))) in
      let r = token_bad 0x7B at (λ q. lead s at n e (rw q (refl, refl, refl, refl, refl, refl, refl))) in
      rw (p, r)

  leaf_taken : (d at n : ℕ) → Stops s n → (literal s ∣ number s ∣ string s) at n → end_of (tree_at s d (ws_at s at)) ≡ Some (ws_at s n)
  unfolding tree_at
  leaf_taken zero at n t e = let (k, p, q) = plain_taken s at n t e in rw (plain_place s at n e, p) q
  leaf_taken (suc d) at n t e =
      let (k, p, q) = plain_taken s at n t e in
      rw (plain_place s at n e) (ap end_of (tree_open s d at Leaf (sym (start_leaf at n e))) ∙ rw p q)

  -- ---- items begin with no closing bracket or brace
  open_first : (named : Bool) (at a : ℕ) → token s (open_of named) at a → get_or s (ws_at s at) 0 ≡ 0x5D → ⊥
  open_first true at a t q = let e = token_is 0x7B (ws_at s at) (ws_at s a) (token_taken s 0x7B at a (open_solid true) t) in omega arith
  open_first false at a t q = let e = token_is 0x5B (ws_at s at) (ws_at s a) (token_taken s 0x5B at a (open_solid false) t) in omega arith

  item_first : (d : ℕ) (named : Bool) (at n : ℕ) → Item s d named at n → get_or s (ws_at s at) 0 ≡ close_of named → ⊥
  unfolding in_class
  item_first d named at n (value (plain e)) q = lead s at n e (rw (sym (plain_place s at n e), q) (refl, refl, refl, refl, refl, refl, refl))
  item_first d named at n (value (empty {a = a} inner t r)) q = open_first inner at a t q
  item_first d named at n (value (group {a = a} inner t is r)) q = open_first inner at a t q
  item_first d named at n (member {a = a} e t v) q = lead s at a (inr (inr e)) (rw (sym (plain_place s at a (inr (inr e))), q) (refl, refl, refl, refl, refl, refl, refl))

  items_first : (d : ℕ) (named : Bool) (at n : ℕ) → Items s d named at n → token_at s (close_of named) (ws_at s at) ≡ None
  items_first d named at n (last i) = token_bad (close_of named) (ws_at s at) (item_first d named at n i)
  items_first d named at n (more {a = a} i t is) = token_bad (close_of named) (ws_at s at) (item_first d named at a i)

  -- ---- what follows an item
  done : (named : Bool) (at n : ℕ) → token s (close_of named) at n → next_at s (ws_at s at) named ≡ Done (ws_at s n)
  done true at n t =
      let e = token_taken s 0x7D at n (close_solid true) t in
      let r = token_is 0x7D (ws_at s at) (ws_at s n) e in
      rw (token_bad 0x2C (ws_at s at) (λ q. omega arith), e)
  done false at n t =
      let e = token_taken s 0x5D at n (close_solid false) t in
      let r = token_is 0x5D (ws_at s at) (ws_at s n) e in
      rw (token_bad 0x2C (ws_at s at) (λ q. omega arith), e)

  next : (named : Bool) (at n : ℕ) → token s 0x2C at n → next_at s (ws_at s at) named ≡ More (ws_at s n)
  unfolding in_class
  next named at n t = rw (token_taken s 0x2C at n refl t)

  name_taken : (at a v : ℕ) → string s at a → token s 0x3A a v → head_at s (ws_at s at) true ≡ Some (ws_at s v)
  unfolding in_class
  name_taken at a v e t = rw (plain_place s at a (inr (inr e)), string_taken s at a e) (token_taken s 0x3A a v refl t)

-- ---- no rule goes back
mutual
  value_from_lem : (s : List ℕ) (d at n : ℕ) → Value s d at n → at ≤ n
  value_from_lem s d at n (plain e) = plain_from s at n e
  value_from_lem s d at n (empty {a = a} named t r) = let p = token_from s (open_of named) at a t in let q = token_from s (close_of named) a n r in omega arith
  value_from_lem s d at n (group {d = k} {a = a} {b = b} named t is r) =
      let p = token_from s (open_of named) at a t in
      let h = items_from s k named a b is in
      let q = token_from s (close_of named) b n r in
      omega arith

  items_from : (s : List ℕ) (d : ℕ) (named : Bool) (at n : ℕ) → Items s d named at n → at ≤ n
  items_from s d named at n (last i) = item_from s d named at n i
  items_from s d named at n (more {a = a} {b = b} i t is) =
      let p = item_from s d named at a i in
      let q = token_from s 0x2C a b t in
      let h = items_from s d named b n is in
      omega arith

  item_from : (s : List ℕ) (d : ℕ) (named : Bool) (at n : ℕ) → Item s d named at n → at ≤ n
  item_from s d named at n (value v) = value_from_lem s d at n v
  item_from s d named at n (member {a = a} {b = b} e t v) =
      let p = string_from s at a e in
      let q = token_from s 0x3A a b t in
      let h = value_from_lem s d b n v in
      omega arith

-- ---- the definition takes what the rules take
mutual
  unfolding in_class

  pub value_taken : (s : List ℕ) (d at n : ℕ) → Value s d at n → Stops s n → end_of (tree_at s d (ws_at s at)) ≡ Some (ws_at s n)
  value_taken s d at n (plain e) t = leaf_taken s d at n t e
  value_taken s d at n (empty {d = k} {a = a} named o c) t =
      let p = start_open s named (ws_at s at) (ws_at s a) (token_taken s (open_of named) at a (open_solid named) o) in
      let q = token_taken s (close_of named) a n (close_solid named) c in
      ap end_of (tree_open s k (ws_at s at) (Empty (ws_at s n) named) (sym (p ∙ rw q)))
  value_taken s d at n (group {d = k} {a = a} {b = b} named o is c) t =
      let p = start_open s named (ws_at s at) (ws_at s a) (token_taken s (open_of named) at a (open_solid named) o) in
      let q = items_first s k named a b is in
      ap end_of (tree_open s k (ws_at s at) (Many (ws_at s a) named) (sym (p ∙ rw q)))
      ∙ sym (end_items_lem (node named) (items_at (tree_at s k) s named (length s) (ws_at s a)))
      ∙ (rw sub-zero at (items_taken s k named a b is n c 0 (omega arith)))

  -- k items were read before, so there is fuel for the rest
  items_taken : (s : List ℕ) (d : ℕ) (named : Bool) (at b : ℕ) → Items s d named at b → (n : ℕ) → token s (close_of named) b n
      → (k : ℕ) → k ≤ at → end_items (items_at (tree_at s d) s named (length s - k) (ws_at s at)) ≡ Some (ws_at s n)
  items_taken s d named at b (last i) n c k l =
      let (v, h, e) = item_taken s d named at b i (token_stops s (close_of named) b n (close_quiet named) c) in
      let p = item_from s d named at b i in
      let q = token_from s (close_of named) b n c in
      fold_next _ _ (λ a m. Some m) _ (tree_at s d) s named k (ws_at s at) v (ws_at s b) (Done (ws_at s n)) (tt {0}) (omega arith) h e (done s named b n c) (λ t q. refl)
  items_taken s d named at b (more {a = a} {b = j} i t is) n c k l =
      let (v, h, e) = item_taken s d named at a i (token_stops s 0x2C a j (refl, refl, refl) t) in
      let p = item_from s d named at a i in
      let q = token_from s 0x2C a j t in
      fold_next _ _ (λ a m. Some m) _ (tree_at s d) s named k (ws_at s at) v (ws_at s a) (More (ws_at s j)) (tt {0}) (omega arith) h e (next s named a j t) (λ t q. refl)
      ∙ items_taken s d named j b is n c (k + 1) (omega arith)

  item_taken : (s : List ℕ) (d : ℕ) (named : Bool) (at n : ℕ) → Item s d named at n → Stops s n
      → (v : ℕ) × (head_at s (ws_at s at) named ≡ Some v) × (end_of (tree_at s d v) ≡ Some (ws_at s n))
  item_taken s d named at n (value v) t = (ws_at s at, refl, value_taken s d at n v t)
  item_taken s d named at n (member {a = a} {b = b} e c v) t = (ws_at s b, name_taken s at a b e c, value_taken s d b n v t)

pub text_taken : (s : List ℕ) → Text s → is_text s ≡ true
unfolding in_class
text_taken s (a, w, (b, v, x)) = rw (text_clean s (a, w, (b, v, x)), star_past s Space 0 a w, value_taken s depth a b v (ws_quiet s b (length s) x (rw after (refl, refl, refl))), ended) (eq-eqb (length s) (length s) refl)
  where
    after : get_or s (length s) 0 ≡ 0
    after = get_or-eq_default s 0 (omega arith)

    ended : ws_at s b ≡ length s
    ended = star_past s Space b (length s) x ∙ past_none Space s (length s) (rw after)
