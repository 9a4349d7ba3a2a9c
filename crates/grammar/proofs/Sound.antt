-- Without control characters, what json_tree's definition takes is a value by the rules, and the white space after it.
use Rattle.std.specs.Prelude.{Some, None, Option}
use mathlib.Core.Path.{◌≡◌, refl, sym, ap, ◌∙◌}
use mathlib.Core.Logic.{inl, inr}
use mathlib.Core.List.{List}
use mathlib.Core.Bool.{Bool, true, false, not}
use Prim.Native.Nat.{ℕ, zero, suc, ◌<◌}
use native.Mathlib.Omega.{arith}
use lib.Dec.{lit<}
use lib.ListN.{length}
use borrow.Author.Tests.{eqb-true, not-true}
use Rattle.json_tree.specs.Grammar.{case, in_class, false_name, null_name, true_name, ws_at, token_at, word_at, literal_at, number_at}
use Rattle.json_tree.specs.Grammar.{string_at, scalar_at, close_of, opened_at, start_at, head_at, next_at}
use Rattle.json_tree.specs.Tree.{depth, Json, Items as Trees, item, Got, none, got, end_of, bind, on_leaf, node, follow}
use Rattle.json_tree.specs.Tree.{items_at, group_at, tree_at, ends_at, root, is_text}
use Rattle.json_tree.specs.declared.Class.TheVariants.{Space}
use Rattle.json_tree.specs.declared.Kind.TheVariants.{Str, Num, Word}
use Rattle.json_tree.specs.declared.Start.TheVariants.{Leaf, Empty, Many}
use Rattle.json_tree.specs.declared.Next.TheVariants.{More, Done, Wrong}
use Rattle.json_tree.proofs.Bytes.{both}
use Rattle.wire.specs.Bytes.{has_control}
use Rattle.json_tree.proofs.Ends.{ends_bad, then_end}
use Rattle.grammar.specs.Rfc.{stop, ws, token, literal, open_of, Value, plain, empty, group, Items, last, more}
use Rattle.grammar.specs.Rfc.{Item, value, member, Text}
use Rattle.grammar.proofs.Terms.{same_end, star_sound, token_sound, name_sound}
use Rattle.grammar.proofs.Clean.{Clean, none_clean}
use Rattle.grammar.proofs.Numbers.{number_sound}
use Rattle.grammar.proofs.Strings.{string_sound}

-- what is made of a thing ends where it ends
pub end_made : {A B : Type 0} (f : A → B) (g : Got A) {n : ℕ} → end_of (bind g λ t m. got (f t) m) ≡ Some n → end_of g ≡ Some n
end_made f none e = e
end_made f (got t m) e = e

module _ (s : List ℕ) (clean : Clean s 0 (length s)) where
  space_sound : (m n : ℕ) → ws_at s m ≡ n → ws s m n
  unfolding in_class
  space_sound m n e = star_sound s Space refl m n e

  -- ---- values that hold no value
  literal_sound : (at n : ℕ) → literal_at s at ≡ Some n → literal s at n
  unfolding literal_at
  literal_sound at n e = f (word_at s false_name at) refl e
    where
      g : (o : Option ℕ) → word_at s null_name at ≡ o → case o Some (word_at s true_name at) ≡ Some n → literal s at n
      g (Some m) p q = inr (inl (name_sound s null_name at n refl (p ∙ q)))
      g None p q = inr (inr (name_sound s true_name at n refl q))

      f : (o : Option ℕ) → word_at s false_name at ≡ o → case o Some (case (word_at s null_name at) Some (word_at s true_name at)) ≡ Some n → literal s at n
      f (Some m) p q = inl (name_sound s false_name at n refl (p ∙ q))
      f None p q = g (word_at s null_name at) refl q

  -- a value up to a place, and the ws after it up to n
  abbrev Ended : ℕ → ℕ → ℕ → Type 0
  Ended d at n = (m : ℕ) × Value s d at m × ws s m n

  leaf_sound : (d at n : ℕ) → end_of (on_leaf s at (scalar_at s at)) ≡ Some n → Ended d at n
  unfolding scalar_at
  leaf_sound d at n e = str (string_at s at) refl e
    where
      lit : (o : Option ℕ) → literal_at s at ≡ o → end_of (on_leaf s at (case o (λ n. Some (Word n)) None)) ≡ Some n → Ended d at n
      lit (Some m) p q = (m, plain (inl (literal_sound at m p)), space_sound m n (same_end q))
      lit None p q = ends_bad q

      num : (o : Option ℕ) → number_at s at ≡ o → end_of (on_leaf s at (case o (λ n. Some (Num n)) (case (literal_at s at) (λ n. Some (Word n)) None))) ≡ Some n → Ended d at n
      num (Some m) p q = (m, plain (inr (inl (number_sound s at m p))), space_sound m n (same_end q))
      num None p q = lit (literal_at s at) refl q

      str : (o : Option ℕ) → string_at s at ≡ o → end_of (on_leaf s at (case o (λ n. Some (Str n)) (case (number_at s at) (λ n. Some (Num n)) (case (literal_at s at) (λ n. Some (Word n)) None)))) ≡ Some n → Ended d at n
      str (Some m) p q = (m, plain (inr (inr (string_sound s clean at m p))), space_sound m n (same_end q))
      str None p q = num (number_at s at) refl q

  -- ---- items
  close_pos : (named : Bool) → 0 < close_of named
  close_pos true = lit< tt
  close_pos false = lit< tt

  item_sound : (d : ℕ) (named : Bool) (at v m : ℕ) → head_at s at named ≡ Some v → Value s d v m → Item s d named at m
  item_sound d true at v m e w =
      let (a, p, q) = then_end (string_at s at) _ e in
      member (string_sound s clean at a p) (token_sound s 0x3A a (ws_at s a) v (lit< tt) (space_sound a (ws_at s a) refl) q) w
  item_sound d false at v m e w = value (rw (sym (same_end e)) at w)

  module _ (d : ℕ) (val : ℕ → Got Json) (sound : (v n : ℕ) → end_of (val v) ≡ Some n → Ended d v n) where
    -- items up to a place, and what closes them up to n
    abbrev Closed : Bool → ℕ → ℕ → Type 0
    Closed named at n = (b : ℕ) × Items s d named at b × token s (close_of named) b n

    turn_sound : (named : Bool) (rest : ℕ → Got Trees) (at n : ℕ) → ((a : ℕ) → end_of (rest a) ≡ Some n → Closed named a n)
        → end_of (case (head_at s at named) (λ v. bind (val v) λ t k. follow (item at v t) (next_at s k named) rest) none) ≡ Some n → Closed named at n
    turn_sound named rest at n ih e = head (head_at s at named) refl e
      where
        close : (m k v : ℕ) (t : Json) (o : Option ℕ) → Item s d named at m → ws s m k → token_at s (close_of named) k ≡ o → end_of (follow (item at v t) (case o Done Wrong) rest) ≡ Some n → Closed named at n
        close m k v t (Some a) i w q z = (m, last i, token_sound s (close_of named) m k n (close_pos named) w (q ∙ z))
        close m k v t None i w q z = ends_bad z

        comma : (m k v : ℕ) (t : Json) (o : Option ℕ) → Item s d named at m → ws s m k → token_at s 0x2C k ≡ o
            → end_of (follow (item at v t) (case o More (case (token_at s (close_of named) k) Done Wrong)) rest) ≡ Some n → Closed named at n
        comma m k v t (Some a) i w q z =
            let (b, is, c) = ih a (end_made (item at v t) (rest a) z) in
            (b, more i (token_sound s 0x2C m k a (lit< tt) w q) is, c)
        comma m k v t None i w q z = close m k v t (token_at s (close_of named) k) i w refl z

        body : (v : ℕ) (g : Got Json) → val v ≡ g → head_at s at named ≡ Some v → end_of (bind g λ t k. follow (item at v t) (next_at s k named) rest) ≡ Some n → Closed named at n
        body v none q h z = ends_bad z
        body v (got t k) q h z =
            let (m, w, x) = sound v k (ap end_of q) in
            comma m k v t (token_at s 0x2C k) (item_sound d named at v m h w) x refl z

        head : (o : Option ℕ) → head_at s at named ≡ o → end_of (case o (λ v. bind (val v) λ t k. follow (item at v t) (next_at s k named) rest) none) ≡ Some n → Closed named at n
        head (Some v) h z = body v (val v) refl h z
        head None h z = ends_bad z

    items_sound : (named : Bool) (f at n : ℕ) → end_of (items_at val s named f at) ≡ Some n → Closed named at n
    unfolding items_at
    items_sound named zero at n e = ends_bad e
    items_sound named (suc f) at n e = turn_sound named (items_at val s named f) at n (λ a q. items_sound named f a n q) e

    -- ---- what begins at a place
    group_sound : (at n : ℕ) → end_of (group_at val s at (start_at s at)) ≡ Some n → Ended (suc d) at n
    group_sound at n e = bracket (token_at s 0x5B at) refl e
      where
        opens : (named : Bool) → 0 < open_of named
        opens true = lit< tt
        opens false = lit< tt

        opened : (named : Bool) (a : ℕ) → token_at s (open_of named) at ≡ Some a → (o : Option ℕ) → token_at s (close_of named) a ≡ o
            → end_of (group_at val s at (case o (λ m. Empty m named) (Many a named))) ≡ Some n → Ended (suc d) at n
        opened named a p (Some m) q z =
            (n, empty named (token_sound s (open_of named) at at a (opens named) stop p) (token_sound s (close_of named) a a n (close_pos named) stop (q ∙ z)), stop)
        opened named a p None q z =
            let (b, is, c) = items_sound named (length s) a n (end_made (node named) (items_at val s named (length s) a) z) in
            (n, group named (token_sound s (open_of named) at at a (opens named) stop p) is c, stop)

        brace : (o : Option ℕ) → token_at s 0x7B at ≡ o → end_of (group_at val s at (case o (λ m. opened_at s m true) Leaf)) ≡ Some n → Ended (suc d) at n
        brace (Some a) q z = opened true a q (token_at s 0x7D a) refl z
        brace None q z = leaf_sound (suc d) at n z

        bracket : (o : Option ℕ) → token_at s 0x5B at ≡ o
            → end_of (group_at val s at (case o (λ m. opened_at s m false) (case (token_at s 0x7B at) (λ m. opened_at s m true) Leaf))) ≡ Some n → Ended (suc d) at n
        bracket (Some a) q z = opened false a q (token_at s 0x5D a) refl z
        bracket None q z = brace (token_at s 0x7B at) refl z

  pub value_sound : (d at n : ℕ) → end_of (tree_at s d at) ≡ Some n → (m : ℕ) × Value s d at m × ws s m n
  unfolding tree_at
  value_sound zero at n e = leaf_sound zero at n e
  value_sound (suc d) at n e = group_sound d (tree_at s d) (λ v m q. value_sound d v m q) at n e

pub text_sound : (s : List ℕ) → is_text s ≡ true → Text s
text_sound s e = go (end_of (root s)) refl parts.1
  where
    parts : (not (has_control s) ≡ true) × (ends_at (length s) (end_of (root s)) ≡ true)
    parts = both (not (has_control s)) (ends_at (length s) (end_of (root s))) e

    clean : Clean s 0 (length s)
    clean = none_clean s (not-true (has_control s) parts.0)

    go : (o : Option ℕ) → end_of (root s) ≡ o → ends_at (length s) o ≡ true → Text s
    go (Some n) p q =
        let (m, v, w) = value_sound s clean depth (ws_at s 0) (length s) (p ∙ ap Some (eqb-true n (length s) q)) in
        (ws_at s 0, space_sound s clean 0 (ws_at s 0) refl, (m, v, w))
    go None p q = absurd (let z : ◌≡◌ {A = ℕ} 0 1 = cc in omega arith)
