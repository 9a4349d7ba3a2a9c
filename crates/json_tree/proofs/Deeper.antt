-- A deeper limit reads the same tree: a value that holds none begins with no bracket or brace, and items are read by
-- the values they hold.
use Rattle.std.specs.Prelude.{None, Option, Some}
use mathlib.Core.Path.{◌≡◌, refl, sym, ap, ◌∙◌}
use mathlib.Core.List.{List}
use mathlib.Core.Bool.{Bool, false}
use Prim.Native.Nat.{ℕ, zero, suc, ◌+◌}
use native.Mathlib.Nat.{zero-add, suc-add}
use native.Mathlib.Omega.{arith}
use lib.ListN.{length}
use Rattle.json_tree.specs.Grammar.{case, in_class, one_at, token_at, word_at, literal_at, digits_at, int_at, number_at}
use Rattle.json_tree.specs.Grammar.{string_at, scalar_at, start_at, head_at, next_at}
use Rattle.json_tree.specs.Tree.{Json, Items, item, Got, none, got, bind, on_leaf, follow, node, items_at, group_at}
use Rattle.json_tree.specs.Tree.{tree_at}
use Rattle.json_tree.specs.declared.Class.TheVariants.{Digit, Byte}
use Rattle.json_tree.specs.declared.Start.{Start}
use Rattle.json_tree.specs.declared.Start.TheVariants.{Leaf, Empty, Many}
use Rattle.json_tree.specs.declared.Next.{Next}
use Rattle.json_tree.specs.declared.Next.TheVariants.{More, Done, Wrong}
use Rattle.json_tree.proofs.Ends.{byte_not}

pub got_none : {A C : Type 0} {t : A} {n : ℕ} → none ≡ got t n → C
got_none e = absurd (let z : ◌≡◌ {A = ℕ} 0 1 = cc in omega arith)

-- a byte with which no literal name, number or string begins
abbrev pub Lacks : ℕ → Type 0
Lacks b = (in_class (Byte 0x22) b ≡ false) × (in_class (Byte 0x2D) b ≡ false) × (in_class (Byte 0x30) b ≡ false) × (in_class Digit b ≡ false) × (in_class (Byte 0x66) b ≡ false) × (in_class (Byte 0x6E) b ≡ false) × (in_class (Byte 0x74) b ≡ false)

module _ (s : List ℕ) where
  no_scalar : (b at : ℕ) {m : ℕ} → one_at s (Byte b) at ≡ Some m → Lacks b → scalar_at s at ≡ None
  unfolding scalar_at string_at number_at int_at digits_at literal_at word_at
  no_scalar b at e z =
      simp (
        byte_not s b (Byte 0x22) at z.0 e,
        byte_not s b (Byte 0x2D) at z.1 e,
        byte_not s b (Byte 0x30) at z.2 e,
        byte_not s b Digit at z.3 e,
        byte_not s b (Byte 0x66) at z.4 e,
        byte_not s b (Byte 0x6E) at z.5 e,
        byte_not s b (Byte 0x74) at z.6 e,
      )

  leaf_starts : (at : ℕ) {t : Json} {n : ℕ} → on_leaf s at (scalar_at s at) ≡ got t n → start_at s at ≡ Leaf
  unfolding token_at in_class
  leaf_starts at {t} {n} e = rw (bad 0x5B (refl, refl, refl, refl, refl, refl, refl), bad 0x7B (refl, refl, refl, refl, refl, refl, refl))
    where
      bad : (b : ℕ) → Lacks b → one_at s (Byte b) at ≡ None
      bad b z = go (one_at s (Byte b) at) refl
        where
          go : (o : Option ℕ) → one_at s (Byte b) at ≡ o → o ≡ None
          go (Some m) q = got_none (sym (ap (on_leaf s at) (no_scalar b at q z)) ∙ e)
          go None q = refl

  module _ (U X : ℕ → Got Json) (up : (v : ℕ) (t : Json) (n : ℕ) → U v ≡ got t n → X v ≡ got t n) where
    more_items : (named : Bool) (f i : ℕ) (ts : Items) (n : ℕ) → items_at U s named f i ≡ got ts n → items_at X s named f i ≡ got ts n
    unfolding items_at
    more_items named zero i ts n e = got_none e
    more_items named (suc f) i ts n e = head (head_at s i named) e (more_items named f)
      where
        rest : (x : Next) (v : ℕ) (t : Json) → ((j : ℕ) (us : Items) (m : ℕ) → items_at U s named f j ≡ got us m → items_at X s named f j ≡ got us m)
            → follow (item i v t) x (items_at U s named f) ≡ got ts n → follow (item i v t) x (items_at X s named f) ≡ got ts n
        rest (More j) v t ih q = go (items_at U s named f j) refl q
          where
            go : (g : Got Items) → items_at U s named f j ≡ g → (bind g λ us m. got (item i v t us) m) ≡ got ts n → (bind (items_at X s named f j) λ us m. got (item i v t us) m) ≡ got ts n
            go none p w = got_none w
            go (got us m) p w = rw (ih j us m p) w
        rest (Done m) v t ih q = q
        rest Wrong v t ih q = q

        body : (v : ℕ) (g : Got Json) → U v ≡ g → ((j : ℕ) (us : Items) (m : ℕ) → items_at U s named f j ≡ got us m → items_at X s named f j ≡ got us m)
            → (bind g λ t m. follow (item i v t) (next_at s m named) (items_at U s named f)) ≡ got ts n
            → (bind (X v) λ t m. follow (item i v t) (next_at s m named) (items_at X s named f)) ≡ got ts n
        body v none p ih q = got_none q
        body v (got t m) p ih q = rw (up v t m p) (rest (next_at s m named) v t ih q)

        head : (o : Option ℕ) → case o (λ v. bind (U v) λ t m. follow (item i v t) (next_at s m named) (items_at U s named f)) none ≡ got ts n
            → ((j : ℕ) (us : Items) (m : ℕ) → items_at U s named f j ≡ got us m → items_at X s named f j ≡ got us m)
            → case o (λ v. bind (X v) λ t m. follow (item i v t) (next_at s m named) (items_at X s named f)) none ≡ got ts n
        head (Some v) q ih = body v (U v) refl ih q
        head None q ih = got_none q

    more_group : (at : ℕ) (t : Json) (n : ℕ) (r : Start) → group_at U s at r ≡ got t n → group_at X s at r ≡ got t n
    more_group at t n Leaf e = e
    more_group at t n (Empty m named) e = e
    more_group at t n (Many first named) e = go (items_at U s named (length s) first) refl e
      where
        go : (g : Got Items) → items_at U s named (length s) first ≡ g → (bind g λ ts m. got (node named ts) m) ≡ got t n
            → (bind (items_at X s named (length s) first) λ ts m. got (node named ts) m) ≡ got t n
        go none p q = got_none q
        go (got ts m) p q = rw (more_items named (length s) first ts m p) q

  once : (d at : ℕ) (t : Json) (n : ℕ) → tree_at s d at ≡ got t n → tree_at s (suc d) at ≡ got t n
  unfolding tree_at
  once zero at t n e = rw (leaf_starts at e) e
  once (suc d) at t n e = more_group (tree_at s d) (tree_at s (suc d)) (once d) at t n (start_at s at) e

  pub deeper : (k d at : ℕ) (t : Json) (n : ℕ) → tree_at s d at ≡ got t n → tree_at s (k + d) at ≡ got t n
  deeper zero d at t n e = rw (zero-add d) e
  deeper (suc k) d at t n e = rw (suc-add k d) (once (k + d) at t n (deeper k d at t n e))
