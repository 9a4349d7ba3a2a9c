-- A string between quotes; what is read as a string is one, and what it says.
use Rattle.std.specs.Prelude.{Some, None, Option, Result, Ok, Err, unsigned_abs}
use Rattle.std.specs.Result.{OkIff, result_unwrap_or}
use Rattle.std.specs.Int.{FitsUnsignedBits}
use mathlib.Core.Path.{◌≡◌, refl, sym, ap, ◌∙◌}
use mathlib.Core.Bool.{Bool, true, false}
use mathlib.Core.List.{List, [], ◌∷◌}
use Prim.Native.Nat.{ℕ, suc, ◌+◌, ◌-◌, ◌≤◌, ◌<◌, ◌^◌}
use native.Mathlib.Omega.{arith}
use borrow.Author.Tests.{ltb-true}
use lib.IntN.{ℤ, pos, negsuc}
use lib.Signed.{lt_z, mag}
use mir.Syntax.{w64}
use mir.Val.{to_z, of_z, SFits}
use mir.ValLaws.{to_z-of_z}
use lib.ListN.{length}
use Rattle.wire.specs.Put.{Puts}
use Rattle.wire.specs.Escape.{escape, json_of}
use Rattle.wire.specs.Field.{unsigned}
use Rattle.wire.proofs.Laws.{puts_then}
use Rattle.spell.specs.Spell.{chars_from, chars_bytes, decode}
use Rattle.json_tree.specs.Grammar.{case, in_class, one_at, token_at, string_at, number_at, literal_at, scalar_at, start_at, ws_at}
use Rattle.json_tree.specs.Tree.{Json, word, num, str, arr, obj, Items, nil, Got, none, got, end_of, bind, on_leaf, node}
use Rattle.json_tree.specs.Tree.{items_at, group_at, tree_at}
use Rattle.json_tree.specs.declared.Kind.TheVariants.{Num, Word}
use Rattle.json_tree.specs.declared.Start.{Start}
use Rattle.json_tree.specs.declared.Start.TheVariants.{Leaf, Empty, Many}
use Rattle.json_tree.proofs.Ends.{byte_is}
use Rattle.json_tree.proofs.Spelled.{string_parts}
use Rattle.json_tree.proofs.Trees.{tree_open}
use Rattle.rows.specs.Strings.{part, spelled_at}
use Rattle.text.specs.Event.{quoted}
use Rattle.message.proofs.Walks.{never}
use Rattle.event.specs.Lent.{string_of, natural}
use Rattle.event.specs.Inner.{in_form, Does, string_text}
use Rattle.event.proofs.Forms.{form_quoted}

-- ---- between quotes
pub quoted_put : {d o₁ o₂ o₃ : List ℕ} {i a c r : ℕ} (v : List ℕ) → Puts d i (34 ∷ []) a o₁ → Puts o₁ a (escape v) c o₂ → Puts o₂ c (34 ∷ []) r o₃ → Puts d i (quoted v) r o₃
unfolding quoted
quoted_put v x y z = puts_then x (puts_then y z)

pub json_put : {d o₁ o₂ o₃ : List ℕ} {i a c r : ℕ} (v : List ℕ) → Puts d i (34 ∷ []) a o₁ → Puts o₁ a (json_of (escape v)) c o₂ → Puts o₂ c (34 ∷ []) r o₃ → Puts d i (json_of (quoted v)) r o₃
json_put v x y z = rw (form_quoted true v) (puts_then x (puts_then y z))

pub string_piece : {d o : List ℕ} {i r : ℕ} {p q : List ℕ} (json : Bool) → p ≡ q → Puts d i (in_form json (quoted (decode p))) r o → Puts d i (in_form json (quoted (decode q))) r o
string_piece json e x = rw e at x

-- ---- a kind that is not negative
module _ (x : ℤ) (f : SFits w64 x) where
  pub natural_below : lt_z (to_z w64 (of_z w64 x)) (pos 0) ≡ true → 0 ≡ natural x
  natural_below t = go x (rw (to_z-of_z w64 x f) at t)
    where
      go : (x : ℤ) → lt_z x (pos 0) ≡ true → 0 ≡ natural x
      go (pos n) t = absurd (omega (arith, ltb-true n 0 t))
      go (negsuc n) t = refl

  pub natural_above : lt_z (to_z w64 (of_z w64 x)) (pos 0) ≡ false → unsigned (to_z w64 (of_z w64 x)) ≡ natural x
  unfolding unsigned
  natural_above t = ap unsigned (to_z-of_z w64 x f) ∙ go x (rw (to_z-of_z w64 x f) at t)
    where
      go : (x : ℤ) → lt_z x (pos 0) ≡ false → unsigned x ≡ natural x
      go (pos n) t = refl
      go (negsuc n) t = absurd (let z : ◌≡◌ {A = ℕ} 0 1 = cc in omega arith)

  -- a conversion that fails below zero
  pub natural_or : {E : Type 0} (r : Result ℕ E) → OkIff r (FitsUnsignedBits 64 (to_z w64 (of_z w64 x))) (unsigned_abs (to_z w64 (of_z w64 x))) → result_unwrap_or r 0 ≡ natural x
  natural_or {E} r o = go x r f.sfits (rw (to_z-of_z w64 x f) at o)
    where
      go : (x : ℤ) (r : Result ℕ E) → mag x < 2 ^ 63 → OkIff r (FitsUnsignedBits 64 x) (unsigned_abs x) → result_unwrap_or r 0 ≡ natural x
      go (pos n) (Ok y) h o = o.1
      go (pos n) (Err y) h o = absurd (let k : n < 2 ^ 64 = omega arith in o k)
      go (negsuc n) (Ok y) h o = absurd o.0
      go (negsuc n) (Err y) h o = refl

-- ---- strings in the tree
pub string_ends : (s : List ℕ) (v : ℕ) {n : ℕ} → string_at s v ≡ Some n → (v + 2 ≤ n) × (n ≤ length s)
string_ends s v {n} e = let p = string_parts s v n e in (p.3, p.4)

module _ (s : List ℕ) (v : ℕ) where
  string_leaf : (n : ℕ) → string_at s v ≡ Some n → start_at s v ≡ Leaf
  unfolding token_at one_at in_class
  string_leaf n e = simp (byte_is s 0x22 v (string_parts s v n e).0)

  pub string_tree : (d n : ℕ) → string_at s v ≡ Some n → tree_at s (suc d) v ≡ got (str (v + 1) (n - v - 2)) (ws_at s n)
  unfolding tree_at scalar_at
  string_tree d n e = rw (string_leaf n e, e)

  -- where no string stands, the tree is another value
  module _ (P : Json → Type 0) (words : (a n : ℕ) → P (word a n)) (nums : (a n : ℕ) → P (num a n)) (arrays : (ts : Items) → P (arr ts)) (objects : (ts : Items) → P (obj ts)) (t : Json) (n : ℕ) where
    same : (u : Json) (m : ℕ) → got u m ≡ got t n → P u → P t
    same u m e q = let z : u ≡ t = cc in rw z at q

    leaf_out : (p q : Option ℕ) → on_leaf s v (case p (λ n. Some (Num n)) (case q (λ n. Some (Word n)) None)) ≡ got t n → P t
    leaf_out (Some m) q e = same _ _ e (nums _ _)
    leaf_out None (Some m) e = same _ _ e (words _ _)
    leaf_out None None e = never e

    node_out : (named : Bool) (us : Items) (m : ℕ) → got (node named us) m ≡ got t n → P t
    node_out true us m e = same _ _ e (objects us)
    node_out false us m e = same _ _ e (arrays us)

    pub string_out : (d : ℕ) → string_at s v ≡ None → tree_at s (suc d) v ≡ got t n → P t
    unfolding scalar_at
    string_out d e w = on (start_at s v) (sym (tree_open s d v (start_at s v) refl) ∙ w)
      where
        many : (named : Bool) (g : Got Items) → (bind g λ us m. got (node named us) m) ≡ got t n → P t
        many named none q = never q
        many named (got us m) q = node_out named us m q

        on : (r : Start) → group_at (tree_at s d) s v r ≡ got t n → P t
        on Leaf q = leaf_out (number_at s v) (literal_at s v) (rw e at q)
        on (Empty m named) q = node_out named nil m q
        on (Many i named) q = many named (items_at (tree_at s d) s named (length s) i) q

-- the string that is spelled at the place of a value says what the value says: nothing where it is none
module _ (b : List ℕ) (v : ℕ) (t : Json) (m : ℕ) (w : tree_at b 7 v ≡ got t m) where
  pub spelled_says : decode (spelled_at b v) ≡ string_of b t
  unfolding spelled_at decode chars_from chars_bytes
  spelled_says = go (string_at b v) refl
    where
      said : (n : ℕ) (u : Json) (k : ℕ) → got (str (v + 1) (n - v - 2)) k ≡ got u m → decode (part b (v + 1) (n - v - 2)) ≡ string_of b u
      said n u k q = let z : str (v + 1) (n - v - 2) ≡ u = cc in ap (string_of b) z

      go : (o : Option ℕ) → string_at b v ≡ o → decode (case o (λ n. part b (v + 1) (n - v - 2)) []) ≡ string_of b t
      go (Some n) e = said n t _ (sym (string_tree b v 6 n e) ∙ w)
      go None e = sym (string_out b v (λ t. string_of b t ≡ []) (λ a n. refl) (λ a n. refl) (λ ts. refl) (λ ts. refl) t m 6 e w)

-- ---- the ways out of the functions on a string
module _ {S : Type 0} {does : S → List ℕ → S → Type 0} (b : List ℕ) (v : ℕ) {x y : S} {next : ℕ} where
  pub string_done : {n : ℕ} → string_at b v ≡ Some n → does x (quoted (decode (part b (v + 1) (n - v - 2)))) y → next ≡ ws_at b n → Does does (tree_at b 6 v) (string_text b) x y next
  unfolding string_text
  string_done {n} e p q = record { done = λ t m w. fst t m (sym (string_tree b v 5 n e) ∙ w); ends = λ t m w. snd t m (sym (string_tree b v 5 n e) ∙ w) }
    where
      fst : (t : Json) (m : ℕ) → got (str (v + 1) (n - v - 2)) (ws_at b n) ≡ got t m → does x (quoted (string_of b t)) y
      fst t m w = let z : str (v + 1) (n - v - 2) ≡ t = cc in rw (← z) p

      snd : (t : Json) (m : ℕ) → got (str (v + 1) (n - v - 2)) (ws_at b n) ≡ got t m → next ≡ m
      snd t m w = let z : ws_at b n ≡ m = cc in q ∙ z

  pub string_empty : string_at b v ≡ None → does x (34 ∷ 34 ∷ []) y → next ≡ case (end_of (tree_at b 6 v)) (λ n. n) v → Does does (tree_at b 6 v) (string_text b) x y next
  unfolding string_text quoted escape
  string_empty e p q = record { done = λ t m w. rw (string_out b v (λ t. string_of b t ≡ []) (λ a n. refl) (λ a n. refl) (λ ts. refl) (λ ts. refl) t m 5 e w) p; ends = λ t m w. q ∙ rw w }
