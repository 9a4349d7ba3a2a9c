-- The value that is read as a string is one.
use Rattle.std.specs.Prelude.{Some, None, Option}
use mathlib.Core.Path.{◌≡◌}
use mathlib.Core.List.{List}
use Prim.Native.Nat.{ℕ, ◌+◌, ◌≤◌}
use native.Mathlib.Omega.{arith}
use lib.ListN.{length}
use Rattle.json_tree.specs.Grammar.{case, string_at, number_at, literal_at, scalar_at, start_at}
use Rattle.json_tree.specs.declared.Kind.TheVariants.{Str, Num, Word}
use Rattle.json_tree.specs.declared.Start.{Start}
use Rattle.json_tree.specs.declared.Start.TheVariants.{Leaf, Empty, Many}
use Rattle.json_tree.proofs.Spelled.{string_parts}
use Rattle.message.specs.Inner.{on_start, leaf_at}

pub scalar_string : (s : List ℕ) (v n : ℕ) → scalar_at s v ≡ Some (Str n) → string_at s v ≡ Some n
unfolding scalar_at
scalar_string s v n e = string (string_at s v) e
  where
    word : {A : Type 0} (o : Option ℕ) → case o (λ n. Some (Word n)) None ≡ Some (Str n) → A
    word (Some m) q = absurd (let z : ◌≡◌ {A = ℕ} 0 1 = cc in omega arith)
    word None q = absurd (let z : ◌≡◌ {A = ℕ} 0 1 = cc in omega arith)

    number : {A : Type 0} (o : Option ℕ) → case o (λ n. Some (Num n)) (case (literal_at s v) (λ n. Some (Word n)) None) ≡ Some (Str n) → A
    number (Some m) q = absurd (let z : ◌≡◌ {A = ℕ} 0 1 = cc in omega arith)
    number None q = word (literal_at s v) q

    string : (o : Option ℕ) → case o (λ n. Some (Str n)) (case (number_at s v) (λ n. Some (Num n)) (case (literal_at s v) (λ n. Some (Word n)) None)) ≡ Some (Str n) → o ≡ Some n
    string (Some m) q = cc
    string None q = number (number_at s v) q

pub leaf_string : (s : List ℕ) (v n : ℕ) → leaf_at s v ≡ Some (Str n) → string_at s v ≡ Some n
unfolding leaf_at
leaf_string s v n e = on (start_at s v) e
  where
    on : (r : Start) → on_start (scalar_at s v) r ≡ Some (Str n) → string_at s v ≡ Some n
    on Leaf q = scalar_string s v n q
    on (Empty m named) q = absurd (let z : ◌≡◌ {A = ℕ} 0 1 = cc in omega arith)
    on (Many m named) q = absurd (let z : ◌≡◌ {A = ℕ} 0 1 = cc in omega arith)

-- so it has two quotes and lies within the text
pub leaf_quoted : (s : List ℕ) (v n : ℕ) → leaf_at s v ≡ Some (Str n) → (v + 2 ≤ n) × (n ≤ length s)
leaf_quoted s v n e = let h = string_parts s v n (leaf_string s v n e) in (omega (arith, h.3), omega (arith, h.4))
