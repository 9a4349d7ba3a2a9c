-- A string's quotes lie within the text, so the part between them can be cut out.
use Rattle.std.specs.Prelude.{Some, None, Option}
use mathlib.Core.Path.{◌≡◌, refl}
use mathlib.Core.List.{List}
use Prim.Native.Nat.{ℕ, ◌+◌, ◌-◌, ◌<◌, ◌≤◌}
use native.Mathlib.Omega.{arith}
use lib.ListN.{length}
use Rattle.json_tree.specs.Grammar.{in_class, chars_at, string_at, number_at, literal_at, scalar_at, case}
use Rattle.json_tree.specs.declared.Kind.TheVariants.{Str, Num, Word}
use Rattle.json_tree.proofs.Ends.{Ends, one_ends, ends_bad}
use Rattle.rows.specs.Strings.{part}

-- ---- strings
-- one thing, and then another that begins anywhere
then_within : (at size n : ℕ) (o : Option ℕ) (f : ℕ → Option ℕ) → case o f None ≡ Some n → Ends at size o → ((m : ℕ) → (k : ℕ) × Ends k size (f m)) → (at < size) × (1 ≤ n)
then_within at size n (Some m) f e a b = let p = a m refl in let q = (b m).1 n e in (omega arith, omega arith)
then_within at size n None f e a b = ends_bad e

module _ (s : List ℕ) (at n : ℕ) where
  pub string_within : string_at s at ≡ Some n → (at < length s) × (1 ≤ n)
  unfolding string_at in_class
  string_within e = then_within at (length s) n _ _ e (one_ends s _ at refl) (λ m. (chars_at s m, one_ends s _ (chars_at s m) refl))

  pub scalar_string : scalar_at s at ≡ Some (Str n) → string_at s at ≡ Some n
  unfolding scalar_at
  scalar_string e = go (string_at s at) (number_at s at) (literal_at s at) e
    where
      go : (o p q : Option ℕ) → case o (λ n. Some (Str n)) (case p (λ n. Some (Num n)) (case q (λ n. Some (Word n)) None)) ≡ Some (Str n) → o ≡ Some n
      go (Some m) p q e = cc
      go None (Some m) q e = cc
      go None None (Some m) e = cc
      go None None None e = cc

  pub string_inner : {p : List ℕ} → p ≡ part s (at + 1) (n - 1 - (at + 1)) → p ≡ part s (at + 1) (n - at - 2)
  string_inner e = let z : n - 1 - (at + 1) ≡ n - at - 2 = omega arith in rw z at e
