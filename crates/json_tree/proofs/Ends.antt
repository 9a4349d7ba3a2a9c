-- What ends where: a byte that is taken lies within the text, so what begins with one ends behind its beginning, and
-- the characters of a string never run out of fuel.
use Rattle.std.specs.Prelude.{MatchOption, Option, Some, None}
use mathlib.Core.Path.{◌≡◌, refl, sym, ap, ◌∙◌}
use mathlib.Core.List.{List}
use mathlib.Core.Bool.{Bool, true, false, cond, false≢true, ◌&&◌}
use Prim.Native.Nat.{ℕ, zero, suc, ◌+◌, ◌<◌, ◌≤◌}
use native.Mathlib.Decide.{dec_lt}
use native.Mathlib.Omega.{arith}
use lib.Dec.{ltb}
use lib.ListN.{length, get_or}
use borrow.Author.Tests.{eqb-true, lt-ltb, le-ltb}
use Rattle.std.specs.Option.{unwrap_or}
use Rattle.json_tree.specs.Grammar.{case, in_class, one_at, hex_at, escaped_at, char_at, chars_up_to, chars_at}
use Rattle.json_tree.specs.declared.Class.{Class}
use Rattle.json_tree.specs.declared.Class.TheVariants.{Plain, Hex, Short, Byte}
use Rattle.json_tree.proofs.Bytes.{class_within}

pub ends_bad : {A : Type 0} {n : ℕ} → None ≡ Some n → A
ends_bad e = absurd (let z : ◌≡◌ {A = ℕ} 0 1 = cc in omega arith)

pub all_both : (a b : Bool) → (a && b) ≡ true → (a ≡ true) × (b ≡ true)
all_both true b e = (refl, e)
all_both false b e = absurd (false≢true e)

-- ---- what a `case` that ends went through
pub then_end : {n : ℕ} (o : Option ℕ) (f : ℕ → Option ℕ) → case o f None ≡ Some n → (m : ℕ) × (o ≡ Some m) × (f m ≡ Some n)
then_end (Some m) f e = (m, refl, e)
then_end None f e = ends_bad e

-- where o ends, it ends behind `at`, and within a text of length `size`
abbrev pub Ends : ℕ → ℕ → Option ℕ → Type 0
Ends at size o = (n : ℕ) → o ≡ Some n → (at < n) × (n ≤ size)

module _ (at size : ℕ) where
  -- one thing, or another
  pub ends_or : (o z : Option ℕ) → Ends at size o → Ends at size z → Ends at size (case o Some z)
  ends_or (Some m) z a b n e = a n e
  ends_or None z a b n e = b n e

  -- one thing, and then another
  pub ends_then : (o : Option ℕ) (f : ℕ → Option ℕ) → Ends at size o → ((m : ℕ) → Ends m size (f m)) → Ends at size (case o f None)
  ends_then (Some m) f a b n e = let p = a m refl in let q = b m n e in omega arith
  ends_then None f a b n e = ends_bad e

  -- one thing and then another, or a third
  pub ends_if : (o : Option ℕ) (f : ℕ → Option ℕ) (z : Option ℕ) → Ends at size o → ((m : ℕ) → Ends m size (f m)) → Ends at size z → Ends at size (case o f z)
  ends_if (Some m) f z a b c n e = let p = a m refl in let q = b m n e in omega arith
  ends_if None f z a b c n e = c n e

module _ (s : List ℕ) where
  pub one_ends : (class : Class) (at : ℕ) → in_class class 0 ≡ false → Ends at (length s) (one_at s class at)
  unfolding one_at
  one_ends class at z = go (in_class class (get_or s at 0)) refl
    where
      go : (b : Bool) → in_class class (get_or s at 0) ≡ b → Ends at (length s) (cond b (Some (at + 1)) None)
      go true q n e = let h = class_within class s at z q in let w : at + 1 ≡ n = cc in omega arith
      go false q n e = ends_bad e

  pub one_is : (class : Class) (at : ℕ) {n : ℕ} → one_at s class at ≡ Some n → (in_class class (get_or s at 0) ≡ true) × (at + 1 ≡ n)
  unfolding one_at
  one_is class at {n} e = go (in_class class (get_or s at 0)) e
    where
      go : (b : Bool) → cond b (Some (at + 1)) None ≡ Some n → (b ≡ true) × (at + 1 ≡ n)
      go true q = (refl, cc)
      go false q = ends_bad q

  pub one_of : (class : Class) (at : ℕ) → in_class class (get_or s at 0) ≡ true → one_at s class at ≡ Some (at + 1)
  unfolding one_at
  one_of class at e = rw e

  pub one_not : (class : Class) (at : ℕ) → in_class class (get_or s at 0) ≡ false → one_at s class at ≡ None
  unfolding one_at
  one_not class at e = rw e

  pub byte_is : (b at : ℕ) {n : ℕ} → one_at s (Byte b) at ≡ Some n → get_or s at 0 ≡ b
  unfolding in_class
  byte_is b at e = eqb-true _ _ (one_is (Byte b) at e).0

  -- the byte b is of no class that lacks it, and a byte of such a class is not b
  pub byte_not : (b : ℕ) (class : Class) (at : ℕ) {n : ℕ} → in_class class b ≡ false → one_at s (Byte b) at ≡ Some n → one_at s class at ≡ None
  byte_not b class at z e = one_not class at (ap (in_class class) (byte_is b at e) ∙ z)

  pub not_byte : (b : ℕ) (class : Class) (at : ℕ) {n : ℕ} → in_class class b ≡ false → one_at s class at ≡ Some n → one_at s (Byte b) at ≡ None
  not_byte b class at z e = go (one_at s (Byte b) at) refl
    where
      go : (o : Option ℕ) → one_at s (Byte b) at ≡ o → o ≡ None
      go (Some m) q = absurd (false≢true (sym z ∙ sym (ap (in_class class) (byte_is b at q)) ∙ (one_is class at e).0))
      go None q = refl

  pub hex_ends : (at : ℕ) → Ends at (length s) (hex_at s at)
  unfolding hex_at in_class
  hex_ends at = ends_then at _ _ _ (one_ends Hex at refl) λ a. ends_then a _ _ _ (one_ends Hex a refl) λ b. ends_then b _ _ _ (one_ends Hex b refl) λ c. one_ends Hex c refl

  pub escaped_ends : (at : ℕ) → Ends at (length s) (escaped_at s at)
  unfolding escaped_at in_class
  escaped_ends at = ends_then at _ _ _ (one_ends (Byte 0x5C) at refl) λ n. ends_if n _ _ _ _ (one_ends (Byte 0x75) n refl) hex_ends (one_ends Short n refl)

  -- ---- char: the 0 past the end is none
  pub char_inside : (at : ℕ) → at < length s → char_at s at ≡ case (one_at s Plain at) Some (escaped_at s at)
  unfolding char_at
  char_inside at h = rw (lt-ltb at (length s) h)

  pub char_outside : (at : ℕ) → length s ≤ at → char_at s at ≡ None
  unfolding char_at
  char_outside at h = rw (le-ltb at (length s) h)

  pub char_ends : (at : ℕ) → Ends at (length s) (char_at s at)
  char_ends at n e = elim (dec_lt at (length s)) [
    | yes h ↦ ends_or at _ _ _ (λ m q. let w = (one_is Plain at q).1 in omega arith) (escaped_ends at) n (sym (char_inside at h) ∙ e)
    | no h ↦ ends_bad (sym (char_outside at (omega arith)) ∙ e)
  ]

  -- a quotation mark is none
  pub char_quote : (at : ℕ) → get_or s at 0 ≡ 0x22 → char_at s at ≡ None
  unfolding char_at escaped_at one_at in_class
  char_quote at e = go (ltb at (length s))
    where
      go : (b : Bool) → cond b (case (one_at s Plain at) Some (escaped_at s at)) None ≡ None
      go true = rw e
      go false = refl

  -- ---- *char: where there is a character it goes on, and else it stops; the fuel is enough
  enough : (f at : ℕ) → length s ≤ f + at → chars_up_to (suc f) s at ≡ chars_up_to f s at
  unfolding chars_up_to
  enough zero at h = go (char_at s at) refl
    where
      go : (o : Option ℕ) → char_at s at ≡ o → case o (λ n. n) at ≡ at
      go (Some n) e = let q = char_ends at n e in omega arith
      go None e = refl
  enough (suc f) at h = go (char_at s at) refl λ n k. enough f n k
    where
      go : (o : Option ℕ) → char_at s at ≡ o → ((n : ℕ) → length s ≤ f + n → chars_up_to (suc f) s n ≡ chars_up_to f s n) → case o (chars_up_to (suc f) s) at ≡ case o (chars_up_to f s) at
      go (Some n) e ih = let q = char_ends at n e in ih n (omega arith)
      go None e ih = refl

  pub chars_more : (at n : ℕ) → char_at s at ≡ Some n → chars_at s n ≡ chars_at s at
  unfolding chars_at chars_up_to
  chars_more at n e = go (length s) refl
    where
      go : (k : ℕ) → length s ≡ k → chars_up_to k s n ≡ chars_up_to k s at
      go zero q = let h = char_ends at n e in absurd (omega arith)
      go (suc f) q = let h = char_ends at n e in enough f n (omega arith) ∙ rw e

  pub chars_none : (at : ℕ) → char_at s at ≡ None → chars_at s at ≡ at
  unfolding chars_at chars_up_to
  chars_none at e = go (length s)
    where
      go : (k : ℕ) → chars_up_to k s at ≡ at
      go zero = refl
      go (suc f) = rw e

  -- ---- the same by the byte that stands there
  module _ (at : ℕ) where
    pub char_plain : at < length s → in_class Plain (get_or s at 0) ≡ true → char_at s at ≡ Some (at + 1)
    char_plain h e = rw (char_inside at h, one_of Plain at e)

    pub char_escaped : at < length s → in_class Plain (get_or s at 0) ≡ false → char_at s at ≡ escaped_at s at
    char_escaped h e = rw (char_inside at h, one_not Plain at e)

    pub chars_eight : chars_at s (at + 4 + 4) ≡ chars_at s (at + 4) → chars_at s (at + 4) ≡ chars_at s at → chars_at s (at + 8) ≡ chars_at s at
    chars_eight x y = let z : at + 8 ≡ at + 4 + 4 = omega arith in ap (chars_at s) z ∙ x ∙ y

    pub chars_past : length s ≤ at → chars_at s at ≡ at
    chars_past h = chars_none at (char_outside at h)

  -- four characters that are bytes which stand for themselves
  pub chars_four : (at : ℕ) → at + 4 ≤ length s → in_class Plain (get_or s at 0) ≡ true → in_class Plain (get_or s (at + 1) 0) ≡ true
      → in_class Plain (get_or s (at + 2) 0) ≡ true → in_class Plain (get_or s (at + 3) 0) ≡ true → chars_at s (at + 4) ≡ chars_at s at
  chars_four at h a b c d =
      let y : at + 1 + 1 ≡ at + 2 = omega arith in
      let z : at + 2 + 1 ≡ at + 3 = omega arith in
      let w : at + 3 + 1 ≡ at + 4 = omega arith in
      chars_more (at + 3) (at + 4) (char_plain (at + 3) (omega arith) d ∙ ap Some w)
      ∙ chars_more (at + 2) (at + 3) (char_plain (at + 2) (omega arith) c ∙ ap Some z)
      ∙ chars_more (at + 1) (at + 2) (char_plain (at + 1) (omega arith) b ∙ ap Some y)
      ∙ chars_more at (at + 1) (char_plain at (omega arith) a)

-- ---- an Option's methods
-- what `unwrap_or` gives is what `opt_at` says
pub case_or : (x : Option ℕ) (z : ℕ) → unwrap_or x z ≡ case x (λ n. n) z
case_or (Some n) z = refl
case_or None z = refl

-- the first of two that stands: `or_else`
pub or_else_case : {P : Type 0} {r z : Option ℕ} (o : Option ℕ) → MatchOption o P (λ v. r ≡ Some v) → (P → r ≡ z) → r ≡ case o Some z
or_else_case (Some n) m f = m
or_else_case None m f = f m

pub case_assoc : (a b z : Option ℕ) → case (case a Some b) Some z ≡ case a Some (case b Some z)
case_assoc (Some n) b z = refl
case_assoc None b z = refl
