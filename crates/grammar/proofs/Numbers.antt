-- Numbers: the rule says where a number may end, and the functions take all that they can, so the two agree where what
-- follows cannot go on a number.
use Rattle.std.specs.Prelude.{Option, Some, None}
use mathlib.Core.Path.{◌≡◌, refl, ap, ◌∙◌}
use mathlib.Core.Logic.{inl, inr}
use mathlib.Core.List.{List}
use mathlib.Core.Bool.{Bool, true, false, ◌||◌}
use Prim.Native.Nat.{ℕ}
use native.Mathlib.Omega.{arith}
use borrow.Author.Tests.{leb-true, eqb-true, eqb-false, le-leb, ne_eqb}
use lib.Dec.{leb, eqb}
use lib.ListN.{get_or}
use Rattle.json_tree.specs.Grammar.{case, is_between, in_class, one_at, opt_at, digits_at, int_at, frac_at, exp_at, number_at}
use Rattle.json_tree.specs.declared.Class.{Class}
use Rattle.json_tree.specs.declared.Class.TheVariants.{Digit, Exponent, Sign, Byte}
use Rattle.json_tree.proofs.Bytes.{both, past_none}
use Rattle.json_tree.proofs.Ends.{then_end, one_not, byte_not, not_byte}
use Rattle.grammar.specs.Rfc.{opt, byte, one, digits, int, frac, exp, number}
use Rattle.grammar.proofs.Terms.{same_end, one_sound, one_taken, one_bad, star_sound, star_past}

-- a digit that is not zero
nonzero : (x : ℕ) → in_class Digit x ≡ true → in_class (Byte 0x30) x ≡ false → is_between 0x31 0x39 x ≡ true
unfolding in_class
nonzero x d z =
    let (l, h) = both (leb 0x30 x) (leb x 0x39) d in
    let l' = leb-true 0x30 x l in
    let n = eqb-false x 0x30 z in
    rw (le-leb 0x31 x (omega arith)) h

-- classes that share no byte
digit_no_sign : (x : ℕ) → in_class Digit x ≡ true → in_class Sign x ≡ false
unfolding in_class
digit_no_sign x d =
    let l = leb-true 0x30 x (both (leb 0x30 x) (leb x 0x39) d).0 in
    simp (ne_eqb x 0x2D (λ e. omega arith), ne_eqb x 0x2B (λ e. omega arith))

exponent_no_digit : (x : ℕ) → in_class Exponent x ≡ true → in_class Digit x ≡ false
unfolding in_class
exponent_no_digit x e = go (eqb x 0x65) refl e
  where
    go : (b : Bool) → eqb x 0x65 ≡ b → (b || eqb x 0x45) ≡ true → is_between 0x30 0x39 x ≡ false
    go true p q = rw (eqb-true x 0x65 p)
    go false p q = rw (eqb-true x 0x45 q)

module _ (s : List ℕ) where
  -- ---- what the functions take is a number
  digits_sound : (at n : ℕ) → digits_at s at ≡ Some n → digits s at n
  unfolding digits_at in_class
  digits_sound at n e =
      let (m, p, q) = then_end (one_at s Digit at) _ e in
      (m, one_sound s Digit at m refl p, star_sound s Digit refl m n (same_end q))

  int_sound : (at n : ℕ) → int_at s at ≡ Some n → int s at n
  unfolding int_at digits_at in_class
  int_sound at n e = go (one_at s (Byte 0x30) at) refl e
    where
      go : (o : Option ℕ) → one_at s (Byte 0x30) at ≡ o → case o Some (digits_at s at) ≡ Some n → int s at n
      go (Some m) p q = inl (one_sound s (Byte 0x30) at n refl (p ∙ q))
      go None p q =
          let (m, o, r) = digits_sound at n q in
          inr (m, (o.0, nonzero (get_or s at 0) o.1 (one_bad s (Byte 0x30) at p), o.2), r)

  frac_sound : (at n : ℕ) → frac_at s at ≡ Some n → opt (frac s) at n
  unfolding frac_at in_class
  frac_sound at n e = go (one_at s (Byte 0x2E) at) refl e
    where
      go : (o : Option ℕ) → one_at s (Byte 0x2E) at ≡ o → case o (digits_at s) (Some at) ≡ Some n → opt (frac s) at n
      go (Some m) p q = inr (m, one_sound s (Byte 0x2E) at m refl p, digits_sound m n q)
      go None p q = inl (same_end q)

  opt_sound : (class : Class) (at : ℕ) → in_class class 0 ≡ false → opt (one s class) at (opt_at s class at)
  opt_sound class at z = go (one_at s class at) refl
    where
      go : (o : Option ℕ) → one_at s class at ≡ o → opt (one s class) at (case o (λ n. n) at)
      go (Some m) p = inr (one_sound s class at m z p)
      go None p = inl refl

  exp_sound : (at n : ℕ) → exp_at s at ≡ Some n → opt (exp s) at n
  unfolding exp_at in_class
  exp_sound at n e = go (one_at s Exponent at) refl e
    where
      go : (o : Option ℕ) → one_at s Exponent at ≡ o → case o (λ m. digits_at s (opt_at s Sign m)) (Some at) ≡ Some n → opt (exp s) at n
      go (Some m) p q = inr (m, one_sound s Exponent at m refl p, (opt_at s Sign m, opt_sound Sign m refl, digits_sound (opt_at s Sign m) n q))
      go None p q = inl (same_end q)

  pub number_sound : (at n : ℕ) → number_at s at ≡ Some n → number s at n
  unfolding number_at in_class
  number_sound at n e =
      let a = opt_at s (Byte 0x2D) at in
      let (b, p, q) = then_end (int_at s a) _ e in
      let (c, r, x) = then_end (frac_at s b) _ q in
      (a, opt_sound (Byte 0x2D) at refl, (b, int_sound a b p, (c, frac_sound b c r, exp_sound c n x)))

  -- ---- a number is taken where it cannot go on
  abbrev pub Stops : ℕ → Type 0
  Stops n = (one_at s Digit n ≡ None) × (one_at s (Byte 0x2E) n ≡ None) × (one_at s Exponent n ≡ None)

  opt_taken : (class : Class) (at n : ℕ) → one_at s class n ≡ None → opt (one s class) at n → opt_at s class at ≡ n
  opt_taken class at n b (inl e) = rw (e, b)
  opt_taken class at n b (inr o) = rw (one_taken s class at n o)

  digits_taken : (at n : ℕ) → one_at s Digit n ≡ None → digits s at n → digits_at s at ≡ Some n
  unfolding digits_at
  digits_taken at n b (m, o, r) = rw (one_taken s Digit at m o) (ap Some (star_past s Digit m n r ∙ past_none Digit s n (one_bad s Digit n b)))

  exp_taken : (at n : ℕ) → Stops n → opt (exp s) at n → exp_at s at ≡ Some n
  unfolding exp_at
  exp_taken at n t (inl e) = rw (e, t.2)
  exp_taken at n t (inr (m, o, (k, g, r))) =
      let b = one_not s Sign k (digit_no_sign (get_or s k 0) r.1.1) in
      rw (one_taken s Exponent at m o, opt_taken Sign m k b g) (digits_taken k n t.0 r)

  exp_first : (at n : ℕ) → Stops n → opt (exp s) at n → (one_at s Digit at ≡ None) × (one_at s (Byte 0x2E) at ≡ None)
  unfolding in_class
  exp_first at n t (inl e) = rw e (t.0, t.1)
  exp_first at n t (inr (m, o, r)) =
      (one_not s Digit at (exponent_no_digit (get_or s at 0) o.1), not_byte s 0x2E Exponent at refl (one_taken s Exponent at m o))

  frac_taken : (at n : ℕ) → (one_at s Digit n ≡ None) × (one_at s (Byte 0x2E) n ≡ None) → opt (frac s) at n → frac_at s at ≡ Some n
  unfolding frac_at
  frac_taken at n t (inl e) = rw (e, t.1)
  frac_taken at n t (inr (m, o, r)) = rw (one_taken s (Byte 0x2E) at m o) (digits_taken m n t.0 r)

  frac_first : (at n : ℕ) → one_at s Digit n ≡ None → opt (frac s) at n → one_at s Digit at ≡ None
  unfolding in_class
  frac_first at n t (inl e) = rw e t
  frac_first at n t (inr (m, o, r)) = byte_not s 0x2E Digit at refl (one_taken s (Byte 0x2E) at m o)

  -- a digit from 1 on is a digit, and not zero
  pub first_digit : (at n : ℕ) → byte s (is_between 0x31 0x39) at n → one s Digit at n × (one_at s (Byte 0x30) at ≡ None)
  unfolding in_class
  first_digit at n (h, o, e) =
      let x = get_or s at 0 in
      let (l, r) = both (leb 0x31 x) (leb x 0x39) o in
      let l' = leb-true 0x31 x l in
      ((h, rw (le-leb 0x30 x (omega arith)) r, e), one_not s (Byte 0x30) at (ne_eqb x 0x30 (λ z. omega arith)))

  int_taken : (at n : ℕ) → one_at s Digit n ≡ None → int s at n → int_at s at ≡ Some n
  unfolding int_at
  int_taken at n t (inl o) = rw (one_taken s (Byte 0x30) at n o)
  int_taken at n t (inr (m, o, r)) = let (d, z) = first_digit at m o in rw z (digits_taken at n t (m, d, r))

  int_no_minus : (at n : ℕ) → int s at n → one_at s (Byte 0x2D) at ≡ None
  unfolding in_class
  int_no_minus at n (inl o) = byte_not s 0x30 (Byte 0x2D) at refl (one_taken s (Byte 0x30) at n o)
  int_no_minus at n (inr (m, o, r)) = not_byte s 0x2D Digit at refl (one_taken s Digit at m (first_digit at m o).0)

  pub number_taken : (at n : ℕ) → Stops n → number s at n → number_at s at ≡ Some n
  unfolding number_at
  number_taken at n t (a, g, (b, i, (c, f, e))) =
      let p = exp_first c n t e in
      let q = frac_first b c p.0 f in
      rw (opt_taken (Byte 0x2D) at a (int_no_minus a b i) g, int_taken a b q i, frac_taken b c p f) (exp_taken c n t e)
