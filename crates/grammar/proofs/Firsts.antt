-- A byte tells which rule begins and whether a number can go on, and no rule goes back.
use Rattle.std.specs.Prelude.{Option, Some, None}
use mathlib.Core.Path.{◌≡◌, refl, sym, ◌∙◌}
use mathlib.Core.Logic.{inl, inr}
use mathlib.Core.List.{List, [], ◌∷◌}
use mathlib.Core.Bool.{Bool, true, false, false≢true}
use Prim.Native.Nat.{ℕ, ◌<◌, ◌≤◌}
use native.Mathlib.Omega.{arith}
use lib.ListN.{length, get_or}
use Rattle.json_tree.specs.Grammar.{in_class, false_name, null_name, true_name, ws_at, word_at, literal_at, digits_at, int_at}
use Rattle.json_tree.specs.Grammar.{number_at, string_at, scalar_at}
use Rattle.json_tree.specs.Tree.{end_of, on_leaf}
use Rattle.json_tree.specs.declared.Class.{Class}
use Rattle.json_tree.specs.declared.Class.TheVariants.{Space, Digit, Exponent, Sign, Byte}
use Rattle.json_tree.specs.declared.Kind.{Kind}
use Rattle.json_tree.specs.declared.Kind.TheVariants.{Str, Num, Word}
use Rattle.json_tree.proofs.Bytes.{past_none}
use Rattle.json_tree.proofs.Deeper.{Lacks}
use Rattle.json_tree.proofs.Ends.{one_not, byte_not, not_byte}
use Rattle.json_tree.proofs.Spelled.{string_parts}
use Rattle.grammar.specs.Rfc.{◌∣◌, opt, stop, step, one, ws, token, name, literal, digits, int, frac, exp, number}
use Rattle.grammar.specs.Rfc.{string}
use Rattle.grammar.proofs.Terms.{space_is, one_taken, star_from, name_taken}
use Rattle.grammar.proofs.Numbers.{first_digit, Stops, number_taken}
use Rattle.grammar.proofs.Strings.{string_taken}

-- ---- white space: no value begins with it, and no number goes on with it
-- a byte with which no number goes on
abbrev pub Quiet : ℕ → Type 0
Quiet x = (in_class Digit x ≡ false) × (in_class (Byte 0x2E) x ≡ false) × (in_class Exponent x ≡ false)

space_lacks : (x : ℕ) → in_class Space x ≡ true → Lacks x
unfolding in_class
space_lacks =
    space_is Lacks (refl, refl, refl, refl, refl, refl, refl) (refl, refl, refl, refl, refl, refl, refl) (refl, refl, refl, refl, refl, refl, refl) (refl, refl, refl, refl, refl, refl, refl)

space_quiet : (x : ℕ) → in_class Space x ≡ true → Quiet x
unfolding in_class
space_quiet = space_is Quiet (refl, refl, refl) (refl, refl, refl) (refl, refl, refl) (refl, refl, refl)

module _ (s : List ℕ) where
  pub ws_quiet : (at n : ℕ) → ws s at n → Quiet (get_or s n 0) → Stops s at
  ws_quiet at n stop q = (one_not s Digit at q.0, one_not s (Byte 0x2E) at q.1, one_not s Exponent at q.2)
  ws_quiet at n (step o r) q = let h = space_quiet (get_or s at 0) o.1 in (one_not s Digit at h.0, one_not s (Byte 0x2E) at h.1, one_not s Exponent at h.2)

  -- ---- the first byte of a literal name, a number or a string
  differ : (class : Class) (at n : ℕ) → one s class at n → in_class class (get_or s at 0) ≡ false → ⊥
  differ class at n o e = false≢true (sym e ∙ o.1)

  number_lead : (at n : ℕ) → number s at n → Lacks (get_or s at 0) → ⊥
  number_lead at n (a, inr o, r) l = differ (Byte 0x2D) at a o l.1
  number_lead at n (a, inl e, (b, inl o, r)) l = differ (Byte 0x30) at b (rw e o) l.2
  number_lead at n (a, inl e, (b, inr (c, o, q), r)) l = differ Digit at c (rw e (first_digit s a c o).0) l.3

  pub lead : (at n : ℕ) → (literal s ∣ number s ∣ string s) at n → Lacks (get_or s at 0) → ⊥
  lead at n (inl (inl (m, o, r))) l = differ (Byte 0x66) at m o l.4
  lead at n (inl (inr (inl (m, o, r)))) l = differ (Byte 0x6E) at m o l.5
  lead at n (inl (inr (inr (m, o, r)))) l = differ (Byte 0x74) at m o l.6
  lead at n (inr (inl e)) l = number_lead at n e l
  lead at n (inr (inr (m, o, r))) l = differ (Byte 0x22) at m o l.0

  -- so there is no white space before it
  pub plain_place : (at n : ℕ) → (literal s ∣ number s ∣ string s) at n → ws_at s at ≡ at
  plain_place at n e = past_none Space s at (go (in_class Space (get_or s at 0)) refl)
    where
      go : (b : Bool) → in_class Space (get_or s at 0) ≡ b → b ≡ false
      go true q = absurd (lead at n e (space_lacks (get_or s at 0) q))
      go false q = refl

  -- ---- which picks the rule
  no_string : (x at n : ℕ) → in_class (Byte 0x22) x ≡ false → one s (Byte x) at n → string_at s at ≡ None
  unfolding string_at
  no_string x at n z o = rw (byte_not s x (Byte 0x22) at z (one_taken s (Byte x) at n o))

  no_number : (x at n : ℕ) → (in_class (Byte 0x2D) x ≡ false) × (in_class (Byte 0x30) x ≡ false) × (in_class Digit x ≡ false) → one s (Byte x) at n → number_at s at ≡ None
  unfolding number_at int_at digits_at
  no_number x at n z o = let p = one_taken s (Byte x) at n o in simp (byte_not s x (Byte 0x2D) at z.0 p, byte_not s x (Byte 0x30) at z.1 p, byte_not s x Digit at z.2 p)

  no_word : (x y at n : ℕ) (w : List ℕ) → in_class (Byte y) x ≡ false → one s (Byte x) at n → word_at s (y ∷ w) at ≡ None
  unfolding word_at
  no_word x y at n w z o = rw (byte_not s x (Byte y) at z (one_taken s (Byte x) at n o))

  number_no_string : (at n : ℕ) → number s at n → string_at s at ≡ None
  unfolding string_at in_class
  number_no_string at n (a, inr o, r) = rw (byte_not s 0x2D (Byte 0x22) at refl (one_taken s (Byte 0x2D) at a o))
  number_no_string at n (a, inl e, (b, inl o, r)) = rw (byte_not s 0x30 (Byte 0x22) at refl (one_taken s (Byte 0x30) at b (rw e o)))
  number_no_string at n (a, inl e, (b, inr (c, o, q), r)) = rw (not_byte s 0x22 Digit at refl (one_taken s Digit at c (rw e (first_digit s a c o).0)))

  pub plain_taken : (at n : ℕ) → Stops s n → (literal s ∣ number s ∣ string s) at n → (k : Option Kind) × (scalar_at s at ≡ k) × (end_of (on_leaf s at k) ≡ Some (ws_at s n))
  unfolding scalar_at literal_at in_class
  plain_taken at n t (inl (inl e)) =
      (Some (Word n), rw (no_string 0x66 at e.0 refl e.1, no_number 0x66 at e.0 (refl, refl, refl) e.1, name_taken s false_name at n e), refl)
  plain_taken at n t (inl (inr (inl e))) =
      (Some (Word n), rw (no_string 0x6E at e.0 refl e.1, no_number 0x6E at e.0 (refl, refl, refl) e.1, no_word 0x6E 0x66 at e.0 _ refl e.1, name_taken s null_name at n e), refl)
  plain_taken at n t (inl (inr (inr e))) =
      (Some (Word n), rw (no_string 0x74 at e.0 refl e.1, no_number 0x74 at e.0 (refl, refl, refl) e.1, no_word 0x74 0x66 at e.0 _ refl e.1, no_word 0x74 0x6E at e.0 _ refl e.1, name_taken s true_name at n e), refl)
  plain_taken at n t (inr (inl e)) = (Some (Num n), rw (number_no_string at n e, number_taken s at n t e), refl)
  plain_taken at n t (inr (inr e)) = (Some (Str n), rw (string_taken s at n e), refl)

  -- ---- no rule goes back
  name_from_lem : (w : List ℕ) (at n : ℕ) → name s w at n → at ≤ n
  name_from_lem [] at n e = omega arith
  name_from_lem (b ∷ w) at n e = let h = name_from_lem w e.0 n e.2 in let q = e.1.2 in omega arith

  digits_from : (at n : ℕ) → digits s at n → at ≤ n
  digits_from at n (m, o, r) = let h = star_from s Digit m n r in let q = o.2 in omega arith

  number_from_lem : (at n : ℕ) → number s at n → at ≤ n
  number_from_lem at n (a, g, (b, i, (c, f, e))) =
      let p = minus g in
      let q = whole i in
      let r = part f in
      let t = power e in
      omega arith
    where
      minus : opt (one s (Byte 0x2D)) at a → at ≤ a
      minus (inl z) = omega arith
      minus (inr o) = let z = o.2 in omega arith

      whole : int s a b → a ≤ b
      whole (inl o) = let z = o.2 in omega arith
      whole (inr (m, o, r)) = let z = o.2 in let h = star_from s Digit m b r in omega arith

      part : opt (frac s) b c → b ≤ c
      part (inl z) = omega arith
      part (inr (m, o, r)) = let z = o.2 in let h = digits_from m c r in omega arith

      sign : (x y : ℕ) → opt (one s Sign) x y → x ≤ y
      sign x y (inl z) = omega arith
      sign x y (inr o) = let z = o.2 in omega arith

      power : opt (exp s) c n → c ≤ n
      power (inl z) = omega arith
      power (inr (m, o, (k, g', r))) = let z = o.2 in let y = sign m k g' in let h = digits_from k n r in omega arith

  pub string_from : (at n : ℕ) → string s at n → at ≤ n
  string_from at n e = let h = (string_parts s at n (string_taken s at n e)).3 in omega arith

  pub plain_from : (at n : ℕ) → (literal s ∣ number s ∣ string s) at n → at ≤ n
  plain_from at n (inl (inl e)) = name_from_lem false_name at n e
  plain_from at n (inl (inr (inl e))) = name_from_lem null_name at n e
  plain_from at n (inl (inr (inr e))) = name_from_lem true_name at n e
  plain_from at n (inr (inl e)) = number_from_lem at n e
  plain_from at n (inr (inr e)) = string_from at n e

  pub token_from : (b at n : ℕ) (t : token s b at n) → (at ≤ t.0) × (t.0 < n) × (t.0 < length s)
  token_from b at n t =
      let r = t.2 in
      let p = star_from s Space at t.0 t.1 in
      let q = star_from s Space r.0 n r.2 in
      let e = r.1 in
      (p, (let z = e.2 in omega arith), e.0)
