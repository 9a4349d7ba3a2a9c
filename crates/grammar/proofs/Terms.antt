-- One byte, a run of bytes, a structural character and a name: json_tree's functions say what the rules say. White space
-- is taken whole by a function and piecemeal by a rule, so a place is compared after the white space that stands there.
use Rattle.std.specs.Prelude.{Some, None}
use mathlib.Core.Path.{◌≡◌, refl, sym, ap, ◌∙◌}
use mathlib.Core.List.{List, [], ◌∷◌}
use mathlib.Core.Bool.{Bool, true, false, cond, ◌||◌}
use Prim.Native.Nat.{ℕ, zero, suc, ◌+◌, ◌<◌, ◌≤◌}
use native.Mathlib.Omega.{arith}
use lib.ListN.{length, get_or}
use lib.Dec.{eqb, ltb}
use borrow.Author.Tests.{eqb-true, ltb-true}
use Rattle.json_tree.specs.Grammar.{no_zero, in_class, past, ws_at, one_at, token_at, word_at}
use Rattle.json_tree.specs.declared.Class.{Class}
use Rattle.json_tree.specs.declared.Class.TheVariants.{Space, Byte}
use Rattle.json_tree.proofs.Bytes.{both, class_within, past_more, past_none, byte_not_zero}
use Rattle.json_tree.proofs.Ends.{then_end, one_is, one_of, byte_is}
use Rattle.grammar.specs.Rfc.{Star, stop, step, one, ws, token, name}

pub same_end : {m n : ℕ} → Some m ≡ Some n → m ≡ n
same_end e = cc

-- ---- the four bytes of white space
pub space_is : (P : ℕ → Type 0) → P 0x20 → P 0x09 → P 0x0A → P 0x0D → (x : ℕ) → in_class Space x ≡ true → P x
unfolding in_class
space_is P a b c d x e = go₁ (eqb x 0x20) refl e
  where
    go₃ : (t : Bool) → eqb x 0x0A ≡ t → (t || eqb x 0x0D) ≡ true → P x
    go₃ true p q = rw (eqb-true x 0x0A p) c
    go₃ false p q = rw (eqb-true x 0x0D q) d

    go₂ : (t : Bool) → eqb x 0x09 ≡ t → (t || (eqb x 0x0A || eqb x 0x0D)) ≡ true → P x
    go₂ true p q = rw (eqb-true x 0x09 p) b
    go₂ false p q = go₃ (eqb x 0x0A) refl q

    go₁ : (t : Bool) → eqb x 0x20 ≡ t → (t || (eqb x 0x09 || (eqb x 0x0A || eqb x 0x0D))) ≡ true → P x
    go₁ true p q = rw (eqb-true x 0x20 p) a
    go₁ false p q = go₂ (eqb x 0x09) refl q

module _ (s : List ℕ) where
  pub one_sound : (class : Class) (at n : ℕ) → in_class class 0 ≡ false → one_at s class at ≡ Some n → one s class at n
  one_sound class at n z e =
      let (p, q) = one_is s class at e in
      (class_within class s at z p, p, q)

  pub one_taken : (class : Class) (at n : ℕ) → one s class at n → one_at s class at ≡ Some n
  one_taken class at n o = one_of s class at o.1 ∙ ap Some o.2

  pub one_bad : (class : Class) (at : ℕ) → one_at s class at ≡ None → in_class class (get_or s at 0) ≡ false
  unfolding one_at
  one_bad class at e = go (in_class class (get_or s at 0)) e
    where
      go : (b : Bool) → cond b (Some (at + 1)) None ≡ None → b ≡ false
      go true q = cc
      go false q = refl

  -- ---- *class
  module _ (class : Class) (z : in_class class 0 ≡ false) where
    step_sound : (at : ℕ) (b : Bool) → in_class class (get_or s at 0) ≡ b → (at < length s → Star (one s class) (at + 1) (past class s (at + 1))) → Star (one s class) at (past class s at)
    step_sound at true q rest =
        let h = class_within class s at z q in
        step (h, q, refl) (rw (past_more class s at h q) at (rest h))
    step_sound at false q rest = rw (past_none class s at q) stop

    run_sound : (k at : ℕ) → length s ≤ k + at → Star (one s class) at (past class s at)
    run_sound zero at h = step_sound at (in_class class (get_or s at 0)) refl (λ l. absurd (omega arith))
    run_sound (suc k) at h = step_sound at (in_class class (get_or s at 0)) refl (λ l. run_sound k (at + 1) (omega arith))

    pub star_sound : (at n : ℕ) → past class s at ≡ n → Star (one s class) at n
    star_sound at n e = rw (← e) (run_sound (length s) at (omega arith))

  pub star_past : (class : Class) (at n : ℕ) → Star (one s class) at n → past class s at ≡ past class s n
  star_past class at n stop = refl
  star_past class at n (step {m = m} o r) = sym (past_more class s at o.0 o.1) ∙ ap (past class s) o.2 ∙ star_past class m n r

  pub star_from : (class : Class) (at n : ℕ) → Star (one s class) at n → at ≤ n
  star_from class at n stop = omega arith
  star_from class at n (step {m = m} o r) = let h = star_from class m n r in let q = o.2 in omega arith

  -- ---- structural characters, the ws before which may be known already
  pub token_sound : (b m at n : ℕ) → 0 < b → ws s m at → token_at s b at ≡ Some n → token s b m n
  unfolding token_at in_class
  token_sound b m at n h w e =
      let (a, p, q) = then_end (one_at s (Byte b) at) _ e in
      (at, w, (a, one_sound (Byte b) at a (byte_not_zero b h) p, star_sound Space refl a n (same_end q)))

  pub token_byte : (b at n : ℕ) (t : token s b at n) → get_or s t.0 0 ≡ b
  token_byte b at n t = let r = t.2 in byte_is s b t.0 (one_taken (Byte b) t.0 r.0 r.1)

  -- b is the first byte that is no white space
  pub token_place : (b at n : ℕ) → in_class Space b ≡ false → (t : token s b at n) → ws_at s at ≡ t.0
  token_place b at n z t = star_past Space at t.0 t.1 ∙ past_none Space s t.0 (ap (in_class Space) (token_byte b at n t) ∙ z)

  pub token_taken : (b at n : ℕ) → in_class Space b ≡ false → token s b at n → token_at s b (ws_at s at) ≡ Some (ws_at s n)
  unfolding token_at
  token_taken b at n z t =
      let r = t.2 in
      rw (token_place b at n z t, one_taken (Byte b) t.0 r.0 r.1) (ap Some (star_past Space r.0 n r.2))

  -- ---- names
  pub name_sound : (w : List ℕ) (at n : ℕ) → no_zero w ≡ true → word_at s w at ≡ Some n → name s w at n
  unfolding word_at
  name_sound [] at n z e = same_end e
  name_sound (b ∷ w) at n z e =
      let (p, q) = both (ltb 0 b) (no_zero w) z in
      let (m, o, r) = then_end (one_at s (Byte b) at) _ e in
      (m, one_sound (Byte b) at m (byte_not_zero b (ltb-true 0 b p)) o, name_sound w m n q r)

  pub name_taken : (w : List ℕ) (at n : ℕ) → name s w at n → word_at s w at ≡ Some n
  unfolding word_at
  name_taken [] at n e = ap Some e
  name_taken (b ∷ w) at n e = rw (one_taken (Byte b) at e.0 e.1) (name_taken w e.0 n e.2)
