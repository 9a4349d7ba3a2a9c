-- A way out at a time: numbers up to their comma, the opening with the pubkey, the rest, and the whole text.
use Rattle.std.specs.Prelude.{Some, None, Result, Ok, Err, unsigned_abs}
use Rattle.std.specs.Result.{OkIff, result_ok}
use Rattle.std.specs.Int.{FitsUnsignedBits}
use mathlib.Core.Path.{◌≡◌, refl, sym, ap, ◌∙◌}
use mathlib.Core.Bool.{Bool, true, false, cond, ◌&&◌, and-false}
use mathlib.Core.List.{List, [], ◌∷◌}
use Prim.Native.Nat.{ℕ, suc, ◌+◌, ◌-◌, ◌<◌, ◌≤◌, ◌^◌}
use native.Mathlib.Omega.{arith}
use lib.Dec.{eqb, ltb}
use lib.IntN.{ℤ, pos, negsuc}
use lib.ListN.{length, get_or, take, drop, length-drop, get_or-eq_default}
use lib.Seq.{take_at, get_or-drop}
use lib.Signed.{mag}
use mir.Syntax.{w64}
use mir.Val.{to_z, of_z}
use mir.ValLaws.{to_z-of_z}
use borrow.Author.Tests.{le-leb, lt-leb, eq-eqb, ne_eqb, eqb-true, ltb-true, ltb-false, not-false}
use Rattle.numeral.specs.Whole.{whole_of, is_within, whole_answer}
use Rattle.numeral.specs.Whole as numeral
use Rattle.numeral.specs.declared.Whole.{Whole}
use Rattle.numeral.specs.declared.Whole.TheVariants.{Value, Large}
use Rattle.text.specs.Event.{opening, closing, comma, is_pubkey, is_time, is_kind}
use Rattle.text.specs.Read.{Got, none, got, bind, stands_at, closed_at, run_of, time_of, kind_of, time_at, kind_at}
use Rattle.text.specs.Read.{pubkey_at}
use Rattle.text.specs.Inner.Parts.{time_got, kind_got, is_got, opens, comma_after}
use Rattle.text.proofs.Numbers.{run_split}

-- ---- one byte
module _ (s : List ℕ) (at b x : ℕ) (e : x ≡ get_or s at 0) where
  pub stands_byte : x ≡ b → stands_at s (b ∷ []) at ≡ true
  unfolding stands_at
  stands_byte h = rw (eq-eqb (get_or s at 0) b (sym e ∙ h))

  pub stands_other : (x ≡ b → ⊥) → stands_at s (b ∷ []) at ≡ false
  unfolding stands_at
  stands_other h = rw (ne_eqb (get_or s at 0) b (λ q. h (e ∙ q)))

-- ---- what a number read by `numeral` says
value_told : (w : numeral.Spelled) (z : ℤ) → whole_answer w ≡ Value z → (w ≡ numeral.whole z) × (is_time z ≡ true)
unfolding whole_answer is_time
value_told numeral.malformed z e = absurd (let z : ◌≡◌ {A = ℕ} 0 1 = cc in omega arith)
value_told (numeral.whole y) z e = go (is_time y) refl e
  where
    go : (t : Bool) → is_time y ≡ t → cond t (Value y) Large ≡ Value z → (numeral.whole y ≡ numeral.whole z) × (is_time z ≡ true)
    go true h e = let k : y ≡ z = cc in (ap numeral.whole k, (rw k at h))
    go false h e = absurd (let z : ◌≡◌ {A = ℕ} 0 1 = cc in omega arith)

value_none : (w : numeral.Spelled) (n : ℕ) → ((z : ℤ) → whole_answer w ≡ Value z → ⊥) → (time_of w n ≡ none) × (kind_of w n ≡ none)
unfolding whole_answer is_time is_within
value_none numeral.malformed n h = (refl, refl)
value_none (numeral.whole y) n h = go (is_time y) refl h
  where
    large_kind : (y : ℤ) → is_time y ≡ false → kind_of (numeral.whole y) n ≡ none
    large_kind (negsuc k) e = refl
    large_kind (pos k) e = let l = ltb-true 9007199254740991 k (not-false (ltb 9007199254740991 k) e) in rw (lt-leb k 65535 (omega arith))

    go : (t : Bool) → is_time y ≡ t → ((z : ℤ) → cond t (Value y) Large ≡ Value z → ⊥) → (time_of (numeral.whole y) n ≡ none) × (kind_of (numeral.whole y) n ≡ none)
    go true e h = absurd (h y refl)
    go false e h = (rw e, large_kind y e)

-- ---- up to the comma
run_then : (l : List ℕ) → length (run_of l) < length l → get_or l (length (run_of l)) 0 ≡ 44
unfolding run_of
run_then [] h = absurd (omega arith)
run_then (x ∷ l) h = go (eqb x 44) refl h (run_then l)
  where
    go : (t : Bool) → eqb x 44 ≡ t → length (cond t [] (x ∷ run_of l)) < suc (length l) → (length (run_of l) < length l → get_or l (length (run_of l)) 0 ≡ 44)
        → get_or (x ∷ l) (length (cond t [] (x ∷ run_of l))) 0 ≡ 44
    go true e h ih = eqb-true x 44 e
    go false e h ih = ih (omega arith)

module _ {A : Type 0} (s : List ℕ) (at n : ℕ) (f : ℕ → Got A) where
  closed_none : f at ≡ none → closed_at s comma f at ≡ none
  unfolding closed_at
  closed_none e = rw e

  closed_got : (x : A) → f at ≡ got x n → stands_at s comma n ≡ true → closed_at s comma f at ≡ got x (n + 1)
  unfolding closed_at
  closed_got x e h = rw (e, h)

  closed_past : (x : A) → f at ≡ got x n → length s ≤ n → closed_at s comma f at ≡ none
  unfolding closed_at stands_at
  closed_past x e h = rw (e, get_or-eq_default s 0 h)

pub comma_told : (s : List ℕ) (at n : ℕ) → Some n ≡ comma_after s at → (n ≡ at + length (run_of (drop at s))) × (n < length s)
comma_told s at n e = go (ltb (at + length (run_of (drop at s))) (length s)) refl e
  where
    go : (b : Bool) → ltb (at + length (run_of (drop at s))) (length s) ≡ b → Some n ≡ cond b (Some (at + length (run_of (drop at s)))) None
        → (n ≡ at + length (run_of (drop at s))) × (n < length s)
    go true q e = let z : n ≡ at + length (run_of (drop at s)) = cc in (z, omega (arith, ltb-true _ _ q))
    go false q e = absurd (let z : ◌≡◌ {A = ℕ} 0 1 = cc in omega arith)

pub no_comma : (s : List ℕ) (at : ℕ) → None ≡ comma_after s at → length s ≤ at + length (run_of (drop at s))
no_comma s at e = go (ltb (at + length (run_of (drop at s))) (length s)) refl e
  where
    go : (b : Bool) → ltb (at + length (run_of (drop at s))) (length s) ≡ b → None ≡ cond b (Some (at + length (run_of (drop at s)))) None
        → length s ≤ at + length (run_of (drop at s))
    go true q e = absurd (let z : ◌≡◌ {A = ℕ} 0 1 = cc in omega arith)
    go false q e = ltb-false _ _ q

-- n is the place of the comma
module _ (s : List ℕ) (at n : ℕ) (e : n ≡ at + length (run_of (drop at s))) where
  here : n < length s → stands_at s comma n ≡ true
  here h =
      let l = run_then (drop at s) (omega (arith, length-drop at s)) in
      stands_byte s n 44 44 (sym l ∙ get_or-drop at s (length (run_of (drop at s))) 0 ∙ rw (← e)) refl

  time_told : time_at s at ≡ time_of (whole_of (run_of (drop at s))) n
  unfolding time_at
  time_told = ap (time_of (whole_of (run_of (drop at s)))) (sym e)

  kind_told : kind_at s at ≡ kind_of (whole_of (run_of (drop at s))) n
  unfolding kind_at
  kind_told = ap (kind_of (whole_of (run_of (drop at s)))) (sym e)

  -- no comma
  module _ (h : length s ≤ n) where
    pub time_past : None ≡ time_got (closed_at s comma (time_at s) at)
    time_past = ap time_got (sym (go (whole_of (run_of (drop at s))) time_told))
      where
        small : (z : ℤ) (t : Bool) → time_at s at ≡ cond t (got z n) none → closed_at s comma (time_at s) at ≡ none
        small z true q = closed_past s at n (time_at s) z q h
        small z false q = closed_none s at n (time_at s) q

        go : (w : numeral.Spelled) → time_at s at ≡ time_of w n → closed_at s comma (time_at s) at ≡ none
        go numeral.malformed q = closed_none s at n (time_at s) q
        go (numeral.whole z) q = small z (is_time z) q

    pub kind_past : None ≡ kind_got (closed_at s comma (kind_at s) at)
    kind_past = ap kind_got (sym (go (whole_of (run_of (drop at s))) kind_told))
      where
        small : (k : ℕ) (t : Bool) → kind_at s at ≡ cond t (got k n) none → closed_at s comma (kind_at s) at ≡ none
        small k true q = closed_past s at n (kind_at s) k q h
        small k false q = closed_none s at n (kind_at s) q

        go : (w : numeral.Spelled) → kind_at s at ≡ kind_of w n → closed_at s comma (kind_at s) at ≡ none
        go numeral.malformed q = closed_none s at n (kind_at s) q
        go (numeral.whole (negsuc k)) q = closed_none s at n (kind_at s) q
        go (numeral.whole (pos k)) q = small k (is_kind k) q

  -- r is what the bytes up to it spell
  module _ (h : n < length s) (r : Whole) (f : r ≡ whole_answer (whole_of (take (n - at) (drop at s)))) where
    run_taken : take (n - at) (drop at s) ≡ run_of (drop at s)
    run_taken =
        let l : List ℕ = drop at s in
        let z : length (run_of l) ≡ n - at = omega arith in
        ap (take (n - at)) (run_split l) ∙ take_at (run_of l) (drop (length (run_of l)) l) (n - at) z

    read : whole_answer (whole_of (run_of (drop at s))) ≡ r
    read = sym (f ∙ ap (λ (l : List ℕ). whole_answer (whole_of l)) run_taken)

    module _ (g : (z : ℤ) → r ≡ Value z → ⊥) where
      no_value : (time_of (whole_of (run_of (drop at s))) n ≡ none) × (kind_of (whole_of (run_of (drop at s))) n ≡ none)
      no_value = value_none (whole_of (run_of (drop at s))) n (λ z q. g z (sym read ∙ q))

      pub time_no : None ≡ time_got (closed_at s comma (time_at s) at)
      time_no = ap time_got (sym (closed_none s at n (time_at s) (time_told ∙ no_value.0)))

      pub kind_no : None ≡ kind_got (closed_at s comma (kind_at s) at)
      kind_no = ap kind_got (sym (closed_none s at n (kind_at s) (kind_told ∙ no_value.1)))

    module _ (z : ℤ) (g : r ≡ Value z) where
      value : (whole_of (run_of (drop at s)) ≡ numeral.whole z) × (is_time z ≡ true)
      value = value_told (whole_of (run_of (drop at s))) z (read ∙ g)

      pub time_is : mag z < 2 ^ 63 → Some ((to_z w64 (of_z w64 z)), (n + 1)) ≡ time_got (closed_at s comma (time_at s) at)
      time_is l =
          let q : time_at s at ≡ got z n = time_told ∙ rw (value.0, value.1) in
          rw (to_z-of_z w64 z (record { sfits = l })) (ap time_got (sym (closed_got s at n (time_at s) z q (here h))))

      -- u is z as a number of 16 bits, if it is one
      module _ {E : Type 0} (u : Result ℕ E) (o : OkIff u (FitsUnsignedBits 16 z) (unsigned_abs z)) where
        pub kind_over : result_ok u ≡ None → None ≡ kind_got (closed_at s comma (kind_at s) at)
        kind_over k = ap kind_got (sym (closed_none s at n (kind_at s) (kind_told ∙ ap (λ (w : numeral.Spelled). kind_of w n) value.0 ∙ go z u o k)))
          where
            go : (z : ℤ) (u : Result ℕ E) → OkIff u (FitsUnsignedBits 16 z) (unsigned_abs z) → result_ok u ≡ None → kind_of (numeral.whole z) n ≡ none
            go (negsuc j) u o k = refl
            go (pos j) (Ok x) o k = absurd (let z : ◌≡◌ {A = ℕ} 0 1 = cc in omega arith)
            go (pos j) (Err x) o k = rw (lt-leb j 65535 (omega arith))

        pub kind_is : (k : ℕ) → result_ok u ≡ Some k → Some (k, n + 1) ≡ kind_got (closed_at s comma (kind_at s) at)
        kind_is k e = ap kind_got (sym (closed_got s at n (kind_at s) k (kind_told ∙ ap (λ (w : numeral.Spelled). kind_of w n) value.0 ∙ go z u o e) (here h)))
          where
            go : (z : ℤ) (u : Result ℕ E) → OkIff u (FitsUnsignedBits 16 z) (unsigned_abs z) → result_ok u ≡ Some k → kind_of (numeral.whole z) n ≡ got k n
            go z (Err x) o e = absurd (let z : ◌≡◌ {A = ℕ} 0 1 = cc in omega arith)
            go (negsuc j) (Ok x) o e = absurd o.0
            go (pos j) (Ok x) o e = let c : x ≡ k = cc in rw (le-leb j 65535 (omega (arith, o.0))) (ap (λ (i : ℕ). got i n) (sym o.1 ∙ c))

-- ---- [0,"PUBKEY",
module _ (t : List ℕ) where
  pub opens_short : length t < 70 → false ≡ opens t
  unfolding opens closed_at pubkey_at stands_at
  opens_short h = sym (go (is_pubkey (take 64 (drop 4 t))))
    where
      past : stands_at t closing 68 ≡ false
      past = let l : length t ≤ 69 = omega arith in rw (get_or-eq_default t 0 {n = 69} l) (and-false (eqb (get_or t 68 0) 34))

      go : (b : Bool) → (stands_at t opening 0 && is_got (bind (cond b (got (take 64 (drop 4 t)) 68) none) λ x n. cond (stands_at t closing n) (got x (n + length closing)) none)) ≡ false
      go true = rw past (and-false (stands_at t opening 0))
      go false = and-false (stands_at t opening 0)

  pub opens_other : stands_at t opening 0 ≡ false → false ≡ opens t
  unfolding opens
  opens_other a = rw a

  module _ (a : stands_at t opening 0 ≡ true) where
    pub opens_no : is_pubkey (take 64 (drop 4 t)) ≡ false → false ≡ opens t
    unfolding opens closed_at pubkey_at
    opens_no b = rw (a, b)

    pub opens_is : is_pubkey (take 64 (drop 4 t)) ≡ true → stands_at t closing 68 ≡ opens t
    unfolding opens closed_at pubkey_at
    opens_is b = rw (a, b) (go (stands_at t closing 68))
      where
        go : (c : Bool) → c ≡ is_got (cond c (got (take 64 (drop 4 t)) 70) none)
        go true = refl
        go false = refl
