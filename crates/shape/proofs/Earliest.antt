-- The offset is the least member of the places that break the row; these are places of numbers, or of strings.
use Rattle.std.specs.Prelude.{Some, None, Option}
use mathlib.Core.Path.{◌≡◌, refl, sym, ap, ◌∙◌}
use mathlib.Core.List.Memᴰ
use mathlib.Core.List.{List, [], ◌∷◌, Memᴰ}
use mathlib.Core.Bool.{Bool, true, false, cond}
use mathlib.Core.Logic.{◌↔◌, inl, inr, ⊎_elim}
use Prim.Native.Nat.{ℕ, ◌≤◌, min}
use native.Mathlib.Omega.{arith}
use borrow.Author.Tests.{ltb-true, ltb-false}
use lib.Dec.{eqb, ltb}
use Rattle.json_tree.specs.Grammar.{case, number_at, string_at, literal_at, scalar_at}
use Rattle.json_tree.specs.Tree.{Json, Got, none, got, root}
use Rattle.json_tree.specs.declared.Kind.TheVariants.{Str, Num, Word}
use Rattle.rows.specs.Rows.{on_root}
use Rattle.shape.specs.Rows.{row6, row7, message_row}
use Rattle.shape.specs.Lowest.{holds}
use Rattle.shape.specs.Offsets.{least_of, earliest, number_places, hex_places, root_offset, offset_of}
use Rattle.shape.specs.Earliest.{root_places, OffsetEarliest, OffsetCarried, OtherRows}
use Rattle.shape.specs.Earliest.{NumberThere, StringThere, OffsetInside}
use Rattle.shape.proofs.Names.{no}
use Rattle.shape.proofs.Places.{scalar_string}
use Rattle.shape.proofs.Placed.{some, number_some, hex_some}
use Rattle.shape.proofs.Offsets.{offset_absent, offset_stands}
use Rattle.shape.proofs.Offsets.{offset_within as offset-in}
use Rattle.shape.proofs.Exact.{row_given}

-- ---- the least member of a list
least_in : (p : ℕ) (ps : List ℕ) → Memᴰ (least_of p ps) (p ∷ ps)
unfolding least_of
least_in p [] = Memᴰ.head refl
least_in p (q ∷ qs) = go (ltb p (least_of q qs)) refl (least_in q qs)
  where
    go : (x : Bool) → ltb p (least_of q qs) ≡ x → Memᴰ (least_of q qs) (q ∷ qs) → Memᴰ (min p (least_of q qs)) (p ∷ q ∷ qs)
    go true e i = let h = ltb-true p (least_of q qs) e in let z : min p (least_of q qs) ≡ p = omega arith in rw z (Memᴰ.head refl)
    go false e i = let h = ltb-false p (least_of q qs) e in let z : min p (least_of q qs) ≡ least_of q qs = omega arith in rw z (Memᴰ.tail i)

least_most : (p : ℕ) (ps : List ℕ) (q : ℕ) → Memᴰ q (p ∷ ps) → least_of p ps ≤ q
unfolding least_of
least_most p [] q i = ⊎_elim (λ (e : q ≡ p). omega arith) (λ j. absurd (Memᴰ.not-nil j)) (Memᴰ.cases_cons i)
least_most p (r ∷ rs) q i = ⊎_elim (λ (e : q ≡ p). omega arith) (λ j. let h = least_most r rs q j in omega arith) (Memᴰ.cases_cons i)

-- p is a member of the list, and no member is less
record Least (l : List ℕ) (p : ℕ) : Type 0 where
  member : Memᴰ p l
  none_less : (q : ℕ) → Memᴰ q l → p ≤ q

earliest_least : (l : List ℕ) (p : ℕ) → (earliest l ≡ Some p) ↔ Least l p
earliest_least [] p = (λ e. no cc, λ w. absurd (Memᴰ.not-nil w.member))
earliest_least (q ∷ qs) p = (there, back)
  where
    there : Some (least_of q qs) ≡ Some p → Least (q ∷ qs) p
    there e = let z : least_of q qs ≡ p = cc in rw (← z) record { member = least_in q qs; none_less = least_most q qs }

    back : Least (q ∷ qs) p → Some (least_of q qs) ≡ Some p
    back w = let a = w.none_less (least_of q qs) (least_in q qs) in let b = least_most q qs p w.member in ap Some (omega arith)

-- ---- the offset, by the places that break the row
by_places : (row : ℕ) (s : List ℕ) (g : Got Json) → root_offset row s g ≡ earliest (root_places row s g)
by_places row s none = refl
by_places row s (got t n) = go (eqb row 6) (eqb row 7)
  where
    go : (x y : Bool) → cond x (earliest (number_places s t)) (cond y (earliest (hex_places s t)) None) ≡ earliest (cond x (number_places s t) (cond y (hex_places s t) []))
    go true y = refl
    go false true = refl
    go false false = refl

pub offset_earliest : OffsetEarliest
unfolding offset_of
offset_earliest s p =
    let (there, back) = earliest_least (root_places (message_row s) s (root s)) p in
    let e = by_places (message_row s) s (root s) in (
      λ q. let w = there (sym e ∙ q) in record { breaking = w.member; none_earlier = w.none_less },
      λ w. e ∙ back record { member = w.breaking; none_less = w.none_earlier },
    )

-- a row that holds has a place
some_earliest : (c : List ℕ) → some c ≡ true → (p : ℕ) × (earliest c ≡ Some p)
some_earliest [] e = no cc
some_earliest (p ∷ ps) e = (least_of p ps, refl)

module _ (s : List ℕ) where
  six : message_row s ≡ 6 → (p : ℕ) × (offset_of s ≡ Some p)
  unfolding offset_of holds
  six e = rw e (go (root s) ((row_given s 6 (omega arith)).0 e).held)
    where
      go : (g : Got Json) → on_root (row6 s) g ≡ true → (p : ℕ) × (root_offset 6 s g ≡ Some p)
      go none h = no cc
      go (got t n) h = some_earliest (number_places s t) (sym (number_some s t) ∙ h)

  seven : message_row s ≡ 7 → (p : ℕ) × (offset_of s ≡ Some p)
  unfolding offset_of holds
  seven e = rw e (go (root s) ((row_given s 7 (omega arith)).0 e).held)
    where
      go : (g : Got Json) → on_root (row7 s) g ≡ true → (p : ℕ) × (root_offset 7 s g ≡ Some p)
      go none h = no cc
      go (got t n) h = some_earliest (hex_places s t) (sym (hex_some s t) ∙ h)

pub offset_carried : OffsetCarried
offset_carried s (inl e) = six s e
offset_carried s (inr e) = seven s e

pub other_rows : OtherRows
other_rows s a b = offset_absent s a b

-- ---- what stands there
scalar_number : (s : List ℕ) (at n : ℕ) → scalar_at s at ≡ Some (Num n) → number_at s at ≡ Some n
unfolding scalar_at
scalar_number s at n e = go (string_at s at) (number_at s at) (literal_at s at) e
  where
    go : (o p q : Option ℕ) → case o (λ n. Some (Str n)) (case p (λ n. Some (Num n)) (case q (λ n. Some (Word n)) None)) ≡ Some (Num n) → p ≡ Some n
    go (Some m) p q e = no cc
    go None (Some m) q e = cc
    go None None (Some m) e = no cc
    go None None None e = no cc

pub number_there : NumberThere
number_there s p r e = ⊎_elim (λ (q, w). (w.0, scalar_number s p w.0 w.1)) (λ (q, w). absurd (omega arith)) (offset_stands s e)

pub string_there : StringThere
string_there s p r e = ⊎_elim (λ (q, w). absurd (omega arith)) (λ (q, w). (w.0, scalar_string s p w.0 w.1)) (offset_stands s e)

pub offset_inside : OffsetInside
offset_inside s p e = (offset-in s e).0
