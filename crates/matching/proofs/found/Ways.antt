-- The ways out of the functions on names, places and lists, and the whole filter.
use Rattle.std.specs.Prelude.{Some, None, Option}
use mathlib.Core.Path.{◌≡◌, refl, sym, ap, ◌∙◌}
use mathlib.Core.Bool.{Bool, true, false}
use mathlib.Core.List.{List, ◌++◌, append-nil}
use Prim.Native.Nat.{ℕ, ◌+◌, ◌≤◌}
use native.Mathlib.Omega.{arith}
use borrow.Author.Tests.{ne_eqb}
use lib.ListN.{length, get_or, take, drop_of_length-le}
use Rattle.wire.specs.Put.{Puts}
use Rattle.wire.proofs.Laws.{puts_whole}
use Rattle.json_tree.specs.Grammar.{case, next_at}
use Rattle.json_tree.specs.Tree.{end_of, depth, tree_at, on_object}
use Rattle.json_tree.specs.declared.Next.{Next}
use Rattle.shape.specs.Shape.{is_string, is_number, is_array_of, is_letter, is_condition, is_filter}
use Rattle.shape.specs.Rows.{wrong_list, filter_counts}
use Rattle.message.specs.declared.FilterParts.{FilterParts}
use Rattle.message.specs.Lists.{open_within}
use Rattle.message.specs.Lent.{value5, on_value, value_at, wrong_smalls, in_list, filter_row}
use Rattle.message.proofs.Checked.{ids_are, authors_are, kinds_are, conditions_are}
use Rattle.query.specs.Filter.{if_listed, strings_in, numbers_in, filter_of}
use Rattle.matching.specs.declared.Known.{Known}
use Rattle.matching.specs.Inner.Found.{given, spelled_by, numbers_by, filter_by}
use Rattle.matching.specs.Inner.Finds.{FindsMembers, FindsConditions, reach, more_named}
use Rattle.matching.specs.Inner.Finds.{next_named, condition_letter}
use Rattle.matching.proofs.found.Objects.{part_same, take_shorter}

-- ---- a name
pub not_two : (w : List ℕ) {n : ℕ} → n ≡ length w → (n ≡ 2 → ⊥) → 0 ≡ condition_letter w
unfolding condition_letter is_condition
not_two w e z =
    let h : length w ≡ 2 → ⊥ = λ y. z (e ∙ y) in
    sym (rw (ne_eqb (length w) 2 h) refl)

module _ (w : List ℕ) {n : ℕ} (e : n ≡ length w) (two : n ≡ 2) {d o : List ℕ} {r : ℕ} (l : length d ≡ 2) (p : Puts d 0 w r o) where
  pub same_two : o ≡ w
  same_two =
      let h : length d ≤ length w = omega arith in
      (puts_whole (omega arith) p).1 ∙ ap (λ (x : List ℕ). w ++ x) (drop_of_length-le d {i = length w} h) ∙ append-nil w

  pub not_hash : (get_or o 0 0 ≡ 35 → ⊥) → 0 ≡ condition_letter w
  unfolding condition_letter is_condition
  not_hash z =
      let q : get_or w 0 0 ≡ 35 → ⊥ = λ y. z (ap (λ (x : List ℕ). get_or x 0 0) same_two ∙ y) in
      sym (rw (sym e ∙ two, ne_eqb (get_or w 0 0) 35 q) refl)

  module _ (h : get_or o 0 0 ≡ 35) {b : Bool} (i : b ≡ is_letter (get_or o 1 0)) where
    pub no_letter : b ≡ false → 0 ≡ condition_letter w
    unfolding condition_letter is_condition
    no_letter z =
        let q : get_or w 0 0 ≡ 35 = ap (λ (x : List ℕ). get_or x 0 0) (sym same_two) ∙ h in
        let f : is_letter (get_or w 1 0) ≡ false = ap (λ (x : List ℕ). is_letter (get_or x 1 0)) (sym same_two) ∙ sym i ∙ z in
        sym (rw (sym e ∙ two, q, f) refl)

    pub the_letter : b ≡ true → get_or o 1 0 ≡ condition_letter w
    unfolding condition_letter is_condition
    the_letter z =
        let q : get_or w 0 0 ≡ 35 = ap (λ (x : List ℕ). get_or x 0 0) (sym same_two) ∙ h in
        let f : is_letter (get_or w 1 0) ≡ true = ap (λ (x : List ℕ). is_letter (get_or x 1 0)) (sym same_two) ∙ sym i ∙ z in
        sym (rw (sym e ∙ two, q, f) refl ∙ ap (λ (x : List ℕ). get_or x 1 0) (sym same_two))

-- ---- places
pub next_bad : (m : List ℕ) (at : ℕ) {o p : Option ℕ} → o ≡ end_of (tree_at m open_within at) → o ≡ p → case p (λ n. more_named (next_at m n true)) None ≡ next_named m at
unfolding next_named
next_bad m at e q = ap (λ (z : Option ℕ). case z (λ n. more_named (next_at m n true)) None) (sym q ∙ e)

pub more_is : (m : List ℕ) (n : ℕ) {x y : Next} → x ≡ next_at m n true → x ≡ y → more_named y ≡ more_named (next_at m n true)
more_is m n e q = ap more_named (sym q ∙ e)

-- ---- the whole filter: what was found first stays
module _ {X : Type 0} (means : List ℕ → List X) {whole : Option (List X)} {most : ℕ} {before : List ℕ} {at : ℕ} {l : Option (ℕ × ℕ)} {row : List ℕ} (f : FindsMembers means whole most before at l row) where
  pub stays : (k : ℕ) (row' : List ℕ) → at + most ≤ k → take k row' ≡ take k row → given means row' l ≡ whole
  stays k row' h e = go l f.inside ∙ f.is
    where
      go : (l : Option (ℕ × ℕ)) → reach l ≤ at + most → given means row' l ≡ given means row l
      go None r = refl
      go (Some (a, n)) r = ap (λ (p : List ℕ). Some (means p)) (part_same k row row' e a n (omega arith))

pub found_all : (m : List ℕ) (p : FilterParts) (k : Known) {row₀ row₁ row₂ row₃ row₄ : List ℕ}
    → FindsMembers (spelled_by m) (if_listed (λ v. strings_in m (tree_at m depth v)) p.ids) 32 row₀ 0 k.ids row₁
    → FindsMembers (spelled_by m) (if_listed (λ v. strings_in m (tree_at m depth v)) p.authors) 32 row₁ 32 k.authors row₂
    → FindsMembers numbers_by (if_listed (λ v. numbers_in m (tree_at m depth v)) p.kinds) 16 row₂ 64 k.kinds row₃
    → FindsConditions m p.conditions row₃ k.conditions k.n row₄
    → k.since ≡ p.since → k.until ≡ p.until → k.limit ≡ p.limit → filter_by m row₄ k ≡ filter_of m p
unfolding filter_by filter_of
found_all m p k {row₀} {row₁} {row₂} {row₃} {row₄} i a n c s u l =
    let s₃ : take 64 row₄ ≡ take 64 row₃ = take_shorter 64 80 row₄ row₃ (omega arith) c.same in
    let s₂ : take 32 row₃ ≡ take 32 row₂ = take_shorter 32 64 row₃ row₂ (omega arith) n.same in
    let s₂' : take 64 row₃ ≡ take 64 row₂ = n.same in
    let i' = stays (spelled_by m) i 32 row₄ (omega arith) (take_shorter 32 64 row₄ row₃ (omega arith) s₃ ∙ s₂ ∙ a.same) in
    let a' = stays (spelled_by m) a 64 row₄ (omega arith) (s₃ ∙ s₂') in
    let n' = stays numbers_by n 80 row₄ (omega arith) c.same in
    rw (i', a', n', c.is, s, u, l) refl

-- ---- what checked parts say of each list
in_list_lem : (f : ℕ → Bool) (l : Option ℕ) → ((v : ℕ) → l ≡ Some v → f v ≡ false) → in_list f l ≡ false
in_list_lem f None h = refl
in_list_lem f (Some v) h = h v refl

module _ (m : List ℕ) (p : FilterParts) (e : filter_row m p ≡ 0) where
  pub ids_clean : (in_list (value5 (is_array_of is_string) m) p.ids ≡ false) × (in_list (λ v. on_value wrong_list (value_at m v)) p.ids ≡ false)
  ids_clean = (in_list_lem _ p.ids (λ v q. (ids_are m p e q).l5), in_list_lem _ p.ids (λ v q. (ids_are m p e q).l8))

  pub authors_clean : (in_list (value5 (is_array_of is_string) m) p.authors ≡ false) × (in_list (λ v. on_value wrong_list (value_at m v)) p.authors ≡ false)
  authors_clean = (in_list_lem _ p.authors (λ v q. (authors_are m p e q).l5), in_list_lem _ p.authors (λ v q. (authors_are m p e q).l8))

  pub kinds_clean : (in_list (value5 (is_array_of is_number) m) p.kinds ≡ false) × (in_list (λ v. on_value (wrong_smalls m) (value_at m v)) p.kinds ≡ false) × (in_list (λ v. on_value wrong_list (value_at m v)) p.kinds ≡ false)
  kinds_clean = (in_list_lem _ p.kinds (λ v q. (kinds_are m p e q).l5), in_list_lem _ p.kinds (λ v q. (kinds_are m p e q).members), in_list_lem _ p.kinds (λ v q. (kinds_are m p e q).l8))

  pub conditions_clean : (in_list (value5 (is_filter m) m) p.conditions ≡ false) × (in_list (λ v. on_value (on_object (filter_counts m)) (value_at m v)) p.conditions ≡ false)
  conditions_clean = (in_list_lem _ p.conditions (λ v q. (conditions_are m p e q).o5), in_list_lem _ p.conditions (λ v q. (conditions_are m p e q).o8))
