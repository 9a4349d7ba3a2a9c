-- Strings and numbers: what each form asks of a value that holds no value.
use mathlib.Core.Path.{◌≡◌, refl, ap}
use mathlib.Core.List.{List, [], ◌∷◌}
use mathlib.Core.Bool.{Bool, true, false, cond, not, ◌||◌}
use Prim.Native.Nat.{ℕ}
use lib.Dec.{ltb}
use lib.IntN.{pos, neg_ℤ}
use Rattle.json_tree.specs.Tree.{Json, word, num, str, arr, obj}
use Rattle.spell.specs.Spell.{refuses, character_count, is_hex_of}
use Rattle.wire.specs.Limits.{widest, most_characters}
use Rattle.numeral.specs.Whole.{whole_of, whole_answer, is_within}
use Rattle.rows.specs.Strings.{part, refused_in}
use Rattle.shape.specs.Shape.{is_string, is_number}
use Rattle.shape.specs.Rows.{outside, wrong_time, wrong_small, wrong_hex, wrong_subscription}
use Rattle.shape.specs.Offsets.{least_of}
use Rattle.shape.specs.Inner.{STRING, NUMBER, HEX, COUNT, no_fault, placed, TEXT, LABEL, HEX64, HEX128, TIME, SMALL}
use Rattle.shape.specs.Inner.{bounds, hex_fault, string_form, string_fault, range_fault, number_fault, group_form, fresh}
use Rattle.shape.specs.Inner.{fault_of}
use Rattle.shape.proofs.Low.{placed_at, low, Lowest, begins}
use Rattle.shape.proofs.Never.{never_after}

-- the place of a value that is wrong
abbrev pub place_if : (wrong : Bool) (v : ℕ) → List ℕ
place_if wrong v = cond wrong (v ∷ []) []

-- a test that fails at a place
failed : (r : ℕ) (good : Bool) (v : ℕ) → cond good no_fault (placed r v) ≡ placed_at r (place_if (not good) v) no_fault
unfolding placed_at least_of
failed r true v = refl
failed r false v = refl

pub bounds_is : (least most n : ℕ) → bounds least most n ≡ cond (outside least most n) COUNT no_fault
unfolding bounds
bounds_is least most n = go (ltb n least) (ltb most n)
  where
    go : (x y : Bool) → cond x COUNT (cond y COUNT no_fault) ≡ cond (x || y) COUNT no_fault
    go true y = refl
    go false y = refl

module _ (s : List ℕ) (v : ℕ) where
  pub text : (t : Json) → Lowest (fault_of s TEXT v t) (refused_in s t) (not (is_string t)) [] [] false
  unfolding low placed_at fault_of refused_in string_fault string_form number_fault group_form fresh
  text (word a n) = record { is = refl }
  text (num a n) = record { is = refl }
  text (str a n) = record { is = refl }
  text (arr ts) = begins (never_after s false 0 fresh ts)
  text (obj ts) = begins (never_after s true 0 fresh ts)

  pub label : (t : Json) → Lowest (fault_of s LABEL v t) (refused_in s t) (not (is_string t)) [] [] (wrong_subscription s t)
  unfolding low placed_at fault_of refused_in string_fault string_form number_fault group_form fresh wrong_subscription
  label (word a n) = record { is = refl }
  label (num a n) = record { is = refl }
  label (str a n) = record { is = ap (cond (refuses (part s a n)) STRING) (bounds_is 1 most_characters (character_count (part s a n))) }
  label (arr ts) = begins (never_after s false 0 fresh ts)
  label (obj ts) = begins (never_after s true 0 fresh ts)

  pub hex64 : (t : Json) → Lowest (fault_of s HEX64 v t) (refused_in s t) (not (is_string t)) [] (place_if (wrong_hex 64 s t) v) false
  unfolding low placed_at fault_of refused_in string_fault string_form number_fault group_form fresh wrong_hex hex_fault
  hex64 (word a n) = record { is = refl }
  hex64 (num a n) = record { is = refl }
  hex64 (str a n) = record { is = ap (cond (refuses (part s a n)) STRING) (failed HEX (is_hex_of 64 (part s a n)) v) }
  hex64 (arr ts) = begins (never_after s false 0 fresh ts)
  hex64 (obj ts) = begins (never_after s true 0 fresh ts)

  pub hex128 : (t : Json) → Lowest (fault_of s HEX128 v t) (refused_in s t) (not (is_string t)) [] (place_if (wrong_hex 128 s t) v) false
  unfolding low placed_at fault_of refused_in string_fault string_form number_fault group_form fresh wrong_hex hex_fault
  hex128 (word a n) = record { is = refl }
  hex128 (num a n) = record { is = refl }
  hex128 (str a n) = record { is = ap (cond (refuses (part s a n)) STRING) (failed HEX (is_hex_of 128 (part s a n)) v) }
  hex128 (arr ts) = begins (never_after s false 0 fresh ts)
  hex128 (obj ts) = begins (never_after s true 0 fresh ts)

  pub time : (t : Json) → Lowest (fault_of s TIME v t) (refused_in s t) (not (is_number t)) (place_if (wrong_time s t) v) [] false
  unfolding low placed_at fault_of refused_in string_fault string_form number_fault group_form fresh wrong_time range_fault
  time (word a n) = record { is = refl }
  time (num a n) = record { is = failed NUMBER (is_within (whole_answer (whole_of (part s a n))) (neg_ℤ (pos widest)) (pos widest)) v }
  time (str a n) = record { is = refl }
  time (arr ts) = begins (never_after s false 0 fresh ts)
  time (obj ts) = begins (never_after s true 0 fresh ts)

  pub small : (t : Json) → Lowest (fault_of s SMALL v t) (refused_in s t) (not (is_number t)) (place_if (wrong_small s t) v) [] false
  unfolding low placed_at fault_of refused_in string_fault string_form number_fault group_form fresh wrong_small range_fault
  small (word a n) = record { is = refl }
  small (num a n) = record { is = failed NUMBER (is_within (whole_answer (whole_of (part s a n))) (pos 0) (pos 65535)) v }
  small (str a n) = record { is = refl }
  small (arr ts) = begins (never_after s false 0 fresh ts)
  small (obj ts) = begins (never_after s true 0 fresh ts)
