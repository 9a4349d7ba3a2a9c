-- The walk a step at a time: where a value begins, and what a turn over an item does to the rows from there on.
use Rattle.std.specs.Prelude.{Some, None, Option}
use mathlib.Core.Path.{◌≡◌, refl, sym, ap, ◌∙◌}
use mathlib.Core.List.{List}
use mathlib.Core.Bool.{Bool, true, false}
use Prim.Native.Nat.{ℕ, ◌+◌, ◌-◌, ◌<◌, ◌≤◌}
use native.Mathlib.Nat.{sub-zero}
use lib.ListN.{length}
use Rattle.json_tree.specs.Grammar.{start_at, head_at, next_at}
use Rattle.json_tree.specs.Tree.{Json, Items, nil, item, fold_items, Got, none, got, end_of, bind, node, items_at}
use Rattle.json_tree.specs.Tree.{tree_at}
use Rattle.json_tree.specs.declared.Start.TheVariants.{Empty, Many}
use Rattle.json_tree.specs.declared.Next.{Next}
use Rattle.json_tree.proofs.Trees.{value_open, fold_to, turned, fold_gone, fold_unnamed, fold_bad, fold_next}
use Rattle.shape.specs.declared.Judged.{Judged}
use Rattle.shape.specs.declared.Item.{Item}
use Rattle.shape.specs.declared.Tally.{Tally}
use Rattle.shape.specs.Inner.{ends, group_form, item_of, fresh, stepped, closed, fault_of, fault_items, judged_of}
use Rattle.shape.proofs.Names.{no}

-- the items as a fold over their number and the tally
abbrev pub turn : List ℕ → Bool → ℕ → ℕ × Tally → ℕ → ℕ → Json → ℕ × Tally
turn s named f a p v t = (a.0 + 1, stepped named a.1 (item_of s f named a.0 p) (fault_of s (item_of s f named a.0 p).form v t))

rows_fold : (s : List ℕ) (named : Bool) (f k : ℕ) (a : Tally) (ts : Items)
    → closed f (fold_items (turn s named f) (k, a) ts).0 (fold_items (turn s named f) (k, a) ts).1 ≡ fault_items s named f k a ts
unfolding fault_of
rows_fold s named f k a nil = refl
rows_fold s named f k a (item p v t ts) = rows_fold s named f (k + 1) _ ts

abbrev pub judged_items : List ℕ → Bool → ℕ → ℕ → Tally → Got Items → Option Judged
judged_items s named f k a g = fold_to (turn s named f) None (λ b n. ends n (closed f b.0 b.1)) (k, a) g

-- ---- where a value begins
module _ (s : List ℕ) (d at f : ℕ) (ne : d ≡ 0 → ⊥) (b : Bool) {g : ℕ} {a : Tally} (eg : g ≡ group_form f b) (ea : a ≡ fresh) where
  many : (b : Bool) (g : Got Items) → judged_items s b (group_form f b) 0 fresh g ≡ judged_of s f at (bind g λ ts n. got (node b ts) n)
  unfolding judged_of fault_of
  many b none = refl
  many true (got ts n) = ap (ends n) (rows_fold s true (group_form f true) 0 fresh ts)
  many false (got ts n) = ap (ends n) (rows_fold s false (group_form f false) 0 fresh ts)

  pub judge_empty : (n : ℕ) {r : ℕ} → r ≡ closed g 0 a → Empty n b ≡ start_at s at → ends n r ≡ judged_of s f at (tree_at s d at)
  judge_empty n {r} er e = rw (er, eg, ea) (many b (got nil n) ∙ ap (judged_of s f at) (value_open s d at (Empty n b) ne e))

  pub judge_many : (i : ℕ) → Many i b ≡ start_at s at → judged_items s b g 0 a (items_at (tree_at s (d - 1)) s b (length s - 0) i) ≡ judged_of s f at (tree_at s d at)
  judge_many i e =
      rw (sub-zero, eg, ea) (many b (items_at (tree_at s (d - 1)) s b (length s) i) ∙ ap (judged_of s f at) (value_open s d at (Many i b) ne e))

-- ---- a turn
-- the two parts of an answer
same : {n m r q : ℕ} → ends n r ≡ ends m q → ◌≡◌ {A = Judged} (record { end = n; fault = r }) (record { end = m; fault = q })
same e = cc

pub same_end : {n m r q : ℕ} → ends n r ≡ ends m q → n ≡ m
same_end e = ap (λ x. x.end) (same e)

pub same_fault : {n m r q : ℕ} → ends n r ≡ ends m q → r ≡ q
same_fault e = ap (λ x. x.fault) (same e)

judged_bad : (s : List ℕ) (f v : ℕ) (q : Got Json) → None ≡ judged_of s f v q → end_of q ≡ None
unfolding judged_of
judged_bad s f v none e = refl
judged_bad s f v (got t n) e = no cc

judged_end : (s : List ℕ) (f v : ℕ) (q : Got Json) {n r : ℕ} → ends n r ≡ judged_of s f v q → end_of q ≡ Some n
unfolding judged_of
judged_end s f v none e = no cc
judged_end s f v (got t m) e = ap Some (sym (same_end e))

judged_fault : (s : List ℕ) (f v : ℕ) (q : Got Json) (t : Json) {n r : ℕ} → ends n r ≡ judged_of s f v q → q ≡ got t n → r ≡ fault_of s f v t
unfolding judged_of
judged_fault s f v none t e w = no cc
judged_fault s f v (got u m) t e w = let z : u ≡ t = cc in same_fault e ∙ ap (fault_of s f v) z

module _ (value : ℕ → Got Json) (s : List ℕ) (named : Bool) (f k i : ℕ) (a : Tally) where
  pub judge_gone : length s ≤ k → judged_items s named f k a (items_at value s named (length s - k) i) ≡ None
  judge_gone h = fold_gone (turn s named f) None (λ b n. ends n (closed f b.0 b.1)) (k, a) value s named k i h

  pub judge_unnamed : k < length s → head_at s i named ≡ None → judged_items s named f k a (items_at value s named (length s - k) i) ≡ None
  judge_unnamed h e = fold_unnamed (turn s named f) None (λ b n. ends n (closed f b.0 b.1)) (k, a) value s named k i h e

  pub judge_bad : (v g : ℕ) → k < length s → head_at s i named ≡ Some v → None ≡ judged_of s g v (value v)
      → judged_items s named f k a (items_at value s named (length s - k) i) ≡ None
  judge_bad v g h e w = fold_bad (turn s named f) None (λ b n. ends n (closed f b.0 b.1)) (k, a) value s named k i v h e (judged_bad s g v (value v) w)

  pub judge_next : (v n : ℕ) (x : Next) {it : Item} {g x₀ : ℕ} {b : Tally} → k < length s → head_at s i named ≡ Some v → it ≡ item_of s f named k i
      → g ≡ it.form → ends n x₀ ≡ judged_of s g v (value v) → b ≡ stepped named a it x₀ → next_at s n named ≡ x
      → judged_items s named f k a (items_at value s named (length s - k) i)
      ≡ turned x None (λ e. ends e (closed f (k + 1) b)) (λ j. judged_items s named f (k + 1) b (items_at value s named (length s - (k + 1)) j))
  judge_next v n x {it} {g} {x₀} {b} h e ei eg w eb y =
      fold_next (turn s named f) None (λ b n. ends n (closed f b.0 b.1)) (k, a) value s named k i v n x (k + 1, b) h e (judged_end s g v (value v) w) y made
    where
      made : (t : Json) → value v ≡ got t n → (k + 1, b) ≡ turn s named f (k, a) i v t
      made t q = rw (eb, judged_fault s g v (value v) t w q, eg, ei)
