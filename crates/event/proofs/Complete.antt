-- Parts that pass the rows have an array of tags that stands to its end.
use Rattle.std.specs.Prelude.{None}
use mathlib.Core.Path.{◌≡◌, refl, sym, ◌∙◌}
use mathlib.Core.Bool.{Bool, true, false, not}
use mathlib.Core.List.{List}
use Prim.Native.Nat.{ℕ}
use native.Mathlib.Omega.{arith}
use Rattle.json_tree.specs.Grammar.{case, start_at}
use Rattle.json_tree.specs.Tree.{Json, Got, none, got, end_of, tree_at, depth}
use Rattle.message.specs.declared.Body.{Body}
use Rattle.message.specs.declared.EventParts.{EventParts}
use Rattle.message.specs.Lent.{on_value, is_tags_shape, string5, value5, body2, body4, body5, body6, body7, body8, body_row}
use Rattle.message.specs.Lent.{event2, event4, event5, event7, event_row}
use Rattle.message.specs.Inner.{lowest_by}
use Rattle.event.specs.Inner.{first_out, first_tag}
use Rattle.event.proofs.Decoded.{or_neither}

-- row 5 does not hold where no row does
five : (r2 r4 r5 r6 r7 r8 : Bool) → lowest_by r2 r4 r5 r6 r7 r8 ≡ 0 → r5 ≡ false
five true r4 r5 r6 r7 r8 e = absurd (omega arith)
five false true r5 r6 r7 r8 e = absurd (omega arith)
five false false true r6 r7 r8 e = absurd (omega arith)
five false false false r6 r7 r8 e = refl

stands : (b : List ℕ) (at : ℕ) → value5 is_tags_shape b at ≡ false → first_out (start_at b at) ≡ first_tag b at
unfolding value5 first_tag
stands b at e = go (tree_at b depth at) e
  where
    go : (g : Got Json) → not (on_value is_tags_shape g) ≡ false → first_out (start_at b at) ≡ case (end_of g) (λ n. first_out (start_at b at)) None
    go none q = absurd (let z : ◌≡◌ {A = ℕ} 0 1 = cc in omega arith)
    go (got t n) q = refl

in_body : (b : List ℕ) (p : Body) → body5 b p ≡ false → first_out (start_at b p.tags) ≡ first_tag b p.tags
unfolding body5
in_body b p e =
    let (k, x) = or_neither (string5 b p.pubkey) _ e in
    let (v, y) = or_neither (value5 is_tags_shape b p.tags) _ x in
    stands b p.tags v

pub body_complete : (b : List ℕ) (p : Body) {r : ℕ} → r ≡ body_row b p → r ≡ 0 → first_out (start_at b p.tags) ≡ first_tag b p.tags
unfolding body_row
body_complete b p e z = in_body b p (five (body2 b p) (body4 b p) (body5 b p) (body6 p) (body7 b p) (body8 b p) (sym e ∙ z))

pub event_complete : (b : List ℕ) (p : EventParts) → event_row b p ≡ 0 → first_out (start_at b p.body.tags) ≡ first_tag b p.body.tags
unfolding event_row event5
event_complete b p z =
    let (k, x) = or_neither (string5 b p.id) _ (five (event2 b p) (event4 b p) (event5 b p) (body6 p.body) (event7 b p) (body8 b p.body) z) in
    let (v, y) = or_neither (body5 b p.body) _ x in
    in_body b p.body v
