-- What an offer is answered, as a number.
use Rattle.std.specs.Prelude.{Option, None, Result, Ok, Err}
use mathlib.Core.Path.{◌≡◌, refl, sym, ap, ap₂, subst, ◌∙◌}
use mathlib.Core.Bool.{Bool, true, false, cond, not, ◌&&◌}
use mathlib.Core.Logic.{◌≢◌}
use mathlib.Core.List.{List}
use Prim.Native.Nat.{ℕ, ◌≤◌}
use native.Mathlib.Omega.{arith}
use borrow.Author.Tests.{eqb-false}
use Rattle.shape.specs.declared.Refusal.{Refusal}
use Rattle.shape.specs.Offsets.{plain_refusal}
use Rattle.shape.proofs.Offsets.{offset_plain}
use Rattle.table.specs.Layout.{capacity_of}
use Rattle.table.specs.Events.{of_held, view}
use Rattle.table.specs.Sound.{sound}
use Rattle.law.specs.Table.{verdict}
use Rattle.table.specs.Offer as offers
use Rattle.table.specs.Offer.{Offering, as_message, as_parts, is_valid, judge, offered_by, verdict_on, answer}
use Rattle.table.specs.declared.Offered.{Offered}
use Rattle.table.specs.declared.Offered.TheVariants as offered
use Rattle.program.specs.Claims.Program.{offset_at, OfferedNumber}
use Rattle.program.proofs.Which.{verdict_rows}

-- no offer is refused by row 0, and the offset is that of the row
abbrev Told : Offering → Refusal → Type 0
Told o r = (1 ≤ r.row) × (r.offset ≡ offset_at o r.row)

told_is : (o : Offering) {x r : Refusal} → ◌≡◌ {A = Result Offered Refusal} (Err x) (Err r) → Told o x → Told o r
told_is o {x} {r} e h = let z : x ≡ r = cc in subst (Told o) z h

no_offset : (o : Offering) (row : ℕ) → (row ≡ 6 → ⊥) → (row ≡ 7 → ⊥) → None ≡ offset_at o row
no_offset (as_message m) row a b = sym (offset_plain m row a b)
no_offset (as_parts c p) row a b = refl

offering_told : (o : Offering) → (offers.offering_row o ≡ 0 → ⊥) → Told o (offers.offering_refusal o)
offering_told (as_message m) n = (omega (arith, n), refl)
offering_told (as_parts c p) n = (omega (arith, n), refl)

refused_told : (b : List ℕ) (o : Offering) (r : Refusal) → answer b o ≡ Err r → Told o r
unfolding answer verdict_on judge verdict
refused_told b o r a = go (is_valid o) refl (sound b) a
  where
    go : (v : Bool) → is_valid o ≡ v → (s : Bool) → cond (v && not s) (Err (plain_refusal 11)) (offered_by (offers.offering_refusal o) (verdict_on b o)) ≡ Err r → Told o r
    go true v false q = told_is o q (omega arith, no_offset o 11 (λ z. omega arith) (λ z. omega arith))
    go true v true q =
        let (l, h, n) = verdict_rows r (offers.offering_refusal o) (capacity_of b) (view b) (of_held (offers.offered_of o)) (rw v at q) in
        (omega arith, n ∙ no_offset o r.row (λ z. omega arith) (λ z. omega arith))
    go false v s q = told_is o (rw v at q) (offering_told o (eqb-false (offers.offering_row o) 0 v))

pub offered_number_lem : OfferedNumber
offered_number_lem b o = (λ r l. (of_number (answer b o) refl r l, ap offers.offer_number), (no_row, on (answer b o) refl))
  where
    of_number : (a : Result Offered Refusal) → answer b o ≡ a → (r : ℕ) → 1 ≤ r → offers.offer_number a ≡ r → a ≡ Err (record { row = r; offset = offset_at o r })
    of_number (Ok offered.Ephemeral) q r l e = absurd (omega arith)
    of_number (Ok offered.Duplicate) q r l e = absurd (omega arith)
    of_number (Ok offered.Older) q r l e = absurd (omega arith)
    of_number (Ok offered.Stored) q r l e = absurd (omega arith)
    of_number (Err k) q r l e =
        ap₂ (λ (x : ℕ) (y : Option ℕ). Err (record { row = x; offset = y })) e ((refused_told b o k q).1 ∙ ap (offset_at o) e)

    no_row : offers.offer_number (answer b o) ≡ 0 → (r : Refusal) → answer b o ≢ Err r
    no_row e r a = let l = (refused_told b o r a).0 in let z = ap offers.offer_number a in omega arith

    on : (a : Result Offered Refusal) → answer b o ≡ a → ((r : Refusal) → answer b o ≢ Err r) → offers.offer_number (answer b o) ≡ 0
    on (Ok offered.Ephemeral) e n = ap offers.offer_number e
    on (Ok offered.Duplicate) e n = ap offers.offer_number e
    on (Ok offered.Older) e n = ap offers.offer_number e
    on (Ok offered.Stored) e n = ap offers.offer_number e
    on (Err k) e n = absurd (n k e)
