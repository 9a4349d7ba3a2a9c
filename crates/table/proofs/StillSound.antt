-- A table of at most 64 slots is sound exactly if it was with 64 for 1,024: one clause of soundness has the number.
use mathlib.Core.Path.{◌≡◌, refl, sym, ap, ◌∙◌}
use mathlib.Core.Bool.{Bool, true, false, false≢true}
use mathlib.Core.List.{List}
use Prim.Native.Nat.{ℕ, ◌≤◌}
use native.Mathlib.Omega.{arith}
use Rattle.wire.specs.Limits.{most_slots}
use Rattle.table.specs.Layout.{capacity_of}
use Rattle.table.specs.Sound.{sound_up_to, sound}
use Rattle.table.specs.Offer.{answer_if, answer, next}
use Rattle.table.specs.Format.{shown_row_if, shown_row}
use Rattle.table.specs.Claims.{StillSound, SameOffers, SameShown}
use Rattle.table.proofs.Bytes.{ClausesUpTo, clauses_up_to, is_sound_up_to}
use Rattle.table.proofs.Faithful.{next_capacity, next_sound}

-- ---- soundness with one most, and with another
module _ (m n : ℕ) (b : List ℕ) where
  with_most : ClausesUpTo m b → capacity_of b ≤ n → ClausesUpTo n b
  with_most c h = record {
    header = c.header;
    low = c.low;
    high = h;
    fit = c.fit;
    count = c.count;
    size = c.size;
    first = c.first;
    slots = c.slots;
    ids = c.ids;
    keys = c.keys;
    later = c.later;
  }

  pub sound_with : sound_up_to m b ≡ true → capacity_of b ≤ n → sound_up_to n b ≡ true
  sound_with e h = is_sound_up_to n b (with_most (clauses_up_to m b e) h)

pub still_sound : StillSound
unfolding sound
still_sound b = (
  λ e. let h = (clauses_up_to 64 b e).high in (sound_with 64 most_slots b e (omega (arith, h)), h),
  λ e. sound_with most_slots 64 b e.0 e.1,
)

-- ---- answers
pub same_sound : (b : List ℕ) → capacity_of b ≤ 64 → sound b ≡ sound_up_to 64 b
same_sound b h = go (sound b) (sound_up_to 64 b) refl refl
  where
    go : (s t : Bool) → sound b ≡ s → sound_up_to 64 b ≡ t → s ≡ t
    go true true p q = refl
    go false false p q = refl
    go true false p q = absurd (false≢true (sym q ∙ (still_sound b).1 (p, h)))
    go false true p q = absurd (false≢true (sym p ∙ ((still_sound b).0 q).0))

pub same_offers : SameOffers
unfolding answer
same_offers b o h = record {
  answered = ap (λ s. answer_if s b o) (same_sound b h);
  left = λ e. (still_sound (next b o)).1 (next_sound b o ((still_sound b).0 e).0, omega (arith, next_capacity b o));
}

pub same_shown : SameShown
unfolding shown_row
same_shown b k h = ap (λ s. shown_row_if s b k) (same_sound b h)
