-- What lists of offers keep of a table: it is sound, and what it holds was valid when it was stored.
use mathlib.Core.Path.{◌≡◌, ap, ◌∙◌}
use mathlib.Core.Bool.{true}
use mathlib.Core.List.Memᴰ
use mathlib.Core.List.{List, []}
use Prim.Native.Nat.{ℕ}
use lib.ListN.{length}
use Rattle.digest.specs.Digest.{digest}
use Rattle.text.specs.Event.{all}
use Rattle.law.specs.Lists.{◌∈◌}
use Rattle.table.specs.Layout.{is_byte}
use Rattle.table.specs.Events.{SignedEvent, view}
use Rattle.table.specs.Sound.{sound}
use Rattle.table.specs.Format.{format_row, formatted}
use Rattle.table.specs.Demand3.{Fresh}
use Rattle.table.proofs.Formatted.{formatted_sound, formatted_view}

pub record Good (b : List ℕ) : Type 0 where
  pub is_sound : sound b ≡ true
  pub hashed : (s : SignedEvent) → s ∈ view b → s.0.id ≡ digest s.0.text
  pub sig_length_lem : (s : SignedEvent) → s ∈ view b → length s.1 ≡ 64
  pub sig_bytes : (s : SignedEvent) → s ∈ view b → all is_byte s.1 ≡ true

formatted_good : (N : ℕ) (c : List ℕ) → format_row N c ≡ 0 → Good (formatted N c)
formatted_good N c r = record {
  is_sound = formatted_sound N c r;
  hashed = λ s m. absurd (none s m);
  sig_length_lem = λ s m. absurd (none s m);
  sig_bytes = λ s m. absurd (none s m);
}
  where
    none : (s : SignedEvent) → s ∈ view (formatted N c) → ⊥
    none s m = Memᴰ.not-nil (rw (formatted_view N c r) at m)

-- a fresh table is good, and holds nothing
pub fresh_good : (b : List ℕ) → Fresh b → Good b
fresh_good b f = rw f.is (formatted_good f.capacity f.buffer f.passes)

pub fresh_view : (b : List ℕ) → Fresh b → view b ≡ []
fresh_view b f = ap view f.is ∙ formatted_view f.capacity f.buffer f.passes
