-- d's place in a sound slot: DPlace of specs/Claims.
use mathlib.Core.Path.{◌≡◌, refl, ap, ◌∙◌}
use mathlib.Core.Logic.{◌⊎◌, inl, inr, ◌≢◌}
use mathlib.Core.List.{List, []}
use Prim.Native.Nat.{ℕ, ◌+◌}
use lib.ListN.{length}
use Rattle.wire.specs.Escape.{escape}
use Rattle.rows.specs.Strings.{part}
use Rattle.text.specs.Event.{Event}
use Rattle.text.specs.Read.{IsTextOf}
use Rattle.text.specs.Answer.{Span, d_span, tags_place}
use Rattle.text.specs.Kinds.{class_of, d_of}
use Rattle.text.specs.declared.Class.{Class}
use Rattle.text.specs.declared.Class.TheVariants.{Regular, Replaceable, Ephemeral, Addressable}
use Rattle.text.proofs.Places.{d_stands, d_length, d_none}
use Rattle.text.proofs.RoundTrip.{read_same}
use Rattle.table.specs.Layout.{text_in, no_span, d_if_addressable, d_place}
use Rattle.table.specs.Claims.{DPlace}
use Rattle.table.proofs.Slots.{sound_d}

-- an addressable event's d stands in its text
d_there : (t : List ℕ) (e : Event) → IsTextOf t e → class_of e.kind ≡ Addressable → part t (d_place e).at (d_place e).len ≡ escape (d_of e.tags)
unfolding d_place
d_there t e a c = rw c (d_stands t e a)

both_zero : (p : Span) → p.len ≡ 0 → (p.len ≡ 0 → p.at ≡ 0) → p ≡ no_span
both_zero p l z = rw (z l, l)

-- an empty d has the length 0, and so the place 0
d_empty : (e : Event) → d_of e.tags ≡ [] → d_span (tags_place e + 1) e.tags ≡ no_span
unfolding escape
d_empty e q = both_zero (d_span (tags_place e + 1) e.tags) (d_length (tags_place e + 1) e.tags ∙ ap (λ d. length (escape d)) q) (d_none (tags_place e + 1) e.tags)

d_nowhere : (e : Event) (c : Class) → (c ≢ Addressable) ⊎ (d_of e.tags ≡ []) → d_if_addressable c e ≡ no_span
d_nowhere e Regular h = refl
d_nowhere e Replaceable h = refl
d_nowhere e Ephemeral h = refl
d_nowhere e Addressable (inl n) = absurd (n refl)
d_nowhere e Addressable (inr q) = d_empty e q

pub d_place_lem : DPlace
unfolding d_place
d_place_lem s e ok r =
    let z = sound_d s ok e r in
    record {
      stands = λ c. rw z (d_there (text_in s) e (read_same (text_in s) e r) c);
      nowhere = λ h. z ∙ d_nowhere e (class_of e.kind) h;
    }
