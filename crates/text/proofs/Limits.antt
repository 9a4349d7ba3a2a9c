-- Each limit by its name.
use mathlib.Core.Path.{◌≡◌}
use mathlib.Core.Bool.{true, ◌&&◌}
use Prim.Native.Nat.{◌≤◌}
use borrow.Author.Tests.{leb-true}
use Rattle.wire.specs.Limits.{most_small}
use Rattle.text.specs.Event.{Event, is_pubkey, is_time, is_kind, is_tags, is_string_bytes, is_fit}
use Rattle.text.proofs.Pieces.{both}

pub record Limits (e : Event) : Type 0 where
  pub pubkey : is_pubkey e.pubkey ≡ true
  pub time : is_time e.time ≡ true
  pub kind : e.kind ≤ most_small
  pub tags : is_tags e.tags ≡ true
  pub content : is_string_bytes e.content ≡ true

pub limits_of : (e : Event) → is_fit e ≡ true → Limits e
unfolding is_fit
limits_of e h =
    let a = both (is_pubkey e.pubkey) (is_time e.time && (is_kind e.kind && (is_tags e.tags && is_string_bytes e.content))) h in
    let b = both (is_time e.time) (is_kind e.kind && (is_tags e.tags && is_string_bytes e.content)) a.1 in
    let c = both (is_kind e.kind) (is_tags e.tags && is_string_bytes e.content) b.1 in
    let d = both (is_tags e.tags) (is_string_bytes e.content) c.1 in
    record { pubkey = a.0; time = b.0; kind = leb-true e.kind most_small c.0; tags = d.0; content = d.1 }
