-- Two events of a regular kind with different ids, computed: what shuts out a relay that gives one id to all.
use mathlib.Core.Path.{◌≡◌, refl, ap}
use mathlib.Core.Bool.{true}
use mathlib.Core.Logic.{◌≢◌}
use mathlib.Core.List.{List, []}
use Prim.Native.Nat.{ℕ}
use native.Mathlib.Omega.{arith}
use lib.IntN.{pos}
use lib.ListN.{length, get_or, replicate}
use Rattle.wire.specs.Bytes.{is_hex}
use Rattle.wire.specs.Escape.{letter_of, esc_one, escape}
use Rattle.numeral.specs.Decimal.{digits_in, digits, decimal}
use Rattle.numeral.specs.Whole.{is_within}
use Rattle.utf8.specs.Utf8.{lead_of, utf8_from, is_utf8}
use Rattle.digest.specs.Block.{K, H0, words, schedule, round, rounds, chained, compress}
use Rattle.digest.specs.Digest.{big_endian, padding, padded, hash_after, digest_bytes, digest}
use Rattle.text.specs.Event.{Event, quoted, members_text, tag_text, tags_text, serialise, all, is_pubkey, is_time, is_tag}
use Rattle.text.specs.Event.{is_tags, is_string_bytes, is_fit}

abbrev pub noted : ℕ → Event
noted t = record { pubkey = replicate 64 97; time = pos t; kind = 1; tags = []; content = [] }

pub record Suits (e : Event) : Type 0 where
  pub fit : is_fit e ≡ true
  pub size : length (serialise e) ≡ 80

pub suits₀ : Suits (noted 0)
unfolding is_fit is_pubkey is_time is_tag is_tags is_string_bytes all is_within utf8_from lead_of is_utf8 is_hex serialise quoted tags_text members_text tag_text decimal digits digits_in escape esc_one letter_of
suits₀ = record { fit = refl; size = refl }

pub suits₁ : Suits (noted 1)
unfolding is_fit is_pubkey is_time is_tag is_tags is_string_bytes all is_within utf8_from lead_of is_utf8 is_hex serialise quoted tags_text members_text tag_text decimal digits digits_in escape esc_one letter_of
suits₁ = record { fit = refl; size = refl }

-- the first bytes of their ids
ids_begin : (get_or (digest (serialise (noted 0))) 0 0 ≡ 0x3d) × (get_or (digest (serialise (noted 1))) 0 0 ≡ 0x99)
unfolding digest digest_bytes hash_after padded padding big_endian compress chained rounds round schedule words H0 K serialise quoted tags_text members_text tag_text decimal digits digits_in escape esc_one letter_of
ids_begin = (refl, refl)

pub ids_differ : digest (serialise (noted 0)) ≢ digest (serialise (noted 1))
ids_differ q = omega (arith, ids_begin.0, ids_begin.1, ap (λ (l : List ℕ). get_or l 0 0) q)
