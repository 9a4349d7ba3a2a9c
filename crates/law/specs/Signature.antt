-- Slots: an event with the signature that was stored with it.
-- 01: "Offers with one id and one text but other signatures are the same event": the tests look at the event alone.
use Rattle.std.specs.Prelude.{None, Some}
use Rattle.law.specs.Table.{Events, Offer}

module _ (E : Events) (Sig : Type 0) where
  abbrev pub Slot : Type 0
  Slot = E.Event × Sig

  abbrev pub with_signature : Events
  with_signature = record {
    Event = Slot;
    Id = E.Id;
    Key = E.Key;
    id_of = λ s. E.id_of s.0;
    class_of = λ s. E.class_of s.0;
    same_id = E.same_id;
    same_key = E.same_key;
    newer = λ s r. E.newer s.0 r.0;
  }

  -- "signatures aside"
  abbrev pub event : Slot → E.Event
  event s = s.0

  abbrev pub without_signature : Offer with_signature → Offer E
  without_signature None = None
  without_signature (Some s) = Some s.0
