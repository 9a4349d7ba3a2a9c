-- A REQ's answer over a table: the claims of specs/Claims, "the answer over the table b".
use Rattle.std.specs.Prelude.{Some}
use mathlib.Core.Path.{◌≡◌, refl, sym, ◌∙◌}
use mathlib.Core.Bool.{Bool, true, not, ◌&&◌}
use mathlib.Core.Logic.{◌⊎◌, inl, inr, ⊎_elim, ◌≢◌}
use mathlib.Core.List.Memᴰ
use mathlib.Core.List.{List, [], ◌∷◌, map}
use Prim.Native.Nat.{ℕ, zero, suc, ◌<◌}
use native.Mathlib.Omega.{arith}
use native.Mathlib.Decide.{dec_lt}
use borrow.Author.Tests.{not-true}
use lib.Dec.{T, leb}
use lib.IntN.{ℤ, pos}
use lib.ListN.{length, get_or, drop}
use Rattle.wire.specs.Limits.{most_text, most_slots}
use Rattle.text.specs.Event.{Event}
use Rattle.text.specs.Read.{Read, too_large, wrong_shape, read, read_text}
use Rattle.text.proofs.Pieces.{both}
use Rattle.event.specs.Answer.{hex_of}
use Rattle.law.specs.Lists.{◌∈◌, any}
use Rattle.law.specs.Table.{Laws, regular, has_id}
use Rattle.law.specs.Event.{earlier, lower, events}
use Rattle.law.proofs.Lists.{any_has}
use Rattle.wire.proofs.Bytes.{same_bytes_lem}
use Rattle.law.proofs.Order.{strict_times, strict_bytes, newer_means, laws}
use Rattle.table.proofs.Cells.{length_cells}
use Rattle.table.specs.Layout.{slot_size, header_size, count_of, slot_at, held_slots, id_in, text_in, length_in}
use Rattle.table.specs.Events.{signed_events, time_of_text, in_slot, view}
use Rattle.table.specs.Sound.{sound, sound_up_to, has_header, capacity_fits, slots_fit, count_fits, others_as_above, slots_sound, slot_sound}
use Rattle.table.specs.Sound.{no_id_twice, no_key_twice, later_zero, none_twice, is_read, text_reads}
use Rattle.table.proofs.Lists.{is_true}
use Rattle.table.proofs.Shown.{slot_entry, slot_sound_at}
use Rattle.query.specs.Filter.{Filter}
use Rattle.query.specs.Match.{matches}
use Rattle.query.specs.Answer.{numbers_from, union, newer_slot, matches_in, matches_slot, answer_list}
use Rattle.query.specs.Claims.{Distinct, Descending, NewerMeans, SlotsOrdered, SlotMatches, AnswerIs, AnswerMeans}
use Rattle.query.specs.Claims.{limited, LimitZero}
use Rattle.query.proofs.Sorting.{from_length_lem, once_from}
use Rattle.wire.proofs.Cases.{bool, clash}
use Rattle.query.proofs.Answers.{same-order, true-T, once-distinct, from-means, picked-means, union-means}
use Rattle.query.proofs.Answers.{union-once, union-newest, union-descends, union-size, union-short}

-- ---- the order of two slots
pub newer_slot_means : NewerMeans
unfolding newer_slot
newer_slot_means b j k = newer_means time_of_text (in_slot (slot_at b j)).0 (in_slot (slot_at b k)).0

-- neither the key nor the class matters to it
any_key : Laws (events ⊥ (λ x y. true) (λ t. regular) time_of_text)
any_key = laws ⊥ (λ x y. true) (λ x y. absurd x) (λ t. regular) time_of_text

module _ (b : List ℕ) where
  abbrev time : ℕ → ℤ
  time k = time_of_text (text_in (slot_at b k))

  abbrev id_at : ℕ → List ℕ
  id_at k = id_in (slot_at b k)

  slot_transitive : (i j k : ℕ) → T (newer_slot b i j) → T (newer_slot b j k) → T (newer_slot b i k)
  unfolding newer_slot
  slot_transitive i j k = any_key.transitive (in_slot (slot_at b i)).0 (in_slot (slot_at b j)).0 (in_slot (slot_at b k)).0

  slot_irreflexive : (k : ℕ) → T (newer_slot b k k) → ⊥
  unfolding newer_slot
  slot_irreflexive k = any_key.irreflexive (in_slot (slot_at b k)).0

  slot_total : (j k : ℕ) → id_at j ≢ id_at k → T (newer_slot b j k) ⊎ T (newer_slot b k j)
  unfolding newer_slot
  slot_total j k = any_key.total (in_slot (slot_at b j)).0 (in_slot (slot_at b k)).0

  -- one of two is newer, or they are alike in time and id
  slot_three : (j k : ℕ) → T (newer_slot b j k) ⊎ (((time j ≡ time k) × (id_at j ≡ id_at k)) ⊎ T (newer_slot b k j))
  slot_three j k = go (strict_times.total (time k) (time j)) (strict_bytes.total (id_at j) (id_at k))
    where
      go : T (earlier (time k) (time j)) ⊎ ((time k ≡ time j) ⊎ T (earlier (time j) (time k))) → T (lower (id_at j) (id_at k)) ⊎ ((id_at j ≡ id_at k) ⊎ T (lower (id_at k) (id_at j)))
          → T (newer_slot b j k) ⊎ (((time j ≡ time k) × (id_at j ≡ id_at k)) ⊎ T (newer_slot b k j))
      go (inl t) r = inl ((newer_slot_means b j k).1 (inl t))
      go (inr (inr t)) r = inr (inr ((newer_slot_means b k j).1 (inl t)))
      go (inr (inl q)) (inl t) = inl ((newer_slot_means b j k).1 (inr (q, t)))
      go (inr (inl q)) (inr (inl p)) = inr (inl (sym q, p))
      go (inr (inl q)) (inr (inr t)) = inr (inr ((newer_slot_means b k j).1 (inr (sym q, t))))

  slot_alike : (i j k : ℕ) → time i ≡ time j → id_at i ≡ id_at j → newer_slot b i k ≡ newer_slot b j k
  unfolding newer_slot
  slot_alike i j k p q = rw (p, q)

pub slots_ordered : SlotsOrdered
slots_ordered b = record {
  asym = λ j k t. ⊎_elim (λ q. absurd (slot_irreflexive b j (slot_transitive b j k j (true-T t) (true-T q)))) (λ q. q) (bool (newer_slot b k j));
  past = λ i j k t f.
      ⊎_elim (is_true (newer_slot b i k))
      (⊎_elim (λ (p, q). absurd (clash (sym (slot_alike b i k j p q) ∙ t) f)) (λ q. absurd (clash (is_true _ (slot_transitive b k i j q (true-T t))) f)))
      (slot_three b i k);
}

-- ---- a sound table
-- the held slots are those at their places
held_length : (b : List ℕ) → length (held_slots b) ≡ count_of b
held_length b = length_cells slot_size (count_of b) (drop header_size b)

module _ {A : Type 0} where
  get_d_in : (xs : List A) (i : ℕ) (z : A) → i < length xs → get_or xs i z ∈ xs
  get_d_in [] i z h = absurd (omega arith)
  get_d_in (x ∷ xs) zero z h = Memᴰ.head refl
  get_d_in (x ∷ xs) (suc i) z h = Memᴰ.tail (get_d_in xs i z (omega arith))

  -- no entry that the test joins to a later one
  none_twice_lem : {B : Type 0} (same : B → B → Bool) (r : A → B) (xs : List A) (z : A) → none_twice same (map r xs) ≡ true
      → (i j : ℕ) → i < j → j < length xs → T (same (r (get_or xs i z)) (r (get_or xs j z))) → ⊥
  unfolding none_twice
  none_twice_lem same r [] z n i j h k t = omega arith
  none_twice_lem same r (x ∷ xs) z n i zero h k t = omega arith
  none_twice_lem same r (x ∷ xs) z n zero (suc j) h k t =
      let p = any (same (r x)) (map r xs) in
      clash (is_true p (any_has (same (r x)) (Memᴰ.map r (get_d_in xs j z (omega arith))) t)) (not-true p (both (not p) _ n).0)
  none_twice_lem same r (x ∷ xs) z n (suc i) (suc j) h k t =
      none_twice_lem same r xs z (both (not (any (same (r x)) (map r xs))) _ n).1 i j (omega arith) (omega arith) t

module _ (b : List ℕ) (ok : sound b ≡ true) where
  after_header : (slots_sound b && (no_id_twice b && (no_key_twice b && later_zero b))) ≡ true
  unfolding sound sound_up_to
  after_header =
      (both (others_as_above b) _ (both (count_fits b) _ (both (slots_fit b) _ (both (capacity_fits most_slots b) _ (both (has_header b) _ ok).1).1).1).1).1

  -- "no id .. held twice"
  ids_differ : (j k : ℕ) → j < count_of b → k < count_of b → j ≢ k → id_at b j ≢ id_at b k
  unfolding no_id_twice view
  ids_differ j k h i ne e = ⊎_elim (λ l. one j k l i (sym e)) (λ l. one k j l h e) (apart (dec_lt j k))
    where
      apart : Dec (j < k) → (j < k) ⊎ (k < j)
      apart (yes l) = inl l
      apart (no n) = inr (omega (arith, ne))

      none : none_twice (has_id signed_events) (map in_slot (held_slots b)) ≡ true
      none = (both (no_id_twice b) _ (both (slots_sound b) _ after_header).1).0

      one : (i j : ℕ) → i < j → j < count_of b → id_at b j ≡ id_at b i → ⊥
      one i j l h q =
          let n = held_length b in
          none_twice_lem (has_id signed_events) in_slot (held_slots b) [] none i j l (omega (arith, n))
          (rw (slot_entry b i (omega arith), slot_entry b j h) ((same_bytes_lem (id_at b j) (id_at b i)).1 q))

  pub slot_sound_lem : (k : ℕ) → k < count_of b → slot_sound (slot_at b k) ≡ true
  slot_sound_lem = slot_sound_at b ok

  -- "held texts are serialisations of events"
  slot_reads : (k : ℕ) → k < count_of b → is_read (read_text (text_in (slot_at b k))) ≡ true
  unfolding slot_sound text_reads
  slot_reads k h = (both (leb (length_in (slot_at b k)) most_text) _ (both (text_reads (slot_at b k)) _ (slot_sound_lem k h)).0).1

pub slot_matches : SlotMatches
unfolding matches_slot
slot_matches b ok k h = on (read_text (text_in (slot_at b k))) refl (slot_reads b ok k h)
  where
    on : (r : Read) → read_text (text_in (slot_at b k)) ≡ r → is_read r ≡ true
        → (e : Event) × (read_text (text_in (slot_at b k)) ≡ read e) × ((f : Filter) → matches_in f (hex_of (id_in (slot_at b k))) (read_text (text_in (slot_at b k))) ≡ matches f (hex_of (id_in (slot_at b k))) e)
    on too_large q t = absurd (clash t refl)
    on wrong_shape q t = absurd (clash t refl)
    on (read e) q t = (e, q, λ f. rw q)

-- ---- the answer
module _ (b : List ℕ) (fs : List Filter) where
  distinct_held : Distinct (numbers_from 0 (count_of b))
  distinct_held = once-distinct (numbers_from 0 (count_of b)) (once_from 0 (count_of b))

  down : sound b ≡ true → Descending (newer_slot b) (answer_list b fs)
  unfolding answer_list
  down ok =
      union-descends (newer_slot b) (matches_slot b) (numbers_from 0 (count_of b)) fs (slots_ordered b) distinct_held
      (λ s t h k ne. slot_total b s t (ids_differ b ok s t ((from-means (count_of b) s).0 h) ((from-means (count_of b) t).0 k) ne))

  pub answer_is : AnswerIs b fs
  unfolding answer_list
  answer_is = record {
    exactly = λ s. (
      λ m. let (h, p) = (union-means (newer_slot b) (matches_slot b) held fs s).0 m in ((from-means (count_of b) s).0 h, p),
      λ (h, p). (union-means (newer_slot b) (matches_slot b) held fs s).1 ((from-means (count_of b) s).1 h, p),
    );
    matching = λ s m.
        let (h, p) = (union-means (newer_slot b) (matches_slot b) held fs s).0 m in
        let (f, i, k) = p in
        (f, i, ((picked-means (newer_slot b) (matches_slot b) held f).matching s k).1);
    unlimited = λ free s f h i t.
        let k = (from-means (count_of b) s).1 h in
        (union-means (newer_slot b) (matches_slot b) held fs s).1 (k, (f, i, ((picked-means (newer_slot b) (matches_slot b) held f).absent (free f i) s).1 (k, t)));
    once = union-once (newer_slot b) (matches_slot b) held fs distinct_held;
    newest_first_lem = union-newest (newer_slot b) (matches_slot b) held fs (slots_ordered b);
    descends = down;
    only = λ ok l h o. same-order (newer_slot b) (slots_ordered b) l _ h o (down ok);
    size = union-size (newer_slot b) (matches_slot b) held fs distinct_held;
    short = omega (arith, union-short (newer_slot b) (matches_slot b) held fs, from_length_lem 0 (count_of b));
  }
    where
      held : List ℕ
      held = numbers_from 0 (count_of b)

pub answer_means : AnswerMeans
answer_means b fs = answer_is b fs

pub limit_zero : LimitZero
unfolding answer_list
limit_zero b f = empty (union (newer_slot b) (matches_slot b) held (g ∷ [])) none
  where
    held : List ℕ
    held = numbers_from 0 (count_of b)

    g : Filter
    g = limited f (Some (pos 0))

    none : (s : ℕ) → s ∈ union (newer_slot b) (matches_slot b) held (g ∷ []) → ⊥
    none s m =
        let (h, p) = (union-means (newer_slot b) (matches_slot b) held (g ∷ []) s).0 m in
        let (k, i, j) = p in
        Memᴰ.not-nil (rw (Memᴰ.eq_of_singleton i, (picked-means (newer_slot b) (matches_slot b) held g).zero refl) at j)

    empty : (l : List ℕ) → ((s : ℕ) → s ∈ l → ⊥) → l ≡ []
    empty [] h = refl
    empty (x ∷ l) h = absurd (h x (Memᴰ.head refl))
