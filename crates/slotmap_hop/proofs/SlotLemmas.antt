-- What sound slots hold: their blocks, their places, and the content of the map.
use mathlib.Core.Path.{fun_ext}
use Rattle.std.proofs.Common.{◌≡◌, ◌≢◌, ◌+◌, ◌^◌, ◌<◌, ◌≤◌, ◌==◌, ◌||◌, ◌∷◌, ◌++◌, Option, Some, refl, ap, subst, arith, cond, false, length, slice_get}
use Rattle.std.proofs.Common.{sym, inl, ℕ, zero, suc, Bool, true, eqb, List, [], set}
use Rattle.slotmap_core.proofs.Common.{nat_tests, length-set, IsKey, content_of_places, used_places, contains-detached, get-next_at, vacant_at as next_found, IsContent-stacked, keys_total, exact_keys}
use Rattle.slotmap_core.proofs.Common.{key_cmp, IsContent, places, Place, Vacant, detached, next, StackMap, offer, filled, IsVersion, IsStacked, key, total}
use Rattle.slotmap_hop.specs.Slots.{Links, Slot, version_in, all_links, places_of, next_place, offer_at, holding, hop_content, IsSound}
use Rattle.slotmap_hop.specs.Links.{list_without, is_front, ListsOnce, vacant_at, next_at, end_at, fronts_of, blocks_of, IsLinked}
use Rattle.slotmap_hop.specs.{Blocks.HasMaximalBlocks, HopContent.IsHopContent, HopContent.counts_vacant}
use Rattle.slotmap_hop.proofs.{FrontsLemmas.listed_positive, Chain.occurs-head, Circle.shown, Maximal.maximal}
use Rattle.slotmap_hop.proofs.SlotReads.{length-all_links, length-places, slot_cases}
use Rattle.slotmap_hop.proofs.StackOrder.{IsStacked-first, IsContent-untold, untold}
use Rattle.slotmap_hop.proofs.Taking.{first_block, offer_is_end, offer_is_back}
use Rattle.std.specs.FinMap as map
use Rattle.std.specs.FinSet as set

-- setting a place doesn't change the number of slots
pub same_length : {V : Type 0} (slots new : List (Slot V)) (i : ℕ) (p : Place V) → places_of new ≡ set (places_of slots) i p → length new ≡ length slots
same_length slots new i p after = omega (arith, length-places slots, length-places new, ap length after, length-set (places_of slots) i p)

pub key_is : {i v : ℕ} → i + 1 < 2 ^ 32 → IsVersion v → IsKey (key i v)
key_is within version = record { index_fits = omega arith; version_fits = version.0; odd = version.1; one_null = λ last. absurd (omega arith) }

-- blocks

-- if place 1 isn't vacant and no block begins at a place other than 0, no other place is vacant
only_zero : (v : ℕ → Bool) → v 1 ≡ false → ListsOnce (is_front v) [] → (i : ℕ) → v i ≡ true → i ≡ 0
only_zero v next listed zero here = refl
only_zero v next listed (suc i) here = grind (arith, listed (suc i), only_zero v next listed i)

-- if the block that an insert looks at is place 0 alone, no other place is vacant
none_vacant : (es : List (Option Links)) (fs : List ℕ) → IsLinked es fs → end_at es (next_at es 0) ≡ 0 → (i : ℕ) → vacant_at es i ≡ true → i ≡ 0
none_vacant es (x ∷ fs) linked none i here =
    absurd (omega (arith, (first_block es (x ∷ fs) linked).ordered, (shown linked).chain.0, listed_positive (shown linked) x (omega (arith, occurs-head x fs))))
none_vacant es [] linked none i here = only_zero (vacant_at es) (subst (λ b. vacant_at es (b + 1) ≡ false) none (first_block es [] linked).ends) (shown linked).listed i here

-- slots as links and as places

module _ {V : Type 0} (slots : List (Slot V)) (i : ℕ) where
  pub vacant_slot : vacant_at (all_links slots) i ≡ true
      → (s : Slot V) × (slice_get slots i ≡ Some s) × (i < length slots) × (slice_get (places_of slots) i ≡ Some (Vacant (version_in s + 1)))
  vacant_slot vacant = grind (arith, slot_cases slots i)

  pub place_vacant : (n : ℕ) → slice_get (places_of slots) i ≡ Some (Vacant n) → vacant_at (all_links slots) i ≡ true
  place_vacant n found = grind (arith, slot_cases slots i)

  pub place_not_vacant : (p : Place V) → slice_get (places_of slots) i ≡ Some p → ((n : ℕ) → p ≢ Vacant n) → vacant_at (all_links slots) i ≡ false
  place_not_vacant p found other = grind (arith, slot_cases slots i, other)

counts_are : {V : Type 0} (slots : List (Slot V)) → vacant_at (all_links slots) 0 ≡ true → (i : ℕ)
    → ((i == 0) || map.contains_key (next (places_of slots)) i) ≡ vacant_at (all_links slots) i
counts_are slots sentinel zero = sym sentinel
counts_are slots sentinel (suc i) = grind (arith, nat_tests, slot_cases slots (suc i), get-next_at (places_of slots) (suc i), next_found (places_of slots) (suc i))

module _ {V : Type 0} (slots : List (Slot V)) (vacant elems : ℕ) (sound : IsSound slots vacant elems) where
  pub taken_slots : used_places (places_of slots) + vacant + 1 ≡ length slots
  taken_slots = omega (arith, total (places_of slots) 1 sound.stacked.sentinel, length-places slots, sound.stacked.counted, sound.counted)

  pub slots_fit : length slots < 2 ^ 32
  slots_fit = omega (arith, sound.linked.fits, length-all_links slots)

  pub same_counts : (c : ℕ) → counts_vacant (hop_content slots c).content ≡ vacant_at (all_links slots)
  same_counts c = fun_ext (λ i. counts_are slots sound.linked.sentinel i)

  -- the place from which the next insert takes a slot is vacant
  pub back_vacant : vacant_at (all_links slots) (next_place slots) ≡ true
  back_vacant = let block = first_block (all_links slots) (fronts_of (all_links slots)) sound.linked.linked in block.inside (next_place slots) block.ordered (omega arith)

  pub empty_stack : next_place slots ≡ 0 → sound.stack ≡ []
  empty_stack none = by sound.stack sound.stacked
    where
      by : (vs : List ℕ) → IsStacked (places_of slots) vs → vs ≡ []
      by [] stacked = refl
      by (i ∷ rest) stacked =
          let at = stacked.listed i (inl refl) in
          absurd (omega (arith, at.0, none_vacant (all_links slots) (fronts_of (all_links slots)) sound.linked.linked none i (place_vacant slots i at.1.0 at.1.1)))

  -- the vacant places, in an order that starts with the one that the next insert uses
  pub record Ordered : Type 0 where
    pub order : List ℕ
    pub ordered : IsStacked (places_of slots) order
    pub offers : offer (places_of slots) order ≡ offer_at (places_of slots) (next_place slots)
    pub fills_back : 0 < next_place slots → (p : Place V) → filled (places_of slots) order p ≡ set (places_of slots) (next_place slots) p
    pub fills_end : next_place slots ≡ 0 → (p : Place V) → filled (places_of slots) order p ≡ places_of slots ++ p ∷ []

  pub in_order : Ordered
  in_order =
      let at = vacant_slot slots (next_place slots) back_vacant in
      let some = λ (some : 0 < next_place slots). IsStacked-first (places_of slots) sound.stack (next_place slots) sound.stacked (sound.stacked.complete (next_place slots) _ some at.3) in
      let none = λ (none : next_place slots ≡ 0). subst (IsStacked (places_of slots)) (empty_stack none) sound.stacked in
      record {
        order = cond (eqb (next_place slots) 0) [] (next_place slots ∷ list_without sound.stack (next_place slots));
        ordered = grind (arith, nat_tests, some, none);
        offers = grind (arith, nat_tests);
        fills_back = λ some p. grind (arith, nat_tests);
        fills_end = λ none p. grind (arith, nat_tests);
      }

  abbrev pub ordered_map : ℕ → StackMap V
  ordered_map c = record { places = places_of slots; vacant = in_order.order; capacity = c }

  pub content_is : (c : ℕ) → untold (content_of_places (ordered_map c)) ≡ (hop_content slots c).content
  content_is c = ap (λ o. holding (places_of slots) o c) in_order.offers

  places_count : (c : ℕ) → places (hop_content slots c).content + 1 ≡ length slots
  places_count c = omega (arith, total (places_of slots) 1 sound.stacked.sentinel, length-places slots)

  pub valid : (c : ℕ) → length slots ≤ c + 1 → IsHopContent (hop_content slots c)
  valid c holds = record {
    valid = subst (IsContent true) (content_is c) (IsContent-untold true (content_of_places (ordered_map c)) (IsContent-stacked (ordered_map c) in_order.ordered (omega (arith, length-places slots))));
    none_detached = set.same_set keys_total exact_keys (detached (places_of slots)) set.empty (λ k.
        grind (arith, nat_tests, contains-detached (places_of slots) k, sound.none_detached k.index k.version, set.contains-empty key_cmp k));
    no_stack = refl;
    maximal = subst (λ v. HasMaximalBlocks v (blocks_of (all_links slots))) (sym (same_counts c)) (maximal (all_links slots) sound.linked);
    offers = λ below.
        grind (arith, nat_tests, places_count c, length-all_links slots, length-places slots, offer_is_back (all_links slots) sound.linked, offer_is_end (all_links slots) sound.linked);
  }
