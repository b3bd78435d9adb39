-- Freeing a live slot: what its neighbours' links have to be afterwards, and that the result is sound.
use Rattle.std.proofs.Common.{◌≡◌, ◌≢◌, ◌+◌, ◌-◌, ◌∷◌, Option, Some, None, ℕ, true, false, List, [], map, set, slice_get, refl, sym, ap, subst, ◌∙◌, inl, inr, arith}
use Rattle.slotmap_core.proofs.Common.{cases_Bool, map-set, last_version, Live, common_steps}
use Rattle.slotmap_hop.specs.Blocks.{vacated}
use Rattle.slotmap_hop.specs.Links.{is_vacant, has_next, has_prev, next_in, prev_in, without_links, vacant_at, links_at, blocks_of, Redirects, KeepsEnds, SetsNext, SetsPrev, HasBlocks, CanVacate}
use Rattle.slotmap_hop.specs.Links.{next_at, held_at, prev_at, end_at, IsHead}
use Rattle.slotmap_hop.specs.Slots.{Links, Single, Front, Back, Slot, SingleState, FrontState, BackState, Empty, links_in, place_in, all_links, places_of, Frees, IsSound}
use Rattle.slotmap_hop.proofs.Writes.{flag_read, leads_vacant, within, vacancy_kept, flags_kept, ends_kept, leads_kept, SetsNext-write, SetsPrev-write, keeps_both, nexts_both, prev_both, prevs_both}
use Rattle.slotmap_hop.proofs.Joining.{zero_head, last_is, last_leads, front_ready, back_ready, prev_is, before_leads, after_head, joins_alone, joins_after, joins_before, joins_between}
use Rattle.slotmap_hop.proofs.{SlotReads.all_links_vacant, SlotReads.place_linked, LiveSlots.can_free}

-- the same slot with another link to the block before, or to the next one
with_prev : (s : Option Links) (to : ℕ) → has_prev s ≡ true → (t : Option Links) × (without_links t ≡ without_links s) × (next_in t ≡ next_in s) × (prev_in t ≡ to)
with_prev None to tails = absurd (cc)
with_prev (Some (Single next prev)) to tails = (Some (Single next to), refl, refl, refl)
with_prev (Some (Front next back)) to tails = absurd (cc)
with_prev (Some (Back front prev)) to tails = (Some (Back front to), refl, refl, refl)

with_next : (s : Option Links) (to : ℕ) → has_next s ≡ true → (t : Option Links) × (without_links t ≡ without_links s) × (prev_in t ≡ prev_in s) × (next_in t ≡ to)
with_next None to leads = absurd (cc)
with_next (Some (Single next prev)) to leads = (Some (Single to prev), refl, refl, refl)
with_next (Some (Front next back)) to leads = (Some (Front to back), refl, refl, refl)
with_next (Some (Back front prev)) to leads = absurd (cc)

tails_flag : (s : Option Links) → has_prev s ≡ true → is_vacant s ≡ true
tails_flag s tails = grind arith

-- the block at `before` can be made to lead on to one place, and the block at `after` to lead back to another
record Led (es : List (Option Links)) (before after to from : ℕ) : Type 0 where
  led : List (Option Links)
  links : Redirects (next_at es) (prev_at es) (next_at led) (prev_at led) before after to from
  ends : KeepsEnds es led

can_lead : (es : List (Option Links)) (before after to from : ℕ) → has_next (links_at es before) ≡ true → IsHead es after → Led es before after to from
can_lead es before after to from leads head =
    let back = end_at es after in
    let one = with_prev (links_at es back) from head.ends in
    let mid = set es back one.0 in
    let inside = within es back (flag_read es back ∙ tails_flag (links_at es back) head.ends) in
    let prev : SetsPrev es mid back from = subst (λ n. SetsPrev es mid back n) one.3 (SetsPrev-write es back one.0 inside one.1 one.2) in
    let there : has_next (links_at mid before) ≡ true = leads_kept prev.same before ∙ leads in
    let two = with_next (links_at mid before) to there in
    let led = set mid before two.0 in
    let next : SetsNext mid led before to = subst (λ n. SetsNext mid led before n) two.3 (SetsNext-write mid before two.0 (within mid before (leads_vacant mid before there)) two.1 two.2) in
    record {
      led = led;
      links = record { onward = next.written; back = prev_both head refl prev next; nexts = nexts_both head refl prev next; prevs = prevs_both head refl prev next };
      ends = keeps_both head refl prev next;
    }

-- links that are right after a slot has joined the blocks
record CanJoin (es : List (Option Links)) (i : ℕ) : Type 0 where
  after : List (Option Links)
  flags : map is_vacant after ≡ set (map is_vacant es) i true
  blocks : HasBlocks after (vacated (vacant_at es) (blocks_of es) i)

module _ {es : List (Option Links)} {i : ℕ} (can : CanVacate es i) where
  last_flags : (led : List (Option Links)) (own : Links) → map is_vacant led ≡ map is_vacant es → map is_vacant (set led i (Some own)) ≡ set (map is_vacant es) i true
  last_flags led own same = map-set is_vacant led i (Some own) ∙ ap (λ vacant. set vacant i true) same

  joined_alone : vacant_at es (i - 1) ≡ false → vacant_at es (i + 1) ≡ false → CanJoin es i
  joined_alone left right =
      let leads = ap (λ x. has_next (links_at es x)) (sym (last_is can.sound)) ∙ last_leads can.sound in
      let led = can_lead es (prev_at es 0) 0 i i leads (zero_head can.sound) in
      record {
        after = set led.led i (Some (Single 0 (prev_at es 0)));
        flags = last_flags led.led _ (flags_kept led.ends);
        blocks = rw (left, right) (joins_alone can led.led left right refl led.links led.ends);
      }

  joined_after : vacant_at es (i - 1) ≡ true → vacant_at es (i + 1) ≡ false → CanJoin es i
  joined_after left right =
      let front = end_at es (i - 1) in
      let first = Front (next_at es front) i in
      record {
        after = set (set es front (Some first)) i (Some (Back front (held_at es (i - 1))));
        flags = last_flags (set es front (Some first)) _ (vacancy_kept es front first (front_ready can left refl));
        blocks = rw (left, right) (joins_after can left right refl refl refl);
      }

  module _ (right : vacant_at es (i + 1) ≡ true) where
    abbrev before : ℕ
    before = prev_at es (i + 1)

    abbrev after_it : ℕ
    after_it = next_at es (i + 1)

    abbrev block_back : ℕ
    block_back = end_at es (i + 1)

    leads_before : has_next (links_at es before) ≡ true
    leads_before = ap (λ x. has_next (links_at es x)) (sym (prev_is can right {back = block_back} refl refl)) ∙ before_leads can right

    joined_before : vacant_at es (i - 1) ≡ false → CanJoin es i
    joined_before left =
        let led = can_lead es before after_it i i leads_before (after_head can right) in
        let there : vacant_at led.led block_back ≡ true = rw (flags_kept led.ends) (back_ready can right refl) in
        record {
          after = set (set led.led block_back (Some (Back i before))) i (Some (Front after_it block_back));
          flags = last_flags (set led.led block_back (Some (Back i before))) _ (vacancy_kept led.led block_back (Back i before) there ∙ flags_kept led.ends);
          blocks = rw (left, right) (joins_before can right led.led left refl refl refl led.links led.ends);
        }

    joined_between : vacant_at es (i - 1) ≡ true → CanJoin es i
    joined_between left =
        let led = can_lead es before after_it after_it before leads_before (after_head can right) in
        let front = end_at led.led (i - 1) in
        let first = Front (next_at led.led front) block_back in
        let last = Back front (held_at led.led (i - 1)) in
        let longer = set led.led front (Some first) in
        let front_there : vacant_at led.led front ≡ true = rw (flags_kept led.ends) (front_ready can left (ends_kept led.ends (i - 1))) in
        let flags = vacancy_kept led.led front first front_there ∙ flags_kept led.ends in
        let back_there : vacant_at longer block_back ≡ true = rw flags (back_ready can right refl) in
        record {
          after = set (set longer block_back (Some last)) i (Some (Single 0 0));
          flags = last_flags (set longer block_back (Some last)) _ (vacancy_kept longer block_back last back_there ∙ flags);
          blocks = rw (left, right) (joins_between can right led.led left refl refl refl led.links led.ends refl refl refl);
        }

  can_join : CanJoin es i
  can_join = grind (arith, common_steps, cases_Bool, inl, joined_between, inr, joined_after, joined_before, joined_alone)

module _ {V : Type 0} where
  -- a slot with other links, if it is vacant
  abbrev linked_as : Option Links → Slot V → Slot V
  linked_as (Some (Single next prev)) (Empty state version one other) = Empty SingleState version next prev
  linked_as (Some (Front next back)) (Empty state version one other) = Empty FrontState version next back
  linked_as (Some (Back front prev)) (Empty state version one other) = Empty BackState version front prev
  linked_as _ s = s

  linked_slot : (l : Option Links) (s : Slot V) → is_vacant l ≡ is_vacant (links_in s) → (links_in (linked_as l s) ≡ l) × (place_in (linked_as l s) ≡ place_in s)
  linked_slot l s same = grind arith

  abbrev all_linked : List (Option Links) → List (Slot V) → List (Slot V)
  all_linked (l ∷ es) (s ∷ slots) = linked_as l s ∷ all_linked es slots
  all_linked _ slots = slots

  linked_slots : (es : List (Option Links)) (slots : List (Slot V)) → map is_vacant es ≡ map is_vacant (all_links slots)
      → (all_links (all_linked es slots) ≡ es) × (places_of (all_linked es slots) ≡ places_of slots)
  linked_slots [] [] same = (refl, refl)
  linked_slots [] (s ∷ slots) same = absurd (cc)
  linked_slots (l ∷ es) [] same = absurd (cc)
  linked_slots (l ∷ es) (s ∷ slots) same = grind (arith, linked_slot l s, linked_slots es slots)

  pub frees_one : (slots : List (Slot V)) (vacant elems : ℕ) → IsSound slots vacant elems → (i v : ℕ) (x : V) → slice_get (places_of slots) i ≡ Some (Live v x)
      → v ≢ last_version → (new : List (Slot V)) × Frees slots new i
  frees_one slots vacant elems sound i v x there other =
      let join = can_join (can_free slots vacant elems sound i v x there).vacate in
      let base : List (Slot V) = set slots i (Empty SingleState (v + 1) 0 0) in
      let links = all_links_vacant slots i (Empty SingleState (v + 1) 0 0) (Single 0 0) refl in
      let flags = join.flags ∙ sym (ap (map is_vacant) links ∙ map-set is_vacant (all_links slots) i (Some (Single 0 0))) in
      let made = linked_slots join.after base flags in (
        all_linked join.after base,
        record {
          version = v;
          value = x;
          there = there;
          other = other;
          blocks = subst (λ es. HasBlocks es (vacated (vacant_at (all_links slots)) (blocks_of (all_links slots)) i)) (sym made.0) join.blocks;
          places = made.1 ∙ place_linked slots i SingleState (v + 1) 0 0 (Single 0 0) refl;
        },
      )
