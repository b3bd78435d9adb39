-- A slot joins the blocks by one write, after the links of the others were made ready for it.
use Rattle.std.proofs.Common.{◌≡◌, ◌≢◌, ◌+◌, ◌-◌, ◌<◌, ◌≤◌, ◌∷◌, ◌++◌, Some, cond, eqb, ℕ, true, false, List, [], length, map, set, refl, sym, ap, ◌∙◌}
use Rattle.slotmap_core.proofs.Common.{arith, map-set, length-map, Option}
use Rattle.slotmap_hop.specs.Blocks.{IsBlock, vacated_alone, vacated_before, vacated_after, vacated_between}
use Rattle.slotmap_hop.specs.Links.{is_vacant, has_next, has_prev, end_in, vacant_at, links_at, list_without, fronts_of, blocks_of, Redirects, TakesOver, KeepsEnds, HasBlockList, HasBlocks, CanVacate}
use Rattle.slotmap_hop.specs.Links.{next_in, prev_in, next_at, held_at, prev_at, end_at, occurs, replaced, Puts, Unlinks, IsHead}
use Rattle.slotmap_hop.specs.declared.links.Links.{Links}
use Rattle.slotmap_hop.specs.declared.links.Links.TheVariants.{Single, Front, Back}
use Rattle.slotmap_hop.proofs.Chain.{in_removed, next_occurs, prev_occurs, IsChain-removed, IsChain-replaced, IsChain-appended}
use Rattle.slotmap_hop.proofs.Writes.{links_here, links_other, vacancy_kept, flags_kept, ends_kept, apart_kept, apart_set, within, same_test, other_test}
use Rattle.slotmap_hop.proofs.FrontsLemmas.{stands_once, zero_apart, on_circle, listed_alone, listed_right, listed_left, listed_both}
use Rattle.slotmap_hop.proofs.Views.{blocks_replaced, blocks_removed, blocks_appended, back_at-listed, blocks_grown}
use Rattle.slotmap_hop.proofs.Vacating.{zero_in_circle, in_circle_differs, absent, right_block, not_back, right_front, left_block, new_vacates, puts_between, grown, ends_stay}
use Rattle.slotmap_hop.proofs.BlockLemmas.{IsBlock-front, begins_at, joined}
use Rattle.slotmap_hop.proofs.Circle.{shown, head_on, held_on, leads_at, tails_at}

-- the last block of the list
module _ {es : List (Option Links)} (list : HasBlockList es) where
  pub zero_head : IsHead es 0
  zero_head = head_on list.linked 0 (zero_in_circle (fronts_of es))

  pub zero_tails : has_prev (links_at es (end_at es 0)) ≡ true
  zero_tails = zero_head.ends

  pub last_is : held_at es (end_at es 0) ≡ prev_at es 0
  last_is = sym (held_on list.linked 0 (zero_in_circle (fronts_of es)))

  last_on : 1 ≤ occurs (0 ∷ fronts_of es) (prev_at es 0)
  last_on = prev_occurs (next_at es) (prev_at es) 0 (fronts_of es) 0 (shown list.linked).chain (zero_in_circle (fronts_of es))

  pub last_leads : has_next (links_at es (held_at es (end_at es 0))) ≡ true
  last_leads = ap (λ x. has_next (links_at es x)) last_is ∙ (head_on list.linked (prev_at es 0) last_on).leads

module _ {old : List (Option Links)} {i : ℕ} (live : CanVacate old i) where
  slot_inside : (es : List (Option Links)) → map is_vacant es ≡ map is_vacant old → i < length es
  slot_inside es same = omega (arith, live.inside, ap length same, length-map es is_vacant, length-map old is_vacant)

  -- neither neighbour is vacant
  pub joins_alone : (led : List (Option Links)) {last : ℕ} → vacant_at old (i - 1) ≡ false → vacant_at old (i + 1) ≡ false → last ≡ prev_at old 0
      → Redirects (next_at old) (prev_at old) (next_at led) (prev_at led) last 0 i i → KeepsEnds old led → HasBlocks (set led i (Some (Single 0 last))) (vacated_alone (blocks_of old) i)
  joins_alone led {last} left right at_end leads keeps =
      let linked = shown live.sound.linked in
      let fs = fronts_of old in
      let own : Option Links = Some (Single 0 last) in
      let new = set led i own in
      let inside = slot_inside led (flags_kept keeps) in
      let here : links_at new i ≡ own = links_here led i own inside in
      let flags : map is_vacant new ≡ set (map is_vacant old) i true = map-set is_vacant led i own ∙ ap (λ vacant. set vacant i true) (flags_kept keeps) in
      let change = new_vacates live new flags in
      let grows = joined i i change (omega arith) (omega arith) (begins_at (vacant_at old) i left) (λ x low high. absurd (omega arith)) (λ x low high. absurd (omega arith)) right in
      let same : (x : ℕ) → x ≢ i → x ≢ i → x ≢ i → links_at new x ≡ links_at led x = λ x a b c. links_other led i own x a in
      let kept = ends_stay new live keeps grows same in
      let apart = in_circle_differs live in
      let names : end_at new i ≡ i = ap (end_in i) here in
      let nexts = λ (x : ℕ). cond (eqb x i) 0 (next_at led x) in
      let prevs = λ (x : ℕ). cond (eqb x i) last (prev_at led x) in
      let between = puts_between leads (rw at_end (apart (prev_at old 0) (last_on live.sound))) (λ e. omega (arith, live.positive)) in
      let puts : Puts (next_at old) (prev_at old) nexts prevs (prev_at old 0) 0 i = rw (← at_end) between in
      grown new live keeps grows same (fs ++ i ∷ []) (vacated_alone (blocks_of old) i) nexts prevs flags
      (λ j. record {
        sentinel_end = (let zero = apart 0 (zero_in_circle fs) in kept 0 zero zero zero j);
        others = blocks_appended (end_at old) (end_at new) fs i names (λ f there. let differs = apart f (omega arith) in kept f differs differs differs) j;
      })
      (listed_alone fs change live.positive left right linked.listed)
      (IsChain-appended 0 fs i (stands_once linked) (zero_apart linked) (absent live) live.positive puts linked.chain)
      (λ x differs. (other_test x i _ _ differs, other_test x i _ _ differs))
      (ap next_in here ∙ sym (same_test i _ _))
      (rw (names, names, ap prev_in here) (same_test i _ _ ∙ sym (same_test i _ _)))
      names names
      (apart_set led i own inside tt (apart_kept keeps live.sound.linked.apart))

  -- only the left neighbour is vacant
  pub joins_after : {front prev next : ℕ} → vacant_at old (i - 1) ≡ true → vacant_at old (i + 1) ≡ false
      → front ≡ end_at old (i - 1) → prev ≡ held_at old (i - 1) → next ≡ next_at old front
      → HasBlocks (set (set old front (Some (Front next i))) i (Some (Back front prev))) (vacated_after (blocks_of old) i)
  joins_after {front} {prev} {next} left right front_is prev_is next_is =
      let linked = shown live.sound.linked in
      let fs = fronts_of old in
      let block : IsBlock (vacant_at old) front (i - 1) × (end_at old front ≡ i - 1) = rw front_is (left_block live left) in
      let vacant = block.0.inside front (omega arith) block.0.ordered in
      let longer : Option Links = Some (Front next i) in
      let own : Option Links = Some (Back front prev) in
      let named = set old front longer in
      let new = set named i own in
      let low : front < i = omega (arith, block.0.ordered, live.positive) in
      let inside = slot_inside named (vacancy_kept old front (Front next i) vacant) in
      let here : links_at new i ≡ own = links_here named i own inside in
      let there : links_at new front ≡ longer = links_other named i own front (λ e. omega arith) ∙ links_here old front longer (within old front vacant) in
      let flags : map is_vacant new ≡ set (map is_vacant old) i true = map-set is_vacant named i own ∙ ap (λ vacant. set vacant i true) (vacancy_kept old front (Front next i) vacant) in
      let change = new_vacates live new flags in
      let grows = joined front i change (omega arith) (omega arith) block.0.begins (λ x low high. block.0.inside x low (omega arith)) (λ x low high. absurd (omega arith)) right in
      let same : (x : ℕ) → x ≢ front → x ≢ i → x ≢ i → links_at new x ≡ links_at old x = λ x a b c. links_other named i own x b ∙ links_other old front longer x a in
      let nothing : KeepsEnds old old = record { all = refl } in
      let kept = ends_stay new live nothing grows same in
      let front_names : end_at new front ≡ i = ap (end_in front) there in
      let back_names : end_at new i ≡ front = ap (end_in i) here in
      let apart = in_circle_differs live in
      let prev_same : prev_at old front ≡ prev = rw (block.1, ← front_is) (same_test front _ _ ∙ sym prev_is) in
      grown new live nothing grows same fs (vacated_after (blocks_of old) i) (next_at old) (prev_at old) flags
      (blocks_grown (end_at old) (end_at new) fs i front i live.positive (sym front_is) block.1 front_names
      (λ f on. ((linked.ends f (on_circle linked f on)).1, λ differs. kept f differs (apart f on) (apart f on))))
      (listed_left fs change live.positive left right linked.listed)
      linked.chain
      (λ x differs. (refl, refl))
      (ap next_in there ∙ next_is)
      (rw (front_names, back_names, ap prev_in here) (same_test front _ _ ∙ sym prev_same))
      front_names back_names
      (apart_set named i own inside low (apart_set old front longer (within old front vacant) low live.sound.linked.apart))

  -- what may be read and written at the block to the left
  module _ (left : vacant_at old (i - 1) ≡ true) where
    pub left_tails : has_prev (links_at old (i - 1)) ≡ true
    left_tails = tails_at live.sound.linked (i - 1) left (left_block live left).0.ordered

    pub front_leads : has_next (links_at old (end_at old (i - 1))) ≡ true
    front_leads = leads_at live.sound.linked (end_at old (i - 1)) (IsBlock-front (vacant_at old) (end_at old (i - 1)) (i - 1) (left_block live left).0)

    pub front_ready : {front : ℕ} → front ≡ end_at old (i - 1) → vacant_at old front ≡ true
    front_ready is = let block = (left_block live left).0 in rw is (block.inside _ (omega arith) block.ordered)

  -- the block to the right, and its neighbours in the list
  module _ (right : vacant_at old (i + 1) ≡ true) where
    right_on : 1 ≤ occurs (0 ∷ fronts_of old) (i + 1)
    right_on = omega (arith, right_front live right)

    right_head : IsHead old (i + 1)
    right_head = head_on live.sound.linked (i + 1) right_on

    pub right_leads : has_next (links_at old (i + 1)) ≡ true
    right_leads = right_head.leads

    pub back_tails : has_prev (links_at old (end_at old (i + 1))) ≡ true
    back_tails = right_head.ends

    pub prev_is : {back prev : ℕ} → back ≡ end_at old (i + 1) → prev ≡ held_at old back → prev ≡ prev_at old (i + 1)
    prev_is back_is is = is ∙ ap (held_at old) back_is ∙ sym (held_on live.sound.linked (i + 1) right_on)

    pub back_ready : {back : ℕ} → back ≡ end_at old (i + 1) → vacant_at old back ≡ true
    back_ready is = let block = right_block live right in rw is (block.inside _ block.ordered (omega arith))

    before_on : 1 ≤ occurs (0 ∷ fronts_of old) (prev_at old (i + 1))
    before_on = prev_occurs (next_at old) (prev_at old) 0 (fronts_of old) (i + 1) (shown live.sound.linked).chain right_on

    after_on : 1 ≤ occurs (0 ∷ fronts_of old) (next_at old (i + 1))
    after_on = next_occurs (next_at old) (prev_at old) 0 (fronts_of old) (i + 1) (shown live.sound.linked).chain right_on

    pub before_leads : has_next (links_at old (held_at old (end_at old (i + 1)))) ≡ true
    before_leads = ap (λ x. has_next (links_at old x)) (prev_is {back = end_at old (i + 1)} refl refl) ∙ (head_on live.sound.linked _ before_on).leads

    pub after_head : IsHead old (next_at old (i + 1))
    after_head = head_on live.sound.linked _ after_on

    -- only the right neighbour is vacant
    pub joins_before : (led : List (Option Links)) {next back prev : ℕ} → vacant_at old (i - 1) ≡ false
        → next ≡ next_at old (i + 1) → back ≡ end_at old (i + 1) → prev ≡ prev_at old (i + 1)
        → Redirects (next_at old) (prev_at old) (next_at led) (prev_at led) prev next i i → KeepsEnds old led
        → HasBlocks (set (set led back (Some (Back i prev))) i (Some (Front next back))) (vacated_before (blocks_of old) i)
    joins_before led {next} {back} {prev} left next_is back_is prev_is leads keeps =
        let linked = shown live.sound.linked in
        let fs = fronts_of old in
        let whole : IsBlock (vacant_at old) (i + 1) back = rw back_is (right_block live right) in
        let high : i < back = omega (arith, whole.ordered) in
        let vacant : vacant_at led back ≡ true = rw (flags_kept keeps) (whole.inside back whole.ordered (omega arith)) in
        let last : Option Links = Some (Back i prev) in
        let own : Option Links = Some (Front next back) in
        let named = set led back last in
        let new = set named i own in
        let flags_named = vacancy_kept led back (Back i prev) vacant ∙ flags_kept keeps in
        let inside = slot_inside named flags_named in
        let here : links_at new i ≡ own = links_here named i own inside in
        let there : links_at new back ≡ last = links_other named i own back (λ e. omega arith) ∙ links_here led back last (within led back vacant) in
        let flags : map is_vacant new ≡ set (map is_vacant old) i true = map-set is_vacant named i own ∙ ap (λ vacant. set vacant i true) flags_named in
        let change = new_vacates live new flags in
        let grows = joined i back change (omega arith) (omega arith) (begins_at (vacant_at old) i left)
        (λ x low high. absurd (omega arith)) (λ x low high. whole.inside x (omega arith) high) whole.ends in
        let same : (x : ℕ) → x ≢ i → x ≢ back → x ≢ i → links_at new x ≡ links_at led x = λ x a b c. links_other named i own x a ∙ links_other led back last x b in
        let kept = ends_stay new live keeps grows same in
        let front_names : end_at new i ≡ back = ap (end_in i) here in
        let back_names : end_at new back ≡ i = ap (end_in back) there in
        let apart = in_circle_differs live in
        let nexts = λ (x : ℕ). cond (eqb x i) next (next_at led x) in
        let prevs = λ (x : ℕ). cond (eqb x i) prev (prev_at led x) in
        let between = puts_between leads (rw prev_is (apart (prev_at old (i + 1)) before_on)) (rw next_is (apart (next_at old (i + 1)) after_on)) in
        let replaces : TakesOver (next_at old) (prev_at old) nexts prevs (i + 1) i = rw (← prev_is, ← next_is) between in
        grown new live keeps grows same (replaced fs (i + 1) i) (vacated_before (blocks_of old) i) nexts prevs flags
        (λ j. record {
          sentinel_end = kept 0 (apart 0 (zero_in_circle fs)) (λ e. omega arith) (apart 0 (zero_in_circle fs)) j;
          others = blocks_replaced (end_at old) (end_at new) fs (i + 1) i (omega (arith, right_front live right)) (front_names ∙ back_is)
              (λ f listed differs.
              let other = apart f (omega arith) in
              kept f other (λ e. not_back live right f (omega arith) differs (e ∙ back_is)) other) j;
        })
        (listed_right fs change live.positive left right linked.listed)
        (IsChain-replaced 0 fs (i + 1) i (stands_once linked) (zero_apart linked) (omega (arith, right_front live right)) (absent live) live.positive replaces linked.chain)
        (λ x differs. (other_test x i _ _ differs, other_test x i _ _ differs))
        (ap next_in here ∙ sym (same_test i _ _))
        (rw (front_names, back_names, ap prev_in there) (same_test i _ _ ∙ sym (same_test i _ _)))
        front_names back_names
        (apart_set named i own inside high (apart_set led back last (within led back vacant) high (apart_kept keeps live.sound.linked.apart)))

    -- both neighbours are vacant
    pub joins_between : (led : List (Option Links)) {after back before front prev next : ℕ} → vacant_at old (i - 1) ≡ true
        → after ≡ next_at old (i + 1) → back ≡ end_at old (i + 1) → before ≡ prev_at old (i + 1)
        → Redirects (next_at old) (prev_at old) (next_at led) (prev_at led) before after after before → KeepsEnds old led
        → front ≡ end_at led (i - 1) → prev ≡ held_at led (i - 1) → next ≡ next_at led front
        → HasBlocks (set (set (set led front (Some (Front next back))) back (Some (Back front prev))) i (Some (Single 0 0))) (vacated_between (blocks_of old) i)
    joins_between led {after} {back} {before} {front} {prev} {next} left after_is back_is before_is joins keeps front_read prev_read next_read =
        let linked = shown live.sound.linked in
        let fs = fronts_of old in
        let front_is : front ≡ end_at old (i - 1) = front_read ∙ ends_kept keeps (i - 1) in
        let right_is : IsBlock (vacant_at old) (i + 1) back = rw back_is (right_block live right) in
        let left_is : IsBlock (vacant_at old) front (i - 1) × (end_at old front ≡ i - 1) = rw front_is (left_block live left) in
        let low : front < i = omega (arith, left_is.0.ordered, live.positive) in
        let high : i < back = omega (arith, right_is.ordered) in
        let first : Option Links = Some (Front next back) in
        let last : Option Links = Some (Back front prev) in
        let own : Option Links = Some (Single 0 0) in
        let longer = set led front first in
        let named = set longer back last in
        let new = set named i own in
        let front_vacant : vacant_at led front ≡ true = rw (flags_kept keeps) (left_is.0.inside front (omega arith) left_is.0.ordered) in
        let flags_longer = vacancy_kept led front (Front next back) front_vacant ∙ flags_kept keeps in
        let back_vacant : vacant_at longer back ≡ true = rw flags_longer (right_is.inside back right_is.ordered (omega arith)) in
        let flags_named = vacancy_kept longer back (Back front prev) back_vacant ∙ flags_longer in
        let inside = slot_inside named flags_named in
        let at_front : links_at new front ≡ first =
        links_other named i own front (λ e. omega arith) ∙ links_other longer back last front (λ e. omega arith) ∙ links_here led front first (within led front front_vacant) in
        let at_back : links_at new back ≡ last = links_other named i own back (λ e. omega arith) ∙ links_here longer back last (within longer back back_vacant) in
        let flags : map is_vacant new ≡ set (map is_vacant old) i true = map-set is_vacant named i own ∙ ap (λ vacant. set vacant i true) flags_named in
        let change = new_vacates live new flags in
        let grows = joined front back change (omega arith) (omega arith) left_is.0.begins
        (λ x low high. left_is.0.inside x low (omega arith)) (λ x low high. right_is.inside x (omega arith) high) right_is.ends in
        let same : (x : ℕ) → x ≢ front → x ≢ back → x ≢ i → links_at new x ≡ links_at led x =
        λ x a b c. links_other named i own x c ∙ links_other longer back last x b ∙ links_other led front first x a in
        let kept = ends_stay new live keeps grows same in
        let front_names : end_at new front ≡ back = ap (end_in front) at_front in
        let back_names : end_at new back ≡ front = ap (end_in back) at_back in
        let apart = in_circle_differs live in
        let once = right_front live right in
        let prev_same : prev_at led front ≡ prev = rw (ends_kept keeps front, left_is.1, ← front_read) (same_test front _ _ ∙ sym prev_read) in
        let unlinks : Unlinks (next_at old) (prev_at old) (next_at led) (prev_at led) (i + 1) = rw (← before_is, ← after_is) joins in
        rw (back_at-listed (end_at old) fs (i + 1) (omega arith), blocks_removed (end_at old) fs (i + 1) (omega arith), ← back_is)
        (grown new live keeps grows same (list_without fs (i + 1)) _ (next_at led) (prev_at led) flags
        (blocks_grown (end_at old) (end_at new) (list_without fs (i + 1)) i front back live.positive (sym front_is) left_is.1 front_names
        (λ f there.
        let is = in_removed fs (i + 1) f (omega arith) once there in
        ((linked.ends f (on_circle linked f is.0)).1, λ differs. kept f differs (λ e. not_back live right f is.0 is.1 (e ∙ back_is)) (apart f is.0))))
        (listed_both fs change live.positive left right linked.listed)
        (IsChain-removed 0 fs (i + 1) (stands_once linked) (zero_apart linked) (omega arith) unlinks linked.chain)
        (λ x differs. (refl, refl))
        (ap next_in at_front ∙ next_read)
        (rw (front_names, back_names, ap prev_in at_back) (same_test front _ _ ∙ sym prev_same))
        front_names back_names
        (apart_set named i own inside tt
        (apart_set longer back last (within longer back back_vacant) (omega arith)
        (apart_set led front first (within led front front_vacant) (omega arith) (apart_kept keeps live.sound.linked.apart)))))

-- what may be read and written before a slot joins the blocks
pub ruleset ready = (zero_tails, last_leads, left_tails, front_leads, right_leads, back_tails, before_leads)
