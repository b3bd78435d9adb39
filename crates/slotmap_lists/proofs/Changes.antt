-- What each change of the map, of the links and of the homes leaves of the lists.
use Rattle.slotmap_lists.proofs.Common.{bound, length, set, is_some, ◌∙◌, ℕ, List, [], Some, None, inl, inr, refl, sym, ap, subst, arith, true}
use Rattle.slotmap_lists.proofs.Common.{get_or-set_same, get_or-set_other, length-set, map-set, removed_here, removed_other, eq-zero-or-pos, get-insert_here}
use Rattle.slotmap_lists.proofs.Common.{get-insert_other, live-insert_still, same_or_other, Key, key_cmp, Content, IsLive, IsContent, Inserts, Removes}
use Rattle.slotmap_lists.proofs.Common.{AreApart, same_or_not, Lists, list_of, with_list, times, IsFree, elements_at, AreLiveIndices, is_spot, element_put}
use Rattle.slotmap_lists.proofs.Common.{index_put, spot_in, without, Place, absent, times_none, element_without, part_left, put_between, content_apart}
use Rattle.slotmap_lists.proofs.Common.{home_of, one_if, lists_at, AreListed, elements_of, value_under, with_elements, without_key, put_into}
use Rattle.std.proofs.Common.{◌≡◌, ◌≢◌, ◌<◌, ◌≤◌}
use Rattle.slotmap_lists.proofs.Listed.{seen_list, as_many_lists, once, inside_home, apart_home, home_below, stands, stands_in, value_at}
use Rattle.slotmap_lists.proofs.Spots.{IsSpot, spot_at, spot_there}
use Rattle.slotmap_lists.proofs.Relinks.{Relinks, relinks_taken, relinks_put, relinks_then}
use Rattle.slotmap_lists.proofs.Callers.{with_long, with_other, without_each, without_long}
use Rattle.slotmap_lists.proofs.Which.{map_alike, map_one}
use Rattle.std.specs.FinMap as map
use Rattle.slotmap_links.specs.Lists as numbers

module _ {T : Type 0} where
  -- the lists of another map, which are the same, and where one list of numbers is another
  lists_same : (m n : map.FinMap key_cmp T) (s : Lists) → ((p : ℕ) → elements_at n (list_of s p) ≡ elements_at m (list_of s p)) → lists_at n s ≡ lists_at m s
  lists_same m n s same = map_alike (elements_at n) (elements_at m) s.lists [] same

  lists_set : (m : map.FinMap key_cmp T) (s : Lists) (p : ℕ) (is : List ℕ) → lists_at m (with_list s p is) ≡ with_elements p (elements_at m is) (lists_at m s)
  lists_set m s p is = map-set (elements_at m) s.lists p is

module _ {T : Type 0} {c : Content T} {homes : List ℕ} {s : Lists} (kept : AreListed c homes s) where
  abbrev lists : List (List (Key × T))
  lists = lists_at c.live s

  abbrev home : Key → ℕ
  home k = home_of homes k.index

  -- the index of k is in other lists now, or in none; all other keys are where they were
  module _ (new : Content T) (k : Key) (t : Lists) (often : ℕ → ℕ) (now : List ℕ) (relinks : Relinks s t k.index often) (apart : AreApart new.live)
      (were : (q : Key) → IsLive new q → q ≢ k → IsLive c q × (q.index ≢ k.index)) (stay : (q : Key) → IsLive c q → q.index ≢ k.index → IsLive new q)
      (others : (j : ℕ) → j ≢ k.index → home_of now j ≡ home_of homes j) (here : IsLive new k → (p : ℕ) → often p ≡ one_if (home_of now k.index) p)
      (there : (p : ℕ) → 0 < often p → IsLive new k × (k.index < s.members)) (same_bound : bound new ≡ bound c) (long : length now ≡ length homes) where
    live_now : (p i : ℕ) → 0 < times i (list_of t p) → (q : Key) × (map.contains_key new.live q ≡ true) × (q.index ≡ i)
    live_now p i more = elim (same_or_not k.index i) [
      | inl at ↦ (k, (there p (omega (arith, ap (λ j. times j (list_of t p)) at, relinks.here p))).0, at)
      | inr other ↦ (let own = (kept.indices p).live i (omega (arith, relinks.others p i (λ e. other (sym e)))) in (own.0, stay own.0 own.1 (λ e. other (sym e ∙ own.2)), own.2))
    ]

    at_home_now : (q : Key) → IsLive new q → (p : ℕ) → times q.index (list_of t p) ≡ one_if (home_of now q.index) p
    at_home_now q live p = elim (same_or_other q k) [
      | inl is ↦ subst (λ (q : Key). times q.index (list_of t p) ≡ one_if (home_of now q.index) p) (sym is) (relinks.here p ∙ here (subst (IsLive new) is live) p)
      | inr other ↦ (let was = were q live other in relinks.others p q.index was.1 ∙ kept.at_home q was.0 p ∙ ap (λ h. one_if h p) (sym (others q.index was.1)))
    ]

    within_now : (p i : ℕ) → 0 < times i (list_of t p) → i < t.members
    within_now p i more = elim (same_or_not k.index i) [
      | inl at ↦ (let own = (there p (omega (arith, ap (λ j. times j (list_of t p)) at, relinks.here p))).1 in omega (arith, own, at, relinks.members))
      | inr other ↦ omega (arith, kept.within p i (omega (arith, relinks.others p i (λ e. other (sym e)))), relinks.members)
    ]

    listed_now : AreListed new now t
    listed_now = record {
      indices = λ p. record { apart = apart; live = live_now p };
      at_home = at_home_now;
      within = within_now;
      covered = omega (arith, kept.covered, relinks.members, same_bound);
      homes_long = omega (arith, kept.homes_long, relinks.members, long);
      few = omega (arith, kept.few, relinks.owners);
    }

  -- a key is taken out of its list, and it is in none for now
  module _ (k : Key) (v : T) (found : map.get c.live k ≡ Some v) where
    live : IsLive c k
    live = ap is_some found

    abbrev rest : Lists
    rest = with_list s (home k) (numbers.without k.index (list_of s (home k)))

    taken : Relinks s rest k.index (λ p. 0)
    taken = relinks_taken s (home k) k.index (home_below kept k live) (apart_home kept k live)

    few_left : (p i : ℕ) → times i (list_of rest p) ≤ times i (list_of s p)
    few_left p i = elim (same_or_not i k.index) [ inl at ↦ rw at (omega (arith, taken.here p)) | inr other ↦ omega (arith, taken.others p i other) ]

    rest_indices : (p : ℕ) → AreLiveIndices c.live (list_of rest p)
    rest_indices p = record { apart = (kept.indices p).apart; live = λ i more. (kept.indices p).live i (omega (arith, few_left p i)) }

    rest_once : (p i : ℕ) → times i (list_of rest p) ≤ 1
    rest_once p i = omega (arith, few_left p i, once kept p i)

    lists_left : lists_at c.live rest ≡ without_key k lists
    lists_left =
        let h = home k in
        lists_set c.live s h (numbers.without k.index (list_of s h))
        ∙ ap (λ l. with_elements h l lists) (sym (element_without c.live (stands kept k v found)) ∙ ap (without k) (sym (seen_list c.live s h)))
        ∙ map_one (without k) lists h (omega (arith, home_below kept k live, as_many_lists c.live s))
        (λ q other. (absent k (elements_of q lists) (times_none k (elements_of q lists) ((stands_in kept k v found).only q other))).without_is)

    pub taken_free : IsFree rest k.index
    taken_free = record { within = kept.within (home k) k.index (inside_home kept k live); nowhere = taken.here }

    -- it left the map
    module _ (new : Content T) (removes : Removes c k new) where
      other_same : (q : Key) → q ≢ k → map.get new.live q ≡ map.get c.live q
      other_same q other = ap (λ m. map.get m q) removes.live ∙ removed_other c.live k q other

      gone : IsLive new k → ⊥
      gone at = let none = ap is_some (ap (λ m. map.get m k) removes.live ∙ removed_here c.live k) in cc

      was : (q : Key) → IsLive new q → IsLive c q × (q ≢ k)
      was q of_q = let other : q ≢ k = λ e. gone (subst (IsLive new) e of_q) in (ap is_some (sym (other_same q other)) ∙ of_q, other)

      apart_left : AreApart new.live
      apart_left a b of_a of_b = (kept.indices 0).apart a b (was a of_a).0 (was b of_b).0

      pub listed_removed : bound new ≡ bound c → AreListed new homes rest
      listed_removed capacity = listed_now new k rest (λ p. 0) homes taken apart_left
          (λ q of_q other. (let w = was q of_q in (w.0, λ e. other ((kept.indices 0).apart q k w.0 live e))))
          (λ q of_q other. ap is_some (other_same q (λ e. other (ap (λ (q : Key). q.index) e))) ∙ of_q)
          (λ j other. refl) (λ at. absurd (gone at)) (λ p more. absurd (omega arith)) capacity refl

      pub lists_removed : lists_at new.live rest ≡ without_key k lists
      lists_removed = lists_same c.live new.live rest (λ p. part_left c.live new.live k apart_left
          (λ q u other is. other_same q (λ e. other (ap (λ (q : Key). q.index) e)) ∙ is) (list_of rest p) (rest_indices p) (taken.here p)) ∙ lists_left

      pub each_removed : (q : ℕ) → elements_of q (lists_at new.live rest) ≡ without k (elements_of q lists)
      each_removed q = ap (elements_of q) lists_removed ∙ without_each k lists q

      pub as_many_removed : length (lists_at new.live rest) ≡ length lists
      as_many_removed = ap length lists_removed ∙ without_long k lists

    -- it is put into a place of a list
    module _ (q : ℕ) (place : Place) (there : q < length s.lists) (can : is_spot place (elements_of q (without_key k lists)) ≡ true) where
      seen_left : elements_of q (without_key k lists) ≡ elements_at c.live (list_of rest q)
      seen_left = sym (ap (elements_of q) lists_left) ∙ seen_list c.live rest q

      can_left : is_spot place (elements_at c.live (list_of rest q)) ≡ true
      can_left = ap (is_spot place) (sym seen_left) ∙ can

      spot : IsSpot c.live (list_of rest q) place
      spot = spot_at c.live (list_of rest q) (rest_indices q) (rest_once q) place can_left

      pub rest_has : spot_in place (list_of rest q)
      rest_has = spot_there c.live place (list_of rest q) can_left

      abbrev again : Lists
      again = with_list rest q (index_put place k.index (list_of rest q))

      relinked : Relinks s again k.index (one_if q)
      relinked = relinks_then s rest again k.index (λ p. 0) (one_if q) taken
          (subst (λ is. Relinks rest (with_list rest q is) k.index (one_if q)) (sym (spot.number k.index))
          (relinks_put rest q k.index spot.before spot.after (omega (arith, there, taken.owners)) spot.list taken.here))

      pub listed_moved : AreListed c (set homes k.index q) again
      listed_moved =
          let below = kept.within (home k) k.index (inside_home kept k live) in
          listed_now c k again (one_if q) (set homes k.index q) relinked (kept.indices 0).apart
          (λ p of_p other. (of_p, λ e. other ((kept.indices 0).apart p k of_p live e))) (λ p of_p other. of_p) (λ j other. get_or-set_other homes k.index j q 0 other)
          (λ at p. ap (λ h. one_if h p) (sym (get_or-set_same homes k.index q 0 (omega (arith, below, kept.homes_long))))) (λ p more. (live, below)) refl
          (length-set homes k.index q)

      pub lists_moved : lists_at c.live again ≡ put_into (element_put place) q k (value_under k lists) lists
      lists_moved =
          lists_set c.live rest q (index_put place k.index (list_of rest q))
          ∙ ap (λ l. with_elements q l (lists_at c.live rest)) (ap (elements_at c.live) (spot.number k.index)
          ∙ put_between c.live c.live k v (kept.indices 0).apart found (λ p u other is. is) (list_of rest q) (rest_indices q) (taken.here q) spot.before spot.after spot.list
          ∙ sym (spot.element (k, v)) ∙ ap (element_put place (k, v)) (sym seen_left))
          ∙ ap (with_elements q (element_put place (k, v) (elements_of q (without_key k lists)))) lists_left
          ∙ ap (λ o. put_into (element_put place) q k o lists) (sym (value_at kept k ∙ found))

  -- a new key is put into a place of a list
  module _ (new : Content T) (k : Key) (v : T) (inserts : Inserts c k v new) (fresh : map.get c.live k ≡ None) (well : IsContent true new) (q : ℕ) (place : Place)
      (there : q < length s.lists) (can : is_spot place (elements_of q lists) ≡ true) where
    pub here_new : map.get new.live k ≡ Some v
    here_new = ap (λ m. map.get m k) inserts.live ∙ get-insert_here c.live k v

    pub still : (p : Key) → p ≢ k → map.get new.live p ≡ map.get c.live p
    still p other = ap (λ m. map.get m p) inserts.live ∙ get-insert_other c.live k v p other

    stays : (p : Key) → IsLive c p → IsLive new p
    stays p of_p = ap (λ m. map.contains_key m p) inserts.live ∙ live-insert_still c.live k v p of_p

    apart_new : AreApart new.live
    apart_new = content_apart new well

    -- no list has the index of the new key
    none_yet : (p : ℕ) → times k.index (list_of s p) ≡ 0
    none_yet p = elim (eq-zero-or-pos (times k.index (list_of s p))) [
      | inl none ↦ none
      | inr more ↦ absurd (let own = (kept.indices p).live k.index more in let same_key = apart_new own.0 k (stays own.0 own.1) (ap is_some here_new) own.2 in
          let found = ap (map.contains_key c.live) (sym same_key) ∙ own.1 in let none = ap is_some fresh in cc)
    ]

    can_here : is_spot place (elements_at c.live (list_of s q)) ≡ true
    can_here = ap (is_spot place) (sym (seen_list c.live s q)) ∙ can

    spot_new : IsSpot c.live (list_of s q) place
    spot_new = spot_at c.live (list_of s q) (kept.indices q) (once kept q) place can_here

    pub has_spot : spot_in place (list_of s q)
    has_spot = spot_there c.live place (list_of s q) can_here

    abbrev more_links : Lists
    more_links = with_list s q (index_put place k.index (list_of s q))

    module _ (below : k.index < s.members) where
      pub new_free : IsFree s k.index
      new_free = record { within = below; nowhere = none_yet }

      pub listed_put : bound new ≡ bound c → AreListed new (set homes k.index q) more_links
      listed_put capacity = listed_now new k more_links (one_if q) (set homes k.index q)
          (subst (λ is. Relinks s (with_list s q is) k.index (one_if q)) (sym (spot_new.number k.index)) (relinks_put s q k.index spot_new.before spot_new.after there spot_new.list none_yet))
          apart_new (λ p of_p other. (sym (ap is_some (still p other)) ∙ of_p, λ e. other (apart_new p k of_p (ap is_some here_new) e))) (λ p of_p other. stays p of_p)
          (λ j other. get_or-set_other homes k.index j q 0 other)
          (λ at p. ap (λ h. one_if h p) (sym (get_or-set_same homes k.index q 0 (omega (arith, below, kept.homes_long))))) (λ p more. (ap is_some here_new, below)) capacity
          (length-set homes k.index q)

    pub lists_put : lists_at new.live more_links ≡ with_elements q (element_put place (k, v) (elements_of q lists)) lists
    lists_put =
        let other_same = λ (p : Key) (u : T) (other : p.index ≢ k.index) (is : map.get c.live p ≡ Some u). still p (λ e. other (ap (λ (q : Key). q.index) e)) ∙ is in
        lists_set new.live s q (index_put place k.index (list_of s q))
        ∙ ap (λ l. with_elements q l (lists_at new.live s)) (ap (elements_at new.live) (spot_new.number k.index)
        ∙ put_between c.live new.live k v apart_new here_new other_same (list_of s q) (kept.indices q) (none_yet q) spot_new.before spot_new.after spot_new.list
        ∙ sym (spot_new.element (k, v)) ∙ ap (element_put place (k, v)) (sym (seen_list c.live s q)))
        ∙ ap (with_elements q (element_put place (k, v) (elements_of q lists)))
        (lists_same c.live new.live s (λ p. part_left c.live new.live k apart_new other_same (list_of s p) (kept.indices p) (none_yet p)))

    pub others_put : (p : ℕ) → p ≢ q → elements_of p (lists_at new.live more_links) ≡ elements_of p lists
    others_put p other = ap (elements_of p) lists_put ∙ with_other q p (element_put place (k, v) (elements_of q lists)) lists other

    pub as_many_put : length (lists_at new.live more_links) ≡ length lists
    as_many_put = ap length lists_put ∙ with_long q (element_put place (k, v) (elements_of q lists)) lists
