-- What a call makes of the nodes of a scene, as a whole: nodes come or go, more places are made, a value is written, or all is copied.
use Rattle.std.proofs.Common.{◌+◌, ◌∷◌, ◌≡◌, ◌≢◌, ◌≤◌, ◌⊎◌}
use Rattle.slotmap_scene.proofs.Common.{AreCovered, Content, CoversMore, Err, HasKey, HaveIndices, HoldsMore, HoldsNodes, IfSome, IfSome_then, Inserts}
use Rattle.slotmap_scene.proofs.Common.{IsCloneBy, IsCloneOf, IsContent, IsErr, IsIn, IsLive, IsNodeClone, IsOk, Key, Leaves, List, Lists, MakesRoom}
use Rattle.slotmap_scene.proofs.Common.{Node, Nodes, None, Ok, Option, Result, Some, [], ap, arith, bound, bound_with, disjoint_still, space}
use Rattle.slotmap_scene.proofs.Common.{used-written, with_capacity, child, children_of, clone_live, exact_keys, family, forest, found_at, found_live}
use Rattle.slotmap_scene.proofs.Common.{get-insert_here, get-insert_other, get_or-set_other, get_or-set_same, indices_inserted, indices_still, inl, inr}
use Rattle.slotmap_scene.proofs.Common.{inserted_fresh, is_some, key_cmp, keys, keys_at, keys_total, length-set, list_of, live-insert_still, memory}
use Rattle.slotmap_scene.proofs.Common.{most, node_at, often, option_map, parent_at, parent_index, parent_of, refl, same_or_other, set, shown_content}
use Rattle.slotmap_scene.proofs.Common.{shown_inserts, shown_leaves, shown_makes_room, subst, sym, times, true, used, with_value, ℕ, ◌∙◌}
use Rattle.slotmap_scene.proofs.Families.{above_still, changed_is, children_live, covers_less, get_alike, get_along, kept_along, kept_still, list_none, node_along, node_still, nowhere, parent_live}
use Rattle.slotmap_scene.proofs.Families.{same_along, seen_get, seen_has, seen_len, written_found, written_has}
use Rattle.slotmap_scene.proofs.Climbs.{get_removed}
use Rattle.slotmap_scene.specs.Kept.{nodes_by}
use Rattle.std.specs.FinMap as map
use Rattle.slotmap.specs.Words as words

-- what is known of the values is known of the nodes
module _ {V : Type 0} (c : Content V) (parents : List ℕ) (children : Lists) where
  pub family_valid : IsContent true c → IsContent true (family c parents children)
  family_valid = shown_content c (nodes_by c.live parents children) (seen_has c.live parents children) (seen_len c.live parents children) true

  pub family_used : used (family c parents children) ≡ used c
  family_used = omega (arith, seen_len c.live parents children)

  module _ (d : Content V) (parents' : List ℕ) (children' : Lists) where
    abbrev seen_was : Nodes V
    seen_was = nodes_by c.live parents children

    abbrev seen_now : Nodes V
    seen_now = nodes_by d.live parents' children'

    pub family_bound : bound d ≡ bound c → bound (family d parents' children') ≡ bound (family c parents children)
    family_bound same = omega (arith, seen_len c.live parents children, seen_len d.live parents' children', same)

    family_space : bound d ≡ bound c → d.capacity ≡ c.capacity → space (family d parents' children') ≡ space (family c parents children)
    family_space same capacity = λ i. (family_bound same i, capacity i)

    pub forest_memory : bound d ≡ bound c → d.capacity ≡ c.capacity → children'.capacity ≡ children.capacity
        → (capacity : ℕ) → memory (forest d parents' children' capacity) ≡ memory (forest c parents children capacity)
    forest_memory same map links capacity = λ i. (family_space same map i, (capacity, links i))

    pub family_leaves : Leaves c d → Leaves (family c parents children) (family d parents' children')
    family_leaves = shown_leaves c d seen_was seen_now (seen_has c.live parents children) (seen_len c.live parents children)
        (seen_has d.live parents' children') (seen_len d.live parents' children')

    pub family_room : seen_now ≡ seen_was → (n : ℕ) (ok : Type 0) → MakesRoom true c n ok d
        → MakesRoom true (family c parents children) n ok (family d parents' children')
    family_room same = shown_makes_room c d seen_was seen_now (seen_has c.live parents children) (seen_len c.live parents children)
        (seen_has d.live parents' children') (seen_len d.live parents' children') same true

-- places that were there are there still
covers_still : (n : ℕ) (ps qs : List ℕ) (old new : Lists) → AreCovered n ps old → HoldsMore ps qs → CoversMore old new → AreCovered n qs new
covers_still n ps qs old new covered holds covers = grind arith

-- a call that fails
pub err_fails : {A E : Type 0} (r : Result A E) → IsErr r → IsOk r → ⊥
err_fails (Ok a) fails done = (cc)
err_fails (Err e) fails done = (cc)

-- no room is made where there is none
module _ {V : Type 0} (c : Content V) (valid : IsContent true c) (n : ℕ) where
  no_room : (ok : Type 0) → (ok → ⊥) → (n ≤ c.room → ⊥) → MakesRoom true c n ok c
  no_room ok fails full = grind arith

  pub fits_most : (most_keys : ℕ) → most_keys ≡ bound_with c n → most_keys ≤ most → used c + n ≤ most
  fits_most most_keys is few = grind arith

-- no node at all
module _ {V : Type 0} (c : Content V) (none : c.live ≡ map.empty) (parents : List ℕ) (children : Lists) where
  no_live : (k : Key) → map.get c.live k ≡ None
  no_live k = ap (λ m. map.get m k) none ∙ map.get-empty {X = V} key_cmp k

  pub bare_kept : ((p : ℕ) → list_of children p ≡ []) → AreCovered (bound c) parents children → HoldsNodes c parents children
  bare_kept empty covered = grind (arith, no_live, often)

  pub bare_seen : nodes_by c.live parents children ≡ map.empty
  bare_seen = map.same_map keys_total exact_keys _ _
      (λ q. seen_get c.live parents children q ∙ ap (option_map (node_at c.live parents children q)) (no_live q)
      ∙ sym (map.get-empty {X = Node V} key_cmp q))

module _ {V : Type 0} {c : Content V} {parents : List ℕ} {children : Lists} (kept : HoldsNodes c parents children) where
  abbrev nodes : Nodes V
  nodes = nodes_by c.live parents children

  -- the same values, in more places
  module _ (d : Content V) (same : d.live ≡ c.live) (more : bound c ≤ bound d) (parents' : List ℕ) (children' : Lists)
      (holds : HoldsMore parents parents') (grows : CoversMore children children') where
    same_live : (q : Key) → map.contains_key d.live q ≡ map.contains_key c.live q
    same_live q = ap (λ m. map.contains_key m q) same

    pub grown_kept : AreCovered (bound d) parents' children' → HoldsNodes d parents' children'
    grown_kept covered = kept_along kept d same_live more parents' children' holds.same grows.lists covered grows.disjoint

    pub grown_seen : nodes_by d.live parents' children' ≡ nodes
    grown_seen = map.same_map keys_total exact_keys _ _ (λ q. same_along kept d same_live more parents' children' holds.same grows.lists q (ap (λ m. map.get m q) same))

  -- places are made, and no room
  module _ (parents' : List ℕ) (children' : Lists) (holds : HoldsMore parents parents') (covers : CoversMore children children') where
    pub covered_kept : HoldsNodes c parents' children'
    covered_kept = grown_kept c refl (omega arith) parents' children' holds covers (covers_still (bound c) parents parents' children children' kept.covered holds covers)

    pub covered_seen : IsContent true c → (n : ℕ) (ok : Type 0) → (ok → ⊥) → (n ≤ c.room → ⊥)
        → MakesRoom true (family c parents children) n ok (family c parents' children')
    covered_seen valid n ok fails full = family_room c parents children c parents' children'
        (grown_seen c refl (omega arith) parents' children' holds covers) n ok (no_room c valid n ok fails full)

  pub unroomed : IsContent true c → (n : ℕ) (ok : Type 0) → (ok → ⊥) → (n ≤ c.room → ⊥)
      → MakesRoom true (family c parents children) n ok (family c parents children)
  unroomed valid n ok fails full = family_room c parents children c parents children refl n ok (no_room c valid n ok fails full)

  -- a node comes
  module _ (k : Key) (v : V) (d : Content V) (inserts : Inserts c k v d) (valid : IsContent true c) (after : IsContent true d)
      (same_bound : bound d ≡ bound c) (within : k.index ≤ bound d)
      (o : Option Key) (is_parent : IfSome o (IsLive c)) (new : List ℕ) (new_is : new ≡ set parents k.index (parent_index o)) where
    stays : (q : Key) → IsLive c q → IsLive d q
    stays q live = ap (λ m. map.contains_key m q) inserts.live ∙ live-insert_still c.live k v q live

    came_other : (q : Key) → q ≢ k → map.get d.live q ≡ map.get c.live q
    came_other q other = ap (λ m. map.get m q) inserts.live ∙ get-insert_other c.live k v q other

    no_other : (q : Key) → IsLive c q → q.index ≢ k.index
    no_other q live at =
        let here : IsLive d k = ap (λ m. map.contains_key m k) inserts.live ∙ ap is_some (get-insert_here c.live k v) in
        let one : q ≡ k = after.apart q k (inl (inl (stays q live))) (inl (inl here)) at in
        let fresh = inserted_fresh true c k v d valid inserts in
        let was = rw one at live in
        cc

    came_indices : HaveIndices d
    came_indices = indices_inserted kept.indices k v d inserts after same_bound within

    came_above : parent_at new k.index ≡ parent_index o
    came_above = ap (λ l. parent_at l k.index) new_is ∙ get_or-set_same parents k.index (parent_index o) 0 (omega (arith, kept.covered.parents))

    above_other : (q : Key) → IsLive c q → parent_at new q.index ≡ parent_at parents q.index
    above_other q live = ap (λ l. parent_at l q.index) new_is ∙ get_or-set_other parents k.index q.index (parent_index o) 0 (no_other q live)

    pub came_kept : HoldsNodes d new children
    came_kept = kept_still kept d came_indices new children stays (λ p. refl)
        (grind (arith, kept.covered, same_bound, new_is, length-set parents k.index (parent_index o))) kept.disjoint
        (λ q live. elim (same_or_other q k) [
          | inl at ↦ subst (λ i. (i ≡ 0) ⊎ HasKey d i) (sym (ap (λ (q : Key). parent_at new q.index) at ∙ came_above))
              (written_has d o (IfSome_then o is_parent stays))
          | inr other ↦ (let was = sym (ap is_some (came_other q other)) ∙ live in
              above_still kept d came_indices new children stays (λ p. refl) (parent_at parents q.index) (parent_at new q.index) (above_other q was)
              (kept.has_parent q was))
        ])

    came_seen : nodes_by d.live new children ≡ map.insert nodes k (child o v)
    came_seen = map.same_map keys_total exact_keys _ _ (λ q. elim (same_or_other q k) [
      | inl at ↦ rw at (seen_get d.live new children k
          ∙ ap (option_map (node_at d.live new children k)) (ap (λ m. map.get m k) inserts.live ∙ get-insert_here c.live k v)
          ∙ (λ i. Some (record {
            value = v;
            parent = (ap (found_at d.live) came_above ∙ written_found d came_indices o (IfSome_then o is_parent stays)) i;
            children = ap (keys_at d.live) (list_none kept k.index (λ x live. no_other x live)) i;
          }))
          ∙ sym (get-insert_here nodes k (child o v)))
      | inr other ↦ get_alike kept d came_indices new children q (came_other q other)
          (λ live. node_still kept d came_indices new children q live (above_other q live) refl (λ p of_c _. stays p of_c) (λ x of_c _. stays x of_c))
          ∙ sym (get-insert_other nodes k (child o v) q other)
    ])

    pub came_inserts : Inserts (family c parents children) k (child o v) (family d new children)
    came_inserts = shown_inserts c d nodes (nodes_by d.live new children) (seen_has c.live parents children) (seen_len c.live parents children)
        (seen_has d.live new children) (seen_len d.live new children) k v (child o v) came_seen inserts

  -- a node goes that has no children, is no child and is no parent
  module _ (k : Key) (live : IsLive c k) (leaf : children_of nodes k ≡ []) (alone : (p : Key) → times k (children_of nodes p) ≡ 0)
      (childless : (q : Key) → parent_of nodes q ≢ Some k)
      (d : Content V) (is : d.live ≡ map.remove c.live k) (same_bound : bound d ≡ bound c) where
    left_get : (q : Key) → q ≢ k → map.get d.live q ≡ map.get c.live q
    left_get q other = ap (λ m. map.get m q) is ∙ get_removed c.live k q other

    gone_here : {W : Type 0} (m : map.FinMap key_cmp W) → map.get (map.remove m k) k ≡ None
    gone_here m = grind (arith, keys)

    not_k : (q : Key) → IsLive d q → q ≢ k
    not_k q of_d at = grind (arith, gone_here c.live)

    was_live : (q : Key) → IsLive d q → IsLive c q
    was_live q of_d = sym (ap is_some (left_get q (not_k q of_d))) ∙ of_d

    left_indices : HaveIndices d
    left_indices = indices_still kept.indices d was_live (omega arith)

    -- no list has it, and it has none
    unlisted : (p i : ℕ) → IsIn children p i → i ≢ k.index
    unlisted p i inside at = let none = nowhere kept k live alone p in let here = ap (λ i. often i (list_of children p)) at in omega arith

    ownerless : list_of children k.index ≡ []
    ownerless = by (list_of children k.index) (sym (children_live c.live parents children k live) ∙ leaf)
      where
        by : (is : List ℕ) → keys_at c.live is ≡ [] → is ≡ []
        by [] none = refl
        by (i ∷ is) none = absurd (cc)

    has_left : (i : ℕ) → HasKey c i → i ≢ k.index → HasKey d i
    has_left i has apart = (has.0, ap is_some (left_get has.0 (λ at. apart (sym has.2 ∙ ap (λ (q : Key). q.index) at))) ∙ has.1, has.2)

    not_above : (q : Key) → IsLive c q → parent_at parents q.index ≢ k.index
    not_above q of_c at = grind (arith, parent_live c.live parents children q of_c, found_live kept.indices k live)

    pub gone_kept : HoldsNodes d parents children
    gone_kept = record {
      indices = left_indices;
      covered = covers_less (bound c) (bound d) parents children kept.covered (omega arith);
      disjoint = kept.disjoint;
      listed = λ p i inside. (let was = kept.listed p i inside in (
        has_left p was.0 (λ at. (let none = ap (λ p. often i (list_of children p)) at ∙ ap (often i) ownerless in omega arith)),
        has_left i was.1 (unlisted p i inside),
      ));
      has_parent = λ q of_d. (let was = was_live q of_d in elim (kept.has_parent q was) [
        | inl none ↦ inl none
        | inr has ↦ inr (has_left (parent_at parents q.index) has (not_above q was))
      ]);
    }

    pub gone_seen : nodes_by d.live parents children ≡ map.remove nodes k
    gone_seen = map.same_map keys_total exact_keys _ _ (λ q. elim (same_or_other q k) [
      | inl at ↦ rw at (seen_get d.live parents children k
          ∙ ap (option_map (node_at d.live parents children k)) (ap (λ m. map.get m k) is ∙ gone_here c.live) ∙ sym (gone_here nodes))
      | inr other ↦ get_alike kept d left_indices parents children q (left_get q other)
          (λ of_q. node_still kept d left_indices parents children q of_q refl refl
          (λ p of_c at. ap is_some (left_get p (λ e. not_above q of_q (sym at ∙ ap (λ (q : Key). q.index) e))) ∙ of_c)
          (λ x of_c inside. ap is_some (left_get x (λ e. unlisted q.index x.index inside (ap (λ (q : Key). q.index) e))) ∙ of_c))
          ∙ sym (get_removed nodes k q other)
    ])

  -- a value is written
  module _ (k : Key) (was v : V) (there : map.get c.live k ≡ Some was) where
    abbrev written : Content V
    written = words.with_value c k v

    written_keys : (q : Key) → map.contains_key written.live q ≡ map.contains_key c.live q
    written_keys q = elim (same_or_other q k) [
      | inl is ↦ rw is (ap is_some (get-insert_here c.live k v) ∙ sym (ap is_some there))
      | inr other ↦ ap is_some (get-insert_other c.live k v q other)
    ]

    written_bound : bound written ≡ bound c
    written_bound = ap (λ n. n + c.room) (used-written c k v (ap is_some there))

    pub written_kept : HoldsNodes written parents children
    written_kept = kept_along kept written written_keys (omega (arith, written_bound)) parents children (λ i. refl) (λ p. refl)
        (covers_less (bound c) (bound written) parents children kept.covered (omega (arith, written_bound))) kept.disjoint

    pub written_seen : nodes_by written.live parents children ≡ with_value nodes k v
    written_seen = changed_is nodes (nodes_by written.live parents children) k (λ n. record n { value = v })
        (λ q other. same_along kept written written_keys (omega (arith, written_bound)) parents children (λ i. refl) (λ p. refl) q (get-insert_other c.live k v q other))
        (get_along kept written written_keys (omega (arith, written_bound)) parents children (λ i. refl) (λ p. refl) k (ap is_some there)
        ∙ ap (option_map (node_at c.live parents children k)) (get-insert_here c.live k v)
        ∙ sym (ap (option_map (λ (n : Node V). record n { value = v })) (seen_get c.live parents children k ∙ ap (option_map (node_at c.live parents children k)) there)))

  -- a copy has the same parents and children
  module _ (is_clone : V → V → Type 0) (copy : Content V) (clones : IsCloneBy is_clone c copy) (same_bound : bound copy ≡ bound c) where
    copied_keys : (q : Key) → map.contains_key copy.live q ≡ map.contains_key c.live q
    copied_keys = clone_live is_clone c copy clones

    pub copied_kept : (now : Lists) → now ≡ with_capacity children now.capacity → HoldsNodes copy parents now
    copied_kept now is = subst (HoldsNodes copy parents) (sym is) (kept_along kept copy copied_keys (omega arith) parents (with_capacity children now.capacity) (λ i. refl) (λ p. refl)
        (grind (arith, kept.covered)) (disjoint_still children _ kept.disjoint (λ p. refl) (omega arith)))

    copied_along : IsCloneBy (IsNodeClone is_clone) (family c parents children) (family copy parents children)
    copied_along = record {
      live = λ q. rw (seen_get c.live parents children q, seen_get copy.live parents children q) (by q (map.get c.live q) (map.get copy.live q) refl (clones.live q));
      detached = clones.detached;
      retired = clones.retired;
      next = clones.next;
      offer = clones.offer;
      stack = clones.stack;
    }
      where
        by : (q : Key) (o p : Option V) → map.get c.live q ≡ o → IsCloneOf is_clone o p
            → IsCloneOf (IsNodeClone is_clone) (option_map (node_at c.live parents children q) o) (option_map (node_at copy.live parents children q) p)
        by q None p there is = ap (option_map (node_at copy.live parents children q)) is
        by q (Some v) None there is = is
        by q (Some v) (Some w) there is =
            let same = node_along kept copy copied_keys (omega arith) parents children (λ i. refl) (λ p. refl) q (ap is_some there) w in
            (is, ap (λ (n : Node V). n.parent) same, ap (λ (n : Node V). n.children) same)

    pub copied_seen : (now : Lists) → now ≡ with_capacity children now.capacity → IsCloneBy (IsNodeClone is_clone) (family c parents children) (family copy parents now)
    unfolding nodes_by
    copied_seen now is = subst (λ s. IsCloneBy (IsNodeClone is_clone) (family c parents children) (family copy parents s)) (sym is) copied_along
