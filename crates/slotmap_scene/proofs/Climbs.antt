-- The way up from each node: where it ends, what a change of the nodes does to it, and the keys that an iterator yields on it.
use Rattle.std.proofs.Common.{◌+◌, ◌<◌, ◌↔◌, ◌∷◌, ◌≡◌, ◌≢◌}
use Rattle.slotmap_scene.proofs.Common.{ClimbsTo, GoesUp, HasRoot, IsTree, IsWithin, Key, List, Node, Nodes, None, Option, Some, StepsTo, [], ap, arith, exact_keys, has_node, inl, inr, is_some}
use Rattle.slotmap_scene.proofs.Common.{key_cmp, keys, keys_total, keys_up, len_removed, one_other, parent_in, parent_of, refl, same_or_other, some_entry, subst, suc, sym, times, times_first, true}
use Rattle.slotmap_scene.proofs.Common.{zero, ℕ, ◌∙◌}
use Rattle.std.specs.FinMap as map

-- what is under another key than the one that is removed
pub get_removed : {W : Type 0} (m : map.FinMap key_cmp W) (k q : Key) → q ≢ k → map.get (map.remove m k) q ≡ map.get m q
get_removed m k q other = grind (arith, keys)

module _ {T : Type 0} where
  leads_live : (nodes : Nodes T) (n : ℕ) (k : Key) → ClimbsTo nodes n k → has_node nodes k
  leads_live nodes zero k leads = leads.0
  leads_live nodes (suc n) k leads = leads.1.0

  -- a way up ends at one place
  one_way : (nodes : Nodes T) (n m : ℕ) (k : Key) → ClimbsTo nodes n k → ClimbsTo nodes m k → n ≡ m
  one_way nodes zero zero k a b = refl
  one_way nodes zero (suc m) k a b = absurd (let h = sym a.1 ∙ b.1.1 in cc)
  one_way nodes (suc n) zero k a b = absurd (let h = sym b.1 ∙ a.1.1 in cc)
  one_way nodes (suc n) (suc m) k a b = let h = sym a.1.1 ∙ b.1.1 in let same : a.0 ≡ b.0 = cc in ap suc (one_way nodes n m b.0 (subst (ClimbsTo nodes n) same a.1.2) b.1.2)

  -- where a way goes on, and where it ends
  next_up : (nodes : Nodes T) (n : ℕ) (k p : Key) → ClimbsTo nodes n k → parent_of nodes k ≡ Some p → (m : ℕ) × ((n ≡ suc m) × ClimbsTo nodes m p)
  next_up nodes zero k p leads is = absurd (let h = sym leads.1 ∙ is in cc)
  next_up nodes (suc n) k p leads is = let h = sym leads.1.1 ∙ is in let same : leads.0 ≡ p = cc in (n, (refl, subst (ClimbsTo nodes n) same leads.1.2))

  pub ends : (nodes : Nodes T) (n : ℕ) (k : Key) → ClimbsTo nodes n k → parent_of nodes k ≡ None → n ≡ 0
  ends nodes zero k leads is = refl
  ends nodes (suc n) k leads is = absurd (let h = sym leads.1.1 ∙ is in cc)

  -- whether k is within other is up to its parent, if k is another node
  pub within_up : (nodes : Nodes T) (k p other : Key) → parent_of nodes k ≡ Some p → k ≢ other → IsWithin nodes k other ↔ IsWithin nodes p other
  within_up nodes k p other is apart = (λ w. down w.0 w.1, λ w. (suc w.0, (p, (is, w.1))))
    where
      down : (n : ℕ) → StepsTo nodes n k other → IsWithin nodes p other
      down zero same = absurd (apart same)
      down (suc n) steps = let h = sym steps.1.0 ∙ is in let same : steps.0 ≡ p = cc in (n, subst (λ x. StepsTo nodes n x other) same steps.1.1)

  -- only the node itself is within one that is no parent
  pub alone_within : (nodes : Nodes T) (k : Key) → ((q : Key) → parent_of nodes q ≡ Some k → ⊥) → (n : ℕ) (q : Key) → StepsTo nodes n q k → q ≡ k
  alone_within nodes k childless zero q same = same
  alone_within nodes k childless (suc n) q steps = absurd (childless q (steps.1.0 ∙ ap Some (alone_within nodes k childless n steps.0 steps.1.1)))

  pub root_within : (nodes : Nodes T) (k other : Key) → parent_of nodes k ≡ None → k ≢ other → IsWithin nodes k other → ⊥
  root_within nodes k other is apart w = by w.0 w.1
    where
      by : (n : ℕ) → StepsTo nodes n k other → ⊥
      by zero same = apart same
      by (suc n) steps = let h = sym steps.1.0 ∙ is in cc

  -- a node that has a parent is there
  pub has_parent : (nodes : Nodes T) (k p : Key) → parent_of nodes k ≡ Some p → has_node nodes k
  has_parent nodes k p is = by (map.get nodes k) is
    where
      by : (o : Option (Node T)) → parent_in o ≡ Some p → is_some o ≡ true
      by None e = absurd (cc)
      by (Some node) e = refl

  -- no node is above itself
  pub steps_sum : (nodes : Nodes T) (n j m : ℕ) (k other : Key) → ClimbsTo nodes n k → StepsTo nodes j k other → ClimbsTo nodes m other → n ≡ j + m
  steps_sum nodes n zero m k other up same up_other = one_way nodes n m k up (subst (ClimbsTo nodes m) (sym same) up_other) ∙ omega arith
  steps_sum nodes n (suc j) m k other up steps up_other =
      let next = next_up nodes n k steps.0 up steps.1.0 in let sum = steps_sum nodes next.0 j m steps.0 other next.1.1 steps.1.1 up_other in let one = next.1.0 in omega arith

  none_above : (nodes : Nodes T) (k p : Key) → parent_of nodes k ≡ Some p → HasRoot nodes (Some p) → IsWithin nodes p k → ⊥
  none_above nodes k p is up within = grind (arith, steps_sum nodes up.0 within.0 (suc up.0) p k up.1 within.1 (p, (has_parent nodes k p is, is, up.1)), has_parent nodes k p is, up.1)

  -- a node was moved, came or went: all others are there as before, and have the same parents
  module _ (old new : Nodes T) (k : Key) (keys : (q : Key) → q ≢ k → map.contains_key new q ≡ map.contains_key old q)
      (parents : (q : Key) → q ≢ k → parent_of new q ≡ parent_of old q) where
    -- outside of what is below k the way up is the same
    pub outside : (n : ℕ) (q : Key) → (IsWithin old q k → ⊥) → ClimbsTo old n q → ClimbsTo new n q
    outside zero q out leads = let apart : q ≢ k = λ same. out (zero, same) in (keys q apart ∙ leads.0, parents q apart ∙ leads.1)
    outside (suc n) q out leads =
        let apart : q ≢ k = λ same. out (zero, same) in
        (leads.0, (keys q apart ∙ leads.1.0, parents q apart ∙ leads.1.1, outside n leads.0 (λ w. out (suc w.0, (leads.0, (leads.1.1, w.1)))) leads.1.2))

  -- a way has fewer steps than there are nodes: without the first of them, there is still the way from the second one
  pub short : (n : ℕ) (nodes : Nodes T) (k : Key) → ClimbsTo nodes n k → n < map.len nodes
  short zero nodes k leads = omega (arith, some_entry keys_total exact_keys nodes k leads.0)
  short (suc n) nodes k leads =
      let others = λ (q : Key) (other : q ≢ k). get_removed nodes k q other in
      let rest = outside nodes (map.remove nodes k) k (λ q other. ap is_some (others q other)) (λ q other. ap parent_in (others q other)) n leads.0
      (none_above nodes k leads.0 leads.1.1 (n, leads.1.2)) leads.1.2 in
      omega (arith, short n (map.remove nodes k) leads.0 rest, len_removed keys_total exact_keys nodes k leads.1.0)

  -- what a loop up from a node knows at another one, so many steps up
  pub record Climbing (nodes : Nodes T) (from at : Key) (steps : ℕ) : Type 0 where
    pub left : ℕ
    pub up : ClimbsTo nodes left at
    pub all : ClimbsTo nodes (steps + left) from
    pub few : steps + left < map.len nodes

  pub climbing_start : (nodes : Nodes T) → IsTree nodes → (k : Key) → has_node nodes k → Climbing nodes k k 0
  climbing_start nodes tree k live =
      let up = tree k live in
      let less = short up.0 nodes k up.1 in
      let same : up.0 ≡ 0 + up.0 = omega arith in
      record { left = up.0; up = up.1; all = subst (λ n. ClimbsTo nodes n k) same up.1; few = omega arith }

  module _ (nodes : Nodes T) (from at : Key) (steps : ℕ) (climbing : Climbing nodes from at steps) where
    pub climbing_live : has_node nodes at
    climbing_live = leads_live nodes climbing.left at climbing.up

    pub climbing_step : (p : Key) → parent_of nodes at ≡ Some p → Climbing nodes from p (steps + 1)
    climbing_step p is =
        let next = next_up nodes climbing.left at p climbing.up is in
        let one = next.1.0 in
        let few = climbing.few in
        let sum : steps + climbing.left ≡ steps + 1 + next.0 = omega arith in
        record { left = next.0; up = next.1.1; all = subst (λ n. ClimbsTo nodes n from) sum climbing.all; few = omega arith }

    pub climbing_end : parent_of nodes at ≡ None → ClimbsTo nodes steps from
    climbing_end is = grind (arith, ends nodes climbing.left at climbing.up is)

    -- whether it is within another node, which isn't here, is up to the parent
    module _ (other : Key) (apart : at ≢ other) (same : IsWithin nodes from other ↔ IsWithin nodes at other) where
      pub within_step : (p : Key) → parent_of nodes at ≡ Some p → IsWithin nodes from other ↔ IsWithin nodes p other
      within_step p is = let up = within_up nodes at p other is apart in (λ w. up.0 (same.0 w), λ w. same.1 (up.1 w))

      pub within_none : parent_of nodes at ≡ None → IsWithin nodes from other → ⊥
      within_none is w = root_within nodes at other is apart (same.0 w)

  -- nodes that stay, with the same parents, lead up as before
  leads_kept : (old new : Nodes T) → ((q : Key) → has_node old q → has_node new q × (parent_of new q ≡ parent_of old q))
      → (n : ℕ) (k : Key) → ClimbsTo old n k → ClimbsTo new n k
  leads_kept old new kept zero k leads = let h = kept k leads.0 in (h.0, h.1 ∙ leads.1)
  leads_kept old new kept (suc n) k leads = let h = kept k leads.1.0 in (leads.0, (h.0, h.1 ∙ leads.1.1, leads_kept old new kept n leads.0 leads.1.2))

  pub tree_same : (old new : Nodes T) → ((q : Key) → map.contains_key new q ≡ map.contains_key old q)
      → ((q : Key) → parent_of new q ≡ parent_of old q) → IsTree old → IsTree new
  tree_same old new keys parents tree q there = grind (arith, (tree q (sym (keys q) ∙ there)).0, leads_kept)

  -- a node was moved, or came: all others are there as before, and have the same parents
  module _ (old new : Nodes T) (k : Key) (keys : (q : Key) → q ≢ k → map.contains_key new q ≡ map.contains_key old q)
      (parents : (q : Key) → q ≢ k → parent_of new q ≡ parent_of old q) where
    -- k is a root, or its parent isn't below it
    leads_k : (parent : Option Key) → has_node new k → parent_of new k ≡ parent
        → ((p : Key) → parent ≡ Some p → has_node old p × (IsWithin old p k → ⊥)) → IsTree old → (n : ℕ) × ClimbsTo new n k
    leads_k None live is above tree = (zero, (live, is))
    leads_k (Some p) live is above tree = let own = above p refl in let up = tree p own.0 in (suc up.0, (p, (live, is, outside old new k keys parents up.0 p own.1 up.1)))

    module _ (n : ℕ) (up : ClimbsTo new n k) where
      still : (i : ℕ) (q : Key) → ClimbsTo old i q → (j : ℕ) × ClimbsTo new j q
      still zero q leads = grind arith
      still (suc i) q leads = elim (same_or_other q k) [
        | inl same ↦ (n, subst (ClimbsTo new n) (sym same) up)
        | inr other ↦ (
            let above = still i leads.0 leads.1.2 in
            (suc above.0, (leads.0, (keys q other ∙ leads.1.0, parents q other ∙ leads.1.1, above.1))))
      ]

    pub tree_moved : (parent : Option Key) → has_node new k → parent_of new k ≡ parent
        → ((p : Key) → parent ≡ Some p → has_node old p × (IsWithin old p k → ⊥)) → IsTree old → IsTree new
    tree_moved parent live is above tree q there =
        let up = leads_k parent live is above tree in
        elim (same_or_other q k) [
          | inl same ↦ (up.0, subst (ClimbsTo new up.0) (sym same) up.1)
          | inr other ↦ (let leads = tree q (sym (keys q other) ∙ there) in still up.0 up.1 leads.0 q leads.1)
        ]

  -- the parent of a node is there
  pub parent_there : (nodes : Nodes T) → IsTree nodes → (k p : Key) → parent_of nodes k ≡ Some p → has_node nodes p
  parent_there nodes tree k p is = let up = tree k (has_parent nodes k p is) in let next = next_up nodes up.0 k p up.1 is in leads_live nodes next.0 p next.1.1

  pub no_cycle : (nodes : Nodes T) → IsTree nodes → (k p : Key) → parent_of nodes k ≡ Some p → IsWithin nodes p k → ⊥
  no_cycle nodes tree k p is = none_above nodes k p is (tree p (parent_there nodes tree k p is))

  -- of two nodes with the same parent, none is below the other
  pub apart_beside : (nodes : Nodes T) (k s p : Key) → parent_of nodes k ≡ Some p → parent_of nodes s ≡ Some p → HasRoot nodes (Some p)
      → s ≢ k → IsWithin nodes s k → ⊥
  apart_beside nodes k s p own beside up apart within = none_above nodes k p own up ((within_up nodes s p k beside apart).0 within)

module _ {T : Type 0} (nodes : Nodes T) where
  none_up : (n : ℕ) → keys_up nodes n None ≡ []
  none_up zero = refl
  none_up (suc n) = refl

  -- enough is enough
  same_up : (n m : ℕ) (o : Option Key) → ((k : Key) → o ≡ Some k → (steps : ℕ) × ClimbsTo nodes steps k × (steps < n) × (steps < m))
      → keys_up nodes n o ≡ keys_up nodes m o
  same_up n m None up = none_up n ∙ sym (none_up m)
  same_up zero m (Some k) up = absurd (omega (arith, (up k refl).2))
  same_up (suc n) zero (Some k) up = absurd (omega (arith, (up k refl).3))
  same_up (suc n) (suc m) (Some k) up = ap (λ l. k ∷ l) (same_up n m (parent_of nodes k) (λ p is.
      let own = up k refl in
      let next = next_up nodes own.0 k p own.1 is in
      (next.0, next.1.1, omega (arith, own.2, next.1.0), omega (arith, own.3, next.1.0))))

  -- the parent of a key with a root above it has one too
  pub root_above : (k : Key) → HasRoot nodes (Some k) → HasRoot nodes (parent_of nodes k)
  root_above k has = by has.0 has.1
    where
      by : (n : ℕ) → ClimbsTo nodes n k → HasRoot nodes (parent_of nodes k)
      by zero climbs = subst (HasRoot nodes) (sym climbs.1) tt
      by (suc n) climbs = subst (HasRoot nodes) (sym climbs.1.1) (n, climbs.1.2)

  pub rooted_there : (k : Key) → HasRoot nodes (Some k) → has_node nodes k
  rooted_there k has = leads_live nodes has.0 k has.1

  -- a key with what is above its parent
  pub step_up : (k : Key) → HasRoot nodes (Some k) → keys_up nodes (map.len nodes) (Some k) ≡ k ∷ keys_up nodes (map.len nodes) (parent_of nodes k)
  step_up k has = grind (arith, short has.0 nodes k has.1, same_up, (short has.0 nodes k has.1))

  -- they lead up to the root
  goes_up_from : (n : ℕ) (o : Option Key) → ((k : Key) → o ≡ Some k → (steps : ℕ) × ClimbsTo nodes steps k × (steps < n)) → GoesUp nodes o (keys_up nodes n o)
  goes_up_from n None up = rw (none_up n) tt
  goes_up_from zero (Some k) up = absurd (omega (arith, (up k refl).2))
  goes_up_from (suc n) (Some k) up = (
    refl,
    goes_up_from n (parent_of nodes k) (λ p is.
        let own = up k refl in
        let next = next_up nodes own.0 k p own.1 is in
        (next.0, next.1.1, omega (arith, own.2, next.1.0))),
  )

  pub goes_up : (at : Option Key) → HasRoot nodes at → GoesUp nodes at (keys_up nodes (map.len nodes) at)
  goes_up at has = goes_up_from (map.len nodes) at (λ k is. let root = subst (HasRoot nodes) is has in (root.0, root.1, short root.0 nodes k root.1))

  -- each key on a way up is that of a node
  pub up_live : (at : Option Key) (ks : List Key) → HasRoot nodes at → GoesUp nodes at ks → (k : Key) → 0 < times k ks → has_node nodes k
  up_live None [] has goes k more = absurd (omega arith)
  up_live None (q ∷ above) has goes k more = absurd goes
  up_live (Some a) [] has goes k more = absurd goes
  up_live (Some a) (q ∷ above) has goes k more = elim (same_or_other q k) [
    | inl is ↦ subst (has_node nodes) (sym goes.0 ∙ is) (rooted_there a has)
    | inr other ↦ up_live (parent_of nodes a) above (root_above a has) goes.1 k (omega (arith, times_first k q above, one_other q k other))
  ]

  -- a node's parent has a root above it
  pub parent_rooted : IsTree nodes → (k : Key) → HasRoot nodes (parent_of nodes k)
  parent_rooted tree k = by (parent_of nodes k) refl
    where
      by : (o : Option Key) → parent_of nodes k ≡ o → HasRoot nodes o
      by None is = tt
      by (Some p) is = tree p (parent_there nodes tree k p is)
