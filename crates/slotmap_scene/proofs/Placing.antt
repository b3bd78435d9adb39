-- A node is put among the children of another one or taken out of them, or gets another parent: what is kept then, and what it shows.
use Rattle.std.proofs.Common.{◌++◌, ◌+◌, ◌<◌, ◌∷◌, ◌≡◌, ◌≢◌, ◌≤◌}
use Rattle.slotmap_scene.proofs.Common.{After, AreDisjoint, AreIndices, Before, Bool, Content, HasKey, HaveIndices, HoldsNodes, IfSome, IfSome_then}
use Rattle.slotmap_scene.proofs.Common.{IsFree, IsIn, IsLive, IsParent, IsScene, IsSome, Key, List, Lists, Nodes, None, Option, Side, Some, [], ap, arith}
use Rattle.slotmap_scene.proofs.Common.{behind, beside_first, children_of, children_under, cond, false, family, Forest, forest, first_index, first_key}
use Rattle.slotmap_scene.proofs.Common.{first_or, has_node, in_front, inl, inr, is_key, key_at, key_at_live, keys_at, keys_without, later_indices, length}
use Rattle.slotmap_scene.proofs.Common.{list_of, map-append, nat_eq, number_after, number_before, number_in_place, number_other, often, often_first}
use Rattle.slotmap_scene.proofs.Common.{often_gone, often_joined, often_without, option_map, parent_at, parent_index, parent_of, placed, put_in_place}
use Rattle.slotmap_scene.proofs.Common.{put_on, refl, same_at, same_number, same_or_other_number, set, siblings_of, some_is, subst, sym, times, true}
use Rattle.slotmap_scene.proofs.Common.{with_children_of, with_list, with_parent, with_trees, without, without_child, without_number, ℕ, ◌∙◌}
use Rattle.slotmap_scene.proofs.Families.{above_has, above_none, child_in, children_live, has_if, has_place, hung, hung_seen, indices_at, is_free, relisted, relisted_seen, seen_has}
use Rattle.slotmap_scene.proofs.Climbs.{parent_there}
use Rattle.slotmap_scene.proofs.Moved.{listed_once}
use Rattle.std.specs.FinMap as map

-- a number that is put beside another one is put beside the first one, or later
first_on : (side : Side) (s k i : ℕ) (is : List ℕ) → put_on side s k (i ∷ is) ≡ cond (nat_eq i s) (beside_first side k i is) (i ∷ put_on side s k is)
first_on Before s k i is = refl
first_on After s k i is = refl

module _ {T : Type 0} {c : Content T} (indices : HaveIndices c) where
  module _ (s k : Key) (sibling : IsLive c s) (live : IsLive c k) where
    later_there : (i : ℕ) (is : List ℕ) → nat_eq i s.index ≡ false → 0 < often s.index (i ∷ is) → 0 < often s.index is
    later_there i is apart there = grind (arith, often_first s.index i is)

    key_beside : (side : Side) (is : List ℕ) → AreIndices c is → 0 < often s.index is
        → keys_at c.live (put_on side s.index k.index is) ≡ placed side s k (keys_at c.live is)
    key_beside side [] all there = absurd (omega arith)
    key_beside side (i ∷ is) all there =
        let now = λ (b : Bool). cond b (beside_first side k (key_at c.live i) (keys_at c.live is)) (key_at c.live i ∷ placed side s k (keys_at c.live is)) in
        ap (keys_at c.live) (first_on side s.index k.index i is) ∙ elim (nat_eq i s.index) as
        (λ b. nat_eq i s.index ≡ b → is_key (key_at c.live i) s ≡ b
        → keys_at c.live (cond b (beside_first side k.index i is) (i ∷ put_on side s.index k.index is)) ≡ placed side s k (keys_at c.live (i ∷ is))) [
          | true ↦ λ _ at. at_once side ∙ sym (ap now at)
          | false ↦ λ apart at. ap (λ l. key_at c.live i ∷ l) (key_beside side is (later_indices all) (later_there i is apart there))
              ∙ sym (ap now at)
        ] refl (same_at indices i (first_index all) s sibling)
      where
        at_once : (side : Side) → keys_at c.live (beside_first side k.index i is) ≡ beside_first side k (key_at c.live i) (keys_at c.live is)
        at_once Before = λ n. key_at_live indices k live n ∷ key_at c.live i ∷ keys_at c.live is
        at_once After = λ n. key_at c.live i ∷ key_at_live indices k live n ∷ keys_at c.live is

  key_put : (side : Side) (sibling : Option Key) (k : Key) → IsLive c k → (is : List ℕ) → AreIndices c is → IfSome sibling (λ s. IsLive c s × (0 < often s.index is))
      → keys_at c.live (number_in_place side sibling k.index is) ≡ put_in_place side sibling k (keys_at c.live is)
  key_put side (Some s) k live is all there = key_beside s k there.0 live side is all there.1
  key_put Before None k live is all there = map-append (key_at c.live) is (k.index ∷ []) ∙ ap (λ q. keys_at c.live is ++ q ∷ []) (key_at_live indices k live)
  key_put After None k live is all there = λ n. key_at_live indices k live n ∷ keys_at c.live is

  pub key_after : (k : Key) → IsLive c k → (is : List ℕ) → AreIndices c is → behind k (keys_at c.live is) ≡ option_map (key_at c.live) (number_after k.index is)
  key_after k live [] all = refl
  key_after k live (i ∷ is) all =
      ap (λ b. cond b (first_or (keys_at c.live is) None) (behind k (keys_at c.live is))) (same_at indices i (first_index all) k live)
      ∙ elim (nat_eq i k.index) as
      (λ b. cond b (first_or (keys_at c.live is) None) (behind k (keys_at c.live is)) ≡ option_map (key_at c.live)
      (cond b (first_or is None) (number_after k.index is))) [
        | true ↦ first_key indices is
        | false ↦ key_after k live is (later_indices all)
      ]

  pub key_ahead : (o : Option ℕ) (k : Key) → IsLive c k → (is : List ℕ) → AreIndices c is
      → in_front (option_map (key_at c.live) o) k (keys_at c.live is) ≡ option_map (key_at c.live) (number_before o k.index is)
  key_ahead o k live [] all = refl
  key_ahead o k live (i ∷ is) all =
      ap (λ b. cond b (option_map (key_at c.live) o) (in_front (Some (key_at c.live i)) k (keys_at c.live is))) (same_at indices i (first_index all) k live)
      ∙ elim (nat_eq i k.index) as
      (λ b. cond b (option_map (key_at c.live) o) (in_front (Some (key_at c.live i)) k (keys_at c.live is)) ≡ option_map (key_at c.live)
      (cond b o (number_before (Some i) k.index is))) [
        | true ↦ refl
        | false ↦ key_ahead (Some i) k live is (later_indices all)
      ]

-- a list to which k comes has no other number
module _ (k i : ℕ) where
  beside_few : (side : Side) (s : ℕ) (ks : List ℕ) → often i (put_on side s k ks) ≤ often i ks + same_number k i
  beside_few Before s [] = omega arith
  beside_few After s [] = omega arith
  beside_few side s (q ∷ ks) =
      rw (first_on side s k q ks) (elim (nat_eq q s) as (λ b. often i (cond b (beside_first side k q ks) (q ∷ put_on side s k ks)) ≤ often i (q ∷ ks) + same_number k i) [
        | true ↦ at_once side
        | false ↦ omega (arith, often_first i q (put_on side s k ks), often_first i q ks, beside_few side s ks)
      ])
    where
      at_once : (side : Side) → often i (beside_first side k q ks) ≤ often i (q ∷ ks) + same_number k i
      at_once Before = omega (arith, often_first i k (q ∷ ks))
      at_once After = omega (arith, often_first i q (k ∷ ks), often_first i k ks, often_first i q ks)

  few_more : (side : Side) (sibling : Option Key) (ks : List ℕ) → often i (number_in_place side sibling k ks) ≤ often i ks + same_number k i
  few_more side (Some s) ks = beside_few side s.index ks
  few_more Before None ks = omega (arith, often_joined i ks (k ∷ []), often_first i k [])
  few_more After None ks = omega (arith, often_first i k ks)

module _ {V : Type 0} {c : Content V} {parents : List ℕ} {children : Lists} (kept : HoldsNodes c parents children)
    {capacity : ℕ} {self : Forest V} (view : forest c parents children capacity ≡ self) where
  -- other trees in vectors that hold as many
  lifted : (parents' : List ℕ) (children' : Lists) {trees : Nodes V} → family c parents' children' ≡ record self.nodes { live = trees }
      → children'.capacity ≡ children.capacity → forest c parents' children' capacity ≡ with_trees self trees
  lifted parents' children' nodes same = λ i. record { nodes = nodes i; links = (ap (λ l. (capacity, l)) same ∙ ap (λ (s : Forest V). s.links) view) i }

  pub is_live : (k : Key) → has_node self.nodes.live k → IsLive c k
  is_live k there = sym (seen_has c.live parents children k) ∙ ap (λ (s : Forest V). map.contains_key s.nodes.live k) view ∙ there

  pub owner_there : (p : Key) → has_node self.nodes.live p → p.index < length children.lists
  owner_there p there = (has_place kept p (is_live p there)).owners

  pub place_there : (k : Key) → has_node self.nodes.live k → k.index < length parents
  place_there k there = (has_place kept k (is_live k there)).parents

  pub free_there : (k : Key) → has_node self.nodes.live k → ((p : Key) → times k (children_of self.nodes.live p) ≡ 0) → IsFree children k.index
  free_there k there alone = is_free kept k (is_live k there) (λ p. ap (λ (s : Forest V). times k (children_of s.nodes.live p)) view ∙ alone p)

  child_there : (p k : Key) → times k (children_of self.nodes.live p) ≡ 1 → IsLive c k × IsIn children p.index k.index
  child_there p k once = let is = child_in kept p k (let same = ap (λ (s : Forest V). times k (children_of s.nodes.live p)) view in omega arith) in (is.1, is.2)

  -- what is found beside a child by its index
  module _ (k : Key) (scene : IsScene self.nodes.live) (child : IsSome (parent_of self.nodes.live k)) where
    own : (p : Key) × (parent_of self.nodes.live k ≡ Some p)
    own = some_is (parent_of self.nodes.live k) child

    there : IsLive c k × IsIn children own.0.index k.index
    there = child_there own.0 k (listed_once self.nodes.live scene.listed own.0 k own.1)

    pub member_there : k.index < children.members
    member_there = (has_place kept k there.0).members

    pub beside : (f : ℕ → List ℕ → Option ℕ) (g : Key → List Key → Option Key)
        → (IsLive c k → (is : List ℕ) → AreIndices c is → g k (keys_at c.live is) ≡ option_map (key_at c.live) (f k.index is))
        → ((i : ℕ) (is : List ℕ) → f k.index is ≡ Some i → 0 < often i is) → (number : Option ℕ)
        → ((p : ℕ) → IsIn children p k.index → number ≡ f k.index (list_of children p))
        → IfSome number (HasKey c) × (option_map (key_at c.live) number ≡ g k (siblings_of self.nodes.live k))
    beside f g alike inside number found =
        let is = list_of children own.0.index in
        let at = found own.0.index there.1 in
        let parent = is_live own.0 (parent_there self.nodes.live scene.tree k own.0 own.1) in (
          has_if kept (indices_at kept own.0.index) number (λ i at_i. inside i is (sym at ∙ at_i)),
          ap (option_map (key_at c.live)) at ∙ sym (alike there.0 is (indices_at kept own.0.index))
              ∙ ap (g k) (sym (children_live c.live parents children own.0 parent) ∙ ap (λ (s : Forest V). children_of s.nodes.live own.0) view)
              ∙ ap (λ o. g k (children_under self.nodes.live o)) (sym own.1),
        )

  pub sibling_there : (p : Key) (sibling : Option Key) → IfSome sibling (λ s. times s (children_of self.nodes.live p) ≡ 1)
      → IfSome sibling (λ s. IsLive c s × IsIn children p.index s.index)
  sibling_there p sibling once = IfSome_then sibling once (child_there p)

  -- the children of p are others
  abbrev Relists : Key → Lists → (List Key → List Key) → Type 0
  Relists p new f = HoldsNodes c parents new × (forest c parents new capacity ≡ with_trees self (with_children_of self.nodes.live (Some p) f))

  relists : (p : Key) → IsLive c p → (is : List ℕ) → ((i : ℕ) → 0 < often i is → HasKey c i) → (f : List Key → List Key)
      → keys_at c.live is ≡ f (keys_at c.live (list_of children p.index))
      → (new : Lists) → new ≡ with_list children p.index is → AreDisjoint new → Relists p new f
  relists p live is have f made new new_is disjoint =
      let now = ap (λ n. record (family c parents children) { live = n }) (relisted_seen kept p live is (record { have = have }) f made new new_is)
      ∙ ap (λ (s : Forest V). record s.nodes { live = with_children_of s.nodes.live (Some p) f }) view in
      (relisted kept p live is (record { have = have }) f made new new_is disjoint, lifted parents new now (ap (λ (l : Lists). l.capacity) new_is))

  module _ (p k : Key) (there : has_node self.nodes.live p) (node : has_node self.nodes.live k) (new : Lists) where
    abbrev was_list : List ℕ
    was_list = list_of children p.index

    had : AreIndices c was_list
    had = indices_at kept p.index

    came : (i : ℕ) → 0 < often i was_list + same_number k.index i → HasKey c i
    came i more = elim (same_or_other_number k.index i) [
      | inl at ↦ (k, is_live k node, at)
      | inr apart ↦ had.have i (let none = number_other k.index i apart in omega arith)
    ]

    pub puts : (side : Side) (sibling : Option Key) → IfSome sibling (λ s. times s (children_of self.nodes.live p) ≡ 1)
        → new ≡ with_list children p.index (number_in_place side sibling k.index was_list) → AreDisjoint new → Relists p new (put_in_place side sibling k)
    puts side sibling once = relists p (is_live p there) (number_in_place side sibling k.index was_list)
        (λ i more. came i (omega (arith, few_more k.index i side sibling was_list)))
        (put_in_place side sibling k) (key_put kept.indices side sibling k (is_live k node) was_list had (sibling_there p sibling once)) new

  -- k leaves the children of its parent, whose index was read, if it has one
  module _ (k : Key) (node : has_node self.nodes.live k) (parent : ℕ) (read : parent ≡ parent_at parents k.index) where
    pub up_none : parent ≡ 0 → parent_of self.nodes.live k ≡ None
    up_none none = ap (λ (s : Forest V). parent_of s.nodes.live k) (sym view) ∙ above_none kept k (is_live k node) (sym read ∙ none)

    pub left_none : parent ≡ 0 → self ≡ with_trees self (without_child self.nodes.live (parent_of self.nodes.live k) k)
    left_none none = ap (λ o. with_trees self (without_child self.nodes.live o k)) (sym (up_none none))

    module _ (some : parent ≢ 0) where
      up : (p : Key) × IsLive c p × (p.index ≡ parent) × (parent_of self.nodes.live k ≡ Some p)
      up =
          let above_k = above_has kept k (is_live k node) (λ none. some (read ∙ none)) in
          (above_k.0, above_k.1, above_k.2 ∙ sym read, ap (λ (s : Forest V). parent_of s.nodes.live k) (sym view) ∙ above_k.3)

      pub up_has : HasKey c parent
      up_has = (up.0, up.1, up.2)

      pub up_is : (p : Key) → IsLive c p → p.index ≡ parent → parent_of self.nodes.live k ≡ Some p
      up_is p live at = up.3 ∙ ap Some (kept.indices.apart up.0 p up.1 live (up.2 ∙ sym at))

      pub left_below : parent < length children.lists
      left_below = subst (λ p. p < length children.lists) up.2 (has_place kept up.0 up.1).owners

      pub left_listed : ((p : Key) → parent_of self.nodes.live k ≡ Some p → times k (children_of self.nodes.live p) ≡ 1) → IsIn children parent k.index
      left_listed once = subst (λ p. IsIn children p k.index) up.2 (child_there up.0 k (once up.0 up.3)).1

      pub left : (new : Lists) → new ≡ with_list children parent (without_number k.index (list_of children parent)) → AreDisjoint new
          → HoldsNodes c parents new × (forest c parents new capacity ≡ with_trees self (without_child self.nodes.live (parent_of self.nodes.live k) k))
      left new new_is disjoint =
          let p = up.0 in
          let left_p = relists p up.1 (without_number k.index (list_of children p.index))
          (λ i more. elim (same_or_other_number i k.index) [
            | inl at ↦ absurd (let none = ap (λ j. often j (without_number k.index (list_of children p.index))) at
                ∙ often_gone k.index (list_of children p.index) in omega arith)
            | inr apart ↦ (indices_at kept p.index).have i (let same = often_without k.index i (list_of children p.index) apart in omega arith)
          ])
          (without k) (keys_without kept.indices kept.indices k (is_live k node) (λ q live _. live) (list_of children p.index) (indices_at kept p.index))
          new (subst (λ p. new ≡ with_list children p (without_number k.index (list_of children p))) (sym up.2) new_is) disjoint in
          (left_p.0, left_p.1 ∙ ap (λ o. with_trees self (without_child self.nodes.live o k)) (sym up.3))

  -- k gets this parent
  pub parent_alive : (o : Option Key) → IsParent self.nodes.live o → IfSome o (IsLive c)
  parent_alive o is = IfSome_then o is is_live

  pub hangs : (k : Key) → has_node self.nodes.live k → (o : Option Key) → IsParent self.nodes.live o → (new : List ℕ)
      → new ≡ set parents k.index (parent_index o)
      → HoldsNodes c new children × (forest c new children capacity ≡ with_trees self (with_parent self.nodes.live k o))
  hangs k node o is_parent new new_is = (
    hung kept k o (parent_alive o is_parent) (is_live k node) new new_is,
    lifted new children (ap (λ n. record (family c parents children) { live = n }) (hung_seen kept k o (parent_alive o is_parent) (is_live k node) new new_is)
        ∙ ap (λ (s : Forest V). record s.nodes { live = with_parent s.nodes.live k o }) view) refl,
  )
