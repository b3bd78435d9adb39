-- What is seen of the values, the parents and the children of a scene together, and what a change of one of them shows.
use Rattle.std.proofs.Common.{◌<◌, ◌∷◌, ◌≡◌, ◌≢◌, ◌≤◌, ◌⊎◌}
use Rattle.slotmap_scene.specs.Kept.{nodes_by}
use Rattle.slotmap_scene.proofs.Common.{AreCovered, AreDisjoint, AreIndices, Bool, bound, Content, HasKey, HaveIndices, HoldsNodes, IfSome, IsFree}
use Rattle.slotmap_scene.proofs.Common.{IsIn, IsLive, Key, List, Lists, Node, Nodes, None, Option, Some, [], ap, arith, by_live, changed, changed_here}
use Rattle.slotmap_scene.proofs.Common.{changed_other, children_in, children_of, common_steps, cond, entries-made, eq-zero-or-pos, exact_keys, false}
use Rattle.slotmap_scene.proofs.Common.{filter, first_key, first_or, found_at, found_has, found_live, found_same, found_zero, get-made}
use Rattle.slotmap_scene.proofs.Common.{get_or-set_other, get_or-set_same, indices_still, inl, inr, is_some, key_and_value, key_at, key_cmp, key_live}
use Rattle.slotmap_scene.proofs.Common.{keys_at, keys_same, keys_total, last_key, last_number, last_or, length, length-map, length-set, list_map}
use Rattle.slotmap_scene.proofs.Common.{list_now, list_of, list_other, made, map-map, nat_eq, nat_tests, no_key, node_at, not, number_itself, often}
use Rattle.slotmap_scene.proofs.Common.{often_first, one_itself, option_map, owner_of, owners_stay, parent_at, parent_in, parent_index, parent_of}
use Rattle.slotmap_scene.proofs.Common.{refl, roots_in, roots_of, same_or_other, same_or_other_number, set, some-mapped, subst, sym, times}
use Rattle.slotmap_scene.proofs.Common.{times_first, times_key, true, value_of, with_children_of, with_list, with_parent, ℕ, ◌∙◌}
use Rattle.std.specs.FinMap as map

-- nodes that are the same but for one
pub changed_is : {V : Type 0} (m n : Nodes V) (k : Key) (f : Node V → Node V) → ((q : Key) → q ≢ k → map.get n q ≡ map.get m q)
    → map.get n k ≡ option_map f (map.get m k) → n ≡ changed m k f
changed_is m n k f others here = map.same_map keys_total exact_keys n (changed m k f) (λ q. elim (same_or_other q k) [
  | inl at ↦ rw at (here ∙ sym (changed_here m k f))
  | inr other ↦ others q other ∙ sym (changed_other m k f q other)
])

-- two tests of the keys in a list that come to the same
filter_same : (p q : Key → Bool) (ks : List Key) → ((k : Key) → 0 < times k ks → p k ≡ q k) → filter p ks ≡ filter q ks
filter_same p q [] same = refl
filter_same p q (k ∷ ks) same = grind (arith, same k (omega (arith, times_first k k ks, one_itself k)), filter_same p q ks (λ x more. same x (omega (arith, times_first x k ks))))

pub covers_less : (n m : ℕ) (ps : List ℕ) (ls : Lists) → AreCovered n ps ls → m ≤ n → AreCovered m ps ls
covers_less n m ps ls covered less = grind arith

-- the parent that is written, by its index
pub written_has : {V : Type 0} (c : Content V) (o : Option Key) → IfSome o (IsLive c) → (parent_index o ≡ 0) ⊎ HasKey c (parent_index o)
written_has c None is = inl refl
written_has c (Some p) is = inr (p, is, refl)

pub written_found : {V : Type 0} (c : Content V) → HaveIndices c → (o : Option Key) → IfSome o (IsLive c) → found_at c.live (parent_index o) ≡ o
written_found c indices None is = found_zero indices
written_found c indices (Some p) is = found_live indices p is

-- what is seen of each node
module _ {V : Type 0} (live : map.FinMap key_cmp V) (parents : List ℕ) (children : Lists) where
  abbrev seen : Nodes V
  seen = nodes_by live parents children

  seen_entries : map.entries seen ≡ list_map (made (node_at live parents children)) (map.entries live)
  unfolding nodes_by
  seen_entries = entries-made (node_at live parents children) live

  pub seen_get : (k : Key) → map.get seen k ≡ option_map (node_at live parents children k) (map.get live k)
  unfolding nodes_by
  seen_get = get-made (node_at live parents children) live

  pub seen_has : (k : Key) → map.contains_key seen k ≡ map.contains_key live k
  seen_has k = ap is_some (seen_get k) ∙ some-mapped (node_at live parents children k) (map.get live k)

  pub seen_len : map.len seen ≡ map.len live
  seen_len = map.len-entries seen ∙ ap length seen_entries ∙ length-map (map.entries live) (made (node_at live parents children)) ∙ sym (map.len-entries live)

  pub seen_keys : map.keys seen ≡ map.keys live
  seen_keys = ap (list_map (λ (e : Key × Node V). e.0)) seen_entries ∙ map-map (λ (e : Key × Node V). e.0) (made (node_at live parents children)) (map.entries live)

  pub seen_pairs : list_map key_and_value (map.entries seen) ≡ map.entries live
  seen_pairs = ap (list_map key_and_value) seen_entries ∙ by (map.entries live)
    where
      by : (es : List (Key × V)) → list_map key_and_value (list_map (made (node_at live parents children)) es) ≡ es
      by [] = refl
      by (e ∷ es) = ap (λ l. e ∷ l) (by es)

  -- what is known of a node is known of it where it is seen
  seen_part : {X : Type 0} (P : Option (Node V) → X) (k : Key) (of : Option V → X) → P None ≡ of None
      → ((v : V) → P (Some (node_at live parents children k v)) ≡ of (Some v)) → P (map.get seen k) ≡ of (map.get live k)
  seen_part P k of none some = ap P (seen_get k) ∙ by (map.get live k)
    where
      by : (o : Option V) → P (option_map (node_at live parents children k) o) ≡ of o
      by None = none
      by (Some v) = some v

  pub seen_value : (k : Key) → value_of seen k ≡ map.get live k
  seen_value k = seen_part (option_map (λ (n : Node V). n.value)) k (λ o. o) refl (λ v. refl)

  pub seen_parent : (k : Key) → parent_of seen k ≡ cond (map.contains_key live k) (found_at live (parent_at parents k.index)) None
  seen_parent k = seen_part parent_in k (λ o. cond (is_some o) (found_at live (parent_at parents k.index)) None) refl (λ v. refl)

  pub seen_children : (k : Key) → children_of seen k ≡ cond (map.contains_key live k) (keys_at live (list_of children k.index)) []
  seen_children k = seen_part children_in k (λ o. cond (is_some o) (keys_at live (list_of children k.index)) []) refl (λ v. refl)

  pub parent_live : (k : Key) → map.contains_key live k ≡ true → parent_of seen k ≡ found_at live (parent_at parents k.index)
  parent_live k there = seen_parent k ∙ ap (λ b. cond b (found_at live (parent_at parents k.index)) None) there

  pub parent_gone : (k : Key) → map.contains_key live k ≡ false → parent_of seen k ≡ None
  parent_gone k gone = seen_parent k ∙ ap (λ b. cond b (found_at live (parent_at parents k.index)) None) gone

  pub children_live : (k : Key) → map.contains_key live k ≡ true → children_of seen k ≡ keys_at live (list_of children k.index)
  children_live k there = seen_children k ∙ ap (λ b. cond b (keys_at live (list_of children k.index)) []) there

  pub children_gone : (k : Key) → map.contains_key live k ≡ false → children_of seen k ≡ []
  children_gone k gone = seen_children k ∙ ap (λ b. cond b (keys_at live (list_of children k.index)) []) gone

module _ {V : Type 0} {c : Content V} {parents : List ℕ} {children : Lists} (kept : HoldsNodes c parents children) where
  abbrev nodes : Nodes V
  nodes = nodes_by c.live parents children

  pub indices_at : (p : ℕ) → AreIndices c (list_of children p)
  indices_at p = record { have = λ i inside. (kept.listed p i inside).1 }

  pub has_place : (k : Key) → IsLive c k → AreCovered k.index parents children
  has_place k live = covers_less (bound c) k.index parents children kept.covered (kept.indices.within k live).1

  -- a list is empty where no key has the index
  pub list_none : (p : ℕ) → ((k : Key) → IsLive c k → k.index ≢ p) → list_of children p ≡ []
  list_none p none = by (list_of children p) refl
    where
      by : (is : List ℕ) → list_of children p ≡ is → is ≡ []
      by [] at = refl
      by (i ∷ is) at = absurd (
          let has = (kept.listed p i (let sum = ap (often i) at ∙ often_first i i is in let one = number_itself i in omega arith)).0 in
          none has.0 has.1 has.2)

  list_zero : list_of children 0 ≡ []
  list_zero = list_none 0 (λ k live at. (let low = (kept.indices.within k live).0 in omega arith))

  -- the list at the index of a node, or at 0
  pub owner_below : (k : Key) → owner_of nodes k < length children.lists
  owner_below k = grind (arith, by_live, seen_has c.live parents children k, has_place)

  pub children_owned : (k : Key) → children_of nodes k ≡ keys_at c.live (list_of children (owner_of nodes k))
  children_owned k = grind (arith, common_steps, by_live, children_live, seen_has, children_gone, list_zero, seen_has c.live parents children k)

  -- a child is a node, and is in the list of its parent
  pub child_in : (p k : Key) → 0 < times k (children_of nodes p) → IsLive c p × IsLive c k × IsIn children p.index k.index
  child_in p k more = by_live c.live p _
      (λ there. (
      let seen = ap (times k) (children_live c.live parents children p there) in
      by_live c.live k _ (λ live. (there, live, omega (arith, seen, times_key kept.indices (list_of children p.index) (indices_at p.index) k live)))
      (λ gone. absurd (omega (arith, seen, no_key kept.indices (list_of children p.index) (indices_at p.index) k gone)))))
      (λ gone. absurd (omega (arith, ap (times k) (children_gone c.live parents children p gone))))

  in_child : (p k : Key) → IsLive c p → IsLive c k → IsIn children p.index k.index → 0 < times k (children_of nodes p)
  in_child p k there live inside = grind (arith, children_live c.live parents children p there, times_key kept.indices (list_of children p.index) (indices_at p.index) k live, indices_at p.index)

  -- a node that is no child is free
  pub nowhere : (k : Key) → IsLive c k → ((p : Key) → times k (children_of nodes p) ≡ 0) → (p : ℕ) → often k.index (list_of children p) ≡ 0
  nowhere k live alone p = elim (eq-zero-or-pos (often k.index (list_of children p))) [
    | inl none ↦ none
    | inr more ↦ absurd (
        let has = (kept.listed p k.index more).0 in
        let none = alone has.0 in
        let some = in_child has.0 k has.1 live (subst (λ p. IsIn children p k.index) (sym has.2) more) in
        omega arith)
  ]

  pub is_free : (k : Key) → IsLive c k → ((p : Key) → times k (children_of nodes p) ≡ 0) → IsFree children k.index
  is_free k live alone = record { within = (has_place k live).members; nowhere = nowhere k live alone }

  -- the index of the parent, and the parent
  pub above_none : (k : Key) → IsLive c k → parent_at parents k.index ≡ 0 → parent_of nodes k ≡ None
  above_none k live none = parent_live c.live parents children k live ∙ ap (found_at c.live) none ∙ found_zero kept.indices

  pub above_has : (k : Key) → IsLive c k → parent_at parents k.index ≢ 0
      → (p : Key) × IsLive c p × (p.index ≡ parent_at parents k.index) × (parent_of nodes k ≡ Some p)
  above_has k live some = elim (kept.has_parent k live) [
    | inl none ↦ absurd (some none)
    | inr has ↦ (has.0, has.1, has.2, parent_live c.live parents children k live ∙ found_has kept.indices (parent_at parents k.index) has)
  ]

  -- the roots are those with no index of a parent
  root_seen : (k : Key) → IsLive c k → nat_eq (parent_at parents k.index) 0 ≡ not (is_some (parent_of nodes k))
  root_seen k live = elim (kept.has_parent k live) [
    | inl none ↦ ap (λ n. nat_eq n 0) none ∙ sym (ap (λ o. not (is_some o)) (above_none k live none))
    | inr has ↦ (let up = parent_live c.live parents children k live ∙ found_has kept.indices (parent_at parents k.index) has in
        grind (arith, nat_tests, ap (λ o. not (is_some o)) up, (kept.indices.within has.0 has.1).0, has.2))
  ]

  pub roots_seen : roots_of parents (map.keys nodes) ≡ roots_in nodes
  roots_seen = filter_same (λ k. nat_eq (parent_at parents k.index) 0) (λ k. not (is_some (parent_of nodes k))) (map.keys nodes)
      (λ k more. root_seen k (sym (seen_has c.live parents children k) ∙ key_live nodes k more))

  -- a number that is found in a list of children is the index of a node
  pub has_if : {is : List ℕ} → AreIndices c is → (o : Option ℕ) → ((i : ℕ) → o ≡ Some i → 0 < often i is) → IfSome o (HasKey c)
  has_if all None inside = tt
  has_if all (Some i) inside = all.have i (inside i refl)

  -- the two ends of the children of a node
  pub first_seen : (k : Key) → option_map (key_at c.live) (first_or (list_of children (owner_of nodes k)) None) ≡ first_or (children_of nodes k) None
  first_seen k = sym (ap (λ ks. first_or ks None) (children_owned k) ∙ first_key kept.indices (list_of children (owner_of nodes k)))

  pub last_seen : (k : Key) → option_map (key_at c.live) (last_number (list_of children (owner_of nodes k)) None) ≡ last_or (children_of nodes k) None
  last_seen k = sym (ap (λ ks. last_or ks None) (children_owned k) ∙ last_key kept.indices (list_of children (owner_of nodes k)) None)

  -- another content
  module _ (d : Content V) (also : HaveIndices d) (parents' : List ℕ) (children' : Lists) where
    -- a node has the same parent and the same children there, if they are there
    pub node_still : (q : Key) → IsLive c q → parent_at parents' q.index ≡ parent_at parents q.index
        → list_of children' q.index ≡ list_of children q.index
        → ((p : Key) → IsLive c p → p.index ≡ parent_at parents q.index → IsLive d p)
        → ((x : Key) → IsLive c x → IsIn children q.index x.index → IsLive d x)
        → (v : V) → node_at d.live parents' children' q v ≡ node_at c.live parents children q v
    node_still q live same_parent same_list parent_still children_still v =
        let parent : found_at d.live (parent_at parents' q.index) ≡ found_at c.live (parent_at parents q.index) = ap (found_at d.live) same_parent
        ∙ elim (kept.has_parent q live) [
          | inl none ↦ ap (found_at d.live) none ∙ found_zero also ∙ sym (ap (found_at c.live) none ∙ found_zero kept.indices)
          | inr has ↦ found_same kept.indices also (parent_at parents q.index) has (parent_still has.0 has.1 has.2)
        ] in
        let own : keys_at d.live (list_of children' q.index) ≡ keys_at c.live (list_of children q.index) =
        ap (keys_at d.live) same_list ∙ keys_same kept.indices also (list_of children q.index) (indices_at q.index) children_still in
        λ i. record { value = v; parent = parent i; children = own i }

    pub get_alike : (q : Key) → map.get d.live q ≡ map.get c.live q
        → (IsLive c q → (v : V) → node_at d.live parents' children' q v ≡ node_at c.live parents children q v)
        → map.get (nodes_by d.live parents' children') q ≡ map.get nodes q
    get_alike q same alike = seen_get d.live parents' children' q ∙ ap (option_map (node_at d.live parents' children' q)) same
        ∙ by (map.get c.live q) refl ∙ sym (seen_get c.live parents children q)
      where
        by : (o : Option V) → map.get c.live q ≡ o → option_map (node_at d.live parents' children' q) o ≡ option_map (node_at c.live parents children q) o
        by None is = refl
        by (Some v) is = ap Some (alike (ap is_some is) v)

    -- where all keys are still there
    module _ (still : (q : Key) → IsLive c q → IsLive d q) (same_lists : (p : ℕ) → list_of children' p ≡ list_of children p) where
      has_still : (i : ℕ) → HasKey c i → HasKey d i
      has_still i has = (has.0, still has.0 has.1, has.2)

      pub above_still : (i j : ℕ) → j ≡ i → (i ≡ 0) ⊎ HasKey c i → (j ≡ 0) ⊎ HasKey d j
      above_still i j same was = subst (λ n. (n ≡ 0) ⊎ HasKey d n) (sym same) (elim was [ inl none ↦ inl none | inr has ↦ inr (has_still i has) ])

      pub kept_still : AreCovered (bound d) parents' children' → AreDisjoint children'
          → ((q : Key) → IsLive d q → (parent_at parents' q.index ≡ 0) ⊎ HasKey d (parent_at parents' q.index)) → HoldsNodes d parents' children'
      kept_still covered disjoint parents_are = record {
        indices = also;
        covered = covered;
        disjoint = disjoint;
        listed = λ p i inside. (let was = kept.listed p i (let same = ap (often i) (same_lists p) in omega arith) in (has_still p was.0, has_still i was.1));
        has_parent = parents_are;
      }

  -- the same keys, parents and children in another content, with other values
  module _ (d : Content V) (same_keys : (q : Key) → map.contains_key d.live q ≡ map.contains_key c.live q) (more : bound c ≤ bound d)
      (parents' : List ℕ) (children' : Lists) (same_parents : (i : ℕ) → parent_at parents' i ≡ parent_at parents i)
      (same_lists : (p : ℕ) → list_of children' p ≡ list_of children p) where
    along_still : (q : Key) → IsLive c q → IsLive d q
    along_still q live = same_keys q ∙ live

    along_indices : HaveIndices d
    along_indices = indices_still kept.indices d (λ q live. sym (same_keys q) ∙ live) more

    pub kept_along : AreCovered (bound d) parents' children' → AreDisjoint children' → HoldsNodes d parents' children'
    kept_along covered disjoint = kept_still d along_indices parents' children' along_still same_lists covered disjoint
        (λ q live. above_still d along_indices parents' children' along_still same_lists (parent_at parents q.index) (parent_at parents' q.index) (same_parents q.index)
        (kept.has_parent q (sym (same_keys q) ∙ live)))

    pub node_along : (q : Key) → IsLive c q → (v : V) → node_at d.live parents' children' q v ≡ node_at c.live parents children q v
    node_along q live = node_still d along_indices parents' children' q live (same_parents q.index) (same_lists q.index) (λ p of_c _. along_still p of_c) (λ x of_c _. along_still x of_c)

    pub get_along : (q : Key) → IsLive c q → map.get (nodes_by d.live parents' children') q ≡ option_map (node_at c.live parents children q) (map.get d.live q)
    get_along q live = seen_get d.live parents' children' q ∙ ap (λ f. option_map f (map.get d.live q)) (λ i v. node_along q live v i)

    pub same_along : (q : Key) → map.get d.live q ≡ map.get c.live q → map.get (nodes_by d.live parents' children') q ≡ map.get nodes q
    same_along q same = get_alike d along_indices parents' children' q same (node_along q)

  -- the same values, with other parents or children, where only the node of k is another one
  relinked : (parents' : List ℕ) (children' : Lists) (k : Key) (f : Node V → Node V)
      → ((q : Key) → IsLive c q → q ≢ k → (v : V) → node_at c.live parents' children' q v ≡ node_at c.live parents children q v)
      → ((v : V) → node_at c.live parents' children' k v ≡ f (node_at c.live parents children k v)) → nodes_by c.live parents' children' ≡ changed nodes k f
  relinked parents' children' k f others here = changed_is nodes (nodes_by c.live parents' children') k f
      (λ q other. get_alike c kept.indices parents' children' q refl (λ live. others q live other))
      (seen_get c.live parents' children' k ∙ by (map.get c.live k) ∙ sym (ap (option_map f) (seen_get c.live parents children k)))
    where
      by : (o : Option V) → option_map (node_at c.live parents' children' k) o ≡ option_map f (option_map (node_at c.live parents children k) o)
      by None = refl
      by (Some v) = ap Some (here v)

  -- the list of p is another one
  module _ (p : Key) (there : IsLive c p) (is : List ℕ) (all : AreIndices c is) (f : List Key → List Key)
      (made : keys_at c.live is ≡ f (keys_at c.live (list_of children p.index)))
      (new : Lists) (new_is : new ≡ with_list children p.index is) where
    list_here : list_of new p.index ≡ is
    list_here = ap (λ l. list_of l p.index) new_is ∙ list_now children p.index is (has_place p there).owners

    list_there : (q : ℕ) → q ≢ p.index → list_of new q ≡ list_of children q
    list_there q other = ap (λ l. list_of l q) new_is ∙ list_other children p.index is q other

    pub relisted : AreDisjoint new → HoldsNodes c parents new
    relisted disjoint = record {
      indices = kept.indices;
      covered = grind (arith, kept.covered, new_is, owners_stay children p.index is);
      disjoint = disjoint;
      listed = λ q i inside. elim (same_or_other_number q p.index) [
        | inl at ↦ ((p, there, sym at), all.have i (let now = ap (λ q. often i (list_of new q)) at ∙ ap (often i) list_here in omega arith))
        | inr other ↦ kept.listed q i (let same = ap (often i) (list_there q other) in omega arith)
      ];
      has_parent = kept.has_parent;
    }

    abbrev fill : Node V → Node V
    fill n = record n { children = f n.children }

    pub relisted_seen : nodes_by c.live parents new ≡ with_children_of nodes (Some p) f
    relisted_seen = relinked parents new p fill
        (λ q live other v i. record {
          value = v;
          parent = found_at c.live (parent_at parents q.index);
          children = keys_at c.live (list_there q.index (λ at. other (kept.indices.apart q p live there at)) i);
        })
        (λ v i. record { value = v; parent = found_at c.live (parent_at parents p.index); children = (ap (keys_at c.live) list_here ∙ made) i })

  -- another index is written as that of the parent of k
  module _ (k : Key) (o : Option Key) (is_parent : IfSome o (IsLive c)) where
    module _ (live : IsLive c k) (new : List ℕ) (new_is : new ≡ set parents k.index (parent_index o)) where
      above_here : parent_at new k.index ≡ parent_index o
      above_here = ap (λ l. parent_at l k.index) new_is ∙ get_or-set_same parents k.index (parent_index o) 0 (has_place k live).parents

      above_there : (q : Key) → IsLive c q → q ≢ k → parent_at new q.index ≡ parent_at parents q.index
      above_there q of_c other = grind (arith, get_or-set_other)

      pub hung : HoldsNodes c new children
      hung = record {
        indices = kept.indices;
        covered = grind (arith, kept.covered, new_is, length-set parents k.index (parent_index o));
        disjoint = kept.disjoint;
        listed = kept.listed;
        has_parent = λ q of_c. elim (same_or_other q k) [
          | inl at ↦ subst (λ i. (i ≡ 0) ⊎ HasKey c i) (sym (ap (λ (q : Key). parent_at new q.index) at ∙ above_here)) (written_has c o is_parent)
          | inr other ↦ subst (λ i. (i ≡ 0) ⊎ HasKey c i) (sym (above_there q of_c other)) (kept.has_parent q of_c)
        ];
      }

      abbrev hang : Node V → Node V
      hang n = record n { parent = o }

      pub hung_seen : nodes_by c.live new children ≡ with_parent nodes k o
      hung_seen = relinked new children k hang
          (λ q of_c other v i. record { value = v; parent = found_at c.live (above_there q of_c other i); children = keys_at c.live (list_of children q.index) })
          (λ v i. record { value = v; parent = (ap (found_at c.live) above_here ∙ written_found c kept.indices o is_parent) i; children = keys_at c.live (list_of children k.index) })
