-- The parent and the children of each node, and what a scene is once a node became a root, was moved below another one, or came.
use Rattle.std.proofs.Common.{◌++◌, ◌+◌, ◌<◌, ◌∷◌, ◌≡◌, ◌≢◌, ◌≤◌}
use Rattle.slotmap_scene.proofs.Common.{After, AreListed, Before, ClonesEqual, Content, Err, IfOk, Inserts, IsCloneBy, IsCloneOf, IsMoved, IsNewChild}
use Rattle.slotmap_scene.proofs.Common.{IsNodeClone, IsParent, IsScene, IsWithin, Keeps, KeepsSpent, Key, Leaves, List, Node, Nodes, None, Ok, OnErr}
use Rattle.slotmap_scene.proofs.Common.{Option, Result, Side, Some, [], ap, arith, as_placed, beside_first, changed, changed_gives, changed_here}
use Rattle.slotmap_scene.proofs.Common.{changed_in, changed_keeps, changed_other, child, children_in, children_of, clone_live, cond, exact_keys}
use Rattle.slotmap_scene.proofs.Common.{false, forgets, get-insert_here, get-insert_other, has_node, inl, inr, is_key, is_parent, is_some, key_cmp}
use Rattle.slotmap_scene.proofs.Common.{keys_total, lacks_node, leaves_by_write, leaves_none, len_alike, none_of, one_itself, one_other, option_map}
use Rattle.slotmap_scene.proofs.Common.{parent_in, parent_of, placed, put_in_place, refl, same, same_or_other, shown_spent, subst, sym, times}
use Rattle.slotmap_scene.proofs.Common.{times_first, times_gone, Forest, bound, memory, space, times_pushed, times_without, true, value_of}
use Rattle.slotmap_scene.proofs.Common.{with_children_of, with_parent, with_trees, with_value, without, without_child, without_none, ◌∙◌}
use Rattle.slotmap_scene.proofs.Climbs.{alone_within, parent_there, tree_moved, tree_same}
use Rattle.std.specs.FinMap as map

-- who is a parent of whom
is_its_parent : (o : Option Key) (p : Key) → o ≡ Some p → is_parent o p ≡ 1
is_its_parent o p is = ap (λ q. is_parent q p) is ∙ one_itself p

is_no_parent : (o : Option Key) (p : Key) → o ≢ Some p → is_parent o p ≡ 0
is_no_parent None p other = refl
is_no_parent (Some q) p other = one_other q p (λ same. other (ap Some same))

by_parent : (o : Option Key) (p : Key) (P : Type 0) → (o ≡ Some p → P) → (o ≢ Some p → P) → P
by_parent None p P here other = other (λ e. absurd (cc))
by_parent (Some q) p P here other = elim (same_or_other q p) [ inl same ↦ here (ap Some same) | inr apart ↦ other (λ e. apart (cc)) ]

module _ {T : Type 0} where
  module _ (nodes : Nodes T) (listed : AreListed nodes) where
    pub listed_once : (p k : Key) → parent_of nodes k ≡ Some p → times k (children_of nodes p) ≡ 1
    listed_once p k is = listed p k ∙ is_its_parent (parent_of nodes k) p is

    pub listed_never : (p k : Key) → parent_of nodes k ≢ Some p → times k (children_of nodes p) ≡ 0
    listed_never p k other = listed p k ∙ is_no_parent (parent_of nodes k) p other

    pub listed_few : (p k : Key) → times k (children_of nodes p) ≤ 1
    listed_few p k = by_parent (parent_of nodes k) p (times k (children_of nodes p) ≤ 1)
        (λ is. let one = listed_once p k is in omega arith) (λ other. let none = listed_never p k other in omega arith)

    pub listed_parent : (p k : Key) → 0 < times k (children_of nodes p) → parent_of nodes k ≡ Some p
    listed_parent p k more = by_parent (parent_of nodes k) p (parent_of nodes k ≡ Some p) (λ is. is) (λ other. absurd (let none = listed_never p k other in omega arith))

  -- the same trees, of other values
  scene_alike : (old new : Nodes T) → ((q : Key) → map.contains_key new q ≡ map.contains_key old q) → ((q : Key) → parent_of new q ≡ parent_of old q)
      → ((q : Key) → children_of new q ≡ children_of old q)
      → IsScene old → IsScene new
  scene_alike old new keys parents children scene =
      record { tree = tree_same old new keys parents scene.tree; listed = λ p k. ap (times k) (children p) ∙ scene.listed p k ∙ ap (λ o. is_parent o p) (sym (parents k)) }

  pub scene_with_value : (nodes : Nodes T) (k : Key) (v : T) → IsScene nodes → IsScene (with_value nodes k v)
  scene_with_value nodes k v = scene_alike nodes (with_value nodes k v)
      (changed_keeps nodes k (λ n. record n { value = v }) is_some (λ n. refl))
      (changed_keeps nodes k (λ n. record n { value = v }) parent_in (λ n. refl))
      (changed_keeps nodes k (λ n. record n { value = v }) children_in (λ n. refl))

  -- a node was moved or added: it now stands among the children of its parent
  module _ (old new : Nodes T) (scene : IsScene old) (k : Key) (parent : Option Key) (put : List Key → List Key) (moved : IsMoved old new k parent put)
      (more : (x : Key) (ks : List Key) → times x (put ks) ≡ times x ks + same k x) where
    listed_itself : (p : Key) → times k (children_of new p) ≡ is_parent parent p
    listed_itself p = grind (arith, by_parent, times_gone k (children_of old p), one_itself k, is_its_parent, is_no_parent)

    listed_still : (p x : Key) → x ≢ k → times x (children_of new p) ≡ times x (children_of old p)
    listed_still p x apart = by_parent parent p (times x (children_of new p) ≡ times x (children_of old p))
        (λ is. (let sum = ap (times x) (moved.children_are p is) ∙ more x (without k (children_of old p)) in
        let kept = times_without k x (children_of old p) apart in let none = one_other k x (λ s. apart (sym s)) in omega arith))
        (λ other. ap (times x) (moved.other_children p other) ∙ times_without k x (children_of old p) apart)

    pub moved_listed : AreListed new
    moved_listed p x = elim (same_or_other x k) [
      | inl is ↦ rw is (listed_itself p ∙ ap (λ o. is_parent o p) (sym moved.parent_is))
      | inr other ↦ listed_still p x other ∙ scene.listed p x ∙ ap (λ o. is_parent o p) (sym (moved.parents x other))
    ]

    scene_moved : ((q : Key) → q ≢ k → map.contains_key new q ≡ map.contains_key old q) → has_node new k
        → ((p : Key) → parent ≡ Some p → has_node old p × (IsWithin old p k → ⊥)) → IsScene new
    scene_moved keys live above = record { tree = tree_moved old new k keys moved.parents parent live moved.parent_is above scene.tree; listed = moved_listed }

-- a copy has the same trees
module _ {T : Type 0} (is_clone : T → T → Type 0) where
  pub nodes_equal : ClonesEqual is_clone → ClonesEqual (IsNodeClone is_clone)
  nodes_equal same x y is = λ i. record { value = same x.value y.value is.0 i; parent = is.1 i; children = is.2 i }

  pub scene_copied : (nodes copy : Content (Node T)) → IsCloneBy (IsNodeClone is_clone) nodes copy → IsScene nodes.live → IsScene copy.live
  scene_copied nodes copy clones = scene_alike nodes.live copy.live (clone_live (IsNodeClone is_clone) nodes copy clones)
      (λ k. (linked (map.get nodes.live k) (map.get copy.live k) (clones.live k)).0) (λ k. (linked (map.get nodes.live k) (map.get copy.live k) (clones.live k)).1)
    where
      linked : (o p : Option (Node T)) → IsCloneOf (IsNodeClone is_clone) o p → (parent_in p ≡ parent_in o) × (children_in p ≡ children_in o)
      linked None p is = (ap parent_in is, ap children_in is)
      linked (Some n) None is = absurd is
      linked (Some n) (Some m) is = (is.1, is.2)

pub leaves_filled : {T : Type 0} (c : Content (Node T)) (o : Option Key) (f : List Key → List Key) → Leaves c (record c { live = with_children_of c.live o f })
leaves_filled c None f = leaves_none c
leaves_filled {T} c (Some p) f = by (map.get c.live p) refl
  where
    by : (o : Option (Node T)) → map.get c.live p ≡ o → Leaves c (record c { live = changed_in c.live p o (λ n. record n { children = f n.children }) })
    by None is = leaves_none c
    by (Some n) is = leaves_by_write c p (record n { children = f n.children }) (ap is_some is)

-- a scene with the same vectors, and its nodes
pub nodes_alike : {T : Type 0} {s t : Forest T} → s ≡ t → s.nodes ≡ t.nodes
nodes_alike is = ap (λ s. s.nodes) is

-- and they take as much space
filled_space : {T : Type 0} (c : Content (Node T)) (o : Option Key) (f : List Key → List Key) → space (record c { live = with_children_of c.live o f }) ≡ space c
filled_space c o f = let same : bound (record c { live = with_children_of c.live o f }) ≡ bound c = omega (arith, (leaves_filled c o f).same_places) in λ i. (same i, c.capacity)

pub filled_memory : {T : Type 0} (s : Forest T) (o : Option Key) (f : List Key → List Key) → memory (with_trees s (with_children_of s.nodes.live o f)) ≡ memory s
filled_memory s o f = λ i. (filled_space s.nodes o f i, s.links)

-- the same keys are there, with other values
pub spent_alike : {V : Type 0} (c : Content V) (m : map.FinMap key_cmp V) → ((q : Key) → map.contains_key m q ≡ map.contains_key c.live q) → KeepsSpent c (record c { live = m })
spent_alike c m same = shown_spent c m same (len_alike m c.live same)

pub placed_memory : {T : Type 0} (s : Forest T) (m : Nodes T) → ((q : Key) → map.contains_key m q ≡ map.contains_key s.nodes.live q)
    → memory (with_trees s m) ≡ memory s
placed_memory s m same =
    let alike = len_alike m s.nodes.live same in
    let as_much : bound (record s.nodes { live = m }) ≡ bound s.nodes = omega arith in
    λ i. ((as_much i, s.nodes.capacity), s.links)

module _ {T : Type 0} where
  -- the children of a node, if there is one, are written
  module _ (nodes : Nodes T) (f : List Key → List Key) where
    abbrev fill : Node T → Node T
    fill n = record n { children = f n.children }

    filled_keeps : {X : Type 0} (P : Option (Node T) → X) → ((n : Node T) → P (Some (fill n)) ≡ P (Some n)) → (o : Option Key) (q : Key)
        → P (map.get (with_children_of nodes o f) q) ≡ P (map.get nodes q)
    filled_keeps P keeps None q = refl
    filled_keeps P keeps (Some p) q = changed_keeps nodes p fill P keeps q

    filled_other : (o : Option Key) (q : Key) → o ≢ Some q → map.get (with_children_of nodes o f) q ≡ map.get nodes q
    filled_other None q other = refl
    filled_other (Some p) q other = changed_other nodes p fill q (λ same. other (ap Some (sym same)))

    filled_gives : (o : Option Key) (p : Key) → o ≡ Some p → has_node nodes p → children_of (with_children_of nodes o f) p ≡ f (children_of nodes p)
    filled_gives o p is there = ap (λ o. children_of (with_children_of nodes o f) p) is ∙ changed_gives nodes p fill children_in f (λ n. refl) there

  -- a node that has lost a child, and one that never had it
  pub forgot : {X : Type 0} (k : Key) (P : Option (Node T) → X) (f : X → X) → P None ≡ f (P None) → ((n : Node T) → P (Some (forgets k n)) ≡ f (P (Some n))) → (o : Option (Node T))
      → P (option_map (forgets k) o) ≡ f (P o)
  forgot k P f none some None = none
  forgot k P f none some (Some n) = some n

  pub forgotten : (k : Key) (o : Option (Node T)) → times k (children_in o) ≡ 0 → option_map (forgets k) o ≡ o
  forgotten k None none = refl
  forgotten k (Some n) none = ap (λ l. Some (record n { children = l })) (without_none k n.children none)

  named_there : (nodes : Nodes T) (o : Option Key) → IsParent nodes o → (p : Key) → o ≡ Some p → has_node nodes p
  named_there nodes o there p is = subst (IsParent nodes) is there

  -- a node leaves the children of its parent
  module _ {nodes : Nodes T} (scene : IsScene nodes) (k : Key) where
    abbrev left : Nodes T
    left = without_child nodes (parent_of nodes k) k

    pub left_get : (q : Key) → map.get left q ≡ option_map (forgets k) (map.get nodes q)
    left_get q = grind (arith, by_parent, option_map (forgets k) (map.get nodes q), changed_here nodes q (forgets k), filled_other, forgotten, listed_never)

    pub left_of : {X : Type 0} (P : Option (Node T) → X) (f : X → X) → P None ≡ f (P None) → ((n : Node T) → P (Some (forgets k n)) ≡ f (P (Some n))) → (q : Key)
        → P (map.get left q) ≡ f (P (map.get nodes q))
    left_of P f none some q = ap P (left_get q) ∙ forgot k P f none some (map.get nodes q)

    -- and has this parent
    module _ (o : Option Key) where
      abbrev hang : Node T → Node T
      hang n = record n { parent = o }

      abbrev hung : Nodes T
      hung = with_parent left k o

      hung_children : (q : Key) → children_of hung q ≡ without k (children_of nodes q)
      hung_children q = changed_keeps left k hang children_in (λ n. refl) q ∙ left_of children_in (without k) refl (λ n. refl) q

      pub hung_keys : (q : Key) → map.contains_key hung q ≡ map.contains_key nodes q
      hung_keys q = changed_keeps left k hang is_some (λ n. refl) q ∙ left_of is_some (λ b. b) refl (λ n. refl) q

      pub hung_alone : (q : Key) → times k (children_of hung q) ≡ 0
      hung_alone q = ap (times k) (hung_children q) ∙ times_gone k (children_of nodes q)

      -- a sibling of another one is still there once
      pub hung_sibling : (p s : Key) → (parent_of nodes s ≡ Some p) × (k ≢ s) → times s (children_of hung p) ≡ 1
      hung_sibling p s is = ap (times s) (hung_children p) ∙ times_without k s (children_of nodes p) (λ at. is.1 (sym at)) ∙ listed_once nodes scene.listed p s is.0

      -- and is put among the children of that one
      module _ (put : List Key → List Key) where
        placed_keeps : {X : Type 0} (P : Option (Node T) → X) → ((n : Node T) (ks : List Key) → P (Some (record n { children = ks })) ≡ P (Some n)) → (q : Key)
            → P (map.get (as_placed nodes k o put) q) ≡ P (map.get hung q)
        placed_keeps P keeps = filled_keeps hung put P (λ n. keeps n (put n.children)) o

        pub values_placed : (q : Key) → value_of (as_placed nodes k o put) q ≡ value_of nodes q
        values_placed q = placed_keeps (option_map (λ n. n.value)) (λ n ks. refl) q ∙ changed_keeps left k hang (option_map (λ n. n.value)) (λ n. refl) q
            ∙ left_of (option_map (λ n. n.value)) (λ x. x) refl (λ n. refl) q

        pub keys_placed : (q : Key) → map.contains_key (as_placed nodes k o put) q ≡ map.contains_key nodes q
        keys_placed q = placed_keeps is_some (λ n ks. refl) q ∙ hung_keys q

        module _ (live : has_node nodes k) (there : IsParent nodes o) where
          pub moved_placed : IsMoved nodes (as_placed nodes k o put) k o put
          moved_placed = record {
            parent_is = placed_keeps parent_in (λ n ks. refl) k ∙ changed_gives left k hang parent_in (λ _. o) (λ n. refl) (left_of is_some (λ b. b) refl (λ n. refl) k ∙ live);
            parents = λ q other. placed_keeps parent_in (λ n ks. refl) q ∙ ap parent_in (changed_other left k hang q other) ∙ left_of parent_in (λ x. x) refl (λ n. refl) q;
            children_are = λ p is. filled_gives hung put o p is (hung_keys p ∙ named_there nodes o there p is) ∙ ap put (hung_children p);
            other_children = λ q other. ap children_in (filled_other hung put o q other) ∙ hung_children q;
          }

          pub scene_placed : ((x : Key) (ks : List Key) → times x (put ks) ≡ times x ks + same k x) → ((p : Key) → o ≡ Some p → IsWithin nodes p k → ⊥)
              → IsScene (as_placed nodes k o put)
          scene_placed more out = scene_moved nodes (as_placed nodes k o put) scene k o put moved_placed more
              (λ q other. keys_placed q) (keys_placed k ∙ live) (λ p is. (named_there nodes o there p is, out p is))

  -- a key that no node has
  module _ (nodes : Nodes T) (scene : IsScene nodes) (k : Key) (fresh : lacks_node nodes k) where
    absent : map.get nodes k ≡ None
    absent = none_of (map.get nodes k) fresh

    never : (q : Key) → times k (children_of nodes q) ≡ 0
    never q = listed_never nodes scene.listed q k (λ is. (let h = sym (ap parent_in absent) ∙ is in cc))

    pub moved_nowhere : (put : List Key → List Key) → IsMoved nodes nodes k None put
    moved_nowhere put = grind (arith, without_none, never)

    pub gone_forgotten : (q : Key) → map.get nodes q ≡ option_map (forgets k) (map.get nodes q)
    gone_forgotten q = sym (forgotten k (map.get nodes q) (never q))

    pub gone_within : (q : Key) → IsWithin nodes q k → lacks_node nodes q
    gone_within q w = rw (alone_within nodes k (λ q is. (let live = parent_there nodes scene.tree q k is in cc)) w.0 q w.1) fresh

    -- a node comes under it, and is put among the children of its parent
    module _ (parent : Option Key) (there : IsParent nodes parent) (v : T) (put : List Key → List Key) where
      abbrev filled : Nodes T
      filled = with_children_of nodes parent put

      abbrev with_node : Nodes T
      with_node = map.insert filled k (child parent v)

      not_parent : (p : Key) → parent ≡ Some p → p ≢ k
      not_parent p is same = let live = subst (has_node nodes) same (named_there nodes parent there p is) in cc

      came_elsewhere : (q : Key) → q ≢ k → map.get with_node q ≡ map.get filled q
      came_elsewhere q other = get-insert_other filled k (child parent v) q other

      came_moved : IsMoved nodes with_node k parent put
      came_moved = record {
        parent_is = ap parent_in (get-insert_here filled k (child parent v));
        parents = λ q other. ap parent_in (came_elsewhere q other) ∙ filled_keeps nodes put parent_in (λ n. refl) parent q;
        children_are = λ p is. ap children_in (came_elsewhere p (not_parent p is)) ∙ filled_gives nodes put parent p is (named_there nodes parent there p is)
            ∙ ap put (sym (without_none k (children_of nodes p) (never p)));
        other_children = λ q apart. elim (same_or_other q k) [
          | inl is ↦ rw is (ap children_in (get-insert_here filled k (child parent v)) ∙ sym (ap (λ o. without k (children_in o)) absent))
          | inr other ↦ ap children_in (came_elsewhere q other ∙ filled_other nodes put parent q apart) ∙ sym (without_none k (children_of nodes q) (never q))
        ];
      }

      came_scene : ((x : Key) (ks : List Key) → times x (put ks) ≡ times x ks + same k x) → IsScene with_node
      came_scene more = scene_moved nodes with_node scene k parent put came_moved more
          (λ q other. ap is_some (came_elsewhere q other) ∙ filled_keeps nodes put is_some (λ n. refl) parent q)
          (ap is_some (get-insert_here filled k (child parent v))) (λ p is. (
          let live = named_there nodes parent there p is in (live, λ w. (let gone = gone_within p w in cc))))

      came_child : (p : Key) → parent ≡ Some p → IsNewChild nodes with_node k p v (put (children_of nodes p))
      came_child p is = record {
        node = get-insert_here filled k (child parent v) ∙ ap (λ o. Some (child o v)) is;
        children_are = came_moved.children_are p is ∙ ap put (without_none k (children_of nodes p) (never p));
        value = ap (option_map (λ n. n.value)) (came_elsewhere p (not_parent p is)) ∙ filled_keeps nodes put (option_map (λ n. n.value)) (λ n. refl) parent p;
        parent = came_moved.parents p (not_parent p is);
        others = λ q other apart. came_elsewhere q other ∙ filled_other nodes put parent q (λ at. apart (let same = sym is ∙ at in cc));
      }

-- what is inserted before another value is changed, or after it
changed_later : {T : Type 0} (m : Nodes T) (k p : Key) (v : Node T) (f : Node T → Node T) → p ≢ k → changed (map.insert m k v) p f ≡ map.insert (changed m p f) k v
changed_later m k p v f apart = map.same_map keys_total exact_keys _ _ (λ q. elim (same_or_other q k) [
  | inl is ↦ rw is (changed_other (map.insert m k v) p f k (λ s. apart (sym s)) ∙ get-insert_here m k v ∙ sym (get-insert_here (changed m p f) k v))
  | inr other ↦ elim (same_or_other q p) [
    | inl at ↦ rw at (changed_here (map.insert m k v) p f ∙ ap (option_map f) (get-insert_other m k v p apart) ∙ sym (get-insert_other (changed m p f) k v p apart ∙ changed_here m p f))
    | inr elsewhere ↦ changed_other (map.insert m k v) p f q elsewhere ∙ get-insert_other m k v q other ∙ sym (get-insert_other (changed m p f) k v q other ∙ changed_other m p f q elsewhere)
  ]
])

-- by the clauses of a call that adds a root, whatever it returns
pub root_added : {T E : Type 0} (old new : Content (Node T)) → IsScene old.live → (v : T) (result : Result Key E) → IfOk result (λ k. Inserts old k (child None v) new)
    → IfOk result (λ k. lacks_node old.live k)
    → OnErr result (Keeps old new) → IsScene new.live
root_added old new scene v (Ok k) inserts fresh keeps =
    subst IsScene (sym inserts.live) (came_scene old.live scene k fresh None tt v (λ ks. ks ++ k ∷ []) (λ x ks. times_pushed x ks k))
root_added old new scene v (Err e) inserts fresh keeps = subst IsScene (sym keeps.live) scene

-- a node came that has a parent
module _ {T : Type 0} {old mid : Content (Node T)} {k p : Key} {v : T} (scene : IsScene old.live) (fresh : lacks_node old.live k) (there : has_node old.live p)
    (came : Inserts old k (child (Some p) v) mid) where
  parent_apart : p ≢ k
  parent_apart same = let live = subst (has_node old.live) same there in cc

  came_get : (q : Key) → q ≢ k → map.get mid.live q ≡ map.get old.live q
  came_get q other = ap (λ m. map.get m q) came.live ∙ get-insert_other old.live k (child (Some p) v) q other

  pub came_there : has_node mid.live p
  came_there = ap is_some (came_get p parent_apart) ∙ there

  pub came_alone : (q : Key) → times k (children_of mid.live q) ≡ 0
  came_alone q = elim (same_or_other q k) [
    | inl is ↦ rw is (ap (λ m. times k (children_of m k)) came.live ∙ ap (λ o. times k (children_in o)) (get-insert_here old.live k (child (Some p) v)))
    | inr other ↦ ap (λ o. times k (children_in o)) (came_get q other) ∙ never old.live scene k fresh q
  ]

  -- it has siblings, as before
  pub came_sibling : (s : Key) → parent_of old.live s ≡ Some p → times s (children_of mid.live p) ≡ 1
  came_sibling s own = ap (λ o. times s (children_in o)) (came_get p parent_apart) ∙ listed_once old.live scene.listed p s own

  -- and is put among the children of its parent
  module _ {new : Content (Node T)} (f : List Key → List Key) (put : new ≡ record mid { live = with_children_of mid.live (Some p) f }) where
    child_live : new.live ≡ map.insert (with_children_of old.live (Some p) f) k (child (Some p) v)
    child_live = ap (λ c. c.live) put ∙ ap (λ m. with_children_of m (Some p) f) came.live
        ∙ changed_later old.live k p (child (Some p) v) (λ n. record n { children = f n.children }) parent_apart

    pub child_inserts : Inserts (record old { live = with_children_of old.live (Some p) f }) k (child (Some p) v) new
    child_inserts = record {
      offered = came.offered;
      below_limit = (let below = came.below_limit in let same = len_alike (with_children_of old.live (Some p) f) old.live (filled_keeps old.live f is_some (λ n. refl) (Some p)) in
          omega arith);
      live = child_live;
      detached = ap (λ c. c.detached) put ∙ came.detached;
      retired = ap (λ c. c.retired) put ∙ came.retired;
      next = ap (λ c. c.next) put ∙ came.next;
      stack = ap (λ c. c.stack) put ∙ came.stack;
      room = (let room = came.room in let same = ap (λ c. c.room) put in omega arith);
    }

    pub child_gained : IsNewChild old.live new.live k p v (f (children_of old.live p))
    child_gained = subst (λ m. IsNewChild old.live m k p v (f (children_of old.live p))) (sym child_live)
        (came_child old.live scene k fresh (Some p) there v f p refl)

    pub child_scene : ((x : Key) (ks : List Key) → times x (f ks) ≡ times x ks + same k x) → IsScene new.live
    child_scene more = subst IsScene (sym child_live) (came_scene old.live scene k fresh (Some p) there v f more)

    pub child_spent : KeepsSpent old mid → KeepsSpent old new
    child_spent keeps k spent = rw put (spent_alike mid _ (filled_keeps mid.live f is_some (λ n. refl) (Some p)) k (keeps k spent))

-- a list to which k comes has it once more
module _ (k x : Key) where
  times_placed : (side : Side) (s : Key) (ks : List Key) → times x (placed side s k ks) ≡ times x ks + same k x
  times_placed side s [] = omega (arith, times_first x k [])
  times_placed side s (q ∷ qs) = elim (is_key q s) as (λ b. times x (cond b (beside_first side k q qs) (q ∷ placed side s k qs)) ≡ times x (q ∷ qs) + same k x) [
    | true ↦ at_once side
    | false ↦ omega (arith, times_first x q (placed side s k qs), times_first x q qs, times_placed side s qs)
  ]
    where
      at_once : (side : Side) → times x (beside_first side k q qs) ≡ times x (q ∷ qs) + same k x
      at_once Before = omega (arith, times_first x k (q ∷ qs))
      at_once After = omega (arith, times_first x q (k ∷ qs), times_first x k qs, times_first x q qs)

  pub times_put : (side : Side) (sibling : Option Key) (ks : List Key) → times x (put_in_place side sibling k ks) ≡ times x ks + same k x
  times_put side (Some s) ks = times_placed side s ks
  times_put Before None ks = times_pushed x ks k
  times_put After None ks = omega (arith, times_first x k ks)
