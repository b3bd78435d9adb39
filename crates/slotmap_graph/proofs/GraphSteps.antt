-- What a call makes of a graph, as a whole.
use Rattle.slotmap_graph.proofs.Common.{is_some, indices_inserted, indices_still, same_or_other, get-insert_here, get-insert_other, get-put_other}
use Rattle.slotmap_graph.proofs.Common.{leaves_by_removal, inserted_fresh, live-insert_still, Option, MatchOption, option_map, with_value}
use Rattle.slotmap_graph.proofs.Common.{ClonesEqual, get-put_live, leaves_none, clone_live, times_first, one_itself, AreDisjoint, clones_edge}
use Rattle.slotmap_graph.proofs.Common.{HaveIndices, ◌∙◌, ℕ, bound, disjoint_still, used-written, with_capacity, IsContent, IsBeside}
use Rattle.slotmap_graph.proofs.Common.{IsCloneBy, IsCloneOf, is_itself, is_other, CoversMore, with_list, ListsEdges, PutsAlone, SameEdges}
use Rattle.slotmap_graph.proofs.Common.{PutsBehind, IsThreaded, OnSome, IfSome, IfNone, length, key_cmp, Content, IsLive, Inserts, Removes, Leaves}
use Rattle.slotmap_graph.proofs.Common.{list_of, IsFree, SeenEdge, IsJoined, edges_at, touches, IsGraph, by_node, Bool, true, false, Some, None, List}
use Rattle.slotmap_graph.proofs.Common.{[], refl, sym, ap, subst, inl, inr, arith, Key, Pairs, keys, times, Lists, often, Edges, from, to, Seen}
use Rattle.std.proofs.Common.{◌≡◌, ◌≢◌, ◌+◌, ◌<◌, ◌≤◌, ◌⊎◌, ◌∷◌, ◌++◌}
use Rattle.slotmap_graph.proofs.Adjacent.{gone_apart, listed_edge, none_listed, nothing_listed}
use Rattle.slotmap_graph.proofs.Threaded.{at_none, empty_at, lists, other_nodes, put_free, put_seen, put_threaded, same_seen, threaded_along}
use Rattle.std.specs.FinMap as map

pub puts_alone : {N V : Type 0} (nodes : Content N) (m : Pairs V) (k : Key) → IsBeside nodes m → IsLive nodes k → IsContent true nodes → PutsAlone m k
puts_alone nodes m k beside live well = record { here = get-put_live true nodes well m beside k live; others = get-put_other true nodes well m beside k live }

-- a removal, whatever it returns, lets no key come
pub node_leaves : {N : Type 0} (old new : Content N) (reuses : Bool) → IsContent reuses old → (k : Key) (answer : Option N) → answer ≡ map.get old.live k
    → OnSome answer (Removes old k new) → IfNone answer (new ≡ old) → Leaves old new
node_leaves old new reuses well k answer is removes unchanged = grind (arith, leaves_none old, leaves_by_removal reuses old well k)

module _ {E : Type 0} (edges : Edges E) (k : Key) where
  -- an edge of a list touches the node
  pub out_touches : (ks : List Key) → ListsEdges from edges k ks → (x : Key) → 0 < times x ks → (e : SeenEdge E) × (map.get edges x ≡ Some e) × (touches k e ≡ true)
  out_touches ks lists x more = let found = listed_edge from edges k ks lists x more in (found.0, found.1, grind (arith, found.2, is_itself k))

  into_touches : (ks : List Key) → ListsEdges to edges k ks → (x : Key) → 0 < times x ks → (e : SeenEdge E) × (map.get edges x ≡ Some e) × (touches k e ≡ true)
  into_touches ks lists x more = let found = listed_edge to edges k ks lists x more in (found.0, found.1, grind (arith, found.2, is_itself k))

  -- if both lists are empty, no edge does
  none_touches : (ks js : List Key) → ListsEdges from edges k ks → ks ≡ [] → ListsEdges to edges k js → js ≡ [] → (x : Key) (e : SeenEdge E)
      → map.get edges x ≡ Some e → touches k e ≡ false
  none_touches ks js out no_out into no_into x e there =
      grind (arith, is_other e.from k (none_listed from edges k ks out no_out x e there), is_other e.to k (none_listed to edges k js into no_into x e there))

-- the first key of a list is in it
pub first_there : (ks : List Key) (x : Key) (rest : List Key) → ks ≡ x ∷ rest → 0 < times x ks
first_there ks x rest is = omega (arith, ap (times x) is ∙ times_first x x rest, one_itself x)

-- by the clauses of a step of an iterator over a list, whatever it returns
pub into_found : {E : Type 0} (edges : Edges E) (k : Key) (ks rest : List Key) → ListsEdges to edges k ks → (found : Option Key)
    → MatchOption found ((ks ≡ []) × (rest ≡ [])) (λ x. ks ≡ x ∷ rest)
    → IfSome found (λ x. (e : SeenEdge E) × (map.get edges x ≡ Some e) × (touches k e ≡ true))
into_found edges k ks rest lists None step = tt
into_found edges k ks rest lists (Some x) step = into_touches edges k ks lists x (first_there ks x rest step)

pub into_none : {E : Type 0} (edges : Edges E) (k : Key) (js ks rest : List Key) → ListsEdges from edges k js → js ≡ [] → ListsEdges to edges k ks → (found : Option Key)
    → MatchOption found ((ks ≡ []) × (rest ≡ [])) (λ x. ks ≡ x ∷ rest) → IfNone found ((x : Key) (e : SeenEdge E) → map.get edges x ≡ Some e → touches k e ≡ false)
into_none edges k js ks rest out none lists found step = grind (arith, none_touches edges k js ks out none lists)

-- a node that no edge touches has no edge in its lists
module _ {E : Type 0} (edges : Edges E) (k : Key) (untouched : (x : Key) (e : SeenEdge E) → map.get edges x ≡ Some e → touches k e ≡ false) (ks : List Key) where
  pub none_from : ListsEdges from edges k ks → ks ≡ []
  none_from lists = nothing_listed from edges k ks lists (λ x e there at. grind (arith, untouched x e there, is_itself k))

  pub none_to : ListsEdges to edges k ks → ks ≡ []
  none_to lists = nothing_listed to edges k ks lists (λ x e there at. grind (arith, untouched x e there, is_itself k))

-- a node that an edge touches exists
pub touched_there : {N E : Type 0} (s : Seen N E) → IsJoined s → (k x : Key) (e : SeenEdge E) → map.get s.edges.live x ≡ Some e → touches k e ≡ true
    → map.contains_key s.nodes.live k ≡ false → ⊥
touched_there s joined k x e there touched absent = absurd (grind (arith, joined.ends x e there, same_or_other e.from k, same_or_other e.to k, is_other e.from k, is_other e.to k))

-- every graph is joined
pub graph_joined : {N E : Type 0} (nodes : Content N) (edges : Content (SeenEdge E)) (outs intos : Lists) → IsGraph nodes edges outs intos
    → IsJoined (record { nodes = nodes; edges = edges; out = by_node nodes.live edges.live outs; into = by_node nodes.live edges.live intos; links = (outs.capacity, intos.capacity) })
graph_joined nodes edges outs intos graph = record { ends = λ x e there. (graph.out.ends x e there, graph.into.ends x e there); out = lists graph.out; into = lists graph.into }

module _ {N E : Type 0} {end : SeenEdge E → Key} {nodes : Content N} {edges : Content (SeenEdge E)} {links : Lists} (t : IsThreaded end nodes edges links) where
  -- as many owners and members as the capacities ask for, and the same nodes and edges
  module _ (nodes' : Content N) (edges' : Content (SeenEdge E)) (same_nodes : nodes'.live ≡ nodes.live) (same_edges : edges'.live ≡ edges.live)
      (more_nodes : bound nodes ≤ bound nodes') (more_edges : bound edges ≤ bound edges') {links' : Lists} (grows : CoversMore links links') where
    grown_edges : HaveIndices edges'
    grown_edges = indices_still t.edge_indices edges' (λ k live. sym (ap (λ m. map.contains_key m k) same_edges) ∙ live) more_edges

    pub grown : bound nodes' < length links'.lists → bound edges' < links'.members → IsThreaded end nodes' edges' links'
    grown owners members = threaded_along t end nodes' edges' links' (λ x. ap (λ m. option_map end (map.get m x)) same_edges) grows.lists
        (indices_still t.node_indices nodes' (λ k live. grind (arith, same_nodes)) more_nodes) grown_edges owners members grows.disjoint (λ x e there. grind (arith, same_nodes, t.ends x e there))

    pub grown_seen : SameEdges (by_node nodes.live edges.live links) (by_node nodes'.live edges'.live links')
    grown_seen k = grind (arith, same_seen t end nodes' edges' links' (λ x. ap (λ m. option_map end (map.get m x)) same_edges) grows.lists grown_edges, same_nodes)

  pub covered_threaded : {links' : Lists} → CoversMore links links' → IsThreaded end nodes edges links'
  covered_threaded grows = grown nodes edges refl refl (omega arith) (omega arith) grows (omega (arith, t.owners, grows.owners)) (omega (arith, t.members, grows.members))

  pub covered_seen : {links' : Lists} → CoversMore links links' → SameEdges (by_node nodes.live edges.live links) (by_node nodes.live edges.live links')
  covered_seen grows = grown_seen nodes edges refl refl (omega arith) (omega arith) grows

  -- other nodes, with all ends of edges among them
  threaded_beside : (new : Content N) → HaveIndices new → bound new ≡ bound nodes
      → ((x : Key) (e : SeenEdge E) → map.get edges.live x ≡ Some e → IsLive new (end e)) → IsThreaded end new edges links
  threaded_beside new indices same_bound ends = threaded_along t end new edges links (λ x. refl) (λ p. refl) indices t.edge_indices (omega (arith, t.owners)) t.members t.disjoint ends

  -- a node comes
  module _ {k : Key} {v : N} {new : Content N} (inserts : Inserts nodes k v new) (was : IsContent true nodes) (valid : IsContent true new)
      (same_bound : bound new ≡ bound nodes) (within : k.index ≤ bound new) where
    still_node : (q : Key) → IsLive nodes q → IsLive new q
    still_node q live = ap (λ m. map.contains_key m q) inserts.live ∙ live-insert_still nodes.live k v q live

    pub node_threaded : IsThreaded end new edges links
    node_threaded = threaded_beside new (indices_inserted t.node_indices k v new inserts valid same_bound within) same_bound (λ x e there. still_node (end e) (t.ends x e there))

    pub node_seen : SameEdges (by_node nodes.live edges.live links) (by_node new.live edges.live links)
    node_seen =
        let none : list_of links k.index ≡ [] = empty_at t k.index (λ x e there at. (
        let live = t.ends x e there in
        let here : IsLive new k = ap (λ m. map.contains_key m k) inserts.live ∙ ap is_some (get-insert_here nodes.live k v) in
        grind (arith, valid.apart (end e) k (inl (inl (still_node (end e) live))) (inl (inl here)) at, inserted_fresh true nodes k v new was inserts))) in
        other_nodes t new (λ q. grind (arith, same_or_other q k, none, inserts.live, get-insert_other nodes.live k v q))

  -- an edge comes
  module _ {k : Key} {e : SeenEdge E} {new : Content (SeenEdge E)} (inserts : Inserts edges k e new) (fresh : map.get edges.live k ≡ None) (valid : IsContent true new)
      (same_bound : bound new ≡ bound edges) (within : k.index ≤ bound new)
      (live : IsLive nodes (end e)) where
    new_indices : HaveIndices new
    new_indices = indices_inserted t.edge_indices k e new inserts valid same_bound within

    pub edge_free : IsFree links k.index
    edge_free = put_free t k e fresh live new inserts.live new_indices same_bound

    module _ {now : Lists} (now_is : now ≡ with_list links (end e).index (list_of links (end e).index ++ k.index ∷ [])) where
      pub edge_threaded : AreDisjoint now → IsThreaded end nodes new now
      edge_threaded = put_threaded t k e fresh live new inserts.live new_indices same_bound now now_is

      pub edge_seen : PutsBehind (by_node nodes.live edges.live links) (end e) k (by_node nodes.live new.live now)
      edge_seen = put_seen t k e fresh live new inserts.live new_indices same_bound now now_is

  -- a node goes at which no edge is
  module _ (k : Key) (new : Content N) (is : new.live ≡ map.remove nodes.live k) (same_bound : bound new ≡ bound nodes) (apart : (x : Key) (e : SeenEdge E)
      → map.get edges.live x ≡ Some e → end e ≢ k) where
    left_nodes : (q : Key) → q ≢ k → map.contains_key new.live q ≡ map.contains_key nodes.live q
    left_nodes q other = ap (λ m. map.contains_key m q) is ∙ grind (arith, keys)

    was_node : (q : Key) → IsLive new q → IsLive nodes q
    was_node q live = grind (arith, keys, same_or_other q k, left_nodes q, is)

    pub gone_threaded : IsThreaded end new edges links
    gone_threaded = threaded_beside new (indices_still t.node_indices new was_node (omega arith)) same_bound (λ x e there. left_nodes (end e) (apart x e there) ∙ t.ends x e there)

    pub gone_seen : SameEdges (by_node nodes.live edges.live links) (by_node new.live edges.live links)
    gone_seen = other_nodes t new (λ q. elim (same_or_other q k) [
      | inl at ↦ elim (map.contains_key nodes.live k) as (λ b. map.contains_key nodes.live k ≡ b
          → (map.contains_key new.live q ≡ map.contains_key nodes.live q) ⊎ (list_of links q.index ≡ [])) [
            | true ↦ λ live. inr (ap (λ (q : Key). list_of links q.index) at ∙ empty_at t k.index
                (λ x e there same. apart x e there (t.node_indices.apart (end e) k (t.ends x e there) live same)))
            | false ↦ λ gone. inl (ap (map.contains_key new.live) at ∙ ap (λ m. map.contains_key m k) is ∙ grind (arith, keys) ∙ sym (ap (map.contains_key nodes.live) at))
          ] refl
      | inr other ↦ inl (left_nodes q other)
    ])

-- the ends of an edge that doesn't touch a node
pub ends_apart : {E : Type 0} (k : Key) (e : SeenEdge E) → touches k e ≡ false → (e.from ≢ k) × (e.to ≢ k)
ends_apart k e none = grind (arith, is_itself k)

-- no edge touches a node that isn't there
pub gone_untouched : {N E : Type 0} (s : Seen N E) → IsJoined s → (k : Key) → map.contains_key s.nodes.live k ≡ false → (x : Key) (e : SeenEdge E) → map.get s.edges.live x ≡ Some e
    → touches k e ≡ false
gone_untouched s joined k gone x e there = let apart = gone_apart s joined k gone x e there in grind (arith, is_other e.from k apart.0, is_other e.to k apart.1)

-- nothing is listed where there is no node and no edge
module _ {N E : Type 0} (end : SeenEdge E → Key) (nodes : Content N) (edges : Content (SeenEdge E)) (links : Lists) (no_nodes : nodes.live ≡ map.empty) (no_edges : edges.live ≡ map.empty) where
  no_node : (k : Key) → map.contains_key nodes.live k ≡ false
  no_node k = ap (λ m. map.contains_key m k) no_nodes ∙ ap is_some (map.get-empty {X = N} key_cmp k)

  no_edge : (k : Key) → map.contains_key edges.live k ≡ false
  no_edge k = ap (λ m. map.contains_key m k) no_edges ∙ ap is_some (map.get-empty {X = SeenEdge E} key_cmp k)

  pub bare_threaded : ((p : ℕ) → list_of links p ≡ []) → bound nodes < length links.lists → bound edges < links.members → IsThreaded end nodes edges links
  bare_threaded none owners members = record {
    node_indices = grind (arith, no_node);
    edge_indices = grind (arith, no_edge);
    owners = owners;
    members = members;
    disjoint = grind (arith, none);
    ends = λ x e there. absurd (grind (arith, no_edge x));
    listed = λ x e there. absurd (grind (arith, no_edge x));
    live = λ p i inside. absurd (omega (arith, ap (often i) (none p)));
  }

  pub bare_seen : (k : Key) → edges_at (by_node nodes.live edges.live links) k ≡ []
  bare_seen k = at_none nodes.live edges.live links k (no_node k)

-- the copies of nodes and edges are listed alike
module _ {N E : Type 0} {end : SeenEdge E → Key} {nodes : Content N} {edges : Content (SeenEdge E)} {links : Lists} (t : IsThreaded end nodes edges links)
    {clones_node : N → N → Type 0} {new : Content N} (cloned : IsCloneBy clones_node nodes new) (same_nodes : bound new ≡ bound nodes)
    (clones_value : E → E → Type 0) {copies : Content (SeenEdge E)} (clones : IsCloneBy (clones_edge clones_value) edges copies) (same_edges : bound copies ≡ bound edges)
    (same : (o p : Option (SeenEdge E)) → IsCloneOf (clones_edge clones_value) o p → option_map end p ≡ option_map end o) where
  edge_copies : HaveIndices copies
  edge_copies = indices_still t.edge_indices copies (λ k live. sym (clone_live (clones_edge clones_value) edges copies clones k) ∙ live) (omega arith)

  pub copied : (now : Lists) → now ≡ with_capacity links now.capacity → IsThreaded end new copies now
  copied now is = subst (IsThreaded end new copies) (sym is) (threaded_along t end new copies (with_capacity links now.capacity) (λ x. same _ _ (clones.live x)) (λ p. refl)
      (indices_still t.node_indices new (λ k live. sym (clone_live clones_node nodes new cloned k) ∙ live) (omega arith)) edge_copies
      (omega (arith, t.owners)) (omega (arith, t.members)) (disjoint_still links _ t.disjoint (λ p. refl) (omega arith))
      (λ x e there. clone_live clones_node nodes new cloned (end e) ∙ t.ends x e there))

  pub copied_seen : (now : Lists) → now ≡ with_capacity links now.capacity → SameEdges (by_node nodes.live edges.live links) (by_node new.live copies.live now)
  copied_seen now is k = grind (
    arith,
    is,
    same_seen t end new copies (with_capacity links now.capacity) (λ x. same _ _ (clones.live x)) (λ p. refl) edge_copies (clone_live clones_node nodes new cloned),
  )

pub copied_from : {E : Type 0} (clones_value : E → E → Type 0) (o p : Option (SeenEdge E)) → IsCloneOf (clones_edge clones_value) o p → option_map from p ≡ option_map from o
copied_from clones_value o p is = grind arith

pub copied_to : {E : Type 0} (clones_value : E → E → Type 0) (o p : Option (SeenEdge E)) → IsCloneOf (clones_edge clones_value) o p → option_map to p ≡ option_map to o
copied_to clones_value o p is = grind arith

pub edges_equal : {E : Type 0} (is_clone : E → E → Type 0) → ClonesEqual is_clone → ClonesEqual (clones_edge is_clone)
edges_equal is_clone same e copy is = grind (arith, same)

-- a value is written
module _ {N E : Type 0} {end : SeenEdge E → Key} {nodes : Content N} {edges : Content (SeenEdge E)} {links : Lists} (t : IsThreaded end nodes edges links) where
  module _ (k : Key) (was v : N) (there : map.get nodes.live k ≡ Some was) where
    same_node : (q : Key) → map.contains_key (map.insert nodes.live k v) q ≡ map.contains_key nodes.live q
    same_node q = grind (arith, same_or_other q k, get-insert_here nodes.live k v, get-insert_other nodes.live k v q, there)

    written_bound : bound (with_value nodes k v) ≡ bound nodes
    written_bound = ap (λ n. n + nodes.room) (used-written nodes k v (ap is_some there))

    pub node_written : IsThreaded end (with_value nodes k v) edges links
    node_written = threaded_beside t (with_value nodes k v) (indices_still t.node_indices (with_value nodes k v) (λ q live. grind (arith, same_node q)) (omega (arith, written_bound))) written_bound
        (λ x e found. grind (arith, same_node (end e), t.ends x e))

    pub node_written_seen : by_node (map.insert nodes.live k v) edges.live links ≡ by_node nodes.live edges.live links
    node_written_seen = same_seen t end (with_value nodes k v) edges links (λ x. refl) (λ p. refl) t.edge_indices same_node

  module _ (k : Key) (was e : SeenEdge E) (there : map.get edges.live k ≡ Some was) (same_end : end e ≡ end was) where
    same_ends : (x : Key) → option_map end (map.get (map.insert edges.live k e) x) ≡ option_map end (map.get edges.live x)
    same_ends x = grind (arith, same_or_other x k, get-insert_here edges.live k e, get-insert_other edges.live k e x, same_end, there)

    same_bound : bound (with_value edges k e) ≡ bound edges
    same_bound = ap (λ n. n + edges.room) (used-written edges k e (ap is_some there))

    written_indices : HaveIndices (with_value edges k e)
    written_indices =
        indices_still t.edge_indices (with_value edges k e) (λ q live. grind (arith, same_or_other q k, get-insert_other edges.live k e q, there)) (omega (arith, same_bound))

    pub edge_written : IsThreaded end nodes (with_value edges k e) links
    edge_written = threaded_along t end nodes (with_value edges k e) links same_ends (λ p. refl) t.node_indices written_indices t.owners (omega (arith, t.members, same_bound)) t.disjoint t.ends

    pub edge_written_seen : by_node nodes.live (map.insert edges.live k e) links ≡ by_node nodes.live edges.live links
    edge_written_seen = same_seen t end nodes (with_value edges k e) links same_ends (λ p. refl) written_indices (λ q. refl)
