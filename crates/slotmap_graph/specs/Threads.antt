-- How the edges of each node are listed: at its index the indices of the edges from it, and those of the edges to it.
use Rattle.std.specs.Prelude.{◌≡◌, ◌<◌, ℕ, length, map as list_map, Some}
use Rattle.std.specs.FinMap as map
use Rattle.slotmap.specs.Words.{Key, key_cmp, Content, IsLive}
use Rattle.slotmap_bounded.specs.{Bounded.bound, Indices.HaveIndices, Indices.keys_at}
use Rattle.slotmap_links.specs.Lists.{Lists, list_of, IsIn, AreDisjoint}
use Rattle.slotmap_graph.specs.declared.lists.Direction.{Direction}
use Rattle.slotmap_graph.specs.declared.lists.Direction.TheVariants.{Out, Into}
use Rattle.slotmap_graph.specs.Parts.{SeenEdge, Edges, ByNode, from, to}

module _ {N E : Type 0} where
  -- for each node the edges that are listed at its index
  unfoldable pub by_node : map.FinMap key_cmp N → Edges E → Lists → ByNode
  by_node nodes edges links = map.from_entries (list_map (λ k. (k, keys_at edges (list_of links k.index))) (map.keys nodes))

  -- each edge is listed at one of its ends, which is a node, and nothing else is listed
  pub record IsThreaded (end : SeenEdge E → Key) (nodes : Content N) (edges : Content (SeenEdge E)) (links : Lists) : Type 0 where
    pub node_indices : HaveIndices nodes
    pub edge_indices : HaveIndices edges
    pub owners : bound nodes < length links.lists
    pub members : bound edges < links.members
    pub disjoint : AreDisjoint links
    pub ends : (x : Key) (e : SeenEdge E) → map.get edges.live x ≡ Some e → IsLive nodes (end e)
    pub listed : (x : Key) (e : SeenEdge E) → map.get edges.live x ≡ Some e → IsIn links (end e).index x.index
    pub live : (p i : ℕ) → IsIn links p i → (x : Key) × (e : SeenEdge E) × (map.get edges.live x ≡ Some e) × (x.index ≡ i) × ((end e).index ≡ p)

  -- what holds of every graph
  pub record IsGraph (nodes : Content N) (edges : Content (SeenEdge E)) (outs intos : Lists) : Type 0 where
    pub out : IsThreaded from nodes edges outs
    pub into : IsThreaded to nodes edges intos

-- where an edge leads that is listed in this direction
abbrev pub far_end : {E : Type 0} → Direction → SeenEdge E → Key
far_end Out = to
far_end Into = from
