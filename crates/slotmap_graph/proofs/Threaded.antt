-- The lists of the edges of each node: what is seen of them, and what a change of nodes or edges leaves of them.
use Rattle.slotmap_graph.proofs.Common.{after_inside, indices_still, keys_without, same_or_other, get-insert_here, get-insert_other, live-insert_still}
use Rattle.slotmap_graph.proofs.Common.{without_number, option_and_then, eq-zero-or-pos, is_some, option_map, IsThreaded, key_at_live, keys_total}
use Rattle.slotmap_graph.proofs.Common.{exact_keys, one_itself, map-append, AreDisjoint, number_after, pushed_here, pushed_still, HaveIndices, ◌∙◌}
use Rattle.slotmap_graph.proofs.Common.{ℕ, list_map, keys_same, times_key, list_any, is_itself, one_other, with_list, pushed_was, ListsEdges}
use Rattle.slotmap_graph.proofs.Common.{key_after, PutsBehind, SameEdges, AreIndices, true, false, bound, Option, length, subst, no_key, some_is}
use Rattle.slotmap_graph.proofs.Common.{key_cmp, Content, IsLive, without, is_other, list_of, IsFree, SeenEdge, edges_at, ends_at, key_at, keys_at, cond}
use Rattle.slotmap_graph.proofs.Common.{Some, None, List, [], refl, sym, ap, inl, inr, arith, Key, keys, tied, times, often, Lists, IsIn, Edges}
use Rattle.std.proofs.Common.{◌≡◌, ◌≢◌, ◌⊎◌, ◌<◌, ◌∷◌, ◌++◌}
use Rattle.std.specs.Ordering.{eq_by_cmp}
use Rattle.std.specs.FinMap.Entries.{find}
use Rattle.slotmap_graph.specs.Threads.{by_node}
use Rattle.slotmap_links.proofs.Counts.{times_first as often_first, times_gone as often_gone, times_without as often_without, one_itself as number_itself}
use Rattle.slotmap_links.proofs.Callers.{list_now, list_other, owners_stay, list_without}
use Rattle.slotmap_graph.proofs.{Adjacent.listed_edge, Indices.after_at}
use Rattle.std.specs.FinMap as map

-- under each key what f makes of it
found_made : {W : Type 0} (f : Key → W) (k : Key) (ks : List Key) → find key_cmp k (list_map (λ q. (q, f q)) ks) ≡ cond (list_any (eq_by_cmp key_cmp k) ks) (Some (f k)) None
found_made f k [] = refl
found_made f k (q ∷ ks) = grind (arith, tied keys_total exact_keys k q, found_made f k ks)

-- what is seen at each node
module _ {N E : Type 0} (nodes : map.FinMap key_cmp N) (edges : Edges E) (links : Lists) where
  get-by_node : (k : Key) → map.get (by_node nodes edges links) k ≡ cond (map.contains_key nodes k) (Some (keys_at edges (list_of links k.index))) None
  unfolding by_node
  get-by_node k = map.get-from_entries keys_total (list_map (λ q. (q, keys_at edges (list_of links q.index))) (map.keys nodes)) k
      ∙ found_made (λ q. keys_at edges (list_of links q.index)) k (map.keys nodes) ∙ ap (λ b. cond b (Some (keys_at edges (list_of links k.index))) None) (sym (map.contains_key-keys nodes k))

  seen_at : (k : Key) → edges_at (by_node nodes edges links) k ≡ cond (map.contains_key nodes k) (keys_at edges (list_of links k.index)) []
  seen_at k = grind (arith, get-by_node k)

  at_node : (k : Key) → map.contains_key nodes k ≡ true → edges_at (by_node nodes edges links) k ≡ keys_at edges (list_of links k.index)
  at_node k live = seen_at k ∙ ap (λ b. cond b (keys_at edges (list_of links k.index)) []) live

  pub at_none : (k : Key) → map.contains_key nodes k ≡ false → edges_at (by_node nodes edges links) k ≡ []
  at_none k gone = seen_at k ∙ ap (λ b. cond b (keys_at edges (list_of links k.index)) []) gone

-- what an option has is what f makes it
mapped_some : {A B : Type 0} (f : A → B) (o : Option A) {b : B} → option_map f o ≡ Some b → (a : A) × (o ≡ Some a) × (f a ≡ b)
mapped_some f o is = grind arith

module _ {N E : Type 0} {end : SeenEdge E → Key} {nodes : Content N} {edges : Content (SeenEdge E)} {links : Lists} (t : IsThreaded end nodes edges links) where
  pub indices_at : (p : ℕ) → AreIndices edges (list_of links p)
  indices_at p = record { have = λ i inside. (let l = t.live p i inside in (l.0, ap is_some l.2, l.3)) }

  pub owner_within : (k : Key) → IsLive nodes k → k.index < length links.lists
  owner_within k live = omega (arith, (t.node_indices.within k live).1, t.owners)

  -- an edge in the list of a node
  pub edge_at : (x : Key) (e : SeenEdge E) → map.get edges.live x ≡ Some e → (p : ℕ) → IsIn links p x.index → (end e).index ≡ p
  edge_at x e there p inside = let l = t.live p x.index inside in grind (arith, t.edge_indices.apart l.0 x, l.2, l.3, l.4)

  -- a list is empty where no edge has that end
  pub empty_at : (p : ℕ) → ((x : Key) (e : SeenEdge E) → map.get edges.live x ≡ Some e → (end e).index ≢ p) → list_of links p ≡ []
  empty_at p none = by (list_of links p) refl
    where
      by : (is : List ℕ) → list_of links p ≡ is → list_of links p ≡ []
      by [] at = at
      by (i ∷ is) at = absurd (let l = t.live p i (omega (arith, ap (often i) at ∙ often_first i i is, number_itself i)) in none l.0 l.1 l.2 l.4)

  empty_at_zero : list_of links 0 ≡ []
  empty_at_zero = empty_at 0 (λ x e there at. omega (arith, (t.node_indices.within (end e) (t.ends x e there)).0))

  -- the list at the index of a node, or at 0
  module _ (k : Key) (owner : ℕ) (is_live : IsLive nodes k → owner ≡ k.index) (is_gone : map.contains_key nodes.live k ≡ false → owner ≡ 0) where
    pub owner_below : owner < length links.lists
    owner_below = grind (arith, is_live, is_gone, owner_within k, t.owners)

    pub owned_at : keys_at edges.live (list_of links owner) ≡ edges_at (by_node nodes.live edges.live links) k
    owned_at = grind (arith, is_live, is_gone, at_node nodes.live edges.live links k, at_none nodes.live edges.live links k, empty_at_zero)

  -- the list of a node has each edge with that end, once, and nothing else
  listed_live : (k x : Key) → IsLive nodes k → (o : Option (SeenEdge E)) → map.get edges.live x ≡ o → times x (keys_at edges.live (list_of links k.index)) ≡ ends_at end k o
  listed_live k x live None is = no_key t.edge_indices (list_of links k.index) (indices_at k.index) x (ap is_some is)
  listed_live k x live (Some e) is =
      let counted = times_key t.edge_indices (list_of links k.index) (indices_at k.index) x (ap is_some is) in
      let apart = t.node_indices.apart (end e) k (t.ends x e is) live in
      grind (arith, same_or_other (end e) k, one_itself k, one_other (end e) k, t.listed x e is, t.disjoint.once k.index x.index, edge_at x e is k.index)

  pub lists : (k : Key) → ListsEdges end edges.live k (edges_at (by_node nodes.live edges.live links) k)
  lists k x = let o = map.get edges.live x in
      grind (arith, at_node nodes.live edges.live links k, at_none nodes.live edges.live links k, listed_live k x, t.ends x, one_other)

  -- the edge after one at its node, by the number after its index
  module _ (x : Key) (index : ℕ) (same : index ≡ x.index) (number : Option ℕ) (at : (p : ℕ) → IsIn links p index → number ≡ number_after index (list_of links p)) where
    number_is : (e : SeenEdge E) → map.get edges.live x ≡ Some e → number ≡ number_after x.index (list_of links (end e).index)
    number_is e there = at (end e).index (rw same (t.listed x e there)) ∙ ap (λ j. number_after j (list_of links (end e).index)) same

    after_one : (e : SeenEdge E) → map.get edges.live x ≡ Some e → option_map (key_at edges.live) number ≡ key_after x (edges_at (by_node nodes.live edges.live links) (end e))
    after_one e there =
        let after = after_at t.edge_indices (list_of links (end e).index) (indices_at (end e).index) x (ap is_some there) in
        grind (arith, number_is e there, at_node nodes.live edges.live links (end e) (t.ends x e there))

    pub after_is : IsLive edges x → option_map (key_at edges.live) number ≡ option_and_then (λ e. key_after x (edges_at (by_node nodes.live edges.live links) (end e))) (map.get edges.live x)
    after_is live = let e = some_is (map.get edges.live x) live in rw e.1 (after_one e.0 e.1)

    pub after_there : IsLive edges x → (i : ℕ) → number ≡ Some i → (k : Key) × (map.contains_key edges.live k ≡ true) × (k.index ≡ i)
    after_there live i found = let e = some_is (map.get edges.live x) live in
        (indices_at (end e.0).index).have i (after_inside x.index i (list_of links (end e.0).index) (sym (number_is e.0 e.1) ∙ found))

  -- in whichever list an edge is
  pub after_along : (x : Key) (found : Option Key) → found ≡ option_and_then (λ e. key_after x (edges_at (by_node nodes.live edges.live links) (end e))) (map.get edges.live x)
      → (k : Key) → 0 < times x (edges_at (by_node nodes.live edges.live links) k) → found ≡ key_after x (edges_at (by_node nodes.live edges.live links) k)
  after_along x found is k inside =
      let there = listed_edge end edges.live k (edges_at (by_node nodes.live edges.live links) k) (lists k) x inside in grind (arith, is, there.1, there.2)

  -- an edge has a link
  pub member_below : (x : Key) → IsLive edges x → x.index < links.members
  member_below x live = omega (arith, (t.edge_indices.within x live).1, t.members)

  -- the same edges, but for their values, in the same lists
  module _ {M D : Type 0} (other_end : SeenEdge D → Key) (nodes' : Content M) (edges' : Content (SeenEdge D)) (links' : Lists)
      (same_ends : (x : Key) → option_map other_end (map.get edges'.live x) ≡ option_map end (map.get edges.live x)) (same_lists : (p : ℕ) → list_of links' p ≡ list_of links p) where
    source : (x : Key) (d : SeenEdge D) → map.get edges'.live x ≡ Some d → (e : SeenEdge E) × (map.get edges.live x ≡ Some e) × (end e ≡ other_end d)
    source x d there = mapped_some end (map.get edges.live x) (sym (same_ends x) ∙ ap (option_map other_end) there)

    copy : (x : Key) (e : SeenEdge E) → map.get edges.live x ≡ Some e → (d : SeenEdge D) × (map.get edges'.live x ≡ Some d) × (other_end d ≡ end e)
    copy x e there = mapped_some other_end (map.get edges'.live x) (same_ends x ∙ ap (option_map end) there)

    still : (x : Key) → IsLive edges x → IsLive edges' x
    still x live = let e = some_is (map.get edges.live x) live in grind (arith, copy x e.0 e.1)

    same_keys_at : HaveIndices edges' → (p : ℕ) → keys_at edges'.live (list_of links' p) ≡ keys_at edges.live (list_of links p)
    same_keys_at indices p = ap (keys_at edges'.live) (same_lists p) ∙ keys_same t.edge_indices indices (list_of links p) (indices_at p) (λ k live _. still k live)

    pub threaded_along : HaveIndices nodes' → HaveIndices edges' → bound nodes' < length links'.lists → bound edges' < links'.members → AreDisjoint links'
        → ((x : Key) (e : SeenEdge E) → map.get edges.live x ≡ Some e → IsLive nodes' (end e)) → IsThreaded other_end nodes' edges' links'
    threaded_along node_indices edge_indices owners members disjoint ends = record {
      node_indices = node_indices;
      edge_indices = edge_indices;
      owners = owners;
      members = members;
      disjoint = disjoint;
      ends = λ x d there. (let s = source x d there in ap (map.contains_key nodes'.live) (sym s.2) ∙ ends x s.0 s.1);
      listed = λ x d there. (let s = source x d there in grind (arith, t.listed x s.0 s.1, same_lists (end s.0).index, s.2));
      live = λ p i inside. (let l = t.live p i (grind (arith, same_lists p)) in let c = copy l.0 l.1 l.2 in (l.0, c.0, c.1, l.3, ap (λ (q : Key). q.index) c.2 ∙ l.4));
    }

    pub same_seen : HaveIndices edges' → ((k : Key) → map.contains_key nodes'.live k ≡ map.contains_key nodes.live k)
        → by_node nodes'.live edges'.live links' ≡ by_node nodes.live edges.live links
    same_seen indices same_nodes = map.same_map keys_total exact_keys _ _ (λ q.
        grind (arith, get-by_node nodes'.live edges'.live links' q, get-by_node nodes.live edges.live links q, same_keys_at indices q.index, same_nodes q))

  -- an edge comes
  module _ (k : Key) (e : SeenEdge E) (fresh : map.get edges.live k ≡ None) (live : IsLive nodes (end e)) (new : Content (SeenEdge E)) (is : new.live ≡ map.insert edges.live k e)
      (indices : HaveIndices new) (same_bound : bound new ≡ bound edges) where
    abbrev put : Lists
    put = with_list links (end e).index (list_of links (end e).index ++ k.index ∷ [])

    there_now : map.get new.live k ≡ Some e
    there_now = ap (λ m. map.get m k) is ∙ get-insert_here edges.live k e

    others : (x : Key) → x ≢ k → map.get new.live x ≡ map.get edges.live x
    others x other = ap (λ m. map.get m x) is ∙ get-insert_other edges.live k e x other

    not_k : (x : Key) (d : SeenEdge E) → map.get edges.live x ≡ Some d → x ≢ k
    not_k x d there at = grind (arith, fresh)

    still_live : (x : Key) → IsLive edges x → IsLive new x
    still_live x of_edges = ap (λ m. map.contains_key m x) is ∙ live-insert_still edges.live k e x of_edges

    pub put_free : IsFree links k.index
    put_free = record {
      within = omega (arith, (indices.within k (ap is_some there_now)).1, t.members);
      nowhere = λ p. elim (eq-zero-or-pos (often k.index (list_of links p))) [
        | inl none ↦ none
        | inr more ↦ absurd (let l = t.live p k.index more in not_k l.0 l.1 l.2 (indices.apart l.0 k (still_live l.0 (ap is_some l.2)) (ap is_some there_now) l.3))
      ];
    }

    module _ (now : Lists) (now_is : now ≡ put) where
      here : IsIn now (end e).index k.index
      here = grind (arith, now_is, pushed_here links (end e).index k.index (owner_within (end e) live))

      pub put_threaded : AreDisjoint now → IsThreaded end nodes new now
      put_threaded disjoint = record {
        node_indices = t.node_indices;
        edge_indices = indices;
        owners = omega (arith, t.owners, ap (λ (l : Lists). length l.lists) now_is ∙ owners_stay links (end e).index (list_of links (end e).index ++ k.index ∷ []));
        members = omega (arith, t.members, ap (λ (l : Lists). l.members) now_is);
        disjoint = disjoint;
        ends = λ x d there. grind (arith, same_or_other x k, there_now, others x, live, t.ends x d);
        listed = λ x d there. (let still = pushed_still links (end e).index k.index (owner_within (end e) live) (end d).index x.index in
            grind (arith, same_or_other x k, there_now, others x, here, now_is, t.listed x d));
        live = λ p i inside. (elim (pushed_was links (end e).index k.index (owner_within (end e) live) p i (subst (λ l. IsIn l p i) now_is inside)) [
          | inl before ↦ (let l = t.live p i before in (l.0, l.1, others l.0 (not_k l.0 l.1 l.2) ∙ l.2, l.3, l.4))
          | inr at ↦ (k, e, there_now, sym at.1, sym at.0)
        ]);
      }

      keys_still : (p : ℕ) → keys_at new.live (list_of links p) ≡ keys_at edges.live (list_of links p)
      keys_still p = keys_same t.edge_indices indices (list_of links p) (indices_at p) (λ x of_edges _. still_live x of_edges)

      put_at : keys_at new.live (list_of now (end e).index) ≡ keys_at edges.live (list_of links (end e).index) ++ k ∷ []
      put_at =
          let joined = map-append (key_at new.live) (list_of links (end e).index) (k.index ∷ []) in
          let here = list_now links (end e).index (list_of links (end e).index ++ k.index ∷ []) (owner_within (end e) live) in
          grind (arith, now_is, keys_still (end e).index, key_at_live indices k (ap is_some there_now))

      put_beside : (q : Key) → IsLive nodes q → q ≢ end e → keys_at new.live (list_of now q.index) ≡ keys_at edges.live (list_of links q.index)
      put_beside q of_nodes other =
          let same = list_other links (end e).index (list_of links (end e).index ++ k.index ∷ []) q.index in
          grind (arith, now_is, same, keys_still q.index, t.node_indices.apart q (end e) of_nodes live)

      pub put_seen : PutsBehind (by_node nodes.live edges.live links) (end e) k (by_node nodes.live new.live now)
      put_seen q =
          let now_at = seen_at nodes.live new.live now q in
          let was_at = seen_at nodes.live edges.live links q in
          grind (arith, same_or_other q (end e), put_at, put_beside q, is_itself (end e), is_other q (end e), live)

  -- an edge goes
  module _ (k : Key) {e : SeenEdge E} (there : map.get edges.live k ≡ Some e) (new : Content (SeenEdge E)) (is : new.live ≡ map.remove edges.live k) (same_bound : bound new ≡ bound edges)
      {now : Lists} (now_is : now ≡ with_list links (end e).index (without_number k.index (list_of links (end e).index))) where
    left_others : (x : Key) → x ≢ k → map.get new.live x ≡ map.get edges.live x
    left_others x other = grind (arith, keys, is)

    left : (x : Key) (d : SeenEdge E) → map.get new.live x ≡ Some d → (x ≢ k) × (map.get edges.live x ≡ Some d)
    left x d found = grind (arith, keys, left_others x, is, same_or_other x k)

    left_indices : HaveIndices new
    left_indices = indices_still t.edge_indices new (λ x live. grind (arith, left x)) (omega arith)

    lists_left : (p : ℕ) → list_of now p ≡ without_number k.index (list_of links p)
    lists_left p = ap (λ l. list_of l p) now_is ∙ list_without links t.disjoint (end e).index k.index (owner_within (end e) (t.ends k e there)) (t.listed k e there) p

    pub left_threaded : AreDisjoint now → IsThreaded end nodes new now
    left_threaded disjoint = record {
      node_indices = t.node_indices;
      edge_indices = left_indices;
      owners = omega (arith, t.owners, ap (λ (l : Lists). length l.lists) now_is ∙ owners_stay links (end e).index (without_number k.index (list_of links (end e).index)));
      members = omega (arith, t.members, ap (λ (l : Lists). l.members) now_is);
      disjoint = disjoint;
      ends = λ x d found. t.ends x d (left x d found).1;
      listed = λ x d found. (let l = left x d found in
          let apart = t.edge_indices.apart x k (ap is_some l.1) (ap is_some there) in
          grind (arith, t.listed x d l.1, lists_left (end d).index, often_without k.index x.index (list_of links (end d).index), l.0));
      live = λ p i inside. (
          let now_in = ap (often i) (lists_left p) in
          let apart : i ≢ k.index = λ at. (let gone = ap (λ j. often j (without_number k.index (list_of links p))) at ∙ often_gone k.index (list_of links p) in omega arith) in
          let same = often_without k.index i (list_of links p) apart in
          let l = t.live p i (omega arith) in
          (l.0, l.1, left_others l.0 (λ at. apart (sym l.3 ∙ ap (λ (q : Key). q.index) at)) ∙ l.2, l.3, l.4));
    }

    pub left_seen : (q : Key) → edges_at (by_node nodes.live new.live now) q ≡ without k (edges_at (by_node nodes.live edges.live links) q)
    left_seen q =
        let now_at = seen_at nodes.live new.live now q in
        let was_at = seen_at nodes.live edges.live links q in
        let still = λ (x : Key) (live : IsLive edges x) (other : x ≢ k). ap is_some (left_others x other) ∙ live in
        grind (arith, lists_left q.index, keys_without t.edge_indices left_indices k (ap is_some there) still (list_of links q.index) (indices_at q.index))

  -- nodes come or go at which no edge is
  pub other_nodes : (new : Content N) → ((q : Key) → (map.contains_key new.live q ≡ map.contains_key nodes.live q) ⊎ (list_of links q.index ≡ []))
      → SameEdges (by_node nodes.live edges.live links) (by_node new.live edges.live links)
  other_nodes new at q = grind (arith, at q, seen_at new.live edges.live links q, seen_at nodes.live edges.live links q)
