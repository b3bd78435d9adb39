-- The edges in a node's list and their other ends: what is in it, what a change of the edges asks of it, and walks along it.
use Rattle.slotmap_graph.proofs.Common.{Option, option_map, append_assoc, MatchOption, times_first, without_none, times_joined, cons_option, take-append-le, fold-append, IsBreadthFirst, entries_along}
use Rattle.slotmap_graph.proofs.Common.{◌∙◌, is_some, append-nil, without, one_itself, one_other, SeenEdge, ends_at, ListsEdges, edges_at, IsJoined, take_more, take_all, ends_along, first_or}
use Rattle.slotmap_graph.proofs.Common.{Some, None, List, refl, arith, false, ℕ, true, cond, length, get_or, take, nat_eq, IsLive, same, times, is_key, Edges, from, GoesOn, HasEdge, goes_to, marked}
use Rattle.slotmap_graph.proofs.Common.{[], ap, sym, Key, Seen, to, find, fold, same_Some, All, All-nil, All-cons}
use Rattle.std.proofs.Common.{◌≡◌, ◌≢◌, ◌<◌, ◌≤◌, ◌∷◌, ◌+◌, ◌++◌}
use Rattle.std.proofs.lemmas.List.{Elements.filter_map-append, Folds.find-append}
use Rattle.std.specs.FinMap as map

module _ {E : Type 0} (end : SeenEdge E → Key) (edges : Edges E) where
  -- a key is in a list at most once
  pub listed_once : (k : Key) (ks : List Key) → ListsEdges end edges k ks → (x : Key) → times x ks ≤ 1
  listed_once k ks lists x = grind (arith, lists x)

  -- an edge that isn't there is in no list
  pub absent_unlisted : (x : Key) → map.get edges x ≡ None → (k : Key) (ks : List Key) → ListsEdges end edges k ks → without x ks ≡ ks
  absent_unlisted x none k ks lists = without_none x ks (lists x ∙ ap (ends_at end k) none)

  module _ (k : Key) where
    -- what a list has is an edge whose end is the node
    some_listed : (x : Key) → 0 < ends_at end k (map.get edges x) → (e : SeenEdge E) × (map.get edges x ≡ Some e) × (end e ≡ k)
    some_listed x more = elim (map.get edges x) as (λ o. map.get edges x ≡ o → 0 < ends_at end k o → (e : SeenEdge E) × (map.get edges x ≡ Some e) × (end e ≡ k)) [
      | None ↦ λ is less. absurd (omega arith)
      | Some e ↦ λ is less. (e, is, grind (arith, one_other (end e) k))
    ] refl more

    module _ (ks : List Key) (lists : ListsEdges end edges k ks) where
      pub listed_edge : (x : Key) → 0 < times x ks → (e : SeenEdge E) × (map.get edges x ≡ Some e) × (end e ≡ k)
      listed_edge x more = some_listed x (omega (arith, lists x))

      -- and each such edge is in it
      pub edge_listed : (x : Key) (e : SeenEdge E) → map.get edges x ≡ Some e → end e ≡ k → times x ks ≡ 1
      edge_listed x e there at = lists x ∙ ap (ends_at end k) there ∙ ap (λ q. same q k) at ∙ one_itself k

    -- if the list is empty, no edge has that end, and the other way round
    pub none_listed : (ks : List Key) → ListsEdges end edges k ks → ks ≡ [] → (x : Key) (e : SeenEdge E) → map.get edges x ≡ Some e → end e ≢ k
    none_listed ks lists empty x e there at = absurd (omega (arith, edge_listed ks lists x e there at, ap (times x) empty))

    pub nothing_listed : (ks : List Key) → ListsEdges end edges k ks → ((x : Key) (e : SeenEdge E) → map.get edges x ≡ Some e → end e ≢ k) → ks ≡ []
    nothing_listed [] lists none = refl
    nothing_listed (x ∷ rest) lists none = absurd (let found = listed_edge (x ∷ rest) lists x (omega (arith, times_first x x rest, one_itself x)) in none x found.0 found.1 found.2)

-- a node that isn't there: no edge joins it, and it has none
module _ {N E : Type 0} (s : Seen N E) (joined : IsJoined s) (k : Key) (gone : map.contains_key s.nodes.live k ≡ false) where
  not_live : (q : Key) → IsLive s.nodes q → q ≢ k
  not_live q live is = absurd (let none = ap (map.contains_key s.nodes.live) is ∙ gone in cc)

  pub gone_apart : (x : Key) (e : SeenEdge E) → map.get s.edges.live x ≡ Some e → (e.from ≢ k) × (e.to ≢ k)
  gone_apart x e there = let live = joined.ends x e there in (not_live e.from live.0, not_live e.to live.1)

  pub gone_out : edges_at s.out k ≡ []
  gone_out = nothing_listed from s.edges.live k (edges_at s.out k) (joined.out k) (λ x e there. (gone_apart x e there).0)

  pub gone_into : edges_at s.into k ≡ []
  gone_into = nothing_listed to s.edges.live k (edges_at s.into k) (joined.into k) (λ x e there. (gone_apart x e there).1)

-- a walk along a list: what was passed, and what is ahead
pub walked_on : (passed ahead rest all : List Key) (x : Key) → passed ++ ahead ≡ all → ahead ≡ x ∷ rest → (passed ++ x ∷ []) ++ rest ≡ all
walked_on passed ahead rest all x so_far next = grind (arith, append_assoc passed (x ∷ []) rest)

pub walked_in : (passed ahead rest all : List Key) (x : Key) → passed ++ ahead ≡ all → ahead ≡ x ∷ rest → 0 < times x all
walked_in passed ahead rest all x so_far next = grind (arith, times_joined x passed (x ∷ rest), times_first x x rest, one_itself x)

pub walked : (passed ahead all : List Key) → passed ++ ahead ≡ all → ahead ≡ [] → passed ≡ all
walked passed ahead all so_far none = grind (arith, append-nil passed)

-- each edge has one end at most
module _ {E : Type 0} (end : SeenEdge E → Key) (edges : Edges E) where
  pub ends_less : (ks : List Key) → length (ends_along end edges ks) ≤ length ks
  ends_less [] = omega arith
  ends_less (k ∷ ks) = grind (arith, ends_less ks)

  -- the end of the first edge comes first
  pub first_end : (k : Key) (e : SeenEdge E) (ks : List Key) → map.get edges k ≡ Some e → ends_along end edges (k ∷ ks) ≡ end e ∷ ends_along end edges ks
  first_end k e ks there = grind (arith, there)

-- the edge of the first key comes first
pub first_entry : {E : Type 0} (edges : Edges E) (k : Key) (e : SeenEdge E) (ks : List Key) → map.get edges k ≡ Some e → entries_along edges (k ∷ ks) ≡ (k, e) ∷ entries_along edges ks
first_entry edges k e ks there = ap (λ o. cons_option (option_map (λ e. (k, e)) o) (entries_along edges ks)) there

-- what holds of the end of each edge holds of the ends of these
pub ends_all : {E : Type 0} (end : SeenEdge E → Key) (edges : Edges E) (P : Key → Type 0) → ((k : Key) (e : SeenEdge E) → map.get edges k ≡ Some e → P (end e))
    → (ks : List Key) → All P (ends_along end edges ks)
ends_all end edges P each [] = All-nil P
ends_all end edges P each (k ∷ ks) = let rest = ends_all end edges P each ks in
    elim (map.get edges k) as (λ o. map.get edges k ≡ o → All P (cons_option (option_map end o) (ends_along end edges ks))) [
      | None ↦ λ there. rest
      | Some e ↦ λ there. All-cons P (end e) (ends_along end edges ks) (each k e there) rest
    ] refl

-- what holds of each edge of a list
pub entries_all : {E : Type 0} (edges : Edges E) (P : Key × SeenEdge E → Type 0) (ks : List Key)
    → ((k : Key) (e : SeenEdge E) → 0 < times k ks → map.get edges k ≡ Some e → P (k, e)) → All P (entries_along edges ks)
entries_all edges P [] each = All-nil P
entries_all edges P (k ∷ ks) each =
    let rest = entries_all edges P ks (λ q e more there. each q e (omega (arith, times_first q k ks, more)) there) in
    elim (map.get edges k) as (λ o. map.get edges k ≡ o → All P (cons_option (option_map (λ e. (k, e)) o) (entries_along edges ks))) [
      | None ↦ λ there. rest
      | Some e ↦ λ there. All-cons P (k, e) (entries_along edges ks) (each k e (omega (arith, times_first k k ks, one_itself k)) there) rest
    ] refl

-- the first node of an edge in the list of a node, or its second one, is that node
pub listed_end : {E : Type 0} (end : SeenEdge E → Key) (edges : Edges E) (node : Key) (ks : List Key) → ListsEdges end edges node ks
    → (k : Key) (e : SeenEdge E) → 0 < times k ks → map.get edges k ≡ Some e → end e ≡ node
listed_end end edges node ks lists k e more there =
    let found = listed_edge end edges node ks lists k more in ap end (same_Some _ _ (sym there ∙ found.1)) ∙ found.2

-- what the first step of an iterator over a list yields
pub first_step : (ks rest : List Key) (found : Option Key) → MatchOption found ((ks ≡ []) × (rest ≡ [])) (λ x. ks ≡ x ∷ rest) → found ≡ first_or ks None
first_step ks rest found step = grind arith

-- the next edge of a walk along the edges of a node
module _ {E : Type 0} (end : SeenEdge E → Key) (edges : Edges E) (node : Key) (all : List Key) (lists : ListsEdges end edges node all) (passed ahead rest : List Key)
    (x : Key) (so_far : passed ++ ahead ≡ all) (next : ahead ≡ x ∷ rest) where
  pub next_edge : (e : SeenEdge E) × (map.get edges x ≡ Some e) × (end e ≡ node)
  next_edge = listed_edge end edges node all lists x (walked_in passed ahead rest all x so_far next)

  pub next_live : map.contains_key edges x ≡ true
  next_live = ap is_some next_edge.1

module _ {E : Type 0} (edges : Edges E) (node : Key) (all : List Key) (lists : ListsEdges from edges node all) (passed ahead rest : List Key) (x : Key)
    (so_far : passed ++ ahead ≡ all) (next : ahead ≡ x ∷ rest) where
  abbrev this : (e : SeenEdge E) × (map.get edges x ≡ Some e) × (e.from ≡ node)
  this = next_edge from edges node all lists passed ahead rest x so_far next

  pub next_seen : (b : Key) → option_map to (map.get edges x) ≡ Some b → (v : E) × (map.get edges x ≡ Some (record { from = node; to = b; value = v }))
  next_seen b arrives = (this.0.value, grind (arith, this.1, this.2))

  pub next_joins : (b : Key) → option_map to (map.get edges x) ≡ Some b → HasEdge edges node b
  next_joins b arrives = let seen = next_seen b arrives in (x, record { from = node; to = b; value = seen.0 }, seen.1, refl, refl)

module _ {E : Type 0} (edges : Edges E) (passed : List Key) (x : Key) where
  pub one_more : (end : SeenEdge E → Key) (b : Key) → option_map end (map.get edges x) ≡ Some b → ends_along end edges (passed ++ x ∷ []) ≡ ends_along end edges passed ++ b ∷ []
  one_more end b is = grind (arith, filter_map-append (λ k. option_map end (map.get edges k)) passed (x ∷ []))

  module _ (a b : Key) (arrives : option_map to (map.get edges x) ≡ Some a) (before : find (goes_to edges b) passed ≡ None) where
    at_x : goes_to edges b x ≡ is_key a b
    at_x = grind (arith, arrives)

    pub not_found : is_key a b ≡ false → find (goes_to edges b) (passed ++ x ∷ []) ≡ None
    not_found other = grind (arith, find-append (goes_to edges b) passed (x ∷ []), before, at_x)

    pub found_first : (ahead rest all : List Key) → passed ++ ahead ≡ all → ahead ≡ x ∷ rest → is_key a b ≡ true → find (goes_to edges b) all ≡ Some x
    found_first ahead rest all so_far next this = grind (arith, so_far, next, find-append (goes_to edges b) passed (x ∷ rest), before, at_x)

pub taken : (ks : List Key) (i : ℕ) (x : Key) → i < length ks → x ≡ get_or ks i x → take (i + 1) ks ≡ take i ks ++ x ∷ []
taken ks i x below is = take_more ks i x below ∙ ap (λ q. take i ks ++ q ∷ []) (sym is)

-- a mark changes nothing in front
marked_behind : (ks : List Key) (k : Key) → GoesOn ks (marked ks k)
marked_behind ks k = elim (nat_eq (times k ks) 0) as (λ b. GoesOn ks (cond b (ks ++ k ∷ []) ks)) [
  | true ↦ (k ∷ [], refl)
  | false ↦ ([], sym (append-nil ks))
]

pub goes_on : (found now : List Key) (k : Key) → now ≡ marked found k → GoesOn found now
goes_on found now k is = let more = marked_behind found k in (more.0, is ∙ more.1)

-- the search goes on from the next node that was found
module _ (next : Key → List Key) (start : Key) (found : List Key) (at : ℕ) (so_far : found ≡ fold (λ ks k. fold marked ks (next k)) (start ∷ []) (take at found)) where
  pub order_step : (a : Key) → at < length found → a ≡ get_or found at a → (now : List Key) → GoesOn found now → now ≡ fold marked found (next a)
      → now ≡ fold (λ ks k. fold marked ks (next k)) (start ∷ []) (take (at + 1) now)
  order_step a below is now more made = let step : List Key → Key → List Key = λ ks k. fold marked ks (next k) in
      let front : take (at + 1) now ≡ take at found ++ a ∷ [] = ap (take (at + 1)) more.1 ∙ take-append-le (at + 1) found more.0 (omega arith) ∙ taken found at a below is in
      grind (arith, front, fold-append step (start ∷ []) (take at found) (a ∷ []), so_far, made)

  pub order_end : length found ≤ at → IsBreadthFirst next start found
  order_end past = so_far ∙ ap (fold (λ ks k. fold marked ks (next k)) (start ∷ [])) (take_all at found past)

-- more marks, in turn
pub marks_step : (ks xs now : List Key) (half : List Key) (x : Key) → half ≡ fold marked ks xs → now ≡ marked half x → now ≡ fold marked ks (xs ++ x ∷ [])
marks_step ks xs now half x so_far is = is ∙ ap (λ l. marked l x) so_far ∙ sym (fold-append marked ks xs (x ∷ []))
