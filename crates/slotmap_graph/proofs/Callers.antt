-- What callers of a graph cite: the nodes that a search didn't find, the edges in the list of a node, loops along these, and
-- written values.
use Rattle.slotmap_graph.proofs.Common.{cond, append-nil, append_assoc, some_entry, same_or_other, get-insert_here, get-insert_other, exact_keys, times_first, times_pushed, times_joined, without_none}
use Rattle.slotmap_graph.proofs.Common.{◌∙◌, list_map, keys_total, Content, is_itself, one_other, one_itself, is_other, same_Some, first_or, key_after, SeenEdge, ListsEdges, with_edge, IsJoined}
use Rattle.slotmap_graph.proofs.Common.{false, Option, Some, None, List, length, get_or, refl, arith, Bool, true, key_cmp, is_key, times, without, Edges, from, Seen, in_midst, find, goes_to, HasEdge}
use Rattle.slotmap_graph.proofs.Common.{ℕ, zero, suc, [], sym, ap, Key}
use Rattle.std.proofs.Common.{◌≡◌, ◌≢◌, ◌<◌, ◌≤◌, ◌∷◌, ◌++◌}
use Rattle.slotmap_graph.proofs.Adjacent.{listed_once}
-- which edges the list of a node has
pub use Rattle.slotmap_graph.proofs.Adjacent.{absent_unlisted, edge_listed, gone_apart, gone_into, gone_out, listed_edge, nothing_listed}
use Rattle.std.specs.FinMap as map

-- where there is no node, there is no edge
pub no_edges : {N E : Type 0} (s : Seen N E) → IsJoined s → map.len s.nodes.live ≡ 0 → map.len s.edges.live ≡ 0
no_edges {N} {E} s joined bare =
    ap map.len (map.same_map keys_total exact_keys s.edges.live map.empty (λ x. none x ∙ sym (map.get-empty {X = SeenEdge E} key_cmp x))) ∙ map.len-empty key_cmp (SeenEdge E)
  where
    none : (x : Key) → map.get s.edges.live x ≡ None
    none x = elim (map.get s.edges.live x) as (λ o. map.get s.edges.live x ≡ o → o ≡ None) [
      | None ↦ λ is. refl
      | Some e ↦ λ is. absurd (omega (arith, bare, some_entry keys_total exact_keys s.nodes.live e.from (joined.ends x e is).0))
    ] refl

module _ {K : Type 0} (data_of : K → Key) where
  none_is : (keys : List K) (x : Key) → ((i : ℕ) (other : K) → 0 ≤ i → i < length keys → is_key (data_of (get_or keys i other)) x ≡ false) → times x (list_map data_of keys) ≡ 0
  none_is [] x apart = refl
  none_is (k ∷ keys) x apart = grind (
    arith,
    times_first x (data_of k) (list_map data_of keys),
    apart 0 k (omega arith) (omega arith),
    none_is keys x (λ i other low inside. apart (suc i) other (omega arith) (omega (arith, inside))),
  )

  -- where `contains` says no, no path leads
  pub not_found : (keys : List K) (x : Key) → ((i : ℕ) (other : K) → 0 ≤ i → i < length keys → is_key (data_of (get_or keys i other)) x ≡ false)
      → 0 < times x (list_map data_of keys) → ⊥
  not_found keys x apart some = absurd (omega (arith, none_is keys x apart, some))

  -- where it says yes, the key is there
  pub found_there : (keys : List K) (x : Key) → (i : ℕ) × (i < length keys) × ((other : K) → is_key (data_of (get_or keys i other)) x ≡ true) → 0 < times x (list_map data_of keys)
  found_there [] x at = absurd (omega (arith, at.1))
  found_there (k ∷ keys) x (zero, below, is) = grind (arith, times_first x (data_of k) (list_map data_of keys), is k)
  found_there (k ∷ keys) x (suc i, below, is) = omega (arith, times_first x (data_of k) (list_map data_of keys), found_there keys x (i, omega arith, is))

-- the first key that passes a test, and where none does
module _ (test : Key → Bool) where
  first_passes : (ks : List Key) (x : Key) → Some x ≡ find test ks → (test x ≡ true) × (0 < times x ks)
  first_passes [] x is = absurd (cc)
  first_passes (q ∷ ks) x is = grind (arith, times_first x q ks, one_itself x, first_passes ks x)

  none_passes : (ks : List Key) → None ≡ find test ks → (x : Key) → 0 < times x ks → test x ≡ false
  none_passes [] is x more = absurd (omega arith)
  none_passes (q ∷ ks) is x more = grind (arith, same_or_other x q, times_first x q ks, one_other q x, none_passes ks)

-- what `find_edge` returns is an edge between the two nodes, and where it returns none, there is none
module _ {E : Type 0} (edges : Edges E) (a b : Key) (ks : List Key) (lists : ListsEdges from edges a ks) where
  pub edge_between : (x : Key) → Some x ≡ find (goes_to edges b) ks → (e : SeenEdge E) × (map.get edges x ≡ Some e) × (e.from ≡ a) × (e.to ≡ b)
  edge_between x is =
      let passes = first_passes (goes_to edges b) ks x is in
      let edge = listed_edge from edges a ks lists x passes.1 in
      (edge.0, edge.1, edge.2, grind (arith, same_or_other edge.0.to b, is_other edge.0.to b, edge.1, passes.0))

  pub none_between : None ≡ find (goes_to edges b) ks → HasEdge edges a b → ⊥
  none_between is has =
      let fails = none_passes (goes_to edges b) ks is has.0 (omega (arith, edge_listed from edges a ks lists has.0 has.1 has.2 has.3)) in
      absurd (grind (arith, fails, has.2, has.4, is_itself b))

-- a loop along the edges of a node: the keys that it passed, with a fact of each, and those ahead of it
pub record GoesAlong (all : List Key) (at : Option Key) (Passed : Key → Type 0) : Type 0 where
  pub passed : List Key
  pub ahead : List Key
  pub list : all ≡ passed ++ ahead
  pub here : at ≡ first_or ahead None
  pub once : (k : Key) → times k all ≤ 1
  pub each : (k : Key) → 0 < times k passed → Passed k

-- how many keys are left from this one on
abbrev pub left_from : Key → List Key → ℕ
left_from k [] = 0
left_from k (q ∷ ks) = cond (is_key q k) (suc (length ks)) (left_from k ks)

abbrev pub left_along : Option Key → List Key → ℕ
left_along None ks = 0
left_along (Some k) ks = left_from k ks

-- a key of which there is none before
module _ (k : Key) (rest : List Key) where
  after_split : (before : List Key) → times k before ≡ 0 → key_after k (before ++ k ∷ rest) ≡ first_or rest None
  after_split [] none = grind (arith, is_itself k)
  after_split (q ∷ before) none = grind (arith, times_first k q before, after_split before)

  left_split : (before : List Key) → times k before ≡ 0 → left_from k (before ++ k ∷ rest) ≡ suc (length rest)
  left_split [] none = grind (arith, is_itself k)
  left_split (q ∷ before) none = grind (arith, times_first k q before, left_split before)

  -- the list without that key
  without_split : (before : List Key) → times k before ≡ 0 → times k rest ≡ 0 → without k (before ++ k ∷ rest) ≡ before ++ rest
  without_split [] none after = grind (arith, is_itself k, without_none k rest)
  without_split (q ∷ before) none after = grind (arith, times_first k q before, without_split before)

-- what stands first
first_is : (ks : List Key) (k : Key) → Some k ≡ first_or ks None → (rest : List Key) × (ks ≡ k ∷ rest)
first_is [] k is = absurd (cc)
first_is (q ∷ ks) k is = (ks, grind arith)

pub none_first : (ks : List Key) → None ≡ first_or ks None → ks ≡ []
none_first [] is = refl
none_first (q ∷ ks) is = absurd (cc)

pub along_start : {E : Type 0} (end : SeenEdge E → Key) (edges : Edges E) (node : Key) (all : List Key) → ListsEdges end edges node all → (at : Option Key)
    → at ≡ first_or all None → (Passed : Key → Type 0) → GoesAlong all at Passed
along_start end edges node all lists at is Passed = record { passed = []; ahead = all; list = refl; here = is; once = listed_once end edges node all lists; each = λ k more. absurd (omega arith) }

module _ (all : List Key) (k : Key) (Passed : Key → Type 0) (along : GoesAlong all (Some k) Passed) where
  rest_of : (rest : List Key) × (along.ahead ≡ k ∷ rest)
  rest_of = first_is along.ahead k along.here

  whole : all ≡ along.passed ++ k ∷ rest_of.0
  whole = along.list ∙ ap (λ l. along.passed ++ l) rest_of.1

  not_passed : times k along.passed ≡ 0
  not_passed = omega (arith, along.once k, ap (times k) whole ∙ in_midst along.passed k rest_of.0)

  next_is : key_after k all ≡ first_or rest_of.0 None
  next_is = ap (key_after k) whole ∙ after_split k rest_of.0 along.passed not_passed

  -- the edge is one of the node's
  pub along_here : 0 < times k all
  along_here = omega (arith, ap (times k) whole ∙ in_midst along.passed k rest_of.0)

  pub along_next : (next : Option Key) → next ≡ key_after k all → (New : Key → Type 0) → New k → ((q : Key) → q ≢ k → Passed q → New q) → GoesAlong all next New
  along_next next is New holds still = record {
    passed = along.passed ++ k ∷ [];
    ahead = rest_of.0;
    list = whole ∙ sym (append_assoc along.passed (k ∷ []) rest_of.0);
    here = is ∙ next_is;
    once = along.once;
    each = λ q more. grind (arith, same_or_other q k, holds, still q, along.each q, times_pushed q along.passed k, one_other k q);
  }

  pub along_less : (next : Option Key) → next ≡ key_after k all → left_along next all < left_along (Some k) all
  along_less next is = by rest_of.0 whole (grind (arith, whole, left_split k rest_of.0 along.passed not_passed)) (is ∙ next_is)
    where
      by : (rest : List Key) → all ≡ along.passed ++ k ∷ rest → left_from k all ≡ suc (length rest) → next ≡ first_or rest None → left_along next all < left_from k all
      by [] all_is now at = omega (arith, ap (λ o. left_along o all) at)
      by (q ∷ rest) all_is now at = let split : all ≡ (along.passed ++ k ∷ []) ++ q ∷ rest = all_is ∙ sym (append_assoc along.passed (k ∷ []) (q ∷ rest)) in
          grind (arith, at, split, along.once q, in_midst (along.passed ++ k ∷ []) q rest, left_split q rest (along.passed ++ k ∷ []), now)

  -- the loop took the next edge first, and then removed this one
  not_ahead : times k rest_of.0 ≡ 0
  not_ahead = omega (arith, along.once k, ap (times k) whole ∙ in_midst along.passed k rest_of.0)

  removed : without k all ≡ along.passed ++ rest_of.0
  removed = ap (without k) whole ∙ without_split k rest_of.0 along.passed not_passed not_ahead

  fewer : (q : Key) → times q (without k all) ≤ 1
  fewer q = omega (
    arith,
    along.once q,
    ap (times q) whole ∙ times_joined q along.passed (k ∷ rest_of.0),
    times_first q k rest_of.0,
    ap (times q) removed ∙ times_joined q along.passed rest_of.0,
  )

  pub along_removed : (next : Option Key) → next ≡ key_after k all → (New : Key → Type 0) → ((q : Key) → q ≢ k → Passed q → New q) → GoesAlong (without k all) next New
  along_removed next is New still = record {
    passed = along.passed;
    ahead = rest_of.0;
    list = removed;
    here = is ∙ next_is;
    once = fewer;
    each = λ q more. still q (λ at. omega (arith, more, not_passed, ap (λ x. times x along.passed) at)) (along.each q more);
  }

  pub removed_less : (next : Option Key) → next ≡ key_after k all → left_along next (without k all) < left_along (Some k) all
  removed_less next is = by rest_of.0 whole removed (grind (arith, whole, left_split k rest_of.0 along.passed not_passed)) (is ∙ next_is)
    where
      by : (rest : List Key) → all ≡ along.passed ++ k ∷ rest → without k all ≡ along.passed ++ rest → left_from k all ≡ suc (length rest) → next ≡ first_or rest None
          → left_along next (without k all) < left_from k all
      by [] all_is left now at = omega (arith, ap (λ o. left_along o (without k all)) at)
      by (q ∷ rest) all_is left now at =
          let none : times q along.passed ≡ 0 = omega (
            arith,
            along.once q,
            ap (times q) all_is ∙ times_joined q along.passed (k ∷ q ∷ rest),
            times_first q k (q ∷ rest),
            times_first q q rest,
            one_itself q,
          ) in
          grind (arith, at, left, left_split q rest along.passed none, now)

-- after the loop each edge of the node was passed
pub along_end : (all : List Key) (Passed : Key → Type 0) → GoesAlong all None Passed → (k : Key) → 0 < times k all → Passed k
along_end all Passed along k more = grind (arith, along.list, none_first along.ahead along.here, append-nil along.passed, along.each k)

-- after a loop that removed each edge that it passed, none is left
pub along_removed_all : (all : List Key) → GoesAlong all None (λ k. ⊥) → all ≡ []
along_removed_all [] along = refl
along_removed_all (k ∷ ks) along = absurd (along_end (k ∷ ks) (λ q. ⊥) along k (omega (arith, times_first k k ks, one_itself k)))

-- a loop that removes the first edge of a node, until there is none
less_without : (k : Key) (ks : List Key) → length (without k ks) ≤ length ks
less_without k [] = omega arith
less_without k (q ∷ ks) = grind (arith, less_without k ks)

pub first_less : (ks : List Key) (k : Key) → Some k ≡ first_or ks None → length (without k ks) < length ks
first_less [] k is = absurd (cc)
first_less (q ∷ ks) k is = grind (arith, ap (λ x. is_key x k) (sym (same_Some _ _ is)) ∙ is_itself k, less_without k ks)

-- a value that is written through the reference to it
module _ {E : Type 0} (edges : Content (SeenEdge E)) (k : Key) (v : E) where
  pub value_written : (e : SeenEdge E) → map.get (with_edge edges k v).live k ≡ Some e → e.value ≡ v
  value_written e found = grind (arith, get-insert_here edges.live k)

  pub others_unwritten : (q : Key) → q ≢ k → map.get (with_edge edges k v).live q ≡ map.get edges.live q
  others_unwritten q other = grind (arith, get-insert_other edges.live k)
