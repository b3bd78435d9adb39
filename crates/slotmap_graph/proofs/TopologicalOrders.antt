-- An order of the nodes in which each edge goes forward: how it is found, and that there is a cycle where there is none.
use Rattle.slotmap_graph.proofs.Common.{◌∙◌, append_assoc, eq-zero-or-pos, take-append-le, sum_by-take-drop, contains_key, same_or_other, beside_empty, times_pushed, times_joined, ComesFromLeft}
use Rattle.slotmap_graph.proofs.Common.{option_map, append-nil, nat_tests, one_itself, one_other, times_first, times_there, behind_split, no_more_than, cons_not_nil, GoesForward, edges_out, passed_of}
use Rattle.slotmap_graph.proofs.Common.{length, get_or, nat_eq, is_some, take_all, split_at, in_midst, SeenEdge, IsJoined, edges_at, ends_at, LeadsBy, HasCycle, Sorting, Counting, key_live, key_there}
use Rattle.slotmap_graph.proofs.Common.{ℕ, zero, suc, Bool, true, false, Some, List, take, drop, refl, subst, arith, IsLive, Pairs, same, times, cut_at, Seen, Edges, ByNode, from, GoesOn, IsLeft}
use Rattle.slotmap_graph.proofs.Common.{[], sym, ap, inl, inr, Key, get, to, as_many, key_cmp}
use Rattle.std.proofs.Common.{if◌then◌else◌, ◌≡◌, ◌≢◌, ◌+◌, ◌-◌, ◌<◌, ◌≤◌, ◌⊎◌, ◌∷◌, ◌++◌}
use Rattle.slotmap_graph.proofs.Adjacent.{listed_edge, edge_listed, next_seen, taken}
use Rattle.std.specs.FinMap as map

-- one more node is counted
module _ {N E : Type 0} (s : Seen N E) (counts counts' : Pairs ℕ) (found found' done : List Key) (counting : Counting s counts found done) (y : Key) (live : IsLive s.nodes y)
    (new : times y done ≡ 0) (here : get counts' y ≡ Some (length (edges_at s.into y))) (others : (q : Key) → q ≢ y → get counts' q ≡ get counts q)
    (found_is : found' ≡ (if nat_eq (length (edges_at s.into y)) 0 then found ++ y ∷ [] else found)) where
  count_others : (q : Key) → q ≢ y → times q found' ≡ times q found
  count_others q other = grind (arith, found_is, times_pushed q found y, one_other y q)

  count_here : times y found' ≡ (if nat_eq (length (edges_at s.into y)) 0 then 1 else 0)
  count_here = grind (arith, found_is, times_pushed y found y, one_itself y, counting.others y new)

  pub counting_step : Counting s counts' found' (done ++ y ∷ [])
  counting_step = record {
    beside = λ q there. grind (arith, same_or_other q y, live, others q, counting.beside q);
    table = λ q more. grind (arith, same_or_other q y, here, count_here, counting.table q, times_pushed q done y, one_other y q, others q, count_others q);
    others = λ q none. grind (arith, same_or_other q y, times_pushed q done y, one_itself y, count_others q, counting.others q);
  }

pub counting_none : {N E : Type 0} (s : Seen N E) (counts : Pairs ℕ) (found : List Key) → counts ≡ map.empty → found ≡ [] → Counting s counts found []
counting_none s counts found none empty = record { beside = beside_empty s.nodes counts none; table = λ y more. absurd (omega arith); others = λ y no. ap (times y) empty }

same_turned : (a b : Key) → same a b ≡ same b a
same_turned a b = grind (arith, same_or_other a b, one_other a b, one_other b a)

-- one more edge is passed
passed_more : (passed : List Key) (x : Key) (js : List Key) → passed_of (passed ++ x ∷ []) js ≡ passed_of passed js + times x js
passed_more passed x [] = refl
passed_more passed x (j ∷ js) = omega (arith, passed_more passed x js, times_pushed j passed x, times_first x j js, same_turned x j)

passed_none : (js : List Key) → passed_of [] js ≡ 0
passed_none [] = refl
passed_none (j ∷ js) = omega (arith, passed_none js)

module _ (passed : List Key) (once : (x : Key) → times x passed ≤ 1) where
  passed_most : (js : List Key) → passed_of passed js ≤ length js
  passed_most [] = omega arith
  passed_most (j ∷ js) = omega (arith, passed_most js, once j)

  -- not all were passed, if one was not
  passed_less : (x : Key) (js : List Key) → 0 < times x js → times x passed ≡ 0 → passed_of passed js < length js
  passed_less x [] more none = absurd (omega arith)
  passed_less x (j ∷ js) more none = grind (arith, same_or_other j x, passed_most js, times_first x j js, one_other j x, passed_less x js, once j)

module _ {N E : Type 0} (s : Seen N E) (joined : IsJoined s) where
  -- an edge is passed: the count of its end goes down, and its end comes into the list once no edge is left
  module _ (counts : Pairs ℕ) (found passed : List Key) (sorting : Sorting s counts found passed) (x : Key) (e : SeenEdge E) (there : map.get s.edges.live x ≡ Some e)
      (new : times x passed ≡ 0) (start : 0 < times e.from found) (live : IsLive s.nodes e.to) where
    in_list : times x (edges_at s.into e.to) ≡ 1
    in_list = edge_listed to s.edges.live e.to (edges_at s.into e.to) (joined.into e.to) x e there refl

    some_left : (n : ℕ) → get counts e.to ≡ Some n → 0 < n
    some_left n is = let entry = sorting.table e.to live in grind (arith, passed_less passed sorting.once x (edges_at s.into e.to), in_list, entry)

    can_pass : (n : ℕ) × (get counts e.to ≡ Some n) × (0 < n)
    can_pass = let entry = sorting.table e.to live in (entry.0, entry.1, some_left entry.0 entry.1)

    module _ (counts' : Pairs ℕ) (found' : List Key) (counted : (n : ℕ) → get counts e.to ≡ Some n → get counts' e.to ≡ Some (n - 1))
        (others : (q : Key) → q ≢ e.to → get counts' q ≡ get counts q)
        (found_is : (n : ℕ) → get counts e.to ≡ Some n → found' ≡ (if nat_eq n 1 then found ++ e.to ∷ [] else found)) where
      abbrev count : ℕ
      count = (sorting.table e.to live).0

      more_left : 0 < count
      more_left = some_left count (sorting.table e.to live).1

      not_yet : times e.to found ≡ 0
      not_yet = grind (arith, nat_tests, (sorting.table e.to live).3, more_left)

      -- the end of the edge comes into the list, or the list stays
      either : ((found' ≡ found ++ e.to ∷ []) × (count ≡ 1)) ⊎ ((found' ≡ found) × (nat_eq (count - 1) 0 ≡ false))
      either = grind (arith, nat_tests, found_is count (sorting.table e.to live).1, more_left)

      others_found : (q : Key) → q ≢ e.to → times q found' ≡ times q found
      others_found q other = grind (arith, either, times_pushed q found e.to, one_other e.to q)

      here_found : times e.to found' ≡ (if nat_eq (count - 1) 0 then 1 else 0)
      here_found = grind (arith, either, times_pushed e.to found e.to, one_itself e.to, not_yet)

      kept_found : (q : Key) → 0 < times q found → 0 < times q found'
      kept_found q more = grind (arith, same_or_other q e.to, not_yet, others_found q)

      once_pushed : (q : Key) → times q (passed ++ x ∷ []) ≤ 1
      once_pushed q = grind (arith, same_or_other q x, times_pushed q passed x, new, one_itself x, one_other x q, sorting.once q)

      -- each edge to a node that comes into the list was passed
      all_passed : count ≡ 1 → (j : Key) → 0 < times j (edges_at s.into e.to) → 0 < times j (passed ++ x ∷ [])
      all_passed one j there_too =
          grind (arith, passed_less (passed ++ x ∷ []) once_pushed j (edges_at s.into e.to), passed_more passed x (edges_at s.into e.to), (sorting.table e.to live).2, in_list)

      began_now : (k : Key) (d : SeenEdge E) → map.get s.edges.live k ≡ Some d → 0 < times k (passed ++ x ∷ []) → 0 < times d.from found
      began_now k d at more = grind (arith, same_or_other k x, there, times_pushed k passed x, one_other x k, sorting.began k d, start)

      forward_now : GoesForward s.edges.live found'
      forward_now k d before after at split = grind (arith, either, cut_at found (e.to ∷ []) before d.to after, sorting.forward k d before, at_end)
        where
          at_end : count ≡ 1 → (m : List Key) → before ≡ found ++ m → e.to ∷ [] ≡ m ++ d.to ∷ after → 0 < times d.from before
          at_end one [] is last = let same_end : d.to ≡ e.to = (cc) in let mine = edge_listed to s.edges.live e.to (edges_at s.into e.to) (joined.into e.to) k d at same_end in
              omega (arith, began_now k d at (all_passed one k (omega (arith, mine))), ap (times d.from) is ∙ times_joined d.from found [])
          at_end one (q ∷ m) is last = absurd (cons_not_nil m d.to after (cc))

      table_now : (y : Key) → IsLive s.nodes y
          → (n : ℕ) × (get counts' y ≡ Some n) × (n + passed_of (passed ++ x ∷ []) (edges_at s.into y) ≡ length (edges_at s.into y)) × (times y found' ≡ (if nat_eq n 0 then 1 else 0))
      table_now y y_live = elim (same_or_other y e.to) [
        | inl is ↦ rw is here
        | inr other ↦ (
            let entry = sorting.table y y_live in
            let none = joined.into y x ∙ ap (ends_at to y) there ∙ one_other e.to y (λ s. other (sym s)) in
            let sum = passed_more passed x (edges_at s.into y) in
            (entry.0, others y other ∙ entry.1, omega (arith, entry.2, none, sum), others_found y other ∙ entry.3))
      ]
        where
          here : (n : ℕ) × (get counts' e.to ≡ Some n) × (n + passed_of (passed ++ x ∷ []) (edges_at s.into e.to) ≡ length (edges_at s.into e.to))
              × (times e.to found' ≡ (if nat_eq n 0 then 1 else 0))
          here = let entry = sorting.table e.to live in let sum = passed_more passed x (edges_at s.into e.to) in let mine = in_list in
              let more = more_left in (count - 1, counted count entry.1, omega (arith, entry.2, sum, mine, more), here_found)

      live_now : (y : Key) → 0 < times y found' → IsLive s.nodes y
      live_now y more = grind (arith, same_or_other y e.to, live, others_found y, sorting.live y)

      sorting_step : Sorting s counts' found' (passed ++ x ∷ [])
      sorting_step = record { table = table_now; live = live_now; forward = forward_now; began = λ k d at more. kept_found d.from (began_now k d at more); once = once_pushed }

  -- all nodes were counted
  pub sorting_start : (counts : Pairs ℕ) (found : List Key) → Counting s counts found (map.keys s.nodes.live) → Sorting s counts found []
  sorting_start counts found counting = record {
    table = λ y live. (
        let entry = counting.table y (key_there s.nodes.live y live) in
        (length (edges_at s.into y), entry.0, omega (arith, passed_none (edges_at s.into y)), entry.1));
    live = λ y more. key_live s.nodes.live y (grind (arith, counting.others y));
    forward = λ k e before after at split. absurd (
        let there : 0 < times e.to found = (omega (arith, ap (times e.to) split ∙ in_midst before e.to after)) in
        let listed = edge_listed to s.edges.live e.to (edges_at s.into e.to) (joined.into e.to) k e at refl in
        grind (arith, nat_tests, counting.others e.to, counting.table e.to, none_in k (edges_at s.into e.to)));
    began = λ x e at more. absurd (omega arith);
    once = λ x. omega arith;
  }
    where
      none_in : (k : Key) (js : List Key) → length js ≡ 0 → times k js ≡ 1 → ⊥
      none_in k [] empty one = absurd (omega arith)
      none_in k (j ∷ js) empty one = absurd (omega arith)

-- each node is found once
module _ {N E : Type 0} (s : Seen N E) (counts : Pairs ℕ) (found passed : List Key) (sorting : Sorting s counts found passed) where
  pub found_once : (x : Key) → times x found ≤ 1
  found_once x = let entry = sorting.table x in grind (arith, nat_tests, sorting.live x, entry)

  pub found_fits : length found ≤ map.len s.nodes.live
  found_fits = no_more_than found s.nodes.live found_once sorting.live

-- a list that has each node once has as many as there are
pub all_found : {N : Type 0} (live : map.FinMap key_cmp N) (found : List Key) → ((x : Key) → times x found ≡ (if map.contains_key live x then 1 else 0)) → length found ≡ map.len live
all_found live found once = as_many found live (λ x. grind (arith, once x)) (λ x more. grind (arith, once x)) (λ x there. grind (arith, once x))

-- the outgoing edges of some nodes
module _ {N E : Type 0} (s : Seen N E) (joined : IsJoined s) where
  out_times : (ks : List Key) (x : Key) (e : SeenEdge E) → map.get s.edges.live x ≡ Some e → times x (edges_out s.out ks) ≡ times e.from ks
  out_times [] x e there = refl
  out_times (k ∷ ks) x e there =
      omega (arith, times_joined x (edges_at s.out k) (edges_out s.out ks), joined.out k x ∙ ap (ends_at from k) there, out_times ks x e there, times_first e.from k ks, same_turned e.from k)

  -- an edge that was not passed is the next one of a node whose edges were not passed before
  next_new : (done passed rest : List Key) (a x : Key) (e : SeenEdge E) → map.get s.edges.live x ≡ Some e → e.from ≡ a → times a done ≡ 0 → passed ++ x ∷ rest ≡ edges_at s.out a
      → times x (edges_out s.out done ++ passed) ≡ 0
  next_new done passed rest a x e there at none split =
      grind (arith, out_times done x e there, joined.out a x, one_itself a, times_joined x (edges_out s.out done) passed, in_midst passed x rest)

edges_out_more : (out : ByNode) (ks : List Key) (a : Key) → edges_out out (ks ++ a ∷ []) ≡ edges_out out ks ++ edges_at out a
edges_out_more out [] a = append-nil (edges_at out a)
edges_out_more out (k ∷ ks) a = grind (arith, edges_out_more out ks a, append_assoc (edges_at out k) (edges_out out ks) (edges_at out a))

-- an edge that was not passed
some_unpassed : (passed js : List Key) → passed_of passed js < length js → (j : Key) × (0 < times j js) × (times j passed ≡ 0)
some_unpassed passed [] less = absurd (omega arith)
some_unpassed passed (j ∷ js) less = elim (eq-zero-or-pos (times j passed)) [
  | inl none ↦ (j, omega (arith, times_first j j js, one_itself j), none)
  | inr there ↦ (let later = some_unpassed passed js (omega arith) in (later.0, omega (arith, times_first later.0 j js, later.1), later.2))
]

-- all edges of the nodes that were found were passed
module _ {N E : Type 0} (s : Seen N E) (counts : Pairs ℕ) (found : List Key) (sorting : Sorting s counts found (edges_out s.out found)) where
  pub each_counted : (y : Key) → IsLive s.nodes y → contains_key counts y ≡ true
  each_counted y live = ap is_some (sorting.table y live).1

  -- an edge leads to a node that wasn't found, from another one
  pub left_before : IsJoined s → (y : Key) → IsLeft s counts y → (k : Key) × ComesFromLeft s counts y k
  left_before joined y left =
      let entry = sorting.table y left.0 in
      let some = some_unpassed (edges_out s.out found) (edges_at s.into y) (grind (arith, entry.1, entry.2, left.2, left.3)) in
      let e = listed_edge to s.edges.live y (edges_at s.into y) (joined.into y) some.0 some.1 in
      let live = (joined.ends some.0 e.0 e.1).0 in
      let from = sorting.table e.0.from live in
      (some.0, (e.0, e.1, e.2, (live, from.0, from.1, grind (arith, nat_tests, from.3, out_times s joined found some.0 e.0 e.1, some.2))))

  -- where none is left, each node is in the list once
  each_once : ((y : Key) → IsLive s.nodes y → get counts y ≡ Some 0) → (x : Key) → times x found ≡ (if map.contains_key s.nodes.live x then 1 else 0)
  each_once none x = let entry = sorting.table x in grind (arith, nat_tests, sorting.live x, entry, none x)

-- what leads to a node of an order is before it
module _ {E : Type 0} (edges : Edges E) (ks : List Key) (forward : GoesForward edges ks) where
  led_before : (n : ℕ) (x y : Key) (before after : List Key) → ks ≡ before ++ y ∷ after → LeadsBy edges n x y → (x ≡ y) ⊎ (0 < times x before)
  led_before zero x y before after split is = inl is
  led_before (suc n) x y before after split path =
      let e = path.2 in
      let there : 0 < times path.0 before = rw (← e.3) (forward e.0 e.1 before after e.2 (split ∙ ap (λ q. before ++ q ∷ after) (sym e.4))) in
      let inner = split_at path.0 before there in
      let whole : ks ≡ inner.0 ++ path.0 ∷ (inner.1 ++ y ∷ after) = split ∙ ap (λ l. l ++ y ∷ after) inner.2 ∙ append_assoc inner.0 (path.0 ∷ inner.1) (y ∷ after) in
      let sum = ap (times x) inner.2 ∙ times_joined x inner.0 (path.0 ∷ inner.1) in
      elim (led_before n x path.0 inner.0 (inner.1 ++ y ∷ after) whole path.1) [ inl is ↦ inr (rw is there) | inr more ↦ inr (omega arith) ]

  -- so there is no cycle of nodes that are in it, each once
  no_cycle : ((x : Key) → times x ks ≤ 1) → ((k : Key) (e : SeenEdge E) → map.get edges k ≡ Some e → 0 < times e.to ks) → HasCycle edges → ⊥
  no_cycle once there cycle =
      let e = cycle.1.0 in
      let path = cycle.1.2 in
      let split = split_at e.to ks (there cycle.0 e cycle.1.1) in
      let inner = split_at e.from split.0 (forward cycle.0 e split.0 split.1 cycle.1.1 split.2) in
      let whole : ks ≡ inner.0 ++ e.from ∷ (inner.1 ++ e.to ∷ split.1) = split.2 ∙ ap (λ l. l ++ e.to ∷ split.1) inner.2 ∙ append_assoc inner.0 (e.from ∷ inner.1) (e.to ∷ split.1) in
      let led = led_before path.0 e.to e.from inner.0 (inner.1 ++ e.to ∷ split.1) whole path.1 in
      grind (arith, led, once e.to, split.2, in_midst split.0 e.to split.1, inner.2, times_joined e.to inner.0 (e.from ∷ inner.1))

-- a key that is in a list once isn't before its place
fresh_at : (ks : List Key) (i : ℕ) (k : Key) → i < length ks → k ≡ get_or ks i k → times k ks ≤ 1 → times k (take i ks) ≡ 0
fresh_at ks i k below is once = grind (arith, sum_by-take-drop (λ q. same q k) ks i, behind_split ks i k below is, times_first k k (drop (i + 1) ks), one_itself k)

goes_more : (b : Bool) (old found found' : List Key) (y : Key) → found' ≡ (if b then found ++ y ∷ [] else found) → GoesOn old found → GoesOn old found'
goes_more true old found found' y is goes = (goes.0 ++ y ∷ [], is ∙ ap (λ l. l ++ y ∷ []) goes.1 ∙ append_assoc old goes.0 (y ∷ []))
goes_more false old found found' y is goes = (goes.0, is ∙ goes.1)

-- the next edge of a node of the list goes to b
module _ {N E : Type 0} (s : Seen N E) (joined : IsJoined s) (old : List Key) (at : ℕ) (a : Key) (within : at < length old) (is : a ≡ get_or old at a) (once : times a old ≤ 1)
    (counts : Pairs ℕ) (found yielded ahead rest : List Key) (x b : Key) (goes : GoesOn old found) (sorting : Sorting s counts found (edges_out s.out (take at old) ++ yielded))
    (so_far : yielded ++ ahead ≡ edges_at s.out a) (next : ahead ≡ x ∷ rest) (arrives : option_map to (map.get s.edges.live x) ≡ Some b) (live : IsLive s.nodes b) where
  this : (v : E) × (map.get s.edges.live x ≡ Some (record { from = a; to = b; value = v }))
  this = next_seen s.edges.live a (edges_at s.out a) (joined.out a) yielded ahead rest x so_far next b arrives

  new : times x (edges_out s.out (take at old) ++ yielded) ≡ 0
  new = next_new s joined (take at old) yielded rest a x _ this.1 refl (fresh_at old at a within is once) (ap (λ l. yielded ++ l) (sym next) ∙ so_far)

  start : 0 < times a found
  start = omega (arith, times_there old at a within is, ap (times a) goes.1 ∙ times_joined a old goes.0)

  pub next_can_pass : (n : ℕ) × (get counts b ≡ Some n) × (0 < n)
  next_can_pass = can_pass s joined counts found _ sorting x _ this.1 new start live

  pub next_passed : (counts' : Pairs ℕ) (found' : List Key) → ((n : ℕ) → get counts b ≡ Some n → get counts' b ≡ Some (n - 1))
      → ((q : Key) → q ≢ b → get counts' q ≡ get counts q)
      → ((n : ℕ) → get counts b ≡ Some n → found' ≡ (if nat_eq n 1 then found ++ b ∷ [] else found))
      → GoesOn old found' × Sorting s counts' found' (edges_out s.out (take at old) ++ (yielded ++ x ∷ []))
  next_passed counts' found' counted others found_is =
      let can = next_can_pass in (
        goes_more (nat_eq can.0 1) old found found' b (found_is can.0 can.1) goes,
        rw (← append_assoc (edges_out s.out (take at old)) yielded (x ∷ [])) (sorting_step s joined counts found _ sorting x _ this.1 new start live counts' found' counted others found_is),
      )

-- all edges of the node were passed
pub pass_end : {N E : Type 0} (s : Seen N E) (old : List Key) (at : ℕ) (a : Key) → at < length old → a ≡ get_or old at a
    → (counts : Pairs ℕ) (found yielded : List Key) → GoesOn old found → yielded ≡ edges_at s.out a
    → Sorting s counts found (edges_out s.out (take at old) ++ yielded) → Sorting s counts found (edges_out s.out (take (at + 1) found))
pass_end s old at a within is counts found yielded goes all sorting =
    let front = take-append-le (at + 1) old goes.0 (omega (arith, within)) in
    grind (arith, front, goes.1, taken old at a within is, all, edges_out_more s.out (take at old) a, sorting)

-- the list has each node once, each edge goes forward in it, and there is no cycle
pub record IsOrder {N E : Type 0} (s : Seen N E) (found : List Key) : Type 0 where
  pub once : (x : Key) → times x found ≡ (if map.contains_key s.nodes.live x then 1 else 0)
  pub forward : GoesForward s.edges.live found
  pub acyclic : HasCycle s.edges.live → ⊥

-- the end of the list was reached: all edges of its nodes were passed
pub ended : {N E : Type 0} (s : Seen N E) (counts : Pairs ℕ) (found : List Key) (at : ℕ) → length found ≤ at → Sorting s counts found
    (edges_out s.out (take at found)) → Sorting s counts found (edges_out s.out found)
ended s counts found at past sorting = subst (λ l. Sorting s counts found (edges_out s.out l)) (take_all at found past) sorting

-- where no node is left, the list is an order
pub ordered : {N E : Type 0} (s : Seen N E) (joined : IsJoined s) (counts : Pairs ℕ) (found : List Key) → Sorting s counts found (edges_out s.out found)
    → ((y : Key) → IsLive s.nodes y → get counts y ≡ Some 0) → IsOrder s found
ordered s joined counts found sorting none =
    let once = each_once s counts found sorting none in
    let few = found_once s counts found (edges_out s.out found) sorting in
    record { once = once; forward = sorting.forward; acyclic = no_cycle s.edges.live found sorting.forward few (λ k e there. grind (arith, once e.to, joined.ends k e there)) }
