-- The steps of a search along the edges of a graph.
use Rattle.std.proofs.Common.{Result, Ok, Err, IfErr, OnOk, append_assoc, length, ◌++◌, option_map, ◌≡◌, ◌≢◌, ℕ, zero, suc, ◌+◌, ◌^◌, ◌<◌}
use Rattle.std.proofs.Common.{◌≤◌, ◌⊎◌, true, false, Option, Some, None, List, [], ◌∷◌, refl, sym, ap, ◌∙◌, inl, inr, arith}
use Rattle.std.specs.Cmp.{nat_cmp_total}
use Rattle.std.specs.FinMap as map
use Rattle.std.proofs.lemmas.Bool.Decides.{nat_tests}
use Rattle.slotmap.specs.Words.{IsBeside, IsLive, Key, Pairs, contains_key, get, put}
use Rattle.slotmap.proofs.Callers.{get-put_live, get-put_other, live_has_entry, same_or_other, secondary}
use Rattle.slotmap_bounded.specs.KeyLists.{times}
use Rattle.slotmap_bounded.proofs.Counts.{one_other, times_first}
use Rattle.slotmap_bounded.proofs.{Linking.in_midst, MapKeys.key_there}
use Rattle.slotmap_graph.specs.Parts.{Edges, IsJoined, ListsEdges, Seen, SeenEdge, edges_at, ends, from}
use Rattle.slotmap_graph.specs.Search.{LeadsBy}
use Rattle.slotmap_graph.proofs.Callers.{edge_listed, listed_edge}
use Rattle.slotmap_scheduler.specs.Schedule.{Waiting, job_of}
use Rattle.slotmap_paths.specs.Paths.{PathOf, TracedBelow, TracedBy}
use Rattle.slotmap_paths.specs.Costs.{HaveCosts, IsStep, IsSum, IsSumBy, RefusesPaths, distance, last_edge}
use Rattle.slotmap_paths.specs.Searching.{FindsPaths, FollowsEdge, GoesBeyond, IsLatest, Offers, Searching, Visiting, Waits, to_do}
use Rattle.slotmap_paths.specs.declared.PathError.{PathError}
use Rattle.slotmap_paths.specs.declared.PathError.TheVariants.{TooLong, Memory}
use Rattle.slotmap_paths.specs.declared.Reached.{Reached}
use Rattle.slotmap_paths.specs.declared.search.Candidate.{Candidate}
use Rattle.slotmap_paths.proofs.Settled.{traced_on, traced_path, settled_latest, settled_least, settling_passed, settling_pushed, settling_settled, settling_skipped, settling_start}
use Rattle.slotmap.proofs.TableLength.{beside_count}
use Rattle.slotmap_paths.proofs.Candidates.{first_waits, no_less, others_wait, owed_one}

-- by a clause of a call on its error, or on its success
pub if_err : {T X : Type 0} (P Q : X → Type 0) → ((e : X) → P e → Q e) → (r : Result T X) → IfErr r P → IfErr r Q
if_err P Q so (Ok v) is = tt
if_err P Q so (Err e) is = so e is

pub on_ok : {T X : Type 0} (P Q : Type 0) → (P → Q) → (r : Result T X) → OnOk r P → OnOk r Q
on_ok P Q so (Ok v) is = so is
on_ok P Q so (Err e) is = tt

-- what is there, or not
found_is : {V : Type 0} (m : Pairs V) (k : Key) → contains_key m k ≡ true → (v : V) × (get m k ≡ Some v)
found_is {V} m k there = elim (get m k) as (λ o. get m k ≡ o → (v : V) × (get m k ≡ Some v)) [
  | None ↦ λ is. absurd (grind (arith, there, is))
  | Some v ↦ λ is. (v, is)
] refl

none_is : {V : Type 0} (m : Pairs V) (k : Key) → contains_key m k ≡ false → get m k ≡ None
none_is {V} m k there = elim (get m k) as (λ o. get m k ≡ o → get m k ≡ None) [
  | None ↦ λ is. is
  | Some v ↦ λ is. absurd (grind (arith, there, is))
] refl

-- an edge goes one way, at one cost
same_step : {E : Type 0} (edges : Edges E) (costs : Pairs ℕ) (k a b p q : Key) (c d : ℕ) → IsStep edges costs k a b c → IsStep edges costs k p q d
    → (a ≡ p) × (b ≡ q) × (c ≡ d)
same_step {E} edges costs k a b p q c d one two =
    let one_edge : one.0 ≡ two.0 = grind (arith, one.1, two.1) in
    (sym one.2 ∙ ap (λ e. e.from) one_edge ∙ two.2, sym one.3 ∙ ap (λ e. e.to) one_edge ∙ two.3, grind (arith, one.4, two.4))

-- the edges of a path lead on, and those that lead on have a sum where each has a cost
module _ {E : Type 0} (edges : Edges E) (costs : Pairs ℕ) where
  pub sum_leads : (a : Key) (n : ℕ) (b : Key) (s : ℕ) → PathOf (IsStep edges costs) n a b s → LeadsBy edges n a b
  sum_leads a zero b s path = path.0
  sum_leads a (suc n) b s path = let step = path.5 in (path.0, sum_leads a n path.0 path.1 path.4, (path.2, step.0, step.1, step.2, step.3))

  leads_sum : HaveCosts edges costs → (a : Key) (n : ℕ) (b : Key) → LeadsBy edges n a b → (s : ℕ) × PathOf (IsStep edges costs) n a b s
  leads_sum have a zero b path = (0, (path, refl))
  leads_sum have a (suc n) b path =
      let before = leads_sum have a n path.0 path.1 in
      let join = path.2 in
      let cost = found_is costs join.0 (have join.0 join.1 join.2) in
      (before.0 + cost.0, (path.0, before.0, join.0, cost.0, before.1, (join.1, join.2, join.3, join.4, cost.1), refl))

-- where an edge begins and ends, by what the graph says
pub edge_there : {E : Type 0} (edges : Edges E) (k a b : Key) → Some (a, b) ≡ option_map ends (map.get edges k)
    → (e : SeenEdge E) × (map.get edges k ≡ Some e) × (e.from ≡ a) × (e.to ≡ b)
edge_there {E} edges k a b joins = elim (map.get edges k) as (λ o. map.get edges k ≡ o → (e : SeenEdge E) × (map.get edges k ≡ Some e) × (e.from ≡ a) × (e.to ≡ b)) [
  | None ↦ λ is. absurd (grind (arith, joins, is))
  | Some e ↦ λ is. (e, is, grind (arith, joins, is), grind (arith, joins, is))
] refl

-- where an edge leads, by what the graph and the table say
module _ {E : Type 0} (edges : Edges E) (costs : Pairs ℕ) (k : Key) where
  pub step_there : (a b : Key) (c : ℕ) → Some (a, b) ≡ option_map ends (map.get edges k) → get costs k ≡ Some c → (from : Key) × IsStep edges costs k from b c
  step_there a b c joins cost = let edge = edge_there edges k a b joins in (a, (edge.0, edge.1, edge.2, edge.3, cost))

  -- an edge in the list of a node begins there
  pub step_from : (node : Key) (ks : List Key) → ListsEdges from edges node ks → 0 < times k ks → (a b : Key) (c : ℕ) → IsStep edges costs k a b c → IsStep edges costs k node b c
  step_from node ks lists more a b c step = let listed = listed_edge from edges node ks lists k more in
      (step.0, step.1, grind (arith, listed.1, listed.2, step.1), step.3, step.4)

-- a walk along a list: what was passed, and what is ahead
module _ (passed ahead rest all : List Key) (k : Key) (so_far : passed ++ ahead ≡ all) (next : ahead ≡ k ∷ rest) where
  pub next_listed : 0 < times k all
  next_listed = omega (arith, ap (times k) (sym so_far ∙ ap (λ l. passed ++ l) next) ∙ in_midst passed k rest)

  pub walked_on : (passed ++ k ∷ []) ++ rest ≡ all
  walked_on = append_assoc passed (k ∷ []) rest ∙ ap (λ l. passed ++ l) (sym next) ∙ so_far

-- an error is refused where `TooLong` is
pub refuses : {E : Type 0} (edges : Edges E) (costs : Pairs ℕ) (most : ℕ) (start : Key) (e : PathError)
    → (e ≡ TooLong → RefusesPaths edges costs most start TooLong) → RefusesPaths edges costs most start e
refuses edges costs most start TooLong so = so refl
refuses edges costs most start Memory so = tt

module _ {K : Type 0} (data_of : K → Key) {N E : Type 0} (s : Seen N E) (costs : Pairs ℕ) (start : Key) where
  -- a node that was reached is live, if the start is
  traced_live : IsJoined s → IsLive s.nodes start → (settled : Pairs Reached) (n : ℕ) (b : Key) (d : ℕ) (by : Option Key)
      → TracedBy (IsStep s.edges.live costs) distance last_edge start (get settled) n b d by → IsLive s.nodes b
  traced_live joined live settled zero b d by t = rw t.0 live
  traced_live joined live settled (suc n) b d by t = let step = t.6 in rw (← step.3) ((joined.ends t.0 step.0 step.1).1)

  pub start_searching : (settled : Pairs Reached) → settled ≡ map.empty → (old new : Waiting (Candidate K)) → old ≡ [] → Waits data_of old new start 0 None
      → Searching data_of s.edges.live costs start settled new []
  start_searching settled empty old new none waits = settling_start (get settled) (map.len settled) (λ h. job_of h new)
      (λ b. rw empty (grind (arith, secondary))) waits.0 waits.1 waits.3 waits.5 waits.6 only (λ k. 0 < times k [])
    where
      only : (q : Key) (t : ℕ) (y : Candidate K) → job_of q new ≡ Some (t, y) → (t ≡ 0) × (y ≡ waits.1)
      only q t y is = elim (same_or_other q waits.0) [
        | inl same ↦ (let one : Some (t, y) ≡ Some (0, waits.1) = sym is ∙ ap (λ h. job_of h new) same ∙ waits.3 in (grind (arith, one), grind (arith, one)))
        | inr other ↦ absurd (let nothing : job_of q old ≡ None = rw none refl in grind (arith, waits.4 q other, is, nothing))
      ]

  -- the first candidate was taken out
  module _ (settled : Pairs Reached) (waiting : Waiting (Candidate K)) (t : ℕ) (x : Candidate K) (v : Visiting data_of s costs start settled waiting t x) where
    there : job_of v.handle v.before ≡ Some (t, x)
    there = ap (job_of v.handle) v.first ∙ first_waits v.handle t x waiting

    gone : job_of v.handle waiting ≡ None
    gone = (rw v.first at v.once).0

    others : (q : Key) → q ≢ v.handle → job_of q waiting ≡ job_of q v.before
    others q other = others_wait v.handle t x waiting q other ∙ ap (job_of q) (sym v.first)

    no_sooner : (q : Key) (u : ℕ) (y : Candidate K) → job_of q v.before ≡ Some (u, y) → t ≤ u
    no_sooner q u y is = elim (same_or_other q v.handle) [
      | inl same ↦ grind (arith, sym there ∙ ap (λ h. job_of h v.before) (sym same) ∙ is)
      | inr other ↦ no_less t waiting v.least q u y (others q other ∙ is)
    ]

    -- its node is settled already
    pub visit_skipped : contains_key settled (data_of x.node) ≡ true → Searching data_of s.edges.live costs start settled waiting []
    visit_skipped had = let found = found_is settled (data_of x.node) had in
        settling_skipped v.searching same_or_other (λ q. job_of q waiting) v.handle t x there gone others found.0 found.1

    beside : IsBeside s.nodes settled
    beside k had = let found = found_is settled k had in let trace = v.searching.traced k found.0 found.1 in
        traced_live v.joined v.begun settled trace.0 k (distance found.0) (last_edge found.0) trace.2

    live_here : IsLive s.nodes (data_of x.node)
    live_here = let trace = v.searching.tracing v.handle t x there in traced_live v.joined v.begun settled trace.0 (data_of x.node) t x.by trace.2

    -- its node is settled now
    module _ (unsettled : contains_key settled (data_of x.node) ≡ false) (settled' : Pairs Reached) (reached : Reached) (puts : settled' ≡ put settled (data_of x.node) reached)
        (at : reached.distance ≡ t) (by : reached.by ≡ x.by) where
      here : get settled' (data_of x.node) ≡ Some reached
      here = rw puts (get-put_live true s.nodes v.well settled beside (data_of x.node) live_here reached)

      -- no other key of its index is settled
      none_there : map.get settled (data_of x.node).index ≡ None
      none_there = elim (map.get settled (data_of x.node).index) as (λ o. map.get settled (data_of x.node).index ≡ o → o ≡ None) [
        | None ↦ λ is. refl
        | Some p ↦ λ is. absurd (let q : Key = record { index = (data_of x.node).index; version = p.0 } in
            let had : contains_key settled q ≡ true = grind (arith, nat_tests, is) in
            let same : q ≡ data_of x.node = v.well.apart q (data_of x.node) (inl (inl (beside q had))) (inl (inl live_here)) refl in
            grind (arith, unsettled, had, same))
      ] refl

      apart : (q : Key) → q ≢ data_of x.node → get settled' q ≡ get settled q
      apart q other = rw puts (get-put_other true s.nodes v.well settled beside (data_of x.node) live_here reached q other)

      one_more : map.len settled' ≡ suc (map.len settled)
      one_more = grind (arith, puts, live_has_entry true s.nodes v.well settled beside (data_of x.node) live_here, map.len-insert nat_cmp_total settled (data_of x.node).index, none_there)

      -- no more nodes are settled than there are
      pub visit_few : map.len settled' ≤ map.len s.nodes.live
      visit_few = beside_count s.nodes settled' (λ q had. elim (same_or_other q (data_of x.node)) [
        | inl same ↦ rw same live_here
        | inr other ↦ beside q (grind (arith, apart q other, had))
      ])

      pub visit_latest : IsLatest settled' (data_of x.node) t
      visit_latest = record {
        here = reached;
        there = here;
        at = at;
        others = settled_latest v.searching same_or_other (λ q. job_of q waiting) v.handle t x there gone others same_or_other no_sooner (none_is settled (data_of x.node) unsettled)
            (get settled') reached here at by apart;
      }

      pub visit_searching : Searching data_of s.edges.live costs start settled' waiting (edges_at s.out (data_of x.node))
      visit_searching =
          settling_settled v.searching same_or_other (λ q. job_of q waiting) v.handle t x there gone others same_or_other no_sooner (none_is settled (data_of x.node) unsettled)
          (get settled') reached here at by apart (map.len settled') one_more (λ k more. omega (arith, more)) (λ k. 0 < times k (edges_at s.out (data_of x.node)))
          (λ k b c step. omega (arith, edge_listed from s.edges.live (data_of x.node) (edges_at s.out (data_of x.node)) (v.joined.out (data_of x.node)) k step.0 step.1 step.2))

      -- what is settled stays
      still_settled : (q : Key) → contains_key settled q ≡ true → contains_key settled' q ≡ true
      still_settled q had = grind (arith, same_or_other q (data_of x.node), here, apart q, had)

      pub visit_less : (new : Waiting (Candidate K)) → length new ≤ length waiting + length (edges_at s.out (data_of x.node)) → to_do s settled' new ≤ to_do s settled waiting
      visit_less new few = omega (
        arith,
        few,
        owed_one (λ k. length (edges_at s.out k)) (contains_key settled) (contains_key settled') still_settled (data_of x.node) unsettled (grind (arith, here))
            (map.keys s.nodes.live) (key_there s.nodes.live (data_of x.node) live_here),
      )

  -- an edge of the node that was settled last is passed
  module _ (settled : Pairs Reached) (waiting : Waiting (Candidate K)) (node : Key) (t : ℕ) (latest : IsLatest settled node t) (k : Key) (rest left : List Key)
      (split : left ≡ k ∷ rest) (searching : Searching data_of s.edges.live costs start settled waiting left) where
    fewer : (q : Key) → 0 < times q left → (q ≡ k) ⊎ (0 < times q rest)
    fewer q more = elim (same_or_other q k) [
      | inl same ↦ inl same
      | inr other ↦ inr (omega (arith, more, ap (times q) split, times_first q k rest, one_other k q (λ is. other (sym is))))
    ]

    -- it has no cost
    pub passed_closed : ((a b : Key) (c : ℕ) → IsStep s.edges.live costs k a b c → ⊥) → Searching data_of s.edges.live costs start settled waiting rest
    passed_closed closed = settling_passed searching (λ k. 0 < times k rest) k fewer (λ a b c r is step. absurd (closed a b c step))

    -- it leads to this node
    module _ (to : Key) (cost : ℕ) (step : IsStep s.edges.live costs k node to cost) where
      traced_to : TracedBelow (IsStep s.edges.live costs) distance last_edge start (get settled) (suc (map.len settled)) to (t + cost) (Some k)
      traced_to = rw (← latest.at) (traced_on searching k node to cost latest.here latest.there step)

      pub leads_on : (most : ℕ) → map.len settled ≤ most → IsSumBy s.edges.live costs most start to (t + cost)
      leads_on most few = (traced_to.0, omega (arith, traced_to.1, few), traced_path (IsStep s.edges.live costs) distance last_edge start (get settled) traced_to.0 to (t + cost) (Some k) traced_to.2)

      -- each way to see this edge as a step is this one
      as_one : (a b : Key) (c : ℕ) (r : Reached) → get settled a ≡ Some r → IsStep s.edges.live costs k a b c → (b ≡ to) × (distance r + c ≡ t + cost)
      as_one a b c r is other =
          let same = same_step s.edges.live costs k a b node to c cost other step in
          let records : r ≡ latest.here = grind (arith, sym is ∙ ap (get settled) same.0 ∙ latest.there) in
          (same.1, omega (arith, ap distance records, latest.at, same.2))

      pub passed_settled : contains_key settled to ≡ true → Searching data_of s.edges.live costs start settled waiting rest
      passed_settled had = let found = found_is settled to had in
          settling_passed searching (λ k. 0 < times k rest) k fewer
          (λ a b c r is other. (let one = as_one a b c r is other in
          inl (found.0, ap (get settled) one.0 ∙ found.1, omega (arith, latest.others to found.0 found.1, one.1))))

      pub passed_waits : (new : Waiting (Candidate K)) → Waits data_of waiting new to (t + cost) (Some k) → Searching data_of s.edges.live costs start settled new rest
      passed_waits new waits =
          settling_passed pushed (λ k. 0 < times k rest) k fewer
          (λ a b c r is other. (let one = as_one a b c r is other in
          inr (waits.0, t + cost, waits.1, waits.3, waits.5 ∙ sym one.0, omega (arith, one.1))))
        where
          pushed : Searching data_of s.edges.live costs start settled new left
          pushed = settling_pushed searching same_or_other (λ q. job_of q new) waits.0 (t + cost) waits.1 waits.2 waits.3 waits.4
              (rw (waits.5, waits.6) traced_to) (λ b r is. omega (arith, latest.others b r is))

      pub passed_offer : (new : Waiting (Candidate K)) → Offers data_of settled waiting new to (t + cost) k → Searching data_of s.edges.live costs start settled new rest
      passed_offer new (inl had) = rw had.1 (passed_settled had.0)
      passed_offer new (inr waits) = passed_waits new waits

    -- by the contract of a call that follows it
    pub passed_follow : (ks : List Key) → ListsEdges from s.edges.live node ks → 0 < times k ks → (new : Waiting (Candidate K)) → FollowsEdge data_of s.edges.live costs settled waiting new t k
        → Searching data_of s.edges.live costs start settled new rest
    passed_follow ks lists there new (inl closed) = rw closed.1 (passed_closed closed.0)
    passed_follow ks lists there new (inr goes) =
        passed_offer goes.1 goes.2 (step_from s.edges.live costs k node ks lists there goes.0 goes.1 goes.2 goes.3) new goes.4

    pub beyond : (ks : List Key) → ListsEdges from s.edges.live node ks → 0 < times k ks → GoesBeyond s.edges.live costs t k
        → (most : ℕ) → map.len settled ≤ most → (b : Key) × (sum : ℕ) × IsSumBy s.edges.live costs most start b sum × (2 ^ 64 ≤ sum)
    beyond ks lists there goes most few =
        (goes.1, t + goes.2, leads_on goes.1 goes.2 (step_from s.edges.live costs k node ks lists there goes.0 goes.1 goes.2 goes.3) most few, goes.4)

  -- none waits, and no edge is left
  pub search_ended : (settled : Pairs Reached) (waiting : Waiting (Candidate K)) → waiting ≡ [] → IsJoined s → IsLive s.nodes start
      → Searching data_of s.edges.live costs start settled waiting [] → FindsPaths s.nodes s.edges.live costs start settled
  search_ended settled waiting none joined live searching = record {
    traced = searching.traced;
    least = λ x sum begun path. settled_least searching (λ k more. omega (arith, more)) (λ q. rw none refl) path.0 x sum path.1;
    all = λ have x begun path. (let sum = leads_sum s.edges.live costs have start path.0 x path.1 in
        let found = settled_least searching (λ k more. omega (arith, more)) (λ q. rw none refl) path.0 x sum.0 sum.1 in grind (arith, found.1));
    live = λ x had. (let found = found_is settled x had in let trace = searching.traced x found.0 found.1 in
        traced_live joined live settled trace.0 x (distance found.0) (last_edge found.0) trace.2);
    begun = λ x r is. live;
  }

  -- the start isn't there
  pub none_found : (settled : Pairs Reached) → settled ≡ map.empty → map.contains_key s.nodes.live start ≡ false → FindsPaths s.nodes s.edges.live costs start settled
  none_found settled empty gone = record {
    traced = λ x r is. absurd (nothing x r is);
    least = λ x sum live path. absurd (grind (arith, live, gone));
    all = λ have x live path. absurd (grind (arith, live, gone));
    live = λ x had. (let found = found_is settled x had in absurd (nothing x found.0 found.1));
    begun = λ x r is. absurd (nothing x r is);
  }
    where
      nothing : (x : Key) (r : Reached) → get settled x ≡ Some r → ⊥
      nothing x r is = let none : get settled x ≡ None = rw empty (grind (arith, secondary)) in absurd (grind (arith, none, is))
