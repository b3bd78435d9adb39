-- A search from a node along the edges, and one back for an edge that closes a cycle: from a node to one before it, until one comes again.
use Rattle.slotmap_graph.proofs.Common.{append_assoc, length-append, contains_key, same_or_other, drop-append-le, times_first, times_joined, here_or_behind, no_more_than, times_pushed, ComesFromLeft}
use Rattle.slotmap_graph.proofs.Common.{◌∙◌, ⊎_elim, option_map, append-nil, IsBeside, secondary, one_itself, one_other, times_there, none_behind, SeenEdge, ListsEdges, same_Some, ClosesCycle}
use Rattle.slotmap_graph.proofs.Common.{false, length, get_or, is_some, arith, Content, IsLive, Pairs, times, Edges, HasEdge, LeadsBy, AllLed, HasNext, AreSeen, GoesOn, marked, IsLeft}
use Rattle.slotmap_graph.proofs.Common.{ℕ, zero, suc, Bool, true, Some, List, [], drop, refl, sym, ap, inl, inr, Key, get, from, to, Seen, Leads, Finds}
use Rattle.std.proofs.Common.{if◌then◌else◌, ◌≡◌, ◌≢◌, ◌+◌, ◌<◌, ◌≤◌, ◌⊎◌, ◌∷◌, ◌++◌}
use Rattle.std.specs.FinMap as map

module _ (seen : Pairs (Unit {0})) (found : List Key) (listed : AreSeen seen found) (x : Key) where
  seen_listed : contains_key seen x ≡ true → times x found ≡ 1
  seen_listed there = listed x ∙ ap (λ b. if b then 1 else 0) there

  pub unseen_unlisted : contains_key seen x ≡ false → times x found ≡ 0
  unseen_unlisted there = listed x ∙ ap (λ b. if b then 1 else 0) there

  pub listed_seen : 0 < times x found → contains_key seen x ≡ true
  listed_seen more = grind (arith, listed x)

  pub listed_once : times x found ≤ 1
  listed_once = grind (arith, listed x)

-- a mark keeps those that were marked
pub marked_keeps : (mid new : Pairs (Unit {0})) (k : Key) → contains_key new k ≡ true → ((q : Key) → q ≢ k → get new q ≡ get mid q) → (q : Key)
    → contains_key mid q ≡ true → contains_key new q ≡ true
marked_keeps mid new k marked others q had = grind (arith, same_or_other q k, marked, others q)

-- the edges of a node whose ends aren't among the nodes found are in this list
abbrev pub Pending : {E : Type 0} → Edges E → Key → List Key → Pairs (Unit {0}) → Type 0
Pending {E} edges node ks seen = (k : Key) (e : SeenEdge E) → map.get edges k ≡ Some e → e.from ≡ node → (0 < times k ks) ⊎ (contains_key seen e.to ≡ true)

module _ {E : Type 0} (edges : Edges E) (node : Key) where
  pub pending_start : (ks : List Key) (seen : Pairs (Unit {0})) → ListsEdges from edges node ks → Pending edges node ks seen
  pending_start ks seen lists k e there at = inl (grind (arith, lists k, one_itself node))

  pub pending_step : (ks rest : List Key) (x b : Key) (seen new : Pairs (Unit {0})) → ks ≡ x ∷ rest → option_map to (map.get edges x) ≡ Some b → contains_key new b ≡ true
      → ((q : Key) → contains_key seen q ≡ true → contains_key new q ≡ true) → Pending edges node ks seen → Pending edges node rest new
  pending_step ks rest x b seen new next arrives marked kept pending k d found at =
      grind (arith, same_or_other k x, one_other x k, times_first k x rest, next, arrives, marked, kept d.to, pending k d found at)

  pub pending_end : (ks : List Key) (seen : Pairs (Unit {0})) → ks ≡ [] → Pending edges node ks seen → HasNext edges node seen
  pending_end ks seen past pending b join = grind (arith, pending join.0 join.1 join.2 join.3, join.4)

module _ {N E : Type 0} (nodes : Content N) (edges : Edges E) (a : Key) (seen : Pairs (Unit {0})) (found : List Key) where
  pub finds_start : AreSeen seen found → IsBeside nodes seen → Finds nodes edges a seen found seen found
  finds_start listed live = record { listed = listed; live = live; behind = ([], sym (append-nil found)); kept = λ x there. there; led = λ start leads all. all }

  pub finds_step : (mid : Pairs (Unit {0})) (half : List Key) → Finds nodes edges a seen found mid half → (b : Key) → IsLive nodes b → HasEdge edges a b
      → (new : Pairs (Unit {0})) (now : List Key) → AreSeen new now → GoesOn half now → contains_key new b ≡ true → ((q : Key) → q ≢ b → get new q ≡ get mid q)
      → Finds nodes edges a seen found new now
  finds_step mid half finds b live join new now listed behind marked others = record {
    listed = listed;
    live = λ q had. grind (arith, same_or_other q b, live, others q, finds.live q);
    behind = (finds.behind.0 ++ behind.0, behind.1 ∙ ap (λ q. q ++ behind.0) finds.behind.1 ∙ append_assoc found finds.behind.0 behind.0);
    kept = λ q had. marked_keeps mid new b marked others q (finds.kept q had);
    led = λ start leads all q had. elim (same_or_other q b) [
      | inl is ↦ rw is (suc leads.0, (a, leads.1, join))
      | inr other ↦ finds.led start leads all q (ap is_some (sym (others q other)) ∙ had)
    ];
  }

pub are_none : (seen : Pairs (Unit {0})) (found : List Key) → seen ≡ map.empty → found ≡ [] → AreSeen seen found
are_none seen found empty none x = grind (arith, secondary, empty, none)

-- a search that went as far as the node at an index
pub record Searching {N E : Type 0} (nodes : Content N) (edges : Edges E) (start : Key) (seen : Pairs (Unit {0})) (found : List Key) (at : ℕ) : Type 0 where
  pub listed : AreSeen seen found
  pub live : IsBeside nodes seen
  pub begun : contains_key seen start ≡ true
  pub led : AllLed edges start seen
  pub done : (x : Key) → contains_key seen x ≡ true → (0 < times x (drop at found)) ⊎ HasNext edges x seen

module _ {N E : Type 0} (nodes : Content N) (edges : Edges E) (start : Key) where
  -- the start is marked, where none was
  pub searching_start : (none seen : Pairs (Unit {0})) (found : List Key) → none ≡ map.empty → IsLive nodes start → AreSeen seen found
      → contains_key seen start ≡ true → ((q : Key) → q ≢ start → get seen q ≡ get none q)
      → Searching nodes edges start seen found 0
  searching_start none seen found empty live listed begun others = record {
    listed = listed;
    live = λ q had. rw (only q had) live;
    begun = begun;
    led = λ q had. (zero, sym (only q had));
    done = λ x had. inl (omega (arith, seen_listed seen found listed x had));
  }
    where
      only : (q : Key) → contains_key seen q ≡ true → q ≡ start
      only q had = grind (arith, secondary, same_or_other q start, others q, empty)

  module _ (seen : Pairs (Unit {0})) (found : List Key) (at : ℕ) (searching : Searching nodes edges start seen found at) where
    pub searching_step : (a : Key) → at < length found → a ≡ get_or found at a → (new : Pairs (Unit {0})) (now : List Key)
        → Finds nodes edges a seen found new now → HasNext edges a new → Searching nodes edges start new now (at + 1)
    searching_step a below is new now finds next = record {
      listed = finds.listed;
      live = finds.live;
      begun = finds.kept start searching.begun;
      led = finds.led start (searching.led a (listed_seen seen found searching.listed a (times_there found at a below is))) searching.led;
      done = λ x had. by x had (contains_key seen x) refl;
    }
      where
        longer : drop (at + 1) now ≡ drop (at + 1) found ++ finds.behind.0
        longer = ap (drop (at + 1)) finds.behind.1 ∙ drop-append-le (at + 1) found finds.behind.0 (omega arith)

        still : (x : Key) → 0 < times x (drop (at + 1) found) → 0 < times x (drop (at + 1) now)
        still x some = omega (arith, ap (times x) longer ∙ times_joined x (drop (at + 1) found) finds.behind.0)

        by : (x : Key) → contains_key new x ≡ true → (b : Bool) → contains_key seen x ≡ b → (0 < times x (drop (at + 1) now)) ⊎ HasNext edges x new
        by x had true was = ⊎_elim
            (λ some. ⊎_elim (λ (one : x ≡ a). inr (rw one next)) (λ behind. inl (still x behind)) (here_or_behind found at a x below is some))
            (λ (goes : HasNext edges x seen). inr (λ b join. finds.kept b (goes b join))) (searching.done x was)
        by x had false was =
            let now_is = times_joined x found finds.behind.0 in
            let left = times_joined x (drop (at + 1) found) finds.behind.0 in
            inl (grind (arith, unseen_unlisted seen found searching.listed x was, seen_listed new now finds.listed x had, finds.behind.1, longer))

    module _ (past : length found ≤ at) where
      goes_on : (x : Key) → contains_key seen x ≡ true → HasNext edges x seen
      goes_on x had = ⊎_elim (λ more. absurd (none_behind found at x past more)) (λ (goes : HasNext edges x seen). goes) (searching.done x had)

      reached : (n : ℕ) (x : Key) → LeadsBy edges n start x → contains_key seen x ≡ true
      reached zero x is = rw (← is) searching.begun
      reached (suc n) x path = goes_on path.0 (reached n path.0 path.1) x path.2

      pub searching_all : (x : Key) → Leads edges start x → 0 < times x found
      searching_all x leads = omega (arith, seen_listed seen found searching.listed x (reached leads.0 x leads.1))

    pub searching_found : (x : Key) → 0 < times x found → IsLive nodes x × Leads edges start x
    searching_found x more = let had = listed_seen seen found searching.listed x more in (searching.live x had, searching.led x had)

-- a search found no more nodes than there are
pub searching_fits : {N E : Type 0} (nodes : Content N) (edges : Edges E) (start : Key) (seen : Pairs (Unit {0})) (found : List Key)
    (at : ℕ) → Searching nodes edges start seen found at → length found ≤ map.len nodes.live
searching_fits nodes edges start seen found at searching =
    no_more_than found nodes.live (λ x. listed_once seen found searching.listed x) (λ x more. (searching_found nodes edges start seen found at searching x more).0)

-- what holds of the keys of a list, and of one more
pub each_pushed : (P : Key → Type 0) (ks : List Key) (y : Key) → ((x : Key) → 0 < times x ks → P x) → P y → (x : Key) → 0 < times x (ks ++ y ∷ []) → P x
each_pushed P ks y each here x more = grind (arith, same_or_other x y, each x, times_pushed x ks y, one_other y x)

leads_from : {E : Type 0} (edges : Edges E) (y h x : Key) → HasEdge edges y h → (n : ℕ) → LeadsBy edges n h x → LeadsBy edges (suc n) y x
leads_from edges y h x join zero is = (y, refl, rw (← is) join)
leads_from edges y h x join (suc n) path = (path.0, leads_from edges y h path.0 join n path.1, path.2)

module _ {N E : Type 0} (s : Seen N E) (counts : Pairs ℕ) where
  -- an edge into y begins at p, for which n edges weren't passed
  module _ (y k p : Key) (n : ℕ) (begins : option_map from (map.get s.edges.live k) ≡ Some p) (count : get counts p ≡ Some n) where
    pub comes_left : (e : SeenEdge E) × (map.get s.edges.live k ≡ Some e) × (e.to ≡ y) → IsLive s.nodes p → 0 < n → ComesFromLeft s counts y k
    comes_left e live more = let is : e.0.from ≡ p = same_Some _ _ (sym (ap (option_map from) e.1) ∙ begins) in (e.0, e.1, e.2, rw is (live, n, count, more))

    pub comes_found : n ≤ 0 → ComesFromLeft s counts y k → ⊥
    comes_found none comes = grind (arith, comes.1, begins, comes.3.2, count, comes.3.3)

  -- this node wasn't found, and leads to each one that was passed
  pub record GoesBack (seen : Pairs (Unit {0})) (passed : List Key) (node : Key) : Type 0 where
    pub listed : AreSeen seen passed
    pub beside : IsBeside s.nodes seen
    pub left : IsLeft s counts node
    pub new : contains_key seen node ≡ false
    pub led : AllLed s.edges.live node seen

  pub back_start : (none : Pairs (Unit {0})) (passed : List Key) (start : Key) → none ≡ map.empty → passed ≡ [] → IsLeft s counts start → GoesBack none passed start
  back_start none passed start empty no_key left =
      let nothing : (q : Key) → contains_key none q ≡ false = λ q. grind (arith, secondary, empty) in
      grind (arith, are_none none passed empty no_key, left, nothing)

  -- the node is marked, and an edge leads to it from p
  module _ (seen : Pairs (Unit {0})) (passed : List Key) (node : Key) (back : GoesBack seen passed node) (new : Pairs (Unit {0})) (now : List Key) (listed : AreSeen new now)
      (others : (q : Key) → q ≢ node → get new q ≡ get seen q) where
    was_seen : (q : Key) → q ≢ node → contains_key new q ≡ true → contains_key seen q ≡ true
    was_seen q other had = ap is_some (sym (others q other)) ∙ had

    led_here : AllLed s.edges.live node new
    led_here q had = grind (arith, same_or_other q node, back.led q, was_seen q)

    beside_now : IsBeside s.nodes new
    beside_now q had = grind (arith, same_or_other q node, back.left.0, back.beside q, was_seen q)

    module _ (k p : Key) (comes : ComesFromLeft s counts node k) (begins : option_map from (map.get s.edges.live k) ≡ Some p) where
      from_is : comes.0.from ≡ p
      from_is = same_Some _ _ (sym (ap (option_map from) comes.1) ∙ begins)

      pub back_step : contains_key new p ≡ false → GoesBack new now p
      back_step unseen = record {
        listed = listed;
        beside = beside_now;
        left = rw (← from_is) comes.3;
        new = unseen;
        led = λ q had. (let old = led_here q had in (suc old.0, leads_from s.edges.live p node q (k, comes.0, comes.1, from_is, comes.2) old.0 old.1));
      }

      -- p was passed before
      pub back_end : contains_key new p ≡ true → ClosesCycle s.edges.live k
      back_end had = (comes.0, comes.1, rw (from_is, comes.2) (led_here p had))

    -- fewer nodes are left
    pub back_fits : now ≡ marked passed node → (length now ≡ length passed + 1) × (length now ≤ map.len s.nodes.live)
    back_fits is = (
      grind (arith, is, unseen_unlisted seen passed back.listed node back.new, length-append passed (node ∷ [])),
      no_more_than now s.nodes.live (λ q. listed_once new now listed q) (λ q more. beside_now q (listed_seen new now listed q more)),
    )
