-- The nodes of a component are found, and components are put behind each other.
use Rattle.std.proofs.Common.{◌≡◌, ◌≢◌, ℕ, zero, suc, ◌+◌, ◌-◌, ◌<◌, ◌≤◌, ◌⊎◌, Bool, true, false}
use Rattle.std.proofs.Common.{if◌then◌else◌, is_some, option_map, Option, Some, None, List, [], ◌∷◌, ◌++◌, length}
use Rattle.std.proofs.Common.{get_or, take, drop, map as list_map, append-nil, append_assoc, refl, sym, ap, ◌∙◌, inl, inr, arith}
use Rattle.std.proofs.lemmas.List.{drop-append-le, get_or-map, length-map, take-append-drop}
use Rattle.std.proofs.lemmas.List.Elements.{All-append, All-cons, All-nil}
use Rattle.std.specs.List.{cons_option}
use Rattle.std.specs.FinMap as map
use Rattle.slotmap.specs.Words.{IsBeside, IsContent, IsLive, Key, contains_key, put}
use Rattle.slotmap.proofs.Callers.{get-put_live, get-put_other, same_or_other, secondary}
use Rattle.slotmap_bounded.specs.KeyLists.{same, times}
use Rattle.slotmap_bounded.proofs.Counts.{behind_split, here_or_behind, no_more_than, none_behind, one_itself, one_other, times_first, times_joined, times_pushed}
use Rattle.slotmap_graph.specs.Parts.{Edges, IsJoined, ListsEdges, Seen, SeenEdge, from, to}
use Rattle.slotmap_graph.specs.Search.{GoesOn, HasEdge, Leads, LeadsBy, ends_along}
use Rattle.slotmap_graph.proofs.Callers.{edge_listed, listed_edge}
use Rattle.slotmap_paths.specs.Components.{IsComponent, LeadOnward, times_in}
use Rattle.slotmap_paths.specs.Deepening.{Found}
use Rattle.slotmap_paths.specs.Gathering.{MarksOne, AreAdded, Collecting, FindsMore, Gathering, Gathers, HasPrevious, IsClosed, IsLast, StayMarked}
use Rattle.slotmap_paths.specs.Depth.{IsPostOrder, keys_behind}
use Rattle.slotmap_graph.proofs.Cycles.{leads_on}
use Rattle.slotmap_paths.proofs.CutLists.{behind_gone, behind_more}

-- the nodes where the edges of a list begin
module _ {E : Type 0} (edges : Edges E) where
  begin_there : (b : Key) (ks : List Key) → ((k : Key) → 0 < times k ks → (e : SeenEdge E) × (map.get edges k ≡ Some e) × (e.to ≡ b))
      → (a : Key) → 0 < times a (ends_along from edges ks) → HasEdge edges a b
  begin_there b [] each a more = absurd (omega (arith, more))
  begin_there b (k ∷ ks) each a more =
      let edge = each k (omega (arith, times_first k k ks, one_itself k)) in
      let first : ends_along from edges (k ∷ ks) ≡ edge.0.from ∷ ends_along from edges ks = ap (λ o. cons_option (option_map from o) (ends_along from edges ks)) edge.1 in
      elim (same_or_other (edge.0.from) a) [
        | inl is ↦ (k, edge.0, edge.1, is, edge.2)
        | inr other ↦ begin_there b ks (λ q there. each q (omega (arith, times_first q k ks, there))) a
            (omega (arith, more, ap (times a) first, times_first a (edge.0.from) (ends_along from edges ks), one_other (edge.0.from) a other))
      ]

  there_begin : (ks : List Key) (k : Key) (e : SeenEdge E) → 0 < times k ks → map.get edges k ≡ Some e → 0 < times e.from (ends_along from edges ks)
  there_begin [] k e more there = absurd (omega (arith, more))
  there_begin (q ∷ ks) k e more there = elim (same_or_other q k) [
    | inl is ↦ (let first : ends_along from edges (q ∷ ks) ≡ e.from ∷ ends_along from edges ks =
        ap (λ o. cons_option (option_map from o) (ends_along from edges ks)) (ap (map.get edges) is ∙ there) in
        omega (arith, ap (times e.from) first, times_first e.from e.from (ends_along from edges ks), one_itself e.from))
    | inr other ↦ (let rest = there_begin ks k e (omega (arith, more, times_first k q ks, one_other q k other)) there in
        by (map.get edges q) (ends_along from edges ks) e.from rest)
  ]
    where
      by : (o : Option (SeenEdge E)) (rest : List Key) (a : Key) → 0 < times a rest → 0 < times a (cons_option (option_map from o) rest)
      by None rest a more = more
      by (Some d) rest a more = omega (arith, more, times_first a d.from rest)

  module _ (b : Key) (ks : List Key) (lists : ListsEdges to edges b ks) (a : Key) where
    pub source_joins : 0 < times a (ends_along from edges ks) → HasEdge edges a b
    source_joins = begin_there b ks (λ k more. listed_edge to edges b ks lists k more) a

    pub join_source : HasEdge edges a b → 0 < times a (ends_along from edges ks)
    join_source join = rw (← join.3) (there_begin ks join.0 join.1 (omega (arith, edge_listed to edges b ks lists join.0 join.1 join.2 join.4)) join.2)

  -- what leads to a marked node is marked
  pub closed_way : (marks : Found) → IsClosed edges marks → (a : Key) (n : ℕ) (b : Key) → LeadsBy edges n a b → contains_key marks b ≡ true → contains_key marks a ≡ true
  closed_way marks closed a zero b is had = rw is had
  closed_way marks closed a (suc n) b path had = closed_way marks closed a n path.0 path.1 (closed b had path.0 path.2)

module _ (before marks : Found) (found : List Key) (added : AreAdded before marks found) (x : Key) where
  pub marked_before : contains_key before x ≡ true → contains_key marks x ≡ true
  marked_before had = grind (arith, added x, had)

  pub unmarked_before : 0 < times x found → contains_key before x ≡ false
  unmarked_before more = grind (arith, added x, more)

  pub marked_found : 0 < times x found → contains_key marks x ≡ true
  marked_found more = grind (arith, added x, more)

  pub found_marked : contains_key before x ≡ false → contains_key marks x ≡ true → 0 < times x found
  found_marked unmarked had = grind (arith, added x, unmarked, had)

  pub found_once : times x found ≤ 1
  found_once = grind (arith, added x)

module _ {N E : Type 0} (s : Seen N E) (well : IsContent true s.nodes) (before : Found) where
  -- a node is marked, and put behind the others
  module _ (marks : Found) (found : List Key) (added : AreAdded before marks found) (beside : IsBeside s.nodes marks) (y : Key) (live : IsLive s.nodes y) (new : Found) where
    now_marked : new ≡ put marks y tt → contains_key new y ≡ true
    now_marked puts = rw puts (ap is_some (get-put_live true s.nodes well marks beside y live tt))

    as_before : new ≡ put marks y tt → (q : Key) → q ≢ y → contains_key new q ≡ contains_key marks q
    as_before puts q other = rw puts (ap is_some (get-put_other true s.nodes well marks beside y live tt q other))

    module _ (now : List Key) where
      pub adds_added : MarksOne marks found y new now → AreAdded before new now
      adds_added (inl was) x = rw (was.1, was.2) (added x)
      adds_added (inr adds) x = elim (same_or_other x y) [
        | inl is ↦ rw is (grind (arith, added y, adds.0, adds.2, now_marked adds.1, times_pushed y found y, one_itself y))
        | inr other ↦ grind (arith, added x, adds.2, as_before adds.1 x other, times_pushed x found y, one_other y x (λ is. other (sym is)))
      ]

      pub adds_live : MarksOne marks found y new now → IsBeside s.nodes new
      adds_live (inl was) x had = beside x (rw was.1 at had)
      adds_live (inr adds) x had = elim (same_or_other x y) [
        | inl is ↦ rw is live
        | inr other ↦ beside x (sym (as_before adds.1 x other) ∙ had)
      ]

      pub adds_kept : MarksOne marks found y new now → StayMarked marks new
      adds_kept (inl was) x had = rw was.1 had
      adds_kept (inr adds) x had = elim (same_or_other x y) [
        | inl is ↦ rw is (now_marked adds.1)
        | inr other ↦ as_before adds.1 x other ∙ had
      ]

      pub adds_there : MarksOne marks found y new now → contains_key new y ≡ true
      adds_there (inl was) = rw was.1 was.0
      adds_there (inr adds) = now_marked adds.1

      adds_behind : MarksOne marks found y new now → GoesOn found now
      adds_behind (inl was) = ([], was.2 ∙ sym (append-nil found))
      adds_behind (inr adds) = (y ∷ [], adds.2)

      adds_only : MarksOne marks found y new now → (x : Key) → 0 < times x now → (0 < times x found) ⊎ (x ≡ y)
      adds_only (inl was) x more = inl (rw was.2 at more)
      adds_only (inr adds) x more = elim (same_or_other x y) [
        | inl is ↦ inr is
        | inr other ↦ inl (omega (arith, more, ap (times x) adds.2, times_pushed x found y, one_other y x (λ is. other (sym is))))
      ]

      pub adds_marked : MarksOne marks found y new now → (done : List Key) → ((x : Key) → 0 < times x done → contains_key marks x ≡ true) → (x : Key) → 0 < times x (done ++ y ∷ [])
          → contains_key new x ≡ true
      adds_marked adds done so_far x more = elim (same_or_other x y) [
        | inl is ↦ rw is (adds_there adds)
        | inr other ↦ adds_kept adds x (so_far x (omega (arith, more, times_pushed x done y, one_other y x (λ is. other (sym is)))))
      ]

  pub extends_start : (b : Key) (marks : Found) (found : List Key) → AreAdded before marks found → IsBeside s.nodes marks → FindsMore s before marks found b marks found
  extends_start b marks found added live = record { added = added; live = live; keys_behind = ([], sym (append-nil found)); kept = λ x had. had; joined = λ x more. inl more }

  pub extends_step : (b : Key) (marks : Found) (found : List Key) (mid : Found) (half : List Key) → FindsMore s before marks found b mid half
      → (y : Key) → IsLive s.nodes y → HasEdge s.edges.live y b
      → (new : Found) (now : List Key) → MarksOne mid half y new now → FindsMore s before marks found b new now
  extends_step b marks found mid half so_far y live join new now adds = record {
    added = adds_added mid half so_far.added so_far.live y live new now adds;
    live = adds_live mid half so_far.added so_far.live y live new now adds;
    keys_behind = (let more = adds_behind mid half so_far.added so_far.live y live new now adds in
        (so_far.keys_behind.0 ++ more.0, more.1 ∙ ap (λ q. q ++ more.0) so_far.keys_behind.1 ∙ append_assoc found so_far.keys_behind.0 more.0));
    kept = λ x had. adds_kept mid half so_far.added so_far.live y live new now adds x (so_far.kept x had);
    joined = λ x more. elim (adds_only mid half so_far.added so_far.live y live new now adds x more) [
      | inl old ↦ so_far.joined x old
      | inr is ↦ inr (rw is join)
    ];
  }

  -- the root is marked
  pub gathering_start : (root : Key) → IsBeside s.nodes before → contains_key before root ≡ false → IsLive s.nodes root
      → (marks : Found) (found : List Key) → MarksOne before [] root marks found → Gathering s before root marks found 0
  gathering_start root beside unmarked live marks found (inl was) = absurd (let both = sym was.0 ∙ unmarked in cc)
  gathering_start root beside unmarked live marks found (inr adds) =
      let start : AreAdded before before [] = λ x. omega arith in
      let one : found ≡ root ∷ [] = adds.2 in
      record {
        added = adds_added before [] start beside root live marks found (inr adds);
        live = adds_live before [] start beside root live marks found (inr adds);
        begun = omega (arith, ap (times root) one, times_first root root [], one_itself root);
        led = λ x more. elim (same_or_other x root) [
          | inl is ↦ (zero, is)
          | inr other ↦ absurd (omega (arith, more, ap (times x) one, times_first x root [], one_other root x (λ is. other (sym is))))
        ];
        passed = λ x more. inl more;
      }

  module _ (root : Key) (marks : Found) (found : List Key) (at : ℕ) (so_far : Gathering s before root marks found at) where
    pub gathering_step : (a : Key) → at < length found → a ≡ get_or found at a → (new : Found) (now : List Key) → FindsMore s before marks found a new now → HasPrevious s.edges.live a new
        → 0 < times a found → Gathering s before root new now (at + 1)
    gathering_step a below is new now more previous there = record {
      added = more.added;
      live = more.live;
      begun = omega (arith, so_far.begun, ap (times root) more.keys_behind.1, times_joined root found more.keys_behind.0);
      led = λ x now_there. elim (more.joined x now_there) [
        | inl old ↦ so_far.led x old
        | inr join ↦ leads_on s.edges.live x a root (suc zero, (x, refl, join)) (so_far.led a there)
      ];
      passed = λ x now_there. by x now_there (times x found) refl;
    }
      where
        longer : drop (at + 1) now ≡ drop (at + 1) found ++ more.keys_behind.0
        longer = ap (drop (at + 1)) more.keys_behind.1 ∙ drop-append-le (at + 1) found more.keys_behind.0 (omega (arith, below))

        by : (x : Key) → 0 < times x now → (n : ℕ) → times x found ≡ n → (0 < times x (drop (at + 1) now)) ⊎ HasPrevious s.edges.live x new
        by x now_there zero none = inl (omega (
          arith,
          now_there,
          none,
          ap (times x) more.keys_behind.1,
          times_joined x found more.keys_behind.0,
          ap (times x) longer,
          times_joined x (drop (at + 1) found) more.keys_behind.0,
        ))
        by x now_there (suc n) some = elim (so_far.passed x (omega (arith, some))) [
          | inl ahead ↦ elim (here_or_behind found at a x below is ahead) [
            | inl one ↦ inr (rw one previous)
            | inr later ↦ inl (omega (arith, later, ap (times x) longer, times_joined x (drop (at + 1) found) more.keys_behind.0))
          ]
          | inr passed ↦ inr (λ p join. more.kept p (passed p join))
        ]

    pub gathering_end : length found ≤ at → Gathers s before root marks found
    gathering_end past = record {
      added = so_far.added;
      live = so_far.live;
      begun = so_far.begun;
      led = so_far.led;
      previous = λ x more. elim (so_far.passed x more) [
        | inl ahead ↦ absurd (none_behind found at x past ahead)
        | inr passed ↦ passed
      ];
    }

    pub gathering_fits : length found ≤ map.len s.nodes.live
    gathering_fits = no_more_than found s.nodes.live (λ x. found_once before marks found so_far.added x) (λ x more. so_far.live x (marked_found before marks found so_far.added x more))

-- one more list
times_in_pushed : (x : Key) (kss : List (List Key)) (ks : List Key) → times_in x (kss ++ ks ∷ []) ≡ times_in x kss + times x ks
times_in_pushed x [] ks = omega arith
times_in_pushed x (qs ∷ kss) ks = omega (arith, times_in_pushed x kss ks)

some_there : (x : Key) (ks : List Key) → 0 < times x ks → 0 < length ks
some_there x [] more = absurd (omega (arith, more))
some_there x (k ∷ ks) more = omega arith

module _ {E : Type 0} (edges : Edges E) where
  onward_pushed : (kss : List (List Key)) (ks : List Key) → LeadOnward edges kss
      → ((a b : Key) → 0 < times_in a kss → 0 < times b ks → Leads edges b a → ⊥) → LeadOnward edges (kss ++ ks ∷ [])
  onward_pushed [] ks onward none = ((λ a b there more way. absurd (omega (arith, more))), tt)
  onward_pushed (qs ∷ kss) ks onward none = (
    (λ a b there more way. by a b there (times_in b kss) refl more way),
    onward_pushed kss ks onward.1 (λ a b there more way. none a b (omega (arith, there)) more way),
  )
    where
      by : (a b : Key) → 0 < times a qs → (n : ℕ) → times_in b kss ≡ n → 0 < times_in b (kss ++ ks ∷ []) → Leads edges b a → ⊥
      by a b there zero without more way = none a b (omega (arith, there)) (omega (arith, more, without, times_in_pushed b kss ks)) way
      by a b there (suc n) some more way = onward.0 a b there (omega (arith, some)) way

module _ {N E : Type 0} (s : Seen N E) where
  pub collecting_start : (marks : Found) → marks ≡ map.empty → Collecting s marks []
  collecting_start marks empty = record {
    once = λ x. grind (arith, secondary, empty);
    live = λ x had. absurd (grind (arith, secondary, empty, had));
    closed = λ b had. absurd (grind (arith, secondary, empty, had));
    each = All-nil (IsComponent s.edges.live);
    onward = tt;
  }

  -- the component of a node
  module _ (before : Found) (components : List (List Key)) (so_far : Collecting s before components) (root : Key) (last : IsLast s.edges.live before root)
      (marks : Found) (found : List Key) (gathers : Gathers s before root marks found) where
    closed_now : IsClosed s.edges.live marks
    closed_now b had = by (contains_key before b) refl
      where
        by : (t : Bool) → contains_key before b ≡ t → HasPrevious s.edges.live b marks
        by true was a join = marked_before before marks found gathers.added a (so_far.closed b was a join)
        by false was a join = gathers.previous b (found_marked before marks found gathers.added b was had) a join

    led_back : (b : Key) → 0 < times b found → Leads s.edges.live root b
    led_back b more = last b (unmarked_before before marks found gathers.added b more) (gathers.led b more)

    -- no path leads back to a component before
    none_back : (a b : Key) → contains_key before a ≡ true → 0 < times b found → Leads s.edges.live b a → ⊥
    none_back a b had more way = let both = sym (closed_way s.edges.live before so_far.closed b way.0 a way.1 had) ∙ unmarked_before before marks found gathers.added b more in absurd (cc)

    in_whole : (a b : Key) → 0 < times a found → Leads s.edges.live a b → Leads s.edges.live b a → 0 < times b found
    in_whole a b more way back = by (contains_key before b) refl
      where
        by : (t : Bool) → contains_key before b ≡ t → 0 < times b found
        by true was = absurd (none_back b a was more way)
        by false was = (let to_root = leads_on s.edges.live b a root back (gathers.led a more) in
            found_marked before marks found gathers.added b was
            (closed_way s.edges.live marks closed_now b to_root.0 root to_root.1 (marked_found before marks found gathers.added root gathers.begun)))

    is_component : IsComponent s.edges.live found
    is_component = record {
      some = some_there root found gathers.begun;
      together = λ a b more there. leads_on s.edges.live a root b (gathers.led a more) (led_back b there);
      whole = in_whole;
    }

    in_before : (a : Key) → 0 < times_in a components → contains_key before a ≡ true
    in_before a more = grind (arith, so_far.once a, more)

    pub collecting_pushed : Collecting s marks (components ++ found ∷ [])
    collecting_pushed = record {
      once = λ x. omega (arith, times_in_pushed x components found, so_far.once x, gathers.added x);
      live = gathers.live;
      closed = closed_now;
      each = All-append (IsComponent s.edges.live) components (found ∷ []) so_far.each (All-cons (IsComponent s.edges.live) found [] is_component (All-nil (IsComponent s.edges.live)));
      onward = onward_pushed s.edges.live components found so_far.onward (λ a b more there way. none_back a b (in_before a more) there way);
    }

  -- the last node of an order that isn't marked
  module _ (joined : IsJoined s) (order : List Key) (once : (x : Key) → times x order ≡ (if map.contains_key s.nodes.live x then 1 else 0))
      (in_order : IsPostOrder s.edges.live order) (marks : Found) (closed : IsClosed s.edges.live marks) (before : List Key) (x : Key) (rest : List Key)
      (split : order ≡ before ++ x ∷ rest) (done : (q : Key) → 0 < times q rest → contains_key marks q ≡ true) where
    begins_live : (b : Key) (n : ℕ) (c : Key) → LeadsBy s.edges.live n b c → IsLive s.nodes c → IsLive s.nodes b
    begins_live b zero c is live = rw is live
    begins_live b (suc n) c path live = let join = path.2 in begins_live b n path.0 path.1 (rw (← join.3) ((joined.ends join.0 join.1 join.2).0))

    times_split : (q : Key) → times q order ≡ times q before + (same x q + times q rest)
    times_split q = ap (times q) split ∙ times_joined q before (x ∷ rest) ∙ ap (λ n. times q before + n) (times_first q x rest)

    pub live_there : IsLive s.nodes x
    live_there = grind (arith, once x, times_split x, one_itself x)

    first_time : times x before ≡ 0
    first_time = grind (arith, once x, times_split x, one_itself x)

    pub is_last : IsLast s.edges.live marks x
    is_last b unmarked way = elim (same_or_other b x) [
      | inl is ↦ (zero, sym is)
      | inr other ↦ elim (in_order b x (behind_it other) way) [
        | inl back ↦ back
        | inr by ↦ absurd (let both = sym (closed_way s.edges.live marks closed b by.2.0 by.0 by.2.1 (done by.0 (rw (split, behind_gone x rest before first_time) at by.1))) ∙ unmarked in cc)
      ]
    ]
      where
        live_b : IsLive s.nodes b
        live_b = begins_live b way.0 x way.1 live_there

        not_done : times b rest ≡ 0
        not_done = none (times b rest) refl
          where
            none : (n : ℕ) → times b rest ≡ n → times b rest ≡ 0
            none zero is = is
            none (suc n) is = absurd (let both = sym (done b (omega (arith, is))) ∙ unmarked in cc)

        in_before : b ≢ x → 0 < times b before
        in_before other = grind (arith, once b, live_b, times_split b, not_done, one_other x b (λ is. other (sym is)))

        behind_it : b ≢ x → 0 < times x (keys_behind b order)
        behind_it other = omega (arith, ap (λ l. times x (keys_behind b l)) split, behind_more x rest b x before (in_before other), one_itself x)

-- all nodes are marked
module _ {N E : Type 0} (s : Seen N E) (marks : Found) (components : List (List Key)) (so_far : Collecting s marks components)
    (all : (x : Key) → IsLive s.nodes x → contains_key marks x ≡ true) where
  pub collected_all : (x : Key) → times_in x components ≡ (if map.contains_key s.nodes.live x then 1 else 0)
  collected_all x = by (map.contains_key s.nodes.live x) refl
    where
      none : map.contains_key s.nodes.live x ≡ false → (b : Bool) → contains_key marks x ≡ b → times_in x components ≡ 0
      none gone true had = absurd (let both = sym (so_far.live x had) ∙ gone in cc)
      none gone false had = so_far.once x ∙ ap (λ b. if b then 1 else 0) had

      by : (b : Bool) → map.contains_key s.nodes.live x ≡ b → times_in x components ≡ (if b then 1 else 0)
      by true is = so_far.once x ∙ ap (λ b. if b then 1 else 0) (all x is)
      by false is = none is (contains_key marks x) refl

-- the last node of an order before this place
module _ {K : Type 0} (data_of : K → Key) (order : List K) (left : ℕ) (node : K) (some : 0 < left) (within : left ≤ length order) (is : node ≡ get_or order (left - 1) node) where
  below : left - 1 < length (list_map data_of order)
  below = omega (arith, some, within, length-map order data_of)

  key_is : data_of node ≡ get_or (list_map data_of order) (left - 1) (data_of node)
  key_is = ap data_of is ∙ sym (get_or-map data_of order (left - 1) node (data_of node) (omega (arith, some, within)))

  next_place : left - 1 + 1 ≡ left
  next_place = omega (arith, some)

  pub last_split : list_map data_of order ≡ take (left - 1) (list_map data_of order) ++ data_of node ∷ drop left (list_map data_of order)
  last_split = sym (take-append-drop (left - 1) (list_map data_of order))
      ∙ ap (λ l. take (left - 1) (list_map data_of order) ++ l) (behind_split (list_map data_of order) (left - 1) (data_of node) below key_is
      ∙ ap (λ n. data_of node ∷ drop n (list_map data_of order)) next_place)

  pub last_or_behind : (x : Key) → 0 < times x (drop (left - 1) (list_map data_of order)) → (x ≡ data_of node) ⊎ (0 < times x (drop left (list_map data_of order)))
  last_or_behind x more = elim (here_or_behind (list_map data_of order) (left - 1) (data_of node) x below key_is more) [
    | inl here ↦ inl here
    | inr later ↦ inr (omega (arith, later, ap (λ n. times x (drop n (list_map data_of order))) next_place))
  ]
