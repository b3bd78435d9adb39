-- The steps of a depth first search: a node is opened, an edge is followed, a node is left.
use Rattle.std.proofs.Common.{◌≡◌, ◌≢◌, ℕ, zero, suc, ◌+◌, ◌<◌, ◌≤◌, Bool, true, false, if◌then◌else◌, is_some, option_map, append-nil, append_assoc, Option}
use Rattle.std.proofs.Common.{Some, None, List, [], ◌∷◌, ◌++◌, length, map as list_map, reverse, refl, sym, ap, ◌∙◌, inl, inr, arith}
use Rattle.std.specs.List.{All}
use Rattle.std.specs.FinMap as map
use Rattle.std.proofs.lemmas.List.Elements.{All-cons, All-head, All-nil, All-tail, All-weaker}
use Rattle.std.proofs.lemmas.List.{map-append, reverse-append}
use Rattle.std.proofs.lemmas.Option.{same_Some}
use Rattle.slotmap.specs.Words.{IsBeside, IsContent, IsLive, Key, contains_key, get, put}
use Rattle.slotmap.proofs.Callers.{get-put_live, get-put_other, same_or_other, secondary}
use Rattle.slotmap_bounded.specs.KeyLists.{last_or, times}
use Rattle.slotmap_bounded.proofs.Counts.{as_many, one_itself, one_other, times_first, times_pushed}
use Rattle.slotmap_bounded.proofs.MapKeys.{key_there}
use Rattle.slotmap_links.specs.Lists.{first_or}
use Rattle.slotmap_graph.specs.Parts.{IsJoined, Seen, SeenEdge, edges_at, ends, from, key_after}
use Rattle.slotmap_graph.specs.Search.{HasEdge, HasNext, Leads}
use Rattle.slotmap_graph.proofs.Callers.{edge_listed, listed_edge}
use Rattle.slotmap_paths.specs.Depth.{IsPostOrder, keys_behind}
use Rattle.slotmap_paths.specs.Deepening.{Deepening, Enters, Found, IsOpen, OpenNode, SearchesFrom, ahead, edges_left, keys_from, open_node, open_nodes, opened_by, work_left}
use Rattle.slotmap_paths.specs.declared.depth.Open.{Open}
use Rattle.slotmap_paths.proofs.Candidates.{owed_one}
use Rattle.slotmap_paths.proofs.Orders.{leaves_by_open, order_left, order_none, order_opened}
use Rattle.slotmap_graph.proofs.Cycles.{leads_further}
use Rattle.slotmap_paths.proofs.CutLists.{ahead_all, behind_some, last_joined, next_inside, step_ahead}

module _ {N E : Type 0} (s : Seen N E) where
  pub deepening_start : (found : Found) → found ≡ map.empty → Deepening s found [] []
  deepening_start found empty = record {
    listed = λ x. grind (arith, secondary, empty);
    live = λ x had. absurd (grind (arith, secondary, empty, had));
    followed = All-nil (IsOpen s found);
    ended = λ x more. absurd (omega (arith, more));
    forward = tt;
    order = order_none s.edges.live;
  }

  open_kept : (found new : Found) → ((q : Key) → contains_key found q ≡ true → contains_key new q ≡ true) → (o : OpenNode) → IsOpen s found o → IsOpen s new o
  open_kept found new kept o is = record {
    next = is.next;
    goes = λ k e there at. elim (is.goes k e there at) [
      | inl ahead ↦ inl ahead
      | inr had ↦ inr (kept e.to had)
    ];
  }

  module _ (joined : IsJoined s) where
    once_out : (x k : Key) → times k (edges_at s.out x) ≤ 1
    once_out x k = grind (arith, joined.out x k)

    open_first : (found : Found) (x : Key) → IsOpen s found (x, first_or (edges_at s.out x) None)
    open_first found x = record {
      next = ap (λ ks. first_or ks None) (sym (ahead_all (edges_at s.out x)));
      goes = λ k e there at. inl (omega (arith, ap (times k) (ahead_all (edges_at s.out x)), edge_listed from s.edges.live x (edges_at s.out x) (joined.out x) k e there at));
    }

    -- its next edge is followed
    module _ (found : Found) (x k : Key) (is : IsOpen s found (x, Some k)) where
      there : 0 < times k (edges_at s.out x)
      there = next_inside k (edges_at s.out x) is.next

      step : (rest : List Key) × (keys_from k (edges_at s.out x) ≡ k ∷ rest) × (key_after k (edges_at s.out x) ≡ first_or rest None)
          × (ahead (key_after k (edges_at s.out x)) (edges_at s.out x) ≡ rest)
      step = step_ahead k (edges_at s.out x) (once_out x) there

      pub one_less : length (edges_left s.out (x, Some k)) ≡ 1 + length (edges_left s.out (x, key_after k (edges_at s.out x)))
      one_less = omega (arith, ap length step.1, ap length step.3)

      pub open_next : (new : Found) → ((q : Key) → contains_key found q ≡ true → contains_key new q ≡ true)
          → (e : SeenEdge E) → map.get s.edges.live k ≡ Some e → contains_key new e.to ≡ true → IsOpen s new (x, key_after k (edges_at s.out x))
      open_next new kept e edge had = record {
        next = step.2 ∙ ap (λ ks. first_or ks None) (sym step.3);
        goes = λ q d at begins. elim (is.goes q d at begins) [
          | inl ahead ↦ elim (same_or_other q k) [
            | inl one ↦ inr (let edges : d ≡ e = same_Some _ _ (sym at ∙ ap (map.get s.edges.live) one ∙ edge) in rw edges had)
            | inr other ↦ inl (omega (arith, ahead, ap (times q) step.1, times_first q k step.0, one_other k q (λ is. other (sym is)), ap (times q) step.3))
          ]
          | inr was ↦ inr (kept d.to was)
        ];
      }

    module _ (found : Found) (opened : List OpenNode) (left : List Key) (deep : Deepening s found opened left) where
      -- the nodes that are open have other edges to follow
      pub deepening_passed : (opened' : List OpenNode) → open_nodes opened' ≡ open_nodes opened → All (IsOpen s found) opened' → Deepening s found opened' left
      deepening_passed opened' same_nodes all = record {
        listed = rw same_nodes deep.listed;
        live = deep.live;
        followed = all;
        ended = deep.ended;
        forward = rw same_nodes deep.forward;
        order = rw same_nodes deep.order;
      }

      -- a node is opened
      module _ (y : Key) (unfound : contains_key found y ≡ false) (live : IsLive s.nodes y) (new : Found) (marked : contains_key new y ≡ true)
          (others : (q : Key) → q ≢ y → get new q ≡ get found q) where
        pub still_found : (q : Key) → contains_key found q ≡ true → contains_key new q ≡ true
        still_found q had = grind (arith, same_or_other q y, marked, others q, had)

        pub was_found : (q : Key) → q ≢ y → contains_key new q ≡ contains_key found q
        was_found q other = ap is_some (others q other)

        not_left : times y left ≡ 0
        not_left = grind (arith, deep.listed y, unfound)

        pub deepening_opened : (opened' : List OpenNode) → open_nodes opened' ≡ open_nodes opened → All (IsOpen s new) opened'
            → ((a : Key) → 0 < times a (open_nodes opened) → Leads s.edges.live a y) → Deepening s new ((y, first_or (edges_at s.out y) None) ∷ opened') left
        deepening_opened opened' same_nodes all leads = record {
          listed = λ x. elim (same_or_other x y) [
            | inl is ↦ rw is (grind (arith, deep.listed y, unfound, marked, one_itself y, times_first y y (open_nodes opened'), same_nodes))
            | inr other ↦ grind (arith, deep.listed x, was_found x other, one_other y x (λ is. other (sym is)), times_first x y (open_nodes opened'), same_nodes)
          ];
          live = λ x had. elim (same_or_other x y) [
            | inl is ↦ rw is live
            | inr other ↦ deep.live x (sym (was_found x other) ∙ had)
          ];
          followed = All-cons (IsOpen s new) (y, first_or (edges_at s.out y) None) opened' (open_first new y) all;
          ended = λ x more b join. still_found b (deep.ended x more b join);
          forward = rw same_nodes (leads, deep.forward);
          order = rw same_nodes (order_opened s.edges.live left (open_nodes opened) deep.order y not_left
              (λ a there n b path. leaves_by_open s.edges.live left (open_nodes opened) found deep.listed deep.ended a there n b path));
        }

    -- the node in front is left
    module _ (found : Found) (x : Key) (opened : List OpenNode) (left : List Key) (deep : Deepening s found ((x, None) ∷ opened) left) where
      here : IsOpen s found (x, None)
      here = All-head (IsOpen s found) (x, None) opened deep.followed

      not_left_yet : times x left ≡ 0
      not_left_yet = grind (arith, deep.listed x, times_first x x (open_nodes opened), one_itself x)

      all_found : HasNext s.edges.live x found
      all_found b join = elim (here.goes join.0 join.1 join.2 join.3) [
        | inl more ↦ absurd (omega (arith, more))
        | inr had ↦ rw (← join.4) had
      ]

      pub deepening_left : Deepening s found opened (left ++ x ∷ [])
      deepening_left = record {
        listed = λ q. omega (arith, deep.listed q, times_pushed q left x, times_first q x (open_nodes opened));
        live = deep.live;
        followed = All-tail (IsOpen s found) (x, None) opened deep.followed;
        ended = λ q more. elim (same_or_other q x) [
          | inl is ↦ rw is all_found
          | inr other ↦ deep.ended q (omega (arith, more, times_pushed q left x, one_other x q (λ is. other (sym is))))
        ];
        forward = deep.forward.1;
        order = order_left s.edges.live left (open_nodes opened) x deep.order not_left_yet deep.forward.0;
      }

-- a search from a node
module _ {N E : Type 0} (s : Seen N E) (joined : IsJoined s) (well : IsContent true s.nodes) (before : Found) (start : Key) where
  -- a mark of a live node
  module _ (found : Found) (beside : IsBeside s.nodes found) (y : Key) (live : IsLive s.nodes y) (new : Found) (puts : new ≡ put found y tt) where
    pub now_marked : contains_key new y ≡ true
    now_marked = rw puts (ap is_some (get-put_live true s.nodes well found beside y live tt))

    pub others_as_before : (q : Key) → q ≢ y → get new q ≡ get found q
    others_as_before q other = rw puts (get-put_other true s.nodes well found beside y live tt q other)

  pub visiting_start : (left : List Key) → Deepening s before [] left → IsLive s.nodes start → (new : Found) (opened : List OpenNode) → Enters s before [] start new opened
      → SearchesFrom s before start new opened left
  visiting_start left deep live new opened (inl was) = rw (was.1, was.2) (record {
    deepening = deep;
    kept = λ x had. had;
    begun = was.0;
    led = λ x had. inl had;
    opened_led = λ x more. absurd (omega (arith, more));
    last = λ new. absurd (grind (arith, new, was.0));
  })
  visiting_start left deep live new opened (inr enters) =
      let marked = now_marked before deep.live start live new enters.1 in
      let others = others_as_before before deep.live start live new enters.1 in
      rw enters.2 (record {
        deepening = deepening_opened s joined before [] left deep start enters.0 live new marked others [] refl (All-nil (IsOpen s new)) (λ a more. absurd (omega (arith, more)));
        kept = still_found s joined before [] left deep start enters.0 live new marked others;
        begun = marked;
        led = λ x had. elim (same_or_other x start) [
          | inl is ↦ inr (zero, sym is)
          | inr other ↦ inl (sym (was_found s joined before [] left deep start enters.0 live new marked others x other) ∙ had)
        ];
        opened_led = λ x more. elim (same_or_other x start) [
          | inl is ↦ (zero, sym is)
          | inr other ↦ absurd (omega (arith, more, times_first x start [], one_other start x (λ is. other (sym is))))
        ];
        last = λ new. last_joined left (start ∷ []) None;
      })

  -- a node is entered from the open ones, of which all lead to it
  module _ (found : Found) (opened : List OpenNode) (left : List Key) (v : SearchesFrom s before start found opened left) (y : Key) (live : IsLive s.nodes y)
      (leads : (a : Key) → 0 < times a (open_nodes opened) → Leads s.edges.live a y) (begun : Leads s.edges.live start y) (after : List OpenNode)
      (same_nodes : open_nodes after ≡ open_nodes opened) (some : (o : Option Key) → last_or (open_nodes opened) o ≡ last_or (open_nodes opened) None)
      (all : (new : Found) → ((q : Key) → contains_key found q ≡ true → contains_key new q ≡ true) → contains_key new y ≡ true → All (IsOpen s new) after) where
    pub visiting_entered : (new : Found) (opened' : List OpenNode) → Enters s found after y new opened' → SearchesFrom s before start new opened' left
    visiting_entered new opened' (inl was) = rw (was.1, was.2) (record {
      deepening = deepening_passed s joined found opened left v.deepening after same_nodes (all found (λ q had. had) was.0);
      kept = v.kept;
      begun = v.begun;
      led = v.led;
      opened_led = rw same_nodes v.opened_led;
      last = rw same_nodes v.last;
    })
    visiting_entered new opened' (inr enters) =
        let marked = now_marked found v.deepening.live y live new enters.1 in
        let others = others_as_before found v.deepening.live y live new enters.1 in
        let still = still_found s joined found opened left v.deepening y enters.0 live new marked others in
        rw enters.2 (record {
          deepening = deepening_opened s joined found opened left v.deepening y enters.0 live new marked others after same_nodes (all new still marked) leads;
          kept = λ x had. still x (v.kept x had);
          begun = still start v.begun;
          led = λ x had. elim (same_or_other x y) [
            | inl is ↦ inr (rw is begun)
            | inr other ↦ v.led x (sym (was_found s joined found opened left v.deepening y enters.0 live new marked others x other) ∙ had)
          ];
          opened_led = λ x more. elim (same_or_other x y) [
            | inl is ↦ rw is begun
            | inr other ↦ v.opened_led x (omega (arith, more, times_first x y (open_nodes after), one_other y x (λ is. other (sym is)), ap (times x) same_nodes))
          ];
          last = λ new. rw same_nodes (last_joined left (y ∷ open_nodes opened) None ∙ some (Some y)
              ∙ sym (some (last_or left None)) ∙ sym (last_joined left (open_nodes opened) None) ∙ v.last new);
        })

  -- an edge of the node in front is followed
  module _ (found : Found) (x k : Key) (opened : List OpenNode) (left : List Key) (v : SearchesFrom s before start found ((x, Some k) ∷ opened) left) where
    front_open : IsOpen s found (x, Some k)
    front_open = All-head (IsOpen s found) (x, Some k) opened v.deepening.followed

    pub next_listed : 0 < times k (edges_at s.out x)
    next_listed = next_inside k (edges_at s.out x) front_open.next

    pub next_edge : (e : SeenEdge E) × (map.get s.edges.live k ≡ Some e) × (e.from ≡ x)
    next_edge = listed_edge from s.edges.live x (edges_at s.out x) (joined.out x) k next_listed

    edge_there : HasEdge s.edges.live x (next_edge.0.to)
    edge_there = (k, next_edge.0, next_edge.1, next_edge.2, refl)

    leads_there : (a : Key) → 0 < times a (x ∷ open_nodes opened) → Leads s.edges.live a (next_edge.0.to)
    leads_there a more = elim (same_or_other a x) [
      | inl is ↦ rw is (suc zero, (x, refl, edge_there))
      | inr other ↦ leads_further s.edges.live a x (next_edge.0.to)
          (v.deepening.forward.0 a (omega (arith, more, times_first a x (open_nodes opened), one_other x a (λ is. other (sym is))))) edge_there
    ]

    module _ (new : Found) (opened' : List OpenNode) (to : Key) (a : Key) (ends_there : Some (a, to) ≡ option_map ends (map.get s.edges.live k))
        (enters : Enters s found ((x, key_after k (edges_at s.out x)) ∷ opened) to new opened') where
      to_is : next_edge.0.to ≡ to
      to_is = grind (arith, ends_there, next_edge.1)

      to_live : IsLive s.nodes to
      to_live = rw (← to_is) ((joined.ends k next_edge.0 next_edge.1).1)

      pub visiting_followed : SearchesFrom s before start new opened' left
      visiting_followed =
          visiting_entered found ((x, Some k) ∷ opened) left v to to_live (λ b more. rw (← to_is) (leads_there b more))
          (rw (← to_is) (leads_further s.edges.live start x (next_edge.0.to) (v.opened_led x (omega (arith, times_first x x (open_nodes opened), one_itself x))) edge_there))
          ((x, key_after k (edges_at s.out x)) ∷ opened) refl (λ o. refl)
          (λ later kept had. All-cons (IsOpen s later) (x, key_after k (edges_at s.out x)) opened
          (open_next s joined found x k front_open later kept next_edge.0 next_edge.1 (rw to_is had))
          (All-weaker (IsOpen s found) (IsOpen s later) (open_kept s found later kept) opened (All-tail (IsOpen s found) (x, Some k) opened v.deepening.followed)))
          new opened' enters

      pub work_followed : work_left s new opened' < work_left s found ((x, Some k) ∷ opened)
      work_followed = by enters
        where
          front : length (edges_left s.out (x, Some k)) ≡ 1 + length (edges_left s.out (x, key_after k (edges_at s.out x)))
          front = one_less s joined found x k front_open

          by : Enters s found ((x, key_after k (edges_at s.out x)) ∷ opened) to new opened' → work_left s new opened' < work_left s found ((x, Some k) ∷ opened)
          by (inl was) = rw (was.1, was.2) (omega (arith, front))
          by (inr enters) =
              let marked = now_marked found v.deepening.live to to_live new enters.1 in
              let others = others_as_before found v.deepening.live to to_live new enters.1 in
              let still = still_found s joined found ((x, Some k) ∷ opened) left v.deepening to enters.0 to_live new marked others in
              rw enters.2 (omega (
                arith,
                front,
                ap length (ahead_all (edges_at s.out to)),
                owed_one (λ q. 1 + length (edges_at s.out q)) (contains_key found) (contains_key new) still to enters.0 marked (map.keys s.nodes.live) (key_there s.nodes.live to to_live),
              ))

  -- the node in front is left
  module _ (found : Found) (x : Key) (opened : List OpenNode) (left : List Key) (v : SearchesFrom s before start found ((x, None) ∷ opened) left) where
    pub visiting_left : SearchesFrom s before start found opened (left ++ x ∷ [])
    visiting_left = record {
      deepening = deepening_left s joined found x opened left v.deepening;
      kept = v.kept;
      begun = v.begun;
      led = v.led;
      opened_led = λ q more. v.opened_led q (omega (arith, more, times_first q x (open_nodes opened)));
      last = rw (append_assoc left (x ∷ []) (open_nodes opened)) v.last;
    }

-- no node is open any more
module _ {N E : Type 0} (s : Seen N E) (found : Found) (left : List Key) (deep : Deepening s found [] left) where
  pub left_found : (x : Key) → times x left ≡ (if contains_key found x then 1 else 0)
  left_found x = omega (arith, deep.listed x)

  pub left_once : (x : Key) → times x left ≤ 1
  left_once x = grind (arith, left_found x)

  pub found_left : (x : Key) → contains_key found x ≡ true → 0 < times x left
  found_left x had = grind (arith, left_found x, had)

  pub left_there : (x : Key) → 0 < times x left → contains_key found x ≡ true
  left_there x more = grind (arith, left_found x, more)

  pub ended_order : IsPostOrder s.edges.live left
  ended_order a b after way =
      let all : left ++ [] ≡ left = append-nil left in
      rw all at (deep.order a b (behind_some a b left after) (omega (arith, after, ap (λ l. times b (keys_behind a l)) all)) way)

  -- all nodes were found
  module _ (all : (x : Key) → IsLive s.nodes x → contains_key found x ≡ true) where
    pub ended_all : (x : Key) → times x left ≡ (if map.contains_key s.nodes.live x then 1 else 0)
    ended_all x = by (map.contains_key s.nodes.live x) refl
      where
        by : (b : Bool) → map.contains_key s.nodes.live x ≡ b → times x left ≡ (if b then 1 else 0)
        by true is = left_found x ∙ ap (λ b. if b then 1 else 0) (all x is)
        by false is = none (contains_key found x) refl
          where
            none : (b : Bool) → contains_key found x ≡ b → times x left ≡ 0
            none true had = absurd (let live = deep.live x had in cc)
            none false had = left_found x ∙ ap (λ b. if b then 1 else 0) had

    pub ended_count : length left ≡ map.len s.nodes.live
    ended_count = as_many left s.nodes.live left_once (λ k more. deep.live k (left_there k more)) (λ k live. found_left k (all k live))

-- a search from a node ended, where none was found before
module _ {N E : Type 0} (s : Seen N E) (start : Key) (found : Found) (left : List Key) (v : SearchesFrom s map.empty start found [] left) where
  pub visited_led : (x : Key) → 0 < times x left → Leads s.edges.live start x
  visited_led x more = elim (v.led x (left_there s found left v.deepening x more)) [
    | inl had ↦ absurd (grind (arith, secondary, had))
    | inr leads ↦ leads
  ]

  pub visited_all : (x : Key) → Leads s.edges.live start x → 0 < times x left
  visited_all x way = elim (leaves_by_open s.edges.live left [] found v.deepening.listed v.deepening.ended start (found_left s found left v.deepening start v.begun) way.0 x way.1) [
    | inl here ↦ here
    | inr by ↦ absurd (omega (arith, by.1))
  ]

-- the open nodes in their vector
module _ {K : Type 0} (data_of : K → Key) where
  pub opened_pushed : (items : List (Open K)) (o : Open K) → opened_by data_of (items ++ o ∷ []) ≡ open_node data_of o ∷ opened_by data_of items
  opened_pushed items o = ap reverse (map-append (open_node data_of) items (o ∷ [])) ∙ reverse-append (list_map (open_node data_of) items) (open_node data_of o ∷ [])

  pub opened_popped : (items rest : List (Open K)) (o : Open K) → items ≡ rest ++ o ∷ [] → opened_by data_of items ≡ open_node data_of o ∷ opened_by data_of rest
  opened_popped items rest o is = ap (opened_by data_of) is ∙ opened_pushed rest o

  -- by what the calls of a step leave
  module _ {N E : Type 0} (s : Seen N E) (joined : IsJoined s) (well : IsContent true s.nodes) (found : Found) (opened : List (Open K)) (left : List K) (at : Open K) where
    abbrev innermost : Key
    innermost = data_of at.node

    abbrev behind : List OpenNode
    behind = opened_by data_of opened

    abbrev done : List Key
    done = list_map data_of left

    abbrev IsVisiting : Found → Key → Type 0
    IsVisiting before start = SearchesFrom s before start found (open_node data_of at ∷ behind) done

    module _ (none : at.next ≡ None) where
      pub leaves_node : (now : List K) → now ≡ left ++ at.node ∷ [] → (before : Found) (start : Key) → IsVisiting before start
          → SearchesFrom s before start found behind (list_map data_of now)
      leaves_node now is before start v = rw (ap (list_map data_of) is ∙ map-append data_of left (at.node ∷ []))
          (visiting_left s joined well before start found innermost behind done (rw none at v))

    module _ (k : Key) (some : at.next ≡ Some k) (after : Option Key)
        (along : (node : Key) → 0 < times k (edges_at s.out node) → after ≡ key_after k (edges_at s.out node)) (mid : List (Open K))
        (stays : mid ≡ opened ++ record { node = at.node; next = after } ∷ []) (before : Found) (start : Key) (v : IsVisiting before start) where
      this : SearchesFrom s before start found ((innermost, Some k) ∷ behind) done
      this = rw some at v

      pub edge_here : (e : SeenEdge E) × (map.get s.edges.live k ≡ Some e) × (e.from ≡ innermost)
      edge_here = next_edge s joined well before start found innermost k behind done this

      mid_is : opened_by data_of mid ≡ (innermost, key_after k (edges_at s.out innermost)) ∷ behind
      mid_is = ap (opened_by data_of) stays ∙ opened_pushed opened (record { node = at.node; next = after })
          ∙ ap (λ o. (innermost, o) ∷ behind) (along innermost (next_listed s joined well before start found innermost k behind done this))

      module _ (a to : Key) (ends_there : Some (a, to) ≡ option_map ends (map.get s.edges.live k)) (new : Found) (opened' : List OpenNode)
          (enters : Enters s found (opened_by data_of mid) to new opened') where
        pub follows_edge : SearchesFrom s before start new opened' done
        follows_edge = visiting_followed s joined well before start found innermost k behind done this new opened' to a ends_there (rw mid_is at enters)

        pub follows_less : work_left s new opened' < work_left s found (open_node data_of at ∷ behind)
        follows_less = rw some (work_followed s joined well before start found innermost k behind done this new opened' to a ends_there (rw mid_is at enters))

-- one more node was visited
pub visited_more : {N E : Type 0} (s : Seen N E) (before found : Found) (y : Key) (left : List Key) → SearchesFrom s before y found [] left → (done : List Key)
    → ((x : Key) → 0 < times x done → contains_key before x ≡ true) → (x : Key) → 0 < times x (done ++ y ∷ []) → contains_key found x ≡ true
visited_more s before found y left v done so_far x more = elim (same_or_other x y) [
  | inl is ↦ rw is v.begun
  | inr other ↦ v.kept x (so_far x (omega (arith, more, times_pushed x done y, one_other y x (λ is. other (sym is)))))
]

-- a search from a node that may not be there
module _ {N E : Type 0} (s : Seen N E) (start : Key) (found : Found) (left : List Key) (none : map.contains_key s.nodes.live start ≡ false → left ≡ [])
    (visited : IsLive s.nodes start → SearchesFrom s map.empty start found [] left) where
  start_live : (x : Key) → 0 < times x left → IsLive s.nodes start
  start_live x more = by (map.contains_key s.nodes.live start) refl
    where
      by : (b : Bool) → map.contains_key s.nodes.live start ≡ b → IsLive s.nodes start
      by true is = is
      by false is = absurd (omega (arith, more, ap (times x) (none is)))

  pub from_once : (x : Key) → times x left ≤ 1
  from_once x = by (times x left) refl
    where
      by : (n : ℕ) → times x left ≡ n → times x left ≤ 1
      by zero is = omega (arith, is)
      by (suc n) is = left_once s found left (visited (start_live x (omega (arith, is)))).deepening x

  pub from_led : (x : Key) → 0 < times x left → Leads s.edges.live start x
  from_led x more = visited_led s start found left (visited (start_live x more)) x more

  pub from_all : (x : Key) → IsLive s.nodes start → Leads s.edges.live start x → 0 < times x left
  from_all x live way = visited_all s start found left (visited live) x way

  pub from_last : IsLive s.nodes start → last_or left None ≡ Some start
  from_last live = sym (ap (λ ks. last_or ks None) (append-nil left)) ∙ (visited live).last (grind (arith, secondary))

  pub from_order : IsPostOrder s.edges.live left
  from_order a b after way = ended_order s found left (visited (start_live a (behind_some a b left after))).deepening a b after way
