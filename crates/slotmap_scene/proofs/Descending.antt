-- A walk down from a node: the keys that were listed, and those that are ahead.
use Rattle.std.proofs.Common.{◌++◌, ◌+◌, ◌<◌, ◌∷◌, ◌≡◌, ◌≢◌, ◌≤◌, ◌⊎◌}
use Rattle.slotmap_scene.proofs.Common.{All, All-cons, All-nil, GoesDown, IsScene, IsWithin, Key, List, Nodes, Some, StepsTo, [], all_below, ap, append-nil, append_assoc, arith, children_of}
use Rattle.slotmap_scene.proofs.Common.{eq-zero-or-pos, has_node, inl, inr, keys_down, length, length-append, list_map, no_more_than, one_itself, one_other, parent_of, refl, same, same_or_other}
use Rattle.slotmap_scene.proofs.Common.{as_many, cond, forgets, key_live, key_there, keys_once, lacks_node, length-map, option_map}
use Rattle.slotmap_scene.proofs.Common.{subst, suc, sym, times, times_first, times_joined, times_pushed, zero, ℕ, ◌∙◌}
use Rattle.slotmap_scene.proofs.Climbs.{has_parent, no_cycle}
use Rattle.slotmap_scene.proofs.Moved.{listed_few, listed_once, listed_parent}
use Rattle.std.specs.FinMap as map

-- what holds of each key that is listed
pub each_listed : {K : Type 0} (data_of : K → Key) (P : Key → Type 0) (xs : List K) → ((k : Key) → 0 < times k (list_map data_of xs) → P k)
    → All (λ x. P (data_of x)) xs
each_listed data_of P [] only = All-nil _
each_listed data_of P (x ∷ xs) only = All-cons (λ y. P (data_of y)) x xs
    (only (data_of x) (let first = times_first (data_of x) (data_of x) (list_map data_of xs) in let one = one_itself (data_of x) in omega arith))
    (each_listed data_of P xs (λ k more. only k (let first = times_first k (data_of x) (list_map data_of xs) in omega arith)))

module _ {T : Type 0} where
  module _ (nodes : Nodes T) (node : Key) where
    -- each key that was listed, or is ahead, is so once, and its parent is the node or was listed; and so is each child of these
    pub record Descending (listed ahead : List Key) : Type 0 where
      pub once : (k : Key) → times k listed + times k ahead ≤ 1
      named : (k : Key) → 0 < times k listed + times k ahead
          → (p : Key) × (parent_of nodes k ≡ Some p) × ((p ≡ node) ⊎ (0 < times p listed)) × IsWithin nodes p node
      closed : (k p : Key) → parent_of nodes k ≡ Some p → (p ≡ node) ⊎ (0 < times p listed) → 0 < times k listed + times k ahead

  module _ (nodes : Nodes T) (scene : IsScene nodes) (node : Key) where
    pub descending_start : Descending nodes node [] (children_of nodes node)
    descending_start = record {
      once = λ k. (let few = listed_few nodes scene.listed node k in omega arith);
      named = λ k more. (node, listed_parent nodes scene.listed node k (omega arith), inl refl, (zero, refl));
      closed = λ k p is from. elim from [
        | inl here ↦ (let one = listed_once nodes scene.listed node k (is ∙ ap Some here) in omega arith)
        | inr none ↦ absurd (omega arith)
      ];
    }

    module _ (listed ahead : List Key) (d : Descending nodes node listed ahead) where
      pub below_node : (k : Key) → 0 < times k listed + times k ahead → has_node nodes k × IsWithin nodes k node × (k ≢ node)
      below_node k more =
          let from = d.named k more in (
            has_parent nodes k from.0 from.1,
            (suc from.3.0, (from.0, (from.1, from.3.1))),
            λ is. no_cycle nodes scene.tree node from.0 (subst (λ x. parent_of nodes x ≡ Some from.0) is from.1) from.3,
          )

      -- the next key was ahead
      module _ (q : Key) (others : List Key) (is : ahead ≡ q ∷ others) where
        counted : (k : Key) → times k ahead ≡ same q k + times k others
        counted k = ap (times k) is ∙ times_first k q others

        after : (k : Key) → times k (listed ++ q ∷ []) + times k (children_of nodes q ++ others)
            ≡ times k listed + times k ahead + times k (children_of nodes q)
        after k = let a = times_pushed k listed q in let b = times_joined k (children_of nodes q) others in let c = counted k in omega arith

        next_ahead : 0 < times q listed + times q ahead
        next_ahead = let c = counted q in let one = one_itself q in omega arith

        not_listed : times q listed ≡ 0
        not_listed = let c = counted q in let one = one_itself q in let o = d.once q in omega arith

        -- no child of it was listed or ahead
        children_new : (k : Key) → 0 < times k (children_of nodes q) → times k listed + times k ahead ≡ 0
        children_new k more = elim (eq-zero-or-pos (times k listed + times k ahead)) [
          | inl none ↦ none
          | inr some ↦
              let from = d.named k some in
              let h = sym from.1 ∙ listed_parent nodes scene.listed q k more in
              let p_is : from.0 ≡ q = cc in
              elim from.2 [ inl at ↦ absurd ((below_node q next_ahead).2 (sym p_is ∙ at)) | inr was ↦ absurd (omega (arith, rw p_is at was, not_listed)) ]
        ]

        pub descending_step : Descending nodes node (listed ++ q ∷ []) (children_of nodes q ++ others)
        descending_step = record {
          once = λ k. elim (eq-zero-or-pos (times k (children_of nodes q))) [
            | inl none ↦ omega (arith, after k, d.once k)
            | inr some ↦ omega (arith, after k, children_new k some, listed_few nodes scene.listed q k)
          ];
          named = λ k more. elim (eq-zero-or-pos (times k (children_of nodes q))) [
            | inl none ↦
                let from = d.named k (omega (arith, after k)) in
                (from.0, from.1, elim from.2 [ inl at ↦ inl at | inr was ↦ inr (omega (arith, times_pushed from.0 listed q)) ], from.3)
            | inr some ↦ (q, listed_parent nodes scene.listed q k some, inr (omega (arith, times_pushed q listed q, one_itself q)), (below_node q next_ahead).1)
          ];
          closed = λ k p own from. elim from [
            | inl at ↦ omega (arith, after k, d.closed k p own (inl at))
            | inr some ↦ elim (same_or_other p q) [
              | inl here ↦ omega (arith, after k, listed_once nodes scene.listed q k (own ∙ ap Some here))
              | inr other ↦ omega (arith, after k, d.closed k p own (inr (omega (arith, times_pushed p listed q, one_other q p (λ e. other (sym e))))))
            ]
          ];
        }

        -- there is one more, and no more than there are nodes
        pub longer : length listed < map.len nodes
        longer = omega (
          arith,
          length-append listed (q ∷ []),
          no_more_than (listed ++ q ∷ []) nodes (λ k. omega (arith, descending_step.once k)) (λ k more. (below_node k (omega (arith, times_pushed k listed q, counted k))).0),
        )

    -- nothing is ahead
    module _ (listed : List Key) (done : Descending nodes node listed []) where
      steps_listed : (n : ℕ) (k : Key) → StepsTo nodes n k node → (k ≡ node) ⊎ (0 < times k listed)
      steps_listed zero k is = inl is
      steps_listed (suc n) k steps = inr (let more = done.closed k steps.0 steps.1.0 (steps_listed n steps.0 steps.1.1) in omega arith)

      pub all_listed : (k : Key) → IsWithin nodes k node → k ≢ node → 0 < times k listed
      all_listed k w apart = elim (steps_listed w.0 k w.1) [ inl is ↦ absurd (apart is) | inr more ↦ more ]

  -- these are the keys of all that is below a node
  pub record Descended (nodes : Nodes T) (node : Key) (listed : List Key) : Type 0 where
    pub order : GoesDown nodes (children_of nodes node) listed
    pub all : (k : Key) → IsWithin nodes k node → k ≢ node → 0 < times k listed
    pub only : (k : Key) → 0 < times k listed → has_node nodes k × IsWithin nodes k node × (k ≢ node)
    pub once : (k : Key) → times k listed ≤ 1

module _ {T : Type 0} (nodes : Nodes T) (scene : IsScene nodes) (node : Key) where
  -- the keys that are ahead are listed, with those below them, if there may be as many, and then nothing is ahead
  goes_down : (n : ℕ) (listed ahead : List Key) → Descending nodes node listed ahead → map.len nodes ≤ n + length listed
      → GoesDown nodes ahead (keys_down nodes n ahead) × Descending nodes node (listed ++ keys_down nodes n ahead) []
  goes_down zero listed [] d enough = (refl, rw (append-nil listed) d)
  goes_down zero listed (q ∷ others) d enough = absurd (omega (arith, longer nodes scene node listed (q ∷ others) d q others refl))
  goes_down (suc n) listed [] d enough = (refl, rw (append-nil listed) d)
  goes_down (suc n) listed (q ∷ others) d enough =
      let long = length-append listed (q ∷ []) in
      let next = descending_step nodes scene node listed (q ∷ others) d q others refl in
      let rest = goes_down n (listed ++ q ∷ []) (children_of nodes q ++ others) next (omega arith) in
      ((others, (refl, rest.0)), subst (λ l. Descending nodes node l []) (append_assoc listed (q ∷ []) (keys_down nodes n (children_of nodes q ++ others))) rest.1)

  all_down : GoesDown nodes (children_of nodes node) (all_below nodes node) × Descending nodes node (all_below nodes node) []
  all_down = goes_down (map.len nodes) [] (children_of nodes node) (descending_start nodes scene node) (omega arith)

  pub below_order : GoesDown nodes (children_of nodes node) (all_below nodes node)
  below_order = all_down.0

  pub below_once : (k : Key) → times k (all_below nodes node) ≤ 1
  below_once k = omega (arith, all_down.1.once k)

  pub below_all : (k : Key) → IsWithin nodes k node → k ≢ node → 0 < times k (all_below nodes node)
  below_all = all_listed nodes scene node (all_below nodes node) all_down.1

  pub below_only : (k : Key) → 0 < times k (all_below nodes node) → has_node nodes k × IsWithin nodes k node × (k ≢ node)
  below_only k more = below_node nodes scene node (all_below nodes node) [] all_down.1 k (omega arith)

  -- the node goes with all of these, and no other
  module _ (live : has_node nodes node) (new : Nodes T) (removed : (k : Key) → IsWithin nodes k node → lacks_node new k)
      (others : (k : Key) → (IsWithin nodes k node → ⊥) → map.get new k ≡ option_map (forgets node) (map.get nodes k)) where
    abbrev old_keys : List Key
    old_keys = (node ∷ all_below nodes node) ++ map.keys new

    left_often : (k : Key) → times k (map.keys new) ≡ cond (map.contains_key new k) 1 0
    left_often k = grind (arith, key_there new k, key_live new k, keys_once new k)

    old_often : (k : Key) → times k old_keys ≡ cond (map.contains_key nodes k) 1 0
    old_often k =
        let all = times_joined k (node ∷ all_below nodes node) (map.keys new) in
        let first = times_first k node (all_below nodes node) in
        elim (same_or_other k node) [
          | inl is ↦ grind (arith, all, first, left_often k, is, one_itself node, live, removed node (zero, refl), below_only node, below_once node)
          | inr other ↦ let apart = one_other node k (λ is. other (sym is)) in elim (eq-zero-or-pos (times k (all_below nodes node))) [
            | inl none ↦ grind (arith, all, first, left_often k, apart, none, others k (λ within. omega (arith, none, below_all k within other)))
            | inr more ↦ grind (arith, all, first, left_often k, apart, below_once k, below_only k more, removed k (below_only k more).1)
          ]
        ]

    pub fewer_nodes : map.len new + length (all_below nodes node) + 1 ≡ map.len nodes
    fewer_nodes =
        let many = as_many old_keys nodes (λ k. grind (arith, old_often k)) (λ k more. grind (arith, old_often k)) (λ k there. grind (arith, old_often k)) in
        omega (arith, many, length-append (node ∷ all_below nodes node) (map.keys new), map.len-entries new, length-map (map.entries new) (λ e. e.0))
