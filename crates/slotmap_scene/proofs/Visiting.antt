-- A walk that enters and leaves: what comes behind each visit.
use Rattle.std.proofs.Common.{◌++◌, ◌+◌, ◌<◌, ◌∷◌, ◌≡◌, ◌≢◌, ◌≤◌}
use Rattle.slotmap_scene.proofs.Common.{ClimbsTo, IsScene, IsWithin, Key, List, Nodes, None, Option, Some, StepsTo, [], ap, append-nil, append_assoc}
use Rattle.slotmap_scene.proofs.Common.{arith, behind, children_of, children_under, first_or, has_node, cond, in_midst, is_itself, is_key, is_other}
use Rattle.slotmap_scene.proofs.Common.{parent_of, refl, siblings_of, split_at, subst, suc, sym, times, times_first, one_itself, zero, ℕ, ◌∙◌}
use Rattle.slotmap_scene.proofs.ChildLists.{behind_listed}
use Rattle.slotmap_scene.proofs.Climbs.{has_parent, no_cycle, parent_there, short, steps_sum}
use Rattle.slotmap_scene.proofs.Moved.{listed_few, listed_once, listed_parent}
use Rattle.slotmap_scene.proofs.Walking.{behind_split, none_first}
use Rattle.slotmap_scene.specs.Visits.{IsWalk, ahead_within, of_each, later, left_then, visits_from, visits_of, visits_within}
use Rattle.slotmap_scene.specs.declared.walk.Visit.{Visit}
use Rattle.slotmap_scene.specs.declared.walk.Visit.TheVariants.{Enter, Leave}
use Rattle.std.specs.FinMap as map

of_each_same : {A : Type 0} (f g : Key → List A) (ks : List Key) → ((k : Key) → 0 < times k ks → f k ≡ g k) → of_each f ks ≡ of_each g ks
of_each_same f g [] same = refl
of_each_same f g (k ∷ ks) same =
    ap (λ l. l ++ of_each f ks) (same k (omega (arith, times_first k k ks, one_itself k)))
    ∙ ap (λ l. g k ++ l) (of_each_same f g ks (λ q more. same q (omega (arith, times_first q k ks))))

later_split : (k : Key) (b a : List Key) → times k b ≡ 0 → later k (b ++ k ∷ a) ≡ a
later_split k [] a none = grind (arith, is_itself k)
later_split k (q ∷ b) a none = grind (arith, times_first k q b, later_split k b a)

-- in a list that has each key once, the keys behind one of them begin with the one right behind it
module _ (ks : List Key) (once : (k : Key) → times k ks ≤ 1) (k : Key) (more : 0 < times k ks) where
  later_is : (s : Key) → behind k ks ≡ Some s → later k ks ≡ s ∷ later s ks
  later_is s is = by cut.1 refl
    where
      cut : (before : List Key) × (after : List Key) × (ks ≡ before ++ k ∷ after)
      cut = split_at k ks more

      before_none : times k cut.0 ≡ 0
      before_none = omega (arith, once k, ap (times k) cut.2, in_midst cut.0 k cut.1)

      by : (after : List Key) → cut.1 ≡ after → later k ks ≡ s ∷ later s ks
      by [] at = absurd (let h = sym is ∙ ap (behind k) cut.2 ∙ behind_split k cut.0 cut.1 before_none ∙ ap (λ l. first_or l None) at in cc)
      by (q ∷ after) at =
          let h = sym is ∙ ap (behind k) cut.2 ∙ behind_split k cut.0 cut.1 before_none ∙ ap (λ l. first_or l None) at in
          let here : q ≡ s = cc in
          let split : ks ≡ (cut.0 ++ k ∷ []) ++ s ∷ after = cut.2 ∙ ap (λ l. cut.0 ++ k ∷ l) (at ∙ ap (λ x. x ∷ after) here) ∙ sym (append_assoc cut.0 (k ∷ []) (s ∷ after)) in
          let none : times s (cut.0 ++ k ∷ []) ≡ 0 = omega (arith, once s, ap (times s) split, in_midst (cut.0 ++ k ∷ []) s after) in
          ap (later k) cut.2 ∙ later_split k cut.0 cut.1 before_none ∙ at ∙ ap (λ x. x ∷ after) here
          ∙ ap (λ l. s ∷ l) (sym (ap (later s) split ∙ later_split s (cut.0 ++ k ∷ []) after none))

  later_none : behind k ks ≡ None → later k ks ≡ []
  later_none is =
      let cut = split_at k ks more in
      let none : times k cut.0 ≡ 0 = omega (arith, once k, ap (times k) cut.2, in_midst cut.0 k cut.1) in
      ap (later k) cut.2 ∙ later_split k cut.0 cut.1 none ∙ none_first cut.1 (sym (behind_split k cut.0 cut.1 none) ∙ sym (ap (behind k) cut.2) ∙ is)

module _ {T : Type 0} (nodes : Nodes T) where
  -- one more step, at the upper end
  steps_more : (n : ℕ) (q c p : Key) → StepsTo nodes n q c → parent_of nodes c ≡ Some p → StepsTo nodes (suc n) q p
  steps_more zero q c p here up = (p, (ap (parent_of nodes) here ∙ up, refl))
  steps_more (suc n) q c p steps up = (steps.0, (steps.1.0, steps_more n steps.0 c p steps.1.1 up))

  -- all paths down from k are shorter
  abbrev Shorter : ℕ → Key → Type 0
  Shorter n k = (j : ℕ) (q : Key) → has_node nodes q → StepsTo nodes j q k → j < n

  ahead_top : (node : Key) (n : ℕ) → ahead_within nodes node n node ≡ []
  ahead_top node zero = refl
  ahead_top node (suc n) = grind (arith, is_itself node)

  same_ahead : (node : Key) (j n m : ℕ) (k : Key) → StepsTo nodes j k node → j < n → j < m → ahead_within nodes node n k ≡ ahead_within nodes node m k
  same_ahead node j zero m k steps less more = absurd (omega arith)
  same_ahead node j (suc n) zero k steps less more = absurd (omega arith)
  same_ahead node zero (suc n) (suc m) k steps less more =
      ap (ahead_within nodes node (suc n)) steps ∙ ahead_top node (suc n) ∙ sym (ap (ahead_within nodes node (suc m)) steps ∙ ahead_top node (suc m))
  same_ahead node (suc j) (suc n) (suc m) k steps less more =
      let up = steps.1.0 in
      let rest : left_then (ahead_within nodes node n) (parent_of nodes k) ≡ left_then (ahead_within nodes node m) (parent_of nodes k) =
      ap (left_then (ahead_within nodes node n)) up
      ∙ ap (λ l. Leave steps.0 ∷ l) (same_ahead node j n m steps.0 steps.1.1 (omega arith) (omega arith))
      ∙ sym (ap (left_then (ahead_within nodes node m)) up) in
      ap (λ l. cond (is_key k node) [] (of_each (visits_of nodes) (later k (siblings_of nodes k)) ++ l)) rest

module _ {T : Type 0} (nodes : Nodes T) (scene : IsScene nodes) where
  shorter_all : (k : Key) → has_node nodes k → Shorter nodes (map.len nodes) k
  shorter_all k live j q there steps =
      let up = scene.tree q there in
      let own = scene.tree k live in
      omega (arith, steps_sum nodes up.0 j own.0 q k up.1 steps own.1, short up.0 nodes q up.1)

  child_parent : (k c : Key) → 0 < times c (children_of nodes k) → parent_of nodes c ≡ Some k
  child_parent k c more = listed_parent nodes scene.listed k c more

  same_visits : (n m : ℕ) (k : Key) → has_node nodes k → Shorter nodes n k → Shorter nodes m k → visits_within nodes n k ≡ visits_within nodes m k
  same_visits zero m k live less more = absurd (omega (arith, less 0 k live refl))
  same_visits (suc n) zero k live less more = absurd (omega (arith, more 0 k live refl))
  same_visits (suc n) (suc m) k live less more =
      ap (λ l. Enter k ∷ l ++ Leave k ∷ []) (of_each_same (visits_within nodes n) (visits_within nodes m) (children_of nodes k) (λ c inside.
      let up = child_parent k c inside in
      same_visits n m c (has_parent nodes c k up)
      (λ j q there steps. omega (arith, less (suc j) q there (steps_more nodes j q c k steps up)))
      (λ j q there steps. omega (arith, more (suc j) q there (steps_more nodes j q c k steps up)))))

  -- a node is entered, then its children are visited, and it is left
  pub visits_are : (k : Key) → has_node nodes k → visits_of nodes k ≡ Enter k ∷ of_each (visits_of nodes) (children_of nodes k) ++ Leave k ∷ []
  visits_are k live =
      let all = shorter_all k live in
      same_visits (map.len nodes) (suc (map.len nodes)) k live all (λ j q there steps. omega (arith, all j q there steps))

  module _ (node : Key) where
    abbrev ahead : Key → List (Visit Key)
    ahead k = ahead_within nodes node (map.len nodes) k

    -- a child of a node within this one is another node
    not_node : (c p : Key) → parent_of nodes c ≡ Some p → IsWithin nodes p node → c ≢ node
    not_node c p up within is = no_cycle nodes scene.tree node p (subst (λ x. parent_of nodes x ≡ Some p) is up) within

    within_more : (c p : Key) → parent_of nodes c ≡ Some p → IsWithin nodes p node → IsWithin nodes c node
    within_more c p up within = (suc within.0, (p, (up, within.1)))

    -- fewer steps lead to this node than to the root, and fewer to the root than there are nodes
    up_left : (j n : ℕ) (q : Key) → ClimbsTo nodes n q → StepsTo nodes j q node → j < n + 1
    up_left zero n q leads steps = omega arith
    up_left (suc j) zero q leads steps = absurd (let h = sym leads.1 ∙ steps.1.0 in cc)
    up_left (suc j) (suc n) q leads steps =
        let h = sym leads.1.1 ∙ steps.1.0 in
        let here : leads.0 ≡ steps.0 = cc in
        omega (arith, up_left j n steps.0 (subst (ClimbsTo nodes n) here leads.1.2) steps.1.1)

    few : (j : ℕ) (q : Key) → has_node nodes q → StepsTo nodes j q node → j < map.len nodes
    few j q live steps = let up = scene.tree q live in omega (arith, short up.0 nodes q up.1, up_left j up.0 q up.1 steps)

    -- once a child was left, its later siblings are visited, and then its parent is left
    ahead_is : (k p : Key) → parent_of nodes k ≡ Some p → IsWithin nodes p node → ahead k ≡ of_each (visits_of nodes) (later k (children_of nodes p)) ++ Leave p ∷ ahead p
    ahead_is k p up within = by (map.len nodes) (few (suc within.0) k (has_parent nodes k p up) (p, (up, within.1)))
      where
        by : (n : ℕ) → suc within.0 < n → ahead_within nodes node n k ≡ of_each (visits_of nodes) (later k (children_of nodes p)) ++ Leave p ∷ ahead_within nodes node n p
        by zero less = absurd (omega arith)
        by (suc n) less =
            ap (λ b. cond b [] (of_each (visits_of nodes) (later k (siblings_of nodes k)) ++ left_then (ahead_within nodes node n) (parent_of nodes k)))
            (is_other k node (not_node k p up within))
            ∙ ap (λ o. of_each (visits_of nodes) (later k (children_under nodes o)) ++ left_then (ahead_within nodes node n) o) up
            ∙ ap (λ l. of_each (visits_of nodes) (later k (children_of nodes p)) ++ Leave p ∷ l)
            (same_ahead nodes node within.0 n (suc n) p within.1 (omega arith) (omega arith))

    -- what a visit goes on with
    abbrev GoesOn : Visit Key → Option (Visit Key) → Type 0
    GoesOn v next = IsWalk nodes node next × (visits_from nodes node (Some v) ≡ v ∷ visits_from nodes node next)

    -- a node with a child
    pub enter_child : (k c : Key) → has_node nodes k → IsWithin nodes k node → first_or (children_of nodes k) None ≡ Some c → GoesOn (Enter k) (Some (Enter c))
    enter_child k c live within first = by (children_of nodes k) refl first
      where
        by : (ks : List Key) → children_of nodes k ≡ ks → first_or ks None ≡ Some c → GoesOn (Enter k) (Some (Enter c))
        by [] is some = absurd (cc)
        by (q ∷ qs) is some =
            let here : q ≡ c = cc in
            let children : children_of nodes k ≡ c ∷ qs = is ∙ ap (λ x. x ∷ qs) here in
            let up = child_parent k c (omega (arith, ap (times c) children, times_first c c qs, one_itself c)) in
            let rest : ahead c ≡ of_each (visits_of nodes) qs ++ Leave k ∷ ahead k =
            ahead_is c k up within ∙ ap (λ ks. of_each (visits_of nodes) (later c ks) ++ Leave k ∷ ahead k) children
            ∙ ap (λ ks. of_each (visits_of nodes) ks ++ Leave k ∷ ahead k) (later_split c [] qs refl) in (
              record { scene = scene; inside = (has_parent nodes c k up, within_more c k up within) },
              ap (λ l. l ++ ahead k) (visits_are k live ∙ ap (λ ks. Enter k ∷ of_each (visits_of nodes) ks ++ Leave k ∷ []) children)
                  ∙ ap (λ l. Enter k ∷ l) (
                  append_assoc (visits_of nodes c ++ of_each (visits_of nodes) qs) (Leave k ∷ []) (ahead k)
                  ∙ append_assoc (visits_of nodes c) (of_each (visits_of nodes) qs) (Leave k ∷ ahead k)
                  ∙ ap (λ l. visits_of nodes c ++ l) (sym rest)),
            )

    -- a node without one
    pub enter_leaf : (k : Key) → has_node nodes k → IsWithin nodes k node → first_or (children_of nodes k) None ≡ None → GoesOn (Enter k) (Some (Leave k))
    enter_leaf k live within none = (
      record { scene = scene; inside = (live, within) },
      ap (λ l. l ++ ahead k) (visits_are k live ∙ ap (λ ks. Enter k ∷ of_each (visits_of nodes) ks ++ Leave k ∷ []) (none_first (children_of nodes k) none)),
    )

    -- the end
    pub leave_end : (k : Key) → k ≡ node → GoesOn (Leave k) None
    leave_end k here = (record { scene = scene; inside = tt }, ap (λ l. Leave k ∷ l) (ap ahead here ∙ ahead_top nodes node (map.len nodes)))

    module _ (k p : Key) (other : k ≢ node) (within : IsWithin nodes k node) (up : parent_of nodes k ≡ Some p) where
      parent_within : IsWithin nodes p node
      parent_within = by within.0 within.1
        where
          by : (n : ℕ) → StepsTo nodes n k node → IsWithin nodes p node
          by zero here = absurd (other here)
          by (suc n) steps = let h = sym steps.1.0 ∙ up in let here : steps.0 ≡ p = cc in (n, subst (λ q. StepsTo nodes n q node) here steps.1.1)

      listed : 0 < times k (children_of nodes p)
      listed = omega (arith, listed_once nodes scene.listed p k up)

      siblings_are : (f : List Key → Option Key) → f (siblings_of nodes k) ≡ f (children_of nodes p)
      siblings_are f = ap (λ o. f (children_under nodes o)) up

      -- the next sibling
      leave_to_sibling : (s : Key) → behind k (siblings_of nodes k) ≡ Some s → GoesOn (Leave k) (Some (Enter s))
      leave_to_sibling s some =
          let is = sym (siblings_are (behind k)) ∙ some in
          let own = child_parent p s (behind_listed k s (children_of nodes p) is) in
          let later_siblings = later_is (children_of nodes p) (listed_few nodes scene.listed p) k listed s is in (
            record { scene = scene; inside = (has_parent nodes s p own, within_more s p own parent_within) },
            ap (λ l. Leave k ∷ l) (
                ahead_is k p up parent_within ∙ ap (λ ks. of_each (visits_of nodes) ks ++ Leave p ∷ ahead p) later_siblings
                ∙ append_assoc (visits_of nodes s) (of_each (visits_of nodes) (later s (children_of nodes p))) (Leave p ∷ ahead p)
                ∙ ap (λ l. visits_of nodes s ++ l) (sym (ahead_is s p own parent_within))),
          )

      -- or up to the parent
      pub leave_to_parent : behind k (siblings_of nodes k) ≡ None → GoesOn (Leave k) (Some (Leave p))
      leave_to_parent none = (
        record { scene = scene; inside = (parent_there nodes scene.tree k p up, parent_within) },
        ap (λ l. Leave k ∷ l) (
            ahead_is k p up parent_within
            ∙ ap (λ ks. of_each (visits_of nodes) ks ++ Leave p ∷ ahead p) (later_none (children_of nodes p) (listed_few nodes scene.listed p) k listed (sym (siblings_are (behind k)) ∙ none))),
      )

    -- there is a parent
    pub leave_beside : (k : Key) → k ≢ node → IsWithin nodes k node → (s : Key) → behind k (siblings_of nodes k) ≡ Some s → GoesOn (Leave k) (Some (Enter s))
    leave_beside k other within s some = by within.0 within.1
      where
        by : (n : ℕ) → StepsTo nodes n k node → GoesOn (Leave k) (Some (Enter s))
        by zero here = absurd (other here)
        by (suc n) steps = leave_to_sibling k steps.0 other within steps.1.0 s some

    pub leave_below : (k : Key) → k ≢ node → IsWithin nodes k node → parent_of nodes k ≡ None → ⊥
    leave_below k other within root = by within.0 within.1
      where
        by : (n : ℕ) → StepsTo nodes n k node → ⊥
        by zero here = other here
        by (suc n) steps = let h = sym root ∙ steps.1.0 in cc

    -- a walk that begins
    pub walk_enters : has_node nodes node → IsWalk nodes node (Some (Enter node)) × (visits_from nodes node (Some (Enter node)) ≡ visits_of nodes node)
    walk_enters live = (
      record { scene = scene; inside = (live, (0, refl)) },
      ap (λ l. visits_of nodes node ++ l) (ahead_top nodes node (map.len nodes)) ∙ append-nil (visits_of nodes node),
    )
