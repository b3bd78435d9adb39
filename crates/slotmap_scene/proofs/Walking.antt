-- A walk through all that is below a node: from a key to its first child, or to the next sibling of the first node on the way up that has one.
use Rattle.std.proofs.Common.{◌++◌, ◌+◌, ◌<◌, ◌∷◌, ◌≡◌, ◌≢◌, ◌≤◌}
use Rattle.slotmap_scene.proofs.Common.{GoesDown, IfSome, IsScene, IsTop, IsWithin, Key, List, Nodes, None, Option, Some, StepsTo, WalksBelow}
use Rattle.slotmap_scene.proofs.Common.{[], all_below, ap, append-nil, append_assoc, arith, behind, by_live, children_in, children_of}
use Rattle.slotmap_scene.proofs.Common.{children_under, eq-zero-or-pos, first_or, has_node, in_midst, inl, inr, is_itself, is_other, keys_down}
use Rattle.slotmap_scene.proofs.Common.{keys_from, lacks_node, none_of, one_itself, one_other, parent_in, parent_of, option_map, refl, same}
use Rattle.slotmap_scene.proofs.Common.{same_or_other, siblings_of, split_at, subst, suc, sym, times, times_first, zero, ℕ, ◌∙◌}
use Rattle.slotmap_scene.proofs.ChildLists.{behind_listed}
use Rattle.slotmap_scene.proofs.Climbs.{Climbing, climbing_start, climbing_step, no_cycle, root_within}
use Rattle.slotmap_scene.proofs.Descending.{below_all, below_once, below_only, below_order}
use Rattle.slotmap_scene.proofs.Moved.{listed_few, listed_parent}
use Rattle.std.specs.FinMap as map

-- the key behind k, where it is in the midst of a list, and the list from k on
pub behind_split : (k : Key) (b a : List Key) → times k b ≡ 0 → behind k (b ++ k ∷ a) ≡ first_or a None
behind_split k [] a none = grind (arith, is_itself k)
behind_split k (q ∷ b) a none = grind (arith, times_first k q b, behind_split k b a)

from_split : (k : Key) (done rest : List Key) → times k done ≡ 0 → keys_from (Some k) (done ++ k ∷ rest) ≡ k ∷ rest
from_split k [] rest none = grind (arith, is_itself k)
from_split k (q ∷ done) rest none = grind (arith, times_first k q done, from_split k done rest)

-- a list that has each key once
module _ (ks : List Key) (once : (k : Key) → times k ks ≤ 1) where
  module _ (k : Key) (done rest : List Key) (is : ks ≡ done ++ k ∷ rest) where
    not_done : times k done ≡ 0
    not_done = omega (arith, once k, ap (times k) is, in_midst done k rest)

    pub behind_here : behind k ks ≡ first_or rest None
    behind_here = ap (behind k) is ∙ behind_split k done rest not_done

    pub from_here : keys_from (Some k) ks ≡ k ∷ rest
    from_here = ap (keys_from (Some k)) is ∙ from_split k done rest not_done

  -- the part of it from a key on begins with this key, and goes on with the part from the one behind it
  pub from_behind : (k : Key) → 0 < times k ks → keys_from (Some k) ks ≡ k ∷ keys_from (behind k ks) ks
  from_behind k more =
      let cut = split_at k ks more in
      let on = by (cut.0 ++ k ∷ []) cut.1 (cut.2 ∙ sym (append_assoc cut.0 (k ∷ []) cut.1)) in
      from_here k cut.0 cut.1 cut.2 ∙ ap (λ l. k ∷ l) (sym (ap (λ o. keys_from o ks) (behind_here k cut.0 cut.1 cut.2) ∙ on))
    where
      by : (done rest : List Key) → ks ≡ done ++ rest → keys_from (first_or rest None) ks ≡ rest
      by done [] is = refl
      by done (q ∷ rest) is = from_here q done rest is

  -- and is all of it from its first key on
  pub from_first : keys_from (first_or ks None) ks ≡ ks
  from_first = by ks refl
    where
      by : (l : List Key) → ks ≡ l → keys_from (first_or l None) ks ≡ l
      by [] is = refl
      by (q ∷ l) is = from_here q [] l is

pub first_inside : (ks : List Key) → IfSome (first_or ks None) (λ k. 0 < times k ks)
first_inside [] = tt
first_inside (q ∷ ks) = omega (arith, in_midst [] q ks)

pub behind_inside : (k : Key) (ks : List Key) → IfSome (behind k ks) (λ q. 0 < times q ks)
behind_inside k ks = by (behind k ks) refl
  where
    by : (o : Option Key) → behind k ks ≡ o → IfSome o (λ q. 0 < times q ks)
    by None is = tt
    by (Some q) is = behind_listed k q ks is

pub none_first : (xs : List Key) → first_or xs None ≡ None → xs ≡ []
none_first [] none = refl
none_first (x ∷ xs) none = absurd (cc)

module _ {T : Type 0} (nodes : Nodes T) where
  -- what comes first of the keys that are ahead is listed first
  first_down : (ahead rest : List Key) → GoesDown nodes ahead rest → first_or rest None ≡ first_or ahead None
  first_down ahead [] goes = ap (λ ks. first_or ks None) (sym goes)
  first_down ahead (q ∷ rest) goes = ap (λ ks. first_or ks None) (sym goes.1.0)

  -- these keys are ahead once k and all below it are listed: its later siblings, those of its parent, and so on,
  -- up to the node at the top, which is so many steps above k
  abbrev AreAhead : Key → ℕ → Key → List Key → Type 0
  AreAhead top zero k ahead = (k ≡ top) × (ahead ≡ [])
  AreAhead top (suc n) k ahead =
      (p : Key) × (before : List Key) × (after : List Key) × (others : List Key)
      × (children_of nodes p ≡ before ++ k ∷ after) × (ahead ≡ after ++ others) × AreAhead top n p others

  -- the first of them is a sibling of k, or of a node above it
  next_ahead : (top : Key) (n : ℕ) (k : Key) (ahead : List Key) → AreAhead top n k ahead → (q : Key) (others : List Key) → ahead ≡ q ∷ others
      → (m : ℕ) × AreAhead top m q others
  next_ahead top zero k ahead is q others at = absurd (let h = sym at ∙ is.1 in cc)
  next_ahead top (suc n) k ahead is q others at = by is.2 is.4 is.5 (λ here. next_ahead top n is.0 is.3 is.6 q others (sym here ∙ at))
    where
      by : (after : List Key) → children_of nodes is.0 ≡ is.1 ++ k ∷ after → ahead ≡ after ++ is.3 → (ahead ≡ is.3 → (m : ℕ) × AreAhead top m q others)
          → (m : ℕ) × AreAhead top m q others
      by [] split here up = up here
      by (a ∷ after) split here up =
          let h = sym here ∙ at in
          let first : a ≡ q = cc in
          let rest : others ≡ after ++ is.3 = cc in
          (suc n, (is.0, is.1 ++ k ∷ [], after, is.3, split ∙ ap (λ x. is.1 ++ k ∷ x ∷ after) first ∙ sym (append_assoc is.1 (k ∷ []) (q ∷ after)), rest, is.6))

  -- the walk is at k
  record Stands (top k : Key) : Type 0 where
    pub done : List Key
    pub rest : List Key
    pub ahead : List Key
    pub steps : ℕ
    pub split : top ∷ all_below nodes top ≡ done ++ k ∷ rest
    pub goes : GoesDown nodes (children_of nodes k ++ ahead) rest
    pub is_ahead : AreAhead top steps k ahead

  stands_next : (top k : Key) (s : Stands top k) (q : Key) (rest : List Key) → s.rest ≡ q ∷ rest → (n : Stands top q) × (n.rest ≡ rest)
  stands_next top k s q rest is =
      let goes : GoesDown nodes (children_of nodes k ++ s.ahead) (q ∷ rest) = subst (GoesDown nodes (children_of nodes k ++ s.ahead)) is s.goes in
      let up = by goes.0 (children_of nodes k) refl goes.1.0 in (
        record {
          done = s.done ++ k ∷ [];
          rest = rest;
          ahead = goes.0;
          steps = up.0;
          split = s.split ∙ ap (λ l. s.done ++ k ∷ l) is ∙ sym (append_assoc s.done (k ∷ []) (q ∷ rest));
          goes = goes.1.1;
          is_ahead = up.1;
        },
        refl,
      )
    where
      by : (others children : List Key) → children_of nodes k ≡ children → children ++ s.ahead ≡ q ∷ others → (m : ℕ) × AreAhead top m q others
      by others [] own at = next_ahead top s.steps k s.ahead s.is_ahead q others at
      by others (c ∷ children) own at =
          let first : c ≡ q = cc in
          let rest : others ≡ children ++ s.ahead = cc in
          (suc s.steps, (k, [], children, s.ahead, own ∙ ap (λ x. x ∷ children) first, rest, s.is_ahead))

  stands_in : (top : Key) (rest : List Key) (k : Key) (s : Stands top k) → s.rest ≡ rest → (q : Key) → 0 < times q rest → Stands top q
  stands_in top [] k s is q more = absurd (omega arith)
  stands_in top (x ∷ rest) k s is q more =
      let next = stands_next top k s x rest is in
      elim (same_or_other x q) [ inl here ↦ subst (Stands top) here next.0 | inr other ↦ stands_in top rest x next.0 next.1 q (omega (arith, times_first q x rest, one_other x q other)) ]

  -- on the way up from a key without children, what comes next is the first of what is ahead of this node
  pub record Rises (top key at : Key) : Type 0 where
    next : List Key
    left : ℕ
    first : behind key (top ∷ all_below nodes top) ≡ first_or next None
    is_ahead : AreAhead top left at next

  -- this way up, wherever the walk ends
  pub record Rising (node key at : Key) (steps : ℕ) : Type 0 where
    climbing : has_node nodes key → Climbing nodes key at steps
    passed : StepsTo nodes steps key at
    rises : (top : Key) → IsTop nodes node key top → Rises top key at

  -- what comes next
  abbrev pub ComesNext : Key → Key → Option Key → Type 0
  ComesNext node key next = (top : Key) → IsTop nodes node key top → next ≡ behind key (top ∷ all_below nodes top)

module _ {T : Type 0} (nodes : Nodes T) (scene : IsScene nodes) where
  -- a child with these later siblings has this parent, and this sibling behind it
  module _ (k p : Key) (before after : List Key) (split : children_of nodes p ≡ before ++ k ∷ after) where
    own_parent : parent_of nodes k ≡ Some p
    own_parent = listed_parent nodes scene.listed p k (omega (arith, ap (times k) split, in_midst before k after))

    sibling_behind : behind k (siblings_of nodes k) ≡ first_or after None
    sibling_behind = ap (λ o. behind k (children_under nodes o)) own_parent ∙ behind_here (children_of nodes p) (listed_few nodes scene.listed p) k before after split

  module _ (top : Key) where
    -- a node, and all below it
    abbrev walk : List Key
    walk = top ∷ all_below nodes top

    pub walk_once : (k : Key) → times k walk ≤ 1
    walk_once k = elim (same_or_other top k) [
      | inl is ↦ elim (eq-zero-or-pos (times k (all_below nodes top))) [
        | inl none ↦ omega (arith, times_first k top (all_below nodes top), ap (λ q. same q k) is, one_itself k)
        | inr more ↦ absurd ((below_only nodes scene top k more).2 (sym is))
      ]
      | inr other ↦ omega (arith, times_first k top (all_below nodes top), one_other top k other, below_once nodes scene top k)
    ]

    stands_first : Stands nodes top top
    stands_first = record {
      done = [];
      rest = all_below nodes top;
      ahead = [];
      steps = 0;
      split = refl;
      goes = rw (append-nil (children_of nodes top)) (below_order nodes scene top);
      is_ahead = (refl, refl);
    }

    stands_within : (k : Key) → IsWithin nodes k top → Stands nodes top k
    unfolding stands_first
    stands_within k within = elim (same_or_other top k) [
      | inl is ↦ subst (Stands nodes top) is stands_first
      | inr other ↦ stands_in nodes top (all_below nodes top) top stands_first refl k (below_all nodes scene top k within (λ is. other (sym is)))
    ]

    -- the first of the children, or of what is ahead behind them, is what comes next
    next_is : (k : Key) (s : Stands nodes top k) → behind k walk ≡ first_or (children_of nodes k ++ s.ahead) None
    next_is k s = behind_here walk walk_once k s.done s.rest s.split ∙ first_down nodes (children_of nodes k ++ s.ahead) s.rest s.goes

    pub next_child : (k : Key) → IsWithin nodes k top → (child : Key) → first_or (children_of nodes k) None ≡ Some child → behind k walk ≡ Some child
    next_child k within child first = let s = stands_within k within in next_is k s ∙ by (children_of nodes k) s.ahead first
      where
        by : (ks ahead : List Key) → first_or ks None ≡ Some child → first_or (ks ++ ahead) None ≡ Some child
        by [] ahead is = absurd (cc)
        by (q ∷ ks) ahead is = is

    pub rise_start : (key : Key) → children_of nodes key ≡ [] → IsWithin nodes key top → Rises nodes top key key
    rise_start key leaf within =
        let s = stands_within key within in
        record { next = s.ahead; left = s.steps; first = next_is key s ∙ ap (λ ks. first_or (ks ++ s.ahead) None) leaf; is_ahead = s.is_ahead }

    steps_ahead : (n : ℕ) (k : Key) (ahead : List Key) → AreAhead nodes top n k ahead → StepsTo nodes n k top
    steps_ahead zero k ahead is = is.0
    steps_ahead (suc n) k ahead is = (is.0, (own_parent k is.0 is.1 is.2 is.4, steps_ahead n is.0 is.3 is.6))

    -- at the top nothing is ahead
    ahead_end : (n : ℕ) (at : Key) (ahead : List Key) → at ≡ top → AreAhead nodes top n at ahead → ahead ≡ []
    ahead_end zero at ahead here is = is.1
    ahead_end (suc n) at ahead here is =
        let steps = steps_ahead (suc n) at ahead is in absurd (no_cycle nodes scene.tree top steps.0 (ap (parent_of nodes) (sym here) ∙ steps.1.0) (n, steps.1.1))

    module _ (key at : Key) (rises : Rises nodes top key at) where
      rise_end : at ≡ top → behind key walk ≡ None
      rise_end here = rises.first ∙ ap (λ ks. first_or ks None) (ahead_end rises.left at rises.next here rises.is_ahead)

      rise_none : parent_of nodes at ≡ None → behind key walk ≡ None
      rise_none root = rises.first ∙ by rises.left rises.is_ahead
        where
          by : (n : ℕ) → AreAhead nodes top n at rises.next → first_or rises.next None ≡ None
          by zero is = ap (λ ks. first_or ks None) is.1
          by (suc n) is = absurd (let h = sym root ∙ own_parent at is.0 is.1 is.2 is.4 in cc)

      module _ (other : at ≢ top) where
        one_more : (n : ℕ) × AreAhead nodes top (suc n) at rises.next
        one_more = by rises.left rises.is_ahead
          where
            by : (n : ℕ) → AreAhead nodes top n at rises.next → (m : ℕ) × AreAhead nodes top (suc m) at rises.next
            by zero is = absurd (other is.0)
            by (suc n) is = (n, is)

        up : AreAhead nodes top (suc one_more.0) at rises.next
        up = one_more.1

        behind_is : behind at (siblings_of nodes at) ≡ first_or up.2 None
        behind_is = sibling_behind at up.0 up.1 up.2 up.4

        -- the next sibling is ahead
        rise_beside : (k : Key) → behind at (siblings_of nodes at) ≡ Some k → behind key walk ≡ Some k
        rise_beside k some = rises.first ∙ ap (λ ks. first_or ks None) up.5 ∙ by up.2 (sym behind_is ∙ some)
          where
            by : (after : List Key) → first_or after None ≡ Some k → first_or (after ++ up.3) None ≡ Some k
            by [] is = absurd (cc)
            by (q ∷ after) is = is

        -- or, where there is none, what is ahead behind the parent
        rise_up : behind at (siblings_of nodes at) ≡ None → (p : Key) → parent_of nodes at ≡ Some p → Rises nodes top key p
        rise_up none p is =
            let own : up.0 ≡ p = (let h = sym (own_parent at up.0 up.1 up.2 up.4) ∙ is in cc) in
            let after = none_first up.2 (sym behind_is ∙ none) in
            let ahead : rises.next ≡ up.3 = up.5 ∙ ap (λ l. l ++ up.3) after in record {
              next = rises.next;
              left = one_more.0;
              first = rises.first;
              is_ahead = subst (AreAhead nodes top one_more.0 p) (sym ahead) (subst (λ q. AreAhead nodes top one_more.0 q up.3) own up.6);
            }

  module _ (node : Key) where
    -- a key that is stale has nothing below it, and is below nothing
    stale_below : (key : Key) → lacks_node nodes key → all_below nodes key ≡ []
    stale_below key gone = ap (keys_down nodes (map.len nodes)) (ap children_in (none_of (map.get nodes key) gone)) ∙ by (map.len nodes)
      where
        by : (n : ℕ) → keys_down nodes n [] ≡ []
        by zero = refl
        by (suc n) = refl

    stale_top : (key : Key) → lacks_node nodes key → IsTop nodes node key key
    stale_top key gone = let root = ap parent_in (none_of (map.get nodes key) gone) in (
      (0, refl),
      elim (same_or_other key node) [
        | inl is ↦ inl is
        | inr other ↦ inr (root, root_within nodes key node root other)
      ],
    )

    comes_stale : (key : Key) (next : Option Key) → ComesNext nodes node key next → lacks_node nodes key → next ≡ None
    comes_stale key next comes gone = comes key (stale_top key gone) ∙ ap (λ l. behind key (key ∷ l)) (stale_below key gone) ∙ grind (arith, is_itself key)

    stale_next : (key : Key) → lacks_node nodes key → ComesNext nodes node key None
    stale_next key gone top is = by is.0.0 is.0.1
      where
        root : parent_of nodes key ≡ None
        root = ap parent_in (none_of (map.get nodes key) gone)

        by : (n : ℕ) → StepsTo nodes n key top → None ≡ behind key (top ∷ all_below nodes top)
        by zero here = grind (arith, here, is_itself key, stale_below key gone)
        by (suc n) steps = absurd (let h = sym root ∙ steps.1.0 in cc)

    pub rising_start : (key : Key) → children_of nodes key ≡ [] → Rising nodes node key key 0
    rising_start key leaf = record { climbing = climbing_start nodes scene.tree key; passed = refl; rises = λ top is. rise_start top key leaf is.0 }

    module _ (key at : Key) (steps : ℕ) (rising : Rising nodes node key at steps) where
      pub rising_end : at ≡ node → ComesNext nodes node key None
      rising_end here top is = elim is.1 [
        | inl ends ↦ sym (rise_end top key at (rising.rises top is) (here ∙ sym ends))
        | inr root ↦ absurd (root.1 (steps, subst (StepsTo nodes steps key) here rising.passed))
      ]

      pub rising_none : parent_of nodes at ≡ None → ComesNext nodes node key None
      rising_none root top is = sym (rise_none top key at (rising.rises top is) root)

      module _ (other : at ≢ node) where
        -- a node with a parent isn't at the top
        not_top : (p : Key) → parent_of nodes at ≡ Some p → (top : Key) → IsTop nodes node key top → at ≢ top
        not_top p is top ends here = elim ends.1 [
          | inl at_node ↦ other (here ∙ at_node)
          | inr root ↦ (let h = sym root.0 ∙ ap (parent_of nodes) (sym here) ∙ is in absurd (cc))
        ]

        has_sibling : (k : Key) → behind at (siblings_of nodes at) ≡ Some k → (p : Key) × (parent_of nodes at ≡ Some p)
        has_sibling k = by (parent_of nodes at) refl
          where
            by : (o : Option Key) → parent_of nodes at ≡ o → behind at (children_under nodes (parent_of nodes at)) ≡ Some k → (p : Key) × (parent_of nodes at ≡ Some p)
            by None is some = absurd (let h = sym some ∙ ap (λ o. behind at (children_under nodes o)) is in cc)
            by (Some p) is some = (p, is)

        pub rising_beside : (k : Key) → behind at (siblings_of nodes at) ≡ Some k → ComesNext nodes node key (Some k)
        rising_beside k some top is = let own = has_sibling k some in sym (rise_beside top key at (rising.rises top is) (not_top own.0 own.1 top is) k some)

        pub rising_up : behind at (siblings_of nodes at) ≡ None → (p : Key) → parent_of nodes at ≡ Some p → Rising nodes node key p (steps + 1)
        rising_up none p is = record {
          climbing = λ live. climbing_step nodes key at steps (rising.climbing live) p is;
          passed = (let one : suc steps ≡ steps + 1 = omega arith in subst (λ n. StepsTo nodes n key p) one (by steps key rising.passed));
          rises = λ top ends. rise_up top key at (rising.rises top ends) (not_top p is top ends) none p is;
        }
          where
            by : (n : ℕ) (k : Key) → StepsTo nodes n k at → StepsTo nodes (suc n) k p
            by zero k here = (p, (ap (parent_of nodes) here ∙ is, refl))
            by (suc n) k steps = (steps.0, (steps.1.0, by n steps.0 steps.1.1))

      -- no way up is longer than there are nodes
      pub rising_long : map.len nodes ≤ steps → ComesNext nodes node key None
      rising_long long = by_live nodes key (ComesNext nodes node key None)
          (λ there. absurd (let few = (rising.climbing there).few in omega arith))
          (λ gone. stale_next key gone)

    pub comes_child : (key child : Key) → first_or (children_of nodes key) None ≡ Some child → ComesNext nodes node key (Some child)
    comes_child key child first top is = sym (next_child top key is.0 child first)

    -- what comes next to a key, as clauses say it
    module _ {K : Type 0} (data_of : K → Key) where
      pub record StepsBelow (key : Key) (next : Option K) : Type 0 where
        pub first : key ≡ node → option_map data_of next ≡ first_or (all_below nodes node) None
        pub along : 0 < times key (all_below nodes node) → option_map data_of next ≡ behind key (all_below nodes node)
        pub within : IsWithin nodes key node → IfSome next (λ q. IsWithin nodes (data_of q) node × (data_of q ≢ node))
        pub elsewhere : (root : Key) → (IsWithin nodes key node → ⊥) → IsWithin nodes key root → parent_of nodes root ≡ None
            → option_map data_of next ≡ behind key (root ∷ all_below nodes root)
        pub stale : lacks_node nodes key → next ≡ None

      none_mapped : (o : Option K) → option_map data_of o ≡ None → o ≡ None
      none_mapped None is = refl
      none_mapped (Some q) is = absurd (cc)

      -- the key that comes next is below the node
      below_if : (o : Option K) → IfSome (option_map data_of o) (λ q. 0 < times q (all_below nodes node)) → IfSome o (λ q. IsWithin nodes (data_of q) node × (data_of q ≢ node))
      below_if None more = tt
      below_if (Some q) more = let below = below_only nodes scene node (data_of q) more in (below.1, below.2)

      pub steps_below : (key : Key) (next : Option K) → ComesNext nodes node key (option_map data_of next) → StepsBelow key next
      steps_below key next comes = record {
        first = first;
        along = along;
        within = λ within. below_if next (elim (same_or_other key node) [
          | inl is ↦ subst (λ o. IfSome o (λ q. 0 < times q (all_below nodes node))) (sym (first is)) (first_inside (all_below nodes node))
          | inr other ↦ (
              let more = below_all nodes scene node key within other in
              subst (λ o. IfSome o (λ q. 0 < times q (all_below nodes node))) (sym (along more)) (behind_inside key (all_below nodes node)))
        ]);
        elsewhere = λ root out within top. comes root (within, inr (top, out));
        stale = λ gone. none_mapped next (comes_stale key (option_map data_of next) comes gone);
      }
        where
          first : key ≡ node → option_map data_of next ≡ first_or (all_below nodes node) None
          first is = comes node ((0, is), inl refl) ∙ ap (λ k. behind k (node ∷ all_below nodes node)) is ∙ grind (arith, is_itself node)

          along : 0 < times key (all_below nodes node) → option_map data_of next ≡ behind key (all_below nodes node)
          along more = let below = below_only nodes scene node key more in comes node (below.1, inl refl) ∙ grind (arith, is_other node key (λ is. below.2 (sym is)))

    -- a walk that begins
    pub walk_begins : (first : Option Key) → first ≡ first_or (children_of nodes node) None
        → WalksBelow nodes node first × (keys_from first (all_below nodes node) ≡ all_below nodes node)
    walk_begins first is =
        let at : first ≡ first_or (all_below nodes node) None = is ∙ sym (first_down nodes (children_of nodes node) (all_below nodes node) (below_order nodes scene node)) in (
          record { scene = scene; inside = subst (λ o. IfSome o (λ q. 0 < times q (all_below nodes node))) (sym at) (first_inside (all_below nodes node)) },
          ap (λ o. keys_from o (all_below nodes node)) at ∙ from_first (all_below nodes node) (below_once nodes scene node),
        )

    -- and one that goes on
    pub walk_on : (key : Key) → 0 < times key (all_below nodes node) → (next : Option Key) → next ≡ behind key (all_below nodes node)
        → WalksBelow nodes node next × (keys_from (Some key) (all_below nodes node) ≡ key ∷ keys_from next (all_below nodes node))
    walk_on key more next is = (
      record { scene = scene; inside = subst (λ o. IfSome o (λ q. 0 < times q (all_below nodes node))) (sym is) (behind_inside key (all_below nodes node)) },
      from_behind (all_below nodes node) (below_once nodes scene node) key more ∙ ap (λ o. key ∷ keys_from o (all_below nodes node)) (sym is),
    )
