-- What a fold of the values on the way up comes to.
use Rattle.std.proofs.Common.{◌++◌, ◌∷◌, ◌≡◌, ◌≢◌}
use Rattle.slotmap_scene.proofs.Common.{Bor, CallableUp, CallsAt, ClimbsTo, FoldsTo, FoldsTo-push, FoldsUp, IfNone, IfSome, IsComposed, IsMoved, IsNewChild, IsPathFrom, IsPathUp, IsTree, IsWithin}
use Rattle.slotmap_scene.proofs.Common.{IsWorld, IsWorldOf, Joins, Key, List, Mut, Nodes, None, Option, Some, Takes, [], ap, append_assoc, child, fold, get-insert_here, has_node}
use Rattle.slotmap_scene.proofs.Common.{Node, arith, inl, inr, is_some, lacks_node, option_map, parent_in, parent_of, refl, same_Some, same_or_other, some-mapped, some_is, subst, suc, sym}
use Rattle.slotmap_scene.proofs.Common.{value_of, world_along, zero, ℕ, ◌∙◌}
use Rattle.slotmap_scene.proofs.Climbs.{parent_there}
use Rattle.std.specs.FinMap as map

module _ {T : Type 0} (nodes : Nodes T) where
  -- a value in front of a path from the parent; a root is the end of its path
  module _ (k : Key) (v : T) (own : value_of nodes k ≡ Some v) where
    root_path : parent_of nodes k ≡ None → IsPathUp nodes k (v ∷ [])
    root_path root = (own, subst (λ q. IsPathFrom nodes q []) (sym root) tt)

    child_path : (p : Key) → parent_of nodes k ≡ Some p → (above : List T) → IsPathUp nodes p above → IsPathUp nodes k (v ∷ above)
    child_path p up above path = (own, subst (λ q. IsPathFrom nodes q above) (sym up) path)

  -- a path goes up from a node that is there
  pub path_live : (k : Key) (values : List T) → IsPathUp nodes k values → has_node nodes k
  path_live k [] path = absurd path
  path_live k (v ∷ above) path = sym (some-mapped (λ n. n.value) (map.get nodes k)) ∙ ap is_some path.0

  -- there is one path
  one_path : (p : Option Key) (a b : List T) → IsPathFrom nodes p a → IsPathFrom nodes p b → a ≡ b
  one_path None [] [] x y = refl
  one_path None [] (v ∷ vs) x y = absurd y
  one_path None (v ∷ vs) b x y = absurd x
  one_path (Some k) [] b x y = absurd x
  one_path (Some k) (v ∷ vs) [] x y = absurd y
  one_path (Some k) (v ∷ vs) (w ∷ ws) x y = let h = sym x.0 ∙ y.0 in let same : v ≡ w = cc in λ i. same i ∷ one_path (parent_of nodes k) vs ws x.1 y.1 i

  -- and so one value in the coordinates of the root
  module _ {W : Type 0} (under : W → W → W) (of : T → W) (k : Key) where
    pub one_world_of : (v w : W) → IsWorldOf under of nodes k v → IsWorldOf under of nodes k w → v ≡ w
    one_world_of v w a b = grind (arith, one_path (Some k) (a.own ∷ a.above) (b.own ∷ b.above) a.path b.path)

    module _ (v : T) (own : value_of nodes k ≡ Some v) where
      -- a root is where its own value says
      pub composed_root : parent_of nodes k ≡ None → IsComposed under of nodes k (of v)
      composed_root root = record { own = v; above = []; path = root_path k v own root; made = refl }

      pub world_of_root : parent_of nodes k ≡ None → IsWorldOf under of nodes k (of v)
      world_of_root root = record { own = v; above = []; path = root_path k v own root; made = refl }

      -- any other node is where its own value says, under its parent
      pub world_of_child : (p : Key) (w : W) → parent_of nodes k ≡ Some p → IsWorldOf under of nodes p w → IsWorldOf under of nodes k (under (of v) w)
      world_of_child p w up world =
          record { own = v; above = world.own ∷ world.above; path = child_path k v own p up (world.own ∷ world.above) world.path; made = ap (under (of v)) world.made }

  pub one_world : (under : T → T → T) (k : Key) (v w : T) → IsWorld under nodes k v → IsWorld under nodes k w → v ≡ w
  one_world under = one_world_of under (λ v. v)

  -- what `world` returns, where it is known by these two
  pub world_is : (under : T → T → T) (k : Key) (w : T) (result : Option T) → IsWorld under nodes k w
      → IfSome result (IsWorld under nodes k) → IfNone result (lacks_node nodes k) → result ≡ Some w
  world_is under k w None world some none = let live = path_live k (world.own ∷ world.above) world.path in absurd (cc)
  world_is under k w (Some v) world some none = ap Some (one_world under k v w some world)

-- what is done from the node up, done from the root down
module _ {T W : Type 0} (under : W → W → W) (of : T → W) (joins : Joins under) where
  fold_under : (v w : W) (above : List T) → fold (λ x q. under x (of q)) (under v w) above ≡ under v (fold (λ x q. under x (of q)) w above)
  fold_under v w [] = refl
  fold_under v w (q ∷ above) = ap (λ x. fold (λ x q. under x (of q)) x above) (joins v w (of q)) ∙ fold_under v (under w (of q)) above

  fold_world : (v : T) (above : List T) → fold (λ x q. under x (of q)) (of v) above ≡ world_along under of v above
  fold_world v [] = refl
  fold_world v (p ∷ above) = fold_under (of v) (of p) above ∙ ap (under (of v)) (fold_world p above)

  -- where transforms join, it doesn't matter in which order they are put together
  module _ (nodes : Nodes T) (k : Key) where
    pub joined_world : (result : Option W) → IfSome result (IsComposed under of nodes k) → IfSome result (IsWorldOf under of nodes k)
    joined_world None composed = tt
    joined_world (Some w) composed =
        record { own = composed.own; above = composed.above; path = composed.path; made = composed.made ∙ fold_world composed.own composed.above }

    pub world_composed : (w : W) → IsWorldOf under of nodes k w → IsComposed under of nodes k w
    world_composed w world = record { own = world.own; above = world.above; path = world.path; made = world.made ∙ sym (fold_world world.own world.above) }

-- from each node that leads up to a root there is a path
module _ {T : Type 0} (nodes : Nodes T) where
  live_value : (k : Key) → has_node nodes k → (v : T) × (value_of nodes k ≡ Some v)
  live_value k live = some_is (value_of nodes k) (some-mapped (λ n. n.value) (map.get nodes k) ∙ live)

  path_of : (n : ℕ) (k : Key) → ClimbsTo nodes n k → (v : T) × (above : List T) × IsPathUp nodes k (v ∷ above)
  path_of zero k leads = let own = live_value k leads.0 in (own.0, [], root_path nodes k own.0 own.1 leads.1)
  path_of (suc n) k leads =
      let own = live_value k leads.1.0 in
      let up = path_of n leads.0 leads.1.2 in
      (own.0, up.0 ∷ up.1, child_path nodes k own.0 own.1 leads.0 leads.1.1 (up.0 ∷ up.1) up.2)

-- what a loop up from a node knows at another one: the values below it, and the calls for these
module _ {F A T : Type 0} (g : Mut F (A × (Bor T × Unit {0})) A) (nodes : Nodes T) where
  pub record Folding (from : Key) (f₀ : F) (start : A) (at : Key) (f : F) (total : A) : Type 0 where
    pub below : List T
    pub calls : FoldsTo (CallsAt g) (f₀, start) below (f, total)
    pub path : (above : List T) → IsPathUp nodes at above → IsPathUp nodes from (below ++ above)

  pub folding_start : (k : Key) (f : F) (start : A) → Folding k f start k f start
  folding_start k f start = record { below = []; calls = refl; path = λ above up. up }

  module _ (from : Key) (f₀ : F) (start : A) (at : Key) (f : F) (total : A) (folding : Folding from f₀ start at f total)
      (v : T) (own : value_of nodes at ≡ Some v) where
    pub folding_takes : CallableUp g nodes from f₀ start → (n : ℕ) → ClimbsTo nodes n at → (shown : Bor T) → shown.now ≡ v → Takes g f (total, (shown, tt))
    folding_takes callable n leads shown same =
        let up = path_of nodes n at leads in
        callable.at folding.below up.1 f total shown (folding.path (shown.now ∷ up.1) (own ∙ ap Some (sym same), up.2.1)) folding.calls

    module _ (f' : F) (next : A) (call : CallsAt g (f, total) v (f', next)) where
      folded_here : FoldsTo (CallsAt g) (f₀, start) (folding.below ++ v ∷ []) (f', next)
      folded_here = FoldsTo-push (CallsAt g) (f₀, start) folding.below (f, total) v (f', next) folding.calls call

      pub folding_step : (p : Key) → parent_of nodes at ≡ Some p → Folding from f₀ start p f' next
      folding_step p is =
          record { below = folding.below ++ v ∷ []; calls = folded_here; path = λ above up. rw append_assoc (folding.path (v ∷ above) (child_path nodes at v own p is above up)) }

      pub folding_end : parent_of nodes at ≡ None → FoldsUp g nodes from f₀ start next
      folding_end is = record { values = folding.below ++ v ∷ []; path = folding.path (v ∷ []) (root_path nodes at v own is); last = f'; calls = folded_here }

-- a fold by the closure that puts what there is so far under the transform of the next value
module _ {F T W : Type 0} (g : Mut F (W × (Bor T × Unit {0})) W) (under : W → W → W) (of : T → W)
    (puts : (f f' : F) (v : W) (p : T) (w : W) → CallsAt g (f, v) p (f', w) → w ≡ under v (of p)) where
  folded : (above : List T) (f last : F) (v w : W) → FoldsTo (CallsAt g) (f, v) above (last, w) → w ≡ fold (λ so_far p. under so_far (of p)) v above
  folded [] f last v w calls = sym (ap (λ s. s.1) calls)
  folded (p ∷ above) f last v w calls = folded above calls.0.0 last calls.0.1 w calls.2 ∙ ap (λ x. fold (λ so_far q. under so_far (of q)) x above) (puts f calls.0.0 v p calls.0.1 calls.1)

  module _ (nodes : Nodes T) (k : Key) (v : T) (own : value_of nodes k ≡ Some v) (p : Key) (up : parent_of nodes k ≡ Some p) where
    pub composed_of_folds : (f : F) (result : Option W) → IfSome result (FoldsUp g nodes p f (of v)) → IfSome result (IsComposed under of nodes k)
    composed_of_folds f None folds = tt
    composed_of_folds f (Some w) folds =
        record { own = v; above = folds.values; path = child_path nodes k v own p up folds.values folds.path; made = folded folds.values f folds.last (of v) w folds.calls }

-- where there is no parent, there is no node
pub parent_found : {T X : Type 0} (nodes : Nodes T) (k p : Key) → parent_of nodes k ≡ Some p → IsTree nodes → (result : Option X) → IfNone result (lacks_node nodes p)
    → IfNone result (lacks_node nodes k)
parent_found nodes k p up tree None lacks = let live = parent_there nodes tree k p up in absurd (cc)
parent_found nodes k p up tree (Some w) lacks = tt

-- where a node k is that gets another parent, or is added: all other nodes keep their values and their parents
module _ {T : Type 0} (old new : Nodes T) (k : Key) (values : (q : Key) → has_node old q → q ≢ k → value_of new q ≡ value_of old q)
    (parents : (q : Key) → has_node old q → q ≢ k → parent_of new q ≡ parent_of old q) where
  -- a path stays that doesn't come by k
  path_kept : (q : Option Key) (vs : List T) → ((r : Key) → q ≡ Some r → has_node old k → IsWithin old r k → ⊥) → IsPathFrom old q vs → IsPathFrom new q vs
  path_kept None [] out path = tt
  path_kept None (v ∷ above) out path = absurd path
  path_kept (Some q) [] out path = absurd path
  path_kept (Some q) (v ∷ above) out path =
      let live = path_live old q (v ∷ above) path in
      let other : q ≢ k = λ same. out q refl (subst (has_node old) same live) (zero, same) in
      let later = path_kept (parent_of old q) above (λ r is there w. out q refl there (suc w.0, (r, (is, w.1)))) path.1 in
      (values q live other ∙ path.0, subst (λ r. IsPathFrom new r above) (sym (parents q live other)) later)

  -- k is where its own value says, under its new parent
  pub world_below_of : {W : Type 0} (under : W → W → W) (of : T → W) (v : T) (p : Key) (w : W) → value_of new k ≡ Some v → parent_of new k ≡ Some p
      → IsWorldOf under of old p w → (has_node old k → IsWithin old p k → ⊥) → IsWorldOf under of new k (under (of v) w)
  world_below_of under of v p w here up world out =
      let path = path_kept (Some p) (world.own ∷ world.above) (λ r is there. subst (λ x. IsWithin old x k → ⊥) (same_Some p r is) (out there)) world.path in
      world_of_child new under of k v here p w up (record { own = world.own; above = world.above; path = path; made = world.made })

-- after `reparent` a node is where its own value says, under its new parent, which is where it was
module _ {T : Type 0} (old new : Nodes T) (k p : Key) {put : List Key → List Key} (trees : IsMoved old new k (Some p) put)
    (values : (q : Key) → value_of new q ≡ value_of old q) where
  pub world_moved_of : {W : Type 0} → (IsWithin old p k → ⊥) → (under : W → W → W) (of : T → W) (v : T) (w : W) → value_of old k ≡ Some v → IsWorldOf under of old p w
      → IsWorldOf under of new k (under (of v) w)
  world_moved_of out under of v w own world =
      world_below_of old new k (λ q _ _. values q) (λ q _ other. trees.parents q other) under of v p w (values k ∙ own) trees.parent_is world (λ _. out)

  pub world_moved : (IsWithin old p k → ⊥) → (under : T → T → T) (v w : T) → value_of old k ≡ Some v → IsWorld under old p w → IsWorld under new k (under v w)
  world_moved out under = world_moved_of out under (λ v. v)

-- where a node is that is added
pub world_added_root_of : {T W : Type 0} (nodes : Nodes T) (k : Key) (v : T) (under : W → W → W) (of : T → W) → IsWorldOf under of (map.insert nodes k (child None v)) k (of v)
world_added_root_of nodes k v under of =
    let here = get-insert_here nodes k (child None v) in
    world_of_root (map.insert nodes k (child None v)) under of k v (ap (option_map (λ n. n.value)) here) (ap parent_in here)

pub world_added_root : {T : Type 0} (nodes : Nodes T) (k : Key) (v : T) (under : T → T → T) → IsWorld under (map.insert nodes k (child None v)) k v
world_added_root nodes k v under = world_added_root_of nodes k v under (λ v. v)

-- all nodes but the new one and its parent are the same, and the parent has the same value and the same parent
module _ {T : Type 0} (old new : Nodes T) (k p : Key) {v : T} {children : List Key} (gains : IsNewChild old new k p v children) where
  stays_but : {X : Type 0} (P : Option (Node T) → X) → P (map.get new p) ≡ P (map.get old p) → (q : Key) → q ≢ k → P (map.get new q) ≡ P (map.get old q)
  stays_but P here q other = elim (same_or_other q p) [
    | inl is ↦ rw is here
    | inr apart ↦ ap P (gains.others q other apart)
  ]

  pub world_added_child_of : {W : Type 0} → lacks_node old k → (under : W → W → W) (of : T → W) (w : W) → IsWorldOf under of old p w → IsWorldOf under of new k (under (of v) w)
  world_added_child_of fresh under of w world =
      world_below_of old new k (λ q _ other. stays_but (option_map (λ n. n.value)) gains.value q other) (λ q _ other. stays_but parent_in gains.parent q other)
      under of v p w (ap (option_map (λ n. n.value)) gains.node) (ap parent_in gains.node) world (λ there. absurd (cc))

pub world_added_child : {T : Type 0} (old new : Nodes T) (k p : Key) {v : T} {children : List Key} → IsNewChild old new k p v children → lacks_node old k
    → (under : T → T → T) (w : T) → IsWorld under old p w → IsWorld under new k (under v w)
world_added_child old new k p gains fresh under = world_added_child_of old new k p gains fresh under (λ v. v)
