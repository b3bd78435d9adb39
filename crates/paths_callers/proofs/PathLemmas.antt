-- What guards of paths need: where costs are small, no path costs too much; and what follows from the clauses of `shortest_paths`.
use Rattle.std.proofs.Common.{◌≡◌, ◌∙◌, ℕ, zero, suc, ◌+◌, ◌*◌, ◌^◌, ◌≤◌, ◌<◌, Some, None, Result, Ok, Err, IfOk, IfErr, sym, subst, arith}
use Rattle.std.proofs.lemmas.Option.{none-some, same_Some}
use Rattle.slotmap.specs.Words.{Key, Pairs, get}
use Rattle.slotmap_graph.specs.Parts.{Edges}
use Rattle.slotmap_paths.specs.Paths.{ComesAlong, PathOf}
use Rattle.slotmap_paths.specs.Costs.{ComesBy, IsStep, IsSum, RefusesPaths, distances}
use Rattle.slotmap_paths.specs.declared.Reached.{Reached}
use Rattle.slotmap_paths.specs.declared.PathError.{PathError}
use Rattle.slotmap_paths.specs.declared.PathError.TheVariants.{TooLong, Memory}

module _ {E : Type 0} (edges : Edges E) (costs : Pairs ℕ) (most : ℕ) (small : (k : Key) (c : ℕ) → get costs k ≡ Some c → c ≤ most) where
  -- a path of so many edges at most costs so many times the greatest cost at most
  path_costs : (n m : ℕ) → n ≤ m → (a b : Key) (s : ℕ) → PathOf (IsStep edges costs) n a b s → s ≤ m * most
  path_costs zero m few a b s path = omega (arith, path.1)
  path_costs (suc n) zero few a b s path = absurd (omega (arith, few))
  path_costs (suc n) (suc m) few a b s path =
      let before = path_costs n m (omega (arith, few)) a path.0 path.1 path.4 in
      let last = small path.2 path.3 path.5.4 in
      omega (arith, before, last, path.6)

  -- so `shortest_paths` doesn't fail with `TooLong`
  pub never_too_long : {A : Type 0} (result : Result A PathError) (nodes : ℕ) (start : Key) → nodes * most < 2 ^ 64
      → IfErr result (RefusesPaths edges costs nodes start) → IfErr result (λ error. error ≡ TooLong → ⊥)
  never_too_long (Ok paths) nodes start few refuses = tt
  never_too_long (Err TooLong) nodes start few refuses = λ is.
      let sum = path_costs refuses.2.0 nodes refuses.2.1 start refuses.0 refuses.1 refuses.2.2 in omega (arith, sum, few, refuses.3)
  never_too_long (Err Memory) nodes start few refuses = λ is. absurd (cc)

module _ {A : Type 0} (found : A → Pairs Reached) {E : Type 0} (edges : Edges E) (costs : Pairs ℕ) (start : Key) (Live : Type 0) where
  -- by `least` and `start` of `shortest_paths`: no path costs less than a distance
  pub none_costs_less : (result : Result A PathError)
      → IfOk result (λ a. (x : Key) (sum : ℕ) → Live → IsSum edges costs start x sum → (r : Reached) × (get (found a) x ≡ Some r) × (r.distance ≤ sum))
      → IfOk result (λ a. (x : Key) (r : Reached) → get (found a) x ≡ Some r → Live)
      → IfOk result (λ a. (x : Key) (r : Reached) (sum : ℕ) → get (found a) x ≡ Some r → IsSum edges costs start x sum → r.distance ≤ sum)
  none_costs_less (Ok a) least starts = λ x r sum here path. let is = least x sum (starts x r here) path in rw (same_Some _ _ (sym here ∙ is.1)) is.2
  none_costs_less (Err e) least starts = tt

  -- by `least`: no path leads to a node that wasn't found
  pub none_leads : (result : Result A PathError)
      → IfOk result (λ a. (x : Key) (sum : ℕ) → Live → IsSum edges costs start x sum → (r : Reached) × (get (found a) x ≡ Some r) × (r.distance ≤ sum))
      → IfOk result (λ a. (x : Key) (sum : ℕ) → Live → get (found a) x ≡ None → IsSum edges costs start x sum → ⊥)
  none_leads (Ok a) least = λ x sum live gone path. let is = least x sum live path in none-some is.0 (sym gone ∙ is.1)
  none_leads (Err e) least = tt

  -- by `by`: only the start was reached by no edge
  pub start_alone : (result : Result A PathError)
      → IfOk result (λ a. (x : Key) (r : Reached) → get (found a) x ≡ Some r → ComesBy edges costs start (found a) x r)
      → IfOk result (λ a. (x : Key) (r : Reached) → get (found a) x ≡ Some r → r.by ≡ None → x ≡ start)
  start_alone (Ok a) by = λ x r here none. (subst (λ o. ComesAlong (IsStep edges costs) start (distances (found a)) x r.distance o) none (by x r here)).0
  start_alone (Err e) by = tt
