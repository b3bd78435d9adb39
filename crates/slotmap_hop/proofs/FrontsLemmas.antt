-- The list of fronts after one place becomes vacant or is put to use.
use Rattle.std.proofs.Common.{◌≡◌, ◌≢◌, ◌+◌, ◌-◌, ◌<◌, ◌≤◌, ◌∷◌, ◌++◌, ℕ, zero, suc, Bool, true, false, List, [], length, refl, ap, ◌∙◌, arith, cond}
use Rattle.slotmap_hop.specs.Links.{is_front, Turns, occurs, IsChain, follow, list_without, replaced, ListsOnce, IsBlockList}
use Rattle.slotmap_hop.proofs.Chain.{removed_gone, removed_fewer, removed_shorter, occurs-append, occurs-head, occurs-other, differs_by_count, StandOnce, occurs-removed, occurs-replaced}

module _ {v : ℕ → Bool} {n p e : ℕ → ℕ} {fs : List ℕ} (linked : IsBlockList v n p e fs) where
  pub stands_once : StandOnce (0 ∷ fs)
  stands_once x = grind (arith, linked.listed x)

  pub zero_apart : occurs fs 0 ≡ 0
  zero_apart = grind (arith, linked.listed 0)

  pub listed_positive : (x : ℕ) → 1 ≤ occurs fs x → 0 < x
  listed_positive x there = let differs = differs_by_count fs x 0 there zero_apart in omega arith

  pub listed_at : (x : ℕ) → 0 < x → is_front v x ≡ true → occurs fs x ≡ 1
  listed_at x positive front = omega (arith, linked.listed x ∙ ap (λ b. cond b 1 0) front, occurs-other 0 x fs (λ e. omega arith))

  pub on_circle : (x : ℕ) → 1 ≤ occurs (0 ∷ fs) x → is_front v x ≡ true
  on_circle x there = grind (arith, linked.listed x)

-- a list of fronts that changes at one or two places
module _ {f f' : ℕ → Bool} (fs : List ℕ) (i : ℕ) where
  once_appended : ListsOnce f fs → f i ≡ false → f' i ≡ true → ((x : ℕ) → x ≢ i → f' x ≡ f x) → ListsOnce f' (fs ++ i ∷ [])
  once_appended once was now others x = grind (arith, once x, others x, occurs-append fs (i ∷ []) x)

  once_removed : ListsOnce f fs → 0 < i → f i ≡ true → f' i ≡ false → ((x : ℕ) → x ≢ i → f' x ≡ f x) → ListsOnce f' (list_without fs i)
  once_removed once positive was now others x = grind (arith, once i, once x, others x, occurs-removed fs i x)

  once_replaced : (j : ℕ) → 0 < i → 0 < j → ListsOnce f fs → f i ≡ true → f' i ≡ false → f j ≡ false → f' j ≡ true
      → ((x : ℕ) → x ≢ i → x ≢ j → f' x ≡ f x) → ListsOnce f' (replaced fs i j)
  once_replaced j positive other once was now was_not now_is others x = grind (arith, once i, once x, others x, occurs-replaced fs i j x)

module _ {v v' : ℕ → Bool} {i : ℕ} (fs : List ℕ) (change : Turns v v' i true) (positive : 0 < i) where
  -- neither neighbour is vacant
  pub listed_alone : v (i - 1) ≡ false → v (i + 1) ≡ false → ListsOnce (is_front v) fs → ListsOnce (is_front v') (fs ++ i ∷ [])
  listed_alone left right listed =
      once_appended fs i listed (grind (arith, change.was)) (grind (arith, change.now, change.others (i - 1))) (λ x differs. grind (arith, change.others x, change.others (x - 1)))

  -- only the right neighbour is vacant
  pub listed_right : v (i - 1) ≡ false → v (i + 1) ≡ true → ListsOnce (is_front v) fs → ListsOnce (is_front v') (replaced fs (i + 1) i)
  listed_right left right listed =
      once_replaced fs (i + 1) i (omega arith) positive listed
      (grind (arith, change.was)) (grind (arith, change.now)) (grind (arith, change.was)) (grind (arith, change.now, change.others (i - 1)))
      (λ x differs other. grind (arith, change.others x, change.others (x - 1)))

  -- only the left neighbour is vacant
  pub listed_left : v (i - 1) ≡ true → v (i + 1) ≡ false → ListsOnce (is_front v) fs → ListsOnce (is_front v') fs
  listed_left left right listed x = grind (arith, listed x, change.others x, change.others (x - 1), change.was, change.now)

  fronts_same : v (i - 1) ≡ true → (x : ℕ) → x ≢ i + 1 → is_front v' x ≡ is_front v x
  fronts_same left x differs = grind (arith, change.others x, change.others (x - 1), change.was)

  -- both neighbours are vacant
  pub listed_both : v (i - 1) ≡ true → v (i + 1) ≡ true → ListsOnce (is_front v) fs → ListsOnce (is_front v') (list_without fs (i + 1))
  listed_both left right listed = once_removed fs (i + 1) listed (omega arith) (grind (arith, change.was)) (grind (arith, change.now)) (fronts_same left)

-- the back of a block is put to use
module _ {v v' : ℕ → Bool} {i : ℕ} (fs : List ℕ) (change : Turns v v' i false) (last : v (i + 1) ≡ false) where
  -- the block still has a place
  pub listed_shorter : 0 < i → v (i - 1) ≡ true → ListsOnce (is_front v) fs → ListsOnce (is_front v') fs
  listed_shorter positive more listed x = grind (arith, listed x, change.others x, change.others (x - 1), change.was, change.now)

  -- the block has lost its only place
  pub listed_lost : 0 < i → is_front v i ≡ true → ListsOnce (is_front v) fs → ListsOnce (is_front v') (list_without fs i)
  listed_lost positive front listed = once_removed fs i listed positive front (grind (arith, change.now)) (λ x differs. grind (arith, change.others x, change.others (x - 1)))

-- the list itself, found by following next
pub follow-chain : (n p : ℕ → ℕ) (a : ℕ) (fs : List ℕ) (fuel : ℕ) → IsChain n p a fs → occurs fs 0 ≡ 0 → length fs ≤ fuel → follow n fuel (n a) ≡ fs
follow-chain n p a [] zero chain absent room = refl
follow-chain n p a [] (suc fuel) chain absent room = rw chain.0
follow-chain n p a (x ∷ fs) zero chain absent room = absurd (omega arith)
follow-chain n p a (x ∷ fs) (suc fuel) chain absent room = grind (arith, follow-chain n p x fs fuel)

-- there are at most n different numbers below n
pub length_from_once : (n : ℕ) (xs : List ℕ) → StandOnce xs → ((q : ℕ) → 1 ≤ occurs xs q → q < n) → length xs ≤ n
length_from_once zero [] once below = omega arith
length_from_once zero (x ∷ xs) once below = absurd (omega (arith, below x (omega (arith, occurs-head x xs))))
length_from_once (suc n) xs once below =
    let gone = removed_gone xs n (once n) in
    let left : (q : ℕ) → occurs (list_without xs n) q ≤ occurs xs q = removed_fewer xs n in
    let rest = length_from_once n (list_without xs n) (λ q. omega (arith, left q, once q))
    (λ q there. let differs = differs_by_count (list_without xs n) q n there gone in omega (arith, below q (omega (arith, left q)))) in
    omega (arith, removed_shorter xs n)
