-- What the calls of a closure did so far to the packed order and to the stack.
use Rattle.std.proofs.Common.{◌≡◌, ◌+◌, ◌∷◌, ◌++◌, swap_remove, arith, ℕ, true, false, cond, List, [], append_assoc, append-nil, Some, option_map, slice_get, refl}
use Rattle.slotmap_core.proofs.Common.{Key, Visit, pushed, pushed_all}
use Rattle.slotmap_dense.specs.{Dense.Dense, Retain.dropped, Retain.PacksBy}
use Rattle.slotmap_dense.proofs.FromBackLemmas.{none_pushed, pushed_on}

module _ {K V : Type 0} (data_of : K → Key) where
  dropped_push : (xs : List (Visit K V)) (x : Visit K V) → dropped data_of (xs ++ x ∷ []) ≡ dropped data_of xs ++ cond x.stays [] (data_of x.key ∷ [])
  dropped_push [] x = refl
  dropped_push (y ∷ xs) x = grind (arith, dropped_push xs x)

  -- calls that go on from now, after these visits, also go on from old with these visits before them
  pub record SoFar (old : Dense V) (visits : List (Visit K V)) (position : ℕ) (now : Dense V) : Type 0 where
    pub packs : (xs : List (Visit K V)) (end : List Key) → PacksBy data_of position now.keys xs end → PacksBy data_of 0 old.keys (visits ++ xs) end
    pub stack : now.content.stack ≡ option_map (λ stack. pushed_all stack (dropped data_of visits)) old.content.stack

  pub SoFar-start : (d : Dense V) → SoFar d [] 0 d
  SoFar-start d = record { packs = λ xs end packs. packs; stack = none_pushed d.content.stack }

  module _ (old now : Dense V) (visits : List (Visit K V)) (position : ℕ) (so_far : SoFar old visits position now) (x : Visit K V)
      (stood : slice_get now.keys position ≡ Some (data_of x.key)) (new : Dense V) where
    one_more : (xs : List (Visit K V)) (end : List Key) → PacksBy data_of (cond x.stays (position + 1) position) (cond x.stays now.keys (swap_remove now.keys position (data_of x.key))) xs end
        → PacksBy data_of 0 old.keys ((visits ++ x ∷ []) ++ xs) end
    one_more xs end rest = rw append_assoc (so_far.packs (x ∷ xs) end (stood, rest))

    pub SoFar-kept : x.stays ≡ true → new.keys ≡ now.keys → new.content.stack ≡ now.content.stack → SoFar old (visits ++ x ∷ []) (position + 1) new
    SoFar-kept stays keys stack = grind (arith, one_more, dropped_push, append-nil)

    pub SoFar-dropped : x.stays ≡ false → new.keys ≡ swap_remove now.keys position (data_of x.key)
        → new.content.stack ≡ option_map (λ stack. pushed stack (data_of x.key)) now.content.stack → SoFar old (visits ++ x ∷ []) position new
    SoFar-dropped stays keys stack = record {
      packs = λ xs end rest. one_more xs end (rw stays (rw keys at rest));
      stack = rw (stack, so_far.stack, dropped_push visits x, stays) (pushed_on (dropped data_of visits) (data_of x.key) old.content.stack);
    }
