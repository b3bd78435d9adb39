-- One more pair is put.
-- For the crates of maps.
use Rattle.std.proofs.Common.{◌≡◌, List, [], ◌∷◌, ◌++◌}
use Rattle.std.proofs.lemmas.{Fn.FoldsTo-push, List.map_push}
use Rattle.slotmap_core.specs.Words.{Bor, Key, Pairs, put, AllPut, values_of}

module _ {K V : Type 0} (data_of : K → Key) where
  pub AllPut-push : (old : Pairs V) (pairs : List (K × V)) (now : Pairs V) (k : K) (v : V) (new : Pairs V) → AllPut data_of old pairs now
      → new ≡ put now (data_of k) v → AllPut data_of old (pairs ++ (k, v) ∷ []) new
  AllPut-push old pairs now k v new before puts = FoldsTo-push (λ (m : Pairs V) (pair : K × V) n. n ≡ put m (data_of pair.0) pair.1) old pairs now (k, v) new before puts

  -- the same for the pairs that the items of an iterator over references show
  pub AllPut-push_shown : (old : Pairs V) (items : List (K × Bor V)) (now : Pairs V) (k : K) (v : Bor V) (new : Pairs V)
      → AllPut data_of old (values_of items) now → new ≡ put now (data_of k) v.now → AllPut data_of old (values_of (items ++ (k, v) ∷ [])) new
  AllPut-push_shown old items now k v new before puts = rw map_push (AllPut-push old (values_of items) now k v.now new before puts)
