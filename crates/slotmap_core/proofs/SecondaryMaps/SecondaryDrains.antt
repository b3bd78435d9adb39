-- What calls of `next` of a drain of a secondary map return.
-- For the crates of maps.
use Rattle.std.proofs.Common.{◌≡◌, Option, Some, is_some, true, cond, ap, ◌∙◌}
use Rattle.slotmap_core.specs.Words.{Key, Pairs, get, contains_key, remove, keyed, ListsAlong}
use Rattle.slotmap_core.proofs.SecondaryMaps.KeyedLemmas.{get-keyed, keyed-remove}
use Rattle.slotmap_core.proofs.Contents.DrainingLemmas.{lists_along}
use Rattle.std.specs.FinMap as map

-- what the removal of a key of the map is
pub remove_there : {V : Type 0} (m : Pairs V) (k : Key) → contains_key m k ≡ true → remove m k ≡ map.remove m k.index
remove_there m k has = ap (λ b. cond b (map.remove m k.index) m) has

module _ {D K V : Type 0} (data_of : K → Key) (held : D → Pairs V) (Steps : D → Option (K × V) → D → Type 0)
    (takes : (old new : D) (item : K × V) → Steps old (Some item) new → (get (held old) (data_of item.0) ≡ Some item.1) × (held new ≡ remove (held old) (data_of item.0))) where
  -- the pairs that were returned and those that are left are the pairs of the map
  pub lists_taken : (first : D) → ListsAlong data_of (λ d. keyed (held d)) Steps first
  lists_taken =
      lists_along data_of (λ d. keyed (held d)) Steps
      (λ old new item step. let taken = takes old new item step in
      (get-keyed (held old) (data_of item.0) ∙ taken.0, ap keyed taken.1 ∙ keyed-remove (held old) (data_of item.0) (ap is_some taken.0)))
