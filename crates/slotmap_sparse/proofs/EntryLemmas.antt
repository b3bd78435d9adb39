-- What an entry leaves in the map.
use Rattle.std.specs.FinMap as map
use Rattle.std.proofs.Common.{◌≡◌, if◌then◌else◌, None, is_some, refl, sym, ap, ◌∙◌}
use Rattle.slotmap_core.proofs.Common.{nat_cmp_total, Pairs, vacant, IsSecondary, exact_unsigned, remove_absent, get_bound, value_of, value_of_entry, entry_absent, in_own, removed, vacant_not_null}
use Rattle.slotmap_core.proofs.Common.{Key, entry, get}
use Rattle.slotmap_sparse.specs.declared.entry.Entry.TheVariants.{Occupied}
use Rattle.slotmap_sparse.specs.declared.entry.OccupiedEntry.{OccupiedEntry}
use Rattle.slotmap_sparse.specs.Entry.{IsWritten, entry_leaves, occupied_with}

module _ {V : Type 0} (m : Pairs V) (valid : IsSecondary m) (k : Key) where
  -- a key whose entry is vacant has no value
  pub vacant_nothing : entry m k ≡ vacant → get m k ≡ None
  vacant_nothing is = sym (value_of_entry m valid k) ∙ ap value_of is

  vacant_leaves : entry m k ≡ vacant → map.remove m k.index ≡ entry_leaves m k
  vacant_leaves is = sym (ap (λ b. if b then m else map.remove m k.index) (ap is_some (vacant_nothing is)))

  pub in_place_outdated : entry m k ≡ vacant → (n : Pairs V) → n ≡ map.remove m k.index → (entry n k ≡ vacant) × (map.get n k.index ≡ None)
  in_place_outdated is n out = let gone : map.get n k.index ≡ None = ap (λ (x : Pairs V). map.get x k.index) out ∙ removed m k in (entry_absent n k (vacant_not_null m k is) gone, gone)

  -- and if nothing is there, it is as before
  pub leaves_empty : entry m k ≡ vacant → map.get m k.index ≡ None → m ≡ entry_leaves m k
  leaves_empty is none = sym (remove_absent nat_cmp_total exact_unsigned m k.index none) ∙ vacant_leaves is

-- an entry once w is the value of its key
pub IsWritten-own : {K V S Z : Type 0} (data_of : K → Key) (e : OccupiedEntry K V S Z) (w : V) → IsWritten data_of (Occupied e) w (Occupied (occupied_with data_of e w))
IsWritten-own data_of e w = record { same_map = refl; same_key = refl; after = refl; value = get_bound e.map.now.pairs (data_of e.key) w; in_place = in_own e.map.now.pairs (data_of e.key) w }
