-- A key that is larger than all others comes last.
use Rattle.std.specs.FinMap as map
use Rattle.std.proofs.Common.{◌≡◌, ◌<◌, ◌∷◌, ◌++◌, true, [], map as list_map, ap, ◌∙◌}
use Rattle.slotmap_core.proofs.Common.{Key, key_cmp, map-append, keys_total, greater, put_last}

module _ {V : Type 0} where
  pub keys_last : (m : map.FinMap key_cmp V) (k : Key) (v : V) → ((q : Key) → map.contains_key m q ≡ true → q.index < k.index) → map.keys (map.insert m k v) ≡ map.keys m ++ k ∷ []
  keys_last m k v above =
      ap (λ es. list_map (λ (e : Key × V). e.0) es) (map.entries-insert keys_total m k v ∙ put_last k v (map.entries m) (λ q there. greater k q (above q (map.contains_key-keys m q ∙ there))))
      ∙ map-append (λ (e : Key × V). e.0) (map.entries m) ((k, v) ∷ [])
