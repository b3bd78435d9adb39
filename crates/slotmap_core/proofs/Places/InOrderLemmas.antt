-- The live keys of a list of places and their values, by ascending index, are the entries of the map of these places.
-- For the crates of maps.
use Rattle.std.proofs.Common.{◌≡◌, ℕ, ◌+◌, ◌<◌, T, List, [], ◌∷◌, refl, sym, ap, ◌∙◌, arith}
use Rattle.slotmap_core.specs.Words.{below_all, is_sorted, Key, key_cmp, gather, IsListing, Place, live_entry, live}
use Rattle.slotmap_core.proofs.General.KeyLemmas.{keys_total, exact_keys, nat_tests}
use Rattle.std.specs.FinMap as map

module _ {V : Type 0} where
  -- the live keys of these places and their values, where the first place has index i
  abbrev pub entries_from : ℕ → List (Place V) → List (Key × V)
  entries_from = gather [] (λ es e. e ∷ es) live_entry

  from_entries-from : (i : ℕ) (ps : List (Place V)) → map.from_entries {R = key_cmp} (entries_from i ps) ≡ gather map.empty (λ m e. map.insert m e.0 e.1) live_entry i ps
  from_entries-from i [] = refl
  from_entries-from i (p ∷ ps) = grind (arith, from_entries-from (i + 1) ps)

  below : (k : Key) (i : ℕ) (ps : List (Place V)) → k.index < i → T (below_all key_cmp k (entries_from i ps))
  below k i [] less = tt
  below k i (p ∷ ps) less = grind (arith, nat_tests, below k (i + 1) ps (omega arith))

  in_order : (i : ℕ) (ps : List (Place V)) → T (is_sorted key_cmp (entries_from i ps))
  in_order i [] = tt
  in_order i (p ∷ ps) = grind (arith, in_order (i + 1) ps, λ (version : ℕ). below (record { index = i; version = version }) (i + 1) ps (omega arith))

  entries-from_entries : (es : List (Key × V)) → T (is_sorted key_cmp es) → map.entries (map.from_entries {R = key_cmp} es) ≡ es
  entries-from_entries es sorted =
      ap map.entries (map.same_map keys_total exact_keys (map.from_entries es) (map.from_sorted es) (λ q. map.get-from_entries keys_total es q ∙ sym (map.get-from_sorted key_cmp es q sorted)))
      ∙ map.entries-from_sorted key_cmp es sorted

  -- by ascending index they are the entries in the keys' order
  pub entries-live : (ps : List (Place V)) → map.entries (live ps) ≡ entries_from 0 ps
  unfolding live
  entries-live ps = ap map.entries (sym (from_entries-from 0 ps)) ∙ entries-from_entries (entries_from 0 ps) (in_order 0 ps)

  -- the entries of a map list it
  pub listing-entries : (m : map.FinMap key_cmp V) → IsListing m (map.entries m)
  listing-entries m = record {
    all = map.same_map keys_total exact_keys (map.from_entries (map.entries m)) m (λ q. map.get-from_entries keys_total (map.entries m) q ∙ sym (map.get-entries m q));
    once = sym (map.len-entries m);
  }
