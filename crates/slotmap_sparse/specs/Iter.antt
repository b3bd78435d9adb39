-- What an iterator over the entries of a hash map has still to visit. No public clause cites this module.
use Rattle.std.specs.Prelude.{◌<◌, ℕ, List, map as list_map}
use Rattle.slotmap_core.specs.Words.{AllByRecursion, Key, IsKey, null_key, keyed_entry}

module _ {V : Type 0} where
  -- the keys and values of these entries
  abbrev pub key_pairs : List (ℕ × (ℕ × V)) → List (Key × V)
  key_pairs entries = list_map keyed_entry entries

  abbrev pub IsOfKey : ℕ × (ℕ × V) → Type 0
  IsOfKey e = IsKey (record { index = e.0; version = e.1.0 }) × (e.0 < null_key.index)

  -- each entry has the index and version of a key
  abbrev pub AreOfKeys : List (ℕ × (ℕ × V)) → Type 0
  AreOfKeys entries = AllByRecursion IsOfKey entries
