-- How a `SparseSecondaryMap` stores its pairs in a hash map. No public clause cites this module.
use Rattle.std.specs.FinMap as map
use Rattle.std.specs.Prelude.{◌≡◌, ◌+◌, ℕ, Bool, List, nat_eq}
use Rattle.slotmap_core.specs.Words.{Mut, Takes, MutBor, HashMap, hash_map_len, spare, IsDistinct, keys_of, Key, key_from, Pairs, IsSecondary, CallsAt}
use Rattle.slotmap_sparse.specs.Content.{SparseContent}

module _ {V : Type 0} where
  -- from each index to its version and value
  abbrev pub pairs_of : List (ℕ × (ℕ × V)) → Pairs V
  pairs_of entries = map.from_entries entries

  abbrev pub content_of : {S : Type 0} → HashMap ℕ (ℕ × V) S → SparseContent V
  content_of slots = record { pairs = pairs_of slots.entries; capacity = hash_map_len slots + spare slots }

  -- no index occurs twice, and each is that of a key with its version
  pub record IsSound (entries : List (ℕ × (ℕ × V))) : Type 0 where
    pub unique : IsDistinct nat_eq (keys_of entries)
    pub keys : IsSecondary (pairs_of entries)

module _ {F K V : Type 0} (g : Mut F (K × (MutBor V × Unit {0})) (Bool × (MutBor V × Unit {0}))) (data_of : K → Key) where
  -- the closure f may be called on the key of this index and version, and on its value
  pub record CallableOnPair (f : F) (index : ℕ) (p : ℕ × V) : Type 0 where
    pub at : (key : K) (shown : MutBor V) → data_of key ≡ key_from index p.0 → shown.now ≡ p.1 → Takes g f (key, (shown, tt))

  -- a call on the key of this index and version saw the value of p, left that of q, and kept the version
  pub record VisitsPair (f : F) (index : ℕ) (p : ℕ × V) (stays : Bool) (q : ℕ × V) (f' : F) : Type 0 where
    pub key : K
    pub named : data_of key ≡ key_from index p.0
    pub called : CallsAt g f (record { key = key; before = p.1; after = q.1; stays = stays }) f'
    pub version : q.0 ≡ p.0
