-- What a contract sees of an entry.
use Rattle.std.specs.declared.hash.Hasher as hasher
use Rattle.std.specs.declared.hash.BuildHasher as builder
use Rattle.std.specs.FinMap as map
use Rattle.std.specs.Prelude.{◌≡◌, ◌≤◌, if◌then◌else◌, Option, Some, None, Result, Ok, Err, [], true}
use Rattle.slotmap_core.specs.Words.{MutBor, GName, Lends, LendsSoOk, RestsIfErr, Fml, RattleType, Key, Pairs, get, contains_key, remove}
use mir.Syntax.{named}
use Rattle.slotmap_core.specs.Secondary as pair
use Rattle.slotmap_core.specs.declared.secondary.NoEntry.{NoEntry}
use Rattle.slotmap_sparse.specs.declared.entry.Entry.{Entry}
use Rattle.slotmap_sparse.specs.declared.entry.Entry.TheVariants.{Occupied, Vacant}
use Rattle.slotmap_sparse.specs.declared.entry.OccupiedEntry.{OccupiedEntry}
use Rattle.slotmap_sparse.specs.contracts.SparseSecondaryMap.{the_row}
use Rattle.slotmap_sparse.specs.contracts.entry.OccupiedEntry as occupied
use Rattle.slotmap_sparse.specs.Content.{SparseContent, room, sparse_with_value}

-- what an entry of k leaves in the map: an older pair at k's index is removed
abbrev pub entry_leaves : {V : Type 0} → Pairs V → Key → Pairs V
entry_leaves m k = if contains_key m k then m else map.remove m k.index

module _ {K V S Z : Type 0} where
  -- the reference to the map
  abbrev pub entry_map_ref : Entry K V S Z → MutBor (SparseContent V)
  entry_map_ref (Occupied e) = e.map
  entry_map_ref (Vacant e) = e.map

  -- what the map holds
  abbrev pub sparse_entry_map : Entry K V S Z → SparseContent V
  sparse_entry_map e = (entry_map_ref e).now

  -- the ghost name of the reference to the map
  abbrev pub entry_lender : Entry K V S Z → GName
  entry_lender e = (entry_map_ref e).ghost_name

  abbrev pub sparse_entry_key : Entry K V S Z → K
  sparse_entry_key (Occupied e) = e.key
  sparse_entry_key (Vacant e) = e.key

  module _ (data_of : K → Key) where
    -- the value that the key has
    abbrev pub sparse_entry_value : Entry K V S Z → Option V
    sparse_entry_value (Occupied e) = get e.map.now.pairs (data_of e.key)
    sparse_entry_value (Vacant e) = None

    -- the key of an occupied entry is in the map; that of a vacant entry can be inserted, and nothing is at its index
    abbrev pub IsSparseInPlace : Entry K V S Z → Type 0
    IsSparseInPlace (Occupied e) = contains_key e.map.now.pairs (data_of e.key) ≡ true
    IsSparseInPlace (Vacant e) = (pair.entry e.map.now.pairs (data_of e.key) ≡ pair.vacant) × (map.get e.map.now.pairs (data_of e.key).index ≡ None)

    -- the map once this is the value of the key
    abbrev pub sparse_entry_with : Entry K V S Z → V → SparseContent V
    sparse_entry_with e v = sparse_with_value (sparse_entry_map e) (data_of (sparse_entry_key e)) v

    -- the pairs once the key is removed
    abbrev pub entry_without : Entry K V S Z → Pairs V
    entry_without e = remove (sparse_entry_map e).pairs (data_of (sparse_entry_key e))

    -- o, once this is its value
    abbrev pub occupied_with : OccupiedEntry K V S Z → V → OccupiedEntry K V S Z
    occupied_with o v = record o { map = record o.map { now = sparse_with_value o.map.now (data_of o.key) v } }

    -- d is the entry e, once v is its value
    pub record IsWritten (e : Entry K V S Z) (v : V) (d : Entry K V S Z) : Type 0 where
      pub same_map : entry_lender d ≡ entry_lender e
      pub same_key : sparse_entry_key d ≡ sparse_entry_key e
      pub after : sparse_entry_map d ≡ sparse_entry_with e v
      pub value : sparse_entry_value d ≡ Some v
      pub in_place : IsSparseInPlace d

    -- e is an entry of k in the map behind m; the map holds what it held, except for an older pair at k's index
    pub record Enters (m : MutBor (SparseContent V)) (k : K) (e : Entry K V S Z) : Type 0 where
      pub same_map : entry_lender e ≡ m.ghost_name
      pub key : sparse_entry_key e ≡ k
      pub pairs : (sparse_entry_map e).pairs ≡ entry_leaves m.now.pairs (data_of k)
      pub room : room m.now ≤ room (sparse_entry_map e)
      -- if no older pair is at k's index, the map is unchanged
      pub occupied : contains_key m.now.pairs (data_of k) ≡ true → sparse_entry_map e ≡ m.now
      pub empty : map.get m.now.pairs (data_of k).index ≡ None → sparse_entry_map e ≡ m.now
      pub value : sparse_entry_value e ≡ get m.now.pairs (data_of k)
      pub in_place : IsSparseInPlace e

    -- the entry that k has in m, by the definitions of `slotmap_core`: none, occupied or vacant
    abbrev pub IsEntryOf : Pairs V → Key → Option (Entry K V S Z) → Type 0
    IsEntryOf m k None = pair.entry m k ≡ pair.no_entry
    IsEntryOf m k (Some (Occupied e)) = (v : V) × (pair.entry m k ≡ pair.occupied v)
    IsEntryOf m k (Some (Vacant e)) = pair.entry m k ≡ pair.vacant

    -- n is the map of e, once w is the value of its key; its capacity may have grown
    pub record Fills (e : Entry K V S Z) (n : SparseContent V) (w : V) : Type 0 where
      pub pairs : n.pairs ≡ (sparse_entry_with e w).pairs
      pub capacity : (sparse_entry_map e).capacity ≤ n.capacity

  -- n holds what the map of e holds: an allocation failed
  pub record StaysUnfilled (e : Entry K V S Z) (n : SparseContent V) : Type 0 where
    pub pairs : n.pairs ≡ (sparse_entry_map e).pairs
    pub capacity : (sparse_entry_map e).capacity ≤ n.capacity

  -- if there is an entry, P holds of it
  abbrev pub IfEntry : {E : Type 0} → Result (Option (Entry K V S Z)) E → (Entry K V S Z → Type 0) → Type 0
  IfEntry (Ok (Some e)) P = P e
  IfEntry (Ok None) P = Unit {0}
  IfEntry (Err error) P = Unit {0}

module _ (K V S H : RattleType) (build : builder.Ghosts S.Denot H.Denot) (hash : hasher.Ghosts H.Denot) where
  -- at `Err` the map is unchanged
  abbrev pub rests_if_err : MutBor (SparseContent V.Denot) → Result (Entry K.Denot V.Denot S.Denot H.Denot) NoEntry → Fml
  rests_if_err s r = RestsIfErr (the_row K V S H build hash) s entry_lender r (λ n. n ≡ s.now)

  module _ (data_of : K.Denot → Key) where
    -- once the borrow r ends, the key has the last value written through r
    abbrev pub entry_lends : Entry K.Denot V.Denot S.Denot H.Denot → MutBor V.Denot → Fml
    entry_lends e r = Lends (the_row K V S H build hash) V (entry_map_ref e) r (sparse_entry_with data_of e)

    -- the same if r is a reference; at `Err` the map holds what it held
    abbrev pub entry_lends_ok : {E : Type 0} → Entry K.Denot V.Denot S.Denot H.Denot → Result (MutBor V.Denot) E → Fml
    entry_lends_ok e r = LendsSoOk (the_row K V S H build hash) V (entry_map_ref e) r (Fills data_of e) (StaysUnfilled e)

    -- once the borrow r ends, the entry is e with the last value written through r
    abbrev pub occupied_lends : MutBor (OccupiedEntry K.Denot V.Denot S.Denot H.Denot) → MutBor V.Denot → Fml
    occupied_lends e r = Lends (occupied.the_row (record { mir = named 1; lft = [] }) K V S H build hash) V e r (occupied_with data_of e.now)
