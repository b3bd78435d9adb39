-- How the two maps of a joined run belong together.
use Rattle.std.specs.FinMap as map
use Rattle.std.specs.Prelude.{◌≡◌, ◌+◌, ◌^◌, ◌<◌, ℕ, Some, List, slice_get}
use Rattle.slotmap_core.specs.Words.{Key, Content, Stands, State, IsIssued, Fits, Lasts, Pairs, get, Joined, Dictionary, WithDictionary}
use Rattle.slotmap_run.specs.declared.joined.Beside.{Beside}

module _ {K V W : Type 0} where
  -- the state of the joined machine with the pairs and the keys of the maps
  abbrev pub joined : State V → Pairs W → List K → Joined K V W
  joined s second keys = record { primary = s; secondary = second; keys = keys }

  -- the same beside a dictionary
  abbrev pub told_by : State V → Pairs W → List K → Dictionary W → WithDictionary K V W
  told_by s second keys d = record { joined = joined s second keys; dictionary = d }

  -- every key of which something is known was returned before, and its version is below 2^31; and a live or detached key finds what the
  -- dictionary has
  pub record Known (data_of : K → Key) (s : State V) (d : Dictionary W) (first : Content V) (second : Pairs W) (keys : List K) : Type 0 where
    pub answered : (i : ℕ) (k : K) → slice_get keys i ≡ Some k → IsIssued s (data_of k)
    pub stored : (i : ℕ) (p : ℕ × W) → map.get second i ≡ Some p → IsIssued s (record { index = i; version = p.0 })
    pub written : (k : Key) (w : W) → map.get d k ≡ Some w → IsIssued s k
    pub agree : (k : Key) → Stands first k → get second k ≡ map.get d k
    pub young : (k : Key) → IsIssued s k → k.version < 2 ^ 31

module _ {K V W C R : Type 0} (data_of : K → Key) (Step : Joined K V W → C → R → Joined K V W → Type 0) (Telling : WithDictionary K V W → C → R → WithDictionary K V W → Type 0) where
  -- from each state that fits the primary map, the reply is a step to a state that fits it then; and if all is known, and the versions stay
  -- below 2^31, the reply is the dictionary's
  pub record JoinFollows (old : Content V) (second : Pairs W) (keys : List K) (command : C) (reply : R) (new : Content V) (new_second : Pairs W) (new_keys : List K) : Type 0 where
    pub step : (s : State V) → Fits s old
        → (t : State V) × Step (joined s second keys) command reply (joined t new_second new_keys) × Fits t new
        × ((d : Dictionary W) → Known data_of s d old second keys → Lasts (2 ^ 31) new
        → (e : Dictionary W) × Telling (told_by s second keys d) command reply (told_by t new_second new_keys e) × Known data_of t e new new_second new_keys)
    pub lasts : (n : ℕ) → Lasts (n + 1) old → Lasts n new

module _ {M S K V W C R : Type 0} (data_of : K → Key) (content : M → Content V) (pairs : S → Pairs W)
    (Step : Joined K V W → C → R → Joined K V W → Type 0) (Telling : WithDictionary K V W → C → R → WithDictionary K V W → Type 0) where
  -- one command of a joined run: old and new borrow the same maps, and the reply is a step
  pub record JoinServed (old : Beside M S K) (command : C) (reply : R) (new : Beside M S K) : Type 0 where
    pub follows : JoinFollows data_of Step Telling (content old.primary.now) (pairs old.secondary.now) old.keys.now.items command reply
        (content new.primary.now) (pairs new.secondary.now) new.keys.now.items
    pub same_primary : new.primary.ghost_name ≡ old.primary.ghost_name
    pub same_secondary : new.secondary.ghost_name ≡ old.secondary.ghost_name
