-- A world as its user sees it.
use Rattle.std.specs.Prelude.{◌≡◌, ◌≢◌, ◌<◌, refl, true, false, Bool, if◌then◌else◌, Option, Some, None, option_map, List}
use Rattle.std.specs.List.{filter_map}
use Rattle.std.specs.Option.{option_and_then}
use Rattle.std.specs.FinMap as map
use Rattle.std.specs.Coded.{Coded, code_by, coded×}
use Rattle.slotmap.specs.Words.{Key, Content, Dense, dense_code, IsLive, Pairs, RefusesPut, get, used, most}
use Rattle.slotmap.specs.declared.InsertWithError.{InsertWithError}
use Rattle.slotmap.specs.declared.InsertWithError.TheVariants as insert
use Rattle.slotmap_entities.specs.declared.components.AttachError.{AttachError}
use Rattle.slotmap_entities.specs.declared.components.AttachError.TheVariants.{Gone, Memory}
use Rattle.slotmap_entities.specs.declared.spawn.SpawnError.{SpawnError}
use Rattle.slotmap_entities.specs.declared.spawn.SpawnError.TheVariants.{Full as NoKey, Memory as NoMemory}

pub record World (E T : Type 0) : Type 0 where
  -- `content.live` has the value of each entity, `keys` are the entities in packed order, and `IsSpent` says which keys of
  -- `content` are never used again
  pub entities : Dense E
  -- the tables of the components
  pub tables : T

-- by which a proof tells two worlds apart
abbrev pub world_code : {E T : Type 0} → Coded E → Coded T → Coded (World E T)
world_code {E} {T} e t =
    code_by (Dense E × T) (coded× (dense_code e) t) (λ w. (w.entities, w.tables)) (λ p. record { entities = p.0; tables = p.1 }) (λ _. refl)

-- each key of which `has` is true is an entity
abbrev pub OnlyLive : {E : Type 0} → Content E → (Key → Bool) → Type 0
OnlyLive entities has = (k : Key) → has k ≡ true → IsLive entities k

-- `Gone` if and only if the entity doesn't exist, else `Memory`, where the table refuses a put; the component is returned
abbrev pub RefusesAttach : {E C : Type 0} → Content E → Pairs C → Key → C → AttachError C → Type 0
RefusesAttach entities pairs k c (Gone back) = (map.contains_key entities.live k ≡ false) × (back ≡ c)
RefusesAttach entities pairs k c (Memory back) = IsLive entities k × RefusesPut pairs k c back

-- `Full` if and only if the map of the entities is, else `Memory`; the entity and the component are returned
abbrev pub RefusesSpawn : {E C : Type 0} → Content E → E → C → SpawnError E C → Type 0
RefusesSpawn entities entity component (NoKey back c) = (used entities ≡ most) × (back ≡ entity) × (c ≡ component)
RefusesSpawn entities entity component (NoMemory back c) = (used entities < most) × (back ≡ entity) × (c ≡ component)

-- `Full` if and only if the map of the entities is, else `Memory`: for the entity, or for its component
abbrev pub RefusesNext : {E : Type 0} → Content E → InsertWithError → Type 0
RefusesNext entities insert.Full = used entities ≡ most
RefusesNext entities insert.Memory = used entities < most

-- the error of a spawn for which no room could be made
abbrev pub refusal : {E C : Type 0} → InsertWithError → E → C → SpawnError E C
refusal insert.Full entity c = NoKey entity c
refusal insert.Memory entity c = NoMemory entity c

-- the same error with one more component behind the one that it holds, and behind the two
abbrev pub with_second : {E A B : Type 0} → SpawnError E A → B → SpawnError E (A × B)
with_second (NoKey entity a) b = NoKey entity (a, b)
with_second (NoMemory entity a) b = NoMemory entity (a, b)

abbrev pub with_third : {E A B C : Type 0} → SpawnError E (A × B) → C → SpawnError E (A × B × C)
with_third (NoKey entity both) c = NoKey entity (both.0, both.1, c)
with_third (NoMemory entity both) c = NoMemory entity (both.0, both.1, c)

-- a table once k has this component, and each other key what it had
abbrev pub Gains : {C : Type 0} → Pairs C → Key → C → Pairs C → Type 0
Gains old k c new = (get new k ≡ Some c) × ((q : Key) → q ≢ k → get new q ≡ get old q)

-- two things, where there are both
abbrev pub both_of : {A B : Type 0} → Option A → Option B → Option (A × B)
both_of a b = option_and_then (λ x. option_map (λ y. (x, y)) b) a

-- the keys of a list for which there is something, each with it
abbrev pub found_by : {C : Type 0} → (Key → Option C) → List Key → List (Key × C)
found_by find ks = filter_map (λ k. option_map (λ c. (k, c)) (find k)) ks

-- the keys of a list for which there are two things, each with both
abbrev pub both_found_by : {A B : Type 0} → (Key → Option A) → (Key → Option B) → List Key → List (Key × (A × B))
both_found_by a b ks = filter_map (λ k. option_and_then (λ x. option_map (λ y. (k, (x, y))) (b k)) (a k)) ks

-- the keys of a list for which there are three things, each with them
abbrev pub three_found_by : {A B C : Type 0} → (Key → Option A) → (Key → Option B) → (Key → Option C) → List Key → List (Key × (A × (B × C)))
three_found_by a b c ks = filter_map (λ k. option_and_then (λ x. option_and_then (λ y. option_map (λ z. (k, (x, (y, z)))) (c k)) (b k)) (a k)) ks

-- the keys of a list for which there is something and `has` is false, each with it
abbrev pub found_without : {C : Type 0} → (Key → Bool) → (Key → Option C) → List Key → List (Key × C)
found_without has find ks = filter_map (λ k. if has k then None else option_map (λ c. (k, c)) (find k)) ks

-- the keys of a list for which there is a first thing, each with it, and with the second where there is one
abbrev pub optional_found_by : {A B : Type 0} → (Key → Option A) → (Key → Option B) → List Key → List (Key × (A × Option B))
optional_found_by a b ks = filter_map (λ k. option_map (λ x. (k, (x, b k))) (a k)) ks
