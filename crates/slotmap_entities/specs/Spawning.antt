-- What a spawn leaves: of the entities, and of a table in which the new entity gets a component.
use Rattle.std.specs.Prelude.{◌≡◌, ℕ, ◌+◌, ◌<◌, ◌≤◌, Result, IfOk, IfErr, OnErr}
use Rattle.slotmap.specs.Words.{Key, Dense, IsDense, Pairs, Inserts, Keeps, Appends, SameOrder}
use Rattle.slotmap_entities.specs.World.{Gains, RefusesSpawn}
use Rattle.slotmap_entities.specs.declared.spawn.SpawnError.{SpawnError}

-- the entities: where the call succeeds, there is one more, and where it fails, they are as they were
pub record Spawns {K E C : Type 0} (data_of : K → Key) (entity : E) (component : C) (result : Result K (SpawnError E C)) (old new : Dense E) : Type 0 where
  -- the key that is returned has the entity, which is the last in the packed order
  pub adds : IfOk result (λ key. Inserts old.content (data_of key) entity new.content)
  pub order : IfOk result (λ key. Appends old (data_of key) entity new)
  -- why the call fails, and that the same entities are there then, in the same order
  pub err : IfErr result (RefusesSpawn old.content entity component)
  pub unchanged : OnErr result (Keeps old.content new.content)
  pub same_order : OnErr result (SameOrder old new)
  -- where there is room the capacity stays, and it never shrinks
  pub in_place : 0 < old.content.room → new.content.capacity ≡ old.content.capacity
  pub capacity : old.content.capacity ≤ new.content.capacity
  pub valid : IsDense old

-- a table: where the call succeeds, the new entity has this component in it, and where it fails, it is as it was
pub record Gets {K M C R : Type 0} (pairs : M → Pairs C) (fits : M → ℕ → ℕ → Type 0) (data_of : K → Key) (component : C) (result : Result K R) (old new : M) : Type 0 where
  -- each other entity has what it had
  pub gains : IfOk result (λ key. Gains (pairs old) (data_of key) component (pairs new))
  -- it takes up room for one component at most
  pub less_room : (i count : ℕ) → fits old i (count + 1) → fits new i count
  -- and none where the call fails
  pub refused_room : OnErr result ((i count : ℕ) → fits old i count → fits new i count)
  pub same : OnErr result (pairs new ≡ pairs old)
