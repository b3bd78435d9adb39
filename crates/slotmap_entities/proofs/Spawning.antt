-- What a spawn leaves, from what its parts leave: room that is made first, a spawn with fewer components, and a last component.
use Rattle.std.proofs.Common.{◌≡◌, ◌≢◌, ℕ, ◌+◌, ◌<◌, ◌≤◌, Result, Ok, Err, IfOk, Some, refl, ap, ◌∙◌, arith}
use Rattle.slotmap.specs.Words.{Key, Content, Dense, IsDense, GrowsDense, Pairs, Appends, Inserts, Keeps, SameOrder, get, used}
use Rattle.slotmap.specs.declared.InsertWithError.{InsertWithError}
use Rattle.slotmap.specs.declared.InsertWithError.TheVariants as insert
use Rattle.slotmap_entities.specs.World.{RefusesNext, RefusesSpawn, refusal, with_second, with_third}
use Rattle.slotmap_entities.specs.declared.spawn.SpawnError.{SpawnError}
use Rattle.slotmap_entities.specs.declared.spawn.SpawnError.TheVariants.{Full as NoKey, Memory as NoMemory}
use Rattle.slotmap_entities.specs.Spawning.{Spawns, Gets}

-- the entities are as they were, with room for one more or without
pub record Prepares {E : Type 0} (old new : Dense E) : Type 0 where
  pub keeps : Keeps old.content new.content
  pub order : SameOrder old new
  pub in_place : 0 < old.content.room → new.content.capacity ≡ old.content.capacity
  pub capacity : old.content.capacity ≤ new.content.capacity
  pub valid : IsDense old

refuses : {E C : Type 0} (old : Content E) (entity : E) (component : C) (error : InsertWithError) → RefusesNext old error
    → RefusesSpawn old entity component (refusal error entity component)
refuses old entity component insert.Full full = (full, refl, refl)
refuses old entity component insert.Memory less = (less, refl, refl)

module _ {E : Type 0} {old mid : Content E} (keeps : Keeps old mid) where
  used_same : used mid ≡ used old
  used_same = rw (keeps.live, keeps.detached, keeps.retired)

  refuses_second : {A B : Type 0} (entity : E) (first : A) (second : B) (error : SpawnError E A) → RefusesSpawn mid entity first error
      → RefusesSpawn old entity (first, second) (with_second error second)
  refuses_second entity first second (NoKey back a) why = (rw used_same at why.0, why.1, ap (λ x. (x, second)) why.2)
  refuses_second entity first second (NoMemory back a) why = (rw used_same at why.0, why.1, ap (λ x. (x, second)) why.2)

  refuses_third : {A B C : Type 0} (entity : E) (both : A × B) (third : C) (error : SpawnError E (A × B)) → RefusesSpawn mid entity both error
      → RefusesSpawn old entity (both.0, both.1, third) (with_third error third)
  refuses_third entity both third (NoKey back a) why = (rw used_same at why.0, why.1, ap (λ (x : _ × _). (x.0, x.1, third)) why.2)
  refuses_third entity both third (NoMemory back a) why = (rw used_same at why.0, why.1, ap (λ (x : _ × _). (x.0, x.1, third)) why.2)

  kept_on : {new : Content E} → Keeps mid new → Keeps old new
  kept_on more = record {
    live = more.live ∙ keeps.live;
    detached = more.detached ∙ keeps.detached;
    retired = more.retired ∙ keeps.retired;
    next = more.next ∙ keeps.next;
    offer = more.offer ∙ keeps.offer;
    stack = more.stack ∙ keeps.stack;
    room = omega (arith, keeps.room, more.room);
  }

-- no room could be made for the entity
pub spawn_refused : {K E C : Type 0} (data_of : K → Key) (entity : E) (component : C) (error : InsertWithError) (old new : Dense E)
    → RefusesNext old.content error → Prepares old new → Spawns data_of entity component (Err (refusal error entity component)) old new
spawn_refused data_of entity component error old new why ready = record {
  adds = tt;
  order = tt;
  err = refuses old.content entity component error why;
  unchanged = ready.keeps;
  same_order = ready.order;
  in_place = ready.in_place;
  capacity = ready.capacity;
  valid = ready.valid;
}

-- what an insert leaves
pub spawn_inserted : {K E C P : Type 0} {data_of : K → Key} {entity : E} {component : C} {old new : Dense E} (key : K) → GrowsDense old P new
    → Inserts old.content (data_of key) entity new.content → Appends old (data_of key) entity new → Spawns data_of entity component (Ok key) old new
spawn_inserted key grows adds order = record {
  adds = adds;
  order = order;
  err = tt;
  unchanged = tt;
  same_order = tt;
  in_place = grows.in_place;
  capacity = grows.capacity;
  valid = grows.before;
}

-- once room was made, a spawn with as many components or fewer
module _ {K E C : Type 0} {data_of : K → Key} {entity : E} {component : C} {old mid new : Dense E} (ready : Prepares old mid) where
  pub spawn_goes_on : {D : Type 0} (more : D) (key : K) → Spawns data_of entity component (Ok key) mid new → Spawns data_of entity more (Ok key) old new
  spawn_goes_on more key spawned = record {
    adds = record {
      offered = spawned.adds.offered ∙ ready.keeps.offer;
      below_limit = rw (used_same ready.keeps) at spawned.adds.below_limit;
      live = rw ready.keeps.live at spawned.adds.live;
      detached = spawned.adds.detached ∙ ready.keeps.detached;
      retired = spawned.adds.retired ∙ ready.keeps.retired;
      next = rw ready.keeps.next at spawned.adds.next;
      stack = rw ready.keeps.stack at spawned.adds.stack;
      room = let more = ready.keeps.room in let less = spawned.adds.room in omega arith;
    };
    order = record { keys = rw ready.order.keys at spawned.order.keys; values = rw ready.order.values at spawned.order.values };
    err = tt;
    unchanged = tt;
    same_order = tt;
    in_place = λ room. spawned.in_place (omega (arith, room, ready.keeps.room)) ∙ ready.in_place room;
    capacity = omega (arith, ready.capacity, spawned.capacity);
    valid = ready.valid;
  }

  refused_on : {D : Type 0} (more : D) (error : SpawnError E C) (wide : SpawnError E D) → RefusesSpawn old.content entity more wide
      → Spawns data_of entity component (Err error) mid new → Spawns data_of entity more (Err wide) old new
  refused_on more error wide why spawned = record {
    adds = tt;
    order = tt;
    err = why;
    unchanged = kept_on ready.keeps spawned.unchanged;
    same_order = record { keys = spawned.same_order.keys ∙ ready.order.keys; values = spawned.same_order.values ∙ ready.order.values };
    in_place = λ room. spawned.in_place (omega (arith, room, ready.keeps.room)) ∙ ready.in_place room;
    capacity = omega (arith, ready.capacity, spawned.capacity);
    valid = ready.valid;
  }

  pub spawn_refused_second : {B : Type 0} (second : B) (error : SpawnError E C) → Spawns data_of entity component (Err error) mid new
      → Spawns data_of entity (component, second) (Err (with_second error second)) old new
  spawn_refused_second second error spawned = refused_on _ error _ (refuses_second ready.keeps entity component second error spawned.err) spawned

module _ {K E A B C : Type 0} {data_of : K → Key} {entity : E} {both : A × B} {old mid new : Dense E} (ready : Prepares old mid) where
  pub spawn_refused_third : (third : C) (error : SpawnError E (A × B)) → Spawns data_of entity both (Err error) mid new
      → Spawns data_of entity (both.0, both.1, third) (Err (with_third error third)) old new
  spawn_refused_third third error spawned = refused_on ready _ error _ (refuses_third ready.keeps entity both third error spawned.err) spawned

-- a table: of a call with fewer components, and where it is left as it is, but for more room
module _ {K M C R S : Type 0} {pairs : M → Pairs C} {fits : M → ℕ → ℕ → Type 0} {data_of : K → Key} {component : C} {old new : M} where
  pub gets_ok : (key : K) → Gets {R = R} pairs fits data_of component (Ok key) old new → Gets {R = S} pairs fits data_of component (Ok key) old new
  gets_ok key given = record { gains = given.gains; less_room = given.less_room; refused_room = tt; same = tt }

  pub gets_err : (error : R) (wide : S) → Gets pairs fits data_of component (Err error) old new → Gets pairs fits data_of component (Err wide) old new
  gets_err error wide given = record { gains = tt; less_room = given.less_room; refused_room = given.refused_room; same = given.same }

module _ {K M C R : Type 0} {pairs : M → Pairs C} {fits : M → ℕ → ℕ → Type 0} {data_of : K → Key} {component : C} where
  pub gets_none : {old new : M} (fewer : (m : M) (i j n p : ℕ) → i ≤ j → n ≤ p → fits m j p → fits m i n) (error : R) → pairs new ≡ pairs old
      → ((i count : ℕ) → fits old i count → fits new i count) → Gets pairs fits data_of component (Err error) old new
  gets_none {old} {new} fewer error same room = record {
    gains = tt;
    less_room = λ i count fit. fewer new i i count (count + 1) (omega arith) (omega arith) (room i (count + 1) fit);
    refused_room = room;
    same = same;
  }

  -- the component is put there, once there is room for it
  pub gets_last : {old new : M} (mid : M) (key : K) → pairs mid ≡ pairs old → ((i count : ℕ) → fits old i count → fits mid i count)
      → get (pairs new) (data_of key) ≡ Some component → ((q : Key) → q ≢ data_of key → get (pairs new) q ≡ get (pairs mid) q)
      → ((i count : ℕ) → fits mid i (count + 1) → fits new i count) → Gets {R = R} pairs fits data_of component (Ok key) old new
  gets_last {old} {new} mid key same room there others less = record {
    gains = (there, λ q other. rw (← same) (others q other));
    less_room = λ i count fit. less i count (room i (count + 1) fit);
    refused_room = tt;
    same = tt;
  }

module _ {K M C R : Type 0} {pairs : M → Pairs C} {fits : M → ℕ → ℕ → Type 0} {data_of : K → Key} {component : C} {old new : M} where
  pub gets_there : (result : Result K R) → Gets pairs fits data_of component result old new → IfOk result (λ key. get (pairs new) (data_of key) ≡ Some component)
  gets_there (Ok key) given = given.gains.0
  gets_there (Err error) given = tt

  pub gets_others : (result : Result K R) → Gets pairs fits data_of component result old new
      → IfOk result (λ key. (q : Key) → q ≢ data_of key → get (pairs new) q ≡ get (pairs old) q)
  gets_others (Ok key) given = given.gains.1
  gets_others (Err error) given = tt
