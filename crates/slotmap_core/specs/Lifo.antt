-- The machine of the maps that reuse the place freed last first. Only the commands decide its states and the keys that
-- inserts return.
use Rattle.std.specs.Prelude.{ℕ, ◌+◌, List, [], ◌∷◌, ◌++◌, drop, if◌then◌else◌, ⊤}
use Rattle.std.specs.Option.{unwrap_or}
use Rattle.std.specs.Ordering.{nat_cmp}
use Rattle.std.specs.FinMap as map
use Rattle.std.specs.FinSet as set
use Rattle.slotmap_core.specs.Key.{Key, key_cmp}
use Rattle.slotmap_core.specs.Transition.{freed, pushed}
use Rattle.slotmap_core.specs.declared.commands.Command.TheVariants as command
use Rattle.slotmap_core.specs.declared.commands.DetachCommand.{DetachCommand}
use Rattle.slotmap_core.specs.declared.commands.DetachCommand.TheVariants as detaching

-- what this machine holds
pub record Lifo : Type 0 where
  -- the keys that have a value
  pub live : set.FinSet key_cmp
  -- the keys whose value was taken out, and that may be bound to a value again
  pub detached : set.FinSet key_cmp
  -- the version that the next key at each vacant index will have
  pub next : map.FinMap nat_cmp ℕ
  -- the vacant indices, last freed first
  pub stack : List ℕ
  -- the number of places that were made
  pub places : ℕ

-- nothing was inserted yet
abbrev pub no_places : Lifo
no_places = record { live = set.empty; detached = set.empty; next = map.empty; stack = []; places = 0 }

-- the key of the index on top of the stack, with its next version; or the first key of a new place
abbrev pub top_key : map.FinMap nat_cmp ℕ → ℕ → List ℕ → Key
top_key next made [] = record { index = made + 1; version = 1 }
top_key next made (i ∷ rest) = record { index = i; version = unwrap_or (map.get next i) 1 }

-- the key that the next insert returns
abbrev pub offer_of : Lifo → Key
offer_of s = top_key s.next s.places s.stack

-- the number of places after an insert: one more, unless a place is vacant
abbrev pub places_after : ℕ → List ℕ → ℕ
places_after made [] = made + 1
places_after made (i ∷ rest) = made

-- the offer is live, and its index is no longer vacant
abbrev pub stack_insert : Lifo → Lifo
stack_insert s = record {
  live = set.insert s.live (offer_of s);
  detached = s.detached;
  next = map.remove s.next (offer_of s).index;
  stack = drop 1 s.stack;
  places = places_after s.places s.stack;
}

-- k is no longer live, and its index is on top of the stack, if a key can follow k there
abbrev pub stack_remove : Lifo → Key → Lifo
stack_remove s k = record s { live = set.remove s.live k; next = freed s.next k; stack = pushed s.stack k }

-- k is detached, and no longer live
abbrev pub stack_detach : Lifo → Key → Lifo
stack_detach s k = record s { live = set.remove s.live k; detached = set.insert s.detached k }

-- k is live, and no longer detached
abbrev pub stack_reattach : Lifo → Key → Lifo
stack_reattach s k = record s { live = set.insert s.live k; detached = set.remove s.detached k }

-- the commands of this machine: insert, remove, detach and reattach
abbrev pub IsBasic : {K V : Type 0} → DetachCommand K V → Type 0
IsBasic (detaching.Plain (command.Insert v)) = ⊤
IsBasic (detaching.Plain (command.Remove k)) = ⊤
IsBasic (detaching.Plain _) = ⊥
IsBasic (detaching.Detach k) = ⊤
IsBasic (detaching.Reattach k v) = ⊤

module _ {K V : Type 0} (data_of : K → Key) where
  -- the state that a command leaves
  abbrev pub after_command : Lifo → DetachCommand K V → Lifo
  after_command s (detaching.Plain (command.Insert v)) = stack_insert s
  after_command s (detaching.Plain (command.Remove k)) = if set.contains s.live (data_of k) then stack_remove s (data_of k) else s
  after_command s (detaching.Plain _) = s
  after_command s (detaching.Detach k) = if set.contains s.live (data_of k) then stack_detach s (data_of k) else s
  after_command s (detaching.Reattach k v) = if set.contains s.detached (data_of k) then stack_reattach s (data_of k) else s

  -- the key in a command's reply, if it is an insert
  abbrev pub stack_reply : Lifo → DetachCommand K V → List Key
  stack_reply s (detaching.Plain (command.Insert v)) = offer_of s ∷ []
  stack_reply s _ = []

  -- the keys in the replies to a list of commands, in order
  abbrev pub stack_replies : Lifo → List (DetachCommand K V) → List Key
  stack_replies s [] = []
  stack_replies s (c ∷ cs) = stack_reply s c ++ stack_replies (after_command s c) cs
