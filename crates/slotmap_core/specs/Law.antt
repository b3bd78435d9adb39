-- Laws of the replies to a list of commands. The reply to a command has the command's position in the list: if there are as
-- many commands before the one as replies before the other, they belong together.
use Rattle.std.specs.Prelude.{◌≡◌, ◌≢◌, ℕ, ◌<◌, List, [], ◌∷◌, ◌++◌, length, Bool, true, false, Some, None, Ok, Err, ⊤, ◌⊎◌, map as list_map}
use Rattle.std.specs.List.{IsDistinct, AllByRecursion, AllZip, count_by}
use Rattle.std.specs.Ordering.{eq_by_cmp}
use Rattle.std.specs.FinMap as map
use Rattle.std.specs.FinSet as set
use Rattle.slotmap_core.specs.Key.{Key, key_cmp}
use Rattle.slotmap_core.specs.Lifo.{IsBasic, stack_replies, no_places}
use Rattle.slotmap_core.specs.Told.{Knowledge, ReadsWhatWasPut}
use Rattle.slotmap_core.specs.declared.commands.Command.{Command}
use Rattle.slotmap_core.specs.declared.commands.Command.TheVariants as command
use Rattle.slotmap_core.specs.declared.commands.DetachCommand.{DetachCommand}
use Rattle.slotmap_core.specs.declared.commands.DetachCommand.TheVariants as detaching
use Rattle.slotmap_core.specs.declared.commands.Reply.{Reply}
use Rattle.slotmap_core.specs.declared.commands.Reply.TheVariants as reply

module _ {K V R E : Type 0} (data_of : K → Key) where
  -- the key in an insert's reply; other replies have none
  abbrev pub reply_keys : Reply K V R E → List Key
  reply_keys (reply.Key k) = data_of k ∷ []
  reply_keys _ = []

  -- the keys that inserts returned, in order
  abbrev pub keys_told : List (Reply K V R E) → List Key
  keys_told [] = []
  keys_told (r ∷ rs) = reply_keys r ++ keys_told rs

  -- no two inserts returned the same key
  abbrev pub NoKeyTwice : List (Reply K V R E) → Type 0
  NoKeyTwice replies = IsDistinct (eq_by_cmp key_cmp) (keys_told replies)

module _ {K V R E : Type 0} (data_of : K → Key) (k : Key) where
  -- the reply shows that k is live after the command
  abbrev pub ShowsLive : DetachCommand K V → Reply K V R E → Type 0
  ShowsLive (detaching.Plain (command.Insert v)) (reply.Key other) = data_of other ≡ k
  ShowsLive (detaching.Plain command.InsertWith) (reply.Key other) = data_of other ≡ k
  ShowsLive (detaching.Plain (command.Get other)) (reply.Looked (Some seen)) = data_of other ≡ k
  ShowsLive (detaching.Plain (command.Contains other)) (reply.Flag is) = (is ≡ true) × (data_of other ≡ k)
  ShowsLive (detaching.Plain (command.Replace other v)) (reply.Put (Ok before)) = data_of other ≡ k
  ShowsLive (detaching.Plain command.Keys) (reply.Keys keys) = set.contains (set.from_list {R = key_cmp} (list_map data_of keys.items)) k ≡ true
  ShowsLive (detaching.Reattach other v) reply.Done = data_of other ≡ k
  ShowsLive _ _ = ⊥

  -- the reply shows that k isn't live after the command
  abbrev pub ShowsNotLive : DetachCommand K V → Reply K V R E → Type 0
  ShowsNotLive (detaching.Plain command.Clear) reply.Done = ⊤
  ShowsNotLive (detaching.Plain command.Drain) (reply.Drained pairs) = ⊤
  ShowsNotLive (detaching.Plain (command.Get other)) (reply.Looked None) = data_of other ≡ k
  ShowsNotLive (detaching.Plain (command.Contains other)) (reply.Flag is) = (is ≡ false) × (data_of other ≡ k)
  ShowsNotLive (detaching.Plain (command.Replace other v)) (reply.Put (Err back)) = data_of other ≡ k
  ShowsNotLive (detaching.Plain (command.Remove other)) (reply.Taken taken) = data_of other ≡ k
  ShowsNotLive (detaching.Plain command.Keys) (reply.Keys keys) = set.contains (set.from_list {R = key_cmp} (list_map data_of keys.items)) k ≡ false
  ShowsNotLive (detaching.Detach other) (reply.Taken None) = data_of other ≡ k
  ShowsNotLive _ _ = ⊥

  -- the reply shows that the command removed k: a Remove returns its value, or a Drain lists it
  abbrev pub RemovesKey : DetachCommand K V → Reply K V R E → Type 0
  RemovesKey (detaching.Plain (command.Remove other)) (reply.Taken (Some v)) = data_of other ≡ k
  RemovesKey (detaching.Plain command.Drain) (reply.Drained pairs) = map.contains_key (map.from_entries {R = key_cmp} (list_map (λ p. (data_of p.0, p.1)) pairs.items)) k ≡ true
  RemovesKey _ _ = ⊥

  -- the command isn't a Detach of k that returns a value
  abbrev pub LeavesAttached : DetachCommand K V → Reply K V R E → Type 0
  LeavesAttached (detaching.Detach other) (reply.Taken (Some v)) = data_of other ≢ k
  LeavesAttached _ _ = ⊤

  -- if the command asks for k, the reply is that of a key that is neither live nor detached; no insert returns k, and no list has it
  abbrev pub FindsNothing : DetachCommand K V → Reply K V R E → Type 0
  FindsNothing (detaching.Plain (command.Get other)) answer = data_of other ≡ k → answer ≡ reply.Looked None
  FindsNothing (detaching.Plain (command.Contains other)) answer = data_of other ≡ k → answer ≡ reply.Flag false
  FindsNothing (detaching.Plain (command.Replace other v)) answer = data_of other ≡ k → answer ≡ reply.Put (Err v)
  FindsNothing (detaching.Plain (command.Remove other)) answer = data_of other ≡ k → answer ≡ reply.Taken None
  FindsNothing (detaching.Detach other) answer = data_of other ≡ k → answer ≡ reply.Taken None
  FindsNothing (detaching.Reattach other v) answer = data_of other ≡ k → answer ≡ reply.NotDetached v
  FindsNothing (detaching.Plain (command.Insert v)) (reply.Key other) = data_of other ≢ k
  FindsNothing (detaching.Plain command.InsertWith) (reply.Key other) = data_of other ≢ k
  FindsNothing (detaching.Plain command.Keys) (reply.Keys keys) = set.contains (set.from_list {R = key_cmp} (list_map data_of keys.items)) k ≡ false
  FindsNothing (detaching.Plain command.Drain) (reply.Drained pairs) = map.contains_key (map.from_entries {R = key_cmp} (list_map (λ p. (data_of p.0, p.1)) pairs.items)) k ≡ false
  FindsNothing _ _ = ⊤

module _ {K V R E C : Type 0} (data_of : K → Key) (of : C → DetachCommand K V) where
  -- Once a Remove returned a key's value, or a Drain listed the key, no later command finds it. (`of` makes a command with
  -- detaching from one of the list)
  abbrev pub RemovedForGood : List C → List (Reply K V R E) → Type 0
  RemovedForGood commands replies =
      (before after : List C) (told_before told_after : List (Reply K V R E)) (k : Key) (c : C) (r : Reply K V R E)
      → length before ≡ length told_before
      → commands ≡ before ++ c ∷ after
      → replies ≡ told_before ++ r ∷ told_after
      → RemovesKey data_of k (of c) r
      → AllZip (λ d answer. FindsNothing data_of k (of d) answer) after told_after

  -- Once a reply showed that a key is live, and a later one shows that it no longer is, no command after that finds it. Between
  -- the two no Detach may return its value. So it is of a key that a Clear or a Retain removed
  abbrev pub GoneForGood : List C → List (Reply K V R E) → Type 0
  GoneForGood commands replies =
      (before between after : List C) (told_before told_between told_after : List (Reply K V R E)) (k : Key) (c d : C) (r answer : Reply K V R E)
      → length before ≡ length told_before
      → AllZip (λ other said. LeavesAttached data_of k (of other) said) between told_between
      → commands ≡ before ++ c ∷ (between ++ d ∷ after)
      → replies ≡ told_before ++ r ∷ (told_between ++ answer ∷ told_after)
      → ShowsLive data_of k (of c) r
      → ShowsNotLive data_of k (of d) answer
      → AllZip (λ other said. FindsNothing data_of k (of other) said) after told_after

-- the command inserts
abbrev pub needs_room : {K V : Type 0} → Command K V → Bool
needs_room (command.Insert v) = true
needs_room command.InsertWith = true
needs_room _ = false

-- the command inserts or reattaches
abbrev pub detach_needs_room : {K V : Type 0} → DetachCommand K V → Bool
detach_needs_room (detaching.Plain c) = needs_room c
detach_needs_room (detaching.Reattach k v) = true
detach_needs_room (detaching.Detach k) = false

-- the reply says that the map is full or memory ran out
abbrev pub IsRefusal : {K V R E : Type 0} → Reply K V R E → Type 0
IsRefusal (reply.Full back) = ⊤
IsRefusal (reply.Memory back) = ⊤
IsRefusal _ = ⊥

-- Once a Reserve of n succeeds, none of the next n commands that insert or reattach fails because the map is full or memory runs
-- out. Other commands aren't counted, and may be any
abbrev pub ReserveHolds : {K V R E C : Type 0} → (Command K V → C) → (C → Bool) → List C → List (Reply K V R E) → Type 0
ReserveHolds {K} {V} {R} {E} {C} of grows commands replies =
    (before between after : List C) (told_before told_between told_after : List (Reply K V R E)) (n : ℕ) (c : C) (answer : Reply K V R E)
    → length before ≡ length told_before → length between ≡ length told_between
    → count_by grows between < n → grows c ≡ true
    → commands ≡ before ++ of (command.Reserve n) ∷ (between ++ c ∷ after)
    → replies ≡ told_before ++ reply.Done ∷ (told_between ++ answer ∷ told_after)
    → IsRefusal answer → ⊥

-- the command isn't a Reattach of k that succeeds
abbrev pub Spares : {K V R E : Type 0} → (K → Key) → Key → DetachCommand K V → Reply K V R E → Type 0
Spares data_of k (detaching.Reattach other v) reply.Done = data_of other ≢ k
Spares data_of k _ _ = ⊤

module _ {K V R E : Type 0} (data_of : K → Key) where
  -- once a Detach of a key returned a value, no later insert returns that key
  abbrev pub DetachedNotReissued : List (DetachCommand K V) → List (Reply K V R E) → Type 0
  DetachedNotReissued commands replies =
      (before after : List (DetachCommand K V)) (told_before told_after : List (Reply K V R E)) (key : K) (v : V)
      → length before ≡ length told_before
      → commands ≡ before ++ detaching.Detach key ∷ after
      → replies ≡ told_before ++ reply.Taken (Some v) ∷ told_after
      → AllByRecursion (λ other. other ≢ data_of key) (keys_told data_of told_after)

  -- Once a Detach of a key returned a value, and until a Reattach of that key succeeds, each Reattach of it succeeds. If
  -- existing slots may need memory, it may run out of memory instead, with the value
  abbrev pub DetachedReattaches : Bool → List (DetachCommand K V) → List (Reply K V R E) → Type 0
  DetachedReattaches reuses commands replies =
      (before between after : List (DetachCommand K V)) (told_before told_between told_after : List (Reply K V R E)) (key : K) (v w : V) (answer : Reply K V R E)
      → length before ≡ length told_before → length between ≡ length told_between
      → AllZip (Spares data_of (data_of key)) between told_between
      → commands ≡ before ++ detaching.Detach key ∷ (between ++ detaching.Reattach key w ∷ after)
      → replies ≡ told_before ++ reply.Taken (Some v) ∷ (told_between ++ answer ∷ told_after)
      → (answer ≡ reply.Done) ⊎ ((reuses ≡ false) × (answer ≡ reply.Memory (Some w)))

-- once a Reattach of a key to a value succeeds, a Replace of that key right after it returns that value
abbrev pub ReattachBinds : {K V R E : Type 0} → List (DetachCommand K V) → List (Reply K V R E) → Type 0
ReattachBinds {K} {V} {R} {E} commands replies =
    (before after : List (DetachCommand K V)) (told_before told_after : List (Reply K V R E)) (key : K) (w u : V) (answer : Reply K V R E)
    → length before ≡ length told_before
    → commands ≡ before ++ detaching.Reattach key w ∷ detaching.Plain (command.Replace key u) ∷ after
    → replies ≡ told_before ++ reply.Done ∷ answer ∷ told_after
    → answer ≡ reply.Put (Ok w)

-- Let all commands be Insert, Remove, Detach or Reattach, and none fail because the map is full or memory runs out. Then the
-- inserts return the keys of the machine that reuses the place freed last first
abbrev pub LastFreedFirst : {K V R E : Type 0} → (K → Key) → List (DetachCommand K V) → List (Reply K V R E) → Type 0
LastFreedFirst data_of commands replies =
    AllByRecursion IsBasic commands → AllByRecursion (λ answer. IsRefusal answer → ⊥) replies
    → keys_told data_of replies ≡ stack_replies data_of no_places commands

-- `looks` says what a Get may return for a value, and `start` what is known of each key at first
module _ {K V R E : Type 0} (data_of : K → Key) (looks : V → R → Type 0) where
  -- what holds of the replies to every list of commands
  pub record Laws (start : Key → Knowledge V R) (commands : List (Command K V)) (replies : List (Reply K V R E)) : Type 0 where
    pub reads : ReadsWhatWasPut data_of looks start (list_map detaching.Plain commands) replies
    pub no_key_twice : NoKeyTwice data_of replies
    pub removed_for_good : RemovedForGood data_of detaching.Plain commands replies
    pub gone_for_good : GoneForGood data_of detaching.Plain commands replies
    pub reserve_holds : ReserveHolds (λ command. command) needs_room commands replies

  -- the same on a map whose keys can be detached
  pub record DetachLaws (reuses : Bool) (start : Key → Knowledge V R) (commands : List (DetachCommand K V)) (replies : List (Reply K V R E)) : Type 0 where
    pub reads : ReadsWhatWasPut data_of looks start commands replies
    pub no_key_twice : NoKeyTwice data_of replies
    pub removed_for_good : RemovedForGood data_of (λ command. command) commands replies
    pub gone_for_good : GoneForGood data_of (λ command. command) commands replies
    pub reserve_holds : ReserveHolds detaching.Plain detach_needs_room commands replies
    pub not_reissued : DetachedNotReissued data_of commands replies
    pub reattaches : DetachedReattaches data_of reuses commands replies
    pub binds : ReattachBinds commands replies
