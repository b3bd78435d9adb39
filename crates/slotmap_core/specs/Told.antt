-- What the replies to a list of commands tell of a key, without a map: its value is the one put last, unless it was taken out since.
use Rattle.std.specs.Prelude.{◌≡◌, ◌≢◌, ℕ, ◌+◌, ◌-◌, ◌≤◌, ◌<◌, ◌⊎◌, nat_eq, max, List, [], ◌∷◌, ◌++◌, Option, Some, None, is_some, is_ok, Ok, Err}
use Rattle.std.specs.Prelude.{Bool, true, false, ⊤, if◌then◌else◌, map as list_map}
use Rattle.std.specs.Option.{option_map}
use Rattle.std.specs.List.{IsDistinct, AllByRecursion}
use Rattle.std.specs.Ordering.{eq_by_cmp}
use Rattle.std.specs.FinMap as map
use Rattle.std.specs.FinSet as set
use Rattle.slotmap_core.specs.Key.{Key, key_cmp}
use Rattle.slotmap_core.specs.Content.{Content}
use Rattle.slotmap_core.specs.declared.commands.Command.TheVariants as command
use Rattle.slotmap_core.specs.declared.commands.DetachCommand.{DetachCommand}
use Rattle.slotmap_core.specs.declared.commands.DetachCommand.TheVariants as detaching
use Rattle.slotmap_core.specs.declared.commands.Reply.{Reply}
use Rattle.slotmap_core.specs.declared.commands.Reply.TheVariants as reply

-- What is known of a key: that it has this value; is live, with a value that was seen as these; may be live, not detached; is detached; was returned, and is
-- neither; or is neither
pub data Knowledge (V R : Type 0) : Type 0 where
  has : V → Knowledge V R
  is_live : List R → Knowledge V R
  may_be_live : Knowledge V R
  is_detached : Knowledge V R
  gone : Knowledge V R
  absent : Knowledge V R

-- what is found of a key agrees with what is known of it; `looks` says what may be seen of a value, and `shows` what may be found of it
abbrev pub Agrees : {V R X : Type 0} → (V → R → Type 0) → (V → X → Type 0) → Knowledge V R → Option X → Type 0
Agrees {X = X} looks shows (has v) found = (x : X) × (found ≡ Some x) × shows v x
Agrees {V} {R} {X} looks shows (is_live seen) found = (x : X) × (found ≡ Some x) × (v : V) × shows v x × AllByRecursion (looks v) seen
Agrees looks shows may_be_live found = ⊤
Agrees looks shows _ found = found ≡ None

-- whether a key is found agrees with what is known of it
abbrev pub AgreesLive : {V R : Type 0} → Knowledge V R → Bool → Type 0
AgreesLive known is = elim known [ has v ↦ is ≡ true | is_live seen ↦ is ≡ true | may_be_live ↦ ⊤ | _ ↦ is ≡ false ]

-- what is known of a key once it isn't live
abbrev pub taken_out : {V R : Type 0} → Knowledge V R → Knowledge V R
taken_out known = elim known [ is_detached ↦ is_detached | absent ↦ absent | _ ↦ gone ]

-- what is known of a key once a reply shows that it isn't live, or that it is and its value was seen as these
abbrev pub settled : {V R : Type 0} → Option (List R) → Knowledge V R → Knowledge V R
settled (Some more) (is_live seen) = is_live (more ++ seen)
settled (Some more) may_be_live = is_live more
settled None may_be_live = gone
settled shown known = known

-- an insert may return this key: it is newer than each key that was returned at its index before, none of which is live or detached now
abbrev pub IsNewest : {V R : Type 0} → (Key → Knowledge V R) → Key → Type 0
IsNewest known k = (known k ≡ absent) × (1 ≤ k.index)
    × ((q : Key) → q.index ≡ k.index → known q ≢ absent → (q.version < k.version) × AgreesLive (known q) false × (known q ≢ is_detached))

module _ {K V R E : Type 0} (data_of : K → Key) where
  -- what is known of k after this command with this reply; the last argument is what was known before
  abbrev pub told : Key → DetachCommand K V → Reply K V R E → Knowledge V R → Knowledge V R
  told k (detaching.Plain (command.Insert v)) (reply.Key other) known =
      if eq_by_cmp key_cmp k (data_of other) then has v else (if nat_eq k.index (data_of other).index then taken_out known else known)
  told k (detaching.Plain command.InsertWith) (reply.Key other) known =
      if eq_by_cmp key_cmp k (data_of other) then is_live [] else (if nat_eq k.index (data_of other).index then taken_out known else known)
  told k (detaching.Plain (command.Get other)) (reply.Looked found) known = if eq_by_cmp key_cmp k (data_of other) then settled (option_map (λ r. r ∷ []) found) known else known
  told k (detaching.Plain (command.Contains other)) (reply.Flag is) known = if eq_by_cmp key_cmp k (data_of other) then settled (if is then Some [] else None) known else known
  told k (detaching.Plain command.Keys) (reply.Keys keys) known = settled (if set.contains (set.from_list {R = key_cmp} (list_map data_of keys.items)) k then Some [] else None) known
  told k (detaching.Plain (command.Replace other v)) (reply.Put put) known = if eq_by_cmp key_cmp k (data_of other) then (if is_ok put then has v else settled None known) else known
  told k (detaching.Plain (command.Remove other)) (reply.Taken taken) known = if eq_by_cmp key_cmp k (data_of other) then taken_out known else known
  told k (detaching.Detach other) (reply.Taken taken) known = if eq_by_cmp key_cmp k (data_of other) then (if is_some taken then is_detached else taken_out known) else known
  told k (detaching.Reattach other v) reply.Done known = if eq_by_cmp key_cmp k (data_of other) then has v else known
  told k (detaching.Plain command.Clear) reply.Done known = taken_out known
  told k (detaching.Plain command.Drain) (reply.Drained pairs) known = taken_out known
  told k (detaching.Plain command.Retain) reply.Done known = elim known [ is_detached ↦ is_detached | gone ↦ gone | absent ↦ absent | _ ↦ may_be_live ]
  told k _ _ known = known

  -- this may be the reply to this command: it is of its kind or says why the command failed, and agrees with what is known of each key
  abbrev pub Reads : (V → R → Type 0) → (Key → Knowledge V R) → DetachCommand K V → Reply K V R E → Type 0
  Reads looks known (detaching.Plain (command.Insert v)) (reply.Key k) = IsNewest known (data_of k)
  Reads looks known (detaching.Plain (command.Insert v)) answer = (answer ≡ reply.Full (Some v)) ⊎ (answer ≡ reply.Memory (Some v))
  Reads looks known (detaching.Plain command.InsertWith) (reply.Key k) = IsNewest known (data_of k)
  Reads looks known (detaching.Plain command.InsertWith) answer = (answer ≡ reply.Full None) ⊎ (answer ≡ reply.Memory None) ⊎ ((e : E) × (answer ≡ reply.Failed e))
  Reads looks known (detaching.Plain (command.Get k)) (reply.Looked found) = Agrees looks looks (known (data_of k)) found
  Reads looks known (detaching.Plain (command.Contains k)) (reply.Flag is) = AgreesLive (known (data_of k)) is
  Reads looks known (detaching.Plain (command.Replace k v)) (reply.Put (Ok old)) = Agrees looks (λ w x. x ≡ w) (known (data_of k)) (Some old)
  Reads looks known (detaching.Plain (command.Replace k v)) (reply.Put (Err back)) = AgreesLive (known (data_of k)) false × (back ≡ v)
  Reads looks known (detaching.Plain (command.Remove k)) (reply.Taken taken) = Agrees looks (λ w x. x ≡ w) (known (data_of k)) taken
  Reads looks known (detaching.Plain command.Retain) answer = answer ≡ reply.Done
  Reads looks known (detaching.Plain command.Clear) answer = answer ≡ reply.Done
  Reads looks known (detaching.Plain command.Drain) (reply.Drained pairs) = IsDistinct (eq_by_cmp key_cmp) (list_map (λ p. data_of p.0) pairs.items)
      × ((k : Key) → Agrees looks (λ w x. x ≡ w) (known k) (map.get (map.from_entries {R = key_cmp} (list_map (λ p. (data_of p.0, p.1)) pairs.items)) k))
  Reads looks known (detaching.Plain command.Drain) answer = answer ≡ reply.Memory None
  Reads looks known (detaching.Plain command.Keys) (reply.Keys keys) = IsDistinct (eq_by_cmp key_cmp) (list_map data_of keys.items)
      × ((k : Key) → AgreesLive (known k) (set.contains (set.from_list {R = key_cmp} (list_map data_of keys.items)) k))
  Reads looks known (detaching.Plain command.Keys) answer = answer ≡ reply.Memory None
  Reads looks known (detaching.Plain command.Len) (reply.Len n) = (keys : set.FinSet key_cmp) × (set.len keys ≡ n) × ((k : Key) → AgreesLive (known k) (set.contains keys k))
  Reads looks known (detaching.Plain (command.Reserve n)) answer = (answer ≡ reply.Done) ⊎ (answer ≡ reply.TooGreat) ⊎ (answer ≡ reply.Memory None)
  Reads looks known (detaching.Detach k) (reply.Taken taken) = Agrees looks (λ w x. x ≡ w) (known (data_of k)) taken
  Reads looks known (detaching.Reattach k v) (reply.NotDetached back) = (known (data_of k) ≢ is_detached) × (back ≡ v)
  Reads looks known (detaching.Reattach k v) answer = (known (data_of k) ≡ is_detached) × ((answer ≡ reply.Done) ⊎ (answer ≡ reply.Memory (Some v)))
  Reads looks known _ _ = ⊥

  -- there is one reply for each command, and each agrees with what is known by the commands before it and their replies, beside what is known at first
  abbrev pub ReadsWhatWasPut : (V → R → Type 0) → (Key → Knowledge V R) → List (DetachCommand K V) → List (Reply K V R E) → Type 0
  ReadsWhatWasPut looks known (c ∷ cs) (r ∷ rs) = Reads looks known c r × ReadsWhatWasPut looks (λ k. told k c r (known k)) cs rs
  ReadsWhatWasPut looks known [] [] = ⊤
  ReadsWhatWasPut looks known _ _ = ⊥

  -- no insert returns an index above the most keys live or detached at one moment so far, nor a Len more keys than may be live: three numbers,
  -- counted from the replies
  abbrev pub IndexStaysSmall : ℕ → ℕ → ℕ → List (DetachCommand K V) → List (Reply K V R E) → Type 0
  IndexStaysSmall live detached peak (detaching.Plain c ∷ cs) (reply.Key k ∷ rs) =
      ((data_of k).index ≤ max peak (live + detached + 1)) × IndexStaysSmall (live + 1) detached (max peak (live + detached + 1)) cs rs
  IndexStaysSmall live detached peak (detaching.Plain (command.Remove k) ∷ cs) (reply.Taken (Some v) ∷ rs) = IndexStaysSmall (live - 1) detached peak cs rs
  IndexStaysSmall live detached peak (detaching.Detach k ∷ cs) (reply.Taken (Some v) ∷ rs) = IndexStaysSmall (live - 1) (detached + 1) peak cs rs
  IndexStaysSmall live detached peak (detaching.Reattach k v ∷ cs) (reply.Done ∷ rs) = IndexStaysSmall (live + 1) (detached - 1) peak cs rs
  IndexStaysSmall live detached peak (detaching.Plain command.Clear ∷ cs) (reply.Done ∷ rs) = IndexStaysSmall 0 detached peak cs rs
  IndexStaysSmall live detached peak (detaching.Plain command.Drain ∷ cs) (reply.Drained pairs ∷ rs) = IndexStaysSmall 0 detached peak cs rs
  IndexStaysSmall live detached peak (detaching.Plain command.Len ∷ cs) (reply.Len n ∷ rs) = (n ≤ live) × IndexStaysSmall n detached peak cs rs
  IndexStaysSmall live detached peak (c ∷ cs) (r ∷ rs) = IndexStaysSmall live detached peak cs rs
  IndexStaysSmall live detached peak _ _ = ⊤

-- what is known of each key of a map with this content
abbrev pub known_from : {V R : Type 0} → Content V → Key → Knowledge V R
known_from c k = if set.contains c.detached k then is_detached else elim (map.get c.live k) [ None ↦ absent | Some v ↦ has v ]
