-- Wrong replies that the laws of a run refuse, with nothing known but the laws: no machine, no map.
use Rattle.std.proofs.Common.{◌≡◌, ◌≢◌, ◌<◌, ◌∷◌, ℕ}
use Rattle.std.specs.FinSet as set
use Rattle.std.specs.Global.{Vec}
use Rattle.slotmap_run.proofs.Common.{DetachCommand, Reply, Key, NoKeyTwice, absent, ReadsWhatWasPut, IndexStaysSmall, Plain, Detach, Reattach, keys_total, exact_keys, itself, tied}
use Rattle.slotmap_core.proofs.Common.{IsDistinct, key_cmp, List, [], Some, None, Option, Ok, true, false, arith}
use Rattle.slotmap_core.specs.declared.commands.Command.TheVariants as command
use Rattle.slotmap_core.specs.declared.commands.Reply.TheVariants as reply

module _ {K V R : Type 0} (E : Type 0) (data_of : K → Key) (looks : V → R → Type 0) where
  -- a new map's replies keep this law
  abbrev Reads : List (DetachCommand K V) → List (Reply K V R E) → Type 0
  Reads commands replies = ReadsWhatWasPut data_of looks (λ k. absent) commands replies

  -- a Get doesn't show the value before the last
  pub shows_the_last : (k : K) (v w : V) (r : R) → Reads (Plain (command.Insert v) ∷ Plain (command.Replace k w) ∷ Plain (command.Get k) ∷ [])
      (reply.Key k ∷ reply.Put (Ok v) ∷ reply.Looked (Some r) ∷ []) → looks w r
  shows_the_last k v w r law = grind (arith, law, itself keys_total exact_keys (data_of k))

  -- nor the value of another key
  pub shows_its_own : (k q : K) (v w : V) (r : R) → data_of k ≢ data_of q → Reads (Plain (command.Insert v) ∷ Plain (command.Insert w) ∷ Plain (command.Get k) ∷ [])
      (reply.Key k ∷ reply.Key q ∷ reply.Looked (Some r) ∷ []) → looks v r
  shows_its_own k q v w r apart law = grind (arith, law, itself keys_total exact_keys (data_of k), tied keys_total exact_keys (data_of k) (data_of q))

  -- no two inserts return one key, whether it is live or was removed
  pub not_twice : (replies : List (Reply K V R E)) (k : K) (v : V) → replies ≡ reply.Key k ∷ reply.Taken (Some v) ∷ reply.Key k ∷ [] → NoKeyTwice data_of replies → ⊥
  unfolding IsDistinct
  not_twice replies k v is law = let here = itself keys_total exact_keys (data_of k) in grind (arith, law, is, here)

  -- nor by the other law
  pub not_again : (k : K) (v w : V) → Reads (Plain (command.Insert v) ∷ Plain (command.Remove k) ∷ Plain (command.Insert w) ∷ [])
      (reply.Key k ∷ reply.Taken (Some v) ∷ reply.Key k ∷ []) → ⊥
  not_again k v w law = grind (arith, law, itself keys_total exact_keys (data_of k))

  -- a Replace returns the old value, not the new one
  pub returns_the_old : (k : K) (v w x : V) → Reads (Plain (command.Insert v) ∷ Plain (command.Replace k w) ∷ []) (reply.Key k ∷ reply.Put (Ok x) ∷ []) → x ≡ v
  returns_the_old k v w x law = grind (arith, law, itself keys_total exact_keys (data_of k))

  -- a removed key isn't found after a Clear
  pub stays_removed : (k : K) (v : V) (found : Option R) → Reads (Plain (command.Insert v) ∷ Plain (command.Remove k) ∷ Plain command.Clear ∷ Plain (command.Get k) ∷ [])
      (reply.Key k ∷ reply.Taken (Some v) ∷ reply.Done ∷ reply.Looked found ∷ []) → found ≡ None
  stays_removed k v found law = grind (arith, law, itself keys_total exact_keys (data_of k))

  -- the reply to a Get is `Looked`
  pub not_another_kind : (k : K) (n : ℕ) → Reads (Plain (command.Get k) ∷ []) (reply.Len n ∷ []) → ⊥
  not_another_kind k n law = grind (arith, law)

  -- a Get doesn't run out of memory
  pub not_memory : (k : K) (back : Option V) → Reads (Plain (command.Get k) ∷ []) (reply.Memory back ∷ []) → ⊥
  not_memory k back law = grind (arith, law)

  -- no reply is missing
  pub not_missing : (c : DetachCommand K V) (commands : List (DetachCommand K V)) → Reads (c ∷ commands) [] → ⊥
  not_missing c commands law = law

  -- and none is there without a command
  pub not_one_more : (r : Reply K V R E) (replies : List (Reply K V R E)) → Reads [] (r ∷ replies) → ⊥
  not_one_more r replies law = law

  -- no list has a key twice
  pub not_listed_twice : (k : K) (v : V) (keys : Vec K) → keys.items ≡ k ∷ k ∷ [] → Reads (Plain (command.Insert v) ∷ Plain command.Keys ∷ []) (reply.Key k ∷ reply.Keys keys ∷ []) → ⊥
  unfolding IsDistinct
  not_listed_twice k v keys is law = grind (arith, law, is, itself keys_total exact_keys (data_of k))

  pub not_drained_twice : (k : K) (v : V) (pairs : Vec (K × V)) → pairs.items ≡ (k, v) ∷ (k, v) ∷ [] → Reads (Plain (command.Insert v) ∷ Plain command.Drain ∷ [])
      (reply.Key k ∷ reply.Drained pairs ∷ []) → ⊥
  unfolding IsDistinct
  not_drained_twice k v pairs is law = grind (arith, law, is, itself keys_total exact_keys (data_of k))

  -- a live key isn't reattached
  pub not_reattached_live : (k : K) (v w : V) → Reads (Plain (command.Insert v) ∷ Reattach k w ∷ []) (reply.Key k ∷ reply.Done ∷ []) → ⊥
  not_reattached_live k v w law = grind (arith, law, itself keys_total exact_keys (data_of k))

  -- nor a detached key twice
  pub not_reattached_twice : (k : K) (v w x : V) → Reads (Plain (command.Insert v) ∷ Detach k ∷ Reattach k w ∷ Reattach k x ∷ [])
      (reply.Key k ∷ reply.Taken (Some v) ∷ reply.Done ∷ reply.Done ∷ []) → ⊥
  not_reattached_twice k v w x law = grind (arith, law, itself keys_total exact_keys (data_of k))

  -- `Len(7)` isn't the first reply, whatever the first command is
  pub not_seven : (c : DetachCommand K V) (commands : List (DetachCommand K V)) (replies : List (Reply K V R E)) → Reads (c ∷ commands) (reply.Len 7 ∷ replies) → ⊥
  not_seven c commands replies law = grind (arith, law, set.same_set keys_total exact_keys, set.contains-empty key_cmp, set.len-empty key_cmp)

  -- the number of live keys after one insert is 1
  pub counts_one : (k : K) (v : V) (n : ℕ) → Reads (Plain (command.Insert v) ∷ Plain command.Len ∷ []) (reply.Key k ∷ reply.Len n ∷ []) → n ≡ 1
  counts_one k v n law =
      let one = set.insert (set.empty {R = key_cmp}) (data_of k) in
      let same : law.1.0.0 ≡ one = set.same_set keys_total exact_keys law.1.0.0 one (λ q. grind (arith, law.1.0.2 q, set.contains-insert keys_total (set.empty {R = key_cmp}) (data_of k) q, set.contains-empty key_cmp q)) in
      grind (arith, same, law, set.len-insert keys_total (set.empty {R = key_cmp}) (data_of k), set.contains-empty key_cmp (data_of k), set.len-empty key_cmp)

  -- a key that was shown to be live after a Retain doesn't vanish
  pub not_vanishing : (k : K) (v : V) → Reads (Plain (command.Insert v) ∷ Plain command.Retain ∷ Plain (command.Contains k) ∷ Plain (command.Contains k) ∷ [])
      (reply.Key k ∷ reply.Done ∷ reply.Flag true ∷ reply.Flag false ∷ []) → ⊥
  not_vanishing k v law = grind (arith, law, itself keys_total exact_keys (data_of k))

  -- and one that was shown not to be live stays out
  pub not_revived : (k : K) (v : V) (r : R) → Reads (Plain (command.Insert v) ∷ Plain command.Retain ∷ Plain (command.Get k) ∷ Plain (command.Get k) ∷ [])
      (reply.Key k ∷ reply.Done ∷ reply.Looked None ∷ reply.Looked (Some r) ∷ []) → ⊥
  not_revived k v r law = grind (arith, law, itself keys_total exact_keys (data_of k))

  -- two looks show one value
  pub shows_one_value : (k : K) (v : V) (r s : R) → Reads (Plain (command.Insert v) ∷ Plain command.Retain ∷ Plain (command.Get k) ∷ Plain (command.Get k) ∷ [])
      (reply.Key k ∷ reply.Done ∷ reply.Looked (Some r) ∷ reply.Looked (Some s) ∷ []) → (w : V) × looks w r × looks w s
  shows_one_value k v r s law = grind (arith, law, itself keys_total exact_keys (data_of k))

  -- so after an InsertWith
  pub shows_what_was_made : (k : K) (r s : R) → Reads (Plain command.InsertWith ∷ Plain (command.Get k) ∷ Plain (command.Get k) ∷ [])
      (reply.Key k ∷ reply.Looked (Some r) ∷ reply.Looked (Some s) ∷ []) → (w : V) × looks w r × looks w s
  shows_what_was_made k r s law = grind (arith, law, itself keys_total exact_keys (data_of k))

  -- a Remove returns the value that was seen
  pub takes_what_was_seen : (k : K) (r : R) (w : V) → Reads (Plain command.InsertWith ∷ Plain (command.Get k) ∷ Plain (command.Remove k) ∷ [])
      (reply.Key k ∷ reply.Looked (Some r) ∷ reply.Taken (Some w) ∷ []) → looks w r
  takes_what_was_seen k r w law = grind (arith, law, itself keys_total exact_keys (data_of k))

  -- no two live keys have one index
  pub not_one_index : (k q : K) (v w : V) → (data_of k).index ≡ (data_of q).index → Reads (Plain (command.Insert v) ∷ Plain (command.Insert w) ∷ []) (reply.Key k ∷ reply.Key q ∷ []) → ⊥
  not_one_index k q v w same law = grind (arith, law, law.1.0.2 (data_of k), same, itself keys_total exact_keys (data_of k), tied keys_total exact_keys (data_of k) (data_of q))

  -- no key is older than an earlier one at its index
  pub not_older : (k q : K) (v w : V) → (data_of k).index ≡ (data_of q).index → (data_of q).version < (data_of k).version
      → Reads (Plain (command.Insert v) ∷ Plain (command.Remove k) ∷ Plain (command.Insert w) ∷ []) (reply.Key k ∷ reply.Taken (Some v) ∷ reply.Key q ∷ []) → ⊥
  not_older k q v w same older law = grind (arith, law, law.1.1.0.2 (data_of k), same, older, itself keys_total exact_keys (data_of k), tied keys_total exact_keys (data_of k) (data_of q))

  -- index 0 isn't returned
  pub not_zero : (k : K) (v : V) → (data_of k).index ≡ 0 → Reads (Plain (command.Insert v) ∷ []) (reply.Key k ∷ []) → ⊥
  not_zero k v at law = omega (arith, at, law.0.1)

  -- the number of keys doesn't rise without an insert
  pub not_more : (k : K) (v : V) → IndexStaysSmall {R = R} {E = E} data_of 0 0 0 (Plain (command.Insert v) ∷ Plain command.Retain ∷ Plain command.Len ∷ Plain command.Len ∷ [])
      (reply.Key k ∷ reply.Done ∷ reply.Len 0 ∷ reply.Len 1 ∷ []) → ⊥
  not_more k v law = omega (arith, law.1.1.0)
