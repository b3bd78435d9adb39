-- Each reply agrees with what the replies before it tell.
use Rattle.std.proofs.Common.{◌≡◌, ◌≢◌, ◌∷◌, ◌++◌, if◌then◌else◌}
use Rattle.std.proofs.lemmas.Simd.{map-map}
use Rattle.std.specs.FinMap as map
use Rattle.std.specs.FinSet as set
use Rattle.slotmap_run.proofs.Common.{list_map, Knowledge, has, is_live, may_be_live, is_detached, gone, absent, told, Reads, ReadsWhatWasPut, DetachCommand, Reply, Fresh, IsIssued}
use Rattle.slotmap_core.specs.Told.{AgreesLive, IsNewest, settled}
use Rattle.slotmap_core.proofs.General.Maps.{some_is}
use Rattle.std.specs.List.{AllByRecursion}
use Rattle.slotmap_core.proofs.Common.{Key, key_cmp, State, RunGiven, DetachStep, Run, IsListing, IsDistinct, IsKeyListing-listing, eq_by_cmp, List, [], Some, None, Bool, is_some, true, false, sym, subst, ◌∙◌, arith}
use Rattle.slotmap_run.proofs.{HoldsIn.Holds, HoldsIn.HoldsIn, MapChanges.changes, RemovedKeys.StepOf, Laws.not_issued, ListedOnce.listed_once}
use Rattle.slotmap_run.proofs.SetCounts.{live_keys, contains-live_keys, len-live_keys}
use Rattle.slotmap_core.specs.declared.commands.Command.TheVariants as command
use Rattle.slotmap_core.specs.declared.commands.DetachCommand.TheVariants as detaching
use Rattle.slotmap_core.specs.declared.commands.Reply.TheVariants as reply

-- what was seen of a value before and now was seen of it
all_seen : {X : Type 0} (P : X → Type 0) (xs ys : List X) → AllByRecursion P xs → AllByRecursion P ys → AllByRecursion P (xs ++ ys)
all_seen P [] ys before now = now
all_seen P (x ∷ xs) ys before now = (before.0, all_seen P xs ys before.1 now)

-- a fresh key isn't detached
fresh_free : {V : Type 0} (s : State V) (k : Key) → Fresh s k → set.contains s.detached k ≡ false
fresh_free s k fresh = grind (arith, fresh.apart k)

-- no live or detached key has a fresh key's index
fresh_alone : {V : Type 0} (s : State V) (k q : Key) → Fresh s k → q.index ≡ k.index → (map.get s.live q ≡ None) × (set.contains s.detached q ≡ false)
fresh_alone s k q fresh same = grind (arith, fresh.apart q, same)

module _ {V R : Type 0} (looks : V → R → Type 0) (s : State V) (k : Key) where
  -- what a reply tells holds that shows a key's value
  seen_holds : (known : Knowledge V R) (v : V) (more : List R) → map.get s.live k ≡ Some v → AllByRecursion (looks v) more → Holds looks known s k → Holds looks (settled (Some more) known) s k
  seen_holds may_be_live v more is shown h = ((v, is, shown), h.0, h.1)
  seen_holds (is_live seen) v more is shown h =
      let same : h.0.0 ≡ v = grind (arith, h.0.1, is) in ((v, is, all_seen (looks v) more seen shown (subst (λ x. AllByRecursion (looks x) seen) same h.0.2)), h.1, h.2)
  seen_holds (has w) v more is shown h = h
  seen_holds is_detached v more is shown h = h
  seen_holds gone v more is shown h = h
  seen_holds absent v more is shown h = h

  -- or whether it is live
  settled_holds : (known : Knowledge V R) (is : Bool) → is_some (map.get s.live k) ≡ is → Holds looks known s k → Holds looks (settled (if is then Some [] else None) known) s k
  settled_holds known true tells h = let found = some_is (map.get s.live k) tells in seen_holds known found.0 [] found.1 tt h
  settled_holds may_be_live false tells h = grind (arith, tells, h)
  settled_holds (has v) false tells h = h
  settled_holds (is_live seen) false tells h = h
  settled_holds is_detached false tells h = h
  settled_holds gone false tells h = h
  settled_holds absent false tells h = h

module _ {K V R E : Type 0} (given : RunGiven K V R E) (k : Key) (known : Knowledge V R) where
  -- after a step holds what is known then
  told_holds : (old : State V) (c : DetachCommand K V) (r : Reply K V R E) (new : State V) → DetachStep given old c r new
      → Holds given.looks known old k → Holds given.looks (told given.data_of k c r known) new k
  told_holds old (detaching.Plain (command.Insert v)) r new step h = grind (arith, changes, fresh_free old k, fresh_alone old)
  told_holds old (detaching.Plain command.InsertWith) r new step h = grind (arith, changes, fresh_free old k, fresh_alone old)
  told_holds old (detaching.Plain (command.Get other)) r new step h = grind (arith, settled_holds, seen_holds)
  told_holds old (detaching.Plain (command.Contains other)) r new step h = grind (arith, settled_holds)
  told_holds old (detaching.Plain (command.Replace other v)) r new step h = grind (arith, changes, settled_holds)
  told_holds old (detaching.Plain (command.Remove other)) r new step h = grind (arith, changes)
  told_holds old (detaching.Plain command.Retain) r new step h = grind (arith)
  told_holds old (detaching.Plain command.Clear) r new step h = grind (arith, map.get-empty {X = V} key_cmp k)
  told_holds old (detaching.Plain command.Drain) r new step h = grind (arith, map.get-empty {X = V} key_cmp k)
  told_holds old (detaching.Plain command.Keys) r new step h = grind (arith, settled_holds)
  told_holds old (detaching.Plain command.Len) r new step h = grind (arith)
  told_holds old (detaching.Plain (command.Reserve n)) r new step h = grind (arith)
  told_holds old (detaching.Detach other) (reply.Taken None) new step h = grind (arith, changes)
  told_holds old (detaching.Detach other) (reply.Taken (Some v)) new step h = grind (arith, changes)
  told_holds old (detaching.Detach other) _ new step h = absurd step
  told_holds old (detaching.Reattach other v) r new step h = grind (arith, changes)

module _ {K V R E : Type 0} (given : RunGiven K V R E) (old : State V) (known : Key → Knowledge V R) (holds : HoldsIn given.looks known old) where
  -- a fresh key wasn't returned before
  fresh_absent : (k : Key) → Fresh old k → known k ≡ absent
  fresh_absent k fresh = grind (arith, holds k, not_issued old k fresh, fresh_free old k fresh)

  -- what is known of a key that was returned says so
  known_issued : (q : Key) → known q ≢ absent → IsIssued old q
  known_issued q other = grind (arith, holds q, other)

  fresh_out : (k q : Key) → Fresh old k → q.index ≡ k.index → AgreesLive (known q) false × (known q ≢ is_detached)
  fresh_out k q fresh same = grind (arith, holds q, fresh_alone old k q fresh same)

  fresh_newest : (k : Key) → Fresh old k → IsNewest known k
  fresh_newest k fresh = (fresh_absent k fresh, fresh.positive, λ q same other. let out = fresh_out k q fresh same in (fresh.newer q (known_issued q other) same, out.0, out.1))

  -- the keys of the pairs that a drain returns
  drained_once : (pairs : List (K × V)) → IsListing old.live (list_map (λ p. (given.data_of p.0, p.1)) pairs)
      → IsDistinct (eq_by_cmp key_cmp) (list_map (λ p. given.data_of p.0) pairs)
  drained_once pairs listing =
      subst (λ ks. IsDistinct (eq_by_cmp key_cmp) ks) (map-map _ _ pairs) (listed_once old.live _ (IsKeyListing-listing old.live _ listing))

  -- the reply agrees with what is known
  reads : (c : DetachCommand K V) (r : Reply K V R E) (new : State V) → DetachStep given old c r new → Reads given.data_of given.looks known c r
  reads (detaching.Plain (command.Insert v)) r new step = grind (arith, fresh_newest)
  reads (detaching.Plain command.InsertWith) r new step = grind (arith, fresh_newest)
  reads (detaching.Plain (command.Get k)) r new step = grind (arith, holds)
  reads (detaching.Plain (command.Contains k)) r new step = grind (arith, holds)
  reads (detaching.Plain (command.Replace k v)) r new step = grind (arith, holds)
  reads (detaching.Plain (command.Remove k)) r new step = grind (arith, holds)
  reads (detaching.Plain command.Retain) r new step = grind (arith)
  reads (detaching.Plain command.Clear) r new step = grind (arith)
  reads (detaching.Plain command.Drain) (reply.Drained pairs) new step = (drained_once pairs.items step.0, λ k. let here = holds k in grind arith)
  reads (detaching.Plain command.Drain) (reply.Memory back) new step = grind arith
  reads (detaching.Plain command.Drain) _ new step = absurd step
  reads (detaching.Plain command.Keys) r new step = grind (arith, holds, listed_once)
  reads (detaching.Plain command.Len) (reply.Len n) new step =
      (live_keys old.live, len-live_keys old.live ∙ sym step.0, λ k. let here = holds k in grind (arith, contains-live_keys old.live k))
  reads (detaching.Plain command.Len) _ new step = absurd step
  reads (detaching.Plain (command.Reserve n)) r new step = grind (arith)
  reads (detaching.Detach k) r new step = grind (arith, holds)
  reads (detaching.Reattach k v) r new step = grind (arith, holds)

module _ {K V R E C : Type 0} (given : RunGiven K V R E) (of : C → DetachCommand K V) where
  pub reads_what_was_put : (commands : List C) (replies : List (Reply K V R E)) (s t : State V) → Run (StepOf given of) s commands replies t
      → (known : Key → Knowledge V R) → HoldsIn given.looks known s → ReadsWhatWasPut given.data_of given.looks known (list_map of commands) replies
  reads_what_was_put [] [] s t run known holds = tt
  reads_what_was_put (c ∷ cs) (r ∷ rs) s t run known holds = (
    reads given s known holds (of c) r run.0 run.1,
    reads_what_was_put cs rs run.0 t run.2 (λ k. told given.data_of k (of c) r (known k))
        (λ k. told_holds given k (known k) s (of c) r run.0 run.1 (holds k)),
  )
  reads_what_was_put _ _ s t run known holds = absurd run
