-- The calls of a map with a stack are the steps of the machine that reuses the slot freed last.
use Rattle.std.proofs.Common.{◌≡◌, ◌+◌, ◌<◌, ◌∷◌, if◌then◌else◌}
use Rattle.std.specs.FinMap as map
use Rattle.std.specs.FinSet as set
use Rattle.slotmap_run.proofs.Common.{DetachCommand, Reply, IsLifo, Orders}
use Rattle.slotmap_core.proofs.Common.{AllByRecursion, nat_cmp_total, used, places_after, exact_unsigned, nil_from_length, places_grow, kept_places, removed_places, detached_places, reattached_places}
use Rattle.slotmap_core.proofs.Common.{Content, IsContent, IsLive, Inserts, Removes, Detaches, Reattaches, offer_of, top_key, keys_told, IsRefusal, keys_total, some_is, some_entry, nat_cmp, ◌∙◌}
use Rattle.slotmap_core.proofs.Common.{Key, places, most, IsNew, Keeps, Lifo, Run, ℕ, max, List, [], Some, Bool, true, refl, ap, arith, is_some}
use Rattle.slotmap_core.specs.Lifo.{stack_insert}
use Rattle.slotmap_run.proofs.{MapChanges.changes, Fits.new_fits}
use Rattle.slotmap_core.specs.Lifo as lifo

module _ {V : Type 0} (reuses : Bool) (old new : Content V) (ok : IsContent reuses old) (l : Lifo) (is : IsLifo l old) where
  -- if the map isn't full, the machine's offer is the map's
  offer_by : used old < most → (stack : List ℕ) → old.stack ≡ Some stack
      → (old.offer ≡ top_key old.next (places old) stack) × (places_after (places old) stack ≡ max (places old) (used old + 1))
  offer_by room stack e = grind (arith, ok.offers room, ok.stacked stack e, some_entry nat_cmp_total exact_unsigned old.next old.offer.index)

  pub lifo_inserts : (k : Key) (v : V) → Inserts old k v new → (k ≡ offer_of l) × IsLifo (stack_insert l) new
  lifo_inserts k v i = grind (arith, offer_by, set.contains-insert keys_total l.live k, map.get-insert keys_total old.live k v, places_grow reuses old new ok k v i)

  pub lifo_keeps : Keeps old new → IsLifo l new
  lifo_keeps k = grind (arith, is.live, k.live, kept_places reuses old new ok k)

  pub lifo_removes : (k : Key) → IsLive old k → Removes old k new → IsLifo (if set.contains l.live k then lifo.stack_remove l k else l) new
  lifo_removes k is_live r = grind (arith, is.live, r.live, changes, removed_places reuses old new ok k is_live r)

  pub lifo_detaches : (k : Key) → IsLive old k → Detaches old k new → IsLifo (if set.contains l.live k then lifo.stack_detach l k else l) new
  lifo_detaches k is_live r = grind (arith, is.live, r.live, changes, detached_places reuses old new ok k is_live r)

  pub lifo_reattaches : (k : Key) (v : V) → Reattaches old k v new → IsLifo (if set.contains l.detached k then lifo.stack_reattach l k else l) new
  lifo_reattaches k v r = grind (arith, is.live, r.live, r.was_detached, changes, reattached_places reuses old new ok k v r)

module _ {V : Type 0} (reuses : Bool) (c : Content V) (ok : IsContent reuses c) (new : IsNew c) where
  -- a new map with a stack is at the machine's start
  pub lifo_new : is_some c.stack ≡ true → IsLifo lifo.no_places c
  lifo_new some = let has = some_is c.stack some in grind (arith, has.1, (nil_from_length has.0 ((ok.stacked has.0 has.1).once ∙ ap map.len new.next ∙ map.len-empty nat_cmp ℕ)), new_fits c new)

module _ {K V R E : Type 0} (data_of : K → Key) where
  pub lifo_run : (l : Lifo) (old new : Content V) (cs : List (DetachCommand K V)) (rs : List (Reply K V R E)) → IsLifo l old → Run (Orders data_of) old cs rs new
      → AllByRecursion lifo.IsBasic cs → AllByRecursion (λ r. IsRefusal r → ⊥) rs → keys_told data_of rs ≡ lifo.stack_replies data_of l cs
  lifo_run l old new [] [] is run basic told = refl
  lifo_run l old new (c ∷ cs) (r ∷ rs) is run basic told = grind (arith, lifo_run (lifo.after_command data_of l c) run.0 new cs rs)
  lifo_run l old new _ _ is run basic told = absurd run
