-- Which keys are spent after a call: those that were, and each live key that was removed.
-- For callers.
use Rattle.std.proofs.Common.{⊎_elim, ◌≡◌, ◌≢◌, ◌⊎◌, inl, inr, ◌∷◌, ap, ◌∙◌, arith, ℕ, Bool, false, Option, None, Some, OnSome, IfNone, Result, Ok, Err, IfOk}
use Rattle.std.proofs.lemmas.List.Elements.{All-head, All-tail}
use Rattle.slotmap_core.specs.Words.{All, key_cmp, next_version, Content, IsContent, IsDetached, StaysValid, IsCloneBy, CanReplace, with_values, KeepsSpent, Detaches, Reattaches, with_value, Restores}
use Rattle.slotmap_core.specs.Words.{Key, IsLive, Stands, places, MayGrow, IsCopy, IsSpent, Inserts, Removes, Keeps, Leaves, IsErr, List, is_some, refl}
use Rattle.slotmap_core.proofs.Contents.LeaveLemmas.{Leaves-refl, Leaves-keeps, Leaves-with_value, Leaves-trans, Leaves-removes, was_live, same_live, live_no_more}
use Rattle.slotmap_core.proofs.Places.PlaceCount.{places_grow, detached_places, reattached_places}
use Rattle.slotmap_core.proofs.Contents.StandsLemmas.{inserted_stands, inserted_vacant, detached_stands, reattached_stands, left_stands}
use Rattle.slotmap_core.proofs.Contents.CloneLemmas.{clone_places}
use Rattle.slotmap_core.proofs.General.Maps.{false_of, none_of}
use Rattle.std.specs.FinMap as map
use Rattle.std.specs.FinSet as set

module _ {V : Type 0} where
  -- what is spent is neither live nor detached
  pub spent_stale : (c : Content V) (k : Key) → IsSpent c k → map.contains_key c.live k ≡ false
  spent_stale c k spent = false_of (map.contains_key c.live k) (λ there. let less = spent.stands k (inl there) refl in absurd (omega arith))

  pub spent_finds_nothing : (c : Content V) (k : Key) → IsSpent c k → map.get c.live k ≡ None
  spent_finds_nothing c k spent = none_of (map.get c.live k) (spent_stale c k spent)

  pub spent_not_detached : (c : Content V) (k : Key) → IsSpent c k → set.contains c.detached k ≡ false
  spent_not_detached c k spent = false_of (set.contains c.detached k) (λ there. let less = spent.stands k (inr there) refl in absurd (omega arith))

  pub live_not_spent : (c : Content V) (q k : Key) → IsLive c q → IsSpent c k → q ≢ k
  live_not_spent c q k live spent e = grind (arith, spent.stands q (inl live))

  -- there are as many places, a new vacant index follows a key that was live or detached, and no key becomes so
  record Frees (old new : Content V) : Type 0 where
    same_places : places new ≡ places old
    next : (i v : ℕ) → map.get new.next i ≡ Some v → (map.get old.next i ≡ Some v) ⊎ ((q : Key) × Stands old q × (q.index ≡ i) × (next_version q ≡ v))
    stood : (q : Key) → Stands new q → Stands old q

  module _ (old new : Content V) where
    Frees-leaves : Leaves old new → Frees old new
    Frees-leaves leaves = record {
      same_places = leaves.same_places;
      next = λ i v is. ⊎_elim (λ there. inl there) (λ gone. inr (gone.0, inl (was_live old new gone.0 gone.1), gone.3, gone.4)) ((leaves.next i v).0 is);
      stood = left_stands old new leaves;
    }

    Frees-restores : Restores old new → Frees old new
    Frees-restores restores = record {
      same_places = restores.same_places;
      next = λ i v is. ⊎_elim (λ there. inl there) (λ gone. inr (gone.0, inr gone.1, gone.3, gone.4)) ((restores.next i v).0 is);
      stood = λ q there. grind (arith, restores.live, restores.detached, set.contains-empty key_cmp q);
    }

    spent_frees : Frees old new → KeepsSpent old new
    spent_frees frees k spent = grind arith

    -- a key that was live or detached, and is no longer
    gone_spent : (reuses : Bool) → IsContent reuses old → Frees old new → (k : Key) → Stands old k → ((u : Key) → Stands new u → u ≢ k) → IsSpent new k
    gone_spent reuses well frees k stood none = record {
      within = omega (arith, frees.same_places, well.within k (inl stood));
      vacant =
          λ v is. ⊎_elim (λ there. absurd (well.not_used_and_vacant k (inl stood) (ap is_some there)))
          (λ gone. omega (arith, ap (λ q. q.version) (well.apart gone.0 k (inl gone.1) (inl stood) gone.2))) (frees.next k.index v is);
      stands = λ u there e. absurd (none u there (well.apart u k (inl (frees.stood u there)) (inl stood) e));
    }

    pub spent_leaves : Leaves old new → KeepsSpent old new
    spent_leaves leaves = spent_frees (Frees-leaves leaves)

    pub spent_keeps : Keeps old new → KeepsSpent old new
    spent_keeps keeps = spent_leaves (Leaves-keeps old new keeps)

    pub spent_copy : IsCopy old new → KeepsSpent old new
    spent_copy copy = grind arith

    pub spent_clone : (is_clone : V → V → Type 0) → IsCloneBy is_clone old new → KeepsSpent old new
    spent_clone is_clone clones k spent = grind (arith, clone_places is_clone old new clones)

    -- a map that is read back from the list that a map was written as
    pub spent_restores : Restores old new → KeepsSpent old new
    spent_restores restores = spent_frees (Frees-restores restores)

    module _ (reuses : Bool) (well : IsContent reuses old) where
      pub spent_inserts : (k : Key) (v : V) → Inserts old k v new → KeepsSpent old new
      spent_inserts j x inserts k spent = grind (arith, places_grow reuses old new well j x inserts, inserted_vacant, inserted_stands)

      -- an insert returns no key that is spent
      pub inserted_not_spent : (j : Key) (v : V) → Inserts old j v new → (k : Key) → IsSpent old k → j ≢ k
      inserted_not_spent j v inserts k spent = grind arith

      pub spent_removes : (k : Key) → IsLive old k → Removes old k new → KeepsSpent old new
      spent_removes k live removes = spent_leaves (Leaves-removes reuses old well k live new removes)

      pub spent_detaches : (k : Key) → IsLive old k → Detaches old k new → KeepsSpent old new
      spent_detaches k live detaches = grind (arith, detached_places reuses old new well k live detaches, detached_stands old new k live detaches)

      pub spent_reattaches : (k : Key) (v : V) → Reattaches old k v new → KeepsSpent old new
      spent_reattaches k v binds = grind (arith, reattached_places reuses old new well k v binds, reattached_stands old new k v binds)

      -- a live key that was removed
      pub left_spent : (k : Key) → Leaves old new → IsLive old k → map.contains_key new.live k ≡ false → IsSpent new k
      left_spent k leaves live gone = grind (arith, gone_spent reuses well (Frees-leaves leaves) k)

      pub removed_spent : (k : Key) → IsLive old k → Removes old k new → IsSpent new k
      removed_spent k live removes = left_spent k (Leaves-removes reuses old well k live new removes) live (live_no_more old new k removes)

      -- a detached key, in the map that is read back
      pub forgotten_spent : (k : Key) → Restores old new → IsDetached old k → IsSpent new k
      forgotten_spent k restores out = grind (arith, gone_spent reuses well (Frees-restores restores) k, set.contains-empty)

  -- a new value under a live key, and new values under several
  pub spent_with_value : (c : Content V) (k : Key) (v : V) → IsLive c k → KeepsSpent c (with_value c k v)
  spent_with_value c k v live = spent_leaves c (with_value c k v) (Leaves-with_value c k v live)

  Leaves-with_values : (c : Content V) (keys : List Key) (values : List V) → All (IsLive c) keys → Leaves c (with_values c keys values)
  Leaves-with_values c (k ∷ keys) (v ∷ values) live =
      let here = All-head (IsLive c) k keys live in
      Leaves-trans c (with_value c k v) (with_values (with_value c k v) keys values) (Leaves-with_value c k v here)
      (Leaves-with_values (with_value c k v) keys values (λ i d within. same_live c k v here _ ∙ All-tail (IsLive c) k keys live i d within))
  Leaves-with_values c keys values live = Leaves-refl c

  pub spent_with_values : (c : Content V) (keys : List Key) (values : List V) → CanReplace c keys → KeepsSpent c (with_values c keys values)
  spent_with_values c keys values can = spent_leaves c (with_values c keys values) (Leaves-with_values c keys values can.there)

  -- by the clauses of an insert, whatever it returns
  module _ (old new : Content V) (reuses : Bool) {K E : Type 0} (answer : Result K E) (valid : MayGrow reuses old (IsErr answer) new) (data_of : K → Key) (v : V) where
    pub spent_insert : IfOk answer (λ key. Inserts old (data_of key) v new) → KeepsSpent old new
    spent_insert ok = elim answer as (λ r. IfOk r (λ key. Inserts old (data_of key) v new) → (IsErr r → Keeps old new) → KeepsSpent old new) [
      | Ok key ↦ λ inserts same. spent_inserts old new reuses valid.before (data_of key) v inserts
      | Err e ↦ λ none same. spent_keeps old new (same refl)
    ] ok valid.unchanged

    pub insert_not_spent : IfOk answer (λ key. Inserts old (data_of key) v new) → (k : Key) → IsSpent old k → IfOk answer (λ key. data_of key ≢ k)
    insert_not_spent ok k spent = grind arith

  -- by the clauses of a removal, whatever it returns
  module _ (old new : Content V) (reuses : Bool) (valid : StaysValid reuses old new) (j : Key) (answer : Option V) (is : answer ≡ map.get old.live j) where
    pub spent_remove : OnSome answer (Removes old j new) → IfNone answer (new ≡ old) → KeepsSpent old new
    spent_remove removes unchanged k spent = grind (arith, spent_removes old new reuses valid.before j)

    pub spent_detach : OnSome answer (Detaches old j new) → IfNone answer (new ≡ old) → KeepsSpent old new
    spent_detach detaches unchanged k spent = grind (arith, spent_detaches old new reuses valid.before j)

    pub live_remove_spent : IsLive old j → OnSome answer (Removes old j new) → IsSpent new j
    live_remove_spent live removes = grind (arith, removed_spent old new reuses valid.before j live)

    -- the key is spent if its value is returned
    pub remove_spent : OnSome answer (Removes old j new) → OnSome answer (IsSpent new j)
    remove_spent removes = grind (arith, removed_spent old new reuses valid.before j)
