-- What is known of two joined maps stays known when a call changes one of them.
use Rattle.std.proofs.Common.{◌≡◌, ◌≢◌, ◌^◌, ◌<◌, ◌≤◌, ◌∷◌, ◌++◌, ◌⊎◌}
use Rattle.std.specs.FinMap as map
use Rattle.slotmap_run.proofs.Common.{Reply, Known}
use Rattle.slotmap_core.proofs.Common.{after_insert, Dictionary, common_steps, same_or_other, get_inserted, get_removed, stands_after_put, newer_stays, stands_after_remove, removed_gone, others_stay}
use Rattle.slotmap_core.proofs.Common.{Content, IsContent, Stands, State, Fresh, IsIssued, Fits, is_null, remove, keys_total, exact_keys, itself, get_other, get_left, newest_put, slice_get, ◌∙◌}
use Rattle.slotmap_core.proofs.Common.{Key, Lasts, Pairs, get, put, rules, ℕ, zero, suc, List, [], Some, Bool, false, inl, inr, refl, sym, arith}
use Rattle.slotmap_run.proofs.{MapChanges.changes, Fits.stands_of, Fits.held_of, Laws.Shrinks, UsedCounts.bound_held}

-- one more key in a list
pushed_key : {K : Type 0} (keys : List K) (k : K) (i : ℕ) (q : K) → slice_get (keys ++ k ∷ []) i ≡ Some q → (q ≡ k) ⊎ (slice_get keys i ≡ Some q)
pushed_key [] k zero q h = inl (cc)
pushed_key [] k (suc i) q h = absurd (cc)
pushed_key (x ∷ keys) k zero q h = inr h
pushed_key (x ∷ keys) k (suc i) q h = pushed_key keys k i q h

module _ {K V W : Type 0} (data_of : K → Key) (old new : Content V) (m : Pairs W) (keys : List K) (s t : State V) (fits : Fits s old) (now : Fits t new) (d : Dictionary W)
    (known : Known data_of s d old m keys) where
  -- the primary map changes, no key is returned, and no more keys are live or detached
  pub fewer : {R E : Type 0} (r : Reply K V R E) → Shrinks data_of s r t → Known data_of t d new m keys
  fewer r less = grind (arith, less.issued, less.held, known.answered, known.stored, known.written, known.agree, known.young, stands_of s old fits, held_of t new now)

  module _ (key : K) (v : V) (fresh : Fresh s (data_of key)) (is : t ≡ after_insert s (data_of key) v) where
    -- a fresh key finds nothing, as it was never issued
    none_found : get m (data_of key) ≡ map.get d (data_of key)
    none_found = grind (arith, common_steps, known.stored (data_of key).index, known.written (data_of key), fresh.newer)

    pub one_more : Lasts (2 ^ 31) new → Known data_of t d new m (keys ++ key ∷ [])
    one_more lasts = grind (arith, changes, itself keys_total exact_keys (data_of key), pushed_key keys key, bound_held s (data_of key) v, none_found, stands_of s old fits)

-- the secondary map changes
module _ {K V W : Type 0} (data_of : K → Key) (reuses : Bool) (old : Content V) (ok : IsContent reuses old) (m : Pairs W) (keys : List K) (s : State V) (fits : Fits s old) (d : Dictionary W)
    (known : Known data_of s d old m keys) (k : Key) (heard : IsIssued s k) where
  not_null : is_null k ≡ false
  not_null = let within = fits.within k heard in let limit = ok.limit in grind (arith, common_steps)

  -- a live or detached key is the newest of its index
  newest : Stands old k → (p : ℕ × W) → map.get m k.index ≡ Some p → p.0 ≤ k.version
  newest st p h = fits.present (record { index = k.index; version = p.0 }) k (known.stored k.index p h) st refl

  newer : (q : Key) → Stands old q → q ≢ k → q.index ≡ k.index → k.version < q.version
  newer q st other e = let le = fits.present k q heard st e in let apart : k.version ≢ q.version = λ v. other (search rules) in omega arith

  pub puts : (w : W) → Lasts (2 ^ 31) old → Known data_of s (map.insert d k w) old (put m k w) keys
  puts w lasts = record {
    answered = known.answered;
    stored = λ i p h. grind (arith, stands_after_put m k w i p h, known.stored i p, heard);
    written = λ q x h. grind (arith, changes, known.written q x, heard);
    agree = λ q st. elim (same_or_other q k) [
      | inl same ↦ rw same (newest_put m k w not_null (known.young k heard) (newest (rw same at st)) ∙ sym (get_inserted keys_total exact_keys d k w))
      | inr other ↦ let room = lasts.standing q st in
          newer_stays m k w q not_null (omega arith) (newer q st other) ∙ known.agree q st ∙ sym (get_other keys_total exact_keys d k w q other)
    ];
    young = known.young;
  }

  pub takes : Known data_of s (map.remove d k) old (remove m k) keys
  takes = record {
    answered = known.answered;
    stored = λ i p h. known.stored i p (stands_after_remove m k i p h);
    written = λ q x h. grind (arith, changes, known.written q x);
    agree = λ q st. elim (same_or_other q k) [
      | inl same ↦ rw same (removed_gone m k ∙ sym (get_removed keys_total exact_keys d k))
      | inr other ↦ others_stay m k q other ∙ known.agree q st ∙ sym (get_left keys_total exact_keys d k q other)
    ];
    young = known.young;
  }
