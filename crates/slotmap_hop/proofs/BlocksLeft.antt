-- The blocks after several removals, one after the other.
use Rattle.std.specs.FinMap as map
use Rattle.std.proofs.Common.{◌≡◌, ◌+◌, ◌≤◌, ◌∷◌, ◌++◌, map as list_map, sym, ap, ◌∙◌, arith, ℕ, true, false, List, [], cond, Some, append_assoc, append-nil, is_some}
use Rattle.slotmap_core.proofs.Common.{Key, key_cmp, Visit, seen, seen_push, Removes, from_index, Keyed-same, entries_none, next_entry, Visits}
use Rattle.slotmap_hop.specs.HopContent.{HopContent, IsHopContent, IsNextLive, blocks_without, blocks_without_all}
use Rattle.slotmap_hop.specs.Retain.{dropped}

module _ {V : Type 0} where
  -- after one of these keys is removed, the others remain
  pub blocks_taken : (now new : HopContent V) (k : Key) (ks : List Key) → Removes now.content k new.content → new.blocks ≡ blocks_without now k
      → blocks_without_all now (k ∷ ks) ≡ blocks_without_all new ks
  blocks_taken now new k ks removes blocks = grind arith

  -- the keys of a map that has this first entry
  pub keys_first : (m n : map.FinMap key_cmp V) (k : Key) (v : V) → map.entries m ≡ (k, v) ∷ map.entries n → map.keys m ≡ k ∷ map.keys n
  keys_first m n k v first = ap (list_map (λ (e : Key × V). e.0)) first

  pub keys_none : (m : map.FinMap key_cmp V) → m ≡ map.empty → map.keys m ≡ []
  keys_none m none = ap (λ n. map.keys n) none ∙ ap (list_map (λ (e : Key × V). e.0)) entries_none

module _ {K V : Type 0} (data_of : K → Key) where
  dropped_push : (xs : List (Visit K V)) (x : Visit K V) → dropped data_of (xs ++ x ∷ []) ≡ dropped data_of xs ++ cond x.stays [] (data_of x.key ∷ [])
  dropped_push [] x = grind arith
  dropped_push (y ∷ xs) x = grind (arith, dropped_push xs x)

  -- the calls so far, in order, and the keys that they removed
  pub record InOrder (old : HopContent V) (visits : List (Visit K V)) (index : ℕ) (now : HopContent V) : Type 0 where
    pub ascending : map.entries old.content.live ≡ seen data_of visits ++ map.entries (from_index index old.content.live)
    pub blocks : (ks : List Key) → blocks_without_all old (dropped data_of visits ++ ks) ≡ blocks_without_all now ks

  module _ (old now : HopContent V) (visits : List (Visit K V)) (index : ℕ) (so_far : InOrder old visits index now) (well : IsHopContent old)
      (visited : Visits data_of old.content.live visits (from_index index old.content.live) now.content.live)
      (x : Visit K V) (comes : IsNextLive data_of now.content index (Some x.key)) (found : map.get now.content.live (data_of x.key) ≡ Some x.before) where
    next_seen : map.entries old.content.live ≡ seen data_of (visits ++ x ∷ []) ++ map.entries (from_index ((data_of x.key).index + 1) old.content.live)
    next_seen =
        let k = data_of x.key in
        let same : (q : Key) → index ≤ q.index → map.get old.content.live q ≡ map.get now.content.live q =
        λ q from. Keyed-same data_of old.content.live visits index now.content.live visited q from in
        let first = next_entry old.content well.valid index k (λ q there from. comes.2 q (sym (ap is_some (same q from)) ∙ there) from) x.before comes.1 (same k comes.1 ∙ found) in
        rw (seen_push data_of visits x, append_assoc, ← first) so_far.ascending

    -- the entry stays, and no block changes
    pub InOrder-kept : (new : HopContent V) → x.stays ≡ true → new.content.next ≡ now.content.next → new.blocks ≡ now.blocks
        → InOrder old (visits ++ x ∷ []) ((data_of x.key).index + 1) new
    InOrder-kept new stays next blocks = grind (arith, next_seen, dropped_push, append-nil)

    -- the key is removed
    pub InOrder-dropped : (written new : HopContent V) → x.stays ≡ false → written.content.next ≡ now.content.next → written.blocks ≡ now.blocks
        → Removes written.content (data_of x.key) new.content → new.blocks ≡ blocks_without written (data_of x.key)
        → InOrder old (visits ++ x ∷ []) ((data_of x.key).index + 1) new
    InOrder-dropped written new stays next same removes blocks = grind (arith, next_seen, dropped_push, append_assoc, blocks_taken)
