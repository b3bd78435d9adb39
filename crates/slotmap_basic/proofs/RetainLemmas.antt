-- What the calls of a closure did so far to a map, by ascending index.
use Rattle.std.specs.FinMap as map
use Rattle.std.proofs.Common.{◌≡◌, ◌+◌, ◌<◌, ◌≤◌, ◌∷◌, ◌++◌, ℕ, Bool, true, false, cond, inl, List, [], Some, is_some, refl, sym, ap, subst, ◌∙◌, arith}
use Rattle.slotmap_core.proofs.Contents.IndexLemmas.{from_index-jump}
use Rattle.slotmap_core.specs.Words.{MutBor}
use Rattle.slotmap_core.proofs.Common.{Mut, Takes, FoldsTo, Key, Content, IsContent, IsLive, Visit, CallsAt, CallableOnEach, RetainsBy, Removes, with_value, FoldsTo-push, from_index, from_index-start}
use Rattle.slotmap_core.proofs.Common.{NoneBelow, key_cmp, same_live, Swept, Swept-start, Swept-on, Swept-next, Swept-removed, IsNextLive, remove-insert, Keyed-from_start, Keyed-next, Keyed-same}
use Rattle.slotmap_core.proofs.Common.{Keyed-may_come, Keyed-done, Visits, Visits-listed, Visits-stay}

-- if no key is below an index, the part from it on is the map
from_index-all : {V : Type 0} (i : ℕ) (m : map.FinMap key_cmp V) → NoneBelow m i → from_index i m ≡ m
from_index-all i m none = from_index-jump 0 i m (omega arith) (λ q there from. none q there) ∙ from_index-start m

module _ {F K V : Type 0} (g : Mut F (K × (MutBor V × Unit {0})) (Bool × (MutBor V × Unit {0}))) (data_of : K → Key) (old : Content V) (first : F) where
  -- the calls for the keys below this index took the map to `now`, and the closure to f
  pub record Going (now : Content V) (i : ℕ) (f : F) : Type 0 where
    pub swept : Swept true old now i
    pub visits : List (Visit K V)
    pub calls : FoldsTo (CallsAt g) first visits f
    pub visited : Visits data_of old.live visits (from_index i old.live) now.live

  pub Going-start : IsContent true old → (i : ℕ) → NoneBelow old.live i → Going old i first
  Going-start well i none = record {
    swept = Swept-start old i well;
    visits = [];
    calls = refl;
    visited = subst (λ rest. Visits data_of old.live [] rest old.live) (from_index-start old.live ∙ sym (from_index-all i old.live none)) (Keyed-from_start data_of old.live);
  }

  module _ {now : Content V} {i : ℕ} {f : F} (going : Going now i f) where
    -- the closure may be called for a key from the index on
    pub Going-may : CallableOnEach g data_of first old.live → (key : K) (shown : MutBor V) → i ≤ (data_of key).index → map.get now.live (data_of key) ≡ Some shown.now
        → Takes g f (key, (shown, tt))
    Going-may callable key shown from found = callable.at f key shown
        (Keyed-may_come data_of old.live g first f going.visits i now.live going.calls going.visited (data_of key) (ap is_some found) from)
        (Keyed-same data_of old.live going.visits i now.live going.visited (data_of key) from ∙ found)

    -- no key is left
    pub Going-end : ((q : Key) → IsLive now q → q.index < i) → RetainsBy g data_of first old.live now.live
    Going-end none =
        let visited = Keyed-done data_of old.live going.visits i now.live going.visited none in
        record {
          visits = going.visits;
          last = f;
          calls = going.calls;
          listed = Visits-listed data_of old.live going.visits now.live visited;
          stay = Visits-stay data_of old.live going.visits now.live visited;
        }

    -- the closure was called for the next key
    module _ (well : IsContent true old) (x : Visit K V) {f' : F} (call : CallsAt g f x f') (from : i ≤ (data_of x.key).index)
        (next : IsNextLive now i (data_of x.key)) (found : map.get now.live (data_of x.key) ≡ Some x.before) where
      abbrev k : Key
      k = data_of x.key

      is_live : IsLive now k
      is_live = ap is_some found

      written : Swept true old (with_value now k x.after) k.index
      written = Swept-next old now i k x.after going.swept is_live from

      one_more : (new : Content V) → Swept true old new (k.index + 1) → new.live ≡ cond x.stays (map.insert now.live k x.after) (map.remove now.live k) → Going new (k.index + 1) f'
      one_more new swept live = record {
        swept = swept;
        visits = going.visits ++ x ∷ [];
        calls = FoldsTo-push (CallsAt g) first going.visits f x f' going.calls call;
        visited = rw live (Keyed-next data_of old.live (λ p q live_p live_q same. well.apart q p (inl (inl live_q)) (inl (inl live_p)) same) going.visits i now.live x going.visited from next found);
      }

      pub Going-kept : x.stays ≡ true → Going (with_value now k x.after) (k.index + 1) f'
      Going-kept stays = one_more (with_value now k x.after) (Swept-on old (with_value now k x.after) k.index written) (rw stays refl)

      -- it is live until it is removed
      still_live : IsLive (with_value now k x.after) k
      still_live = same_live now k x.after is_live k ∙ is_live

      pub Going-dropped : x.stays ≡ false → (new : Content V) → Removes (with_value now k x.after) k new → new.capacity ≡ now.capacity → IsContent true new → Going new (k.index + 1) f'
      Going-dropped stays new removes capacity well_new =
          one_more new (Swept-removed old (with_value now k x.after) new k.index k written still_live refl removes capacity well_new) (rw stays (removes.live ∙ remove-insert now.live k x.after))
