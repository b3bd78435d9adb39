-- A dense map is well formed between calls.
use Rattle.std.specs.FinMap as map
use Rattle.std.proofs.Common.{◌≡◌, ◌-◌, ◌≤◌, zip, ℕ, min, true, false, [], Some, List, length, set, refl, ◌∙◌, arith}
use Rattle.slotmap_core.proofs.Common.{Key, Content, IsContent, IsLive, keys_total, exact_keys, tied, IsContent-with_value, get_inserted, get_other, WriteLaws, length-zip}
use Rattle.slotmap_dense.specs.Dense.{Dense, IsDense, value_of, with_value_of, put_beside}
use Rattle.slotmap_dense.specs.Packed.{IsSound, dense_of, live_of}
use Rattle.slotmap_dense.proofs.PackedLemmas.{contains-packed, len-live, listed, live-written, put-there, IsPacked-none}
use Rattle.slotmap_dense.proofs.{SwapRemoveLemmas.find-beside, SwapRemoveLemmas.length-put_beside, OverLemmas.SameKeys, OverLemmas.IsContent-over}

module _ {V : Type 0} (slots : Content ℕ) (keys : List Key) (values : List V) (sound : IsSound slots keys values) where
  pub same_keys : SameKeys (live_of keys values) slots.live
  same_keys = grind (arith, contains-packed, len-live)

  pub dense_well : (spare : ℕ) → length keys ≤ spare → IsDense (dense_of slots keys values spare)
  dense_well spare holds = record {
    content =
        IsContent-over slots (live_of keys values) same_keys (min slots.room (spare - length keys)) (min slots.capacity spare) sound.well (omega arith)
        (omega (arith, same_keys.all, sound.well.capacity_fits, sound.packed.counted));
    same_length = sound.same_length;
    listed = listed slots.live keys sound.packed values sound.same_length;
  }

  -- another value is written at the position of a live key
  pub dense-written : (spare : ℕ) (k : Key) (i : ℕ) (v : V) → map.get slots.live k ≡ Some i
      → dense_of slots keys (set values i v) spare ≡ with_value_of (dense_of slots keys values spare) k v
  dense-written spare k i v at = grind (arith, live-written, put-there)

-- an empty map
pub IsSound-new : (V : Type 0) (slots : Content ℕ) → IsContent true slots → slots.live ≡ map.empty → IsSound {V = V} slots [] []
IsSound-new V slots well none = record { well = well; packed = rw none IsPacked-none; same_length = refl }

-- the same keys in the same order, with another value for one of them
pub IsDense-with_value : {V : Type 0} (d : Dense V) (k : Key) (v : V) → IsDense d → IsLive d.content k → IsDense (with_value_of d k v)
IsDense-with_value {V} d k v well is_live = record {
  content = IsContent-with_value false d.content well.content k is_live v;
  same_length = length-put_beside d.keys d.values k v ∙ well.same_length;
  listed = record {
    all = map.same_map keys_total exact_keys _ _ (λ q. grind (
      arith,
      map.get-from_entries keys_total (zip d.keys (put_beside d.keys d.values k v)) q,
      map.get-from_entries keys_total (zip d.keys d.values) q,
      find-beside d.keys d.values k v q,
      map.get-insert keys_total d.content.live k v q,
      tied keys_total exact_keys q k,
      well.listed.all,
    ));
    once = grind (
      arith,
      length-zip d.keys (put_beside d.keys d.values k v),
      length-put_beside d.keys d.values k v,
      length-zip d.keys d.values,
      well.listed.once,
      map.len-insert keys_total d.content.live k v,
    );
  };
}

-- the same live keys at the same positions, with as many values
pub IsSound-other : {V : Type 0} (slots more : Content ℕ) (keys : List Key) (values ws : List V) → IsSound slots keys values → IsContent true more → more.live ≡ slots.live
    → length ws ≡ length values → IsSound more keys ws
IsSound-other slots more keys values ws sound well same long = record { well = well; packed = rw same sound.packed; same_length = long ∙ sound.same_length }

-- a value written under a live key is found there, and no other value changes
pub dense_written : {V : Type 0} → WriteLaws {M = Dense V} {V = V} value_of with_value_of
dense_written = grind (arith, get_inserted, keys_total, exact_keys, get_other)
