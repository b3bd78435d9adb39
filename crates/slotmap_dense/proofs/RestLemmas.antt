-- The pairs from a position on, which a loop has yet to visit.
use Rattle.std.specs.FinMap as map
use Rattle.std.proofs.Common.{◌≡◌, ◌+◌, ◌≤◌, ℕ, List, length, set, drop, slice_get, Some, is_some, sym, ap, ◌∙◌, arith}
use Rattle.slotmap_core.proofs.Common.{Content, Key, nat_tests, drop_all, slice_get-set_other, keys_total, exact_keys, get_left, get_removed, same_at}
use Rattle.slotmap_dense.specs.{Dense.Dense, Dense.IsDense, Rest.rest_of, Rest.Comes}
use Rattle.slotmap_dense.specs.Packed.{IsSound, live_of, dense_of}
use Rattle.slotmap_dense.proofs.PackedLemmas.{position_cases, put-there, get-rest, value_there}

module _ {V : Type 0} (slots : Content ℕ) (keys : List Key) (values : List V) (sound : IsSound slots keys values) (p : ℕ) (k : Key) (stands : slice_get keys p ≡ Some k) where
  rest-next : (w : V) → rest_of (p + 1) keys (set values p w) ≡ map.remove (rest_of p keys values) k
  rest-next w = same_at keys_total exact_keys _ _ k
      (grind (arith, nat_tests, get-rest slots.live keys sound.packed (set values p w) (p + 1) k, sound.packed.names p k stands, get_removed keys_total exact_keys (rest_of p keys values) k))
      (λ q other. grind (
        arith,
        nat_tests,
        get-rest slots.live keys sound.packed (set values p w) (p + 1) q,
        get-rest slots.live keys sound.packed values p q,
        get_left keys_total exact_keys (rest_of p keys values) k q other,
        position_cases slots.live keys sound.packed q,
        slice_get-set_other values p,
      ))

  rest-written : (w : V) → map.remove (rest_of p keys (set values p w)) k ≡ map.remove (rest_of p keys values) k
  rest-written w = same_at keys_total exact_keys _ _ k
      (get_removed keys_total exact_keys (rest_of p keys (set values p w)) k ∙ sym (get_removed keys_total exact_keys (rest_of p keys values) k))
      (λ q other. grind (
        arith,
        get-rest slots.live keys sound.packed (set values p w) p q,
        get-rest slots.live keys sound.packed values p q,
        get_left keys_total exact_keys (rest_of p keys (set values p w)) k q other,
        get_left keys_total exact_keys (rest_of p keys values) k q other,
        position_cases slots.live keys sound.packed q,
        slice_get-set_other values p,
      ))

  -- what a loop finds at a position
  pub Comes-at : (spare : ℕ) → Comes (dense_of slots keys values spare) p k
  Comes-at spare =
      let at = sound.packed.names p k stands in
      let there = value_there slots.live keys sound.packed values sound.same_length k p at in
      record {
        stands = stands;
        is_live = ap is_some there.2;
        found = grind (arith, nat_tests, get-rest slots.live keys sound.packed values p k);
        next = λ w. ap (rest_of (p + 1) keys) (put-there slots.live keys sound.packed values k p w at) ∙ rest-next w;
        written = λ w. ap (λ ws. map.remove (rest_of p keys ws) k) (put-there slots.live keys sound.packed values k p w at) ∙ rest-written w;
      }

-- from the first position on there are all pairs, and after the last one none
pub rest-start : {V : Type 0} (d : Dense V) → IsDense d → rest_of 0 d.keys d.values ≡ d.content.live
rest-start d well = well.listed.all

pub rest-end : {V : Type 0} (p : ℕ) (keys : List Key) (values : List V) → length keys ≤ p → rest_of p keys values ≡ map.empty
rest-end p keys values past = ap (λ ks. live_of ks (drop p values)) (drop_all p keys past)
