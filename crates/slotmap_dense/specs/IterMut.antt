-- What contracts see of the iterators that yield mutable references.
use Rattle.std.specs.Slice.Iter as slice
use Rattle.std.specs.Map.Iter.{TakesFirst}
use Rattle.std.specs.Prelude.{◌≡◌, List, Option, length, map as list_map, zip}
use Rattle.slotmap_core.specs.Words.{GName, MutBor, Key}
use Rattle.slotmap_dense.specs.Dense.{Dense}
use Rattle.slotmap_dense.specs.declared.iter_mut.IterMut.{IterMut}
use Rattle.slotmap_dense.specs.declared.iter_mut.ValuesMut.{ValuesMut}

module _ {K V : Type 0} where
  -- the pairs that an `IterMut` has yet to yield, by the data of their keys
  abbrev pub iter_mut_rest : (K → Key) → IterMut K V → List (Key × V)
  iter_mut_rest data_of s = zip (list_map data_of (slice.iter_rest s.keys)) (slice.iter_mut_rest s.values)

  -- the name of its loan
  abbrev pub iter_mut_name : IterMut K V → GName
  iter_mut_name s = slice.iter_mut_name s.values

  -- `next` may be called: as many keys are left as values
  abbrev pub IterMutCanStep : IterMut K V → Type 0
  IterMutCanStep s = length (slice.iter_mut_rest s.values) ≡ length (slice.iter_rest s.keys)

  -- an iterator over what the map holds, before its first step
  pub record StartsIterMut (data_of : K → Key) (d : Dense V) (s : IterMut K V) : Type 0 where
    pub in_order : iter_mut_rest data_of s ≡ zip d.keys d.values
    pub ready : IterMutCanStep s

  -- a call of `next` at s yielded r, the first pair of s, and left t
  abbrev pub iter_mut_steps : (K → Key) → IterMut K V → Option (K × MutBor V) → IterMut K V → Type 0
  iter_mut_steps data_of s r t = TakesFirst (λ (x : K × MutBor V). (data_of x.0, x.1.now)) (iter_mut_rest data_of s) r (iter_mut_rest data_of t) × IterMutCanStep t

  -- the values that a `ValuesMut` has yet to yield
  abbrev pub values_mut_rest : ValuesMut K V → List V
  values_mut_rest s = slice.iter_mut_rest s.values

  -- the name of its loan
  abbrev pub values_mut_name : ValuesMut K V → GName
  values_mut_name s = slice.iter_mut_name s.values

  -- a call of `next` at s yielded r and left t
  abbrev pub values_mut_steps : ValuesMut K V → Option (MutBor V) → ValuesMut K V → Type 0
  values_mut_steps s r t = slice.iter_mut_steps s.values r t.values
