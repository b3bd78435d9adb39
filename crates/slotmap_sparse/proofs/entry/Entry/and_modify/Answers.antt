use Rattle.slotmap_core.proofs.Common.{refl, arith, get_bound, in_own, bind_twice, without_own}
use Rattle.slotmap_sparse.proofs.entry.Entry.and_modify.Goals as goal

pub returns-in-Occupied-clause-in_place : goal.returns-in-Occupied-clause-in_place
returns-in-Occupied-clause-in_place g c = in_own c.in-Occupied.entry.map.now.pairs (g.K.Key.data_of c.in-Occupied.entry.key) c.f.new.arg2

pub returns-in-Occupied-clause-same_writes : goal.returns-in-Occupied-clause-same_writes
returns-in-Occupied-clause-same_writes g c w = grind (arith, bind_twice)

pub returns-in-Occupied-clause-same_removal : goal.returns-in-Occupied-clause-same_removal
returns-in-Occupied-clause-same_removal g c = grind (arith, without_own, c.requires.in_place)

pub returns-in-Occupied-clause-value : goal.returns-in-Occupied-clause-value
returns-in-Occupied-clause-value g c =
    rw (c.in-Occupied.is, c.get_unchecked_mut.ensures.value, get_bound) (record { lent = c.get_unchecked_mut.result; result = c.f.result; left = _; before = refl; met = c.f.ensures; after = refl })
