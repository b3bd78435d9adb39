use Rattle.std.proofs.Common.{◌≡◌, ◌++◌, map}
use Rattle.slotmap_list.proofs.StableList.to_vec.Given as goal

-- the values so far, and then those of the elements that are left
abbrev pub invariant-loop-value : goal.invariant-loop-value
invariant-loop-value g l =
    (goal.iterator-loop-value g).can_next l.value-iterator
    × (goal.iterator-loop-value g).is_finite l.value-iterator
    × (l.values.items ++ map (λ e. e.1) l.value-iterator ≡ map (λ e. e.1) l.self.elements)
