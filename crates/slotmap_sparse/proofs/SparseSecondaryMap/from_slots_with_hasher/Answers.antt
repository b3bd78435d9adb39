use Rattle.std.specs.FinMap as map
use Rattle.slotmap_sparse.proofs.Common.{side_list_limit, Accepts, subst, length_push, slice_get_within, contents_by_place, Taking-next, Taking-here, Taking-end, common_steps, Read-absent, Read-slot}
use Rattle.slotmap_sparse.proofs.Common.{refl, arith, Read}
use Rattle.slotmap_sparse.proofs.SparseSecondaryMap.from_slots_with_hasher.Goals as goal

pub loop-slot-init : goal.loop-slot-init
loop-slot-init g c = grind (arith, common_steps, map.get-empty)

pub read-requires-clause-odd : goal.read-requires-clause-odd
read-requires-clause-odd g c some = grind (arith, Taking-here c.loop-slot.invariant.taking, slice_get_within)

pub read-requires-clause-absent : goal.read-requires-clause-absent
read-requires-clause-absent g c = grind (arith, Read-absent)

pub loop-slot-preserved : goal.loop-slot-preserved
loop-slot-preserved g c = grind (arith, common_steps, Taking-next, length_push, Read-slot)

pub returns-clause-contents : goal.returns-clause-contents
returns-clause-contents g c =
    let at = c.loop-slot in
    let list = c.args.list.items in
    let accepted = subst (λ l. Accepts l side_list_limit) c.deref.ensures.value (c.in_ok-check_slots.ensures.ok.0 refl) in
    let read = subst (λ l. Read l at.made.pairs) (Taking-end at.invariant.taking c.in-None.ensures.steps.0) at.invariant.read in
    contents_by_place list at.made.pairs read (λ i slot here some. (accepted.consistent i slot (slice_get_within list i slot here) here).0 some)

pub read-requires-clause-below : goal.read-requires-clause-below
read-requires-clause-below g c = grind (arith, common_steps)

pub overflow_add-index : goal.overflow_add-index
overflow_add-index g c = grind (arith, common_steps)
