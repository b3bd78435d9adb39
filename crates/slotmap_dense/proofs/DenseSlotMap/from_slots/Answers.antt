use Rattle.std.proofs.Common.{◌≡◌, ◌+◌, ◌-◌, ◌^◌, ◌<◌, ◌∷◌, ◌++◌}
use Rattle.std.specs.FinMap as map
use Rattle.slotmap_dense.proofs.Common.{into_iter_items, nil_from_length, key_from-odd, next_consistent, common_steps, AreSplit-start, AreSplit-live, AreSplit-none, refuses-positions, IsSound-split}
use Rattle.slotmap_dense.proofs.Common.{append-nil, length_push, length-map, map-append, odd_of, list_limit, vec_capacity, append_assoc, same_places, fewer_read, reads-split, stack_alike, dense_valid}
use Rattle.slotmap_dense.proofs.Common.{list_map, Accepts, add-one, key, length, Some, min, refl, sym, ◌∙◌, arith, AreSplit}
use Rattle.slotmap_dense.proofs.Common.{[], ap}
use Rattle.slotmap_dense.proofs.DenseSlotMap.from_slots.Goals.{In_ok-check_slots, In-None, in-Some-value+in_ok-push-in-Some-value+in_ok-push-in-Some-value-2, in-None-value}
use Rattle.slotmap_dense.proofs.DenseSlotMap.from_slots.Goals as goal

accepted : (g : _) (c : In_ok-check_slots g) → Accepts c.args.list.items list_limit
accepted g c = rw c.deref.ensures.value at (c.in_ok-check_slots.ensures.ok.0 refl)

-- all records were read
split_all : (g : _) (c : In-None g) → AreSplit c.args.list.items c.loop-slot.positions.items (list_map g.K.Key.data_of c.loop-slot.keys.items) c.loop-slot.values.items
split_all g c =
    let at = c.loop-slot in
    let none : into_iter_items at.slot-iterator ≡ [] = nil_from_length _ (sym at.invariant.left ∙ c.in-None.ensures.steps.0) in
    let all : at.yielded ≡ c.args.list.items = sym (append-nil at.yielded) ∙ ap (λ xs. at.yielded ++ xs) (sym none) ∙ at.invariant.all in
    rw all at at.invariant.split

pub loop-slot-init : goal.loop-slot-init
loop-slot-init g c =
    let list = c.args.list in
    let gives = c.into_iter-slot-iterator.ensures.into_iter_gives in
    record {
      all = gives.0;
      left = omega (arith, gives.1, ap length gives.0, list.ok.0);
      counted = omega (arith, gives.1, list.ok.0);
      split = rw (c.in_ok-positions.ensures.items, c.new-keys.ensures.items, c.new-values.ensures.items) (AreSplit-start g.row.V.Denot);
      room = omega (arith, gives.1, c.in_ok-positions.ensures.len, c.in_ok-positions.ensures.capacity, c.len.ensures);
    }

pub overflow_cast-position : goal.overflow_cast-position
overflow_cast-position g c =
    let at = c.loop-slot in
    let accepted = accepted g (goal.at.overflow_cast-position g c).In_ok-check_slots in
    omega (arith, fewer_read _ _ _ _ at.invariant.split _ _ at.invariant.counted accepted, length-map at.keys.items g.K.Key.data_of, c.len-position.ensures, at.keys.ok.0)

pub overflow_cast-len : goal.overflow_cast-len
overflow_cast-len g c =
    let at = c.loop-slot in
    let accepted = accepted g (goal.at.overflow_cast-len g c).In_ok-check_slots in
    omega (arith, fewer_read _ _ _ _ at.invariant.split _ _ at.invariant.counted accepted, c.len-in-Some-value.ensures, at.positions.ok.0)

pub loop-slot-preserved : goal.loop-slot-preserved
loop-slot-preserved g c =
    let at = c.loop-slot in
    let before = at.invariant in
    let slot = c.in-Some.slot in
    let steps = c.in-Some.ensures.steps in
    let rest = into_iter_items c.next.new.self in
    let accepted = accepted g (goal.at.loop-slot-preserved g c).In_ok-check_slots in
    let whole : at.yielded ++ slot ∷ rest ≡ c.args.list.items = ap (λ xs. at.yielded ++ xs) (sym steps.0) ∙ before.all in
    let consistent = next_consistent c.args.list.items at.yielded rest slot list_limit accepted whole in
    let shrinks : length (into_iter_items at.slot-iterator) ≡ length rest + 1 = ap length steps.0 ∙ sym (add-one _) in
    record {
      all = append_assoc at.yielded (slot ∷ []) rest ∙ whole;
      left = omega (arith, before.left, steps.1, shrinks);
      counted = omega (arith, before.counted, steps.1, length_push at.yielded slot);
      split = elim c.match-slot.branch [
        | in-Some-value+in_ok-push-in-Some-value+in_ok-push-in-Some-value-2 w ↦
            let odd = odd_of slot consistent w.in-Some-value.value w.in-Some-value.is in
            let less : w.len-in-Some-value.result < 2 ^ 32 - 1 = omega
            (arith, accepted.short, before.counted, steps.1, same_places _ _ _ _ before.split, w.len-in-Some-value.ensures, at.positions.ok.0) in
            let key_is : g.K.Key.data_of w.from.result ≡ key (length at.positions.items) slot.version =
            ap g.K.Key.data_of (g.met.K.Key.from_gives_key _ _ w.from.ensures) ∙ g.met.K.Key.from_data _ w.new.ensures.valid ∙ w.new.ensures.value
            ∙ key_from-odd w.len-in-Some-value.result slot.version less odd
            ∙ ap (λ i. key i slot.version) (w.len-in-Some-value.ensures ∙ at.positions.ok.0) in
            rw (
              c.push_reserved.ensures.items,
              w.keys-is,
              w.values-is,
              w.value-is,
              w.in_ok-push-in-Some-value.ensures.items,
              w.in_ok-push-in-Some-value-2.ensures.items,
              w.in-Some-value.value-is,
              map-append g.K.Key.data_of at.keys.items (w.from.result ∷ []),
            )
            (AreSplit-live at.yielded at.positions.items _ at.values.items before.split slot w.in-Some-value.value w.in-Some-value.is odd w.len-position.result
            (omega (arith, w.len-position.ensures, at.keys.ok.0, length-map at.keys.items g.K.Key.data_of)) (g.K.Key.data_of w.from.result) key_is)
        | in-None-value w ↦ rw (c.push_reserved.ensures.items, w.keys-is, w.values-is, w.value-is)
            (AreSplit-none at.yielded at.positions.items _ at.values.items before.split slot w.in-None-value.is)
      ];
      room = omega (arith, before.room, steps.1, c.push_reserved.ensures.len, c.push_reserved.ensures.capacity);
    }

pub returns-in_err-slots-clause-err : goal.returns-in_err-slots-clause-err
returns-in_err-slots-clause-err g c = grind (arith, common_steps, refuses-positions)

pub invariant_of-result : goal.invariant_of-result
invariant_of-result g c =
    let at = goal.at.invariant_of-result g c in IsSound-split _ _ _ _ (split_all g at.In-None) list_limit (accepted g at.In_ok-check_slots) c.in_ok-slots.slots c.in_ok-slots.ensures.reads

pub returns-clause-valid : goal.returns-clause-valid
returns-clause-valid g c = dense_valid g.K.Key.data_of c.in_ok-slots.slots c.loop-slot.keys c.loop-slot.values (invariant_of-result g c)

pub returns-clause-reads : goal.returns-clause-reads
returns-clause-reads g c =
    let at = goal.at.returns-clause-reads g c in
    reads-split _ _ _ _ (split_all g at.In-None) list_limit (accepted g at.In_ok-check_slots) c.in_ok-slots.slots c.in_ok-slots.ensures.reads
    (min (vec_capacity c.loop-slot.keys) (vec_capacity c.loop-slot.values)) (returns-clause-valid g c).content

pub returns-clause-stack : goal.returns-clause-stack
returns-clause-stack g c = c.in_ok-slots.ensures.stack ∙ ap Some (stack_alike _ _ (split_all g (goal.at.returns-clause-stack g c).In-None).alike)

pub returns-clause-in_order : goal.returns-clause-in_order
returns-clause-in_order g c = let split = split_all g (goal.at.returns-clause-in_order g c).In-None in split.ascending ∙ ap (λ m. map.keys m) (sym split.lives)

pub push_reserved-requires : goal.push_reserved-requires
push_reserved-requires g c = grind (arith, common_steps)

pub loop-slot-smaller : goal.loop-slot-smaller
loop-slot-smaller g c = grind (arith, common_steps)

pub returns-in_err-check_slots-clause-err : goal.returns-in_err-check_slots-clause-err
returns-in_err-check_slots-clause-err g c = grind (arith, common_steps)
