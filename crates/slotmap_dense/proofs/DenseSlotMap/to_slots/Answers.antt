use Rattle.std.proofs.Common.{◌≡◌, ◌<◌}
use Rattle.slotmap_dense.proofs.Common.{IsRecordClone, slice_get_read, slice_get-map, writes_clones, clones_contents, equal_writes, equal_contents, false, vec_capacity, with_packed_value, well_formed}
use Rattle.slotmap_dense.proofs.Common.{list_map, Writes, take_all, length-map, zip_next, length, take, slice_get, Some, option_map, min, refl, ap, ◌∙◌, arith}
use Rattle.slotmap_dense.proofs.PositionLists.{position_within, writes-filled}
use Rattle.slotmap_dense.proofs.DenseSlotMap.to_slots.Goals.{In_ok-positions}
use Rattle.slotmap_dense.proofs.DenseSlotMap.to_slots.Goals as goal

-- the list of positions is that of the slots
positions_written : (g : _) (c : In_ok-positions g) → Writes c.self.inside.slots c.in_ok-positions.positions.items
positions_written g c = c.in_ok-positions.ensures.writes_if_clones_equal (λ x y r. r)

pub record_of-requires : goal.record_of-requires
record_of-requires g c =
    let m = c.self.inside in
    let list = c.in_ok-positions.positions in
    let within : c.loop-index.index < length list.items = omega (arith, c.loop-index-test.true, c.len-index-end.ensures, list.ok.0) in
    rw (c.deref.ensures.value) (position_within m.slots _ m.values.items c.self.invariant list.items (positions_written g (goal.at.record_of-requires g c).In_ok-positions) c.loop-index.index
    _ (slice_get_read list.items _ c.loop-index.index _ refl within c.index.ensures))

pub loop-index-preserved : goal.loop-index-preserved
loop-index-preserved g c =
    let list = c.in_ok-positions.positions in
    let i = c.loop-index.index in
    let values = c.self.inside.values.items in
    let within : i < length list.items = omega (arith, c.loop-index-test.true, c.len-index-end.ensures, list.ok.0) in
    let found : slice_get (list_map (with_packed_value values) list.items) i ≡ Some (with_packed_value values c.index.result.now) =
    slice_get-map (with_packed_value values) list.items i ∙ ap (option_map (with_packed_value values)) (slice_get_read list.items _ i _ refl within c.index.ensures) in
    let made : IsRecordClone g.V.Clone.is_clone (with_packed_value values c.index.result.now) c.in_ok-record_of.field-0 = rw c.deref.ensures.value at c.in_ok-record_of.ensures in
    record {
      written = rw (c.push_reserved.ensures.items) (zip_next (IsRecordClone g.V.Clone.is_clone) _ _ i _ _ c.loop-index.invariant.written found made);
      room = omega (arith, c.loop-index.invariant.room, c.push_reserved.ensures.len, c.push_reserved.ensures.capacity);
    }

pub returns-clause-writes : goal.returns-clause-writes
returns-clause-writes g c =
    let m = c.self.inside in
    let list = c.in_ok-positions.positions in
    let records = list_map (with_packed_value m.values.items) list.items in
    let all : take c.loop-index.index records ≡ records =
    take_all c.loop-index.index records (omega (arith, c.loop-index-test.false, c.len-index-end.ensures, list.ok.0, length-map list.items (with_packed_value m.values.items))) in
    let valid = well_formed _ c.self.inside c.self.view_is c.self.invariant in
    let writes = writes-filled m.slots (list_map g.K.Key.data_of m.keys.items) m.values.items c.self.invariant list.items
    (positions_written g (goal.at.returns-clause-writes g c).In_ok-positions) (min (vec_capacity m.keys) (vec_capacity m.values)) in
    writes_clones _ false _ valid.content _ (rw (← c.self.view_is) writes) _ (rw all at c.loop-index.invariant.written)

pub returns-clause-contents : goal.returns-clause-contents
returns-clause-contents g c = clones_contents _ false _ _ (returns-clause-writes g c)

pub returns-clause-writes_if_clones_equal : goal.returns-clause-writes_if_clones_equal
returns-clause-writes_if_clones_equal g c = equal_writes _ false _ _ (returns-clause-writes g c)

pub returns-clause-contents_if_clones_equal : goal.returns-clause-contents_if_clones_equal
returns-clause-contents_if_clones_equal g c = equal_contents _ false _ _ (returns-clause-writes g c)
