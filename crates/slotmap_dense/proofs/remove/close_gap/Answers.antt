use Rattle.slotmap_core.proofs.Common.{refl, arith, slice_get_read, IsContent-with_value}
use Rattle.slotmap_dense.proofs.GapLemmas.{keys_after, packed_cut, packed_moved, moved_live}
use Rattle.slotmap_dense.proofs.remove.close_gap.Goals as goal

pub get_unchecked_mut-requires : goal.get_unchecked_mut-requires
get_unchecked_mut-requires g c =
    rw (c.data.ensures.value) (moved_live _ _ _ _ _ _ c.requires.gapped c.swap_remove.ensures.items c.index.result.now (omega (arith, c.swap_remove.new.self.ok.0)) c.index.ensures)

pub returns-then-index-len-clause-value : goal.returns-then-index-len-clause-value
returns-then-index-len-clause-value g c =
    slice_get_read c.args.values.now.items _ c.args.position _ refl (omega (arith, c.requires.gapped.inside, c.requires.same_length)) c.swap_remove-value.ensures.value

pub returns-then-index-len-clause-keys : goal.returns-then-index-len-clause-keys
returns-then-index-len-clause-keys g c = λ k there. keys_after _ _ _ _ _ _ c.requires.gapped c.swap_remove.ensures.items k

pub returns-else-index-len-clause-keys : goal.returns-else-index-len-clause-keys
returns-else-index-len-clause-keys g c = λ k there. keys_after _ _ _ _ _ _ c.requires.gapped c.swap_remove.ensures.items k

pub returns-then-index-len-clause-packed : goal.returns-then-index-len-clause-packed
returns-then-index-len-clause-packed g c =
    rw (c.data.ensures.value) (packed_moved _ _ _ _ _ _ c.requires.gapped c.swap_remove.ensures.items c.index.result.now (omega (arith, c.swap_remove.new.self.ok.0)) c.index.ensures)

pub returns-then-index-len-clause-well : goal.returns-then-index-len-clause-well
returns-then-index-len-clause-well g c =
    let is_live = moved_live _ _ _ _ _ _ c.requires.gapped c.swap_remove.ensures.items c.index.result.now (omega (arith, c.swap_remove.new.self.ok.0)) c.index.ensures in
    rw (c.data.ensures.value) (IsContent-with_value _ c.args.slots.now c.requires.well (g.K.Key.data_of c.index.result.now) is_live c.args.position)

pub returns-else-index-len-clause-value : goal.returns-else-index-len-clause-value
returns-else-index-len-clause-value g c =
    slice_get_read c.args.values.now.items _ c.args.position _ refl (omega (arith, c.requires.gapped.inside, c.requires.same_length)) c.swap_remove-value.ensures.value

pub returns-else-index-len-clause-packed : goal.returns-else-index-len-clause-packed
returns-else-index-len-clause-packed g c = packed_cut _ _ _ _ _ _ c.requires.gapped c.swap_remove.ensures.items (omega (arith, c.swap_remove.new.self.ok.0))
