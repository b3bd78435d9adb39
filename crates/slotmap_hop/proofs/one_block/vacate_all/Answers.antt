use Rattle.slotmap_hop.proofs.Common.{common_steps, ap, ◌∙◌, arith, version_in, version_below, read_old, vacates_on}
use Rattle.std.proofs.lemmas.Option.{slice_get-get_or}
use Rattle.slotmap_hop.proofs.one_block.vacate_all.Goals as goal

pub overflow_add-version : goal.overflow_add-version
overflow_add-version g c =
    let d = c.index-slots-index.result in
    let size = c.loop-index.auto.slots in
    let at = c.loop-index.index in
    let below = version_below c.args.slots.now c.requires at _ (slice_get-get_or c.args.slots.now at d c.loop-index-test.true) in
    let same = c.version-version.ensures ∙ ap version_in (read_old c.loop-index.invariant size (omega (arith, c.loop-index-test.true, size)) d) in
    omega (arith, below, same)

pub loop-index-preserved : goal.loop-index-preserved
loop-index-preserved g c = grind (arith, common_steps, vacates_on)
