use Rattle.std.proofs.Common.{◌≡◌, Some, sym, ap, ◌∙◌, rules}
use Rattle.slotmap_scene.specs.Family.{value_of}
use Rattle.slotmap_scene.specs.Offset.{shifted}
use Rattle.slotmap_scene.proofs.Offsets.{shifted_joins}
use Rattle.slotmap_scene.proofs.Worlds.{one_world, world_moved}
use Rattle.scene_callers.proofs.arm.move_hand.Goals as goal

pub prove_eq-unreachable-requires : goal.prove_eq-unreachable-requires
prove_eq-unreachable-requires c =
    let own : value_of c.args.arm.now.nodes.live c.args.hand ≡ Some c.in_ok-shift.field-0.now = sym c.in_ok-shift.ensures in
    let here = world_moved _ _ c.args.hand c.args.piece c.in-Ok.ensures.trees c.in-Ok.ensures.values c.in-Ok.ensures.no_cycle shifted _ c.in_ok-base.base own
    (c.in_ok-base.ensures.joined shifted_joins) in
    let is = one_world _ shifted c.args.hand c.in_ok-place.place _ (c.in_ok-place.ensures.joined shifted_joins) here in
    let same : c.in_ok-place.place ≡ c.under.result = is ∙ sym c.under.ensures in
    let x : c.in_ok-place.place.x ≡ c.under.result.x = ap (λ o. o.x) same in
    let y : c.in_ok-place.place.y ≡ c.under.result.y = ap (λ o. o.y) same in
    search rules
