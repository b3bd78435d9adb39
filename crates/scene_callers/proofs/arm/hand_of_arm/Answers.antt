use Rattle.std.proofs.Common.{◌≡◌, Some, sym, ap, subst, ◌∙◌}
use Rattle.std.specs.Int.{int_wrap, w32}
use Rattle.std.proofs.Math.IntN.{ℤ, ◌+ℤ◌, +ℤ_assoc}
use Rattle.std.proofs.lemmas.Int.{int_wrap-add_right}
use Rattle.slotmap_scene.specs.Offset.{shifted}
use Rattle.slotmap_scene.specs.WorldValue.{IsWorld}
use Rattle.slotmap_scene.proofs.Offsets.{shifted_joins}
use Rattle.slotmap_scene.proofs.Worlds.{world_added_root, world_added_child, world_is}
use Rattle.scene_callers.proofs.arm.hand_of_arm.Goals as goal

wrap_three : (a b c : ℤ) → int_wrap w32 (a +ℤ int_wrap w32 (b +ℤ c)) ≡ int_wrap w32 (a +ℤ b +ℤ c)
wrap_three a b c = int_wrap-add_right w32 a (b +ℤ c) ∙ ap (int_wrap w32) (sym (+ℤ_assoc a b c))

pub returns : goal.returns
returns c =
    let upper = c.in_ok-upper.ensures in
    let lower = c.in_ok-lower.ensures in
    let tip = c.in_ok-tip.ensures in
    let at_upper : IsWorld shifted c.add_root.new.self.nodes.live c.in_ok-upper.upper c.args.shoulder =
    subst (λ m. IsWorld shifted m c.in_ok-upper.upper c.args.shoulder) (sym upper.adds.live) (world_added_root _ _ c.args.shoulder shifted) in
    let at_lower = world_added_child _ _ _ _ lower.gains lower.fresh shifted _ at_upper in
    let at_tip = world_added_child _ _ _ _ tip.gains tip.fresh shifted _ at_lower in
    world_is _ shifted _ _ _ at_tip (c.world.ensures.joined shifted_joins) c.world.ensures.none
    ∙ (λ i. Some (record { x = wrap_three c.args.hand.x c.args.elbow.x c.args.shoulder.x i; y = wrap_three c.args.hand.y c.args.elbow.y c.args.shoulder.y i }))
