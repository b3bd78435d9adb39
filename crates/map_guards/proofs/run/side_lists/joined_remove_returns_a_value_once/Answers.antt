use Rattle.std.proofs.Common.{◌≡◌, [], ◌∷◌, None, refl}
use Rattle.slotmap_core.specs.declared.joined.JoinedCommand.TheVariants as command
use Rattle.slotmap_core.specs.declared.joined.JoinedReply.TheVariants as reply
use Rattle.map_guards.proofs.run.side_lists.joined_remove_returns_a_value_once.Goals as goal

pub returns : goal.returns
returns g c v asks k w again tells =
    let law = c.in-Ok.ensures.removed_for_good in
    let found = law (command.Insert v ∷ []) (command.Remove 1 ∷ [])
    (reply.Key k ∷ []) (reply.Taken again ∷ []) 1 (command.Remove 1) w refl refl asks tells in
    let same : reply.Taken again ≡ reply.Taken None = found.0 refl in cc
