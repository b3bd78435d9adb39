-- What nodes or a scene are once a returned `&mut` to the value of a node ends.
use Rattle.std.specs.Prelude.{Option}
use Rattle.std.specs.Borrow.{LendsIf, Fml, RattleType, MutBor}
use Rattle.slotmap.specs.Words.{Key}
use Rattle.slotmap_scene.specs.Node.{Forest, with_trees}
use Rattle.slotmap_scene.specs.Family.{with_value}
use Rattle.slotmap_scene.specs.contracts.Scene.{the_row}
use Rattle.slotmap_scene.specs.contracts.family.Nodes.{the_row as the_nodes_row}

-- once the borrow ends, the node has the last value written through it; at `None` nothing changes
abbrev pub lends_value_of : (K T : RattleType) → MutBor (Forest T.Denot) → Key → Option (MutBor T.Denot) → Fml
lends_value_of K T scene k r = LendsIf (the_row K T) T scene r (λ v. with_trees scene.now (with_value scene.now.nodes.live k v)) scene.now

abbrev pub lends_node_value : (T : RattleType) → MutBor (Forest T.Denot) → Key → Option (MutBor T.Denot) → Fml
lends_node_value T nodes k r = LendsIf (the_nodes_row T) T nodes r (λ v. with_trees nodes.now (with_value nodes.now.nodes.live k v)) nodes.now
