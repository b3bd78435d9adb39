-- When a node isn't added or moved.
use Rattle.std.specs.Prelude.{◌≡◌, ◌≢◌, None, IsSome}
use Rattle.slotmap.specs.Words.{Key, Content, LacksRoom, used, most}
use Rattle.slotmap.specs.declared.InsertError.{InsertError}
use Rattle.slotmap.specs.declared.InsertError.TheVariants as insert
use Rattle.slotmap_scene.specs.Node.{Node, Nodes}
use Rattle.slotmap_scene.specs.declared.AddError.{AddError}
use Rattle.slotmap_scene.specs.declared.AddError.TheVariants.{Gone, GoneSibling, Full, Memory}
use Rattle.slotmap_scene.specs.declared.ReparentError.{ReparentError}
use Rattle.slotmap_scene.specs.declared.ReparentError.TheVariants as move
use Rattle.slotmap_scene.specs.declared.MoveError.{MoveError}
use Rattle.slotmap_scene.specs.declared.MoveError.TheVariants as beside
use Rattle.slotmap_scene.specs.Climb.{has_node, lacks_node, parent_of, IsWithin}

-- `Full` if and only if the limit is reached, else `Memory`, where no room was promised; the error holds the value
abbrev pub RefusesNode : {N T : Type 0} → Content N → T → InsertError T → Type 0
RefusesNode c v (insert.Full back) = (used c ≡ most) × (back ≡ v)
RefusesNode c v (insert.Memory back) = LacksRoom c × (back ≡ v)

module _ {T : Type 0} where
  abbrev pub as_add_error : InsertError T → AddError T
  as_add_error (insert.Full v) = Full v
  as_add_error (insert.Memory v) = Memory v

  -- the same, and `Gone` if and only if there is no such parent
  abbrev pub RefusesChild : Content (Node T) → Key → T → AddError T → Type 0
  RefusesChild c parent v (Gone back) = lacks_node c.live parent × (back ≡ v)
  RefusesChild c parent v (GoneSibling back) = ⊥
  RefusesChild c parent v (Full back) = has_node c.live parent × (used c ≡ most) × (back ≡ v)
  RefusesChild c parent v (Memory back) = has_node c.live parent × LacksRoom c × (back ≡ v)

  -- the same of a sibling: `GoneSibling` if and only if it has no parent
  abbrev pub RefusesSibling : Content (Node T) → Key → T → AddError T → Type 0
  RefusesSibling c s v (Gone back) = ⊥
  RefusesSibling c s v (GoneSibling back) = (parent_of c.live s ≡ None) × (back ≡ v)
  RefusesSibling c s v (Full back) = IsSome (parent_of c.live s) × (used c ≡ most) × (back ≡ v)
  RefusesSibling c s v (Memory back) = IsSome (parent_of c.live s) × LacksRoom c × (back ≡ v)

  -- `GoneNode` and `GoneParent` where there is no such node; `Cycle` if and only if the parent is the node, or below it
  abbrev pub RefusesParent : Nodes T → Key → Key → ReparentError → Type 0
  RefusesParent nodes k parent move.GoneNode = lacks_node nodes k
  RefusesParent nodes k parent move.GoneParent = has_node nodes k × lacks_node nodes parent
  RefusesParent nodes k parent move.Cycle = has_node nodes k × has_node nodes parent × IsWithin nodes parent k

  -- `GoneNode` if there is no such node, `GoneSibling` if the sibling has no parent, `Same` if the two are one; `Cycle` if and only if the
  -- sibling is below the node
  abbrev pub RefusesBeside : Nodes T → Key → Key → MoveError → Type 0
  RefusesBeside nodes k s beside.GoneNode = lacks_node nodes k
  RefusesBeside nodes k s beside.GoneSibling = has_node nodes k × (parent_of nodes s ≡ None)
  RefusesBeside nodes k s beside.Same = has_node nodes k × IsSome (parent_of nodes s) × (k ≡ s)
  RefusesBeside nodes k s beside.Cycle = has_node nodes k × IsSome (parent_of nodes s) × (k ≢ s) × IsWithin nodes s k
