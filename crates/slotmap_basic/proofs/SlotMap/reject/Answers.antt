use Rattle.std.proofs.Common.{◌≡◌}
use Rattle.slotmap_basic.proofs.Common.{inl, arith, same_Some, ap, sym, ◌∙◌, AreSlotsOf, version_at, valid_of_slots, count_of_slots, live_version}
use Rattle.slotmap_basic.proofs.SlotMap.reject.Goals.{After-layout, After-version-version}
use Rattle.slotmap_basic.proofs.SlotMap.reject.Goals as goal

shows : (g : _) (c : After-layout g) → AreSlotsOf c.layout.result.now.slots c.args.self.now
shows g c = rw c.self.view_is at c.layout.ensures

index_is : (g : _) (c : After-layout g) → c.idx-index.result ≡ (g.K.Key.data_of c.args.key).index
index_is g c = c.idx-index.ensures.value ∙ ap (λ k. k.index) c.data.ensures.value

-- what is read is the key's version
version_is : (g : _) (c : After-version-version g) → c.version-version.result ≡ (g.K.Key.data_of c.args.key).version
version_is g c =
    let at = (goal.at.After-version-version g c).After-layout in
    same_Some _ _ (sym c.version-version.ensures ∙ ap (version_at c.layout.result.now.slots) (index_is g at) ∙ live_version (shows g at) _ c.requires)

pub version-version-requires : goal.version-version-requires
version-version-requires g c =
    let at = (goal.at.version-version-requires g c).After-layout in omega (arith, index_is g at, (valid_of_slots (shows g at)).within _ (inl (inl c.requires)), count_of_slots (shows g at))

pub exact-requires : goal.exact-requires
exact-requires g c =
    let at = (goal.at.exact-requires g c).After-version-version in rw (index_is g (goal.at.exact-requires g c).After-layout, version_is g at) (rw c.data.ensures.value at c.data.ensures.valid)

pub take-requires : goal.take-requires
take-requires g c = rw (c.exact.ensures, index_is g (goal.at.take-requires g c).After-layout, version_is g (goal.at.take-requires g c).After-version-version, c.self.view_is) c.requires
