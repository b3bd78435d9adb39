use Rattle.std.proofs.Common.{◌≡◌, ◌%◌}
use Rattle.slotmap_basic.proofs.Common.{AreSlotsOf, live_at_odd, valid_of_slots, live_version, count_of_slots, refl, inl, arith}
use Rattle.slotmap_basic.proofs.SlotMap.live_at.Goals.{After-layout-columns, After-from}
use Rattle.slotmap_basic.proofs.SlotMap.live_at.Goals as goal

shows : (g : _) (c : After-layout-columns g) → AreSlotsOf c.layout-columns.result.now.slots c.args.self.now
shows g c = rw c.self.view_is at c.layout-columns.ensures

key_is : (g : _) (c : After-from g) → g.K.Key.data_of c.from.result ≡ record { index = c.args.index; version = c.version-version.result }
key_is g c = grind arith

odd : (g : _) (c : After-from g) → c.version-version.result % 2 ≡ 1
odd g c = omega (arith, c.if-version-eq0.false)

pub returns-then-index-len-clause-valid : goal.returns-then-index-len-clause-valid
returns-then-index-len-clause-valid g c = valid_of_slots (shows g (goal.at.returns-then-index-len-clause-valid g c).After-layout-columns)

pub returns-then-version-eq0-clause-valid : goal.returns-then-version-eq0-clause-valid
returns-then-version-eq0-clause-valid g c = valid_of_slots (shows g (goal.at.returns-then-version-eq0-clause-valid g c).After-layout-columns)

pub returns-clause-live : goal.returns-clause-live
returns-clause-live g c =
    let at = (goal.at.returns-clause-live g c).After-from in
    rw (key_is g at) (live_at_odd (shows g (goal.at.returns-clause-live g c).After-layout-columns) _ _ c.version-version.ensures (odd g at), refl)

pub returns-clause-valid : goal.returns-clause-valid
returns-clause-valid g c = valid_of_slots (shows g (goal.at.returns-clause-valid g c).After-layout-columns)

pub returns-then-index-len-clause-none : goal.returns-then-index-len-clause-none
returns-then-index-len-clause-none g c =
    let of = shows g (goal.at.returns-then-index-len-clause-none g c).After-layout-columns in
    λ k is_live same. omega (arith, ((valid_of_slots of).within k (inl (inl is_live))).1, count_of_slots of, c.if-index-len.true, c.len.ensures, same)

pub returns-then-version-eq0-clause-none : goal.returns-then-version-eq0-clause-none
returns-then-version-eq0-clause-none g c =
    let of = shows g (goal.at.returns-then-version-eq0-clause-none g c).After-layout-columns in
    λ k is_live same. grind (arith, live_version of k is_live, c.version-version.ensures, ((valid_of_slots of).keys k (inl (inl is_live))).odd, c.if-version-eq0.true, same)
