use Rattle.std.proofs.Common.{◌≡◌, ◌<◌}
use Rattle.slotmap_basic.proofs.Common.{AreSlotsOf, cursor_of_slots, ahead_of_slots, none_odd, versions-length, valid_of_slots, count_of_slots, slots_below_limit, live_at_odd, passed_over, Key}
use Rattle.slotmap_basic.proofs.Common.{IsLive, if_none, inl, arith, dec_lt, odd_at}
use Rattle.slotmap_basic.proofs.SlotMap.next_live.Goals.{After-layout-columns, After-version-version, After-from, In_err-index}
use Rattle.slotmap_basic.proofs.SlotMap.next_live.Goals as goal

shows : (g : _) (c : After-layout-columns g) → AreSlotsOf c.layout-columns.result.now.slots c.args.self.now
shows g c = rw c.self.view_is at c.layout-columns.ensures

pub next_odd-requires : goal.next_odd-requires
next_odd-requires g c = ahead_of_slots (shows g (goal.at.next_odd-requires g c).After-layout-columns) c.args.cursor.now c.requires

-- the version that is read is odd, so its key is live
found : (g : _) (c : After-version-version g) → IsLive c.args.self.now (record { index = c.in_ok-index.index; version = c.version-version.result })
found g c = live_at_odd (shows g (goal.at.After-version-version g c).After-layout-columns) _ _ c.version-version.ensures (odd_at _ _ _ _ c.version-version.ensures c.in_ok-index.ensures.next)

key_is : (g : _) (c : After-from g) → g.K.Key.data_of c.from.result ≡ record { index = c.in_ok-index.index; version = c.version-version.result }
key_is g c = grind arith

pub returns-clause-on : goal.returns-clause-on
returns-clause-on g c = rw (key_is g (goal.at.returns-clause-on g c).After-from) c.in_ok-index.ensures.on

pub exact-requires : goal.exact-requires
exact-requires g c = (valid_of_slots (shows g (goal.at.exact-requires g c).After-layout-columns)).keys _ (inl (inl (found g (goal.at.exact-requires g c).After-version-version)))

-- no version is odd from the loop's index on, so no live key is there
none : (g : _) (c : In_err-index g) (other : Key) → IsLive c.args.self.now other → other.index < c.args.cursor.now.index
none g c other is_live =
    let within = ((valid_of_slots (shows g (goal.at.In_err-index g c).After-layout-columns)).within other (inl (inl is_live))).1 in
    let past = passed_over (shows g (goal.at.In_err-index g c).After-layout-columns) _ _ (none_odd _ _ _ c.in_err-index.ensures.none) other is_live in
    elim (dec_lt other.index c.args.cursor.now.index) [
      | yes p ↦ p
      | no p ↦ absurd (omega (arith, past (omega arith), within, versions-length c.layout-columns.result.now.slots, count_of_slots (shows g (goal.at.In_err-index g c).After-layout-columns)))
    ]

pub returns-in_err-index-clause-none : goal.returns-in_err-index-clause-none
returns-in_err-index-clause-none g c = if_none _ (none g (goal.at.returns-in_err-index-clause-none g c).In_err-index)

pub returns-in_err-index-clause-cursor : goal.returns-in_err-index-clause-cursor
returns-in_err-index-clause-cursor g c = cursor_of_slots (shows g (goal.at.returns-in_err-index-clause-cursor g c).After-layout-columns) c.next_odd.new.cursor c.next_odd.ensures.ahead

pub returns-in_err-index-clause-valid : goal.returns-in_err-index-clause-valid
returns-in_err-index-clause-valid g c = valid_of_slots (shows g (goal.at.returns-in_err-index-clause-valid g c).After-layout-columns)

pub returns-clause-live : goal.returns-clause-live
returns-clause-live g c = rw (key_is g (goal.at.returns-clause-live g c).After-from) (found g (goal.at.returns-clause-live g c).After-version-version, c.in_ok-index.ensures.next.on)

pub returns-clause-first : goal.returns-clause-first
returns-clause-first g c = rw (key_is g (goal.at.returns-clause-first g c).After-from) (λ other is_live from.
    passed_over (shows g (goal.at.returns-clause-first g c).After-layout-columns) _ _ (none_odd _ _ _ c.in_ok-index.ensures.next.passed) other is_live from)

pub returns-clause-cursor : goal.returns-clause-cursor
returns-clause-cursor g c = cursor_of_slots (shows g (goal.at.returns-clause-cursor g c).After-layout-columns) c.next_odd.new.cursor c.next_odd.ensures.ahead

pub returns-clause-valid : goal.returns-clause-valid
returns-clause-valid g c = valid_of_slots (shows g (goal.at.returns-clause-valid g c).After-layout-columns)

pub version-version-requires : goal.version-version-requires
version-version-requires g c = omega (arith, c.in_ok-index.ensures.ahead.behind.within, c.in_ok-index.ensures.on, versions-length c.layout-columns.result.now.slots)

pub overflow_cast-index : goal.overflow_cast-index
overflow_cast-index g c =
    omega (
      arith,
      c.in_ok-index.ensures.ahead.behind.within,
      c.in_ok-index.ensures.on,
      versions-length c.layout-columns.result.now.slots,
      slots_below_limit (shows g (goal.at.overflow_cast-index g c).After-layout-columns),
    )
