-- What contracts see of a `Drain`.
use Rattle.std.specs.FinMap as map
use Rattle.slotmap_core.specs.Words.{Option, MutBor, Key, key_cmp, Content, KeepsLoan, TakesPair, TakesFirst}
use Rattle.slotmap_core.specs.Transition.{Empties}
use Rattle.slotmap_hop.specs.HopContent.{HopContent, IsHopContent, IsNextLive}
use Rattle.slotmap_hop.specs.declared.drain.Drain.{Drain}

-- every key is removed
abbrev pub EmptiesMap : {V : Type 0} → HopContent V → Content V → Type 0
EmptiesMap old end = Empties old.content end

module _ {K V : Type 0} where
  -- the loan of the map
  abbrev pub hop_drain_loan : Drain K V → MutBor (HopContent V)
  hop_drain_loan d = d.map

  -- the pairs that are left
  abbrev pub hop_drain_live : Drain K V → map.FinMap key_cmp V
  hop_drain_live d = d.map.now.content.live

  module _ (data_of : K → Key) where
    -- the next key is the live key of the smallest index
    abbrev pub HopDrainCanStep : Drain K V → Type 0
    HopDrainCanStep d = IsHopContent d.map.now × IsNextLive data_of d.map.now.content 0 d.next

    -- `next` took old to new, and yielded the item
    abbrev pub HopDrainSteps : Drain K V → Option (K × V) → Drain K V → Type 0
    HopDrainSteps old item new = TakesPair data_of old.map.now.content item new.map.now.content
        × KeepsLoan hop_drain_loan EmptiesMap old new × HopDrainCanStep new × TakesFirst data_of old.map.now.content item new.map.now.content
