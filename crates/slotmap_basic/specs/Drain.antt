-- What a contract sees of a `Drain`.
use Rattle.std.specs.FinMap as map
use Rattle.slotmap_core.specs.Words.{Option, MutBor, Key, key_cmp, Content, KeepsLoan, NoneBelow, TakesPair, TakesFirst, EmptiesByIndex}
use Rattle.slotmap_basic.specs.Ahead.{KnowsLiveKeys}
use Rattle.slotmap_basic.specs.declared.drain.Drain.{Drain}

module _ {K V : Type 0} where
  -- the loan of the map
  abbrev pub drain_loan : Drain K V → MutBor (Content V)
  drain_loan d = d.map

  -- the pairs that are left
  abbrev pub drain_live : Drain K V → map.FinMap key_cmp V
  drain_live d = d.map.now.live

  -- no key at an index before that of the drain is live, and it knows the live keys from there on
  pub record DrainCanStep (d : Drain K V) : Type 0 where
    pub above : NoneBelow (drain_live d) d.cursor.index
    pub cursor : KnowsLiveKeys d.map.now d.cursor

  -- `next` took old to new, and yielded the item
  abbrev pub DrainSteps : (K → Key) → Drain K V → Option (K × V) → Drain K V → Type 0
  DrainSteps data_of old item new = TakesPair data_of old.map.now item new.map.now
      × KeepsLoan drain_loan EmptiesByIndex old new × DrainCanStep new × TakesFirst data_of old.map.now item new.map.now
