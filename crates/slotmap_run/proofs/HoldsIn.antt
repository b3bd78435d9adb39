-- What is known of keys holds in a state of the machine.
use Rattle.std.proofs.Common.{◌≡◌}
use Rattle.std.specs.List.{AllByRecursion}
use Rattle.std.specs.FinMap as map
use Rattle.std.specs.FinSet as set
use Rattle.slotmap_run.proofs.Common.{Knowledge, has, is_live, may_be_live, is_detached, gone, absent, known_from, IsIssued}
use Rattle.slotmap_core.proofs.Common.{Key, key_cmp, Content, State, empty_state, Some, None, true, false, arith}
use Rattle.slotmap_run.proofs.Laws.{IsGood}

module _ {V R : Type 0} (looks : V → R → Type 0) where
  -- what is known of a key holds of it in this state
  abbrev pub Holds : Knowledge V R → State V → Key → Type 0
  Holds (has v) s k = (map.get s.live k ≡ Some v) × (set.contains s.detached k ≡ false) × IsIssued s k
  Holds (is_live seen) s k = ((v : V) × (map.get s.live k ≡ Some v) × AllByRecursion (looks v) seen) × (set.contains s.detached k ≡ false) × IsIssued s k
  Holds may_be_live s k = (set.contains s.detached k ≡ false) × IsIssued s k
  Holds is_detached s k = (map.get s.live k ≡ None) × (set.contains s.detached k ≡ true) × IsIssued s k
  Holds gone s k = (map.get s.live k ≡ None) × (set.contains s.detached k ≡ false) × IsIssued s k
  Holds absent s k = (map.get s.live k ≡ None) × (set.contains s.detached k ≡ false)

  -- what is known of each key holds in this state
  abbrev pub HoldsIn : (Key → Knowledge V R) → State V → Type 0
  HoldsIn known s = (k : Key) → Holds (known k) s k

  pub holds_from : (c : Content V) (s : State V) → IsGood s → s.live ≡ c.live → s.detached ≡ c.detached → HoldsIn (known_from c) s
  holds_from c s good live detached k = grind (arith, good.apart k, good.held_issued k)

  pub holds_at_first : HoldsIn (λ k. absent) empty_state
  holds_at_first k = (map.get-empty {X = V} key_cmp k, set.contains-empty key_cmp k)
