-- Which keys of a `DenseSlotMap` or a `HopSlotMap` are spent after a call, by the clauses of the call.
use Rattle.std.specs.FinMap as map
use Rattle.std.proofs.Common.{◌≡◌, ◌≢◌, true, false, Option, OnSome, IfNone, Result, IfOk, IsErr, OnErr}
use Rattle.slotmap_core.proofs.Common.{spent_insert, insert_not_spent, spent_remove, live_remove_spent, remove_spent, spent_detach}
use Rattle.slotmap.specs.Words.{Key, IsLive, IsSpent, KeepsSpent, Inserts, Removes, Detaches, Keeps, Dense, StaysDense, GrowsDense, HopContent, StaysHop, GrowsHop}
use Rattle.slotmap.proofs.MapContents.{if_none, dense_stays, dense_grows, hop_stays, hop_grows}

-- an insert, whatever it returns
module _ {V K E : Type 0} (answer : Result K E) (data_of : K → Key) (v : V) where
  module _ (old new : Dense V) (valid : GrowsDense old (IsErr answer) new) (ok : IfOk answer (λ key. Inserts old.content (data_of key) v new.content)) where
    pub spent_insert-dense : KeepsSpent old.content new.content
    spent_insert-dense = spent_insert old.content new.content false answer (dense_grows valid) data_of v ok

    pub insert_not_spent-dense : (k : Key) → IsSpent old.content k → IfOk answer (λ key. data_of key ≢ k)
    insert_not_spent-dense = insert_not_spent old.content new.content false answer (dense_grows valid) data_of v ok

  module _ (old new : HopContent V) (valid : GrowsHop old new) (unchanged : OnErr answer (Keeps old.content new.content))
      (ok : IfOk answer (λ key. Inserts old.content (data_of key) v new.content)) where
    pub spent_insert-hop : KeepsSpent old.content new.content
    spent_insert-hop = spent_insert old.content new.content true answer (hop_grows answer valid unchanged) data_of v ok

    pub insert_not_spent-hop : (k : Key) → IsSpent old.content k → IfOk answer (λ key. data_of key ≢ k)
    insert_not_spent-hop = insert_not_spent old.content new.content true answer (hop_grows answer valid unchanged) data_of v ok

-- a removal or a detach, whatever it returns
module _ {V : Type 0} (j : Key) (answer : Option V) where
  module _ (old new : Dense V) (valid : StaysDense old new) (is : answer ≡ map.get old.content.live j) where
    pub spent_remove-dense : OnSome answer (Removes old.content j new.content) → IfNone answer (new ≡ old) → KeepsSpent old.content new.content
    spent_remove-dense removes unchanged = spent_remove old.content new.content false (dense_stays valid) j answer is removes (if_none new old (λ (d : Dense V). d.content) answer unchanged)

    pub spent_detach-dense : OnSome answer (Detaches old.content j new.content) → IfNone answer (new ≡ old) → KeepsSpent old.content new.content
    spent_detach-dense detaches unchanged = spent_detach old.content new.content false (dense_stays valid) j answer is detaches (if_none new old (λ (d : Dense V). d.content) answer unchanged)

    pub live_remove_spent-dense : IsLive old.content j → OnSome answer (Removes old.content j new.content) → IsSpent new.content j
    live_remove_spent-dense = live_remove_spent old.content new.content false (dense_stays valid) j answer is

    pub remove_spent-dense : OnSome answer (Removes old.content j new.content) → OnSome answer (IsSpent new.content j)
    remove_spent-dense = remove_spent old.content new.content false (dense_stays valid) j answer is

  module _ (old new : HopContent V) (valid : StaysHop old new) (is : answer ≡ map.get old.content.live j) where
    pub spent_remove-hop : OnSome answer (Removes old.content j new.content) → IfNone answer (new ≡ old) → KeepsSpent old.content new.content
    spent_remove-hop removes unchanged = spent_remove old.content new.content true (hop_stays valid) j answer is removes (if_none new old (λ (d : HopContent V). d.content) answer unchanged)

    pub live_remove_spent-hop : IsLive old.content j → OnSome answer (Removes old.content j new.content) → IsSpent new.content j
    live_remove_spent-hop = live_remove_spent old.content new.content true (hop_stays valid) j answer is

    pub remove_spent-hop : OnSome answer (Removes old.content j new.content) → OnSome answer (IsSpent new.content j)
    remove_spent-hop = remove_spent old.content new.content true (hop_stays valid) j answer is
