-- Callers of a `DenseSlotMap` or a `HopSlotMap`: what the records of these maps say of the content, in the words that the
-- lemmas over contents take.
use Rattle.std.specs.FinMap as map
use Rattle.std.specs.FinSet as set
use Rattle.std.proofs.Common.{◌≡◌, ◌+◌, ◌∙◌, arith, Bool, true, false, Option, Some, None, is_some, IsSome, OnSome, IfNone, Result, Ok, Err, IsErr, OnErr, Bor}
use Rattle.slotmap_core.proofs.Common.{option_copied, refl, ap, keys, inserted_fresh, inserted_len, not_detached-grows}
use Rattle.slotmap.specs.Words.{Key, key_cmp, Content, IsContent, IsLive, Inserts, Keeps, StaysValid, MayGrow, Dense, IsDense, StaysDense, GrowsDense, HopContent, IsHopContent, StaysHop, GrowsHop}

-- an equation that holds of an absent result or of an error, seen through a function: of a map's content, or of its pairs
pub if_none : {X A B : Type 0} (a b : A) (f : A → B) (o : Option X) → IfNone o (a ≡ b) → IfNone o (f a ≡ f b)
if_none a b f None is = ap f is
if_none a b f (Some x) is = tt

pub on_err : {X E A B : Type 0} (a b : A) (f : A → B) (r : Result X E) → OnErr r (a ≡ b) → OnErr r (f a ≡ f b)
on_err a b f (Ok x) is = tt
on_err a b f (Err e) is = ap f is

-- what holds of each value that is returned, if one is
pub of_some : {X : Type 0} (P : Type 0) (o : Option X) → is_some o ≡ true → OnSome o P → P
of_some P None is p = absurd (cc)
of_some P (Some x) is p = p

-- a reference that is returned is one to a value
pub some_copied : {A : Type 0} (r : Option (Bor A)) → IsSome r → is_some (option_copied r) ≡ true
some_copied None there = there
some_copied (Some x) there = refl

module _ {V : Type 0} where
  pub dense_well : {d : Dense V} → IsDense d → IsContent false d.content
  dense_well well = well.content

  pub dense_stays : {old new : Dense V} → StaysDense old new → StaysValid false old.content new.content
  dense_stays valid = record { before = valid.before.content; after = valid.after.content; capacity = valid.capacity }

  pub dense_grows : {old new : Dense V} {refused : Type 0} → GrowsDense old refused new → MayGrow false old.content refused new.content
  dense_grows valid = record { before = valid.before.content; after = valid.after.content; capacity = valid.capacity; in_place = valid.in_place; unchanged = valid.unchanged }

  pub hop_well : {m : HopContent V} → IsHopContent m → IsContent true m.content
  hop_well well = well.valid

  pub hop_stays : {old new : HopContent V} → StaysHop old new → StaysValid true old.content new.content
  hop_stays valid = record { before = valid.before.valid; after = valid.after.valid; capacity = valid.capacity }

  pub hop_grows : {old new : HopContent V} {K E : Type 0} (answer : Result K E) → GrowsHop old new → OnErr answer (Keeps old.content new.content)
      → MayGrow true old.content (IsErr answer) new.content
  hop_grows {old} {new} answer valid unchanged = record {
    before = valid.before.valid;
    after = valid.after.valid;
    capacity = valid.capacity;
    in_place = valid.in_place;
    unchanged = elim answer as (λ r. OnErr r (Keeps old.content new.content) → IsErr r → Keeps old.content new.content) [
      | Ok key ↦ λ same err. absurd (cc)
      | Err e ↦ λ same err. same
    ] unchanged;
  }

  -- an insert whose key is removed again leaves the entries as they were
  pub insert_undone : (reuses : Bool) (old new : Content V) (k : Key) (v : V) (live : map.FinMap key_cmp V) → IsContent reuses old → Inserts old k v new
      → live ≡ map.remove new.live k → live ≡ old.live
  insert_undone reuses old new k v live well inserts removed =
      let fresh = inserted_fresh reuses old k v new well inserts in
      let undone : map.remove (map.insert old.live k v) k ≡ old.live = grind (arith, keys) in
      removed ∙ ap (λ m. map.remove m k) inserts.live ∙ undone

  -- for tactics: what an insert into such a map says of its key, and of how many keys there are
  module _ (old : Dense V) (k : Key) (v : V) (new : Dense V) where
    pub inserted_fresh-dense : IsDense old → Inserts old.content k v new.content → map.contains_key old.content.live k ≡ false
    inserted_fresh-dense well = inserted_fresh false old.content k v new.content well.content

    pub inserted_len-dense : IsDense old → Inserts old.content k v new.content → map.len new.content.live ≡ map.len old.content.live + 1
    inserted_len-dense well = inserted_len false old.content k v new.content well.content

  pub not_detached-dense : (d : Dense V) (k : Key) → IsDense d → IsLive d.content k → set.contains d.content.detached k ≡ false
  not_detached-dense d k well = not_detached-grows d.content k well.content

  module _ (old : HopContent V) (k : Key) (v : V) (new : HopContent V) where
    pub inserted_fresh-hop : IsHopContent old → Inserts old.content k v new.content → map.contains_key old.content.live k ≡ false
    inserted_fresh-hop well = inserted_fresh true old.content k v new.content well.valid

    pub inserted_len-hop : IsHopContent old → Inserts old.content k v new.content → map.len new.content.live ≡ map.len old.content.live + 1
    inserted_len-hop well = inserted_len true old.content k v new.content well.valid

pub ruleset contents_of_maps = (inserted_fresh-dense, inserted_len-dense, not_detached-dense, inserted_fresh-hop, inserted_len-hop)
