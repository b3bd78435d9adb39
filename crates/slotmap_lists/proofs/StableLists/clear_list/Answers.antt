use Rattle.slotmap_lists.proofs.Common.{[], ap, rules, inl, inr, is_some, value_of, elements_of}
use Rattle.std.proofs.Common.{◌≡◌}
use Rattle.slotmap_lists.proofs.Clearing.{clearing_start, clearing_step}
use Rattle.slotmap_lists.proofs.StableLists.clear_list.Goals as goal

pub loop-init : goal.loop-init
loop-init g c = clearing_start c.args.self.now c.args.list

pub loop-preserved : goal.loop-preserved
loop-preserved g c = let popped = c.pop_front.ensures in
    clearing_step g.K.Key.data_of _ _ _ _ c.loop.invariant c.pop_front.result popped.front popped.others popped.values
    popped.as_many popped.for_good popped.gone popped.leaves popped.capacity popped.empty

pub returns : goal.returns
returns g c =
    let popped = c.pop_front.ensures in
    let s = c.pop_front.new.self in
    let none : elements_of c.args.list s.lists ≡ [] = (search rules) in
    let all = clearing_step g.K.Key.data_of _ _ _ s c.loop.invariant c.pop_front.result popped.front popped.others popped.values
    popped.as_many popped.for_good popped.gone popped.leaves popped.capacity popped.empty in
    record {
      empty = none;
      others = all.others;
      values = all.values;
      as_many = all.as_many;
      for_good = λ q some. elim (all.taken q some) [ inl here ↦ absurd (let away = ap (λ l. is_some (value_of q l)) none in cc) | inr spent ↦ spent ];
      gone = all.gone;
      leaves = all.leaves;
      capacity = all.capacity;
      unchanged = all.unchanged;
    }
