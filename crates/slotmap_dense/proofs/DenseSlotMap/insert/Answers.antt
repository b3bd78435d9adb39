use Rattle.slotmap_core.proofs.Common.{rules, true≢false}
use Rattle.slotmap_dense.specs.Dense.{Dense}
use Rattle.slotmap_dense.specs.Call.{StaysDense, GrowsDense}
use Rattle.slotmap_dense.proofs.Common.{sym, ap, ◌∙◌, arith}
use Rattle.slotmap_dense.proofs.DenseSlotMap.insert.Goals as goal

-- a call that succeeds and needs no memory
without_memory : {V : Type 0} {old new : Dense V} {refused : Type 0} → (refused → ⊥) → StaysDense old new → GrowsDense old refused new
without_memory never stays = record {
  before = stays.before;
  after = stays.after;
  capacity = omega (arith, stays.capacity);
  in_place = λ _. stays.capacity;
  unchanged = λ e. absurd (never e);
  same_order = λ e. absurd (never e);
}

pub returns-in-Err-TooGreat-clause-err : goal.returns-in-Err-TooGreat-clause-err
returns-in-Err-TooGreat-clause-err g c = search rules

pub returns-then-has_room-clause-err : goal.returns-then-has_room-clause-err
returns-then-has_room-clause-err g c = tt

pub returns-then-has_room-clause-valid : goal.returns-then-has_room-clause-valid
returns-then-has_room-clause-valid g c = without_memory (λ e. true≢false (sym e)) (search rules)

pub returns-in-Ok-clause-valid : goal.returns-in-Ok-clause-valid
returns-in-Ok-clause-valid g c = record {
  before = c.reserve.ensures.makes_room.before;
  after = c.append_apart.ensures.valid.after;
  capacity = omega (arith, c.append_apart.ensures.valid.capacity, c.reserve.ensures.makes_room.capacity);
  in_place = λ enough. c.append_apart.ensures.valid.capacity ∙ ap (λ d. d.content.capacity) (c.reserve.ensures.makes_room.had_room enough);
  unchanged = λ e. absurd (true≢false (sym e));
  same_order = λ e. absurd (true≢false (sym e));
}
