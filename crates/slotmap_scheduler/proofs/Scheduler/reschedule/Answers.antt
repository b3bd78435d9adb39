use Rattle.std.proofs.Common.{◌≡◌}
use Rattle.slotmap_scheduler.proofs.Common.{Option, Some, true, ap, arith, exact_keys, is_some, itself, keys_total, none_of, rules, sym, tied, timed, waiting_of, ◌∙◌}
use Rattle.slotmap_scheduler.proofs.Schedules.{turned_found, turned_handles, turned_order, turned_schedule}
use Rattle.slotmap_scheduler.proofs.{Found.len_in_turn, Found.len_without, Seen.found_waits, Seen.none_seen, Waits.waits_once}
use Rattle.slotmap_scheduler.proofs.Scheduler.reschedule.Goals as goal

-- what is there
some_is : {A : Type 0} (o : Option A) → is_some o ≡ true → (x : A) × (o ≡ Some x)
some_is o is = grind arith

pub returns-then-not-contains_key-clause-err : goal.returns-then-not-contains_key-clause-err
returns-then-not-contains_key-clause-err g c =
    rw (← c.self.view_is, ← c.inner-key.ensures) (none_seen c.self.invariant c.inner-key.result (none_of _ (sym c.contains_key.ensures.value ∙ c.if-not-contains_key.true)))

pub returns-then-self-clause-err : goal.returns-then-self-clause-err
returns-then-self-clause-err g c = let j = some_is _ (sym c.contains_key.ensures.value ∙ c.if-not-contains_key.false) in
    rw (← c.self.view_is, ← c.inner-key.ensures) (ap is_some (found_waits c.self.invariant c.inner-key.result j.0 j.1), c.if-self.true)

pub invariant_of-self : goal.invariant_of-self
invariant_of-self g c =
    let j = some_is _ (sym c.contains_key.ensures.value ∙ c.if-not-contains_key.false) in
    turned_schedule c.self.invariant c.inner-key.result j.0 j.1 c.args.time c.set_turn.new.jobs
    (c.set_turn.ensures.written j.0 j.1) c.set_turn.new.heap c.set_turn.ensures.indexed c.set_turn.ensures.capacity

pub returns : goal.returns
returns g c =
    let j = some_is _ (sym c.contains_key.ensures.value ∙ c.if-not-contains_key.false) in
    let written = c.set_turn.ensures.written j.0 j.1 in
    let waits = (turned_order c.self.invariant c.inner-key.result j.0 j.1 c.args.time c.set_turn.new.jobs written).1 in
    let found = turned_found c.self.invariant c.inner-key.result j.0 j.1 c.args.time c.set_turn.new.jobs written in
    let there = found_waits c.self.invariant c.inner-key.result j.0 j.1 in
    let was = waiting_of (timed c.self.inside.jobs).live in
    record {
      moved = rw (← c.self.view_is, ← c.inner-key.ensures) (λ before job seen. grind (arith, waits, there));
      there = rw (← c.self.view_is, ← c.inner-key.ensures) (grind (arith, found c.inner-key.result, there, itself keys_total exact_keys c.inner-key.result));
      others = rw (← c.self.view_is, ← c.inner-key.ensures) (λ q other. grind (arith, found q, tied keys_total exact_keys q c.inner-key.result));
      as_many = rw (← c.self.view_is) (grind (arith, waits, len_in_turn, len_without c.inner-key.result was _ (waits_once _ _ c.self.invariant.order) there));
      waits = rw (← c.self.view_is, ← c.inner-key.ensures) (ap is_some there);
      turn = search rules;
      turns = search rules;
      err = tt;
      unchanged = tt;
      handles = rw (← c.self.view_is) (turned_handles c.self.invariant c.inner-key.result j.0 j.1 c.args.time c.set_turn.new.jobs
          written c.set_turn.new.heap c.set_turn.ensures.indexed c.set_turn.ensures.capacity);
    }
