use Rattle.slotmap_list.proofs.Common.{true, Some, is_some, ◌∙◌, rules, keeps_spent_alone, leaves_by_removal, leaves_none, removed_spent}
use Rattle.slotmap_list.proofs.Common.{spent_alone, spent_removes, alone-leaves, alone-removes, alone-space, Lists, removed_here, sym, ap}
use Rattle.std.proofs.Common.{◌≡◌}
use Rattle.slotmap_list.proofs.Keeps.{elements_taken, kept_taken}
use Rattle.slotmap_list.proofs.Parts.{value_none}
use Rattle.slotmap_list.proofs.Seen.{inside_if, value_at, gone_from}
use Rattle.slotmap_list.proofs.StableList.remove.Goals.{After-idx}
use Rattle.std.specs.FinMap as map
use Rattle.slotmap_list.proofs.StableList.remove.Goals as goal

-- what the map returned
found : (g : _) (c : After-idx g) → map.get c.self.inside.values.live (g.K.Key.data_of c.args.cursor) ≡ Some c.in_ok-value.value
found g c = sym (rw c.in_ok-value.was at c.remove.ensures.value)

pub returns-in_err-value-clause-value : goal.returns-in_err-value-clause-value
returns-in_err-value-clause-value g c =
    rw (c.from_residual.ensures, ← c.self.view_is) (rw c.in_err-value.was at c.remove.ensures.value ∙ sym (value_at c.self.invariant (g.K.Key.data_of c.args.cursor)))

pub returns-in_err-value-clause-removed : goal.returns-in_err-value-clause-removed
returns-in_err-value-clause-removed g c =
    rw (c.in_err-value.ensures.unchanged, ← c.self.view_is)
    (sym ((gone_from c.self.invariant (g.K.Key.data_of c.args.cursor) (ap is_some (sym (rw c.in_err-value.was at c.remove.ensures.value)))).without_is))

pub returns-in_err-value-clause-absent : goal.returns-in_err-value-clause-absent
returns-in_err-value-clause-absent g c =
    rw c.in_err-value.ensures.unchanged (value_none c.self.inside.values.live (g.K.Key.data_of c.args.cursor) _ (sym (rw c.in_err-value.was at c.remove.ensures.value)))

pub take_out-requires-clause-member : goal.take_out-requires-clause-member
take_out-requires-clause-member g c =
    rw (c.idx.ensures.value, c.data.ensures.value) (inside_if c.self.invariant (g.K.Key.data_of c.args.cursor) (ap is_some (found g (goal.at.take_out-requires-clause-member g c).After-idx)))

pub invariant_of-self-2 : goal.invariant_of-self-2
invariant_of-self-2 g c =
    rw (c.take_out.ensures, c.idx.ensures.value, c.data.ensures.value) (kept_taken c.self.invariant (g.K.Key.data_of c.args.cursor) c.in_ok-value.value
    (found g (goal.at.invariant_of-self-2 g c).After-idx) c.remove.new.self c.in_ok-value.ensures.removes c.remove.ensures.bound)

pub returns : goal.returns
returns g c =
    let k = g.K.Key.data_of c.args.cursor in
    let there = found g (goal.at.returns g c).After-idx in
    let live = ap is_some there in
    let removes = c.in_ok-value.ensures.removes in
    let before = c.remove.ensures.valid.before in
    record {
      value = rw (← c.self.view_is) (sym there ∙ sym (value_at c.self.invariant k));
      removed = rw (c.take_out.ensures, c.idx.ensures.value, c.data.ensures.value, ← c.self.view_is) (elements_taken c.self.invariant k c.in_ok-value.value there c.remove.new.self removes);
      absent = value_none c.remove.new.self.live k _ (ap (λ m. map.get m k) removes.live ∙ removed_here c.self.inside.values.live k);
      cursors = rw (← c.self.view_is) (alone-removes _ _ k removes);
      for_good = spent_alone _ k (removed_spent _ _ true before _ live removes);
      gone = rw (← c.self.view_is) (keeps_spent_alone _ _ (spent_removes _ _ true before _ live removes));
      leaves = rw (← c.self.view_is) (alone-leaves _ _ (leaves_by_removal true _ before _ live _ removes));
      capacity = rw (← c.self.view_is) (λ i. (
        alone-space c.self.inside.values c.remove.new.self c.remove.ensures.bound c.remove.ensures.valid.capacity i,
        ap (λ (s : Lists). s.capacity) c.take_out.ensures i,
      ));
      stale = search rules;
    }

pub returns-in_err-value-clause-leaves : goal.returns-in_err-value-clause-leaves
returns-in_err-value-clause-leaves g c = rw (← c.self.view_is, c.in_err-value.ensures.unchanged) (leaves_none _)
