use Rattle.slotmap_lists.proofs.Common.{true, Some, is_some, ◌∙◌, rules, sym, ap, keeps_spent_alone, leaves_by_removal, leaves_none, removed_spent, spent_alone, spent_removes, removed_here}
use Rattle.slotmap_lists.proofs.Common.{alone-leaves, alone-removes, alone-space, Key, Lists, home_of, vec_capacity, elements_of, removed_other}
use Rattle.std.proofs.Common.{◌≡◌}
use Rattle.slotmap_lists.proofs.Changes.{as_many_removed, each_removed, listed_removed, lists_removed}
use Rattle.slotmap_lists.proofs.Listed.{home_below, homed_below, inside_home, value_at}
use Rattle.slotmap_lists.proofs.Callers.{without_each}
use Rattle.slotmap_lists.proofs.Which.{no_key_without}
use Rattle.slotmap_lists.proofs.StableLists.remove.Goals.{After-idx-index, After-home_at-home}
use Rattle.std.specs.FinMap as map
use Rattle.slotmap_lists.proofs.StableLists.remove.Goals as goal

-- what the map returned
found : (g : _) (c : After-idx-index g) → map.get c.self.inside.values.live (g.K.Key.data_of c.args.cursor) ≡ Some c.in_ok-value.value
found g c = sym (rw c.in_ok-value.was at c.remove.ensures.value)

index : (g : _) (c : After-idx-index g) → c.idx-index.result ≡ (g.K.Key.data_of c.args.cursor).index
index g c = c.idx-index.ensures.value ∙ ap (λ (k : Key). k.index) c.data.ensures.value

home : (g : _) (c : After-home_at-home g) → c.home_at-home.result ≡ home_of c.self.inside.homes.items (g.K.Key.data_of c.args.cursor).index
home g c = (rw c.deref.ensures.value at c.home_at-home.ensures) ∙ ap (home_of c.self.inside.homes.items) (c.idx-index.ensures.value ∙ ap (λ (k : Key). k.index) c.data.ensures.value)

pub returns-in_err-value-clause-value : goal.returns-in_err-value-clause-value
returns-in_err-value-clause-value g c =
    rw (c.from_residual.ensures, ← c.self.view_is) (rw c.in_err-value.was at c.remove.ensures.value ∙ sym (value_at c.self.invariant (g.K.Key.data_of c.args.cursor)))

pub returns-in_err-value-clause-removed : goal.returns-in_err-value-clause-removed
returns-in_err-value-clause-removed g c =
    let k = g.K.Key.data_of c.args.cursor in
    let none = value_at c.self.invariant k ∙ sym (rw c.in_err-value.was at c.remove.ensures.value) in
    rw (c.in_err-value.ensures.unchanged, ← c.self.view_is) (sym (no_key_without k _ none))

pub returns-in_err-value-clause-each : goal.returns-in_err-value-clause-each
returns-in_err-value-clause-each g c q = ap (elements_of q) (returns-in_err-value-clause-removed g c) ∙ without_each (g.K.Key.data_of c.args.cursor) _ q

pub returns-in_err-value-clause-absent : goal.returns-in_err-value-clause-absent
returns-in_err-value-clause-absent g c =
    rw (c.in_err-value.ensures.unchanged) (value_at c.self.invariant (g.K.Key.data_of c.args.cursor) ∙ sym (rw c.in_err-value.was at c.remove.ensures.value))

pub returns-in_err-value-clause-leaves : goal.returns-in_err-value-clause-leaves
returns-in_err-value-clause-leaves g c = rw (← c.self.view_is, c.in_err-value.ensures.unchanged) (leaves_none _)

pub home_at-home-requires : goal.home_at-home-requires
home_at-home-requires g c = let at = (goal.at.home_at-home-requires g c).After-idx-index in
    rw c.deref.ensures.value (homed_below c.self.invariant (g.K.Key.data_of c.args.cursor) (ap is_some (found g at)) c.idx-index.result (index g at))

pub take_out-requires-clause-owner : goal.take_out-requires-clause-owner
take_out-requires-clause-owner g c = let at = goal.at.take_out-requires-clause-owner g c in
    rw (home g at.After-home_at-home) (home_below c.self.invariant (g.K.Key.data_of c.args.cursor) (ap is_some (found g at.After-idx-index)))

pub take_out-requires-clause-member : goal.take_out-requires-clause-member
take_out-requires-clause-member g c = let at = goal.at.take_out-requires-clause-member g c in
    rw (home g at.After-home_at-home, index g at.After-idx-index) (inside_home c.self.invariant (g.K.Key.data_of c.args.cursor) (ap is_some (found g at.After-idx-index)))

pub invariant_of-self-2 : goal.invariant_of-self-2
invariant_of-self-2 g c = let at = goal.at.invariant_of-self-2 g c in
    rw (c.take_out.ensures, home g at.After-home_at-home, index g at.After-idx-index) (listed_removed c.self.invariant (g.K.Key.data_of c.args.cursor) c.in_ok-value.value
    (found g at.After-idx-index) c.remove.new.self c.in_ok-value.ensures.removes c.remove.ensures.bound)

pub returns : goal.returns
returns g c =
    let at = goal.at.returns g c in
    let k = g.K.Key.data_of c.args.cursor in
    let there = found g at.After-idx-index in
    let live = ap is_some there in
    let removes = c.in_ok-value.ensures.removes in
    let before = c.remove.ensures.valid.before in
    let stays = listed_removed c.self.invariant k c.in_ok-value.value there c.remove.new.self removes c.remove.ensures.bound in
    record {
      value = rw (← c.self.view_is) (sym there ∙ sym (value_at c.self.invariant k));
      removed = rw (c.take_out.ensures, home g at.After-home_at-home, index g at.After-idx-index, ← c.self.view_is)
          (lists_removed c.self.invariant k c.in_ok-value.value there c.remove.new.self removes);
      each = λ q. rw (c.take_out.ensures, home g at.After-home_at-home, index g at.After-idx-index, ← c.self.view_is)
          (each_removed c.self.invariant k c.in_ok-value.value there c.remove.new.self removes q);
      values = λ q other. rw (c.take_out.ensures, home g at.After-home_at-home, index g at.After-idx-index, ← c.self.view_is) (value_at stays q
          ∙ ap (λ m. map.get m q) removes.live ∙ removed_other c.self.inside.values.live k q other ∙ sym (value_at c.self.invariant q));
      as_many = rw (c.take_out.ensures, home g at.After-home_at-home, index g at.After-idx-index, ← c.self.view_is)
          (as_many_removed c.self.invariant k c.in_ok-value.value there c.remove.new.self removes);
      absent = rw (c.take_out.ensures, home g at.After-home_at-home, index g at.After-idx-index)
          (value_at stays k ∙ ap (λ m. map.get m k) removes.live ∙ removed_here c.self.inside.values.live k);
      cursors = rw (← c.self.view_is) (alone-removes _ _ k removes);
      for_good = spent_alone _ k (removed_spent _ _ true before _ live removes);
      gone = rw (← c.self.view_is) (keeps_spent_alone _ _ (spent_removes _ _ true before _ live removes));
      leaves = rw (← c.self.view_is) (alone-leaves _ _ (leaves_by_removal true _ before _ live _ removes));
      capacity = rw (← c.self.view_is) (λ i. (
        alone-space c.self.inside.values c.remove.new.self c.remove.ensures.bound c.remove.ensures.valid.capacity i,
        (vec_capacity c.self.inside.homes, ap (λ (s : Lists). s.capacity) c.take_out.ensures i),
      ));
      stale = search rules;
    }
