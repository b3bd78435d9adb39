use Rattle.slotmap_lists.proofs.Common.{true, length, refl, sym, ap, ◌∙◌, arith, Key, Sequences, Some, elements_of, is_some, is_spot, lists_at, get_or-set_same, Lists, vec_capacity}
use Rattle.slotmap_lists.proofs.Common.{alone_spent, inserted_len, inserted_not_spent, keeps_spent_alone, spent_inserts, alone-inserts, alone-space, used_alone}
use Rattle.std.proofs.Common.{◌≡◌, ◌<◌}
use Rattle.slotmap_lists.proofs.Changes.{as_many_put, has_spot, here_new, listed_put, lists_put, new_free, others_put, still}
use Rattle.slotmap_lists.proofs.Listed.{as_many_lists, number_is, value_at}
use Rattle.slotmap_lists.proofs.StableLists.put_in_room.Goals.{After-idx-index}
use Rattle.std.specs.FinSet as set
use Rattle.slotmap_lists.proofs.StableLists.put_in_room.Goals as goal

there : (g : _) (c : After-idx-index g) → c.args.list < length c.self.inside.links.lists
there g c = omega (arith, c.requires.list, ap (λ (s : Sequences g.row.T.Denot). length s.lists) c.self.view_is, as_many_lists c.self.inside.values.live c.self.inside.links)

can : (g : _) (c : After-idx-index g) → is_spot c.args.place (elements_of c.args.list (lists_at c.self.inside.values.live c.self.inside.links)) ≡ true
can g c = ap (λ (s : Sequences g.row.T.Denot). is_spot c.args.place (elements_of c.args.list s.lists)) c.self.view_is ∙ c.requires.place

index : (g : _) (c : After-idx-index g) → c.idx-index.result ≡ (g.K.Key.data_of c.insert_reserved-key.result).index
index g c = c.idx-index.ensures.value ∙ ap (λ (k : Key). k.index) c.data.ensures.value

below : (g : _) (c : After-idx-index g) → (g.K.Key.data_of c.insert_reserved-key.result).index < c.self.inside.links.members
below g c = let made = c.insert_reserved-key.ensures in omega (arith, made.within, made.bound, c.self.invariant.covered)

pub put_index-requires-clause-list : goal.put_index-requires-clause-list
put_index-requires-clause-list g c = there g (goal.at.put_index-requires-clause-list g c).After-idx-index

pub put_index-requires-clause-free : goal.put_index-requires-clause-free
put_index-requires-clause-free g c = let at = (goal.at.put_index-requires-clause-free g c).After-idx-index in let made = c.insert_reserved-key.ensures in
    rw (index g at) (new_free c.self.invariant c.insert_reserved-key.new.self _ c.args.value made.inserts made.fresh made.valid.after c.args.list c.args.place (there g at) (can g at) (below g at))

pub put_index-requires-clause-place : goal.put_index-requires-clause-place
put_index-requires-clause-place g c = let at = (goal.at.put_index-requires-clause-place g c).After-idx-index in let made = c.insert_reserved-key.ensures in
    has_spot c.self.invariant c.insert_reserved-key.new.self _ c.args.value made.inserts made.fresh made.valid.after c.args.list c.args.place (there g at) (can g at)

pub index_mut-requires : goal.index_mut-requires
index_mut-requires g c = let at = (goal.at.index_mut-requires g c).After-idx-index in omega (arith, index g at, below g at, c.self.invariant.homes_long)

pub invariant_of-self : goal.invariant_of-self
invariant_of-self g c = let at = (goal.at.invariant_of-self g c).After-idx-index in let made = c.insert_reserved-key.ensures in
    rw (c.put_index.ensures, index g at) (listed_put c.self.invariant c.insert_reserved-key.new.self _ c.args.value made.inserts made.fresh made.valid.after
    c.args.list c.args.place (there g at) (can g at) (below g at) made.bound)

pub returns : goal.returns
returns g c =
    let at = (goal.at.returns g c).After-idx-index in
    let made = c.insert_reserved-key.ensures in
    let k = g.K.Key.data_of c.insert_reserved-key.result in
    let v = c.args.value in
    let here = here_new c.self.invariant c.insert_reserved-key.new.self k v made.inserts made.fresh made.valid.after c.args.list c.args.place (there g at) (can g at) in
    let stays = listed_put c.self.invariant c.insert_reserved-key.new.self k v made.inserts made.fresh made.valid.after c.args.list c.args.place (there g at) (can g at) (below g at) made.bound in
    record {
      lists = rw (c.put_index.ensures, index g at, ← c.self.view_is)
          (lists_put c.self.invariant c.insert_reserved-key.new.self k v made.inserts made.fresh made.valid.after c.args.list c.args.place (there g at) (can g at));
      in_list = rw (c.put_index.ensures, index g at)
          (number_is stays k (ap is_some here)
          ∙ ap Some (get_or-set_same c.self.inside.homes.items k.index c.args.list 0 (omega (arith, below g at, c.self.invariant.homes_long))));
      added = rw (c.put_index.ensures, index g at) (value_at stays k ∙ here);
      others = λ q apart. rw (c.put_index.ensures, index g at, ← c.self.view_is)
          (others_put c.self.invariant c.insert_reserved-key.new.self k v made.inserts made.fresh made.valid.after c.args.list c.args.place (there g at) (can g at) q apart);
      values = λ q other. rw (c.put_index.ensures, index g at, ← c.self.view_is) (value_at stays q
          ∙ still c.self.invariant c.insert_reserved-key.new.self k v made.inserts made.fresh made.valid.after c.args.list c.args.place (there g at) (can g at) q other
          ∙ sym (value_at c.self.invariant q));
      as_many = rw (c.put_index.ensures, index g at, ← c.self.view_is)
          (as_many_put c.self.invariant c.insert_reserved-key.new.self k v made.inserts made.fresh made.valid.after c.args.list c.args.place (there g at) (can g at));
      fresh = rw (← c.self.view_is) (value_at c.self.invariant k ∙ made.fresh);
      unspent = rw (← c.self.view_is) (λ spent. inserted_not_spent _ _ true made.valid.before _ _ made.inserts _ (alone_spent _ _ spent) refl);
      cursors = rw (← c.self.view_is) (alone-inserts _ _ _ _ made.inserts);
      used = rw (← c.self.view_is, used_alone c.self.inside.values, used_alone c.insert_reserved-key.new.self)
          (omega (arith, inserted_len true _ _ v _ made.valid.before made.inserts, ap set.len made.inserts.detached, ap set.len made.inserts.retired));
      capacity = rw (← c.self.view_is) (λ i. (
        alone-space c.self.inside.values c.insert_reserved-key.new.self made.bound made.valid.capacity i,
        (vec_capacity c.self.inside.homes, ap (λ (s : Lists). s.capacity) c.put_index.ensures i),
      ));
      gone = rw (← c.self.view_is) (keeps_spent_alone _ _ (spent_inserts _ _ true made.valid.before _ _ made.inserts));
    }
