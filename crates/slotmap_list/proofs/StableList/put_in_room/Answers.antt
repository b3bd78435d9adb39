use Rattle.slotmap_list.proofs.Common.{◌∙◌, alone_spent, inserted_len, inserted_not_spent, keeps_spent_alone, spent_inserts, alone-inserts}
use Rattle.slotmap_list.proofs.Common.{alone-space, Lists, used_alone, list_of, elements_at, Sequence, is_place, true, refl, ap, arith, Key}
use Rattle.std.proofs.Common.{◌≡◌}
use Rattle.slotmap_list.proofs.Keeps.{free_one, kept_put, none_yet, elements_put}
use Rattle.slotmap_list.proofs.{Parts.place_there, Seen.value_at}
use Rattle.slotmap_list.proofs.StableList.put_in_room.Goals.{After-idx}
use Rattle.std.specs.FinSet as set
use Rattle.slotmap_list.proofs.StableList.put_in_room.Goals as goal

can : (g : _) (c : After-idx g) → is_place c.args.place (elements_at c.self.inside.values.live (list_of c.self.inside.links 0)) ≡ true
can g c = ap (λ (s : Sequence g.row.T.Denot). is_place c.args.place s.elements) c.self.view_is ∙ c.requires.place

index : (g : _) (c : After-idx g) → c.idx.result ≡ (g.K.Key.data_of c.insert_reserved-key.result).index
index g c = c.idx.ensures.value ∙ ap (λ (k : Key). k.index) c.data.ensures.value

pub put_index-requires-clause-free : goal.put_index-requires-clause-free
put_index-requires-clause-free g c = let made = c.insert_reserved-key.ensures in let covered = c.self.invariant.covered in
    rw (index g c) (free_one c.self.inside.links _ c.self.invariant.owner (omega (arith, made.within, made.bound))
    (none_yet c.self.invariant c.insert_reserved-key.new.self _ c.args.value made.inserts made.fresh made.valid.after c.args.place (can g c)))

pub put_index-requires-clause-place : goal.put_index-requires-clause-place
put_index-requires-clause-place g c = place_there c.self.inside.values.live c.args.place (list_of c.self.inside.links 0) (can g c)

pub invariant_of-self : goal.invariant_of-self
invariant_of-self g c = let at = (goal.at.invariant_of-self g c).After-idx in let made = c.insert_reserved-key.ensures in let covered = c.self.invariant.covered in
    rw (c.put_index.ensures, index g at) (kept_put c.self.invariant c.insert_reserved-key.new.self _ c.args.value made.inserts made.fresh made.valid.after c.args.place (can g at)
    (omega (arith, made.within, made.bound)) made.bound)

pub returns : goal.returns
returns g c = record {
  elements = (let at = (goal.at.returns g c).After-idx in let made = c.insert_reserved-key.ensures in rw (c.put_index.ensures, index g at, ← c.self.view_is)
      (elements_put c.self.invariant c.insert_reserved-key.new.self _ c.args.value made.inserts made.fresh made.valid.after c.args.place (can g at)));
  fresh = rw (← c.self.view_is) (value_at c.self.invariant (g.K.Key.data_of c.insert_reserved-key.result) ∙ c.insert_reserved-key.ensures.fresh);
  unspent = rw (← c.self.view_is)
      (λ spent. inserted_not_spent _ _ true c.insert_reserved-key.ensures.valid.before _ _ c.insert_reserved-key.ensures.inserts _ (alone_spent _ _ spent) refl);
  cursors = rw (← c.self.view_is) (alone-inserts _ _ _ _ c.insert_reserved-key.ensures.inserts);
  used = (let made = c.insert_reserved-key.ensures in rw (← c.self.view_is, used_alone c.self.inside.values, used_alone c.insert_reserved-key.new.self)
      (omega (arith, inserted_len true _ _ c.args.value _ made.valid.before made.inserts, ap set.len made.inserts.detached, ap set.len made.inserts.retired)));
  capacity = (let made = c.insert_reserved-key.ensures in rw (← c.self.view_is) (λ i. (
    alone-space c.self.inside.values c.insert_reserved-key.new.self made.bound made.valid.capacity i,
    ap (λ (s : Lists). s.capacity) c.put_index.ensures i,
  )));
  gone = rw (← c.self.view_is) (keeps_spent_alone _ _ (spent_inserts _ _ true c.insert_reserved-key.ensures.valid.before _ _ c.insert_reserved-key.ensures.inserts));
}
