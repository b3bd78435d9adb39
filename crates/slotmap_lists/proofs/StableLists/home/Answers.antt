use Rattle.slotmap_lists.proofs.Common.{is_some, ap, ◌∙◌, arith, Key, Sequences, IsLive, value_under, home_of, some_is}
use Rattle.std.proofs.Common.{◌≡◌}
use Rattle.slotmap_lists.proofs.Listed.{as_many_lists, home_below, homed_below, live_if, number_is, stands_in}
use Rattle.slotmap_lists.proofs.StableLists.home.Goals.{After-idx}
use Rattle.std.specs.FinMap as map
use Rattle.slotmap_lists.proofs.StableLists.home.Goals as goal

alive : (g : _) (c : After-idx g) → IsLive c.self.inside.values (g.K.Key.data_of c.args.cursor)
alive g c = let k = g.K.Key.data_of c.args.cursor in
    live_if c.self.invariant k (ap (λ (s : Sequences g.row.T.Denot). is_some (value_under k s.lists)) c.self.view_is ∙ c.requires)

index : (g : _) (c : After-idx g) → c.idx.result ≡ (g.K.Key.data_of c.args.cursor).index
index g c = c.idx.ensures.value ∙ ap (λ (k : Key). k.index) c.data.ensures.value

pub home_at-requires : goal.home_at-requires
home_at-requires g c = let at = (goal.at.home_at-requires g c).After-idx in
    rw c.deref.ensures.value (homed_below c.self.invariant (g.K.Key.data_of c.args.cursor) (alive g at) c.idx.result (index g at))

pub returns : goal.returns
returns g c =
    let at = (goal.at.returns g c).After-idx in
    let k = g.K.Key.data_of c.args.cursor in
    let is : c.home_at.result ≡ home_of c.self.inside.homes.items k.index = (rw c.deref.ensures.value at c.home_at.ensures) ∙ ap (home_of c.self.inside.homes.items) (index g at) in
    let v = some_is (map.get c.self.inside.values.live k) (alive g at) in
    let stands = stands_in c.self.invariant k v.0 v.1 in
    record {
      value = rw (← c.self.view_is, is) (number_is c.self.invariant k (alive g at));
      below = rw (← c.self.view_is, is) (omega (arith, home_below c.self.invariant k (alive g at), as_many_lists c.self.inside.values.live c.self.inside.links));
      here = rw (← c.self.view_is, is) (ap is_some stands.here);
      alone = λ q. rw (← c.self.view_is, is) (stands.only q);
    }
