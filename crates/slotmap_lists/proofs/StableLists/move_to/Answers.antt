use Rattle.slotmap_lists.proofs.Common.{true, length, is_some, ap, ◌∙◌, arith, Key, Sequences, value_under, elements_of, without_key, put_into, element_put, is_spot, lists_at, home_of}
use Rattle.std.proofs.Common.{◌≡◌, ◌<◌}
use Rattle.slotmap_lists.proofs.Listed.{homed_below, live_if}
use Rattle.slotmap_lists.proofs.Moved.{Moves, moves, seen_as}
use Rattle.slotmap_lists.proofs.StableLists.move_to.Goals.{After-home_at-home}
use Rattle.slotmap_lists.proofs.StableLists.move_to.Goals as goal

some : (g : _) (c : After-home_at-home g) → is_some (value_under (g.K.Key.data_of c.args.cursor) (lists_at c.self.inside.values.live c.self.inside.links)) ≡ true
some g c = ap (λ (s : Sequences g.row.T.Denot). is_some (value_under (g.K.Key.data_of c.args.cursor) s.lists)) c.self.view_is ∙ c.requires.there

there : (g : _) (c : After-home_at-home g) → c.args.list < length (lists_at c.self.inside.values.live c.self.inside.links)
there g c = omega (arith, c.requires.list, ap (λ (s : Sequences g.row.T.Denot). length s.lists) c.self.view_is)

can : (g : _) (c : After-home_at-home g)
    → is_spot c.args.place (elements_of c.args.list (without_key (g.K.Key.data_of c.args.cursor) (lists_at c.self.inside.values.live c.self.inside.links))) ≡ true
can g c = ap (λ (s : Sequences g.row.T.Denot). is_spot c.args.place (elements_of c.args.list (without_key (g.K.Key.data_of c.args.cursor) s.lists))) c.self.view_is ∙ c.requires.place

index : (g : _) (c : After-home_at-home g) → c.idx-index.result ≡ (g.K.Key.data_of c.args.cursor).index
index g c = c.idx-index.ensures.value ∙ ap (λ (k : Key). k.index) c.data.ensures.value

home : (g : _) (c : After-home_at-home g) → c.home_at-home.result ≡ home_of c.self.inside.homes.items (g.K.Key.data_of c.args.cursor).index
home g c = (rw c.deref.ensures.value at c.home_at-home.ensures) ∙ ap (home_of c.self.inside.homes.items) (c.idx-index.ensures.value ∙ ap (λ (k : Key). k.index) c.data.ensures.value)

made : (g : _) (c : After-home_at-home g) → Moves c.self.invariant (g.K.Key.data_of c.args.cursor) (some g c) c.args.list c.args.place (there g c) (can g c)
made g c = moves c.self.invariant (g.K.Key.data_of c.args.cursor) (some g c) c.args.list c.args.place (there g c) (can g c)

pub home_at-home-requires : goal.home_at-home-requires
home_at-home-requires g c =
    let k = g.K.Key.data_of c.args.cursor in
    rw c.deref.ensures.value (homed_below c.self.invariant k
    (live_if c.self.invariant k (ap (λ (s : Sequences g.row.T.Denot). is_some (value_under k s.lists)) c.self.view_is ∙ c.requires.there)) c.idx-index.result
    (c.idx-index.ensures.value ∙ ap (λ (k : Key). k.index) c.data.ensures.value))

pub take_out-requires-clause-owner : goal.take_out-requires-clause-owner
take_out-requires-clause-owner g c = let at = goal.at.take_out-requires-clause-owner g c in rw (home g at.After-home_at-home) (made g at.After-home_at-home).owner

pub take_out-requires-clause-member : goal.take_out-requires-clause-member
take_out-requires-clause-member g c = let at = goal.at.take_out-requires-clause-member g c in
    rw (home g at.After-home_at-home, index g at.After-home_at-home) (made g at.After-home_at-home).member

pub put_index-requires-clause-list : goal.put_index-requires-clause-list
put_index-requires-clause-list g c = let at = goal.at.put_index-requires-clause-list g c in
    rw (c.take_out.ensures, home g at.After-home_at-home, index g at.After-home_at-home) (made g at.After-home_at-home).list

pub put_index-requires-clause-free : goal.put_index-requires-clause-free
put_index-requires-clause-free g c = let at = goal.at.put_index-requires-clause-free g c in
    rw (c.take_out.ensures, home g at.After-home_at-home, index g at.After-home_at-home) (made g at.After-home_at-home).free

pub put_index-requires-clause-place : goal.put_index-requires-clause-place
put_index-requires-clause-place g c = let at = goal.at.put_index-requires-clause-place g c in
    rw (c.take_out.ensures, home g at.After-home_at-home, index g at.After-home_at-home) (made g at.After-home_at-home).has

pub index_mut-requires : goal.index_mut-requires
index_mut-requires g c = let at = (goal.at.index_mut-requires g c).After-home_at-home in omega (arith, index g at, (made g at).homed)

pub invariant_of-self : goal.invariant_of-self
invariant_of-self g c = let at = goal.at.invariant_of-self g c in
    rw (c.put_index.ensures, c.take_out.ensures, home g at.After-home_at-home, index g at.After-home_at-home) (made g at.After-home_at-home).stays

pub returns-clause-moved : goal.returns-clause-moved
returns-clause-moved g c =
    let at = goal.at.returns-clause-moved g c in
    let k = g.K.Key.data_of c.args.cursor in
    rw (c.put_index.ensures, c.take_out.ensures, home g at.After-home_at-home, index g at.After-home_at-home)
    (seen_as c.args.self.now _ _ _ _ ((made g at.After-home_at-home).lists
    ∙ ap (λ (s : Sequences g.row.T.Denot). put_into (element_put c.args.place) c.args.list k (value_under k s.lists) s.lists) c.self.view_is)
    (ap (λ (s : Sequences g.row.T.Denot). s.cursors) c.self.view_is) (ap (λ (s : Sequences g.row.T.Denot). s.links) c.self.view_is))

pub returns-clause-in_list : goal.returns-clause-in_list
returns-clause-in_list g c = let at = goal.at.returns-clause-in_list g c in
    rw (c.put_index.ensures, c.take_out.ensures, home g at.After-home_at-home, index g at.After-home_at-home) (made g at.After-home_at-home).number

pub returns-clause-values : goal.returns-clause-values
returns-clause-values g c q = let at = goal.at.returns-clause-values g c in
    rw (c.put_index.ensures, c.take_out.ensures, home g at.After-home_at-home, index g at.After-home_at-home, ← c.self.view_is) ((made g at.After-home_at-home).values q)

pub returns-clause-others : goal.returns-clause-others
returns-clause-others g c q apart = let at = goal.at.returns-clause-others g c in
    rw (c.put_index.ensures, c.take_out.ensures, home g at.After-home_at-home, index g at.After-home_at-home, ← c.self.view_is) ((made g at.After-home_at-home).others q apart)

pub returns-clause-as_many : goal.returns-clause-as_many
returns-clause-as_many g c = let at = goal.at.returns-clause-as_many g c in
    rw (c.put_index.ensures, c.take_out.ensures, home g at.After-home_at-home, index g at.After-home_at-home, ← c.self.view_is) (made g at.After-home_at-home).as_many
