use Rattle.slotmap_entities.proofs.Common.{ap, is_some, refl, ◌∙◌, beside_bound, get-bind_here, get-bind_other, own_beside, table_live}
use Rattle.slotmap_entities.proofs.World.replace_both.Goals as goal

pub invariant_of-self : goal.invariant_of-self
invariant_of-self g c =
    let k = g.K.Key.data_of c.args.key in
    let tables = c.self.inside.tables in
    let content = c.self.inside.entities.content in
    let has = g.T.Tables.has tables in
    let first = g.A.Kind.with_table tables c.exchange.new.table in
    let here = rw c.table_mut.ensures.value at c.exchange.ensures.had in
    let bound = ap g.A.Table.Table.pairs c.exchange.ensures.put ∙ g.met.A.Table.Table.with_value_is c.table_mut.result.now k c.args.first in
    let beside = own_beside content has c.self.invariant (g.A.Table.Table.pairs (g.A.Kind.table tables)) (g.met.A.Kind.has_own tables) in
    let live = table_live content has c.self.invariant (g.A.Table.Table.pairs c.exchange.new.table) (g.T.Tables.has first)
    (rw (bound, c.table_mut.ensures.value) (beside_bound _ k _ c.args.first here content beside)) (g.met.A.Kind.has_no_more tables c.exchange.new.table) in
    let before = c.table_mut-2.ensures.value ∙ g.met.A.Apart.second_kept tables c.exchange.new.table in
    let there = rw before at c.exchange-2.ensures.had in
    let bound = ap g.B.Table.Table.pairs c.exchange-2.ensures.put ∙ g.met.B.Table.Table.with_value_is c.table_mut-2.result.now k c.args.second in
    let beside = own_beside content has c.self.invariant (g.B.Table.Table.pairs (g.B.Kind.table tables)) (g.met.B.Kind.has_own tables) in
    table_live content (g.T.Tables.has first) live (g.B.Table.Table.pairs c.exchange-2.new.table) _ (rw (bound, before) (beside_bound _ k _ c.args.second there content beside))
    (g.met.B.Kind.has_no_more first c.exchange-2.new.table)

pub returns : goal.returns
returns g c =
    let k = g.K.Key.data_of c.args.key in
    let tables = c.self.inside.tables in
    let first_was = g.A.Kind.table tables in
    let second_was = g.B.Kind.table tables in
    let first = g.A.Kind.with_table tables c.exchange.new.table in
    let here = rw c.table_mut.ensures.value at c.exchange.ensures.had in
    let before = c.table_mut-2.ensures.value ∙ g.met.A.Apart.second_kept tables c.exchange.new.table in
    let there = rw before at c.exchange-2.ensures.had in
    let first_put = rw c.table_mut.ensures.value at c.exchange.ensures.put in
    let second_put = rw before at c.exchange-2.ensures.put in
    let first_is = g.met.A.Apart.first_kept first c.exchange-2.new.table ∙ g.met.A.Kind.table_put tables c.exchange.new.table in
    let second_is = g.met.B.Kind.table_put first c.exchange-2.new.table in
    let first_bound = ap g.A.Table.Table.pairs first_put ∙ g.met.A.Table.Table.with_value_is first_was k c.args.first in
    let second_bound = ap g.B.Table.Table.pairs second_put ∙ g.met.B.Table.Table.with_value_is second_was k c.args.second in
    rw (← c.self.view_is) (record {
      value = rw (here, there) refl;
      first = rw (first_is, first_bound) (get-bind_here _ k _ c.args.first here, get-bind_other _ k _ c.args.first here);
      second = rw (second_is, second_bound) (get-bind_here _ k _ c.args.second there, get-bind_other _ k _ c.args.second there);
      live = c.self.invariant k (g.met.A.Kind.has_own tables k (ap is_some here));
      first_room = λ i count fit. rw (first_is, first_put) (g.met.A.Table.Table.with_value_room first_was k c.args.first i count (ap is_some here) fit);
      second_room = λ i count fit. rw (second_is, second_put) (g.met.B.Table.Table.with_value_room second_was k c.args.second i count (ap is_some there) fit);
      no_more_first_room = λ i count fit. g.met.A.Table.Table.with_value_no_more first_was k c.args.first i count (ap is_some here) (rw (first_is, first_put) at fit);
      no_more_second_room = λ i count fit. g.met.B.Table.Table.with_value_no_more second_was k c.args.second i count (ap is_some there) (rw (second_is, second_put) at fit);
      lacks = tt;
      returned = tt;
      unchanged = tt;
      kinds = rw (first_is, second_is) refl;
      entities = refl;
    })
