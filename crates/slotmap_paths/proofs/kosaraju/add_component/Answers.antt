use Rattle.std.proofs.Common.{◌∙◌, ap, sym, map as list_map}
use Rattle.std.proofs.lemmas.List.{map-append}
use Rattle.slotmap_paths.proofs.Gathered.{collecting_pushed, marked_before, marked_found}
use Rattle.slotmap_paths.proofs.kosaraju.add_component.Goals as goal

pub component-requires-clause-beside : goal.component-requires-clause-beside
component-requires-clause-beside g c = c.requires.collecting.live

pub component-requires-clause-unmarked : goal.component-requires-clause-unmarked
component-requires-clause-unmarked g c = sym c.contains_key.ensures.value ∙ c.if-contains_key.false

pub returns-clause-collecting : goal.returns-clause-collecting
returns-clause-collecting g c =
    rw (ap (list_map (λ c. list_map g.K.Key.data_of c.items)) c.in_ok-push.ensures.items ∙ map-append (λ c. list_map g.K.Key.data_of c.items) c.args.components.now.items _)
    (collecting_pushed c.args.graph.now c.args.marks.now.pairs _ c.requires.collecting (g.K.Key.data_of c.args.node) c.requires.last c.component.new.marks.pairs _ c.in_ok-found.ensures)

pub returns-clause-there : goal.returns-clause-there
returns-clause-there g c = let gathers = c.in_ok-found.ensures in
    marked_found c.args.marks.now.pairs c.component.new.marks.pairs (list_map g.K.Key.data_of c.in_ok-found.found.items) gathers.added (g.K.Key.data_of c.args.node) gathers.begun

pub returns-clause-kept : goal.returns-clause-kept
returns-clause-kept g c = λ x had. marked_before c.args.marks.now.pairs c.component.new.marks.pairs (list_map g.K.Key.data_of c.in_ok-found.found.items) c.in_ok-found.ensures.added x had
