use Rattle.slotmap_list.proofs.Adding.{pushed_behind}
use Rattle.slotmap_list.proofs.StableList.push_back.Goals as goal

pub returns-clause-last : goal.returns-clause-last
returns-clause-last g c = pushed_behind g.K.Key.data_of c.args.value c.args.self.now.elements c.put.new.self.elements c.put.result c.put.ensures.ok
