use Rattle.slotmap_lists.proofs.Arriving.{pushed_last}
use Rattle.slotmap_lists.proofs.StableLists.push_back.Goals as goal

pub returns-clause-last : goal.returns-clause-last
returns-clause-last g c = pushed_last g.K.Key.data_of c.args.value c.args.self.now.lists c.add.new.self.lists c.args.list c.add.result c.add.ensures.there c.add.ensures.ok
