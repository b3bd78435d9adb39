use Rattle.slotmap_lists.proofs.Arriving.{pushed_first}
use Rattle.slotmap_lists.proofs.StableLists.push_front.Goals as goal

pub returns-clause-first : goal.returns-clause-first
returns-clause-first g c = pushed_first g.K.Key.data_of c.args.value c.args.self.now.lists c.add.new.self.lists c.args.list c.add.result c.add.ensures.there c.add.ensures.ok
