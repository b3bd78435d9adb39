use Rattle.slotmap_list.proofs.Adding.{put_prev}
use Rattle.slotmap_list.proofs.StableList.insert_before.Goals as goal

pub returns-clause-prev : goal.returns-clause-prev
returns-clause-prev g c = put_prev g.K.Key.data_of c.args.value c.args.self.now.elements c.insert.new.self.elements c.insert.result (g.K.Key.data_of c.args.cursor)
    c.insert.ensures.stands c.insert.ensures.fresh c.insert.ensures.ok
