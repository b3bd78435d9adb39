use Rattle.slotmap_list.proofs.Adding.{put_next}
use Rattle.slotmap_list.proofs.StableList.insert_after.Goals as goal

pub returns-clause-next : goal.returns-clause-next
returns-clause-next g c = put_next g.K.Key.data_of c.args.value c.args.self.now.elements c.insert.new.self.elements c.insert.result (g.K.Key.data_of c.args.cursor)
    c.insert.ensures.stands c.insert.ensures.ok
