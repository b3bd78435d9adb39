use Rattle.std.proofs.Common.{sym}
use Rattle.slotmap.specs.Words.{IsLive}
use Rattle.slotmap.proofs.Callers.{live-remove_other}
use Rattle.entities_callers.proofs.stores.kill_and_attach.Goals as goal

pub returns : goal.returns
returns g c =
    let live : IsLive c.despawn.new.self.entities.content c.args.key =
    rw c.despawn.ensures.removed (live-remove_other c.args.world.now.entities.content.live c.args.old c.args.key (λ is. c.requires.other (sym is)) c.requires.live) in
    record {
      attached = c.attach.ensures.room live
          (g.met.C.Kind.own_room c.args.world.now.tables c.despawn.new.self.tables c.despawn.ensures.room c.args.key.index 1 c.requires.room);
    }
