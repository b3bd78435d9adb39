use Rattle.slotmap_scene.proofs.Visiting.{visits_are, walk_enters}
use Rattle.slotmap_scene.proofs.Scene.walk.Goals as goal

pub returns : goal.returns
returns g c =
    let scene = rw c.self.view_is at c.self.invariant in
    record { visits = λ live. (walk_enters _ scene _ live).1; none = λ gone. absurd (cc); each = visits_are _ scene }

pub returns-then-not-contains_key-clause-each : goal.returns-then-not-contains_key-clause-each
returns-then-not-contains_key-clause-each g c = visits_are _ (rw c.self.view_is at c.self.invariant)
