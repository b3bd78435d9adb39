use Rattle.std.proofs.Common.{ℤ}
use Rattle.slotmap_core.proofs.Common.{Key, RunGiven, given}
use Rattle.slotmap_core.specs.declared.errors.OutOfMemory.{OutOfMemory}
use Rattle.slotmap_script.proofs.ShownRuns.{IfSome-from_ok, follows_shown}
use Rattle.slotmap_script.proofs.commands.run_shown.Goals as goal

pub returns : goal.returns
returns g c =
    let what : RunGiven Key ℤ ℤ OutOfMemory = given (λ key. key) g.L.Fn c.args.look g.P.Fn c.args.keep g.N.Fn c.args.make g.M.Primary.REUSES in
    IfSome-from_ok c.run.result c.ok.result _ _ c.ok.ensures.value c.run.ensures.run
    (λ replies follows. (c.run.ensures.starts, follows_shown what c.requires.shows _ _ _ _ follows))
