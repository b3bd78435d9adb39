use Rattle.slotmap_core.proofs.Common.{given, DetachStep, ap, on_err_weaker}
use Rattle.slotmap_run.proofs.RunLaws.{detach_lawful, all_ran}
use Rattle.slotmap_run.proofs.primary.run_detaching.Goals as goal

pub returns : goal.returns
returns g c =
    let what = given g.K.Key.data_of g.L.Fn c.args.look g.P.Fn c.args.keep g.N.Fn c.args.make g.M.Primary.REUSES in
    let ran = all_ran DetachStep (λ c. c) what (detach_lawful what) g.M.Primary.content _ c.run_all.result (λ replies. replies.items) _ _ c.note_valid.ensures.valid c.run_all.ensures.run in
    let same = on_err_weaker c.run_all.result (ap g.M.Primary.content) c.run_all.ensures.unchanged in
    record { starts = c.note_valid.ensures.starts; run = ran.run; goes_on = ran.goes_on; continues = ran.continues; laws = ran.laws; err = c.run_all.ensures.err; unchanged = same }
