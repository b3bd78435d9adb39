use Rattle.slotmap_run.proofs.{Common.given_joined, JoinRuns.joined_if_ok, JoinedRemoved.joined_detach_removed_for_good}
use Rattle.slotmap_core.proofs.Common.{IfOk-weaker, rules}
use Rattle.slotmap_run.proofs.joined.run_joined_detaching.Goals as goal

pub returns : goal.returns
returns g c =
    let ran = joined_if_ok _ _ c.run_all.result (λ replies. replies.items) c.primary-1.given.0 c.secondary-1.given.0 c.run_all.ensures.run c.run_all.ensures.unchanged
    c.in-Ok.ensures.items (λ name. search rules) (λ name. search rules) in
    let what = given_joined g.K.Key.data_of g.L.Fn c.args.look g.M.Primary.REUSES in
    let starts = c.note_valid.ensures.starts in
    record {
      starts = starts;
      run = ran.run;
      dictionary = ran.dictionary;
      removed_for_good = IfOk-weaker c.run_all.result _ _ (λ replies run. joined_detach_removed_for_good what _ _ _ _ _ replies.items starts run) ran.run;
      err = c.run_all.ensures.err;
      unchanged = ran.unchanged;
    }
