use Rattle.slotmap_run.proofs.{Common.map-id, Common.IndexStaysSmall, SmallIndex.index_stays_small}
use Rattle.slotmap_core.proofs.Common.{given, DetachStep, IfOk-weaker, subst}
use Rattle.slotmap_run.proofs.RunLaws.{detach_lawful, all_anew, in_order}
use Rattle.slotmap_run.proofs.primary.run_detaching_new.Goals as goal

pub returns : goal.returns
returns g c =
    let what = given g.K.Key.data_of g.L.Fn c.args.look g.P.Fn c.args.keep g.N.Fn c.args.make g.M.Primary.REUSES in
    let ran = all_anew DetachStep (λ c. c) what (detach_lawful what) g.M.Primary.content _ c.run_all_new.result (λ made. made.1.items) _ _ (λ made. made.0) c.run_all_new.ensures.run in
    record {
      run = ran.run;
      none_retired = ran.none_retired;
      goes_on = ran.goes_on;
      laws = ran.laws;
      index_stays_small =
          IfOk-weaker c.run_all_new.result _ _ (λ made unretired few. let anew = unretired few in
          subst (λ l. IndexStaysSmall g.K.Key.data_of 0 0 0 l made.1.items) (map-id _) (index_stays_small what (λ c. c) _ _ anew.0 anew.1)) ran.none_retired;
      last_freed_first =
          IfOk-weaker c.run_all_new.result _ _ (λ made ran.
          in_order what g.M.Primary.content _ _ _ _ ran.2 _ ran.1.valid ran.1.new (ran.1.stack g.met.M.Detaching.last_freed_first)) c.run_all_new.ensures.run;
      err = c.run_all_new.ensures.err;
    }
