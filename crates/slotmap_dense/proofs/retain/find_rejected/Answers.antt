use Rattle.std.proofs.Common.{◌∷◌, ◌++◌, ◌≡◌}
use Rattle.slotmap_dense.proofs.Common.{list_map, FoldsTo-push, length-map, length-set, length, refl, ◌∙◌, arith, Stays, stage, beside, shows-read, calls-read}
use Rattle.slotmap_dense.proofs.Common.{[], inl, inr, sym, ap}
use Rattle.slotmap_dense.proofs.retain.find_rejected.Goals as goal

pub loop-position-init : goal.loop-position-init
loop-position-init g c = record { visits = []; kept = refl; same_length = c.requires.same_length }

pub f-requires : goal.f-requires
f-requires g c =
    let at = c.loop-position in
    c.requires.callable.at at.invariant.visits (stage at.position at.values at.f) c.index-keys-position.result _ at.invariant.kept
    (shows-read _ _ _ _ _ _ c.loop-position-test.true at.invariant.same_length c.index-keys-position.is)

pub returns-then-not-f-clause-passes : goal.returns-then-not-f-clause-passes
returns-then-not-f-clause-passes g c =
    let at = c.loop-position in
    record {
      visits = at.invariant.visits;
      last = stage at.position at.values at.f;
      kept = at.invariant.kept;
      ends = inr (record {
        visit = _;
        calls = calls-read g.K.Key.data_of g.F.FnMut c.args.keys.now _ c.loop-position-test.true at.invariant.same_length c.index-keys-position.is refl c.f.ensures;
        leaves = c.if-not-f.true;
        here = refl;
      });
    }

pub loop-position-preserved : goal.loop-position-preserved
loop-position-preserved g c =
    let at = c.loop-position in
    record {
      visits = at.invariant.visits ++ _ ∷ [];
      kept = FoldsTo-push (Stays (beside g.K.Key.data_of (list_map g.K.Key.data_of c.args.keys.now)) g.F.FnMut) _ at.invariant.visits _ _ _ at.invariant.kept (record {
        calls = calls-read g.K.Key.data_of g.F.FnMut c.args.keys.now _ c.loop-position-test.true at.invariant.same_length c.index-keys-position.is refl c.f.ensures;
        stays = c.if-not-f.false;
        on = refl;
      });
      same_length = length-set at.values at.position c.f.new.arg3 ∙ at.invariant.same_length;
    }

pub returns-clause-passes : goal.returns-clause-passes
returns-clause-passes g c =
    let at = c.loop-position in
    let past : at.position ≡ length c.args.keys.now = omega (arith, c.loop-position-test.false, c.loop-position.auto.position-end, c.requires.from) in
    record {
      visits = at.invariant.visits;
      last = stage at.position at.values at.f;
      kept = at.invariant.kept;
      ends = inl (record { past = omega (arith, c.loop-position-test.false, length-map c.args.keys.now g.K.Key.data_of); same = ap (λ p. stage p at.values at.f) (sym past) });
    }
